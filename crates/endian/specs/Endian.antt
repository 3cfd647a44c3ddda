-- Document 01: "A little-endian image", and "each a little-endian u32". A byte past the end reads as 0. Assumes nothing.
use Rattle.std.specs.Prelude.{ℕ, suc, ◌+◌, ◌*◌, ◌/◌, ◌%◌, ◌≤◌, ◌<◌, ◌≡◌, List, [], ◌∷◌, ◌++◌, length, get_or, set, take, drop}
use Rattle.std.proofs.Common.{sym, ap, ◌∙◌, arith, take-append-drop, get_or-take, get_or-drop}
use Rattle.std.proofs.Math.ListN.{get_or-eq_default}
use Rattle.std.proofs.lemmas.List.Edits.{sets-eq}
use Rattle.laws.specs.Put.{Put, put_is}

-- the byte at k
abbrev pub byte_at : List ℕ → ℕ → ℕ
byte_at s k = get_or s k 0

-- the u16 at k, low byte first
unfoldable pub u16_at : List ℕ → ℕ → ℕ
u16_at s k = byte_at s k + 256 * byte_at s (k + 1)

-- the u32 at k, low half first
unfoldable pub u32_at : List ℕ → ℕ → ℕ
u32_at s k = u16_at s k + 65536 * u16_at s (k + 2)

-- the two bytes of a u16, the lower first
abbrev pub bytes2 : ℕ → List ℕ
bytes2 v = v % 256 ∷ v / 256 ∷ []

-- the four bytes of a u32, the lowest first
abbrev pub bytes4 : ℕ → List ℕ
bytes4 v = v % 256 ∷ v / 256 % 256 ∷ v / 65536 % 256 ∷ v / 16777216 ∷ []

-- what is written reads back: the two bytes of `bytes2` as `u16_at` puts them together, and four
pub reads_back_2 : (v : ℕ) → v % 256 + 256 * (v / 256) ≡ v
reads_back_2 v = omega arith

pub reads_back : (v : ℕ) (rest : List ℕ) → u32_at (bytes4 v ++ rest) 0 ≡ v
unfolding u32_at u16_at
reads_back v rest = omega arith

-- a u16 behind the first k bytes
pub u16_drop : (s : List ℕ) (k j : ℕ) → u16_at (drop k s) j ≡ u16_at s (k + j)
unfolding u16_at
u16_drop s k j =
    let e : k + (j + 1) ≡ k + j + 1 = omega arith in
    rw (get_or-drop k s j 0, get_or-drop k s (j + 1) 0, e)

-- a byte and a u16 in a part of the bytes: the first n from place `at` on
pub byte_part : (s : List ℕ) (at n k : ℕ) → k < n → byte_at (take n (drop at s)) k ≡ byte_at s (at + k)
byte_part s at n k l = get_or-take n (drop at s) k 0 l ∙ get_or-drop at s k 0

pub u16_part : (s : List ℕ) (at n k : ℕ) → k + 1 < n → u16_at (take n (drop at s)) k ≡ u16_at s (at + k)
unfolding u16_at
u16_part s at n k l =
    let e : at + (k + 1) ≡ at + k + 1 = omega arith in
    rw (byte_part s at n k (omega arith), byte_part s at n (k + 1) l, e)

-- a number is read from its four bytes
pub u32_at_lem : (s : List ℕ) (k v : ℕ) → take 4 (drop k s) ≡ bytes4 v → u32_at s k ≡ v
unfolding u32_at
u32_at_lem s k v e =
    let here : drop k s ≡ bytes4 v ++ drop 4 (drop k s) = sym (take-append-drop 4 (drop k s)) ∙ ap (λ (l : List ℕ). l ++ drop 4 (drop k s)) e in
    let zero_in : k + 0 ≡ k = omega arith in
    let low : u16_at (drop k s) 0 ≡ u16_at s k = u16_drop s k 0 ∙ ap (u16_at s) zero_in in
    rw (← low, ← u16_drop s k 2, here) (reads_back v (drop 4 (drop k s)))

-- four bytes stored one after the other
pub stored : (out : List ℕ) (at v : ℕ) → at + 4 ≤ length out
    → Put at (bytes4 v) out (set (set (set (set out at (v % 256)) (at + 1) (v / 256 % 256)) (at + 2) (v / 65536 % 256)) (at + 3) (v / 16777216)) (at + 4)
stored out at v h =
    let e1 : at + 1 ≡ suc at = omega arith in
    let e2 : at + 2 ≡ suc (suc at) = omega arith in
    let e3 : at + 3 ≡ suc (suc (suc at)) = omega arith in
    put_is at (bytes4 v) out h (rw (e1, e2, e3) (sets-eq (bytes4 v) out at h))

-- past the end all read as 0
pub past_byte : (s : List ℕ) (k : ℕ) → length s ≤ k → byte_at s k ≡ 0
past_byte s k h = get_or-eq_default s 0 h

-- where the high byte is past the end the low byte is all
pub low_u16 : (s : List ℕ) (k : ℕ) → length s ≤ k + 1 → u16_at s k ≡ byte_at s k
unfolding u16_at
low_u16 s k h = omega (arith, past_byte s (k + 1) h)

pub past_u16 : (s : List ℕ) (k : ℕ) → length s ≤ k → u16_at s k ≡ 0
unfolding u16_at
past_u16 s k h = omega (arith, past_byte s k h, past_byte s (k + 1) (omega arith))

pub past_u32 : (s : List ℕ) (k : ℕ) → length s ≤ k → u32_at s k ≡ 0
unfolding u32_at
past_u32 s k h = omega (arith, past_u16 s k h, past_u16 s (k + 2) (omega arith))

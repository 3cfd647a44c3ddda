-- The block, by the steps that build it. Assumes nothing.
use Rattle.std.specs.Prelude.{ℕ, ◌+◌, ◌-◌, ◌/◌, ◌%◌, ◌^◌, ◌≤◌, ◌≡◌, List, [], ◌++◌, length, take, drop}
use Rattle.std.proofs.Common.{sym, ap, ◌∙◌, append_assoc, append-nil, arith, length-append, drop_of_length-le, take_at, drop_at, drop-drop}
use Rattle.std.proofs.lemmas.List.{length-replicate, replicate-append-replicate}
use Rattle.std.proofs.Math.Seq.{take-length}
use Rattle.laws.specs.Put.{Put, then}
use Rattle.endian.specs.Endian.{bytes4}
use Rattle.engine.specs.Engine.{zeros, mek_bytes, metd_bytes, engine_block}

split : (n m : ℕ) → zeros (n + m) ≡ zeros n ++ zeros m
split n m = sym (replicate-append-replicate n m 0)

-- the key in an array of zeros: the MEK, and zeros to the end
mek_in : (mek : List ℕ) → length mek ≤ 64 → take (length mek) mek ++ drop (length mek) (zeros 128) ≡ mek_bytes mek ++ zeros 64
mek_in mek h =
    let n = length mek in
    let whole : zeros 128 ≡ zeros n ++ (zeros (64 - n) ++ zeros 64) =
    let e : 128 ≡ n + (64 - n + 64) = omega arith in ap zeros e ∙ split n (64 - n + 64) ∙ ap (λ (l : List ℕ). zeros n ++ l) (split (64 - n) 64) in
    let rest : drop n (zeros 128) ≡ zeros (64 - n) ++ zeros 64 = ap (drop n) whole ∙ drop_at (zeros n) (zeros (64 - n) ++ zeros 64) n (length-replicate n 0) in
    rw (take-length mek, rest) (sym (append_assoc mek (zeros (64 - n)) (zeros 64)))

mek_long : (mek : List ℕ) → length mek ≤ 64 → length (mek_bytes mek) ≡ 64
mek_long mek h = simp (length-append, length-replicate) (omega arith)

-- the key copied into zeros, the tag's halves after it, all of it copied to the block
pub block_is : (mek : List ℕ) (tag : ℕ) (block : List ℕ) {one two built after : List ℕ} {at next : ℕ} → length mek ≤ 64
    → one ≡ take (length mek) mek ++ drop (length mek) (zeros 128)
    → Put 64 (bytes4 (tag % 2 ^ 32)) one two at → Put at (bytes4 (tag / 2 ^ 32)) two built next
    → length block ≡ 128 → after ≡ take (length built) built ++ drop (length built) block
    → after ≡ engine_block mek tag
block_is mek tag block {one} {two} {built} h copied low high l e =
    let both = then low high in
    let is_one : one ≡ mek_bytes mek ++ zeros 64 = copied ∙ mek_in mek h in
    let front : take 64 one ≡ mek_bytes mek = rw is_one (take_at (mek_bytes mek) (zeros 64) 64 (mek_long mek h)) in
    let half : drop 64 one ≡ zeros 64 = rw is_one (drop_at (mek_bytes mek) (zeros 64) 64 (mek_long mek h)) in
    let back : drop 72 one ≡ zeros 56 = sym (drop-drop 8 64 one) ∙ ap (drop 8) half in
    let long : length one ≡ 128 = ap length is_one ∙ omega (arith, length-append (mek_bytes mek) (zeros 64), mek_long mek h) in
    let all : drop (length built) block ≡ [] = drop_of_length-le block {i = length built} (omega (arith, both.same)) in
    e ∙ rw (all, append-nil, take-length built) (both.bytes ∙ rw (front, back) (sym (append_assoc (mek_bytes mek) (metd_bytes tag) (zeros 32))))

-- "reading that image gives the same fields": what the map's own definitions read in the image of a plan, and what breaks a rule of it.
-- Assumes nothing.
use Rattle.std.specs.Prelude.{ℕ, zero, suc, ◌+◌, ◌*◌, ◌≤◌, ◌<◌, ◌≡◌, refl, false, get_or, drop}
use Rattle.std.proofs.Math.Path.{sym, ap, subst}
use Rattle.std.proofs.Common.{◌∙◌, arith, not-suc-le-zero, le_of_suc-le-suc, get_or-drop, drop-drop}
use Rattle.std.proofs.Math.Bool.{false≢true}
use mathlib.Core.List.{List, [], ◌∷◌, ◌++◌, flat_map}
use Rattle.std.proofs.Math.ListN.{length}
use borrow.Author.Tests.{le-ltb}
use Rattle.laws.specs.Tests.{not_yes}
use Rattle.laws.specs.Below.{all_below}
use Rattle.laws.proofs.Below.{fails_at}
use Rattle.endian.specs.Endian.{u16_at, reads_back_2, u16_drop}
use Rattle.map.specs.Map.{header_of, entry_place, entry_at, entry_of, map_good}
use Rattle.map.proofs.Laws.{map_header, map_entry}
use Rattle.map.specs.declared.Header.{Header}
use Rattle.map.specs.declared.Entry.{Entry}
use Rattle.plan.specs.Form.{Plan, entry_in}
use Rattle.plan.proofs.Laws.{flat_length}
use Rattle.plan.specs.Writing.{entry_bytes, image_of, room_for}
use Rattle.plan.specs.Images.{fits_at}

-- the entry that starts a list of bytes
entry_read : (x : Entry) (rest : List ℕ) → entry_at (entry_bytes x ++ rest) 0 ≡ x
unfolding u16_at
entry_read x rest = rw (reads_back_2 x.first, reads_back_2 x.n)

entry_drop : (s : List ℕ) (k : ℕ) → entry_at (drop k s) 0 ≡ entry_at s k
entry_drop s k =
    let e : k + 0 ≡ k = omega arith in
    rw (u16_drop s k 0, u16_drop s k 2, get_or-drop k s 4 0, get_or-drop k s 5 0, e)

-- the bytes of entry i
bytes_at : (xs : List Entry) (i : ℕ) (none : Entry) → i < length xs
    → drop (8 * i) (flat_map entry_bytes xs) ≡ entry_bytes (get_or xs i none) ++ flat_map entry_bytes (drop (suc i) xs)
unfolding flat_map
bytes_at [] i none l = absurd (not-suc-le-zero l)
bytes_at (x ∷ xs) zero none l = refl
bytes_at (x ∷ xs) (suc i) none l =
    let e : 8 * suc i ≡ suc (suc (suc (suc (suc (suc (suc (suc (8 * i)))))))) = omega arith in
    rw e (bytes_at xs i none (le_of_suc-le-suc l))

module _ (p : Plan) where
  pub image_length : length (image_of p) ≡ room_for p
  unfolding image_of
  image_length = omega (arith, flat_length entry_bytes 8 (λ x. refl) p.entries)

  -- P, C and B, with E = 8
  pub image_header : header_of (image_of p) ≡ record { partitions = length p.entries; cells = p.cells; bound = p.bound; offset = 8 }
  unfolding image_of u16_at
  image_header = rw (reads_back_2 (length p.entries), reads_back_2 p.cells, reads_back_2 p.bound)

  place_is : (i : ℕ) → entry_place (image_of p) i ≡ 8 + 8 * i
  place_is i = ap (λ (h : Header). h.offset + 8 * i) image_header

  bytes_from : (i : ℕ) → i < length p.entries → (rest : List ℕ) × (drop (8 + 8 * i) (image_of p) ≡ entry_bytes (entry_in p i) ++ rest)
  unfolding image_of
  bytes_from i l = (_, sym (drop-drop (8 * i) 8 (image_of p)) ∙ bytes_at p.entries i _ l)

  pub image_entry : (i : ℕ) → i < length p.entries → entry_of (image_of p) i ≡ entry_in p i
  image_entry i l =
      let from = bytes_from i l in
      ap (entry_at (image_of p)) (place_is i) ∙ sym (entry_drop (image_of p) (8 + 8 * i)) ∙ rw from.1 (entry_read (entry_in p i) from.0)

  -- its last two bytes
  pub image_spare : (i : ℕ) → i < length p.entries → u16_at (image_of p) (entry_place (image_of p) i + 6) ≡ 0
  unfolding u16_at
  image_spare i l =
      let from = bytes_from i l in
      rw (place_is i, ← u16_drop (image_of p) (8 + 8 * i) 6, from.1)

  -- ---- what breaks a rule

  pub too_many : 16 < length p.entries → map_good (image_of p) ≡ false
  too_many l =
      not_yes (map_good (image_of p)) (λ g.
      let most = (map_header (image_of p) g).partitions_most in
      let is : (header_of (image_of p)).partitions ≡ length p.entries = ap (λ (h : Header). h.partitions) image_header in
      omega (arith, is, most))

  -- a kind or flags that does not fit its byte
  pub too_large : all_below (fits_at p) (length p.entries) ≡ false → map_good (image_of p) ≡ false
  unfolding fits_at
  too_large e =
      not_yes (map_good (image_of p)) (λ g.
      let found = fails_at (fits_at p) (length p.entries) e in
      let is = image_entry found.0 found.1 in
      let count : (header_of (image_of p)).partitions ≡ length p.entries = ap (λ (h : Header). h.partitions) image_header in
      let rules = map_entry (image_of p) g found.0 (rw count found.1) in
      let kind : (entry_in p found.0).kind ≤ 2 = subst (λ (x : Entry). x.kind ≤ 2) is rules.kind_known in
      let flags : (entry_in p found.0).flags ≤ 15 = subst (λ (x : Entry). x.flags ≤ 15) is rules.flags_known in
      false≢true (sym found.2 ∙ rw (le-ltb 255 (entry_in p found.0).kind (omega arith), le-ltb 255 (entry_in p found.0).flags (omega arith))))

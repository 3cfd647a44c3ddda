-- Request P7, of maps: what two images have in common that differ in flag 8 alone, and that the flag is refused "exactly on a partition
-- that is not zeroizable" (`eight_exactly`). Assumes nothing.
-- The definitions stand in specs/Guides.antt.
use Rattle.std.specs.Prelude.{ℕ, ◌+◌, ◌-◌, ◌*◌, ◌/◌, ◌%◌, ◌≤◌, ◌<◌, ◌≡◌, Bool, false, not, ◌||◌, List, eqb}
use Rattle.std.proofs.Math.Path.{sym, ap}
use Rattle.std.proofs.Common.{subst, ◌∙◌, ⊎_elim, arith}
use Rattle.std.proofs.Math.Bool.{true}
use Rattle.std.proofs.lemmas.Bool.{false≢true}
use borrow.Author.Tests.{le-leb, not-false}
use Rattle.laws.specs.Tests.{not_yes, implied, neither, lt_or_le}
use Rattle.laws.specs.Below.{all_below}
use Rattle.laws.proofs.Below.{all_at, all_holds, fails_at}
use Rattle.endian.specs.Endian.{byte_at, u16_at}
use Rattle.map.specs.declared.Header.{Header}
use Rattle.map.specs.declared.Entry.{Entry}
use Rattle.map.specs.Map.{header_of, entry_place, entry_at, entry_of, zeroizable, secret, slot, older_guide}
use Rattle.map.specs.Map.{filler_good, entry_good, end_before, place_good, map_good}
use Rattle.map.proofs.Laws.{good_so_far, map_parts, map_fillers, map_header, map_entry}
use Rattle.map.specs.Guides.{without8, flags_place, Differ8, SameBut8, Misplaced8}

-- flag 8 stands right, by its rule
abbrev right8 : Entry → Bool
right8 x = not (older_guide x) || zeroizable x

-- ---- what two such entries have in common

-- each other bit of the flags is there without flag 8
bit_1 : (f : ℕ) → without8 f % 2 ≡ f % 2
bit_1 f = omega arith

bit_2 : (f : ℕ) → without8 f / 2 % 2 ≡ f / 2 % 2
bit_2 f = omega arith

bit_4 : (f : ℕ) → without8 f / 4 % 2 ≡ f / 4 % 2
bit_4 f = omega arith

higher : (f : ℕ) → without8 f / 16 ≡ f / 16
higher f = omega arith

module _ {x y : Entry} (s : SameBut8 x y) where
  same_by : (part : ℕ → ℕ) → ((f : ℕ) → part (without8 f) ≡ part f) → part y.flags ≡ part x.flags
  same_by part e = sym (e y.flags) ∙ ap part s.flags ∙ e x.flags

  pub same_zeroizable : zeroizable y ≡ zeroizable x
  same_zeroizable = ap (λ (b : ℕ). eqb b 1) (same_by (λ f. f % 2) bit_1)

  pub same_secret : secret y ≡ secret x
  same_secret = ap (λ (b : ℕ). eqb b 1) (same_by (λ f. f / 2 % 2) bit_2)

  pub same_slot : slot y ≡ slot x
  same_slot = ap (λ (b : ℕ). eqb b 1) (same_by (λ f. f / 4 % 2) bit_4)

  -- the other keeps the rules where this one does and flag 8 stands right
  entry_same : (before cells spare : ℕ) → x.flags ≤ 15 → right8 y ≡ right8 x
      → entry_good before cells y spare ≡ entry_good before cells x spare
  unfolding entry_good
  entry_same before cells spare low e =
      let high : y.flags / 16 ≡ x.flags / 16 = same_by (λ f. f / 16) higher in
      let a : y.flags ≤ 15 = omega (arith, high) in
      rw (e, s.first, s.n, s.kind, same_zeroizable, same_secret, same_slot, le-leb y.flags 15 a, le-leb x.flags 15 low)

-- ---- what two such images have in common

module _ (image other : List ℕ) (d : Differ8 image other) (low : 8 ≤ (header_of image).offset) where
  -- a byte before the entries, and one of an entry besides its flags
  head_byte : (k : ℕ) → k < (header_of image).offset → byte_at other k ≡ byte_at image k
  head_byte k l = d.others k (λ i _ e. omega arith)

  entry_byte : (i k : ℕ) → entry_place image i ≤ k → k < entry_place image i + 8 → (k ≡ flags_place image i → ⊥) → byte_at other k ≡ byte_at image k
  entry_byte i k l m o = d.others k (λ j _ e. o (omega arith))

  pub same_header : header_of other ≡ header_of image
  unfolding u16_at
  same_header =
      let a = head_byte 0 (omega arith) in
      let b = head_byte 1 (omega arith) in
      let c = head_byte 2 (omega arith) in
      let e = head_byte 3 (omega arith) in
      let f = head_byte 4 (omega arith) in
      let g = head_byte 5 (omega arith) in
      let h = head_byte 6 (omega arith) in
      let i = head_byte 7 (omega arith) in
      cc

  place_same : (i : ℕ) → entry_place other i ≡ entry_place image i
  place_same i = ap (λ (h : Header). h.offset + 8 * i) same_header

  entry_u16 : (i k : ℕ) → k < 7 → (k ≡ 4 → ⊥) → (k ≡ 5 → ⊥) → u16_at other (entry_place image i + k) ≡ u16_at image (entry_place image i + k)
  unfolding u16_at
  entry_u16 i k l o p =
      rw (entry_byte i (entry_place image i + k) (omega arith) (omega arith) (λ e. p (omega arith)))
      (rw (entry_byte i (entry_place image i + k + 1) (omega arith) (omega arith) (λ e. o (omega arith))))

  -- an entry's flags; past the last entry there are none
  flags_same : (i : ℕ) → without8 (byte_at other (flags_place image i)) ≡ without8 (byte_at image (flags_place image i))
  flags_same i =
      ⊎_elim
      (λ (l : i < (header_of image).partitions). d.flags i l)
      (λ (l : (header_of image).partitions ≤ i). ap without8 (d.others (flags_place image i) (λ j m e. omega arith)))
      (lt_or_le i (header_of image).partitions)

  pub same_entry : (i : ℕ) → SameBut8 (entry_of image i) (entry_of other i)
  same_entry i =
      let at : entry_place image i + 0 ≡ entry_place image i = omega arith in
      subst (λ (k : ℕ). SameBut8 (entry_of image i) (entry_at other k)) (sym (place_same i)) (record {
        first = rw at at (entry_u16 i 0 (omega arith) (λ e. omega arith) (λ e. omega arith));
        n = entry_u16 i 2 (omega arith) (λ e. omega arith) (λ e. omega arith);
        kind = entry_byte i (entry_place image i + 4) (omega arith) (omega arith) (λ e. omega arith);
        flags = flags_same i;
      })

  spare_same : (i : ℕ) → u16_at other (entry_place other i + 6) ≡ u16_at image (entry_place image i + 6)
  spare_same i = ap (λ (k : ℕ). u16_at other (k + 6)) (place_same i) ∙ entry_u16 i 6 (omega arith) (λ e. omega arith) (λ e. omega arith)

  before_same : (i : ℕ) → end_before other i ≡ end_before image i
  before_same i = let e = same_entry (i - 1) in rw (e.first, e.n)

  filler_same : (k : ℕ) → k < (header_of image).offset → filler_good other k ≡ filler_good image k
  unfolding filler_good
  filler_same k l = rw (head_byte k l)

  place_good_lem : (i : ℕ) → (entry_of image i).flags ≤ 15
      → right8 (entry_of other i) ≡ right8 (entry_of image i)
      → place_good other i ≡ place_good image i
  unfolding place_good
  place_good_lem i small e =
      rw (before_same i, spare_same i, ap (λ (h : Header). h.cells) same_header)
      (entry_same (same_entry i) (end_before image i) (header_of image).cells (u16_at image (entry_place image i + 6)) small e)

-- ---- flag 8 is refused exactly on a partition that is not zeroizable

module _ (image other : List ℕ) (d : Differ8 image other) (good : map_good image ≡ true) where
  low : 8 ≤ (header_of image).offset
  low = (map_header image good).offset_least

  by_places : map_good other ≡ all_below (place_good other) (header_of image).partitions
  by_places =
      let h = same_header image other d low in
      good_so_far other (header_of image) (sym h) (rw d.as_long (map_parts image good).0)
      (all_holds (filler_good other) (header_of image).offset (λ k l. filler_same image other d low k l ∙ all_at (filler_good image) _ (map_fillers image good) k l))

  -- an entry of the other map whose flag 8 stands right keeps its rules
  kept : (i : ℕ) → i < (header_of image).partitions → right8 (entry_of other i) ≡ true → place_good other i ≡ true
  unfolding place_good
  kept i l e =
      let r = map_entry image good i l in
      let right : right8 (entry_of image i) ≡ true = implied _ _ r.older_zeroizable in
      place_good_lem image other d low i r.flags_known (e ∙ sym right) ∙ all_at (place_good image) _ (map_parts image good).1 i l

  pub eight_exactly : (map_good other ≡ false → Misplaced8 other) × (Misplaced8 other → map_good other ≡ false)
  eight_exactly = (found, refused)
    where
      refused : Misplaced8 other → map_good other ≡ false
      refused m =
          not_yes (map_good other) (λ g. false≢true (sym m.not_zeroizable ∙ (map_entry other g m.partition m.within).older_zeroizable m.older))

      found : map_good other ≡ false → Misplaced8 other
      found e =
          let at = fails_at (place_good other) (header_of image).partitions (sym by_places ∙ e) in
          let y = entry_of other at.0 in
          let wrong : right8 y ≡ false = not_yes _ (λ t. false≢true (sym at.2 ∙ kept at.0 at.1 t)) in
          let both = neither (not (older_guide y)) (zeroizable y) wrong in
          let as_many = ap (λ (h : Header). h.partitions) (same_header image other d low) in
          record { partition = at.0; within = omega (arith, at.1, as_many); older = not-false _ both.0; not_zeroizable = both.1 }

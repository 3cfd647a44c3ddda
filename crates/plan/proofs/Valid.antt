-- "some valid map has those fields": where one has, whatever its E, the image with E = 8 is one. Assumes nothing.
-- The definitions stand in specs/Valid.antt.
use Rattle.std.specs.Prelude.{ℕ, zero, suc, ◌+◌, ◌<◌, ◌≡◌, true, length, get_or}
use Rattle.std.proofs.Math.Path.{refl, sym, ap}
use Rattle.std.proofs.Common.{subst, ◌∙◌, add-one, eqb-true}
use mathlib.Core.List.{List, [], ◌∷◌, ◌++◌, flat_map}
use native.Mathlib.Omega.{arith}
use Rattle.laws.specs.Tests.{every_at}
use Rattle.laws.specs.Below.{all_below}
use Rattle.laws.proofs.Below.{all_at, all_holds}
use Rattle.endian.specs.Endian.{byte_at, u16_at}
use Rattle.map.specs.Map.{header_of, entry_place, entry_of, end_of, end_before, filler_good, entry_good, place_good, map_good}
use Rattle.map.proofs.Laws.{end_next, good_so_far, map_parts, rules_header, map_header, map_entry}
use Rattle.map.specs.Laws.{HeaderRules, EntryRules}
use Rattle.map.specs.declared.Header.{Header}
use Rattle.map.specs.declared.Entry.{Entry}
use Rattle.plan.specs.Form.{Plan, entry_in}
use Rattle.plan.specs.Writing.{entry_bytes, image_of}
use Rattle.plan.proofs.Fields.{image_length, image_header, image_entry, image_spare}
use Rattle.plan.specs.Valid.{Reads, Valid}

-- ---- the image with E = 8 reads as the plan

pub image_reads : (p : Plan) → Reads (image_of p) p
image_reads p = record {
  partitions = ap (λ (h : Header). h.partitions) (image_header p);
  cells = ap (λ (h : Header). h.cells) (image_header p);
  bound = ap (λ (h : Header). h.bound) (image_header p);
  entry = image_entry p;
}

-- ---- and breaks no rule where another image with those fields breaks none

-- the two zero bytes
spare_zero : (before cells : ℕ) (x : Entry) (spare : ℕ) → entry_good before cells x spare ≡ true → spare ≡ 0
unfolding entry_good
spare_zero before cells x spare g = eqb-true _ _ (every_at _ g 2)

module _ (s : List ℕ) (p : Plan) (g : map_good s ≡ true) (r : Reads s p) where
  same_entry : (i : ℕ) → i < length p.entries → entry_of (image_of p) i ≡ entry_of s i
  same_entry i l = image_entry p i l ∙ sym (r.entry i l)

  same_before : (i : ℕ) → i < length p.entries → end_before (image_of p) i ≡ end_before s i
  same_before zero l = refl
  same_before (suc i) l =
      rw (← add-one i) (end_next (image_of p) i ∙ ap end_of (same_entry i (omega arith)) ∙ sym (end_next s i))

  same_cells : (header_of (image_of p)).cells ≡ (header_of s).cells
  same_cells = (image_reads p).cells ∙ sym r.cells

  same_place : (i : ℕ) → i < length p.entries → place_good (image_of p) i ≡ true
  unfolding place_good
  same_place i l =
      let there = all_at (place_good s) (header_of s).partitions (map_parts s g).1 i (rw r.partitions l) in
      let none = image_spare p i l ∙ sym (spare_zero (end_before s i) (header_of s).cells (entry_of s i) (u16_at s (entry_place s i + 6)) there) in
      ap (λ (b : ℕ). entry_good b (header_of (image_of p)).cells (entry_of (image_of p) i) (u16_at (image_of p) (entry_place (image_of p) i + 6))) (same_before i l)
      ∙ ap (λ (c : ℕ). entry_good (end_before s i) c (entry_of (image_of p) i) (u16_at (image_of p) (entry_place (image_of p) i + 6))) same_cells
      ∙ ap (λ (x : Entry). entry_good (end_before s i) (header_of s).cells x (u16_at (image_of p) (entry_place (image_of p) i + 6))) (same_entry i l)
      ∙ ap (λ (z : ℕ). entry_good (end_before s i) (header_of s).cells (entry_of s i) z) none ∙ there

  -- its header is the same but for E
  abbrev header : Header
  header = record { partitions = length p.entries; cells = p.cells; bound = p.bound; offset = 8 }

  header_kept : HeaderRules header (length (image_of p))
  header_kept =
      let h = map_header s g in
      record {
        partitions_least = omega (arith, h.partitions_least, r.partitions);
        partitions_most = omega (arith, h.partitions_most, r.partitions);
        cells_least = omega (arith, h.cells_least, r.cells);
        cells_most = omega (arith, h.cells_most, r.cells);
        bound_least = omega (arith, h.bound_least, r.bound);
        bound_most = omega (arith, h.bound_most, r.bound);
        offset_least = omega arith;
        offset_most = omega arith;
        long = image_length p;
      }

  -- and nothing lies between it and the entries
  no_filler : all_below (filler_good (image_of p)) 8 ≡ true
  unfolding all_below filler_good
  no_filler = refl

  pub also_good : map_good (image_of p) ≡ true
  also_good =
      good_so_far (image_of p) header (sym (image_header p)) (rules_header header (length (image_of p)) header_kept) no_filler
      ∙ all_holds (place_good (image_of p)) (length p.entries) same_place

-- ---- and is made of bytes

abbrev Bytes : List ℕ → Type 0
Bytes [] = Unit {0}
Bytes (b ∷ bs) = (b < 256) × Bytes bs

bytes_append : (s t : List ℕ) → Bytes s → Bytes t → Bytes (s ++ t)
bytes_append [] t a b = b
bytes_append (x ∷ s) t a b = (a.0, bytes_append s t a.1 b)

byte_of : (s : List ℕ) → Bytes s → (k : ℕ) → byte_at s k < 256
byte_of [] b k = omega arith
byte_of (x ∷ s) b zero = b.0
byte_of (x ∷ s) b (suc k) = byte_of s b.1 k

entries_bytes : (xs : List Entry) (none : Entry) → ((i : ℕ) → i < length xs → Bytes (entry_bytes (get_or xs i none))) → Bytes (flat_map entry_bytes xs)
unfolding flat_map
entries_bytes [] none h = tt
entries_bytes (x ∷ xs) none h =
    bytes_append (entry_bytes x) (flat_map entry_bytes xs) (h 0 (omega arith)) (entries_bytes xs none (λ i l. h (suc i) (omega arith)))

module _ (p : Plan) (g : map_good (image_of p) ≡ true) where
  rules : (i : ℕ) → i < length p.entries → EntryRules (end_before (image_of p) i) (header_of (image_of p)).cells (entry_in p i)
  rules i l =
      subst (λ (x : Entry). EntryRules (end_before (image_of p) i) (header_of (image_of p)).cells x) (image_entry p i l)
      (map_entry (image_of p) g i (rw (image_reads p).partitions l))

  entry_bytes_lem : (i : ℕ) → i < length p.entries → Bytes (entry_bytes (entry_in p i))
  entry_bytes_lem i l =
      let r = rules i l in
      let end = r.within in
      let most = (map_header (image_of p) g).cells_most in (
        omega arith,
        (
          omega arith,
          (
            omega arith,
            (
              omega arith,
              (
                omega (arith, r.kind_known),
                (omega (arith, r.flags_known), (omega arith, (omega arith, tt))),
              ),
            ),
          ),
        ),
      )

  image_bytes : Bytes (image_of p)
  unfolding image_of
  image_bytes =
      let h = map_header (image_of p) g in
      let count = (image_reads p).partitions in
      let cells = (image_reads p).cells in
      let bound = (image_reads p).bound in (
        omega arith,
        (
          omega (arith, h.partitions_most),
          (
            omega arith,
            (
              omega (arith, h.cells_most),
              (
                omega arith,
                (
                  omega (arith, h.bound_most),
                  (
                    omega arith,
                    (
                      omega arith,
                      entries_bytes p.entries _ entry_bytes_lem,
                    ),
                  ),
                ),
              ),
            ),
          ),
        ),
      )

  pub good_valid : Valid (image_of p) p
  good_valid = record { bytes = byte_of (image_of p) image_bytes; good = g; reads = image_reads p }

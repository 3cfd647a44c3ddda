-- The report's laws: the last line, which refusal is given, the cells as they are read, the table, and what an accepted input tells.
-- Assumes nothing.
-- The definitions stand in specs/Laws.antt.
use Rattle.std.specs.Prelude.{ℕ, zero, suc, ◌+◌, ◌*◌, ◌≤◌, ◌<◌, ◌≡◌, refl, true, List, ◌++◌, length, drop, set, Result, Ok, Err}
use Rattle.std.proofs.Common.{sym, ap, ◌∙◌, arith, zero-add, ltb-false, eqb-true}
use Rattle.std.proofs.lemmas.Bool.{not-false}
use Rattle.laws.specs.Below.{join_below}
use Rattle.laws.proofs.Below.{store_next}
use Rattle.laws.specs.Put.{Put}
use Rattle.refusal.specs.declared.Refusal.{Refusal}
use Rattle.refusal.specs.Refusals.{test_at, refusal_at, Past, refused_at, past_all, first_elim, GivenFirst, given_first}
use Rattle.endian.specs.Endian.{u32_at, u16_drop}
use Rattle.map.specs.declared.Header.{Header}
use Rattle.map.specs.declared.Entry.{Entry}
use Rattle.map.specs.Map.{header_of, entry_of, map_good}
use Rattle.map.proofs.Laws.{map_header, map_entry}
use Rattle.partition.specs.declared.Survey.{Survey}
use Rattle.partition.specs.declared.State.TheVariants.{Programmed}
use Rattle.drive.specs.declared.ActiveSlot.{ActiveSlot}
use Rattle.drive.specs.declared.ActiveSlot.TheVariants.{Programmed as ProgrammedSlot, Blank as BlankSlot, Torn as TornSlot, Absent}
use Rattle.drive.specs.Active.{available_tells, active_is}
use Rattle.drive.specs.Laws.{short_most}
use Rattle.drive.specs.Drive.{survey_at, active_slot}
use Rattle.text.specs.Text.{text, decimal}
use Rattle.report.specs.Status.{map_length, image_of, cell_count, number_at, input_tests, parts_of, reading_of}
use Rattle.report.specs.Status.{line_of, hek_line, line_at, table_of, SmallLine, SmallSlot}
use Rattle.report.specs.declared.View.{View}
use Rattle.report.specs.Report.{output_of, drive_report, Printed}
use Rattle.report.specs.Laws.{Accepted}

-- ---- the last line

pub hek_none : (slot : ActiveSlot) → ((i : ℕ) → slot ≡ ProgrammedSlot i → ⊥) → hek_line slot ≡ text "hek none\n"
unfolding hek_line
hek_none (ProgrammedSlot i) k = absurd (k i refl)
hek_none (BlankSlot i) k = refl
hek_none (TornSlot i) k = refl
hek_none Absent k = refl

pub hek_some : {slot : ActiveSlot} {i : ℕ} → slot ≡ ProgrammedSlot i → hek_line slot ≡ text "hek " ++ decimal i ++ text "\n"
unfolding hek_line
hek_some e = rw e

-- ---- the refusals

module _ (input : List ℕ) where
  -- "in this order": the first that applies is given, and none is given otherwise
  pub input_first : GivenFirst Err (input_tests input) (Ok (parts_of input)) (reading_of input)
  unfolding reading_of
  input_first = given_first Err (Ok (parts_of input)) (input_tests input)

  -- which of the tests gives the refusal, by the test's place, and that none does
  pub input_at : (k : ℕ) → Past k (input_tests input) → test_at (input_tests input) k ≡ true → Err (refusal_at (input_tests input) k) ≡ reading_of input
  unfolding reading_of
  input_at k = refused_at Err (Ok (parts_of input)) k (input_tests input)

  pub input_past : Past 5 (input_tests input) → Ok (parts_of input) ≡ reading_of input
  unfolding reading_of
  input_past = past_all Err (Ok (parts_of input)) (input_tests input)

-- ---- the cells, one number stored after the other

pub stored : (input : List ℕ) (from k v : ℕ) (start cells : List ℕ) → k < length start → v ≡ u32_at input (from + 4 * k)
    → cells ≡ join_below (number_at input from) k ++ drop k start
    → set cells k v ≡ join_below (number_at input from) (k + 1) ++ drop (k + 1) start
unfolding number_at
stored input from k v start cells l e c = store_next (λ i. u32_at input (from + 4 * i)) k v start cells l e c

-- the numbers behind the first bytes
u32_drop : (s : List ℕ) (k j : ℕ) → u32_at (drop k s) j ≡ u32_at s (k + j)
unfolding u32_at
u32_drop s k j =
    let e : k + (j + 2) ≡ k + j + 2 = omega arith in
    rw (u16_drop s k j, u16_drop s k (j + 2), e)

number_drop : (s : List ℕ) (from k : ℕ) → number_at (drop from s) 0 k ≡ number_at s from k
unfolding number_at
number_drop s from k =
    let e : from + (0 + 4 * k) ≡ from + 4 * k = omega arith in
    rw (u32_drop s from (0 + 4 * k), e)

numbers_drop : (s : List ℕ) (from n : ℕ) → join_below (number_at (drop from s) 0) n ≡ join_below (number_at s from) n
unfolding join_below
numbers_drop s from zero = refl
numbers_drop s from (suc n) = rw (numbers_drop s from n, number_drop s from n)

-- ---- the table

pub line_is : (image cells : List ℕ) (i : ℕ) (x : Entry) (survey : Survey) → x ≡ entry_of image i → survey ≡ survey_at image cells i
    → line_of i x.n survey ≡ line_at image cells i
unfolding line_at
line_is image cells i x survey e q = rw (e, q)

pub table_is : (image cells : List ℕ) (p : ℕ) (slot : ActiveSlot) → p ≡ (header_of image).partitions → slot ≡ active_slot image cells
    → text "part cells state short\n" ++ join_below (line_at image cells) p ++ hek_line slot ≡ table_of image cells
unfolding table_of
table_is image cells p slot e q = rw (e, q)

-- ---- what an accepted input tells

pub accepted : (input : List ℕ) (parts : List ℕ × List ℕ) → reading_of input ≡ Ok parts → Accepted input
unfolding reading_of
accepted input parts =
    first_elim (λ (r : Result (List ℕ × List ℕ) Refusal). r ≡ Ok parts → Accepted input) Err (input_tests input) (Ok (parts_of input))
    (λ n a e. absurd (cc))
    (λ none e. record {
      two = ltb-false _ _ (none 0);
      most = ltb-false _ _ (none 1);
      whole = ltb-false _ _ (none 2);
      good = not-false _ (none 3);
      long = eqb-true _ _ (not-false _ (none 4));
    })

-- it was taken apart as it is defined
pub parts_are : (input image arrays : List ℕ) → Ok (image, arrays) ≡ reading_of input → (image ≡ image_of input) × (arrays ≡ drop (2 + map_length input) input)
unfolding reading_of
parts_are input image arrays =
    first_elim (λ (r : Result (List ℕ × List ℕ) Refusal). Ok (image, arrays) ≡ r → (image ≡ image_of input) × (arrays ≡ drop (2 + map_length input) input))
    Err (input_tests input) (Ok (parts_of input)) (λ n a e. absurd (cc))
    (λ none e. let p : (image, arrays) ≡ parts_of input = cc in (ap (λ (q : List ℕ × List ℕ). q.0) p, ap (λ (q : List ℕ × List ℕ). q.1) p))

-- and its map is good
pub good_map : (input image arrays : List ℕ) → Ok (image, arrays) ≡ reading_of input → map_good image ≡ true
good_map input image arrays e = rw (parts_are input image arrays e).0 (accepted input (image, arrays) (sym e)).good

-- ---- the whole output

-- a text at the front of the buffer
pub in_front_lem : {t before after : List ℕ} {r : ℕ} → Put 0 t before after r → Printed t before after r
in_front_lem {t} {before} p =
    record {
      count = omega (arith, p.is_next);
      bytes = p.bytes ∙ ap (λ (k : ℕ). t ++ drop k before) (zero-add (length t));
      fits = omega (arith, p.is_next, p.room, p.same);
    }

-- what is printed of a whole drive, at the parts that it was taken into
pub drive_printed : (view : View) (input image arrays : List ℕ) {before after : List ℕ} {r : ℕ} → Ok (image, arrays) ≡ reading_of input
    → Put 0 (output_of view image (join_below (number_at arrays 0) (header_of image).cells)) before after r → Put 0 (drive_report view input) before after r
drive_printed view input image arrays e p =
    let are = parts_are input image arrays e in
    rw (← e, ← numbers_drop input (2 + map_length input) (cell_count input), ← are.1, ← are.0) p

-- ---- what was read of a good map: its counts

pub counts : (image : List ℕ) {header : Header} → map_good image ≡ true → header ≡ header_of image
    → (header.partitions ≡ (header_of image).partitions) × (header.partitions ≤ 16) × (header.cells ≡ (header_of image).cells) × (header.cells ≤ 2048)
counts image g e = let h = map_header image g in rw e (refl, h.partitions_most, refl, h.cells_most)

-- ---- every number of a good map's table has at most four digits, at what was read: the entry and the survey, or the active slot

pub small_line : (image cells : List ℕ) → map_good image ≡ true → (i : ℕ) → i < (header_of image).partitions
    → (x : Entry) (survey : Survey) → x ≡ entry_of image i → survey ≡ survey_at image cells i → SmallLine i x.n survey
small_line image cells g i l x survey e q =
    let h = map_header image g in
    let y = map_entry image g i l in
    rw (e, q) (omega arith, omega arith, omega (arith, short_most image cells g i l))

pub small_slot : (image cells : List ℕ) → map_good image ≡ true → (slot : ActiveSlot) → slot ≡ active_slot image cells → SmallSlot slot
small_slot image cells g slot e y =
    let a = available_tells image cells (rw e at y) in
    rw (e, ← active_is image cells a.partition Programmed refl a.active) (omega (arith, a.active.within, (map_header image g).partitions_most))

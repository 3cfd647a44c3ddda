-- The small drive's lines, and a refusal at each step, by computation from the definitions. Assumes nothing.
use Rattle.std.specs.Prelude.{ℕ, ◌≡◌, refl, take, replicate}
use mathlib.Core.List.{List, [], ◌∷◌, ◌++◌, map, flat_map}
use Rattle.std.specs.Int.Count.{ones_in}
use Rattle.laws.specs.Tests.{every}
use Rattle.laws.specs.Below.{all_below, count_below, first_from, join_below}
use Rattle.endian.specs.Endian.{u16_at, u32_at}
use Rattle.map.specs.Map.{header_good, filler_good, entry_good, place_good, map_good}
use Rattle.map.specs.Image.{image}
use Rattle.map.specs.Vectors.{two}
use Rattle.plan.specs.Vectors.{lines}
use Rattle.plan.specs.Reading.{read_of, has_form, plan_of}
use Rattle.plan.specs.Writing.{image_of as plan_image}
use Rattle.partition.specs.Partition.{short_at, marked, zero_cell, state_of}
use Rattle.drive.specs.Drive.{survey_at, slot_at, open_slot, active_slot}
use Rattle.reason.specs.Reason.{not_slot, reason_in}
use Rattle.text.specs.Text.{text, decimal}
use Rattle.wording.specs.Wording.{pair_words, why_line}
use Rattle.report.specs.Status.{number_at, reading_of, line_of, hek_line, line_at, table_of}
use Rattle.report.specs.Report.{on_output, on_errors, map_report, report_of}
use Rattle.report.specs.declared.Program.TheVariants.{Status, Why, MakeMap}

-- P = 2, C = 12, B = 60, E = 8; cell 0 is 1, all others 0, no stuck marks
abbrev small : List ℕ
small = (24 ∷ 0 ∷ image 2 12 60 8 [] two) ++ (1 ∷ replicate 95 0)

small_drive : report_of Status small ≡ on_output (text "part cells state short\n0 6 programmed 3\n1 6 blank 3\nhek 0\n")
unfolding reading_of table_of line_at line_of hek_line number_at decimal survey_at slot_at open_slot active_slot state_of marked short_at zero_cell
    map_good every header_good filler_good entry_good place_good all_below count_below first_from join_below u16_at u32_at ones_in
small_drive = refl

-- the same as it stands, new, after case 4, and after case 2
abbrev after : (cells : List ℕ) → List ℕ
after cells = (24 ∷ 0 ∷ image 2 12 60 8 [] two) ++ cells ++ replicate 72 0

reasons :
    map (report_of Why) (small ∷ after (replicate 24 0) ∷ after (replicate 4 0xFF ++ (0xE0 ∷ replicate 19 0xFF)) ∷ after (replicate 24 0xFF) ∷ [])
    ≡ map on_output
    (text "hek available\n"
    ∷ text "hek none: the active slot, partition 0, is blank: it holds no seed\n"
    ∷ text "hek none: the active slot, partition 0, is torn: the pair at cell 0 has 59 of 64 fuses set, at least 60 are needed\n"
    ∷ text "hek none: every slot is erased\n"
    ∷ [])
unfolding reading_of why_line pair_words reason_in not_slot number_at decimal survey_at slot_at open_slot active_slot state_of marked short_at zero_cell
    map_good every header_good filler_good entry_good place_good all_below count_below first_from join_below u16_at u32_at ones_in
reasons = refl

-- the length cut short; over 256, though nothing follows; the map cut short; a bad map, though the cells are cut short; the marks cut
-- short; something behind the marks
refusals :
    map (report_of Status) ((24 ∷ []) ∷ (1 ∷ 1 ∷ []) ∷ take 25 small ∷ (8 ∷ 0 ∷ replicate 8 0) ∷ take 121 small ∷ (small ++ (0 ∷ [])) ∷ [])
    ≡ map on_output
    (text "refused 2\n" ∷ text "refused 1\n" ∷ text "refused 2\n" ∷ text "refused 1\n" ∷ text "refused 2\n" ∷ text "refused 2\n" ∷ [])
unfolding reading_of decimal map_good every header_good filler_good entry_good place_good all_below u16_at
refusals = refl

-- request P2: the small drive's map from its text; a line feed that is missing, a seventeenth line, and a rule that is broken
maps :
    map (report_of MakeMap) (text "12 60\n0 6 0 7\n6 6 1 0\n" ∷ text "12 60\n0 6 0 7" ∷ (text "12 60\n" ++ lines 17 (text "0 4 0 0\n"))
    ∷ text "12 60\n0 6 0 5\n" ∷ [])
    ≡ on_output (image 2 12 60 8 [] two) ∷ on_errors (text "refused 16\n") ∷ on_errors (text "refused 16\n") ∷ on_errors (text "refused 1\n") ∷ []
unfolding map_report has_form plan_of read_of plan_image flat_map decimal map_good every header_good filler_good entry_good place_good all_below u16_at
maps = refl

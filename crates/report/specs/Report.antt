-- What each of the programs prints for the bytes that it reads: `status` (document 01, "A status program") and `why` (document 02,
-- request P1), which read the same input and refuse it in the same order, and `make_map` (ours, for
-- request P2). Assumes nothing.
use Rattle.std.specs.Prelude.{ℕ, ◌≤◌, ◌≡◌, List, ◌++◌, length, drop, Result, Ok, Err}
use Rattle.refusal.specs.Refusals.{first_of}
use Rattle.refusal.specs.Numbers.{number}
use Rattle.refusal.specs.declared.Refusal.{Refusal}
use Rattle.plan.specs.Reading.{plan_of}
use Rattle.plan.specs.Writing.{image_of as plan_image, writing_tests}
use Rattle.text.specs.Text.{text}
use Rattle.wording.specs.Wording.{why_line}
use Rattle.report.specs.declared.Program.{Program}
use Rattle.report.specs.declared.Program.TheVariants.{Status, Why, MakeMap}
use Rattle.report.specs.declared.Failure.{Failure}
use Rattle.report.specs.declared.Failure.TheVariants.{Input as NoInput, Output as NoOutput}
use Rattle.report.specs.declared.View.{View}
use Rattle.report.specs.declared.View.TheVariants.{Table, Line}
use Rattle.report.specs.declared.Stream.{Stream}
use Rattle.report.specs.declared.Stream.TheVariants.{Output, Errors}
use Rattle.report.specs.declared.Report.{Report}
use Rattle.report.specs.Status.{image_of, input_cells, reading_of, table_of, refused_line}

-- a program's name
abbrev pub program_name : Program → List ℕ
program_name Status = text "status"
program_name Why = text "why"
program_name MakeMap = text "make_map"

-- ---- of a drive

-- what is printed of it: the table, or the line that says why
abbrev pub output_of : View → (image cells : List ℕ) → List ℕ
output_of Table image cells = table_of image cells
output_of Line image cells = why_line image cells

-- for each reading of the input
abbrev pub printed : View → Result (List ℕ × List ℕ) Refusal → (input : List ℕ) → List ℕ
printed view (Err refusal) input = refused_line (number refusal)
printed view (Ok parts) input = output_of view (image_of input) (input_cells input)

abbrev pub drive_report : View → (input : List ℕ) → List ℕ
drive_report view input = printed view (reading_of input) input

-- ---- of all programs

-- what is printed, and where
pub record Saying : Type 0 where
  pub stream : Stream
  pub bytes : List ℕ

abbrev pub on_output : (bytes : List ℕ) → Saying
on_output bytes = record { stream = Output; bytes = bytes }

abbrev pub on_errors : (bytes : List ℕ) → Saying
on_errors bytes = record { stream = Errors; bytes = bytes }

-- ours, for request P2: `make_map` prints the image of the text, with a buffer for 16 partitions. A refusal goes to standard error, since
-- standard output takes an image and nothing else
unfoldable pub map_report : (input : List ℕ) → Saying
map_report input = first_of (λ refusal. on_errors (refused_line (number refusal))) (writing_tests input 136) (on_output (plan_image (plan_of input)))

-- everything that a program prints
abbrev pub report_of : Program → (input : List ℕ) → Saying
report_of Status input = on_output (drive_report Table input)
report_of Why input = on_output (drive_report Line input)
report_of MakeMap input = map_report input

-- ours, since 01 has no words for it: what it says on standard error where its input cannot be read or its output cannot be written. It
-- is no line of a table, no reason and no refusal
abbrev pub failure_line : Program → Failure → List ℕ
failure_line program NoInput = program_name program ++ text ": standard input cannot be read\n"
failure_line program NoOutput = program_name program ++ text ": standard output cannot be written\n"

-- what is in the lent buffer afterwards: the printed bytes, their number answered, and behind them what was there
pub record Printed (t before after : List ℕ) (answer : ℕ) : Type 0 where
  pub count : answer ≡ length t
  pub bytes : after ≡ t ++ drop (length t) before
  pub fits : answer ≤ length after

-- and where it goes
pub record Told (saying : Saying) (before after : List ℕ) (answer : Report) : Type 0 where
  pub stream : answer.stream ≡ saying.stream
  pub print : Printed saying.bytes before after answer.count

-- Document 01, "The small drive", its last part: what the status program prints for the bytes that it reads. Assumes nothing.
use Rattle.std.specs.Prelude.{ℕ, ◌+◌, ◌*◌, ◌<◌, ◌≡◌, Bool, true, cond, not, List, [], ◌∷◌, ◌++◌, length, take, drop, eqb, ltb, Result, Ok, Err}
use Rattle.laws.specs.Below.{join_below}
use Rattle.refusal.specs.Refusals.{first_of}
use Rattle.refusal.specs.declared.Refusal.{Refusal}
use Rattle.refusal.specs.declared.Refusal.TheVariants.{BadMap, BadLent}
use Rattle.endian.specs.Endian.{u16_at, u32_at}
use Rattle.map.specs.Map.{header_of, entry_of, map_good}
use Rattle.partition.specs.declared.State.{State}
use Rattle.partition.specs.declared.State.TheVariants.{Erased, Torn, Blank, Programmed}
use Rattle.partition.specs.declared.Survey.{Survey}
use Rattle.drive.specs.declared.ActiveSlot.{ActiveSlot}
use Rattle.drive.specs.Drive.{survey_at, active_slot, slot_number, available}
use Rattle.text.specs.Text.{text, decimal}
use Rattle.wording.specs.Wording.{refused_words}

-- ---- the input: "a u16 map length, the map, C cells, C marks, each a little-endian u32"

-- the map's length
abbrev pub map_length : (input : List ℕ) → ℕ
map_length input = u16_at input 0

-- the map
abbrev pub image_of : (input : List ℕ) → List ℕ
image_of input = take (map_length input) (drop 2 input)

-- C, the map's cell count
abbrev pub cell_count : (input : List ℕ) → ℕ
cell_count input = (header_of (image_of input)).cells

-- number k of the little-endian u32 that start at `from`
unfoldable pub number_at : (input : List ℕ) (from k : ℕ) → List ℕ
number_at input from k = u32_at input (from + 4 * k) ∷ []

-- the cells; the marks behind them are counted and not looked at
abbrev pub input_cells : (input : List ℕ) → List ℕ
input_cells input = join_below (number_at input (2 + map_length input)) (cell_count input)

-- the refusals, "in this order: 2 the length is cut short, 1 the length is over 256, 2 the map is cut short, 1 the map is bad, 2 the
-- cells and marks are cut short or anything follows them"
abbrev pub input_tests : (input : List ℕ) → List (Bool × Refusal)
input_tests input =
    (ltb (length input) 2, BadLent)
    ∷ (ltb 256 (map_length input), BadMap)
    ∷ (ltb (length input) (2 + map_length input), BadLent)
    ∷ (not (map_good (image_of input)), BadMap)
    ∷ (not (eqb (length input) (2 + map_length input + 8 * cell_count input)), BadLent)
    ∷ []

-- a whole drive: the map, and the bytes of its cells and marks
abbrev pub parts_of : (input : List ℕ) → List ℕ × List ℕ
parts_of input = (image_of input, drop (2 + map_length input) input)

-- the first of the refusals that applies, else a whole drive
unfoldable pub reading_of : (input : List ℕ) → Result (List ℕ × List ℕ) Refusal
reading_of input = first_of Err (input_tests input) (Ok (parts_of input))

-- ---- the output

-- a state's name, as document 01 writes it
abbrev pub state_name : State → List ℕ
state_name Erased = text "erased"
state_name Torn = text "torn"
state_name Blank = text "blank"
state_name Programmed = text "programmed"

-- "one line per partition (number, cells, state, short pairs)"
unfoldable pub line_of : (i n : ℕ) → Survey → List ℕ
line_of i n survey = decimal i ++ text " " ++ decimal n ++ text " " ++ state_name survey.state ++ text " " ++ decimal survey.short ++ text "\n"

-- "then `hek` and the active slot's partition if the HEK is available, else `none`"
unfoldable pub hek_line : ActiveSlot → List ℕ
hek_line slot = cond (available slot) (text "hek " ++ decimal (slot_number slot) ++ text "\n") (text "hek none\n")

-- the line of partition i
unfoldable pub line_at : (image cells : List ℕ) (i : ℕ) → List ℕ
line_at image cells i = line_of i (entry_of image i).n (survey_at image cells i)

-- "It prints a header, one line per partition, then hek"
unfoldable pub table_of : (image cells : List ℕ) → List ℕ
table_of image cells =
    text "part cells state short\n"
    ++ join_below (line_at image cells) (header_of image).partitions
    ++ hek_line (active_slot image cells)

-- "A refusal prints only `refused`, a space and the number", "Each line ends with a line feed"
abbrev pub refused_line : (number : ℕ) → List ℕ
refused_line number = refused_words number ++ text "\n"

-- ---- numbers of at most four digits, which is what `text::put_decimal` can print: those of a line, and that of the last line

abbrev pub SmallLine : (i n : ℕ) → Survey → Type 0
SmallLine i n survey = (i < 10000) × (n < 10000) × (survey.short < 10000)

abbrev pub SmallSlot : ActiveSlot → Type 0
SmallSlot slot = available slot ≡ true → slot_number slot < 10000

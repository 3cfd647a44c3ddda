-- Document 02, request P1: the line that the desk is told, in words with the numbers. The words are ours. Assumes nothing.
use Rattle.std.specs.Prelude.{ℕ, ◌<◌, List, [], ◌++◌}
use Rattle.map.specs.Map.{header_of}
use Rattle.reason.specs.declared.Reason.{Reason}
use Rattle.reason.specs.declared.Reason.TheVariants.{Available, NoSlot, AllErased, Blank, Torn}
use Rattle.reason.specs.Reason.{reason_in}
use Rattle.text.specs.Text.{text, decimal}

-- "both with the partition"
abbrev pub slot_words : (i : ℕ) → List ℕ
slot_words i = text "hek none: the active slot, partition " ++ decimal i ++ text ", is "

-- document 01: "A refusal prints only `refused`, a space and the number"
abbrev pub refused_words : (number : ℕ) → List ℕ
refused_words number = text "refused " ++ decimal number

-- each reason in words
abbrev pub reason_words : Reason → List ℕ
reason_words Available = text "hek available"
reason_words NoSlot = text "hek none: the map has no slot"
reason_words AllErased = text "hek none: every slot is erased"
reason_words (Blank i) = slot_words i ++ text "blank: it holds no seed"
reason_words (Torn i cell ones) = slot_words i ++ text "torn"

-- "torn also with its first short pair and that pair's ones", and the bound that they are below
unfoldable pub pair_words : (bound cell ones : ℕ) → List ℕ
pair_words bound cell ones =
    (text ": the pair at cell " ++ decimal cell)
    ++ (text " has " ++ decimal ones)
    ++ (text " of 64 fuses set, at least " ++ decimal bound)
    ++ text " are needed"

-- a torn slot with its pair, else another reason
abbrev pub pair_part : (bound : ℕ) → Reason → List ℕ
pair_part bound (Torn i cell ones) = pair_words bound cell ones
pair_part bound Available = []
pair_part bound NoSlot = []
pair_part bound AllErased = []
pair_part bound (Blank i) = []

-- the line of a reason
abbrev pub reason_line : (bound : ℕ) → Reason → List ℕ
reason_line bound reason = reason_words reason ++ pair_part bound reason ++ text "\n"

-- the line of a drive
unfoldable pub why_line : (image cells : List ℕ) → List ℕ
why_line image cells = reason_line (header_of image).bound (reason_in image cells)

-- numbers of at most four digits, which is what `text::put_decimal` can print
abbrev pub SmallReason : Reason → Type 0
SmallReason (Blank i) = i < 10000
SmallReason (Torn i cell ones) = (i < 10000) × (cell < 10000) × (ones < 10000)
SmallReason Available = Unit {0}
SmallReason NoSlot = Unit {0}
SmallReason AllErased = Unit {0}

-- Document 01, "The map of the fuses": which word starts at a cell of the whole array. Assumes nothing.
use Rattle.std.specs.Prelude.{ℕ, ◌-◌, ◌%◌, Bool, true, false, cond, ◌&&◌, List, Option, Some, None, eqb, leb, ltb}
use Rattle.laws.specs.Below.{first_below}
use Rattle.map.specs.Map.{header_of, entry_of, end_of, zeroizable, software}
use Rattle.map.specs.declared.Entry.{Entry}
use Rattle.partition.specs.Partition.{tail}
use Rattle.word.specs.declared.Role.{Role}
use Rattle.word.specs.declared.Role.TheVariants.{Data, Digest, Indicator}
use Rattle.word.specs.declared.Word.{Word}

-- the word of partition i that holds this, a pair or one cell
abbrev pub some_word : (i : ℕ) → Role → (wide : Bool) → Option Word
some_word i role wide = Some (record { partition = i; role = role; wide = wide })

-- the cell lies in the partition
abbrev pub holds : Entry → (cell : ℕ) → Bool
holds x cell = leb x.first cell && ltb cell (end_of x)

-- "A word is a pair in kinds 0 and 2; in kind 1 a data word is one cell, digest and indicator are pairs": the word that starts at a
-- cell of partition i, where `left` cells of the partition are left and its last `tail` cells are not data
abbrev pub word_by : (software : Bool) (tail left i cell : ℕ) → Option Word
word_by software tail left i cell =
    cond (ltb tail left)
    (cond software (some_word i Data false) (cond (eqb (cell % 2) 0) (some_word i Data true) None))
    (cond (eqb left tail) (some_word i Digest true) (cond (eqb left 2) (some_word i Indicator true) None))

-- the word that starts at a cell of partition i, whose entry is x
unfoldable pub word_in : Entry → (i cell : ℕ) → Option Word
word_in x i cell = word_by (software x) (tail (zeroizable x)) (end_of x - cell) i cell

-- partition i of the image holds the cell
unfoldable pub is_held_at : (image : List ℕ) (cell i : ℕ) → Bool
is_held_at s cell i = holds (entry_of s i) cell

-- the partition that holds the cell, P where none does
abbrev pub partition_of : (image : List ℕ) (cell : ℕ) → ℕ
partition_of s cell = first_below (is_held_at s cell) (header_of s).partitions

-- "A word is named by its first cell in the whole array": the word that starts at the cell, or none
unfoldable pub word_at : (image : List ℕ) (cell : ℕ) → Option Word
word_at s cell =
    cond (ltb (partition_of s cell) (header_of s).partitions)
    (word_in (entry_of s (partition_of s cell)) (partition_of s cell) cell)
    None

-- Document 01, "Erasing a partition", with requests P4 and P8: the order of burns, and the one run in this order that erasures, cut ones
-- and FERS are. Cells and marks are the partition's, counted from where it starts. Assumes nothing.
use Rattle.std.specs.Prelude.{ℕ, zero, suc, ◌+◌, ◌-◌, ◌*◌, ◌/◌, Bool, true, cond, not, ◌&&◌, List, [], ◌∷◌, ◌++◌, length, eqb}
use Rattle.fuse.specs.Fuse.{cells_in, all_ones, burn_word, new_fuses}
use Rattle.partition.specs.Partition.{marked, tail}
use Rattle.burns.specs.declared.Word.{Word}
use Rattle.burns.specs.declared.End.{End}
use Rattle.burns.specs.declared.End.TheVariants.{Whole, Stopped, Cut}
use Rattle.burns.specs.declared.Report.{Report}

-- ---- the order

-- the word that starts at a cell
abbrev pub word_from : (wide : Bool) (at : ℕ) → Word
word_from wide at = record { at = at; wide = wide }

-- a pair
abbrev pub pair_from : (at : ℕ) → Word
pair_from at = word_from true at

-- so many words of one width, ascending, from a cell on
unfoldable pub words_from : (wide : Bool) (count at : ℕ) → List Word
words_from wide zero at = []
words_from wide (suc count) at = word_from wide at ∷ words_from wide count (at + cells_in wide)

-- "in kind 1 a data word is one cell", in any other a pair; the last of the n cells of a zeroizable partition are digest and indicator
abbrev pub data_words : (software : Bool) (n : ℕ) → List Word
data_words software n = words_from (not software) ((n - tail true) / cells_in (not software)) 0

-- "Order of burns ..: indicator, data words ascending, digest"
unfoldable pub order : (software : Bool) (n : ℕ) → List Word
order software n = pair_from (n - 2) ∷ (data_words software n ++ (pair_from (n - tail true) ∷ []))

-- ---- the run

-- what a run has done so far: the cells, "the number of burns carried out" and, by request P8, the fuses that they newly set
pub record Tally : Type 0 where
  pub cells : List ℕ
  pub burns : ℕ
  pub new : ℕ

abbrev pub tally_of : (cells : List ℕ) (burns new : ℕ) → Tally
tally_of cells burns new = record { cells = cells; burns = burns; new = new }

-- before the first burn
abbrev pub start : (cells : List ℕ) → Tally
start cells = tally_of cells 0 0

-- one burn more: v into a word, by the function that "carries out a single burn and touches its word alone"; what it reports is added up
abbrev pub carry : (marks : List ℕ) → Word → (v : ℕ) → Tally → Tally
carry marks word v t =
    tally_of (burn_word marks word.at word.wide v t.cells) (t.burns + 1) (t.new + new_fuses marks word.at word.wide v t.cells)

-- request P4: "Erasure goes on whenever it is marked after the first burn"
unfoldable pub goes_on : (cells : List ℕ) → Bool
goes_on cells = marked true cells

-- a run stops only after its first burn, the indicator's; after any other "it goes on through short words"
unfoldable pub stops_after : (burns : ℕ) (cells : List ℕ) → Bool
stops_after burns cells = eqb burns 1 && not (goes_on cells)

-- how a run ended, and what it has done
pub record Ran : Type 0 where
  pub end : End
  pub tally : Tally

abbrev pub ran : End → Tally → Ran
ran end t = record { end = end; tally = t }

-- the burns of the words in order: "the first k burns are whole, the burn numbered k has the mask .. in place of all ones, nothing
-- follows"
unfoldable pub burns_of : (marks : List ℕ) (mask k : ℕ) → List Word → Tally → Ran
burns_of marks mask k [] t = ran Whole t
burns_of marks mask zero (word ∷ words) t = ran Cut (carry marks word mask t)
burns_of marks mask (suc k) (word ∷ words) t =
    let u : Tally = carry marks word all_ones t in
    cond (stops_after u.burns u.cells) (ran Stopped u) (burns_of marks mask k words u)

-- the run over a partition's cells; where its order ends before burn k, it is not cut
abbrev pub run : (marks : List ℕ) (software : Bool) (k mask : ℕ) (cells : List ℕ) → Ran
run marks software k mask cells = burns_of marks mask k (order software (length cells)) (start cells)

-- ---- as the code has it

-- the first cell of what burn number j burns after the indicator: the digest stands where another data word would
abbrev pub place_of : (software : Bool) (j : ℕ) → ℕ
place_of software j = (j - 1) * cells_in (not software)

-- what burn number j burns, and how a run ends whose last burn it is
abbrev pub value_of : (j k mask : ℕ) → ℕ
value_of j k mask = cond (eqb j k) mask all_ones

abbrev pub end_of : (j k : ℕ) → End
end_of j k = cond (eqb j k) Cut Whole

-- what the code reports of a run, with the cells that it left
abbrev pub ran_as : Report → (cells : List ℕ) → Ran
ran_as r cells = ran r.end (tally_of cells r.burns r.new)

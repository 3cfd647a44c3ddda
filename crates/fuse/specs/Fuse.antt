-- Document 01, "Burning and counting", with request P8, at one cell, one pair and one word. Assumes nothing.
use Rattle.std.specs.Prelude.{ℕ, ◌+◌, ◌-◌, ◌*◌, ◌/◌, ◌%◌, ◌^◌, Bool, true, false, List, [], ◌∷◌, get_or, set, take, drop, ltb}
use Rattle.std.specs.Int.Bits.{bit_and, bit_or}
use Rattle.std.specs.Int.Count.{ones_in}

-- "A cell is 32 fuses": the number with every fuse set
abbrev pub all_set : ℕ
all_set = 2 ^ 32 - 1

-- the fuses of a cell that are not marked stuck
abbrev pub free : (stuck : ℕ) → ℕ
free stuck = all_set - stuck

-- "A burn of value v leaves each fuse that was set, sets each fuse of v not marked stuck, and does nothing else"
abbrev pub burn : (cell v stuck : ℕ) → ℕ
burn cell v stuck = bit_or cell (bit_and v (free stuck))

-- "An even cell and the next form a pair, low half first"
abbrev pub pair_of : (low high : ℕ) → ℕ
pair_of low high = high * 2 ^ 32 + low

-- what the pair that starts at cell k holds
abbrev pub held_at : (cells : List ℕ) (k : ℕ) → ℕ
held_at cells k = pair_of (get_or cells k 0) (get_or cells (k + 1) 0)

-- the number of ones of a pair
abbrev pub ones_of : (pair : ℕ) → ℕ
ones_of pair = ones_in 64 pair

-- "A pair is short when its number of ones is below B"
abbrev pub short : (bound pair : ℕ) → Bool
short bound pair = ltb (ones_of pair) bound

-- a burn of v into the cell that stands at k, its mark at the same place; no other cell is touched
unfoldable pub burn_cell : (marks : List ℕ) (k v : ℕ) (cells : List ℕ) → List ℕ
burn_cell marks k v cells = set cells k (burn (get_or cells k 0) v (get_or marks k 0))

-- the cells of a word: a pair or one cell
abbrev pub cells_in : (wide : Bool) → ℕ
cells_in true = 2
cells_in false = 1

-- "all ones": what ZEROIZE, and every whole burn of an erasure, burns into a word
abbrev pub all_ones : ℕ
all_ones = 2 ^ 64 - 1

-- a burn of the 64-bit value v into the word that starts at k: its low 32 bits into the first cell and, of a pair, its high 32 bits into the next
unfoldable pub burn_word : (marks : List ℕ) (k : ℕ) (wide : Bool) (v : ℕ) (cells : List ℕ) → List ℕ
burn_word marks k true v cells = burn_cell marks (k + 1) (v / 2 ^ 32) (burn_cell marks k (v % 2 ^ 32) cells)
burn_word marks k false v cells = burn_cell marks k (v % 2 ^ 32) cells

-- ---- request P8, "Charge drawn by burning"

-- how many fuses of these cells are set
unfoldable pub set_fuses : (cells : List ℕ) → ℕ
set_fuses [] = 0
set_fuses (cell ∷ cells) = ones_in 32 cell + set_fuses cells

-- the cells of the word that starts at k
abbrev pub word_cells : (wide : Bool) (k : ℕ) (cells : List ℕ) → List ℕ
word_cells wide k cells = take (cells_in wide) (drop k cells)

-- "every burn reports the number of fuses it newly set": those of its word that are set after it, less those that were set before
unfoldable pub new_fuses : (marks : List ℕ) (k : ℕ) (wide : Bool) (v : ℕ) (cells : List ℕ) → ℕ
new_fuses marks k wide v cells = set_fuses (word_cells wide k (burn_word marks k wide v cells)) - set_fuses (word_cells wide k cells)

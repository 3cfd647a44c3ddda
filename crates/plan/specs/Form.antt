-- Document 02, request P2, "Write the map": the form of a map's text. Assumes nothing.
use Rattle.std.specs.Prelude.{ℕ, ◌≤◌, ◌≡◌, get_or}
use mathlib.Core.List.{List, [], ◌∷◌, ◌++◌, flat_map}
use Rattle.text.specs.Text.{text, decimal}
use Rattle.map.specs.declared.Entry.{Entry}

-- what a text says: C and B, and a partition for each further line. Nothing is said here of the map's rules, nor of the widths of its
-- fields: a kind of 300 is a number of a text, and of no map
pub record Plan : Type 0 where
  pub cells : ℕ
  pub bound : ℕ
  pub entries : List Entry

-- partition i of a plan; past the last one all zeros
abbrev pub entry_in : Plan → (i : ℕ) → Entry
entry_in p i = get_or p.entries i (record { first = 0; n = 0; kind = 0; flags = 0 })

-- "a first line with C and B"
abbrev pub first_line : (cells bound : ℕ) → List ℕ
first_line cells bound = decimal cells ++ text " " ++ decimal bound ++ text "\n"

-- "one partition a line: first cell, cells, kind, flags", "single spaces, each line ended by a line feed"
abbrev pub partition_line : Entry → List ℕ
partition_line x = decimal x.first ++ text " " ++ decimal x.n ++ text " " ++ decimal x.kind ++ text " " ++ decimal x.flags ++ text "\n"

-- the text: the partitions' lines "after a first line"
unfoldable pub text_of : Plan → List ℕ
text_of p = first_line p.cells p.bound ++ flat_map partition_line p.entries

-- all its numbers, in the text's order
abbrev pub entry_numbers : Entry → List ℕ
entry_numbers x = x.first ∷ x.n ∷ x.kind ∷ x.flags ∷ []

unfoldable pub numbers_of : Plan → List ℕ
numbers_of p = p.cells ∷ p.bound ∷ flat_map entry_numbers p.entries

-- "at most 65,535"
abbrev pub Small : (numbers : List ℕ) → Type 0
Small [] = Unit {0}
Small (v ∷ vs) = (v ≤ 65535) × Small vs

-- a text of that form, and what it says: "all decimal without leading zeros and at most 65,535"
pub record Form (t : List ℕ) (p : Plan) : Type 0 where
  pub is : t ≡ text_of p
  pub small : Small (numbers_of p)

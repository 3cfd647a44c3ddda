-- What the block keeps between calls, in one array of words: where each part of it lies. Assumes nothing.
use Rattle.std.specs.Prelude.{ℕ, List, take, drop}

-- the places' kinds, then their tags, then the awaited reply; the table's count, its entries, the greatest number given
abbrev pub kinds_at : ℕ
kinds_at = 0

abbrev pub tags_at : ℕ
tags_at = 16

abbrev pub awaited_at : ℕ
awaited_at = 32

abbrev pub count_at : ℕ
count_at = 33

abbrev pub entries_at : ℕ
entries_at = 34

abbrev pub greatest_at : ℕ
greatest_at = 37

-- a part of the context: n words, from a first one on
abbrev pub part : (first n : ℕ) (context : List ℕ) → List ℕ
part first n context = take n (drop first context)

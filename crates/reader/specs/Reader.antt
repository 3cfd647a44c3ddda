-- What a map says of one partition: document 01, "The map of the fuses" and "Refusal numbers" 1 and 7. Assumes nothing.
use Rattle.std.specs.Prelude.{ℕ, Bool, not, List, [], ◌∷◌, leb, Result, Ok, Err}
use Rattle.refusal.specs.Refusals.{first_of}
use Rattle.refusal.specs.declared.Refusal.{Refusal}
use Rattle.refusal.specs.declared.Refusal.TheVariants.{BadMap, NotThere}
use Rattle.map.specs.Map.{header_of, entry_of, map_good}
use Rattle.map.specs.declared.Header.{Header}
use Rattle.map.specs.declared.Entry.{Entry}
use Rattle.reader.specs.declared.Fields.{Fields}

-- a header and an entry together
abbrev pub both_of : Header → Entry → Fields
both_of header entry = record { header = header; entry = entry }

-- the header, and entry i
abbrev pub fields_of : (image : List ℕ) (i : ℕ) → Fields
fields_of image i = both_of (header_of image) (entry_of image i)

-- 1, "map breaks a rule above", then 7, "no such partition"
abbrev pub reading_tests : (image : List ℕ) (i : ℕ) → List (Bool × Refusal)
reading_tests image i =
    (not (map_good image), BadMap)
    ∷ (leb (header_of image).partitions i, NotThere)
    ∷ []

-- the fields of partition i, or the lowest refusal that applies
abbrev pub reading_of : (image : List ℕ) (i : ℕ) → Result Fields Refusal
reading_of image i = first_of Err (reading_tests image i) (Ok (fields_of image i))

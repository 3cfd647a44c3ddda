-- The fields of the small drive's map, by computation: both partitions, one past them, and a bad map. Assumes nothing.
use Rattle.std.specs.Prelude.{◌≡◌, refl, [], ◌∷◌, Ok, Err}
use Rattle.laws.specs.Tests.{every}
use Rattle.laws.specs.Below.{all_below}
use Rattle.refusal.specs.declared.Refusal.TheVariants.{BadMap, NotThere}
use Rattle.endian.specs.Endian.{u16_at}
use Rattle.map.specs.Map.{header_good, filler_good, entry_good, place_good, map_good}
use Rattle.map.specs.Image.{image}
use Rattle.map.specs.Vectors.{two}
use Rattle.map.specs.declared.Header.{Header}
use Rattle.map.specs.declared.Entry.{Entry}
use Rattle.reader.specs.Reader.{both_of, reading_of}

-- "P = 2, C = 12, B = 60, E = 8"
abbrev header : Header
header = record { partitions = 2; cells = 12; bound = 60; offset = 8 }

-- "Entry 0: first 0, n 6, kind 0, flags 7. Entry 1: first 6, n 6, kind 1, flags 0"
abbrev slot : Entry
slot = record { first = 0; n = 6; kind = 0; flags = 7 }

abbrev software : Entry
software = record { first = 6; n = 6; kind = 1; flags = 0 }

small_drive :
    reading_of (image 2 12 60 8 [] two) 0 ∷ reading_of (image 2 12 60 8 [] two) 1 ∷ reading_of (image 2 12 60 8 [] two) 2 ∷ reading_of (image 2 12 65 8 [] two) 2 ∷ []
    ≡ Ok (both_of header slot) ∷ Ok (both_of header software) ∷ Err NotThere ∷ Err BadMap ∷ []
unfolding map_good every header_good filler_good entry_good place_good all_below u16_at
small_drive = refl

-- The codes and the field lists, by computation: lengths and places. Assumes nothing.
use Rattle.std.specs.Prelude.{◌≡◌, refl, [], ◌∷◌, ◌++◌, map}
use Rattle.codec.specs.declared.Command.TheVariants.{Clkc, Klod, Kunl, Fers, Fsta, Ehdl, Rhpk, Unknown}
use Rattle.codec.specs.Fields.{command_of, CmdTimeout, TagLow, TagHigh, Mek, Partition, Place, ShortPairs, FirstShort, NewFuses, TheActiveSlot, HekAvailable}
use Rattle.codec.specs.Fields.{HpkeHandleCount, Handle0, HpkeAlgorithm0, Handle1, HpkeAlgorithm1, Handle2, HpkeAlgorithm2, HpkeHandle}
use Rattle.codec.specs.Fields.{request_fields, response_fields, no_numbers, one_number, length_of, place_of}

-- the table's codes, and one that is not in it
codes : map command_of (0x434C_4B43 ∷ 0x4B4C_4F44 ∷ 0x4B55_4E4C ∷ 0x4645_5253 ∷ 0x4653_5441 ∷ 0x4548_444C ∷ 0x5248_504B ∷ 0 ∷ [])
    ≡ Clkc ∷ Klod ∷ Kunl ∷ Fers ∷ Fsta ∷ Ehdl ∷ Rhpk ∷ Unknown ∷ []
codes = refl

-- every request begins with 8 bytes, every response with 12
request_bytes_lem : map (λ command. length_of (request_fields command)) (Clkc ∷ Klod ∷ Kunl ∷ Fers ∷ Fsta ∷ Ehdl ∷ Rhpk ∷ []) ≡ 12 ∷ 84 ∷ 20 ∷ 12 ∷ 8 ∷ 8 ∷ 12 ∷ []
request_bytes_lem = refl

response_bytes : map (λ command. length_of (response_fields command no_numbers)) (Clkc ∷ Klod ∷ Kunl ∷ Fers ∷ Fsta ∷ Rhpk ∷ []) ≡ 12 ∷ 16 ∷ 12 ∷ 24 ∷ 20 ∷ 16 ∷ []
response_bytes = refl

-- request P6, EHDL: 24, 32 or 40
list_lengths : map (λ count. length_of (response_fields Ehdl (one_number count))) (1 ∷ 2 ∷ 3 ∷ []) ≡ 24 ∷ 32 ∷ 40 ∷ []
list_lengths = refl

request_places :
    map (λ field. place_of field (request_fields Klod)) (CmdTimeout ∷ TagLow ∷ TagHigh ∷ Mek ∷ [])
    ++ (place_of Partition (request_fields Fers) ∷ place_of HpkeHandle (request_fields Rhpk) ∷ [])
    ≡ 8 ∷ 12 ∷ 16 ∷ 20 ∷ 8 ∷ 8 ∷ []
request_places = refl

response_places :
    place_of Place (response_fields Klod no_numbers)
    ∷ place_of ShortPairs (response_fields Fers no_numbers) ∷ place_of FirstShort (response_fields Fers no_numbers)
    ∷ place_of NewFuses (response_fields Fers no_numbers)
    ∷ place_of TheActiveSlot (response_fields Fsta no_numbers) ∷ place_of HekAvailable (response_fields Fsta no_numbers)
    ∷ place_of HpkeHandle (response_fields Rhpk no_numbers) ∷ []
    ≡ 12 ∷ 12 ∷ 16 ∷ 20 ∷ 12 ∷ 16 ∷ 12 ∷ []
response_places = refl

list_places :
    map (λ field. place_of field (response_fields Ehdl (one_number 3)))
    (HpkeHandleCount ∷ Handle0 ∷ HpkeAlgorithm0 ∷ Handle1 ∷ HpkeAlgorithm1 ∷ Handle2 ∷ HpkeAlgorithm2 ∷ [])
    ≡ 12 ∷ 16 ∷ 20 ∷ 24 ∷ 28 ∷ 32 ∷ 36 ∷ []
list_places = refl

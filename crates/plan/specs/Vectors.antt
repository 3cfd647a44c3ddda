-- Texts and their answers, by computation from the definitions. Assumes nothing.
use Rattle.std.specs.Prelude.{ℕ, ◌≡◌, refl, length, replicate, Result, Ok, Err}
use mathlib.Core.List.{List, [], ◌∷◌, ◌++◌, map, flat_map}
use Rattle.laws.specs.Tests.{every}
use Rattle.laws.specs.Below.{all_below}
use Rattle.refusal.specs.declared.Refusal.{Refusal}
use Rattle.refusal.specs.declared.Refusal.TheVariants.{BadMap, BadText}
use Rattle.context.specs.State.{outcome}
use Rattle.endian.specs.Endian.{u16_at}
use Rattle.text.specs.Text.{text}
use Rattle.map.specs.Map.{header_good, filler_good, entry_good, place_good, map_good}
use Rattle.map.specs.Image.{image}
use Rattle.map.specs.Vectors.{two}
use Rattle.plan.specs.Reading.{read_of, has_form, plan_of}
use Rattle.plan.specs.Writing.{image_of, writing_of}

-- the small drive's map, in the front of a buffer that holds three bytes more
small : writing_of (text "12 60\n0 6 0 7\n6 6 1 0\n") (replicate 27 9) ≡ outcome (Ok 24) (image 2 12 60 8 [] two ++ (9 ∷ 9 ∷ 9 ∷ []))
unfolding writing_of has_form plan_of read_of image_of flat_map map_good every header_good filler_good entry_good place_good all_below u16_at
small = refl

-- what is answered with so much room
abbrev told : (room : ℕ) (t : List ℕ) → Result ℕ Refusal
told room t = (writing_of t (replicate room 9)).told

-- no form: nothing at all, no line feed at the end, one too many, one of Windows, another at the end of the first line, a space too many
-- within, before and behind, a leading zero, a number over 65,535, one of six digits, too few numbers, too many, a sign, a tab
formless :
    map (told 136)
    ([] ∷ text "12 60" ∷ text "12 60\n0 6 0 7" ∷ text "12 60\n0 6 0 7\n\n" ∷ text "12 60\r\n0 6 0 7\r\n" ∷ text "12 60 0 6 0 7\n"
    ∷ text "12  60\n0 6 0 7\n" ∷ text " 12 60\n0 6 0 7\n" ∷ text "12 60 \n0 6 0 7\n" ∷ text "12 60\n0 06 0 7\n" ∷ text "12 60\n00 6 0 7\n"
    ∷ text "12 60\n65536 6 0 7\n" ∷ text "12 60\n100000 6 0 7\n" ∷ text "12 60\n0 6 0\n" ∷ text "12\n0 6 0 7\n" ∷ text "12 60\n0 6 0 7 0\n"
    ∷ text "12 60\n-0 6 0 7\n" ∷ text "12\t60\n0 6 0 7\n" ∷ [])
    ≡ replicate 18 (Err BadText)
unfolding writing_of has_form read_of
formless = refl

-- the form, and no map: no partition, a kind and flags that their bytes do not hold (300, 256), the largest numbers, C and B swapped,
-- the order of the lines
rules :
    map (told 136)
    (text "12 60\n" ∷ text "12 60\n0 6 300 7\n" ∷ text "12 60\n0 6 256 7\n" ∷ text "12 60\n0 6 0 256\n" ∷ text "65535 65535\n65535 65535 65535 65535\n"
    ∷ text "60 12\n0 6 0 7\n" ∷ text "12 60\n6 6 1 0\n0 6 0 7\n" ∷ [])
    ≡ replicate 7 (Err BadMap)
unfolding writing_of has_form plan_of read_of image_of flat_map map_good every header_good filler_good entry_good place_good all_below u16_at
rules = refl

-- request P7, flag 8: with 7 and with 1, with 1 and 2; alone, and in life cycle
guides :
    map (told 136)
    (text "12 60\n0 6 0 15\n6 6 1 9\n" ∷ text "12 60\n0 6 0 11\n" ∷ text "12 60\n0 6 0 8\n" ∷ text "12 60\n0 6 2 8\n" ∷ text "12 60\n0 6 2 9\n" ∷ [])
    ≡ Ok 24 ∷ Ok 16 ∷ replicate 3 (Err BadMap)
unfolding writing_of has_form plan_of read_of image_of flat_map map_good every header_good filler_good entry_good place_good all_below u16_at
guides = refl

-- the room: one byte short, and none; just enough; of a map that breaks a rule too, 16 comes before 1
rooms :
    map (λ (r : ℕ × List ℕ). told r.0 r.1)
    ((23, text "12 60\n0 6 0 7\n6 6 1 0\n") ∷ (0, text "12 60\n0 6 0 7\n") ∷ (16, text "12 60\n0 6 0 7\n") ∷ (7, text "12 60\n") ∷ (8, text "12 60\n")
    ∷ (15, text "12 60\n0 6 9 9\n") ∷ [])
    ≡ Err BadText ∷ Err BadText ∷ Ok 16 ∷ Err BadText ∷ Err BadMap ∷ Err BadText ∷ []
unfolding writing_of has_form plan_of read_of image_of flat_map map_good every header_good filler_good entry_good place_good all_below u16_at
rooms = refl

-- so many equal lines
abbrev pub lines : (count : ℕ) (line : List ℕ) → List ℕ
lines count line = flat_map (λ (x : List ℕ). x) (replicate count line)

-- seventeen lines, with the room and one byte short of it
counts : map (told 144) ((text "12 60\n" ++ lines 17 (text "0 4 0 0\n")) ∷ []) ++ map (told 143) ((text "12 60\n" ++ lines 17 (text "0 4 0 0\n")) ∷ [])
    ≡ Err BadMap ∷ Err BadText ∷ []
unfolding writing_of has_form plan_of read_of image_of flat_map map_good every header_good filler_good entry_good place_good all_below u16_at
counts = refl

-- the longest text of sixteen
longest : length (text "65535 65535\n" ++ lines 16 (text "65535 65535 65535 65535\n")) ≡ 396
unfolding flat_map
longest = refl

-- The words of a small array, by computation. Assumes nothing.
use Rattle.std.specs.Prelude.{◌≡◌, refl, true, false, List, [], ◌∷◌, ◌++◌, map, Option, None}
use Rattle.laws.specs.Below.{first_from}
use Rattle.endian.specs.Endian.{u16_at}
use Rattle.map.specs.Image.{image, entry}
use Rattle.word.specs.Word.{some_word, word_in, is_held_at, word_at}
use Rattle.word.specs.declared.Word.{Word}
use Rattle.word.specs.declared.Role.TheVariants.{Data, Digest, Indicator}

-- a slot of pairs, a gap, and a zeroizable software partition: the word at each of 16 cells
words : List (Option Word)
words = map (word_at (image 2 16 60 8 [] (entry 0 6 0 7 ++ entry 8 8 1 1))) (0 ∷ 1 ∷ 2 ∷ 3 ∷ 4 ∷ 5 ∷ 6 ∷ 7 ∷ 8 ∷ 9 ∷ 10 ∷ 11 ∷ 12 ∷ 13 ∷ 14 ∷ 15 ∷ 16 ∷ [])

word_table :
    words
    ≡ some_word 0 Data true ∷ None ∷ some_word 0 Digest true ∷ None ∷ some_word 0 Indicator true ∷ None
    ∷ None ∷ None
    ∷ some_word 1 Data false ∷ some_word 1 Data false ∷ some_word 1 Data false ∷ some_word 1 Data false ∷ some_word 1 Digest true ∷ None ∷ some_word 1 Indicator true ∷ None
    ∷ None
    ∷ []
unfolding words word_at word_in is_held_at first_from u16_at
word_table = refl

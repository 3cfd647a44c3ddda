-- The line of each reason, by computation, under the bound 60, and a refusal in words. Assumes nothing.
use Rattle.std.specs.Prelude.{◌≡◌, refl, [], ◌∷◌, ◌++◌, map}
use Rattle.reason.specs.declared.Reason.TheVariants.{Available, NoSlot, AllErased, Blank, Torn}
use Rattle.text.specs.Text.{text, decimal}
use Rattle.wording.specs.Wording.{refused_words, pair_words, reason_line}

lines :
    map (reason_line 60) (Available ∷ NoSlot ∷ AllErased ∷ Blank 15 ∷ Torn 1 2044 59 ∷ [])
    ≡ text "hek available\n"
    ∷ text "hek none: the map has no slot\n"
    ∷ text "hek none: every slot is erased\n"
    ∷ text "hek none: the active slot, partition 15, is blank: it holds no seed\n"
    ∷ text "hek none: the active slot, partition 1, is torn: the pair at cell 2044 has 59 of 64 fuses set, at least 60 are needed\n"
    ∷ []
unfolding decimal pair_words
lines = refl

refused : refused_words 2 ≡ text "refused 2"
unfolding decimal
refused = refl

refused_and_line_feed : refused_words 2 ++ text "\n" ≡ text "refused 2\n"
unfolding decimal
refused_and_line_feed = refl

-- The cache's places, by computation. Assumes nothing.
use Rattle.std.specs.Prelude.{ℕ, ◌≡◌, refl, true, false, List, [], ◌∷◌, ◌++◌, map, replicate}
use Rattle.laws.specs.Below.{first_from}
use Rattle.cache.specs.Cache.{empty, held, unsure, cache_of, is_at, lowest_place, has_place, busy, place_at}
use Rattle.cache.specs.Cache.{placed, turned_below, waiting_at, clearing, settled, emptied}
use Rattle.cache.specs.declared.Place.TheVariants.{Empty as EmptyPlace, Waiting as WaitingPlace, Held as HeldPlace, Unsure as UnsurePlace}
use Rattle.cache.specs.declared.Sought.TheVariants.{Empty, Occupied, Waiting, Unsure, Tag}

-- contexts: the first kinds and tags, the awaited reply, and a word behind the cache
abbrev with : (kinds tags : List ℕ) (awaited : ℕ) → List ℕ
with kinds tags awaited = (kinds ++ replicate 12 0) ++ (tags ++ replicate 12 0) ++ (awaited ∷ 5 ∷ [])

-- places 0 held, 2 unsure and 3 held, 2 and 3 under the same tag; an empty place's tag counts for nothing
abbrev some : List ℕ
some = with (1 ∷ 0 ∷ 3 ∷ 1 ∷ []) (7 ∷ 9 ∷ 8 ∷ 8 ∷ []) 0

lowest : map (lowest_place (cache_of some)) (Empty ∷ Occupied ∷ Waiting ∷ Unsure ∷ Tag 8 ∷ Tag 9 ∷ []) ≡ 1 ∷ 0 ∷ 16 ∷ 2 ∷ 2 ∷ 16 ∷ []
unfolding cache_of is_at first_from
lowest = refl

-- a full cache has no empty place, an empty one no occupied place
has :
    has_place (cache_of (replicate 16 1 ++ replicate 16 5)) Empty ∷ has_place (cache_of []) Occupied ∷ has_place (cache_of []) (Tag 0) ∷ []
    ≡ false ∷ false ∷ false ∷ []
unfolding cache_of is_at first_from
has = refl

-- a load, an unload and a clear wait, each for its reply
load : waiting_at 1 6 2 some ≡ with (1 ∷ 2 ∷ 3 ∷ 1 ∷ []) (7 ∷ 6 ∷ 8 ∷ 8 ∷ []) 2
unfolding placed
load = refl

unload : waiting_at 0 7 3 some ≡ with (2 ∷ 0 ∷ 3 ∷ 1 ∷ []) (7 ∷ 9 ∷ 8 ∷ 8 ∷ []) 3
unfolding placed
unload = refl

clear : clearing some ≡ with (2 ∷ 0 ∷ 2 ∷ 2 ∷ []) (7 ∷ 9 ∷ 8 ∷ 8 ∷ []) 1
unfolding placed turned_below cache_of is_at
clear = refl

-- their replies: a load's done, a clear's done, and any other
replies :
    settled held (waiting_at 1 6 2 some) ∷ settled empty (clearing some) ∷ settled unsure (waiting_at 0 7 3 some) ∷ []
    ≡ with (1 ∷ 1 ∷ 3 ∷ 1 ∷ []) (7 ∷ 6 ∷ 8 ∷ 8 ∷ []) 0
    ∷ with (0 ∷ 0 ∷ 0 ∷ 0 ∷ []) (0 ∷ 9 ∷ 0 ∷ 0 ∷ []) 0
    ∷ with (3 ∷ 0 ∷ 3 ∷ 1 ∷ []) (7 ∷ 9 ∷ 8 ∷ 8 ∷ []) 0
    ∷ []
unfolding placed turned_below cache_of is_at
replies = refl

-- a place as it is read: of each kind, and past the last
reads :
    map (place_at (cache_of (with (1 ∷ 0 ∷ 2 ∷ 3 ∷ []) (7 ∷ 9 ∷ 8 ∷ 6 ∷ []) 0))) (0 ∷ 1 ∷ 2 ∷ 3 ∷ 16 ∷ [])
    ≡ HeldPlace 7 ∷ EmptyPlace ∷ WaitingPlace 8 ∷ UnsurePlace 6 ∷ EmptyPlace ∷ []
unfolding cache_of
reads = refl

-- numbers that we never write: a place of such a kind is unsure, such an awaited reply is awaited
unknown :
    (place_at (cache_of (with (9 ∷ 0 ∷ 0 ∷ 0 ∷ []) (7 ∷ 0 ∷ 0 ∷ 0 ∷ []) 0)) 0 ≡ UnsurePlace 7)
    × (has_place (cache_of (with (9 ∷ 0 ∷ 0 ∷ 0 ∷ []) (7 ∷ 0 ∷ 0 ∷ 0 ∷ []) 0)) Unsure ≡ true)
    × (busy (cache_of (with (replicate 4 0) (replicate 4 0) 9)) ≡ true)
unfolding cache_of is_at first_from
unknown = (refl, refl, refl)

-- a cut or a restart leaves what lies behind the cache
restart : emptied (clearing some) ≡ replicate 33 0 ++ (5 ∷ [])
unfolding emptied placed turned_below cache_of is_at
restart = refl

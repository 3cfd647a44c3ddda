-- What each place and the awaited reply are after an order or a reply, in a context that has the words of the cache, as an array of them
-- has. Assumes nothing.
-- The theorems stand in proofs/After.antt.
use Rattle.std.specs.Prelude.{ℕ, ◌≤◌, ◌≡◌, List, length}
use Rattle.cache.specs.Cache.{cache_of, kind_in, tag_in}
use Rattle.cache.specs.Cache.{cache_words}

-- the words of the cache are there
abbrev pub Long : (context : List ℕ) → Type 0
Long context = cache_words ≤ length context

-- a place has this kind and this tag
pub record Is (context : List ℕ) (j kind tag : ℕ) : Type 0 where
  pub kind_is_lem : kind_in (cache_of context) j ≡ kind
  pub tag_is : tag_in (cache_of context) j ≡ tag

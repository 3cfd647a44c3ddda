-- Document 01, "Direct commands" and demand 2: what no answer shows, and when a key is loaded. Assumes nothing.
-- The theorems stand in proofs/Secrets.antt and proofs/Shown.antt.
use Rattle.std.specs.Prelude.{ℕ, ◌+◌, ◌-◌, ◌≤◌, ◌<◌, ◌≡◌, Bool, List, Result, Ok, Err}
use Rattle.std.proofs.Math.Bool.{true, false}
use Rattle.refusal.specs.declared.Refusal.{Refusal}
use Rattle.map.specs.Map.{header_of, entry_of, secret}
use Rattle.fuse.specs.Fuse.{ones_of, cells_in}
use Rattle.word.specs.declared.Role.{Role}
use Rattle.word.specs.Word.{holds, word_at, some_word}
use Rattle.direct.specs.declared.Answer.{Answer}
use Rattle.direct.specs.declared.Answer.TheVariants.{Word as Shown, Burned, Done, Withheld}
use Rattle.direct.specs.Direct.{word_of}

-- an answer that shows a word
abbrev pub shows : Result Answer Refusal → Bool
shows (Ok (Shown word)) = true
shows (Ok (Burned word new)) = true
shows (Ok Done) = false
shows (Ok Withheld) = false
shows (Err r) = false

-- the word that an answer shows, 0 where it shows none
abbrev pub shown_word : Result Answer Refusal → ℕ
shown_word (Ok (Shown word)) = word
shown_word (Ok (Burned word new)) = word
shown_word (Ok Done) = 0
shown_word (Ok Withheld) = 0
shown_word (Err r) = 0

-- an answer that tells how many fuses were newly set (request P8)
abbrev pub tells_new : Result Answer Refusal → Bool
tells_new (Ok (Shown word)) = false
tells_new (Ok (Burned word new)) = true
tells_new (Ok Done) = false
tells_new (Ok Withheld) = false
tells_new (Err r) = false

-- the number of zeros of a word of 64 bits
abbrev pub zeros_of : ℕ → ℕ
zeros_of word = 64 - ones_of word

-- ---- READ

-- an answer shows the word that starts at the cell, in a partition that is not secret, and no cell of it lies in a secret one
pub record Open (image cells : List ℕ) (cell : ℕ) (answer : Result Answer Refusal) : Type 0 where
  pub partition : ℕ
  pub role : Role
  pub wide : Bool
  pub starts : word_at image cell ≡ some_word partition role wide
  pub is_word : answer ≡ Ok (Shown (word_of wide cell cells))
  pub is_open : secret (entry_of image partition) ≡ false
  pub no_secret : (j k : ℕ) → j < (header_of image).partitions → secret (entry_of image j) ≡ true → cell ≤ k → k < cell + cells_in wide → holds (entry_of image j) k ≡ false

-- the words of secret partitions
pub record Secret (image : List ℕ) (cell : ℕ) : Type 0 where
  pub partition : ℕ
  pub role : Role
  pub wide : Bool
  pub starts : word_at image cell ≡ some_word partition role wide
  pub is_secret : secret (entry_of image partition) ≡ true

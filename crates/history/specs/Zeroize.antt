-- Request P7: "State once, over both guides, what the fuses hold afterwards" of a ZEROIZE, and that "Withholding stays": in that claim the
-- flag does not occur; its theorem is `zeroize_leaves`. What is answered, the word by the flag and beside it, by request P8, the fuses newly set, is
-- `zeroize_answers`. Assumes nothing.
-- The theorems stand in proofs/Zeroize.antt.
use Rattle.std.specs.Prelude.{ℕ, ◌+◌, ◌≤◌, ◌<◌, ◌≡◌, ◌⊎◌, Bool, List, length, get_or, Ok}
use Rattle.std.proofs.Math.Bool.{true}
use Rattle.std.specs.Int.Bits.{bit_or}
use Rattle.context.specs.State.{State}
use Rattle.map.specs.Map.{header_of, entry_of, secret}
use Rattle.fuse.specs.Fuse.{free, ones_of, cells_in}
use Rattle.word.specs.declared.Role.{Role}
use Rattle.word.specs.Word.{word_at, some_word}
use Rattle.direct.specs.declared.Command.TheVariants.{Zeroize}
use Rattle.direct.specs.declared.Answer.TheVariants.{Withheld}
use Rattle.direct.specs.Direct.{word_of}
use Rattle.history.specs.Calls.{Direct, Told, Answering, told, refusal, after}

-- a ZEROIZE that is carried out, whether its word is shown or withheld
pub record Zeroized (image marks : List ℕ) (cell : ℕ) (before now : State) (answer : Told) : Type 0 where
  -- the word that it names
  pub partition : ℕ
  pub role : Role
  pub wide : Bool
  pub starts : word_at image cell ≡ some_word partition role wide
  -- each fuse of it is set that was set or is not stuck, and all else is as it was
  pub burned : (j : ℕ) → cell ≤ j → j < cell + cells_in wide → get_or now.cells j 0 ≡ bit_or (get_or before.cells j 0) (free (get_or marks j 0))
  pub beside : (j : ℕ) → (j < cell) ⊎ (cell + cells_in wide ≤ j) → get_or now.cells j 0 ≡ get_or before.cells j 0
  pub as_many : length now.cells ≡ length before.cells
  pub same_context : now.context ≡ before.context
  -- "Withholding stays": it is withheld exactly where the partition is secret and the word has fewer ones than B, as it stands
  pub hidden : answer ≡ Answering (Ok Withheld) → (secret (entry_of image partition) ≡ true) × (ones_of (word_of wide cell now.cells) < (header_of image).bound)
  pub hides : secret (entry_of image partition) ≡ true → ones_of (word_of wide cell now.cells) < (header_of image).bound → answer ≡ Answering (Ok Withheld)

-- every ZEROIZE is refused, and nothing changes, or is carried out
pub record ZeroizeLeaves (image marks : List ℕ) (cell : ℕ) (s : State) : Type 0 where
  pub refused : 1 ≤ refusal (told image marks (Direct (Zeroize cell)) s) → after image marks (Direct (Zeroize cell)) s ≡ s
  pub carried : refusal (told image marks (Direct (Zeroize cell)) s) ≡ 0
      → Zeroized image marks cell s (after image marks (Direct (Zeroize cell)) s) (told image marks (Direct (Zeroize cell)) s)

-- Request P5: no sequence locks the block for good. From every state that calls, replies, cuts and restarts reach from an empty context, on
-- a drive that 1 and 2 do not refuse, any reply, then CLKC, then done lead back to an empty cache. Assumes nothing.
-- The theorems stand in proofs/Recovery.antt.
use Rattle.std.specs.Prelude.{ℕ, List, [], ◌∷◌, ◌++◌, replicate}
use Rattle.endian.specs.Endian.{bytes4}
use Rattle.engine.specs.declared.EngineReply.{EngineReply}
use Rattle.engine.specs.declared.EngineReply.TheVariants.{Done}
use Rattle.codec.specs.declared.Command.TheVariants.{Clkc}
use Rattle.codec.specs.Fields.{code_of}
use Rattle.history.specs.Calls.{Call, Mailbox, TakeReply}

-- CLKC with a timeout of 1,000 and its chksum, and buffers that are long enough
abbrev pub request : List ℕ
request = bytes4 0xFFFF_FDF8 ++ bytes4 0 ++ bytes4 1000

abbrev pub room : ℕ
room = 40

abbrev pub clkc : Call
clkc = Mailbox (code_of Clkc) request (replicate room 0) (replicate 128 0)

-- any reply, which is refused where none is awaited; CLKC; done
abbrev pub recovering : EngineReply → List Call
recovering reply = TakeReply reply ∷ clkc ∷ TakeReply Done ∷ []

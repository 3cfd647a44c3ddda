-- The calls of all entry points, what each tells its caller, and what it leaves for the next one, by the definitions that the entry
-- points' contracts equal. Assumes nothing.
use Rattle.std.specs.Prelude.{ℕ, Bool, List, [], ◌∷◌, take, Result, Ok, Err, ⊤}
use Rattle.refusal.specs.declared.Refusal.{Refusal}
use Rattle.refusal.specs.Numbers.{number}
use Rattle.context.specs.State.{State, Outcome, outcome, telling, on_context}
use Rattle.cache.specs.Cache.{cache_of, has_place}
use Rattle.cache.specs.declared.Sought.TheVariants.{Occupied}
use Rattle.handles.specs.Making.{making_of}
use Rattle.direct.specs.declared.Command.{Command}
use Rattle.direct.specs.declared.Answer.{Answer}
use Rattle.direct.specs.Direct.{direct_of}
use Rattle.erasure.specs.Erasure.{Told as Erasure, erasure_of, cut_erasure_of, restarted}
use Rattle.mailbox.specs.declared.Reply.{Reply}
use Rattle.mailbox.specs.Mailbox.{Lent, lent, mailbox_of}
use Rattle.engine.specs.declared.Order.{Order}
use Rattle.engine.specs.declared.Order.TheVariants.{Nothing}
use Rattle.engine.specs.declared.EngineReply.{EngineReply}
use Rattle.reply.specs.Reply.{taking_of}

-- a place is not empty in a state
abbrev pub occupied : State → Bool
occupied s = has_place (cache_of s.context) Occupied

-- a call of an entry point, with everything that it is lent besides the drive and the context
pub data Call : Type 0 where
  Direct : Command → Call
  Erase : (i : ℕ) → Call
  EraseCut : (i k mask : ℕ) → Call
  Mailbox : (code : ℕ) (request response block : List ℕ) → Call
  TakeReply : EngineReply → Call
  MakeTable : (handles algorithms : List ℕ) → Call
  Restart : Call

-- what it tells: a direct command's answer, an erasure's, the mailbox's reply with the bytes of the response, what came of the engine's
-- reply or of a table, or nothing
pub data Told : Type 0 where
  Answering : Result Answer Refusal → Told
  Erasing : Erasure → Told
  Replying : Result Reply Refusal → (response : List ℕ) → Told
  Taking : Result ⊤ Refusal → Told
  Making : Result ⊤ Refusal → Told
  Silent : Told

-- the bytes of a response
abbrev pub length_in : Result Reply Refusal → ℕ
length_in (Ok reply) = reply.length
length_in (Err r) = 0

-- the order that a reply gives the engine
abbrev pub order_in : Result Reply Refusal → Order
order_in (Ok reply) = reply.order
order_in (Err r) = Nothing

-- a call of the mailbox tells its reply and its response, which is no longer than the reply says
abbrev pub replying : Outcome (Result Reply Refusal) Lent → Outcome Told State
replying o = outcome (Replying o.told (take (length_in o.told) o.after.response)) o.after.state

-- what a call tells and leaves
abbrev pub outcome_of : (image marks : List ℕ) → Call → State → Outcome Told State
outcome_of image marks (Direct command) s = telling Answering (direct_of image marks command s)
outcome_of image marks (Erase i) s = telling Erasing (erasure_of image marks i s)
outcome_of image marks (EraseCut i k mask) s = telling Erasing (cut_erasure_of image marks i k mask s)
outcome_of image marks (Mailbox code request response block) s = replying (mailbox_of image marks code request (lent s response block))
outcome_of image marks (TakeReply reply) s = telling Taking (on_context s (taking_of reply s.context))
outcome_of image marks (MakeTable handles algorithms) s = telling Making (on_context s (making_of handles algorithms s.context))
outcome_of image marks Restart s = outcome Silent (restarted s)

-- its two halves
abbrev pub told : (image marks : List ℕ) → Call → State → Told
told image marks call s = (outcome_of image marks call s).told

abbrev pub after : (image marks : List ℕ) → Call → State → State
after image marks call s = (outcome_of image marks call s).after

-- the refusal's number, 0 where the call was not refused
abbrev pub refusal : Told → ℕ
refusal (Answering (Ok answer)) = 0
refusal (Answering (Err r)) = number r
refusal (Erasing (Ok answer)) = 0
refusal (Erasing (Err refused)) = number refused.refusal
refusal (Replying (Ok reply) response) = 0
refusal (Replying (Err r) response) = number r
refusal (Taking (Ok done)) = 0
refusal (Taking (Err r)) = number r
refusal (Making (Ok done)) = 0
refusal (Making (Err r)) = number r
refusal Silent = 0

-- "each call gets the cells and cache that the one before left, refused or not"
abbrev pub after_all : (image marks : List ℕ) → List Call → State → State
after_all image marks [] s = s
after_all image marks (call ∷ calls) s = after_all image marks calls (after image marks call s)

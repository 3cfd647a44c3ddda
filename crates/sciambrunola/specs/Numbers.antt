-- The answers as numbers, for C: each case of a partition's fields, a map's text, a listing, a reason, a place, a table that is made, an
-- answer, a reply, an engine order; and the engine's reply from its number. Assumes nothing.
use Rattle.std.specs.Prelude.{ℕ, cond, eqb, ⊤, Result, Ok, Err}
use Rattle.refusal.specs.declared.Refusal.{Refusal}
use Rattle.refusal.specs.Numbers.{number}
use Rattle.cache.specs.declared.Place.{Place}
use Rattle.cache.specs.declared.Place.TheVariants.{Empty, Waiting, Held, Unsure}
use Rattle.engine.specs.declared.Order.{Order}
use Rattle.engine.specs.declared.Order.TheVariants.{Nothing, Clear, Load, Unload}
use Rattle.engine.specs.declared.EngineReply.{EngineReply}
use Rattle.engine.specs.declared.EngineReply.TheVariants.{Done as EngineDone, TimedOut, Failed}
use Rattle.map.specs.declared.Header.{Header}
use Rattle.map.specs.declared.Entry.{Entry}
use Rattle.reader.specs.declared.Fields.{Fields}
use Rattle.reason.specs.declared.Reason.{Reason}
use Rattle.reason.specs.declared.Reason.TheVariants.{Available, NoSlot, AllErased, Blank, Torn}
use Rattle.direct.specs.declared.Answer.{Answer}
use Rattle.direct.specs.declared.Answer.TheVariants.{Word, Burned, Done, Withheld}
use Rattle.erasure.specs.declared.Answer.TheVariants.{Ended, Cut}
use Rattle.erasure.specs.Erasure.{Told}
use Rattle.mailbox.specs.declared.Reply.{Reply}
use Rattle.sciambrunola.specs.declared.numbers.SciFields.{SciFields}
use Rattle.sciambrunola.specs.declared.numbers.SciWritten.{SciWritten}
use Rattle.sciambrunola.specs.declared.numbers.SciListing.{SciListing}
use Rattle.sciambrunola.specs.declared.reasons.SciReason.{SciReason}
use Rattle.sciambrunola.specs.declared.numbers.SciPlace.{SciPlace}
use Rattle.sciambrunola.specs.declared.numbers.SciAnswer.{SciAnswer}
use Rattle.sciambrunola.specs.declared.numbers.SciErasure.{SciErasure}
use Rattle.sciambrunola.specs.declared.numbers.SciReply.{SciReply}

-- the header's P, C and B, then the entry's "first cell", "cells n", kind and flags
abbrev pub fields_numbers : Result Fields Refusal → SciFields
fields_numbers (Ok fields) =
    let header : Header = fields.header in
    let entry : Entry = fields.entry in
    record {
      refusal = 0;
      partitions = header.partitions;
      cells = header.cells;
      bound = header.bound;
      first = entry.first;
      length = entry.n;
      kind = entry.kind;
      flags = entry.flags;
    }
fields_numbers (Err refusal) = record { refusal = number refusal; partitions = 0; cells = 0; bound = 0; first = 0; length = 0; kind = 0; flags = 0 }

-- request P2: how long the image is that was written
abbrev pub written_numbers : Result ℕ Refusal → SciWritten
written_numbers (Ok bytes) = record { refusal = 0; bytes = bytes }
written_numbers (Err refusal) = record { refusal = number refusal; bytes = 0 }

-- how many partitions were listed
abbrev pub listing_numbers : Result ℕ Refusal → SciListing
listing_numbers (Ok partitions) = record { refusal = 0; partitions = partitions }
listing_numbers (Err refusal) = record { refusal = number refusal; partitions = 0 }

-- request P1's reasons, by numbers of ours, each with the values that it has: "both with the partition, torn also with its first short
-- pair and that pair's ones"
abbrev pub bare_reason : (kind refusal : ℕ) → SciReason
bare_reason kind refusal = record { kind = kind; refusal = refusal; partition = 0; cell = 0; ones = 0 }

abbrev pub reason_numbers : Result Reason Refusal → SciReason
reason_numbers (Ok Available) = bare_reason 0 0
reason_numbers (Ok NoSlot) = bare_reason 1 0
reason_numbers (Ok AllErased) = bare_reason 2 0
reason_numbers (Ok (Blank partition)) = record { kind = 3; refusal = 0; partition = partition; cell = 0; ones = 0 }
reason_numbers (Ok (Torn partition cell ones)) = record { kind = 4; refusal = 0; partition = partition; cell = cell; ones = ones }
reason_numbers (Err refusal) = bare_reason 5 (number refusal)

-- "each empty or holding a 64-bit tag"; by request P5 "empty, waiting, held or unsure"
abbrev pub place_numbers : Place → SciPlace
place_numbers Empty = record { kind = 0; tag = 0 }
place_numbers (Held tag) = record { kind = 1; tag = tag }
place_numbers (Waiting tag) = record { kind = 2; tag = tag }
place_numbers (Unsure tag) = record { kind = 3; tag = tag }

-- "the answer is a word, done, withheld, or refused with its number"; by request P8 a word that was burned has the fuses newly set beside
-- it, and where an answer has no such number it is 0
abbrev pub answer_numbers : Result Answer Refusal → SciAnswer
answer_numbers (Ok (Word word)) = record { kind = 0; refusal = 0; word = word; new = 0 }
answer_numbers (Ok (Burned word new)) = record { kind = 0; refusal = 0; word = word; new = new }
answer_numbers (Ok Done) = record { kind = 1; refusal = 0; word = 0; new = 0 }
answer_numbers (Ok Withheld) = record { kind = 2; refusal = 0; word = 0; new = 0 }
answer_numbers (Err refusal) = record { kind = 3; refusal = number refusal; word = 0; new = 0 }

-- "the number of short pairs .. and the first cell of the lowest one .. and the number of burns"; "it was cut and the burns carried out";
-- refused, and "one burn is reported" for 15. Request P8: "erasures add it up, cut ones included", and a refusal reports 0
abbrev pub erasure_numbers : Told → SciErasure
erasure_numbers (Ok (Ended short first burns new)) = record { kind = 0; refusal = 0; short = short; first = first; burns = burns; new = new }
erasure_numbers (Ok (Cut burns new)) = record { kind = 1; refusal = 0; short = 0; first = 0; burns = burns; new = new }
erasure_numbers (Err refused) = record { kind = 2; refusal = number refused.refusal; short = 0; first = 0; burns = refused.burns; new = 0 }

-- "none, or clear with the timeout, or load or unload with place and timeout"
abbrev pub order_numbers : (length : ℕ) → Order → SciReply
order_numbers length Nothing = record { refusal = 0; length = length; order = 0; place = 0; timeout = 0 }
order_numbers length (Clear timeout) = record { refusal = 0; length = length; order = 1; place = 0; timeout = timeout }
order_numbers length (Load place timeout) = record { refusal = 0; length = length; order = 2; place = place; timeout = timeout }
order_numbers length (Unload place timeout) = record { refusal = 0; length = length; order = 3; place = place; timeout = timeout }

-- "Besides the response length the answer holds the engine order"; on refusal "the engine order is none"
abbrev pub reply_numbers : Result Reply Refusal → SciReply
reply_numbers (Ok reply) = order_numbers reply.length reply.order
reply_numbers (Err refusal) = record { refusal = number refusal; length = 0; order = 0; place = 0; timeout = 0 }

-- request P5, the engine's reply: "done, timed out, or failed with a vendor number"; a number that is none of the three counts as failed
abbrev pub engine_reply : (number vendor : ℕ) → EngineReply
engine_reply number vendor = cond (eqb number 1) EngineDone (cond (eqb number 2) TimedOut (Failed vendor))

-- request P5, a reply of the engine, and request P6, a table: that it was taken and that it was made, or the refusal's number
abbrev pub done_number : Result ⊤ Refusal → ℕ
done_number (Ok tt) = 0
done_number (Err refusal) = number refusal

-- Document 01, "Refusal numbers", with 16 of request P2, 17 to 19 of P5, 20 and 21 of P6. Assumes nothing.
use Rattle.std.specs.Prelude.{ℕ, ◌≤◌}
use Rattle.std.proofs.Common.{arith}
use Rattle.refusal.specs.declared.Refusal.{Refusal}
use Rattle.refusal.specs.declared.Refusal.TheVariants.{BadMap, BadLent, UnknownCode, WrongLength, WrongChksum, ReservedNotZero, NotThere, NotAllowed}
use Rattle.refusal.specs.declared.Refusal.TheVariants.{ClearsFuse, SlotInUse, HekNotAvailable, TagHeld, NoEmptyPlace, TagNotHeld, NotMarked, BadText}
use Rattle.refusal.specs.declared.Refusal.TheVariants.{EngineBusy, PlaceUnsure, NoReplyAwaited, NoSuchHandle, NumbersUsedUp}

-- "no | meaning": the number of each refusal
abbrev pub number : Refusal → ℕ
-- "map breaks a rule above"
number BadMap = 1
-- "cells or marks not C long; for the mailbox also block not 128 or response buffer under 20 bytes" (40 since P6); P6: "a table count outside
-- 1 to 3"; ours: a table that cannot be made
number BadLent = 2
-- "unknown code"
number UnknownCode = 3
-- "request not its exact length"
number WrongLength = 4
-- "wrong chksum"
number WrongChksum = 5
-- "reserved not zero"
number ReservedNotZero = 6
-- "no such partition, or the cell starts no word"
number NotThere = 7
-- "the command may not touch it (FERS: not zeroizable)"
number NotAllowed = 8
-- "WRITE would clear a fuse"
number ClearsFuse = 9
-- "slot change while keys are held"
number SlotInUse = 10
-- "KLOD, HEK not available"
number HekNotAvailable = 11
-- "KLOD, tag held already"
number TagHeld = 12
-- "KLOD, no empty place"
number NoEmptyPlace = 13
-- "KUNL, tag not held"
number TagNotHeld = 14
-- P4: "given exactly when no indicator fuse is set after its burn"
number NotMarked = 15
-- P2: "text not of that form or output buffer too short"
number BadText = 16
-- P5: "a mailbox command other than FSTA while a reply is awaited or a place waits"
number EngineBusy = 17
-- P5: "KLOD or KUNL while a place is unsure"
number PlaceUnsure = 18
-- P5: "a reply when none is awaited"
number NoReplyAwaited = 19
-- P6: "no such handle"
number NoSuchHandle = 20
-- P6: "numbers used up"
number NumbersUsedUp = 21

-- none is 0: that is told where nothing is refused
pub not_0 : (r : Refusal) → 1 ≤ number r
not_0 BadMap = omega arith
not_0 BadLent = omega arith
not_0 UnknownCode = omega arith
not_0 WrongLength = omega arith
not_0 WrongChksum = omega arith
not_0 ReservedNotZero = omega arith
not_0 NotThere = omega arith
not_0 NotAllowed = omega arith
not_0 ClearsFuse = omega arith
not_0 SlotInUse = omega arith
not_0 HekNotAvailable = omega arith
not_0 TagHeld = omega arith
not_0 NoEmptyPlace = omega arith
not_0 TagNotHeld = omega arith
not_0 NotMarked = omega arith
not_0 BadText = omega arith
not_0 EngineBusy = omega arith
not_0 PlaceUnsure = omega arith
not_0 NoReplyAwaited = omega arith
not_0 NoSuchHandle = omega arith
not_0 NumbersUsedUp = omega arith

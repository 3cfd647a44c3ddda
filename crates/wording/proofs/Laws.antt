-- The laws of the desk's line: every number of it has at most four digits, and the line is that of the reason found. Assumes nothing.
use Rattle.std.specs.Prelude.{ℕ, ◌≡◌, true, List}
use Rattle.std.proofs.Common.{arith}
use Rattle.laws.specs.Tests.{cond_keeps}
use Rattle.map.specs.declared.Header.{Header}
use Rattle.map.specs.Map.{header_of, map_good}
use Rattle.map.proofs.Laws.{map_header}
use Rattle.drive.specs.Drive.{active_slot}
use Rattle.drive.specs.declared.ActiveSlot.{ActiveSlot}
use Rattle.drive.specs.declared.ActiveSlot.TheVariants.{Programmed as ProgrammedSlot, Blank as BlankSlot, Torn as TornSlot, Absent}
use Rattle.drive.specs.Active.{Means, active_means}
use Rattle.reason.specs.declared.Reason.{Reason}
use Rattle.reason.specs.declared.Reason.TheVariants.{NoSlot, AllErased}
use Rattle.reason.specs.Reason.{no_slot, reason_by, reason_in}
use Rattle.reason.proofs.Laws.{fits}
use Rattle.wording.specs.Wording.{reason_line, why_line, SmallReason}

module _ (image cells : List ℕ) where
  small_by : map_good image ≡ true → (found : ActiveSlot) → Means image cells found → SmallReason (reason_by image cells found)
  small_by good (ProgrammedSlot i) a = tt
  small_by good (BlankSlot i) a = omega (arith, a.within, (map_header image good).partitions_most)
  small_by good (TornSlot i) a =
      let pair = fits image cells i a good in
      (omega (arith, a.within, (map_header image good).partitions_most), omega (arith, pair.0), omega (arith, pair.1))
  small_by good Absent a = cond_keeps SmallReason (no_slot image) NoSlot AllErased (λ _. tt) (λ _. tt)

  pub small_reason : map_good image ≡ true → {reason : Reason} → reason ≡ reason_in image cells → SmallReason reason
  unfolding reason_in
  small_reason good e = rw e (small_by good (active_slot image cells) (active_means image cells))

  pub why_is : {header : Header} {reason : Reason} → header ≡ header_of image → reason ≡ reason_in image cells
      → reason_line header.bound reason ≡ why_line image cells
  unfolding why_line
  why_is h e = rw (h, e)

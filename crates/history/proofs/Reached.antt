-- Demand 3: what holds of every state that a history reaches, and that an attempt keeps it. What any number of runs leaves of a
-- partition is `burns` `Safe`. Assumes nothing.
use Rattle.std.specs.Prelude.{ℕ, ◌%◌, ◌≤◌, ◌<◌, ◌≡◌, ◌⊎◌, Bool, List, length, get_or}
use Rattle.std.proofs.Math.Path.{refl}
use Rattle.std.proofs.Common.{sym, ap, ◌∙◌, ⊎_elim, arith}
use Rattle.context.specs.State.{State, with_cells}
use Rattle.map.specs.Map.{header_of, entry_of, end_before, software}
use Rattle.map.specs.Laws.{EntryRules}
use Rattle.map.proofs.Laws.{map_entry}
use Rattle.drive.specs.Drive.{Whole as WholeDrive, cells_of}
use Rattle.cache.specs.Cache.{cache_of, AtRest}
use Rattle.burns.specs.declared.End.{End}
use Rattle.burns.specs.declared.End.TheVariants.{Whole, Stopped, Cut as CutEnd}
use Rattle.burns.specs.Run.{Tally, tally_of, Ran, run}
use Rattle.burns.specs.Cells.{full}
use Rattle.burns.specs.Safe.{Alike, Safe}
use Rattle.burns.proofs.Safe.{safe_start, safe_run, run_alike, run_full, run_cells, filled_kept}
use Rattle.erasure.specs.Erasure.{Told as Erasure, run_on, answer_by, ran_of}
use Rattle.erasure.proofs.Laws.{part_long}
use Rattle.erasure.specs.Parts.{Outside}
use Rattle.erasure.proofs.Parts.{run_part_lem, run_outside, run_length, same_array}
use Rattle.erasure.proofs.Cuts.{whole_by}
use Rattle.history.proofs.Refused.{refused_unchanged}
use Rattle.history.specs.Calls.{Call, Told, told, refusal, after}
use Rattle.history.specs.Demand3.{Attempt, Uncut, Alone, call_alone, start_alone, numberless, compared}
use Rattle.history.proofs.Forms.{as_lent, Ready, whole_at, run_from, Form, refuses, runs}
use Rattle.history.specs.Forms.{Quiet}
use Rattle.history.proofs.Attempts.{form, rest_after}
use Rattle.history.specs.Attempts.{Rested}

-- two runs end alike, after as many burns, and leave the same cells
record SameRun (r q : Ran) : Type 0 where
  alike : Alike r q
  cells_same : r.tally.cells ≡ q.tally.cells

-- so they answer the same but for the fuses newly set
answers_same : (image : List ℕ) (i : ℕ) (r q : Ran) → SameRun r q → numberless (ran_of image i r).told ≡ numberless (ran_of image i q).told
answers_same image i r q same = by r.end r.tally ∙ rw (same.alike.end, same.alike.burns, same.cells_same) refl ∙ sym (by q.end q.tally)
  where
    by : (end : End) (t : Tally) → numberless (answer_by end image i t) ≡ numberless (answer_by end image i (tally_of t.cells t.burns 0))
    by Whole t = refl
    by Stopped t = refl
    by CutEnd t = refl

module _ (image marks : List ℕ) (i : ℕ) (start : State) where
  abbrev cells : List ℕ
  cells = start.cells

  -- the partition's cells of an array
  abbrev pub part : (array : List ℕ) → List ℕ
  part array = cells_of image array i

  -- its cells are safe, all others as at the start; and all of them, where nothing gets past the tests
  pub record Reached (s : State) : Type 0 where
    pub quiet : Quiet start s
    pub outside : (j : ℕ) → Outside image i j → get_or s.cells j 0 ≡ get_or cells j 0
    pub safe : Safe (part marks) (part cells) (part s.cells)
    pub still : (Ready image marks i start → ⊥) → s.cells ≡ cells

  pub reached_start : AtRest (cache_of start.context) → Reached start
  reached_start h = record {
    quiet = record { long = refl; rest = h; table = refl };
    outside = λ j o. refl;
    safe = safe_start (part marks) (part cells);
    still = λ unready. refl;
  }

  pub reached_same : (s t : State) → Reached s → t.cells ≡ s.cells → Rested s.context t.context → Reached t
  reached_same s t r e h = record {
    quiet = record { long = ap length e ∙ r.quiet.long; rest = h.rest; table = h.table ∙ r.quiet.table };
    outside = λ j o. ap (λ (c : List ℕ). get_or c j 0) e ∙ r.outside j o;
    safe = rw e r.safe;
    still = λ unready. e ∙ r.still unready;
  }

  -- a run from there
  module _ (ready : Ready image marks i start) (k mask : ℕ) (s : State) (r : Reached s) where
    abbrev software' : Bool
    software' = software (entry_of image i)

    abbrev run_part : (array : List ℕ) → Ran
    run_part array = run (part marks) software' k mask (part array)

    here : WholeDrive image s.cells
    here = whole_at image marks i start ready s r.quiet

    pub there : WholeDrive image cells
    there = whole_by image cells marks ready.good ready.arrays

    rules : EntryRules (end_before image i) (header_of image).cells (entry_of image i)
    rules = map_entry image ready.good i ready.partition

    four : 4 ≤ length (part cells)
    four = rw (part_long image cells i there ready.partition) rules.n_least

    even : length (part cells) % 2 ≡ 0
    even = rw (part_long image cells i there ready.partition) rules.n_even

    part_after : (c : List ℕ) → WholeDrive image c → part (run_on image c marks i k mask).tally.cells ≡ (run_part c).tally.cells
    part_after c w = run_part_lem image c marks i k mask w ready.partition

    reached_run : (t : State) → t.cells ≡ (run_from image marks i start k mask s).tally.cells → Rested s.context t.context → Reached t
    reached_run t e h = record {
      quiet = record { long = ap length e ∙ run_length image s.cells marks i k mask here ready.partition ∙ r.quiet.long; rest = h.rest; table = h.table ∙ r.quiet.table };
      outside = λ j o. ap (λ (c : List ℕ). get_or c j 0) e ∙ run_outside image s.cells marks i k mask here ready.partition j o ∙ r.outside j o;
      safe = rw (e, part_after s.cells here) (safe_run r.safe four even software' k mask);
      still = λ unready. absurd (unready ready);
    }

    -- it ends as from the start, and leaves the same where it is not cut
    end_is : (c : List ℕ) → (run_on image c marks i k mask).end ≡ (run_part c).end
    unfolding run_on
    end_is c = refl

    burns_is : (c : List ℕ) → (run_on image c marks i k mask).tally.burns ≡ (run_part c).tally.burns
    unfolding run_on
    burns_is c = refl

    same_run : ((run_from image marks i start k mask s).end ≡ CutEnd → ⊥) → SameRun (run_on image cells marks i k mask) (run_from image marks i start k mask s)
    same_run uncut =
        let like = run_alike r.safe four even software' k mask in
        let same = run_cells r.safe four even software' k mask (λ e. uncut (end_is s.cells ∙ e)) in
        record {
          alike = record {
            end = end_is cells ∙ sym like.end ∙ sym (end_is s.cells);
            burns = burns_is cells ∙ sym like.burns ∙ sym (burns_is s.cells);
          };
          cells_same = same_array image i _ _ (run_length image cells marks i k mask there ready.partition ∙ sym r.quiet.long ∙ sym (run_length image s.cells marks i k mask here ready.partition))
              (λ j o. run_outside image cells marks i k mask there ready.partition j o ∙ sym (r.outside j o) ∙ sym (run_outside image s.cells marks i k mask here ready.partition j o))
              (part_after cells there ∙ sym same ∙ sym (part_after s.cells here));
        }

  -- the partition holds every fuse that was set at the start and every one that is not stuck
  abbrev pub Filled : (c : List ℕ) → Type 0
  Filled c = (j : ℕ) → j < (entry_of image i).n → get_or (part c) j 0 ≡ full (get_or (part marks) j 0) (get_or (part cells) j 0)

  -- ---- one attempt

  module _ (call : Call) (s : State) (r : Reached s) (a : Attempt image marks i call s) where
    pub reached_attempt : Reached (after image marks call s)
    reached_attempt = by (form image marks i start call s r.quiet a)
      where
        rest_now : Rested s.context (after image marks call s).context
        rest_now = rest_after image marks i call s a r.quiet.rest

        by : Form image marks i start call → Reached (after image marks call s)
        by (refuses t l o f) = reached_same s (after image marks call s) r (as_lent image marks call s (f s r.quiet)).1 rest_now
        by (runs k mask tell ready unnumbered st c f) = reached_run ready k mask s r (after image marks call s) (as_lent image marks call s (f s r.quiet)).1 rest_now

    -- full cells stay full
    pub filled_attempt : Filled s.cells → Filled (after image marks call s).cells
    filled_attempt h j l = by (form image marks i start call s r.quiet a)
      where
        by : Form image marks i start call → get_or (part (after image marks call s).cells) j 0 ≡ full (get_or (part marks) j 0) (get_or (part cells) j 0)
        by (refuses t _ _ f) = rw (as_lent image marks call s (f s r.quiet)).1 (h j l)
        by (runs k mask tell ready unnumbered st c f) =
            rw ((as_lent image marks call s (f s r.quiet)).1, part_after ready k mask s r s.cells (here ready k mask s r))
            (filled_kept (part marks) (software (entry_of image i)) k mask (part s.cells) j (get_or (part cells) j 0) (h j l))

    -- an uncut attempt that is accepted has gone through its order, and fills them
    went_through : (tell : Erasure → Told) (t : Tally) → refusal (tell (answer_by Stopped image i t)) ≡ 15 → (end : End) → (end ≡ CutEnd → ⊥)
        → refusal (tell (answer_by end image i t)) ≡ 0 → end ≡ Whole
    went_through tell t st Whole u z = refl
    went_through tell t st Stopped u z = absurd (omega arith)
    went_through tell t st CutEnd u z = absurd (u refl)

    pub erased_attempt : Uncut image marks call s → refusal (told image marks call s) ≡ 0 → Filled (after image marks call s).cells
    erased_attempt u z j l = by (form image marks i start call s r.quiet a)
      where
        by : Form image marks i start call → get_or (part (after image marks call s).cells) j 0 ≡ full (get_or (part marks) j 0) (get_or (part cells) j 0)
        by (refuses t m o f) = let same = ap refusal (as_lent image marks call s (f s r.quiet)).0 in absurd (omega arith)
        by (runs k mask tell ready unnumbered st c f) =
            let did = as_lent image marks call s (f s r.quiet) in
            let x = run_from image marks i start k mask s in
            let ended = went_through tell x.tally (st x.tally) x.end (c s r.quiet u) (ap refusal (sym did.0) ∙ z) in
            rw (did.1, part_after ready k mask s r s.cells (here ready k mask s r))
            (run_full r.safe (four ready k mask s r) (even ready k mask s r) (software (entry_of image i)) k mask
            (sym (end_is ready k mask s r s.cells) ∙ ended) j (rw (part_long image cells i (there ready k mask s r) ready.partition) l))

    -- where it is uncut it answers as from the start, and, if it is a run, leaves the same
    module _ (u : Uncut image marks call s) (alone : Alone start call) where
      -- from the start, with any context at rest that has its table
      abbrev begun : State
      begun = start_alone start alone

      begun_quiet : Quiet start begun
      begun_quiet = record { long = refl; rest = alone.at_rest; table = alone.same_table }

      pub alone_answer : compared (told image marks (call_alone call alone) begun) ≡ compared (told image marks call s)
      alone_answer = by (form image marks i start call s r.quiet a)
        where
          by : Form image marks i start call → compared (told image marks (call_alone call alone) begun) ≡ compared (told image marks call s)
          by (refuses t _ _ f) =
              ap compared ((f begun begun_quiet alone.response alone.block alone.same).0 ∙ sym (as_lent image marks call s (f s r.quiet)).0)
          by (runs k mask tell ready unnumbered st c f) =
              ap compared (f begun begun_quiet alone.response alone.block alone.same).0 ∙ unnumbered _
              ∙ ap (λ (x : Erasure). compared (tell x)) (answers_same image i _ _ (same_run ready k mask s r (c s r.quiet u)))
              ∙ sym (unnumbered _) ∙ ap compared (sym (as_lent image marks call s (f s r.quiet)).0)

      pub alone_cells : (refusal (told image marks call s) ≡ 0) ⊎ (refusal (told image marks call s) ≡ 15)
          → (after image marks (call_alone call alone) begun).cells ≡ (after image marks call s).cells
      alone_cells z = by (form image marks i start call s r.quiet a)
        where
          by : Form image marks i start call → (after image marks (call_alone call alone) begun).cells ≡ (after image marks call s).cells
          by (refuses t l o f) =
              let same = ap refusal (as_lent image marks call s (f s r.quiet)).0 in
              absurd (⊎_elim (λ (e : refusal (told image marks call s) ≡ 0). omega arith) (λ (e : refusal (told image marks call s) ≡ 15). o (sym same ∙ e)) z)
          by (runs k mask tell ready unnumbered st c f) =
              (f begun begun_quiet alone.response alone.block alone.same).1
              ∙ (same_run ready k mask s r (c s r.quiet u)).cells_same
              ∙ sym (as_lent image marks call s (f s r.quiet)).1

    -- where nothing gets past the tests, it is refused and nothing changes
    pub refused_attempt : (Ready image marks i start → ⊥) → (1 ≤ refusal (told image marks call s)) × (after image marks call s ≡ with_cells cells s)
    refused_attempt unready = by (form image marks i start call s r.quiet a)
      where
        by : Form image marks i start call → (1 ≤ refusal (told image marks call s)) × (after image marks call s ≡ with_cells cells s)
        by (refuses t l o f) =
            let same = ap refusal (as_lent image marks call s (f s r.quiet)).0 in
            let refused : 1 ≤ refusal (told image marks call s) = omega arith in
            (refused, refused_unchanged image marks s call refused ∙ ap (λ (c : List ℕ). with_cells c s) (r.still unready))
        by (runs k mask tell ready unnumbered st c f) = absurd (unready ready)

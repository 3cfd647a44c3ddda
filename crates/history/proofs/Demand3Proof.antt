-- Demand 3, the theorem: every history, from the partition to the array, and the claim. Assumes nothing.
use Rattle.std.specs.Prelude.{ℕ, ◌+◌, ◌-◌, ◌≤◌, ◌<◌, ◌≡◌, refl, ◌⊎◌, true, false, List, [], ◌∷◌, get_or}
use Rattle.std.proofs.Common.{sym, ap, ap₂, subst, ◌∙◌, inl, inr, ⊎_elim, arith}
use Rattle.std.proofs.lemmas.Bool.{false≢true}
use Rattle.std.specs.Int.Bits.{bit_or}
use Rattle.laws.specs.Tests.{decided, lt_or_le}
use Rattle.laws.specs.Bits.{◌⊆◌}
use Rattle.laws.proofs.Bits.{sub_refl}
use Rattle.context.specs.State.{State}
use Rattle.map.specs.Map.{header_of, entry_of, end_of, zeroizable, map_good}
use Rattle.fuse.specs.Fuse.{free}
use Rattle.drive.specs.Drive.{whole_arrays, marked_at}
use Rattle.cache.proofs.Laws.{emptied_rest}
use Rattle.burns.specs.Cells.{full}
use Rattle.burns.specs.Run.{goes_on}
use Rattle.burns.proofs.Stops.{on_marked}
use Rattle.burns.specs.Safe.{Untouched}
use Rattle.erasure.proofs.Laws.{part_long}
use Rattle.erasure.specs.Parts.{Outside}
use Rattle.erasure.proofs.Parts.{array_at}
use Rattle.history.specs.Calls.{Call, Restart, after, after_all}
use Rattle.history.specs.Demand3.{Attempt, Accepted, History, Finished, InPartition, InIndicator, Demand3}
use Rattle.history.proofs.Kept.{emptied_table}
use Rattle.history.proofs.Forms.{Ready}
use Rattle.history.proofs.Reached.{part, Reached, reached_start, reached_same, there, Filled, reached_attempt, filled_attempt, erased_attempt}
use Rattle.history.proofs.Reached.{refused_attempt, alone_answer, alone_cells}

module _ (image marks : List ℕ) (i : ℕ) (start : State) where
  abbrev cells : List ℕ
  cells = start.cells

  -- ---- every history

  reached_restart : (s : State) → Reached image marks i start s → Reached image marks i start (after image marks Restart s)
  reached_restart s r = reached_same image marks i start s (after image marks Restart s) r refl (record { rest = emptied_rest _; table = emptied_table _ })

  reached_call : (call : Call) (s : State) → Reached image marks i start s → Attempt image marks i call s ⊎ (call ≡ Restart) → Reached image marks i start (after image marks call s)
  reached_call call s r (inl a) = reached_attempt image marks i start call s r a
  reached_call call s r (inr e) = rw e (reached_restart s r)

  reached_all : (calls : List Call) (s : State) → Reached image marks i start s → History image marks i calls s → Reached image marks i start (after_all image marks calls s)
  reached_all [] s r h = r
  reached_all (call ∷ calls) s r h = reached_all calls (after image marks call s) (reached_call call s r h.0) h.1

  filled_call : (call : Call) (s : State) → Reached image marks i start s → Attempt image marks i call s ⊎ (call ≡ Restart)
      → Filled image marks i start s.cells → Filled image marks i start (after image marks call s).cells
  filled_call call s r (inl a) f = filled_attempt image marks i start call s r a f
  filled_call call s r (inr e) f = rw e f

  filled_all : (calls : List Call) (s : State) → Reached image marks i start s → History image marks i calls s
      → Filled image marks i start s.cells ⊎ Finished image marks i calls s → Filled image marks i start (after_all image marks calls s).cells
  filled_all [] s r h (inl f) = f
  filled_all [] s r h (inr e) = absurd e
  filled_all (call ∷ calls) s r h (inl f) = filled_all calls (after image marks call s) (reached_call call s r h.0) h.1 (inl (filled_call call s r h.0 f))
  filled_all (call ∷ calls) s r h (inr e) =
      filled_all calls (after image marks call s) (reached_call call s r h.0) h.1
      (⊎_elim (λ (y : Accepted image marks i call s). inl (erased_attempt image marks i start call s r y.attempt y.uncut y.accepted)) inr e)

  -- ---- from the partition to the array

  -- cell j of the partition, as the array's cell
  module _ (j : ℕ) (inside : InPartition image i j) where
    abbrev at : ℕ
    at = j - (entry_of image i).first

    cell_at : (c : List ℕ) → get_or (part image marks i start c) at 0 ≡ get_or c j 0
    cell_at c = array_at image c i j inside.0 inside.1

    filled_at : (c : List ℕ) → Filled image marks i start c → get_or c j 0 ≡ bit_or (get_or cells j 0) (free (get_or marks j 0))
    filled_at c f = sym (cell_at c) ∙ f at (omega (arith, inside.0, inside.1)) ∙ ap₂ (λ (stuck cell : ℕ). full stuck cell) (cell_at marks) (cell_at cells)

    kept_at : (s : State) → Reached image marks i start s → get_or cells j 0 ⊆ get_or s.cells j 0
    kept_at s r =
        subst (λ (x : ℕ). x ⊆ get_or s.cells j 0) (cell_at cells)
        (subst (λ (x : ℕ). get_or (part image marks i start cells) at 0 ⊆ x) (cell_at s.cells) (r.safe.between at).kept)

  none_cleared_by : (s : State) → Reached image marks i start s → (j : ℕ) → get_or cells j 0 ⊆ get_or s.cells j 0
  none_cleared_by s r j =
      ⊎_elim
      (λ (b : j < (entry_of image i).first). outside_kept (inl b))
      (λ (b : (entry_of image i).first ≤ j). ⊎_elim (λ (d : j < end_of (entry_of image i)). kept_at j (b, d) s r)
      (λ (d : end_of (entry_of image i) ≤ j). outside_kept (inr d)) (lt_or_le j (end_of (entry_of image i))))
      (lt_or_le j (entry_of image i).first)
    where
      outside_kept : Outside image i j → get_or cells j 0 ⊆ get_or s.cells j 0
      outside_kept o = rw (r.outside j o) (sub_refl (get_or cells j 0))

  -- ---- whether an erasure gets past the tests

  not_ready : (map_good image ≡ false) ⊎ ((whole_arrays image cells marks ≡ false) ⊎ ((header_of image).partitions ≤ i)) → Ready image marks i start → ⊥
  not_ready (inl bad) ready = false≢true (sym bad ∙ ready.good)
  not_ready (inr (inl bad)) ready = false≢true (sym bad ∙ ready.arrays)
  not_ready (inr (inr l)) ready = omega (arith, ready.partition)

  not_may : zeroizable (entry_of image i) ≡ false → Ready image marks i start → ⊥
  not_may z ready = false≢true (sym z ∙ ready.may)

  ready_or_not : Ready image marks i start ⊎ (Ready image marks i start → ⊥)
  ready_or_not =
      ⊎_elim
      (λ (g : map_good image ≡ true).
      ⊎_elim
      (λ (w : whole_arrays image cells marks ≡ true).
      ⊎_elim
      (λ (l : i < (header_of image).partitions).
      ⊎_elim
      (λ (z : zeroizable (entry_of image i) ≡ true). inl (record { good = g; arrays = w; partition = l; may = z }))
      (λ (z : zeroizable (entry_of image i) ≡ false). inr (not_may z))
      (decided (zeroizable (entry_of image i))))
      (λ (l : (header_of image).partitions ≤ i). inr (not_ready (inr (inr l))))
      (lt_or_le i (header_of image).partitions))
      (λ (w : whole_arrays image cells marks ≡ false). inr (not_ready (inr (inl w))))
      (decided (whole_arrays image cells marks)))
      (λ (g : map_good image ≡ false). inr (not_ready (inl g)))
      (decided (map_good image))

  -- marked, or untouched but for the indicator
  module _ (s : State) (r : Reached image marks i start s) where
    gate_marked : Ready image marks i start
        → goes_on (part image marks i start s.cells) ≡ true
        → marked_at image s.cells i ≡ true
    unfolding marked_at
    gate_marked ready on = rw ready.may (sym (on_marked (part image marks i start s.cells)) ∙ on)

    gate_untouched : Ready image marks i start → Untouched (part image marks i start cells) (part image marks i start s.cells)
        → (j : ℕ) → InPartition image i j → (InIndicator image i j → ⊥) → get_or s.cells j 0 ≡ get_or cells j 0
    gate_untouched ready untouched j inside other =
        let before : j + 2 < end_of (entry_of image i) =
        ⊎_elim (λ l. l) (λ (l : end_of (entry_of image i) ≤ j + 2). absurd (other (ready.may, l))) (lt_or_le (j + 2) (end_of (entry_of image i))) in
        let long = part_long image cells i (there image marks i start ready 0 0 s r) ready.partition in
        sym (cell_at j inside s.cells) ∙ untouched (at j inside) (omega (arith, inside.0)) ∙ cell_at j inside cells

    gate : (marked_at image s.cells i ≡ true) ⊎ ((j : ℕ) → InPartition image i j → (InIndicator image i j → ⊥) → get_or s.cells j 0 ≡ get_or cells j 0)
    gate =
        ⊎_elim
        (λ ready. ⊎_elim (λ on. inl (gate_marked ready on)) (λ untouched. inr (gate_untouched ready untouched)) r.safe.gate)
        (λ unready. inr (λ j inside other. ap (λ (c : List ℕ). get_or c j 0) (r.still unready)))
        ready_or_not

-- ---- demand 3

pub demand_3 : Demand3
demand_3 image marks i start h calls history =
    let now = after_all image marks calls start in
    let r : Reached image marks i start now = reached_all image marks i start calls start (reached_start image marks i start h) history in
    record {
      marked_or_untouched = gate image marks i start now r;
      outside = r.outside;
      as_many = r.quiet.long;
      none_cleared = none_cleared_by image marks i start now r;
      at_rest = r.quiet.rest;
      same_table = r.quiet.table;
      exactly = λ f j inside. filled_at image marks i start j inside now.cells (filled_all image marks i start calls start (reached_start image marks i start h) history (inr f));
      same_answer = λ call a u alone. alone_answer image marks i start call now r a u alone;
      same_cells = λ call a u z alone. alone_cells image marks i start call now r a u alone z;
      bad_refused = λ bad call a. let refused = refused_attempt image marks i start call now r a (not_ready image marks i start bad) in (refused.0, ap (λ (s : State). s.cells) refused.1);
      not_zeroizable_refused = λ z call a. refused_attempt image marks i start call now r a (not_may image marks i start z);
    }

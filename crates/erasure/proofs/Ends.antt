-- What an erasure leaves of its partition, told by its own answer: one that ended leaves it erased or torn, and 15, which is given exactly
-- when no indicator fuse is set, leaves every cell. Assumes nothing.
-- The definitions stand in specs/Ends.antt.
use Rattle.std.specs.Prelude.{ℕ, ◌+◌, ◌-◌, ◌*◌, ◌%◌, ◌≤◌, ◌<◌, ◌≡◌, refl, ◌↔◌, length, Option, Some, None}
use Rattle.std.proofs.Math.Path.{sym, ap, ap₂}
use Rattle.std.proofs.Common.{◌∙◌}
use Rattle.std.proofs.Math.Logic.{inl, inr, ⊎_elim}
use Rattle.std.proofs.Math.Bool.{true}
use mathlib.Core.List.{List}
use native.Mathlib.Omega.{arith}
use Rattle.std.proofs.Math.ListN.{get_or}
use Rattle.std.specs.Int.Bits.{bit_or}
use Rattle.map.specs.Map.{header_of, entry_of, software, zeroizable}
use Rattle.map.proofs.Laws.{map_header, map_entry}
use Rattle.fuse.specs.Fuse.{free}
use Rattle.partition.specs.Partition.{indicator, short_pairs, lowest_short, marked}
use Rattle.partition.proofs.Marked.{erased_exactly, torn_otherwise}
use Rattle.burns.specs.declared.End.TheVariants.{Whole, Stopped}
use Rattle.burns.proofs.Stops.{on_marked, whole_on, stopped_exactly, stopped_same}
use Rattle.drive.specs.Drive.{Whole as WholeDrive, cells_of, survey_at}
use Rattle.drive.specs.Laws.{erased_one_most}
use Rattle.erasure.specs.Erasure.{run_on, first_short}
use Rattle.erasure.proofs.Laws.{part_long, part_end}
use Rattle.erasure.proofs.Parts.{array_at, run_part_lem, run_outside, run_length, same_array}
use Rattle.erasure.specs.Ends.{indicator_cell, LeftBy, NoneSet}

-- ---- a run on a drive that was judged

module _ (image cells marks : List ℕ) (i k mask : ℕ) (whole : WholeDrive image cells) (l : i < (header_of image).partitions) where
  abbrev part : (array : List ℕ) → List ℕ
  part array = cells_of image array i

  abbrev bound : ℕ
  bound = (header_of image).bound

  abbrev left : List ℕ
  left = (run_on image cells marks i k mask).tally.cells

  long : length (part cells) ≡ (entry_of image i).n
  long = part_long image cells i whole l

  least : 4 ≤ (entry_of image i).n
  least = (map_entry image whole.good i l).n_least

  four : 4 ≤ length (part cells)
  four = rw long least

  even : length (part cells) % 2 ≡ 0
  even = rw long (map_entry image whole.good i l).n_even

  -- one that went through its order leaves the partition marked
  run_marked : (run_on image cells marks i k mask).end ≡ Whole → marked true (part left) ≡ true
  unfolding run_on
  run_marked e =
      sym (on_marked (part left)) ∙ rw (run_part_lem image cells marks i k mask whole l)
      (whole_on (part marks) (software (entry_of image i)) k mask (part cells) e)

  left_long : length (part left) ≡ (entry_of image i).n
  left_long = part_long image left i (record { good = whole.good; long = run_length image cells marks i k mask whole l ∙ whole.long }) l

  -- the lowest short pair is the indicator exactly when the first short cell is the indicator's
  indicator_first : (lowest : Option ℕ) → (lowest ≡ Some (2 * indicator (part left))) ↔ (first_short (entry_of image i).first lowest ≡ indicator_cell image i)
  indicator_first lowest = (to lowest, from lowest)
    where
      cell_is : (entry_of image i).first + 2 * indicator (part left) ≡ indicator_cell image i
      cell_is = omega (arith, left_long, least, (map_entry image whole.good i l).n_even)

      under : indicator_cell image i < 2048
      under = omega (arith, least, part_end image cells i whole l, whole.long, (map_header image whole.good).cells_most)

      to : (lowest : Option ℕ) → lowest ≡ Some (2 * indicator (part left)) → first_short (entry_of image i).first lowest ≡ indicator_cell image i
      to lowest e = rw e cell_is

      from : (lowest : Option ℕ) → first_short (entry_of image i).first lowest ≡ indicator_cell image i → lowest ≡ Some (2 * indicator (part left))
      from (Some k) e = ap Some (omega (arith, e, cell_is))
      from None e = absurd (omega (arith, e, under))

  pub run_leaves : zeroizable (entry_of image i) ≡ true → (run_on image cells marks i k mask).end ≡ Whole
      → LeftBy (indicator_cell image i) (short_pairs bound (part left)) (first_short (entry_of image i).first (lowest_short bound (part left))) (survey_at image left i)
  unfolding survey_at
  run_leaves may e =
      let m = run_marked e in
      let same = erased_exactly true bound (part left) m in
      let cell = indicator_first (lowest_short bound (part left)) in
      rw may (record {
        erased = (
          (λ y. ⊎_elim inl (λ h. inr (cell.0 h)) (same.0 y)),
          λ t. same.1 (⊎_elim inl (λ h. inr (cell.1 h)) t),
        );
        torn = torn_otherwise true bound (part left) m;
        one_most = rw may at (erased_one_most image left i);
        as_told = refl;
      })

  -- the run stops exactly when no indicator fuse is set, unless its first burn is cut
  pub stops_exactly : 1 ≤ k → ((run_on image cells marks i k mask).end ≡ Stopped) ↔ NoneSet image cells marks i
  unfolding run_on
  stops_exactly later =
      let in_part = stopped_exactly (part marks) (software (entry_of image i)) k mask (part cells) (omega (arith, four)) even later in
      let x = entry_of image i in (
        (λ e j a b.
            let from : x.first ≤ j = omega (arith, least) in
            ap₂ (λ (cell stuck : ℕ). bit_or cell (free stuck)) (sym (array_at image cells i j from b)) (sym (array_at image marks i j from b))
            ∙ in_part.0 e (j - x.first) (omega (arith, long)) (omega (arith, long))),
        λ none. in_part.1
            (λ j a b.
            let back : x.first + j - x.first ≡ j = omega arith in
            let here : (array : List ℕ) → get_or (part array) j 0 ≡ get_or array (x.first + j) 0 =
            λ array. ap (λ (at : ℕ). get_or (part array) at 0) (sym back) ∙ array_at image array i (x.first + j) (omega arith) (omega (arith, long, b)) in
            ap₂ (λ (cell stuck : ℕ). bit_or cell (free stuck)) (here cells) (here marks) ∙ none (x.first + j) (omega (arith, long)) (omega (arith, long, b))),
      )

  -- and then leaves every cell as it was
  pub stops_same : (run_on image cells marks i k mask).end ≡ Stopped → left ≡ cells
  unfolding run_on
  stops_same e =
      same_array image i left cells (run_length image cells marks i k mask whole l) (run_outside image cells marks i k mask whole l)
      (run_part_lem image cells marks i k mask whole l ∙ stopped_same (part marks) (software (entry_of image i)) k mask (part cells) (omega (arith, four)) even e)

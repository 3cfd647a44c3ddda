-- Request P6: what EHDL and RHPK tell and leave, in any table, also one that is not fresh. Assumes nothing.
-- The definitions stand in specs/Handles.antt.
use Rattle.std.specs.Prelude.{ℕ, zero, suc, ◌+◌, ◌*◌, ◌≤◌, ◌<◌, ◌≡◌, refl, true, false, not, List, eqb, ltb, length, get_or, Result, Ok, Err}
use Rattle.std.proofs.Common.{sym, ap, subst, ◌∙◌, ⊎_elim, arith, ne_eqb}
use Rattle.std.proofs.lemmas.Bool.{not-false}
use Rattle.laws.specs.Tests.{decided, either}
use Rattle.refusal.specs.Refusals.{refused_at}
use Rattle.refusal.specs.declared.Refusal.{Refusal}
use Rattle.refusal.specs.declared.Refusal.TheVariants.{BadLent}
use Rattle.context.specs.State.{Outcome, refusing}
use Rattle.map.specs.Map.{map_good}
use Rattle.drive.specs.Drive.{whole_arrays}
use Rattle.handles.specs.Handles.{most, Table, Long, table_of, has_table, handle_at, algorithm_at, lowest_with, next_number, rotated_at}
use Rattle.cache.specs.Cache.{cache_of}
use Rattle.cache.proofs.Laws.{store_behind}
use Rattle.handles.specs.Laws.{good_most, next_fits, Lowest, lowest_tells}
use Rattle.handles.specs.After.{rotated_keeps, rotated_count, rotated_greatest, rotated_handle, rotated_algorithm, rotated_other}
use Rattle.engine.specs.declared.Order.{Order}
use Rattle.engine.specs.declared.Order.TheVariants.{Nothing}
use Rattle.codec.specs.declared.Command.TheVariants.{Ehdl, Rhpk}
use Rattle.codec.specs.Fields.{Field, HpkeHandleCount, Handle0, HpkeAlgorithm0, Handle1, HpkeAlgorithm1, Handle2, HpkeAlgorithm2, HpkeHandle}
use Rattle.codec.specs.Fields.{Numbers, code_of, command_of, response_fields, number_at, no_numbers, one_number, least_room}
use Rattle.codec.proofs.Laws.{response_reads, list_bytes}
use Rattle.mailbox.specs.declared.effects.Effect.{Effect}
use Rattle.mailbox.specs.declared.Reply.{Reply}
use Rattle.mailbox.specs.Mailbox.{effect, table_numbers, list_of, handle_in, accepted, lent_bad, mailbox_tests, done_of, reply_of, response_after}
use Rattle.mailbox.specs.Mailbox.{Lent, lent, written_out, mailbox_of}
use Rattle.mailbox.proofs.Laws.{lent_table}
use Rattle.mailbox.proofs.Told.{lent_elim, mailbox_elim, refused_not}
use Rattle.mailbox.specs.Handles.{handle_field, algorithm_field, Lists}

-- an accepted call tells one reply
same_reply : {reply reply' : Reply} → ◌≡◌ {A = Result Reply Refusal} (Ok reply) (Ok reply') → reply ≡ reply'
same_reply e = cc

-- a rotation leaves the cache
pub rotated_cache : (k number : ℕ) (context : List ℕ) → cache_of (rotated_at k number context) ≡ cache_of context
rotated_cache k number context =
    rotated_keeps (λ (c : List ℕ). cache_of c ≡ cache_of context) (λ c i v l e. store_behind c i v l ∙ e) context refl k number

-- ---- without a table, as in a context of zeros, every call that passes 1 is refused 2

pub no_table : (image marks : List ℕ) (code : ℕ) (request : List ℕ) (l : Lent) → map_good image ≡ true → has_table (table_of l.state.context) ≡ false
    → (mailbox_of image marks code request l).told ≡ Err BadLent
unfolding done_of
no_table image marks code request l good none =
    let tests = mailbox_tests image marks code request (length l.response) (length l.block) l.state in
    let at = refused_at (refusing Err l.state.cells) (accepted (command_of code) image marks request l.state) in
    let tells = ap (λ (d : Outcome (Result Effect Refusal) (List ℕ)). reply_of d.told) in
    ⊎_elim
    (λ (y : whole_arrays image l.state.cells marks ≡ true). sym (tells (at 2 tests (ap not good, (ap not y, tt)) (lent_none (length l.response) (length l.block) none))))
    (λ (o : whole_arrays image l.state.cells marks ≡ false). sym (tells (at 1 tests (ap not good, tt) (ap not o))))
    (decided (whole_arrays image l.state.cells marks))
  where
    lent_none : (room block : ℕ) → has_table (table_of l.state.context) ≡ false → lent_bad room block l.state.context ≡ true
    lent_none room block o = rw o (either (not (eqb block 128)) _ (either (ltb room least_room) true refl))

-- ---- EHDL: a host that reads the response by its list finds the table

-- by how many there are
abbrev numbers_by : Table → (count : ℕ) → Numbers
numbers_by t count = table_numbers (record { count = count; entries = t.entries; greatest = t.greatest })

abbrev Reads : Table → (count : ℕ) → Field → (value : ℕ) (response : List ℕ) → Type 0
Reads t count field value response =
    number_at (response_fields Ehdl (numbers_by t count)) field (response_after (Ok (effect Ehdl Nothing 0 (numbers_by t count))) response) ≡ value

module _ (t : Table) (response : List ℕ) where
  entry_reads : (count k : ℕ) → count ≤ 3 → k < count → Reads t count (handle_field k) (handle_at t k) response × Reads t count (algorithm_field k) (algorithm_at t k) response
  entry_reads zero k l m = absurd (omega arith)
  entry_reads (suc zero) zero l m = let n = numbers_by t 1 in (response_reads Ehdl n _ Handle0 refl, response_reads Ehdl n _ HpkeAlgorithm0 refl)
  entry_reads (suc zero) (suc k) l m = absurd (omega arith)
  entry_reads (suc (suc zero)) zero l m = let n = numbers_by t 2 in (response_reads Ehdl n _ Handle0 refl, response_reads Ehdl n _ HpkeAlgorithm0 refl)
  entry_reads (suc (suc zero)) (suc zero) l m = let n = numbers_by t 2 in (response_reads Ehdl n _ Handle1 refl, response_reads Ehdl n _ HpkeAlgorithm1 refl)
  entry_reads (suc (suc zero)) (suc (suc k)) l m = absurd (omega arith)
  entry_reads (suc (suc (suc zero))) zero l m = let n = numbers_by t 3 in (response_reads Ehdl n _ Handle0 refl, response_reads Ehdl n _ HpkeAlgorithm0 refl)
  entry_reads (suc (suc (suc zero))) (suc zero) l m = let n = numbers_by t 3 in (response_reads Ehdl n _ Handle1 refl, response_reads Ehdl n _ HpkeAlgorithm1 refl)
  entry_reads (suc (suc (suc zero))) (suc (suc zero)) l m = let n = numbers_by t 3 in (response_reads Ehdl n _ Handle2 refl, response_reads Ehdl n _ HpkeAlgorithm2 refl)
  entry_reads (suc (suc (suc zero))) (suc (suc (suc k))) l m = absurd (omega arith)
  entry_reads (suc (suc (suc (suc count)))) k l m = absurd (omega arith)

  pub list_reads : has_table t ≡ true → Lists t (response_after (Ok (list_of t)) response)
  list_reads h =
      let l = good_most t.count h in
      record {
        count_reads = response_reads Ehdl (table_numbers t) _ HpkeHandleCount refl;
        handle_reads = λ k m. (entry_reads t.count k l m).0;
        algorithm_reads = λ k m. (entry_reads t.count k l m).1;
      }

-- an accepted EHDL tells the table, and leaves everything else
module _ (image marks request : List ℕ) (l : Lent) where
  abbrev t : Table
  t = table_of l.state.context

  pub record Listed (o : Outcome (Result Reply Refusal) Lent) (reply : Reply) : Type 0 where
    -- "24, 32 or 40 bytes"
    pub bytes : reply.length ≡ 16 + 8 * t.count
    pub lists : Lists t o.after.response
    pub no_order : reply.order ≡ Nothing
    pub state_same : o.after.state ≡ l.state
    pub block_same : o.after.block ≡ l.block

  abbrev ListedBy : Outcome (Result Effect Refusal) (List ℕ) → Type 0
  ListedBy d = (reply : Reply) → (written_out request l d).told ≡ Ok reply → Listed (written_out request l d) reply

  pub list_tells : let o = mailbox_of image marks (code_of Ehdl) request l in (reply : Reply) → o.told ≡ Ok reply → Listed o reply
  list_tells =
      let room = length l.response in
      let long = length l.block in
      lent_elim image marks (code_of Ehdl) request room long l.state ListedBy
      (λ r _ reply e. refused_not e)
      (λ good _ _ _ none reply e.
      let table = lent_table room long l.state.context good in
      record {
        bytes = ap (λ (r : Reply). r.length) (sym (same_reply e)) ∙ list_bytes (table_numbers t) (good_most t.count table);
        lists = list_reads t l.response table;
        no_order = ap (λ (r : Reply). r.order) (sym (same_reply e));
        state_same = refl;
        block_same = refl;
      })

-- ---- RHPK: "replaces one at its place, keeping the algorithm, and the new number is one above the greatest ever given"

module _ (image marks request : List ℕ) (l : Lent) where
  abbrev before : Table
  before = table_of l.state.context

  abbrev place : ℕ
  place = lowest_with before (handle_in request)

  -- what an accepted one changes, in a context that has the words of a table, as every lent one has (`Long`): the handle at the lowest
  -- place with it, and the greatest; and nothing else
  pub record Rotated (o : Outcome (Result Reply Refusal) Lent) (reply : Reply) : Type 0 where
    pub bytes : reply.length ≡ 16
    pub lowest : Lowest before (handle_in request) place
    pub told_number : number_at (response_fields Rhpk no_numbers) HpkeHandle o.after.response ≡ before.greatest + 1
    pub new_handle : handle_at (table_of o.after.state.context) place ≡ before.greatest + 1
    pub same_algorithm : algorithm_at (table_of o.after.state.context) place ≡ algorithm_at before place
    pub others_same : (j : ℕ) → j < most → (j ≡ place → ⊥) → get_or (table_of o.after.state.context).entries j 0 ≡ get_or before.entries j 0
    pub count_same : (table_of o.after.state.context).count ≡ before.count
    pub new_greatest : (table_of o.after.state.context).greatest ≡ before.greatest + 1
    pub cache_same : cache_of o.after.state.context ≡ cache_of l.state.context
    pub cells_same : o.after.state.cells ≡ l.state.cells
    pub no_order : reply.order ≡ Nothing
    pub block_same : o.after.block ≡ l.block

  abbrev RotatedBy : Outcome (Result Effect Refusal) (List ℕ) → Type 0
  RotatedBy d = (reply : Reply) → (written_out request l d).told ≡ Ok reply → Rotated (written_out request l d) reply

  pub rotation_changes : Long l.state.context → let o = mailbox_of image marks (code_of Rhpk) request l in
      (reply : Reply) → o.told ≡ Ok reply → Rotated o reply
  rotation_changes long =
      let context = l.state.context in
      let next = next_number before in
      mailbox_elim image marks (code_of Rhpk) request (length l.response) (length l.block) l.state RotatedBy
      (λ r _ reply e. refused_not e)
      (λ _ _ _ none reply e.
      let found = lowest_tells before (handle_in request) (not-false _ (none 2)) in
      let fits = next_fits before (none 3) in
      record {
        bytes = ap (λ (r : Reply). r.length) (sym (same_reply e));
        lowest = found;
        told_number = response_reads Rhpk (one_number next) _ HpkeHandle refl;
        new_handle = rotated_handle place next context long found.within fits;
        same_algorithm = rotated_algorithm place next context long found.within fits;
        others_same = rotated_other place next context long found.within;
        count_same = rotated_count place next context long found.within;
        new_greatest = rotated_greatest place next context long found.within;
        cache_same = rotated_cache place next context;
        cells_same = refl;
        no_order = ap (λ (r : Reply). r.order) (sym (same_reply e));
        block_same = refl;
      })

-- ---- EHDL tells what RHPK gave: at the place that was rotated, the number that its response told, with the algorithm that was there

pub told_again : (image marks request request' : List ℕ) (l : Lent) (response block : List ℕ) → Long l.state.context
    → let o = mailbox_of image marks (code_of Rhpk) request l in
    let o' = mailbox_of image marks (code_of Ehdl) request' (lent o.after.state response block) in
    let t = table_of o.after.state.context in
    let place = lowest_with (table_of l.state.context) (handle_in request) in
    (reply reply' : Reply) → o.told ≡ Ok reply → o'.told ≡ Ok reply'
    → (number_at (response_fields Ehdl (table_numbers t)) (handle_field place) o'.after.response
    ≡ number_at (response_fields Rhpk no_numbers) HpkeHandle o.after.response)
    × (number_at (response_fields Ehdl (table_numbers t)) (algorithm_field place) o'.after.response ≡ algorithm_at (table_of l.state.context) place)
told_again image marks request request' l response block long reply reply' e e' =
    let o = mailbox_of image marks (code_of Rhpk) request l in
    let r = rotation_changes image marks request l long reply e in
    let place = lowest_with (table_of l.state.context) (handle_in request) in
    let lists = (list_tells image marks request' (lent o.after.state response block) reply' e').lists in
    let counted = subst (λ (count : ℕ). place < count) (sym r.count_same) r.lowest.counted in
    (lists.handle_reads place counted ∙ r.new_handle ∙ sym r.told_number, lists.algorithm_reads place counted ∙ r.same_algorithm)

-- Request P6: what EHDL and RHPK tell and leave, in any table, also one that is not fresh. Assumes nothing.
-- The theorems stand in proofs/Handles.antt.
use Rattle.std.specs.Prelude.{ℕ, zero, suc, ◌<◌, ◌≡◌, List}
use Rattle.handles.specs.Handles.{Table, handle_at, algorithm_at}
use Rattle.codec.specs.declared.Command.TheVariants.{Ehdl}
use Rattle.codec.specs.Fields.{Field, HpkeHandleCount, Handle0, HpkeAlgorithm0, Handle1, HpkeAlgorithm1, Handle2, HpkeAlgorithm2}
use Rattle.codec.specs.Fields.{response_fields, number_at}
use Rattle.mailbox.specs.Mailbox.{table_numbers}

-- ---- EHDL: a host that reads the response by its list finds the table

-- the fields of place k
abbrev pub handle_field : (k : ℕ) → Field
handle_field zero = Handle0
handle_field (suc zero) = Handle1
handle_field (suc (suc k)) = Handle2

abbrev pub algorithm_field : (k : ℕ) → Field
algorithm_field zero = HpkeAlgorithm0
algorithm_field (suc zero) = HpkeAlgorithm1
algorithm_field (suc (suc k)) = HpkeAlgorithm2

-- what a host reads of a response of EHDL: the count, and the handle and the algorithm of each place
pub record Lists (t : Table) (response : List ℕ) : Type 0 where
  pub count_reads : number_at (response_fields Ehdl (table_numbers t)) HpkeHandleCount response ≡ t.count
  pub handle_reads : (k : ℕ) → k < t.count → number_at (response_fields Ehdl (table_numbers t)) (handle_field k) response ≡ handle_at t k
  pub algorithm_reads : (k : ℕ) → k < t.count → number_at (response_fields Ehdl (table_numbers t)) (algorithm_field k) response ≡ algorithm_at t k

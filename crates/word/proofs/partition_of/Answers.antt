-- `word::partition_of` meets its contract: its search over the partitions answers for the whole. Assumes nothing.
use Rattle.std.proofs.Common.{◌≡◌, true, false, rules, ap, ◌∙◌}
use Rattle.std.specs.Prelude.{ℕ}
use Rattle.std.proofs.lemmas.Iterator.{first_from_Range}
use Rattle.laws.specs.Below.{found, first_below}
use Rattle.laws.proofs.Below.{search_found}
use Rattle.map.specs.declared.Header.{Header}
use Rattle.word.specs.Word.{is_held_at}
use Rattle.word.proofs.partition_of.Goals as goal

pub returns : goal.returns
returns c =
    let is = is_held_at c.args.image.now c.args.cell in
    search_found is c.read_header-partitions.result.partitions _ (first_from_Range _ _ _ _ (λ k. is k ≡ true) (λ k. is k ≡ false) c.find.ensures.ran (λ k q h. search rules) (λ k q h. (search rules, search rules)))
    ∙ ap (λ (h : Header). found h.partitions (first_below is h.partitions)) c.read_header-partitions.ensures

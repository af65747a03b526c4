use Rattle.counted_items.specs.Codes.{is_item}
use Rattle.counted_items.proofs.Counts.{within-times, same-times}
use Rattle.counted_items.proofs.laws.counts_decide.Goals as goal

pub returns-clause-within : goal.returns-clause-within
returns-clause-within g c = λ coded xs ys. ((λ within x. within (is_item coded x)), within-times coded xs ys)

pub returns-clause-same : goal.returns-clause-same
returns-clause-same g c = λ coded xs ys. ((λ same x. same (is_item coded x)), same-times coded xs ys)

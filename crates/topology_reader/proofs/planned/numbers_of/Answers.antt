use Rattle.std.proofs.Common.{[], ◌∷◌, ◌++◌, ap, ◌∙◌, arith}
use Rattle.topology_reader.proofs.Common.{number_of}
use Rattle.topology_reader.proofs.PartLemmas.{mapped_next}
use Rattle.topology_reader.proofs.planned.numbers_of.Goals as goal

pub loop-name-preserved : goal.loop-name-preserved
loop-name-preserved c =
    mapped_next (number_of c.args.fields.now) c.args.names.now c.loop-name.name-index c.name-item.result c.loop-name.numbers.items _ (omega arith) c.name-item.is
    (c.in_ok-push.ensures.items ∙ ap (λ n. c.loop-name.numbers.items ++ n ∷ []) c.number_of.ensures) c.loop-name.invariant

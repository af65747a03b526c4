use Rattle.std.proofs.Common.{◌++◌, [], ◌∷◌, Option, Some, None, Vec, sym, ap, ◌∙◌, arith}
use Rattle.std.specs.declared.alloc.Global.{Global}
use Rattle.topology_reader.proofs.Common.{Feed, Origin, append-nil}
use Rattle.topology_reader.proofs.SourceLemmas.{feeds_next}
use Rattle.topology_reader.proofs.wiring.feeds_to.Goals as goal
use Rattle.topology_reader.proofs.wiring.feeds_to.Goals.{in-Some+in_ok-push, in_default}

pub loop-input-preserved : goal.loop-input-preserved
loop-input-preserved c =
    let old = c.loop-input.feeds.items in
    let next = λ (source : Option Origin). feeds_next c.args.sources.now c.args.part.now.tasks c.as_slice-input-items.result.now c.loop-input.input-index c.input-item.result source old c.match-source_of.feeds.items (omega arith) c.input-item.is in
    elim c.match-source_of.branch [
      | in-Some+in_ok-push w ↦
          next (Some w.in-Some.from) (sym c.source_of.ensures ∙ w.in-Some.is) c.loop-input.invariant
          (ap (λ (feeds : Vec Feed Global). feeds.items) w.feeds-is ∙ w.in_ok-push.ensures.items ∙ ap (λ n. old ++ record { from = w.in-Some.from; copies = n } ∷ []) (w.from-copies.ensures ∙ w.copies_said.ensures))
      | in_default w ↦ next None (sym c.source_of.ensures ∙ w.in_default.is) c.loop-input.invariant (ap (λ (feeds : Vec Feed Global). feeds.items) w.feeds-is ∙ sym (append-nil old))
    ]

use Rattle.std.proofs.Common.{ap, sym, ◌∙◌}
use Rattle.tree_model.specs.Inside.{entries_of, whole_pairs}
use Rattle.tree_model.proofs.Quoted.{entries-quoted}
use Rattle.tree_model.proofs.running.make_whole.Goals as goal

pub returns-clause-same : goal.returns-clause-same
returns-clause-same c =
    let old = c.args.values.now in
    entries-quoted old.entries c.in_ok-values.field-0 c.in_ok-values.ensures ∙ ap (λ plain. whole_pairs plain (entries_of old.entries)) (sym c.if-not-values.false)

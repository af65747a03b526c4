use Rattle.std.proofs.lemmas.Result.{IfOk-weaker}
use Rattle.tree_model.specs.Inside.{entries_of}
use Rattle.tree_model.specs.Tables.{AreSorted}
use Rattle.fold_tables.proofs.Keyed.{pairs-sorted}
use Rattle.fold_tables.proofs.entries.sorted_pairs.Goals as goal

pub returns : goal.returns
returns c =
    let e = c.in_ok-sort_keys.ensures in
    IfOk-weaker c.pairs.result _ (AreSorted (entries_of c.args.entries)) (λ pairs is. rw is (pairs-sorted c.args.entries c.sort_keys.new.self e.sorted e.reordered e.unique)) c.pairs.ensures

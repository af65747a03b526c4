use Rattle.std.proofs.Common.{◌<◌, length, slice_get, option_and_then, rules}
use Rattle.std.proofs.lemmas.Result.{on_ok_weaker}
use Rattle.storm_values.specs.Keys.{text_of}
use Rattle.tree_model.specs.Tables.{folded}
use Rattle.tree_model.specs.Trees.{amount_by, key_of}
use Rattle.tree_model.proofs.TablesSoFar.{pairs_by-put}
use Rattle.tree_model.proofs.running.add_row.Goals as goal

pub returns-then-state-len : goal.returns-then-state-len
returns-then-state-len g c =
    let spec = c.args.spec.now in
    let within : c.args.state < length c.args.values.now.items = search rules in
    on_ok_weaker c.put_row.result
    (λ puts. pairs_by-put c.args.values.now.items c.args.state (folded (g.F.Folds.meaning c.args.folds.now) spec.fold) (text_of (key_of spec c.args.row.now)) (amount_by spec.fold (option_and_then (slice_get c.args.row.now) spec.amount)) c.index_mut.result.now c.put_row.new.values within c.index_mut.ensures.value puts)
    c.put_row.ensures

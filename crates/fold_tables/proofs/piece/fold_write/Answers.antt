use Rattle.std.proofs.Common.{◌≡◌, ◌<◌, ◌≤◌, None, length, slice_get, SFits, rules, arith}
use Rattle.std.proofs.lemmas.Int.{to_z-of_z}
use Rattle.std.proofs.lemmas.Option.{slice_get_past}
use Rattle.std.proofs.lemmas.Result.{on_ok_weaker}
use Rattle.std.specs.Int.{w64}
use Rattle.tree_model.specs.Inside.{entries_of}
use Rattle.tree_model.specs.Tables.{folded}
use Rattle.fold_tables.specs.Merging.{IsPut}
use Rattle.fold_tables.specs.Pieces.{pairs_by}
use Rattle.fold_tables.proofs.Running.{past_all, for_state, pairs_at, pairs_by-set}
use Rattle.fold_tables.proofs.piece.fold_write.Goals as goal

-- there is no component of that number
pub returns-then-state-components-clause-more : goal.returns-then-state-components-clause-more
returns-then-state-components-clause-more g c =
    let past : length c.args.plan.now.components ≤ c.args.state = omega (arith, c.components.ensures) in
    let none : slice_get c.args.plan.now.components c.args.state ≡ None = slice_get_past c.args.plan.now.components c.args.state past in
    λ made part is. past_all c.args.plan.now (g.O.RowOp.meaning c.args.custom.now) (record { state = c.args.state; part = part; key = c.args.key; amount = c.args.amount }) made (pairs_by c.args.states.now.items) none is

-- the amount is folded into the value of the key
pub returns-in-State-clause-more : goal.returns-in-State-clause-more
returns-in-State-clause-more g c =
    let custom = g.O.RowOp.meaning c.args.custom.now in
    let spec = c.in-State.spec in
    let old = c.args.states.now.items in
    let fits : SFits w64 c.args.amount = c.ranges.amount in
    let within : c.args.state < length old = omega (arith, c.components.ensures, c.requires) in
    let was = pairs_at old c.args.state c.index_mut.result.now within c.index_mut.ensures.value in
    on_ok_weaker c.fold_in.result
    (λ put made part is.
    rw (pairs_by-set old c.args.state c.fold_in.new.entries)
    (for_state c.args.plan.now custom (record { state = c.args.state; part = part; key = c.args.key; amount = c.args.amount }) made (pairs_by old) c.component.result.now spec (entries_of c.fold_in.new.entries) c.component.ensures.value c.in-State.is
    (rw was put) is))
    (simp to_z-of_z at c.fold_in.ensures)

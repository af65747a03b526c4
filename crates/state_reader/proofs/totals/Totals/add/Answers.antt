use Rattle.std.proofs.Common.{refl, rules, SFits}
use Rattle.std.proofs.lemmas.Int.{to_z-of_z}
use Rattle.std.proofs.lemmas.Result.{on_ok_weaker, on_err_weaker}
use Rattle.std.specs.Int.{w64}
use Rattle.std.specs.Vec.{with_item}
use Rattle.state_reader.specs.declared.totals.Keys.{Keys}
use Rattle.state_reader.specs.declared.totals.Totals.{Totals}
use Rattle.state_reader.proofs.Places.{AreTotals-push, AreTotals-same}
use Rattle.state_reader.proofs.totals.Totals.add.Goals as goal

pub returns-clause-ok : goal.returns-clause-ok
returns-clause-ok c =
    let write = c.args.write.now in
    let middle = c.make_place.new.self in
    let fits : SFits w64 write.amount = search rules in
    let keys : Keys = record { totals = c.put.new.totals } in
    let new : Totals = record { states = with_item middle.states write.state keys } in
    let made = c.in_ok-make_place.ensures in
    on_ok_weaker c.put.result
    (λ puts before are. AreTotals-push before write c.args.self.now middle new c.index_mut.result.now keys made.same made.place c.index_mut.ensures.value refl puts are)
    (rw to_z-of_z at c.put.ensures.ok)

pub returns-clause-err : goal.returns-clause-err
returns-clause-err c =
    let middle = c.make_place.new.self in
    let keys : Keys = record { totals = c.put.new.totals } in
    let new : Totals = record { states = with_item middle.states c.args.write.now.state keys } in
    let made = c.in_ok-make_place.ensures in
    on_err_weaker c.put.result
    (λ same before are. AreTotals-same before c.args.write.now.state c.args.self.now middle new c.index_mut.result.now keys made.same made.place c.index_mut.ensures.value refl same are)
    c.put.ensures.err

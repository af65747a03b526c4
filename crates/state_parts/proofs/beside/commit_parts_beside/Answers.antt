use Rattle.std.proofs.Common.{sym, ◌∙◌, arith}
use Rattle.state_parts.specs.Dealt.{AreDealt}
use Rattle.state_parts.specs.PartPlans.{plans_of}
use Rattle.state_parts.proofs.JoinLemmas.{told_commit, untried_commit}
use Rattle.state_parts.proofs.Places.{indexed_apart}
use Rattle.state_parts.proofs.SplitLemmas.{dealt_as, dealt_long}
use Rattle.state_parts.proofs.TrialLemmas.{tried_lent}
use Rattle.state_parts.proofs.beside.commit_parts_beside.Goals as goal

pub returns-in-Err : goal.returns-in-Err
returns-in-Err g c = untried_commit g.C.CellStore.tells (g.O.RowOp.meaning c.args.custom.now) g.C.CellStore.fault_count c.args.commit.now.root c.args.commit.now.writes c.args.parts.now.items

pub commit_halves-requires-after_bounds : goal.commit_halves-requires-after_bounds
commit_halves-requires-after_bounds g c κs within =
    dealt_long c.args.commit.now.writes c.deref_mut.result.now c.deref-2.result.now
    (dealt_as c.args.commit.now.writes c.deref-2.ensures.value c.in-Ok.ensures (c.deref.ensures.value ∙ sym c.deref_mut.ensures.value))

pub returns : goal.returns
returns g c =
    let dealt : AreDealt c.args.commit.now.writes c.deref_mut.result.now c.deref-2.result.now = dealt_as c.args.commit.now.writes c.deref-2.ensures.value c.in-Ok.ensures (c.deref.ensures.value ∙ sym c.deref_mut.ensures.value) in
    let tried = tried_lent g.C.CellStore.tells (g.O.RowOp.meaning c.args.custom.now) g.C.CellStore.fault_count c.args.commit.now.root c.args.commit.now.writes c.args.parts.now.items c.deref_mut.result.now c.commit_halves.new.parts c.args.parts.now.len c.commit_halves.result
    c.deref_mut.ensures.value (omega (arith, c.args.parts.now.ok.0)) c.commit_halves.auto.parts (c.commit_halves.ensures c.args.commit.now.writes dealt) in
    told_commit g.C.CellStore.tells (g.O.RowOp.meaning c.args.custom.now) g.C.CellStore.fault_count c.args.commit.now.root c.args.commit.now.writes c.args.parts.now.items _ c.commit_halves.result c.answer.result c.answer.ensures tried
    (indexed_apart c.args.firsts.now 0 (plans_of c.args.parts.now.items) c.requires)

use Rattle.std.proofs.Common.{sym, ◌∙◌}
use Rattle.state_parts.specs.PartPlans.{plans_of}
use Rattle.state_parts.proofs.Places.{indexed_apart}
use Rattle.state_parts.proofs.SplitLemmas.{dealt_as, dealt_long}
use Rattle.state_parts.proofs.TrialLemmas.{tried_bad, tried_counted, tried_done, tried_failed, tried_kept, tried_once, tried_plans, tried_up, untried_kept, untried_once, untried_up}
use Rattle.state_parts.proofs.commit.commit_parts.Goals as goal

pub returns-in-Err-clause-kept : goal.returns-in-Err-clause-kept
returns-in-Err-clause-kept g c = untried_kept g.C.CellStore.tells (g.O.RowOp.meaning c.args.custom.now) g.C.CellStore.fault_count c.args.commit.now.root c.args.commit.now.writes c.args.parts.now.items

pub returns-in-Err-clause-never_falls : goal.returns-in-Err-clause-never_falls
returns-in-Err-clause-never_falls g c = untried_up g.C.CellStore.tells (g.O.RowOp.meaning c.args.custom.now) g.C.CellStore.fault_count c.args.commit.now.root c.args.parts.now.items

pub returns-in-Err-clause-at_most_once : goal.returns-in-Err-clause-at_most_once
returns-in-Err-clause-at_most_once g c = untried_once g.C.CellStore.tells (g.O.RowOp.meaning c.args.custom.now) g.C.CellStore.fault_count c.args.commit.now.root c.args.parts.now.items

pub commit_each-requires-after_bounds : goal.commit_each-requires-after_bounds
commit_each-requires-after_bounds g c κs within = dealt_long c.args.commit.now.writes c.args.parts.now.items c.deref-2.result.now (dealt_as c.args.commit.now.writes c.deref-2.ensures.value c.in-Ok.ensures c.deref.ensures.value)

pub returns-clause-plans : goal.returns-clause-plans
returns-clause-plans g c = tried_plans g.C.CellStore.tells (g.O.RowOp.meaning c.args.custom.now) g.C.CellStore.fault_count c.args.commit.now.root c.args.commit.now.writes c.args.parts.now.items c.commit_each.new.parts.items c.commit_each.result (c.commit_each.ensures c.args.commit.now.writes (dealt_as c.args.commit.now.writes c.deref-2.ensures.value c.in-Ok.ensures c.deref.ensures.value))

pub returns-clause-done : goal.returns-clause-done
returns-clause-done g c = λ is. tried_done g.C.CellStore.tells (g.O.RowOp.meaning c.args.custom.now) g.C.CellStore.fault_count c.args.commit.now.root c.args.commit.now.writes c.args.parts.now.items c.commit_each.new.parts.items c.commit_each.result (c.commit_each.ensures c.args.commit.now.writes (dealt_as c.args.commit.now.writes c.deref-2.ensures.value c.in-Ok.ensures c.deref.ensures.value)) (sym c.answer.ensures ∙ is)

pub returns-clause-kept : goal.returns-clause-kept
returns-clause-kept g c = tried_kept g.C.CellStore.tells (g.O.RowOp.meaning c.args.custom.now) g.C.CellStore.fault_count c.args.commit.now.root c.args.commit.now.writes c.args.parts.now.items c.commit_each.new.parts.items c.commit_each.result (c.commit_each.ensures c.args.commit.now.writes (dealt_as c.args.commit.now.writes c.deref-2.ensures.value c.in-Ok.ensures c.deref.ensures.value))

pub returns-clause-failed : goal.returns-clause-failed
returns-clause-failed g c = λ component part before after is. tried_failed g.C.CellStore.tells (g.O.RowOp.meaning c.args.custom.now) g.C.CellStore.fault_count c.args.commit.now.root c.args.commit.now.writes c.args.parts.now.items c.commit_each.new.parts.items c.commit_each.result (c.commit_each.ensures c.args.commit.now.writes (dealt_as c.args.commit.now.writes c.deref-2.ensures.value c.in-Ok.ensures c.deref.ensures.value)) component part before after (sym c.answer.ensures ∙ is)

pub returns-clause-bad : goal.returns-clause-bad
returns-clause-bad g c = λ key is. tried_bad g.C.CellStore.tells (g.O.RowOp.meaning c.args.custom.now) g.C.CellStore.fault_count c.args.commit.now.root c.args.commit.now.writes c.args.parts.now.items c.commit_each.new.parts.items c.commit_each.result (c.commit_each.ensures c.args.commit.now.writes (dealt_as c.args.commit.now.writes c.deref-2.ensures.value c.in-Ok.ensures c.deref.ensures.value)) key (sym c.answer.ensures ∙ is)

pub returns-clause-never_falls : goal.returns-clause-never_falls
returns-clause-never_falls g c = tried_up g.C.CellStore.tells (g.O.RowOp.meaning c.args.custom.now) g.C.CellStore.fault_count c.args.commit.now.root c.args.commit.now.writes c.args.parts.now.items c.commit_each.new.parts.items c.commit_each.result (c.commit_each.ensures c.args.commit.now.writes (dealt_as c.args.commit.now.writes c.deref-2.ensures.value c.in-Ok.ensures c.deref.ensures.value))

pub returns-clause-counted : goal.returns-clause-counted
returns-clause-counted g c = λ how is. tried_counted g.C.CellStore.tells (g.O.RowOp.meaning c.args.custom.now) g.C.CellStore.fault_count c.args.commit.now.root c.args.commit.now.writes c.args.parts.now.items c.commit_each.new.parts.items c.commit_each.result (c.commit_each.ensures c.args.commit.now.writes (dealt_as c.args.commit.now.writes c.deref-2.ensures.value c.in-Ok.ensures c.deref.ensures.value)) (indexed_apart c.args.firsts.now 0 (plans_of c.args.parts.now.items) c.requires) how (sym c.answer.ensures ∙ is)

pub returns-clause-at_most_once : goal.returns-clause-at_most_once
returns-clause-at_most_once g c = tried_once g.C.CellStore.tells (g.O.RowOp.meaning c.args.custom.now) g.C.CellStore.fault_count c.args.commit.now.root c.args.commit.now.writes c.args.parts.now.items c.commit_each.new.parts.items c.commit_each.result (c.commit_each.ensures c.args.commit.now.writes (dealt_as c.args.commit.now.writes c.deref-2.ensures.value c.in-Ok.ensures c.deref.ensures.value))

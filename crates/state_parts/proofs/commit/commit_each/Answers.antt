use Rattle.std.proofs.Common.{arith, subst, sym}
use Rattle.state_parts.specs.Dealt.{AreDealt}
use Rattle.state_parts.proofs.TrialLemmas.{tried_lent}
use Rattle.state_parts.proofs.commit.commit_each.Goals as goal

pub returns : goal.returns
returns g c = λ writes all.
    tried_lent g.C.CellStore.tells (g.O.RowOp.meaning c.args.custom.now) g.C.CellStore.fault_count c.args.root writes c.args.parts.now.items c.deref_mut.result.now c.commit_run.new.parts c.args.parts.now.len c.commit_run.result
    c.deref_mut.ensures.value (omega (arith, c.args.parts.now.ok.0)) c.commit_run.auto.parts (c.commit_run.ensures writes (subst (λ parts. AreDealt writes parts c.args.dealt.now) (sym c.deref_mut.ensures.value) all))

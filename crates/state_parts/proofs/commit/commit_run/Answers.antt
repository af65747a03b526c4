use Rattle.std.proofs.Common.{◌<◌, ◌∙◌, List, length, length-set, subst, sym, arith}
use Rattle.tree_model.specs.declared.write.Write.{Write}
use Rattle.state_parts.specs.Answers.{Tries}
use Rattle.state_parts.specs.Dealt.{IsGrouped}
use Rattle.state_parts.specs.declared.parts.StatePart.{StatePart}
use Rattle.state_parts.proofs.TrialLemmas.{trying_more}
use Rattle.state_parts.proofs.commit.commit_run.Goals as goal

pub loop-i-preserved : goal.loop-i-preserved
loop-i-preserved g c =
    let within : c.loop-i.i < length c.args.parts.now = omega (arith, c.loop-i-test.true) in
    let read = c.index-parts-i.is in
    let tried = subst (λ (was : StatePart g.row.C.Denot). (own : List Write) → IsGrouped own c.index-dealt-i.result → Tries g.C.CellStore.tells (g.O.RowOp.meaning c.args.custom.now) g.C.CellStore.fault_count c.args.root own was c.commit_part.new.at c.loop-i.tally c.commit_part.new.tally)
    (sym read) c.commit_part.ensures in
    record {
      long = length-set c.loop-i.parts c.loop-i.i c.commit_part.new.at ∙ c.loop-i.invariant.long;
      trying = λ writes all. trying_more g.C.CellStore.tells (g.O.RowOp.meaning c.args.custom.now) g.C.CellStore.fault_count c.args.root writes c.loop-i.i c.args.parts.now c.loop-i.parts c.args.dealt.now c.index-dealt-i.result c.index-parts-i.result c.commit_part.new.at
          c.loop-i.tally c.commit_part.new.tally within read all c.index-dealt-i.is tried (c.loop-i.invariant.trying writes all);
    }

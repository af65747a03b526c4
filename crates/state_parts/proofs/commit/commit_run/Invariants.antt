use Rattle.std.proofs.Common.{◌≡◌, List, length}
use Rattle.tree_model.specs.declared.write.Write.{Write}
use Rattle.state_parts.specs.Dealt.{AreDealt}
use Rattle.state_parts.proofs.TrialLemmas.{Trying}
use Rattle.state_parts.proofs.commit.commit_run.Given as goal

abbrev pub invariant-loop-i : goal.invariant-loop-i
invariant-loop-i g l = record {
  long : length l.parts ≡ length l.fn.parts;
  trying : (writes : List Write) → AreDealt writes l.fn.parts l.dealt → Trying g.C.CellStore.tells (g.O.RowOp.meaning l.custom) g.C.CellStore.fault_count l.root writes l.i l.fn.parts l.parts l.tally;
}

use Rattle.std.proofs.Common.{arith, rules}
use Rattle.std.proofs.lemmas.Grind.{common_steps}
use Rattle.state_cells.specs.Groups.{amounts_of}
use Rattle.state_parts.proofs.TrialLemmas.{trial_own}
use Rattle.state_parts.proofs.commit.commit_part.Goals as goal

pub returns : goal.returns
returns g c = λ own grouped.
    let is = c.commit-answer.ensures in
    record {
      answer = c.commit-answer.result;
      trial = trial_own g.C.CellStore.tells (g.O.RowOp.meaning c.args.custom.now) g.C.CellStore.fault_count c.args.root (amounts_of c.args.writes.now) own grouped c.args.at.now _ c.commit-answer.result
          (first_of (search rules, grind (arith, common_steps))) is.ok is.err is.failed is.quiet is.bad is.never_falls;
      notes = first_of (search rules, grind (arith, common_steps));
    }

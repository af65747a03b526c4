use Rattle.stored_runs.proofs.Lent.{are_read, have_same_counts}
use Rattle.stored_runs.proofs.closing.close.Goals as goal

pub returns-in-Ok-Unfinished-clause-read : goal.returns-in-Ok-Unfinished-clause-read
returns-in-Ok-Unfinished-clause-read g c =
    are_read g.C.CellStore.tells g.C.CellStore.fault_count c.args.parts.now

pub returns-in-Ok-Unfinished-clause-quiet : goal.returns-in-Ok-Unfinished-clause-quiet
returns-in-Ok-Unfinished-clause-quiet g c = λ other.
    have_same_counts g.C.CellStore.fault_count c.args.parts.now

pub returns-in-Err-Exhausted-clause-read : goal.returns-in-Err-Exhausted-clause-read
returns-in-Err-Exhausted-clause-read g c =
    are_read g.C.CellStore.tells g.C.CellStore.fault_count c.args.parts.now

pub returns-in-Err-Exhausted-clause-quiet : goal.returns-in-Err-Exhausted-clause-quiet
returns-in-Err-Exhausted-clause-quiet g c = λ other.
    have_same_counts g.C.CellStore.fault_count c.args.parts.now

pub returns-in-Err-BadCell-clause-read : goal.returns-in-Err-BadCell-clause-read
returns-in-Err-BadCell-clause-read g c =
    are_read g.C.CellStore.tells g.C.CellStore.fault_count c.args.parts.now

pub returns-in-Err-BadCell-clause-quiet : goal.returns-in-Err-BadCell-clause-quiet
returns-in-Err-BadCell-clause-quiet g c = λ other.
    have_same_counts g.C.CellStore.fault_count c.args.parts.now

pub returns-in-Err-Memory-clause-read : goal.returns-in-Err-Memory-clause-read
returns-in-Err-Memory-clause-read g c =
    are_read g.C.CellStore.tells g.C.CellStore.fault_count c.args.parts.now

pub returns-in-Err-Memory-clause-quiet : goal.returns-in-Err-Memory-clause-quiet
returns-in-Err-Memory-clause-quiet g c = λ other.
    have_same_counts g.C.CellStore.fault_count c.args.parts.now

pub returns-in-Err-Follow-clause-read : goal.returns-in-Err-Follow-clause-read
returns-in-Err-Follow-clause-read g c =
    are_read g.C.CellStore.tells g.C.CellStore.fault_count c.args.parts.now

pub returns-in-Err-Follow-clause-quiet : goal.returns-in-Err-Follow-clause-quiet
returns-in-Err-Follow-clause-quiet g c = λ other.
    have_same_counts g.C.CellStore.fault_count c.args.parts.now

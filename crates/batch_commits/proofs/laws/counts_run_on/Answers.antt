use Rattle.batch_commits.proofs.Running.{counted_on, failed_sum, last_counted, last_on, last_sum, none_counted, quiet_counted, same_counted, told_counted}
use Rattle.batch_commits.proofs.laws.counts_run_on.Goals as goal

pub returns-clause-then : goal.returns-clause-then
returns-clause-then g c = λ xs ys a b d same first next. counted_on g.C.CellStore.fault_count xs ys a b d same first next

pub returns-clause-none : goal.returns-clause-none
returns-clause-none g c = λ parts. none_counted g.C.CellStore.fault_count parts

pub returns-clause-quiet : goal.returns-clause-quiet
returns-clause-quiet g c = λ xs parts none. quiet_counted g.C.CellStore.fault_count xs parts none

pub returns-clause-same : goal.returns-clause-same
returns-clause-same g c = λ xs a b none counted. same_counted g.C.CellStore.fault_count xs a b none counted

pub returns-clause-last : goal.returns-clause-last
returns-clause-last g c = λ xs a b d first last. last_counted g.C.CellStore.fault_count xs a b d first last

pub returns-clause-then_last : goal.returns-clause-then_last
returns-clause-then_last g c = λ xs ys a b d same first next. last_on g.C.CellStore.fault_count xs ys a b d same first next

pub returns-clause-all_told : goal.returns-clause-all_told
returns-clause-all_told g c = λ xs a b counted. told_counted g.C.CellStore.fault_count xs a b counted

pub returns-clause-sum : goal.returns-clause-sum
returns-clause-sum g c = λ xs a b all counted. failed_sum g.C.CellStore.fault_count g.met.C.CellStore.count_ends xs a b all counted

pub returns-clause-last_sum : goal.returns-clause-last_sum
returns-clause-last_sum g c = λ xs a b all counted. last_sum g.C.CellStore.fault_count g.met.C.CellStore.count_ends xs a b all counted

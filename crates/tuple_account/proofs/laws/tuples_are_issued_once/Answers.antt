use Rattle.tuple_account.specs.Histories.{rows_in}
use Rattle.tuple_account.proofs.Reading.{rows_are_found, once, nodes, few}
use Rattle.tuple_account.proofs.laws.tuples_are_issued_once.Goals as goal

pub returns-clause-rows : goal.returns-clause-rows
returns-clause-rows c = rows_are_found

pub returns-clause-once : goal.returns-clause-once
returns-clause-once c = λ t custom h b reached. once t custom h b reached (rows_in h.begun) (rows_are_found t custom h b reached)

pub returns-clause-nodes : goal.returns-clause-nodes
returns-clause-nodes c = nodes

pub returns-clause-few : goal.returns-clause-few
returns-clause-few c = few

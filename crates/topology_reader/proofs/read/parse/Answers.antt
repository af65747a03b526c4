use Rattle.std.proofs.Common.{refl}
use Rattle.topology_reader.proofs.Common.{false≢true}
use Rattle.topology_reader.proofs.Texts.{json_of-read, json_of-unread}
use Rattle.topology_reader.proofs.read.parse.Goals as goal

pub returns-in-Ok-clause-ok : goal.returns-in-Ok-clause-ok
returns-in-Ok-clause-ok c = json_of-read _ _ c.in-Ok.ensures.ok.0 c.in-Ok.ensures.ok.1

pub returns-in-Err-2-clause-fault : goal.returns-in-Err-2-clause-fault
returns-in-Err-2-clause-fault c = λ other. (refl, json_of-unread _ (c.in-Err.ensures.err (λ m. false≢true (c.if-is_memory.ensures.1 m))))

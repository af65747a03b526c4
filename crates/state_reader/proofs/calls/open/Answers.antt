use Rattle.state_reader.proofs.Keeping.{admits, opens}
use Rattle.state_reader.proofs.calls.open.Goals as goal

pub new-requires-3-clause-rule : goal.new-requires-3-clause-rule
new-requires-3-clause-rule g c = opens c.new.result c.new.ensures

pub reader-requires : goal.reader-requires
reader-requires g c = admits

use Rattle.storm_values.proofs.KeyLemmas.{plain-byte}
use Rattle.storm_values.proofs.keys.is_escaped.Goals as goal

pub returns-else-byte-eq34 : goal.returns-else-byte-eq34
returns-else-byte-eq34 c = plain-byte c.args.byte c.if-byte-eq34.false.0 c.if-byte-eq34.false.1

use Rattle.state_parts.specs.Gathered.{value_of}
use Rattle.state_parts.proofs.TableLemmas.{values_added}
use Rattle.state_parts.proofs.tables.add_values.Goals as goal

pub returns-clause-added : goal.returns-clause-added
returns-clause-added g c = λ cells told. values_added c.args.number c.args.at.now.component cells c.in-Ok.pairs (value_of c.args.values.now) (value_of c.put_pairs.new.values) c.if-at-number.false (c.in-Ok.ensures.rows cells told) c.in-Ok-put_pairs.ensures.put

use Rattle.tree_model.proofs.Packing.{begun_at}
use Rattle.tree_model.proofs.packed.begin_of.Goals as goal

pub returns : goal.returns
returns c = begun_at c.args.heads.now c.args.at _ c.if-at-eq0.false c.requires

use Rattle.std.proofs.Common.{All, subst}
use Rattle.tree_model.specs.Packs.{HasText, packed_from}
use Rattle.tree_model.proofs.Packing.{texts_all}
use Rattle.tree_model.proofs.packed.PackedWrites.keys_are_texts.Goals as goal

pub returns : goal.returns
returns c = subst (All HasText) c.self.view_is (texts_all (packed_from 0 c.self.inside.heads.items c.self.inside.keys.items) c.self.inside.texts)

use Rattle.std.proofs.Common.{length, ap, sym, ◌∙◌}
use Rattle.tree_model.proofs.Packing.{packed-long}
use Rattle.tree_model.proofs.packed.PackedWrites.len.Goals as goal

pub returns : goal.returns
returns c =
    c.len.ensures ∙ c.self.inside.heads.ok.0 ∙ sym (packed-long 0 c.self.inside.heads.items c.self.inside.keys.items) ∙ ap length c.self.view_is

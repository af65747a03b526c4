use Rattle.std.proofs.Common.{◌≡◌, None, List}
use Rattle.tree_model.specs.storm_values.declared.value.Root.{Root}
use Rattle.rotating_ledger.proofs.HeldLemmas.{each-rotated}
use Rattle.tree_model.specs.declared.messages.AckMsg.{AckMsg}
use Rattle.acker_core.specs.Entries.{tell}
use Rattle.acker_core.proofs.acker.Acker.tick.Goals as goal

pub invariant_of-self : goal.invariant_of-self
invariant_of-self c =
    rw c.rotate.ensures.kept
    (each-rotated (λ (q : Root) (list : List AckMsg). tell q list ≡ None) c.self.inside.entries.buckets c.self.inside.entries.held c.self.invariant)

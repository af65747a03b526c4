use Rattle.std.proofs.Common.{◌≡◌, ◌∷◌, ◌++◌, [], Some, ℕ, length, cond, rules, ap, ◌∙◌}
use Rattle.std.specs.HashMap.{Updates}
use Rattle.storm_values.specs.declared.value.Root.{Root}
use Rattle.rotating_ledger.specs.Held.{root_eq}
use Rattle.rotating_ledger.specs.Slots.{slot_at, key_of, key_eq}
use Rattle.rotating_ledger.specs.declared.slot.Slot.TheVariants.{Full}
use Rattle.rotating_ledger.proofs.SlotLemmas.{AreFound-put}
use Rattle.rotating_ledger.proofs.bucket.Bucket.put.Goals as goal

pub returns-in-Ok-push-clause-found : goal.returns-in-Ok-push-clause-found
returns-in-Ok-push-clause-found g c =
    let slot : c.len-slot.result ≡ length c.args.self.now.slots.items = search rules in
    let grown : c.push.new.self.items ≡ c.args.self.now.slots.items ++ Full c.args.root c.args.value ∷ [] = search rules in
    let up : Updates key_eq c.args.self.now.places c.insert.new.self (key_of c.args.root) (Some c.len-slot.result) = c.in-Ok.ensures.updates in
    rw grown (AreFound-put c.args.self.now.places c.insert.new.self c.args.self.now.slots.items c.args.root c.args.value c.requires.found c.requires.absent (λ (r : Root). up.0 (key_of r) ∙ ap (λ (n : ℕ). cond (root_eq c.args.root r) (Some n) (slot_at c.args.self.now.places r)) slot))

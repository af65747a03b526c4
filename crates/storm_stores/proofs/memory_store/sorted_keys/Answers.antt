use Rattle.std.proofs.Common.{IsPermutation, subst}
use Rattle.storm_stores.proofs.TableCells.{keys-sorted}
use Rattle.storm_stores.proofs.memory_store.sorted_keys.Goals as goal

pub returns : goal.returns
returns c =
    keys-sorted c.args.cells.now.entries c.sort_keys.new.keys.items c.copy_keys.ensures.distinct
    (subst (λ keys. IsPermutation keys c.sort_keys.new.keys.items) c.in_ok-keys.ensures.keys c.sort_keys.ensures.same) c.sort_keys.ensures.sorted

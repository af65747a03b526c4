-- The writes of a list of messages, in path order. This project's own.
use Rattle.std.specs.Prelude.{◌≡◌, ℕ, Option, None, Some, slice_get, List, [], ◌∷◌, false, IsPermutation}
use Rattle.std.specs.List.{AllByRecursion, flat_map}
use Rattle.std.specs.Ordering.{is_gt}
use Rattle.tree_model.specs.storm_values.Order.{path_cmp}
use Rattle.tree_model.specs.declared.messages.AckMsg.{AckMsg}
use Rattle.tree_model.specs.declared.messages.AckMsg.TheVariants as msg
use Rattle.tree_model.specs.declared.messages.Done.{Done}
use Rattle.tree_model.specs.declared.write.Write.{Write}

-- the done of a message, where it is one
abbrev pub done_in : AckMsg → List Done
done_in (msg.Init m) = []
done_in (msg.Done m) = m ∷ []
done_in (msg.Failed m) = []

abbrev pub dones_in : List AckMsg → List Done
dones_in list = flat_map done_in list

-- none consumes a path above that of one after it
abbrev pub AreInPathOrder : List Done → Type 0
AreInPathOrder [] = Unit {0}
AreInPathOrder (d ∷ ds) =
    AllByRecursion
    (λ (e : Done). is_gt (path_cmp d.consumed.path e.consumed.path) ≡ false) ds
    × AreInPathOrder ds

-- the done that stands where one may stand, if it is one
abbrev pub done_of : Option AckMsg → List Done
done_of None = []
done_of (Some m) = done_in m

-- the dones at places of a list
abbrev pub dones_at : List AckMsg → List ℕ → List Done
dones_at list places = flat_map (λ (k : ℕ). done_of (slice_get list k)) places

-- a done stands at a place of a list
abbrev pub HasDoneAt : List AckMsg → ℕ → Type 0
HasDoneAt list k = (d : Done) × (slice_get list k ≡ Some (msg.Done d))

-- the places of a list's dones, each once, in the order of the paths that these consume
pub record IsPathOrderOf (list : List AckMsg) (order : List ℕ) : Type 0 where
  pub there : AllByRecursion (HasDoneAt list) order
  pub same : IsPermutation (dones_in list) (dones_at list order)
  pub ordered : AreInPathOrder (dones_at list order)

abbrev pub writes_in : List Done → List Write
writes_in dones = flat_map (λ (d : Done). d.writes) dones

-- the writes of a list's dones, in the order of the paths that they consume
pub record AreWritesOf (list : List AckMsg) (writes : List Write) : Type 0 where
  pub dones : List Done
  pub same : IsPermutation (dones_in list) dones
  pub ordered : AreInPathOrder dones
  pub are : writes ≡ writes_in dones

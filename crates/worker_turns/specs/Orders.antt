-- What is to be handed over as runs. This project's own.
use Rattle.std.specs.Prelude.{◌≡◌, ℕ, List, [], ◌∷◌}
use Rattle.worker_stretches.specs.box_rows.Mails.{box_of}
use Rattle.event_worlds.specs.topology_plan.Topology.{Topology}
use Rattle.event_worlds.specs.tree_model.declared.messages.Parcel.{Parcel}

-- the front parcel is there, and goes to the box of a number
abbrev pub IsForBox : Topology → ℕ → List Parcel → Type 0
IsForBox t at [] = ⊥
IsForBox t at (p ∷ ps) = at ≡ box_of t p

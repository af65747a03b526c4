-- A keeper in memory.
use Rattle.std.specs.Prelude.{ℕ, List, Bool, true, false, Option, Some, None}
use Rattle.call_log.specs.Calls.{CallLog, NoFate, no_calls}
use Rattle.resume_meta.specs.Keepers.{Held}

-- what is held, the calls of each kind, those that fail, and how many have failed; a save that
-- fails is told with whether it happens all the same
pub record KeeperState : Type 0 where
  pub held : Held
  pub loads : CallLog NoFate
  pub saves : CallLog Bool
  pub faults : ℕ

-- a keeper of this, whose calls do not fail
abbrev pub keeper_of : Held → KeeperState
keeper_of held =
    record { held = held; loads = no_calls; saves = no_calls; faults = 0 }

-- what is held after a save that failed, which perhaps happened
abbrev pub held_after : Option Bool → Held → List ℕ → Held
held_after None held bytes = held
held_after (Some false) held bytes = held
held_after (Some true) held bytes = Some bytes

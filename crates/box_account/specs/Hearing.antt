-- What the coordinator heard of attempts whose commits failed. This project's own.
use Rattle.std.specs.Prelude.{◌≡◌, true, List}
use Rattle.std.specs.List.{AllByRecursion, Contains}
use Rattle.event_worlds.specs.acker_core.declared.verdict.Verdict.TheVariants.{Complete}
use Rattle.event_worlds.specs.attempt_fates.declared.fates.Attempt.{Attempt}
use Rattle.event_worlds.specs.attempt_fates.Fates.{is_failed_commit}
use Rattle.event_worlds.specs.storm_values.declared.value.Root.{Root}
use Rattle.event_worlds.specs.tree_model.declared.messages.AckMsg.{AckMsg}
use Rattle.event_worlds.specs.tuple_account.Histories.{History}

-- a verdict that a root is complete was heard
abbrev pub HeardComplete : History → Root → Type 0
HeardComplete h root = (list : List AckMsg) × Contains h.heard (Complete root list)

-- one was heard of each attempt whose commit failed
abbrev pub HeardBeforeFailing : History → List Attempt → Type 0
HeardBeforeFailing h fates =
    AllByRecursion (λ (a : Attempt). is_failed_commit a.end ≡ true → HeardComplete h a.root) fates

-- The steps by which a list's first failure is found. No public clause cites this module.
use Rattle.std.specs.Prelude.{◌≡◌, ◌<◌, ℕ, Bool, true, false, Option, None, Some, List, length, option_map}
use Rattle.tree_model.specs.declared.messages.AckMsg.{AckMsg}
use Rattle.tree_model.specs.declared.messages.AckMsg.TheVariants as msg
use Rattle.tree_model.specs.declared.messages.FailNote.{FailNote}
use Rattle.message_lists.specs.Packed.{failure_at}
use Rattle.acker_core.specs.Entries.{first_failed}

abbrev pub fails : AckMsg → Bool
fails (msg.Init m) = false
fails (msg.Done m) = false
fails (msg.Failed m) = true

abbrev pub path_in : Option FailNote → Option (List ℕ)
path_in found = option_map (λ (n : FailNote). n.path) found

-- the place of the first failure, if there is one
abbrev pub IsFirstFailure : List AckMsg → Option ℕ → Type 0
IsFirstFailure list None = first_failed list ≡ None
IsFirstFailure list (Some at) =
    (at < length list) × (first_failed list ≡ path_in (failure_at list at))

use Rattle.tuple_tickets.proofs.Stuck.{all_covered}
use Rattle.tuple_tickets.proofs.laws.lists_of_all_notes_cover.Goals as goal

pub returns : goal.returns
returns g c = λ coded growth a account none_waits none_mute root list begun has_all none_failed.
    all_covered coded growth a account none_waits none_mute root list has_all begun none_failed

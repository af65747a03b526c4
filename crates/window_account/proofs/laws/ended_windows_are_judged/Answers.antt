use Rattle.window_account.proofs.Ending.{is_noted, acked_covers, all_acked}
use Rattle.window_account.proofs.laws.ended_windows_are_judged.Goals as goal

pub returns : goal.returns
returns c = record { noted = is_noted; covers = acked_covers; acked = all_acked }

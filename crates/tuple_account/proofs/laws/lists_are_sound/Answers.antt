use Rattle.tuple_account.proofs.Listing.{held_list, told_lists}
use Rattle.tuple_account.proofs.laws.lists_are_sound.Goals as goal

pub returns-clause-held : goal.returns-clause-held
returns-clause-held c = held_list

pub returns-clause-told : goal.returns-clause-told
returns-clause-told c = told_lists

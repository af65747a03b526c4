-- What callers see of a publisher.
use Rattle.std.specs.Prelude.{◌≡◌, false, true, List, ◌∷◌, Option}
use Rattle.tree_model.specs.topology_plan.declared.parts.Fold.{Fold}
use Rattle.state_reader.specs.declared.handles.Publisher.{Publisher}
use Rattle.state_reader.specs.Commits.{Commit}
use Rattle.state_reader.specs.Lists.{shown_by, shown_by_each}

-- a publisher's list: the commits that it has published
abbrev pub list_of : Publisher → List Commit
list_of publisher = shown_by publisher.first

-- the commits that each reader may read
abbrev pub lists_of : Publisher → List (List Commit)
lists_of publisher = shown_by publisher.first ∷ shown_by_each publisher.others.items

-- the folds by which it answers
abbrev pub answering_folds : Publisher → List (Option Fold)
answering_folds publisher = publisher.folds

-- no publish was without memory
abbrev pub IsLive : Publisher → Type 0
IsLive publisher = publisher.failed ≡ false

-- a publish was without memory
abbrev pub IsOver : Publisher → Type 0
IsOver publisher = publisher.failed ≡ true

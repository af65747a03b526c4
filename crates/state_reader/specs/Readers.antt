-- What callers see of a reader, of those that are not handed out, and of what was told.
use Rattle.std.specs.Prelude.{◌≡◌, List, [], Option}
use Rattle.tree_model.specs.topology_plan.Topology.{Topology}
use Rattle.tree_model.specs.topology_plan.declared.parts.Fold.{Fold}
use Rattle.state_reader.specs.declared.handles.Reader.{Reader}
use Rattle.state_reader.specs.declared.handles.Readers.{Readers}
use Rattle.state_reader.specs.declared.handles.ToldCommits.{ToldCommits}
use Rattle.state_reader.specs.Commits.{Commit}
use Rattle.state_reader.specs.Folds.{folds_in}
use Rattle.state_reader.specs.Pairs.{seen_in, told_by, told_in}

-- a reader's book: the commits that it has seen
abbrev pub book_of : Reader → List Commit
book_of reader = seen_in reader.eye

-- the commits that it has learned since it read
abbrev pub learned_by : Reader → List Commit
learned_by reader = told_in reader.note

-- the folds by which it answers
abbrev pub folds_of : Reader → List (Option Fold)
folds_of reader = reader.folds

-- the commits that are told
abbrev pub told_list : ToldCommits → List Commit
told_list told = told_by told.first

-- the readers that are not handed out
abbrev pub left_in : Readers → List Reader
left_in readers = readers.list.items

-- a reader of a topology's states that has read nothing
pub record IsNewReader (t : Topology) (reader : Reader) : Type 0 where
  pub book : book_of reader ≡ []
  pub learned : learned_by reader ≡ []
  pub folds : folds_of reader ≡ folds_in t

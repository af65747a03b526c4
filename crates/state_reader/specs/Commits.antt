-- Commits, the changes that they are made of, and the values after them. This project's own.
use Rattle.std.specs.Prelude.{ℕ, ℤ, ◌+◌, Option, option_and_then, List, [], ◌∷◌, ◌++◌, map}
use Rattle.tree_model.specs.topology_plan.declared.parts.Fold.{Fold}
use Rattle.tree_model.specs.declared.write.Write.{Write}
use Rattle.tree_model.specs.Tables.{base}
use Rattle.state_reader.specs.Totals.{folding}
use Rattle.state_reader.specs.declared.change.Change.{Change}
use Rattle.state_reader.specs.declared.change.Change.TheVariants as change

-- a commit is the list of its writes
abbrev pub Commit : Type 0
Commit = List Write

-- all writes of some commits, in order
abbrev pub writes_of_all : List Commit → List Write
writes_of_all [] = []
writes_of_all (c ∷ commits) = c ++ writes_of_all commits

-- the value of a key of a state after some writes by a fold, if there is one
abbrev pub value_by : Option Fold → List Write → ℕ → List ℕ → Option ℤ
value_by by writes state key = option_and_then (λ fold. base (folding fold) writes state key) by

-- the value of a key of a state after some commits
abbrev pub value_after : Option Fold → List Commit → ℕ → List ℕ → Option ℤ
value_after by commits state key = value_by by (writes_of_all commits) state key

-- ---- changes

-- the changes of some commits: each commit's writes, and its end
abbrev pub changes_of : List Commit → List Change
changes_of [] = []
changes_of (c ∷ commits) = map change.Write c ++ change.End ∷ changes_of commits

-- the writes among some changes
abbrev pub writes_in : List Change → List Write
writes_in [] = []
writes_in (change.Write write ∷ changes) = write ∷ writes_in changes
writes_in (change.End ∷ changes) = writes_in changes

-- how many ends are among some changes
abbrev pub ends_in : List Change → ℕ
ends_in [] = 0
ends_in (change.Write write ∷ changes) = ends_in changes
ends_in (change.End ∷ changes) = 1 + ends_in changes

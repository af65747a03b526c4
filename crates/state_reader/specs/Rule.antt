-- The rule of a pair, and what a step tells. This project's own.
use Rattle.std.specs.Prelude.{◌≡◌, ℕ, List}
use mathlib.Core.Option.{some}
use lib.ListN.{get_elem?}
use Rattle.state_reader.specs.declared.store.Store.{Store}
use Rattle.state_reader.specs.declared.view.View.{View}
use Rattle.state_reader.specs.Commits.{Commit, changes_of}
use Rattle.state_reader.specs.Views.{Begins}

-- what a view has seen and was told of are prefixes of these commits
abbrev pub Fits : List Commit → View → Type 0
Fits all v = Begins v.seen all × Begins v.told all

abbrev pub AllFit : List Commit → List View → Type 0
AllFit all views = (seat : ℕ) (v : View) → get_elem? views seat ≡ some v → Fits all v

-- the store has the changes of some commits, which begin with what each has seen and was told of
abbrev pub Keeps : Store → List View → Type 0
Keeps x views = (all : List Commit) × (x.log.items ≡ changes_of all) × AllFit all views

-- What is seen afterwards is the commits of the store y. They begin with what was seen before, and
-- with what was told.
abbrev pub Shows : View → Store → Store → View → Type 0
Shows v x y w =
    Begins v.seen w.seen × Begins v.told w.seen × (w.told ≡ v.told)
    × (y.log.items ≡ changes_of w.seen)

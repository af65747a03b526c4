-- What is said of what a publisher and a reader hold.
use Rattle.std.specs.Prelude.{List, [], map, Option, None, Some}
use Rattle.std.specs.Option.{ForSome}
use Rattle.left_right.specs.Sides.{view}
use Rattle.left_right.specs.declared.Absorb.{Ghosts}
use Rattle.left_right.specs.declared.reader.Reader.{Reader}
use Rattle.left_right.specs.declared.writer.Writer.{Writer}
use Rattle.state_reader.specs.declared.change.Change.{Change}
use Rattle.state_reader.specs.declared.store.Store.{Store}
use Rattle.state_reader.specs.declared.view.View.{View}
use Rattle.state_reader.specs.Commits.{Commit}
use Rattle.state_reader.specs.Calls.{seen_by, IsShown, IsReady}

module _ {P A : Type 0} where
  -- a reader's book: the commits that it has seen
  abbrev pub seen_in : Option (Reader Store View P A) → List Commit
  seen_in None = []
  seen_in (Some r) = (view r.place).seen

  -- the commits that it was told of
  abbrev pub told_in : Option (Reader Store View P A) → List Commit
  told_in None = []
  told_in (Some r) = (view r.place).told

module _ {P A S : Type 0} {g : Ghosts Store Change S} where
  -- a publisher's list
  abbrev pub published_in : Option (Writer Store Change View P A S g) → List Commit
  published_in None = []
  published_in (Some w) = seen_by w

  -- readers take its list
  abbrev pub AreShown : Option (Writer Store Change View P A S g) → Type 0
  AreShown w = ForSome w IsShown

  -- and it has no other changes
  abbrev pub AreReady : Option (Writer Store Change View P A S g) → Type 0
  AreReady w = ForSome w IsReady

module _ {P A : Type 0} where
  -- the commits that a reader was told of
  abbrev pub told_by : Reader Store View P A → List Commit
  told_by reader = (view reader.place).told

  abbrev pub told_by_each : List (Reader Store View P A) → List (List Commit)
  told_by_each readers = map told_by readers

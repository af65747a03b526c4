-- What the calls say of a writer.
use Rattle.std.specs.Prelude.{◌≡◌, List, [], drop}
use Rattle.left_right.specs.Sides.{view}
use Rattle.left_right.specs.declared.Absorb.{Ghosts}
use Rattle.left_right.specs.declared.writer.Writer.{Writer}
use Rattle.state_reader.specs.declared.change.Change.{Change}
use Rattle.state_reader.specs.declared.store.Store.{Store}
use Rattle.state_reader.specs.declared.view.View.{View}
use Rattle.state_reader.specs.Commits.{Commit, changes_of}

module _ {P A S : Type 0} {g : Ghosts Store Change S} where
  -- the commits that the writer has published
  abbrev pub seen_by : Writer Store Change View P A S g → List Commit
  seen_by w = (view w.desk.place).seen

  -- the changes that readers do not see yet
  abbrev pub pending : Writer Store Change View P A S g → List Change
  pending w = drop w.behind w.log.items

  -- readers take the changes of the commits that it has published
  abbrev pub IsShown : Writer Store Change View P A S g → Type 0
  IsShown w = w.desk.shown.value.log.items ≡ changes_of (seen_by w)

  -- and it has no others
  abbrev pub IsReady : Writer Store Change View P A S g → Type 0
  IsReady w = IsShown w × (pending w ≡ [])

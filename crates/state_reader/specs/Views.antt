-- What the writer of a pair and its readers know.
use Rattle.std.specs.Prelude.{◌≡◌, List, [], ◌++◌}
use Rattle.state_reader.specs.declared.view.View.{View}
use Rattle.state_reader.specs.Commits.{Commit}

-- the first commits are a prefix of the second
abbrev pub Begins : List Commit → List Commit → Type 0
Begins seen all = (more : List Commit) × (all ≡ seen ++ more)

-- it has seen nothing, and was told nothing
abbrev pub newcomer : View
newcomer = record { seen = []; told = [] }

-- a reader that was told what another has seen
abbrev pub informed : View → View → View
informed v w = record { seen = v.seen; told = w.seen }

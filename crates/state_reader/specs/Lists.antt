-- The lists of commits of several pairs.
use Rattle.std.specs.Prelude.{◌≡◌, ◌⊎◌, List, [], ◌∷◌, ◌++◌, map}
use Rattle.state_reader.specs.Commits.{Commit}
use Rattle.state_reader.specs.Pairs.{published_in}
use Rattle.state_reader.specs.declared.sides.Pair.{Pair}

-- the commits that a pair shows
abbrev pub shown_by : Pair → List Commit
shown_by pair = published_in pair.writer

-- the commits that each pair shows
abbrev pub shown_by_each : List Pair → List (List Commit)
shown_by_each pairs = map shown_by pairs

-- one more commit
abbrev pub with_commit : Commit → List Commit → List Commit
with_commit commit list = list ++ commit ∷ []

-- a list that has the commit, or not
abbrev pub MayHave : Commit → List Commit → List Commit → Type 0
MayHave commit old new = (new ≡ with_commit commit old) ⊎ (new ≡ old)

-- A shelf in memory.
use Rattle.std.specs.Prelude.{ℕ, ◌≡◌, ◌⊎◌, List, [], Option, None}
use Rattle.call_log.specs.Calls.{CallLog, NextFails, NoFate, no_calls}
use Rattle.storm_outside.specs.Files.{file_of}

-- the files with their names, what is left of the current one, and the most that one read gives
pub record ShelfState : Type 0 where
  pub files : List (List ℕ × List ℕ)
  pub rest : Option (List ℕ)
  pub longest : ℕ
  pub fetches : CallLog NoFate
  pub reads : CallLog NoFate
  pub faults : ℕ

abbrev pub empty_shelf : ℕ → ShelfState
empty_shelf longest =
    record {
      files = [];
      rest = None;
      longest = longest;
      fetches = no_calls;
      reads = no_calls;
      faults = 0;
    }

-- the next fetch of this name fails: it is one that was to fail, or no file has the name
abbrev pub FetchFails : ShelfState → List ℕ → Type 0
FetchFails shelf name = NextFails shelf.fetches ⊎ (file_of shelf.files name ≡ None)

-- no call is to fail
abbrev pub IsReady : ShelfState → Type 0
IsReady shelf = (shelf.fetches.failing ≡ []) × (shelf.reads.failing ≡ [])

-- What a call of the program promises, by the command that its words give.
use Rattle.std.specs.Prelude.{◌≡◌, ◌⊎◌, ℕ, List, Option, Some, None}
use Rattle.event_worlds.specs.bolt_ops.RowOp.{Custom}
use Rattle.event_worlds.specs.attempt_fates.declared.fates.Attempt.{Attempt}
use Rattle.storm_resume.specs.storm_answers.declared.status.Status.{Status}
use Rattle.storm_resume.specs.storm_answers.declared.status.Status.TheVariants as status
use Rattle.storm_program.specs.Check.{check_promise}
use Rattle.storm_resume.specs.storm_answers.Ends.{Promise, Ends, IsAnswered, Counts, IsDoneOrShort}
use Rattle.storm_program.specs.Load.{load_promise}
use Rattle.storm_resume.specs.storm_answers.Outside.{RunUse, ShelfUse, SinkUse, TicksUse}
use Rattle.storm_program.specs.Plain.{plain_promise}
use Rattle.storm_program.specs.Replay.{replay_promise}
use Rattle.storm_resume.specs.storm_answers.Runs.{IsNotBegun}
use Rattle.storm_program.specs.Run.{run_promise}
use Rattle.storm_resume.specs.storm_answers.Statuses.{code_of}
use Rattle.storm_resume.specs.storm_answers.Texts.{usage}
use Rattle.storm_program.specs.Track.{track_promise}
use Rattle.storm_words.specs.Words.{Command, check, plain, replay, run, load, track, fold_over, command}

-- Words that are no command come to the usage line: no file is fetched, and nothing is run.
abbrev pub WordsCome : ShelfUse → RunUse → List Attempt → Status → List ℕ → Type 0
WordsCome shelf base fates status.Words text =
    (shelf.fetches_after ≡ shelf.fetches_before) × (text ≡ usage) × IsNotBegun base fates
WordsCome shelf base fates _ text = ⊥

-- and they call for it
abbrev pub words_promise : ShelfUse → RunUse → List Attempt → Promise
words_promise shelf base fates = record {
  comes = WordsCome shelf base fates;
  calls = λ ending. ending ≡ status.Words;
  must_finish = ⊥;
}

-- What each command promises of its own. One line a command. A fold promises what `plain` does,
-- whatever the number of workers.
abbrev pub command_promise : Custom → ShelfUse → SinkUse → RunUse → TicksUse → (List ℕ → Type 0)
    → List Attempt → Option Command → Promise
command_promise custom shelf sink base ticks availing fates (Some (check topology)) =
    check_promise shelf base.stores fates topology
command_promise custom shelf sink base ticks availing fates (Some (plain topology input)) =
    plain_promise custom shelf base.stores fates topology input
command_promise custom shelf sink base ticks availing fates
    (Some (replay topology input schedule)) =
    replay_promise custom shelf sink base fates topology input schedule
command_promise custom shelf sink base ticks availing fates (Some (run topology input workers)) =
    run_promise custom shelf sink base ticks availing fates topology input
command_promise custom shelf sink base ticks availing fates (Some (load count seed)) =
    load_promise custom shelf sink base fates count seed
command_promise custom shelf sink base ticks availing fates (Some (track topology input workers)) =
    track_promise custom shelf base.stores fates topology input
command_promise custom shelf sink base ticks availing fates
    (Some (fold_over topology input workers)) =
    plain_promise custom shelf base.stores fates topology input
command_promise custom shelf sink base ticks availing fates None = words_promise shelf base fates

-- no file is fetched, and nothing is run
abbrev pub IsNotStarted : ShelfUse → RunUse → List Attempt → Type 0
IsNotStarted shelf base fates =
    (shelf.fetches_after ≡ shelf.fetches_before) × IsNotBegun base fates

-- What a command comes to, where memory may be wanted for the words already.
abbrev pub ComesOfWords : ShelfUse → RunUse → List Attempt → (Status → List ℕ → Type 0) → Status
    → List ℕ → Type 0
ComesOfWords shelf base fates Comes status.Memory text =
    Comes status.Memory text ⊎ IsNotStarted shelf base fates
ComesOfWords shelf base fates Comes ending text = Comes ending text

-- What a call promises, by the command that its words give.
abbrev pub promise : Custom → ShelfUse → SinkUse → RunUse → TicksUse → (List ℕ → Type 0)
    → List Attempt → Option Command → Promise
promise custom shelf sink base ticks availing fates said =
    let own = command_promise custom shelf sink base ticks availing fates said in
    record own { comes = ComesOfWords shelf base fates own.comes }

-- A call with an operation that was handed in, over a shelf, a sink, stores, ids, ticks and what
-- was told of the partitions that are shut, ended with a status, and left these fates.
pub record Calls (custom : Custom) (words : List (List ℕ)) (shelf : ShelfUse) (sink : SinkUse)
    (base : RunUse) (ticks : TicksUse) (availing : List ℕ → Type 0) (fates : List Attempt)
    (ending : Status) : Type 0 where
  pub ends : Ends
      (promise custom shelf sink base ticks availing fates (command words)).comes sink ending
  pub answered : IsAnswered
      (promise custom shelf sink base ticks availing fates (command words)).calls shelf sink ending
  pub finishes : (promise custom shelf sink base ticks availing fates (command words)).must_finish
      → IsDoneOrShort ending
  pub counts : Counts shelf sink base.stores

-- the program ended with an exit status, that of a call
pub record Exits (custom : Custom) (words : List (List ℕ)) (shelf : ShelfUse) (sink : SinkUse)
    (base : RunUse) (ticks : TicksUse) (availing : List ℕ → Type 0) (code : ℕ) : Type 0 where
  pub ending : Status
  pub fates : List Attempt
  pub is_code : code ≡ code_of ending
  pub call : Calls custom words shelf sink base ticks availing fates ending

-- The command `track`: each record is a root of its own and is tried until it is acked, so that its
-- tuples are processed at least once.
use Rattle.std.specs.Prelude.{◌≡◌, ℕ, List, []}
use Rattle.event_worlds.specs.attempt_fates.declared.fates.Attempt.{Attempt}
use Rattle.event_worlds.specs.bolt_ops.RowOp.{Custom}
use Rattle.storm_resume.specs.storm_answers.declared.status.Status.{Status}
use Rattle.storm_resume.specs.storm_answers.declared.status.Status.TheVariants as status
use Rattle.storm_resume.specs.storm_answers.Ends.{Promise}
use Rattle.storm_resume.specs.storm_answers.Files.{FilesCall, FilesCome}
use Rattle.storm_resume.specs.storm_answers.Outside.{Fetched, ShelfUse}
use Rattle.storm_resume.specs.storm_answers.Runs.{IsOfFiles}
use Rattle.storm_resume.specs.stored_runs.Makers.{IsUntouched, MakerUse}
use Rattle.track_runs.specs.Tracked.{IsTrackText}

-- What it comes to, by its status. It comes to no other status, and neither the number of workers
-- nor the ids have a part in it.
abbrev pub TrackComes : Custom → ShelfUse → List ℕ → List ℕ → Status → List ℕ → Type 0
TrackComes custom shelf topology input status.Done text =
    Fetched 2 shelf
    × IsOfFiles shelf.holds topology input (λ plan records. IsTrackText plan custom records text)
TrackComes custom shelf topology input ending text = FilesCome shelf topology input ending text

-- Which status the told files call for.
abbrev pub TrackCalls : (List ℕ → List ℕ → Type 0) → List ℕ → List ℕ → Status → Type 0
TrackCalls = FilesCall

-- `track` as a command among others: it leaves fates and stores alone, and what it is called for is
-- all that it promises
abbrev pub track_promise : Custom → ShelfUse → MakerUse → List Attempt → List ℕ → List ℕ → Promise
track_promise custom shelf stores fates topology input = record {
  comes = λ ending text.
      TrackComes custom shelf topology input ending text × (fates ≡ []) × IsUntouched stores;
  calls = TrackCalls shelf.holds topology input;
  must_finish = ⊥;
}

-- The command that the program has read, in the definitions' words.
use Rattle.std.specs.Prelude.{◌≤◌}
use Rattle.storm_values.specs.Limits.{most_workers}
use Rattle.storm_words.specs.declared.words.Command.{Command}
use Rattle.storm_words.specs.declared.words.Command.TheVariants as read
use Rattle.storm_words.specs.Words.{Command as Said, check, plain, replay, run, load, track, fold_over}

-- the same command in the words of the definitions
abbrev pub command_of_words : Command → Said
command_of_words (read.Check topology) = check topology.now
command_of_words (read.Plain topology input) = plain topology.now input.now
command_of_words (read.Replay topology input schedule) =
    replay topology.now input.now schedule.now
command_of_words (read.Run topology input workers) = run topology.now input.now workers
command_of_words (read.Load records seed) = load records seed
command_of_words (read.Track topology input workers) = track topology.now input.now workers
command_of_words (read.Fold topology input workers) = fold_over topology.now input.now workers

-- A run has a worker, and not more than the most, and so have a tracking and a fold. A load has a
-- record, and its numbers are at most 10,000 and 65,535.
abbrev pub IsWithin : Command → Type 0
IsWithin (read.Check topology) = Unit {0}
IsWithin (read.Plain topology input) = Unit {0}
IsWithin (read.Replay topology input schedule) = Unit {0}
IsWithin (read.Run topology input workers) = (1 ≤ workers) × (workers ≤ most_workers)
IsWithin (read.Load records seed) = (1 ≤ records) × (records ≤ 10000) × (seed ≤ 65535)
IsWithin (read.Track topology input workers) = (1 ≤ workers) × (workers ≤ most_workers)
IsWithin (read.Fold topology input workers) = (1 ≤ workers) × (workers ≤ most_workers)

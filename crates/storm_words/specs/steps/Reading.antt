-- The command that a parse of the words comes to.
use Rattle.std.specs.Prelude.{ℕ, List, [], Option, Some, None, codes, option_and_then, unwrap_or, if◌then◌else◌}
use Rattle.std.specs.Str.{bytes_eq}
use Rattle.clap.specs.Words.{Row, Text, first_of}
use Rattle.storm_values.specs.Limits.{most_workers}
use Rattle.storm_words.specs.Words.{Command, check, plain, replay, run, load, track, fold_over, number_word}
use Rattle.storm_words.specs.steps.Parser.{topology, input, schedule, workers, records, seed}

-- the text of an argument, empty where it has none
abbrev pub text_of : Text → List Row → Text
text_of id rows = unwrap_or (first_of id rows) []

-- four workers, where no number is given
abbrev pub workers_of : Option Text → Option ℕ
workers_of None = Some 4
workers_of (Some word) = number_word 1 most_workers word

-- the command of a subcommand's name and what its arguments were given
abbrev pub read_of : Option (Text × List Row) → Option Command
read_of None = None
read_of (Some (name, rows)) =
    if bytes_eq name (codes "check") then Some (check (text_of topology rows))
    else (if bytes_eq name (codes "plain")
    then Some (plain (text_of topology rows) (text_of input rows))
    else (if bytes_eq name (codes "replay")
    then Some (replay (text_of topology rows) (text_of input rows) (text_of schedule rows))
    else (if bytes_eq name (codes "run")
    then option_and_then (λ w. Some (run (text_of topology rows) (text_of input rows) w))
    (workers_of (first_of workers rows))
    else (if bytes_eq name (codes "load")
    then option_and_then
    (λ n. option_and_then (λ s. Some (load n s)) (number_word 0 65535 (text_of seed rows)))
    (number_word 1 10000 (text_of records rows))
    else (if bytes_eq name (codes "track")
    then option_and_then (λ w. Some (track (text_of topology rows) (text_of input rows) w))
    (workers_of (first_of workers rows))
    else option_and_then (λ w. Some (fold_over (text_of topology rows) (text_of input rows) w))
    (workers_of (first_of workers rows)))))))

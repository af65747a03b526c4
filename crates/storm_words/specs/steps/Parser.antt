-- What the parser of words is made of.
use Rattle.std.specs.Prelude.{List, [], ◌∷◌, Bool, true, false, codes}
use Rattle.clap.specs.Words.{App, Rule, Shape, Text, new_app, new_rule, with_rule, with_subcommand}
use Rattle.clap.specs.Simple.{new_shape}

-- a positional argument of one text
abbrev pub positional : Text → Bool → Rule
positional id required = record (new_rule id) { required = required }

-- a command with texts that have to be there
abbrev pub with_texts : App → List Text → App
with_texts app [] = app
with_texts app (id ∷ ids) = with_texts (with_rule app (positional id true)) ids

abbrev pub app_with : Text → List Text → App
app_with name ids = with_texts (new_app name) ids

-- the names of the texts
abbrev pub topology : Text
topology = codes "topology"

abbrev pub input : Text
input = codes "input"

abbrev pub schedule : Text
schedule = codes "schedule"

abbrev pub workers : Text
workers = codes "workers"

abbrev pub records : Text
records = codes "records"

abbrev pub seed : Text
seed = codes "seed"

-- the subcommands
abbrev pub check_app : App
check_app = app_with (codes "check") (topology ∷ [])

abbrev pub plain_app : App
plain_app = app_with (codes "plain") (topology ∷ input ∷ [])

abbrev pub replay_app : App
replay_app = app_with (codes "replay") (topology ∷ input ∷ schedule ∷ [])

abbrev pub run_app : App
run_app = with_rule (app_with (codes "run") (topology ∷ input ∷ [])) (positional workers false)

abbrev pub load_app : App
load_app = app_with (codes "load") (records ∷ seed ∷ [])

abbrev pub track_app : App
track_app =
    with_rule (app_with (codes "track") (topology ∷ input ∷ [])) (positional workers false)

abbrev pub fold_app : App
fold_app = with_rule (app_with (codes "fold") (topology ∷ input ∷ [])) (positional workers false)

-- the words are those after the program's name, and there is no help
abbrev pub top_shape : Shape
top_shape = record (new_shape (codes "storm")) {
  no_binary_name = true;
  disable_help_flag = true;
  disable_help_subcommand = true;
}

abbrev pub top_app : App
top_app = record { top = top_shape; subs = [] }

-- the whole parser
abbrev pub storm_app : App
storm_app =
    with_subcommand (with_subcommand (with_subcommand (with_subcommand (with_subcommand
    (with_subcommand (with_subcommand top_app check_app.top) plain_app.top) replay_app.top)
    run_app.top) load_app.top) track_app.top) fold_app.top

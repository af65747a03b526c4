use Rattle.std.proofs.Common.{◌≡◌, ◌∙◌, true, false, ap, ap₂}
use Rattle.std.proofs.lemmas.Result.{IfOk-weaker}
use Rattle.clap.specs.Words.{App, Text, app_of, with_rule, with_subcommand}
use Rattle.storm_words.specs.steps.Parser.{check_app, fold_app, load_app, plain_app, positional, records, replay_app, run_app, schedule, seed, topology, track_app, workers}
use Rattle.storm_words.proofs.parser.storm_parser.Goals as goal

abbrev plus : App → App → App
plus a b = with_subcommand a b.top

abbrev text : Text → App → App
text id a = with_rule a (positional id true)

pub returns-clause-app : goal.returns-clause-app
returns-clause-app c =
    let check_is : app_of c.in_ok-check.check ≡ check_app = c.in_ok-check.ensures.app ∙ ap (text topology) c.new.ensures.app in
    let plain_is : app_of c.in_ok-plain.plain ≡ plain_app = c.in_ok-plain.ensures.app in
    let replay_is : app_of c.in_ok-replay.replay ≡ replay_app = c.in_ok-replay.ensures.app ∙ ap (text schedule) c.in_ok-over_files.ensures.app in
    let run_is : app_of c.in_ok-run.run' ≡ run_app = c.in_ok-run.ensures.app ∙ ap (λ (a : App). with_rule a (positional workers false)) c.in_ok-over_files-2.ensures.app in
    let load_is : app_of c.in_ok-load-2.load ≡ load_app = c.in_ok-load-2.ensures.app ∙ ap (text seed) (c.in_ok-load.ensures.app ∙ ap (text records) c.new-2.ensures.app) in
    let track_is : app_of c.in_ok-track.track ≡ track_app = c.in_ok-track.ensures.app ∙ ap (λ (a : App). with_rule a (positional workers false)) c.in_ok-over_files-3.ensures.app in
    let fold_is : app_of c.in_ok-fold.fold ≡ fold_app = c.in_ok-fold.ensures.app ∙ ap (λ (a : App). with_rule a (positional workers false)) c.in_ok-over_files-4.ensures.app in
    IfOk-weaker c.with_command-7.result _ _ (λ made h. h
    ∙ ap₂ plus (c.in_ok-storm-6.ensures.app
    ∙ ap₂ plus (c.in_ok-storm-5.ensures.app
    ∙ ap₂ plus (c.in_ok-storm-4.ensures.app
    ∙ ap₂ plus (c.in_ok-storm-3.ensures.app
    ∙ ap₂ plus (c.in_ok-storm-2.ensures.app
    ∙ ap₂ plus (c.in_ok-storm.ensures.app
    ∙ ap₂ plus c.top.ensures.app check_is) plain_is) replay_is) run_is) load_is) track_is) fold_is) c.with_command-7.ensures.app

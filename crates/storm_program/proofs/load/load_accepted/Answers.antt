use Rattle.std.proofs.Common.{◌≡◌, ◌⊎◌, ℕ, ◌+◌, ◌*◌, List, [], ◌∷◌, Err, refl, string_bytes, subst, sym, rules}
use Rattle.event_worlds.specs.attempt_fates.declared.fates.Attempt.{Attempt}
use Rattle.event_worlds.specs.taken_records.Cuts.{Cut}
use Rattle.event_worlds.specs.tree_model.Trees.{node_count}
use Rattle.storm_resume.specs.schedule_core.Schedules.{all_steps}
use Rattle.schedule_reader.specs.declared.event.Event.{Event}
use Rattle.schedule_reader.specs.declared.event.Event.TheVariants.{Rounds}
use Rattle.storm_resume.proofs.storm_answers.EndLemmas.{IfErr-exit}
use Rattle.storm_program.proofs.LoadLemmas.{events_are, few_ticks, rounds_serve, shuts_none}
use Rattle.storm_program.proofs.ReplayLemmas.{load_line_if}
use Rattle.storm_resume.proofs.storm_answers.ReportLemmas.{ends_so, free_over, none_rose, unfollowed, work_finishes, work_short, work_stops}
use Rattle.storm_program.specs.Load.{IsLoadLine, load_events}
use Rattle.storm_resume.specs.storm_answers.Outside.{RunUse, run_use}
use Rattle.storm_program.specs.Replay.{ReplayEndsSo}
use Rattle.storm_resume.specs.storm_answers.Runs.{IsNotBegun, IsShort}
use Rattle.storm_resume.specs.stored_runs.Makers.{maker_use}
use Rattle.storm_resume.specs.stored_runs.StoredRuns.{IsRunOfWorld}
use Rattle.storm_program.proofs.load.load_accepted.Goals as goal

pub returns-in_err-text_of_end-clause-stop : goal.returns-in_err-text_of_end-clause-stop
returns-in_err-text_of_end-clause-stop g c =
    let base : RunUse = (run_use (maker_use g.M.C.CellStore.tells g.M.C.CellStore.fault_count g.M.StoreMaker.holds g.M.StoreMaker.has_made g.M.StoreMaker.fault_count c.args.stores.now c.replay_over.new.stores) (g.N.IdMaker.tells c.args.ids.now)) in
    let fates : List Attempt = c.replay_over.new.fates in
    let one : c.in_ok-events.events ≡ Rounds (64 * (node_count c.args.files.plan (g.O.RowOp.meaning c.args.custom.now) c.in_ok-offers.offers.records + c.counted_in-counted.result.batches + 1)) ∷ [] = search rules in
    let same : c.in_ok-events.events ≡ load_events c.args.files.plan (g.O.RowOp.meaning c.args.custom.now) c.args.files.rows = events_are c.args.files.plan (g.O.RowOp.meaning c.args.custom.now) c.in_ok-offers.offers c.counted_in-counted.result.batches c.counted_in-counted.ensures.batches c.in_ok-events.events one c.args.files.rows c.in_ok-offers.ensures.cut in
    IfErr-exit c.from_residual-in_err-text_of_end.result c.in_err-text_of_end.field-0.0 _ c.from_residual-in_err-text_of_end.ensures.1
    (work_stops {T = ℕ} (ReplayEndsSo (g.O.RowOp.meaning c.args.custom.now) c.args.files.plan c.args.files.rows (load_events c.args.files.plan (g.O.RowOp.meaning c.args.custom.now) c.args.files.rows) base fates) (IsNotBegun base fates ⊎ IsShort (g.O.RowOp.meaning c.args.custom.now) c.args.files.plan c.args.files.rows base fates) c.args.files.plan c.counted_in-counted.result.records fates c.in_ok-ending.ending (Err c.in_err-text_of_end.field-0.0)
    (λ text printed.
    subst (λ (es : List Event). ReplayEndsSo (g.O.RowOp.meaning c.args.custom.now) c.args.files.plan c.args.files.rows es base fates c.in_ok-ending.ending text) same
    (record {
      ends = ends_so _ _ _ _ _ _ _ c.in_ok-offers.ensures.cut _ c.counted_in-counted.ensures.records c.in_ok-ending.ending c.in_ok-ending.ensures.comes c.replay_over.ensures.back text printed;
      of_world = subst (λ (k : Cut). IsRunOfWorld (g.N.IdMaker.tells c.args.ids.now) c.args.files.plan (g.O.RowOp.meaning c.args.custom.now) k (all_steps c.args.files.plan c.in_ok-events.events) fates c.in_ok-ending.ending) c.in_ok-offers.ensures.cut c.in_ok-ending.ensures.world;
    }))
    (work_short (g.O.RowOp.meaning c.args.custom.now) c.args.files.plan c.args.files.rows base 0 fates c.in_ok-offers.offers c.in_ok-offers.ensures.cut c.replay_over.ensures.once c.replay_over.ensures.back c.in_ok-ending.ensures.comes.stands)
    c.in_err-text_of_end.ensures.stop)

pub returns-in_err-text_of_end-clause-finishes : goal.returns-in_err-text_of_end-clause-finishes
returns-in_err-text_of_end-clause-finishes g c = λ free four three.
    let one : c.in_ok-events.events ≡ Rounds (64 * (node_count c.args.files.plan (g.O.RowOp.meaning c.args.custom.now) c.in_ok-offers.offers.records + c.counted_in-counted.result.batches + 1)) ∷ [] = search rules in
    IfErr-exit c.from_residual-in_err-text_of_end.result c.in_err-text_of_end.field-0.0 _ c.from_residual-in_err-text_of_end.ensures.1
    (work_finishes {T = ℕ} c.args.files.plan c.counted_in-counted.result.records c.replay_over.new.fates c.in_ok-ending.ending (Err c.in_err-text_of_end.field-0.0)
    (c.in_ok-ending.ensures.finishes
    (free_over (g.O.RowOp.meaning c.args.custom.now) c.args.files.plan c.args.files.rows (run_use (maker_use g.M.C.CellStore.tells g.M.C.CellStore.fault_count g.M.StoreMaker.holds g.M.StoreMaker.has_made g.M.StoreMaker.fault_count c.args.stores.now c.replay_over.new.stores) (g.N.IdMaker.tells c.args.ids.now)) c.replay_over.new.fates c.in_ok-offers.offers c.in_ok-offers.ensures.cut free)
    none_rose
    (rounds_serve c.args.files.plan (g.O.RowOp.meaning c.args.custom.now) c.in_ok-offers.offers c.counted_in-counted.result.batches c.counted_in-counted.ensures.batches c.in_ok-events.events one four)
    (few_ticks c.args.files.plan (g.O.RowOp.meaning c.args.custom.now) c.in_ok-offers.offers c.counted_in-counted.result.batches c.counted_in-counted.ensures.batches c.in_ok-events.events one three)
    (λ some. shuts_none c.args.files.plan (g.O.RowOp.meaning c.args.custom.now) c.in_ok-offers.offers c.counted_in-counted.result.batches c.counted_in-counted.ensures.batches c.in_ok-events.events one))
    c.in_err-text_of_end.ensures.stop)

pub returns-clause-line : goal.returns-clause-line
returns-clause-line g c =
    let base : RunUse = (run_use (maker_use g.M.C.CellStore.tells g.M.C.CellStore.fault_count g.M.StoreMaker.holds g.M.StoreMaker.has_made g.M.StoreMaker.fault_count c.args.stores.now c.replay_over.new.stores) (g.N.IdMaker.tells c.args.ids.now)) in
    let fates : List Attempt = c.replay_over.new.fates in
    let one : c.in_ok-events.events ≡ Rounds (64 * (node_count c.args.files.plan (g.O.RowOp.meaning c.args.custom.now) c.in_ok-offers.offers.records + c.counted_in-counted.result.batches + 1)) ∷ [] = search rules in
    let same : c.in_ok-events.events ≡ load_events c.args.files.plan (g.O.RowOp.meaning c.args.custom.now) c.args.files.rows = events_are c.args.files.plan (g.O.RowOp.meaning c.args.custom.now) c.in_ok-offers.offers c.counted_in-counted.result.batches c.counted_in-counted.ensures.batches c.in_ok-events.events one c.args.files.rows c.in_ok-offers.ensures.cut in
    subst (λ (es : List Event). IsLoadLine (g.O.RowOp.meaning c.args.custom.now) c.args.files.plan c.args.files.rows es base fates (string_bytes c.in_ok-line.line)) same
    (load_line_if (g.O.RowOp.meaning c.args.custom.now) c.args.files.plan c.args.files.rows base fates c.in_ok-offers.offers c.in_ok-offers.ensures.cut c.counted_in-counted.result.records c.counted_in-counted.ensures.records c.in_ok-events.events c.counted_in-counted.result.batches c.counted_in-counted.ensures.batches c.in_ok-ending.ending (string_bytes c.in_ok-text_of_end.field-0) (string_bytes c.in_ok-line.line) c.in_ok-offers.ensures.input c.in_ok-text_of_end.ensures.all c.in_ok-text_of_end.ensures.done c.in_ok-line.ensures c.in_ok-ending.ensures.comes c.replay_over.ensures.back c.in_ok-ending.ensures.world)

pub text_of_end-requires : goal.text_of_end-requires
text_of_end-requires g c =
    unfollowed _ (λ w. 0) _ _ c.replay_over.new.fates c.replay_over.result c.in_ok-ending.ending (λ w. refl) c.in_ok-ending.was c.replay_over.ensures.followed

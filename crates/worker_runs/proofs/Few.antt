-- Where nothing is lost there are no more rounds than are needed.
use Rattle.std.proofs.Common.{◌≡◌, ◌<◌, ◌+◌, ℕ, List, [], All, sym, ◌∙◌, true≢false, true, false, arith}
use Rattle.event_worlds.specs.bolt_ops.RowOp.{Custom}
use Rattle.worker_stretches.specs.box_rows.declared.mail.Mail.{Mail}
use Rattle.worker_stretches.specs.event_engine.declared.engine.Engine.{Engine}
use Rattle.worker_stretches.specs.event_engine.Engines.{has_ended, shape}
use Rattle.event_worlds.specs.Accounted.{IsInput, LedTo}
use Rattle.event_worlds.specs.Rounds.{CanFinish, DoesNotCoincide, rounds_needed}
use Rattle.event_worlds.specs.Worlds.{Known}
use Rattle.worker_rounds.proofs.schedule_core.Going.{led-alone}
use Rattle.event_worlds.specs.state_parts.declared.answer.CommitOutcome.{CommitOutcome}
use Rattle.event_worlds.specs.state_parts.declared.answer.CommitOutcome.TheVariants.{Done}
use Rattle.event_worlds.specs.storm_ids.declared.ids.Ids.{Ghosts}
use Rattle.task_queues.specs.declared.pass.Pass.{Pass}
use Rattle.event_worlds.specs.topology_plan.Topology.{Topology}
use Rattle.event_worlds.specs.taken_records.Cuts.{Cut}
use Rattle.event_worlds.specs.tuple_account.Histories.{History}
use Rattle.worker_runs.proofs.Rows.{none-held}
use Rattle.worker_runs.specs.Going.{StoodAt}
use Rattle.worker_rounds.specs.Running.{LaterOn, MovesOn}
use Rattle.worker_stretches.specs.Standing.{Stands, beside_it}
use Rattle.worker_rounds.specs.worker_turns.Carrying.{AreEmpty}
use Rattle.worker_stretches.specs.world_progress.Doing.{done}
use Rattle.worker_stretches.specs.world_progress.Lasting.{Lasting, NoneAborted}
use Rattle.worker_stretches.specs.world_progress.Rounding.{IsOpen}

-- ---- a world beside empty boxes

module _ (t : Topology) (custom : Custom) (cut : Cut) where
  -- what led to it with what boxes hold led to it alone
  pub led-here : (words : ℕ → ℕ → ℕ) (outcomes : List CommitOutcome) (row : List (Pass Mail)) (h : History) (k : Known) → AreEmpty row → Stands t custom cut words outcomes row [] h k → LedTo t custom cut words h k
  led-here words outcomes row h k empty stands =
      led-alone t custom cut words (beside_it row []) (λ f. (let e = none-held row empty f in omega arith)) h k stands.led

  -- nothing was lost in it
  pub lasts-here : (words : ℕ → ℕ → ℕ) (outcomes : List CommitOutcome) (row : List (Pass Mail)) (h : History) (k : Known) → AreEmpty row → Stands t custom cut words outcomes row [] h k
      → All (λ (how : CommitOutcome). how ≡ Done) outcomes → k.world.tick < t.buckets → Lasting t custom cut words h k
  lasts-here words outcomes row h k empty stands all few =
      let lasts = stands.lasts all few in record { led = led-here words outcomes row h k empty stands; seats = lasts.seats; whole = lasts.whole; fine = lasts.fine }

  -- what was done in such a world is less than the number of rounds that are needed, beside the
  -- transactions up to the start
  abbrev pub IsBounded : Type 0
  IsBounded =
      (words : ℕ → ℕ → ℕ) (h : History) (k : Known) → IsInput t cut → CanFinish t → Lasting t custom cut words h k → k.world.tick < t.buckets → All DoesNotCoincide k.world.fates
      → done h k.world < cut.start + rounds_needed t custom cut

  -- so it is by the bound where with partitions no attempt aborted, as none does
  pub bounded-by : ((words : ℕ → ℕ → ℕ) (h : History) (k : Known) → IsInput t cut → Lasting t custom cut words h k → NoneAborted cut k.world.fates → done h k.world < cut.start + rounds_needed t custom cut)
      → ((words : ℕ → ℕ → ℕ) (h : History) (k : Known) → IsInput t cut → CanFinish t → Lasting t custom cut words h k → k.world.tick < t.buckets → All DoesNotCoincide k.world.fates → NoneAborted cut k.world.fates)
      → IsBounded
  bounded-by most none words h k input can lasting few apart = most words h k input lasting (none words h k input can lasting few apart)

module _ {I : Type 0} {g : Ghosts I} (tells : I → (ℕ → ℕ) → ℕ → Type 0) (t : Topology) (custom : Custom) (cut : Cut) (none : Type 0) (outcomes : List CommitOutcome) (least : ℕ) (old new : Engine I g) (row now_row : List (Pass Mail)) (goes : MovesOn tells t custom cut none least old new row now_row) (stood : StoodAt tells t custom cut none outcomes least old new row now_row goes) where
  -- what it went on to
  pub later-of : LaterOn t custom cut stood.words outcomes now_row none least goes.given stood.counts stood.history (shape old) (shape new) (has_ended new ≡ true)
  later-of = goes.on stood.words stood.counts outcomes stood.gives stood.has stood.input stood.keeps stood.good stood.history stood.stands

  -- where all is not over less rounds went by than are needed
  pub rounds-left : IsBounded t custom cut → AreEmpty now_row → CanFinish t → none → IsOpen cut (shape old) → All DoesNotCoincide new.fates → All (λ (how : CommitOutcome). how ≡ Done) outcomes → new.tick < t.buckets → has_ended new ≡ false → least < rounds_needed t custom cut
  rounds-left bounded empty can shut_none opened apart all few open_still =
      let later = later-of in
      let k : Known = record { world = shape new; counts = later.now } in
      let rose = later.rose (λ more. shut_none) (λ more. opened) can all few (λ over. true≢false (sym over ∙ open_still)) in
      let start = stood.stands.led.kept.commits in
      let most = bounded stood.words later.history k stood.input can (lasts-here t custom cut stood.words outcomes now_row later.history k empty later.stands all few) few apart in omega arith

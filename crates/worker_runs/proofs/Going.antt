-- Engines that go on beside boxes, one piece after another.
use Rattle.std.proofs.Common.{◌<◌, ℕ, ◌+◌, List, [], ◌++◌, refl, sym, ap, ◌∙◌, append-nil, append_assoc, length-append, arith}
use Rattle.event_worlds.specs.attempt_fates.declared.fates.Attempt.{Attempt}
use Rattle.event_worlds.specs.bolt_ops.RowOp.{Custom}
use Rattle.worker_stretches.specs.box_rows.declared.mail.Mail.{Mail}
use Rattle.worker_stretches.proofs.event_engine.GoesLemmas.{draws-then, gives-parts}
use Rattle.worker_stretches.specs.event_engine.declared.engine.Engine.{Engine}
use Rattle.worker_stretches.specs.event_engine.Engines.{shape}
use Rattle.event_worlds.proofs.output_collector.Sending.{Draws-none}
use Rattle.worker_rounds.specs.schedule_core.Laws.{Laws}
use Rattle.event_worlds.specs.state_parts.declared.answer.CommitOutcome.{CommitOutcome}
use Rattle.event_worlds.specs.state_parts.declared.parts.StatePart.{StatePart}
use Rattle.event_worlds.specs.storm_ids.declared.ids.Ids.{Ghosts}
use Rattle.storm_stores.specs.CellMaps.{CellMap}
use Rattle.task_queues.specs.declared.pass.Pass.{Pass}
use Rattle.event_worlds.specs.topology_plan.Topology.{Topology}
use Rattle.event_worlds.specs.taken_records.Cuts.{Cut}
use Rattle.worker_rounds.proofs.Going.{first-outcomes, gives-first, gives-next, moves-by, runs-quiet, runs-then}
use Rattle.worker_rounds.specs.Running.{RunsOn}
use Rattle.worker_runs.specs.Going.{StoodAt}
use Rattle.worker_stretches.specs.Standing.{GoesOn}
use Rattle.worker_stretches.specs.world_progress.Rounding.{IsOpen}

module _ {I : Type 0} {g : Ghosts I} (tells : I → (ℕ → ℕ) → ℕ → Type 0) (t : Topology) (custom : Custom) (cut : Cut) where
  pub goes-on-none : (e : Engine I g) (row : List (Pass Mail)) → GoesOn tells t custom cut 0 e e row row [] []
  goes-on-none e row = record {
    given = λ s. [];
    draws = λ s source at. (source, at, Draws-none tells source);
    none = λ s off. (refl, off);
    more = [];
    added = sym (append-nil e.fates);
    ticks = omega arith;
    over = λ over. over;
    on = λ words counts outcomes gives has input keeps good h stands. record {
      history = h;
      now = counts;
      counted = λ s. omega arith;
      stands = stands;
      shut = refl;
      rose = λ opens can all few open_end. omega arith;
    };
  }

  module _ (n m : ℕ) (a b c : Engine I g) (row mid now_row : List (Pass Mail)) (first : GoesOn tells t custom cut n a b row mid [] []) (second : GoesOn tells t custom cut m b c mid now_row [] []) where
    -- one after the other
    pub goes-on-then : GoesOn tells t custom cut (n + m) a c row now_row [] []
    goes-on-then = record {
      given = λ s. first.given s ++ second.given s;
      draws = λ s source at.
          let d = first.draws s source at in
          let e = second.draws s d.0 d.1 in (e.0, e.1, draws-then tells source d.0 e.0 (first.given s) (second.given s) d.2 e.2);
      none = λ s off.
          let one = first.none s off in
          let two = second.none s one.1 in ((λ i. one.0 i ++ two.0 i), two.1);
      more = first.more ++ second.more;
      added = second.added ∙ ap (λ (fs : List Attempt). fs ++ second.more) first.added ∙ append_assoc a.fates first.more second.more;
      ticks = let x = first.ticks in let y = second.ticks in omega arith;
      over = λ over. second.over (first.over over);
      on = λ words counts outcomes gives has input keeps good h stands.
          let parts = gives-parts words counts first.given second.given gives in
          let one = first.on words counts outcomes parts.0 (first-outcomes outcomes b.fates second.more c.fates second.added has) input keeps good h stands in
          let two = second.on words one.now outcomes (gives-next words counts one.now first.given second.given one.counted parts.1) has input keeps good one.history one.stands in record {
            history = two.history;
            now = two.now;
            counted = λ s. let x = one.counted s in let y = two.counted s in let len = length-append (first.given s) (second.given s) in omega arith;
            stands = two.stands;
            shut = two.shut ∙ one.shut;
            rose = λ opens can all few open_end.
                let opened : 0 < n + m → IsOpen cut (shape a) = opens in
                let x = one.rose (λ more. opened (omega arith)) can all (let later = second.ticks in omega arith) (λ over. open_end (second.over over)) in
                let y = two.rose (λ more some. one.shut ∙ opened (omega arith) some) can all few open_end in omega arith;
          };
    }

module _ {I S : Type 0} {g : Ghosts I} (tells : I → (ℕ → ℕ) → ℕ → Type 0) (holds : S → CellMap → Type 0) (count : S → ℕ) (t : Topology) (custom : Custom) (cut : Cut) (laws : Laws count t custom cut) (none : Type 0) where
  pub runs-none : (e : Engine I g) (row : List (Pass Mail)) (parts : List (StatePart S)) → RunsOn tells holds count t custom cut none 0 e e row row parts parts
  runs-none e row parts = runs-quiet tells holds count t custom cut laws none 0 e e row row parts (record { coordinator = refl; fates = refl }) (moves-by tells t custom cut none 0 e e row row (goes-on-none tells t custom cut e row))

  module _ (n m : ℕ) (a b c : Engine I g) (row mid now_row : List (Pass Mail)) (p q r : List (StatePart S)) (first : RunsOn tells holds count t custom cut none n a b row mid p q) (second : RunsOn tells holds count t custom cut none m b c mid now_row q r) where
    -- by what it went on from by one and then the other, it went on by the first
    pub stood-runs : (outcomes : List CommitOutcome)
        → StoodAt tells t custom cut none outcomes (n + m) a c row now_row (runs-then tells holds count t custom cut laws none n m a b c row mid now_row p q r first second).goes
        → StoodAt tells t custom cut none outcomes n a b row mid first.goes
    stood-runs outcomes stood = record {
      words = stood.words;
      counts = stood.counts;
      history = stood.history;
      gives = gives-first tells holds count t custom cut laws none n m a b c row mid now_row p q r first second stood.words stood.counts stood.gives;
      has = first-outcomes outcomes b.fates second.goes.more c.fates second.goes.added stood.has;
      input = stood.input;
      keeps = stood.keeps;
      good = stood.good;
      stands = stood.stands;
    }

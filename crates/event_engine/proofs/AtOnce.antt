-- A write of a part of a state, whose acker meets at once what it is told: three steps of the world.
use Rattle.std.proofs.Common.{◌≡◌, ◌<◌, ◌-◌, ◌∙◌, ℕ, List, [], ◌∷◌, ◌++◌, length, append-nil, None, get_or, set, ap, arith}
use Rattle.std.specs.Option.{option_to_list}
use Rattle.std.proofs.lemmas.List.{get_or-set_same, set-set}
use Rattle.event_worlds.specs.acker_core.Entries.{met, told_of}
use Rattle.event_worlds.specs.bolt_ops.RowOp.{Custom}
use Rattle.event_worlds.specs.bolt_task.Executing.{rows_of}
use Rattle.event_worlds.specs.commit_order.Orders.{Stand}
use Rattle.event_worlds.specs.rotating_ledger.Held.{Held}
use Rattle.event_worlds.specs.topology_plan.Topology.{Topology}
use Rattle.event_worlds.specs.tree_model.declared.messages.AckMsg.{AckMsg}
use Rattle.event_worlds.specs.tree_model.declared.messages.Parcel.TheVariants.{ToAcker}
use Rattle.event_worlds.specs.tree_model.declared.messages.Tuple.{Tuple}
use Rattle.event_worlds.specs.tuple_account.Histories.{execution_parcels}
use Rattle.event_worlds.specs.Worlds.{AckerSide, TaskSide, World, acker_at, acker_step, acted, aged, answered, execution_by, gets_message, meets, no_acker, no_task, sent, stand_moved, task_at, task_step, with_acker, with_task}

-- an acker that is idle and gets a message meets it at its step
idle_meets : (buckets tick : ℕ) (entries : List (Held (List AckMsg))) (m : AckMsg)
    → answered buckets tick (gets_message m (record { inbox = []; outbox = []; entries = entries; counted = tick }))
    ≡ record { side = record { inbox = []; outbox = option_to_list (told_of m entries); entries = met m entries; counted = tick }; verdict = None }
idle_meets buckets tick entries m =
    let none : tick - tick ≡ 0 = omega arith in
    λ i. record { side = meets (record { inbox = m ∷ []; outbox = []; entries = aged buckets (none i) entries; counted = tick }) (m ∷ []); verdict = None }

module _ (t : Topology) (custom : Custom) (n a : ℕ) (w : World) (tuple : Tuple) (rest : List Tuple) (st : Stand) (m : AckMsg) (entries : List (Held (List AckMsg)))
    (there : n < length w.tasks) (low : a < length w.ackers)
    (side_is : task_at t n w ≡ record { inbox = tuple ∷ rest; outbox = []; stand = st })
    (idle : acker_at a w ≡ record { inbox = []; outbox = []; entries = entries; counted = w.tick })
    (sends : execution_parcels t custom (execution_by t custom n st tuple []) ≡ ToAcker a m ∷ [])
    (stays : stand_moved (rows_of t custom tuple) 0 st ≡ st) where
  abbrev pub did : TaskSide
  did = record { inbox = rest; outbox = ToAcker a m ∷ []; stand = st }

  abbrev pub left : TaskSide
  left = record { inbox = rest; outbox = []; stand = st }

  abbrev pub told : AckerSide
  told = record { inbox = []; outbox = option_to_list (told_of m entries); entries = met m entries; counted = w.tick }

  -- the tuple is executed
  pub first_step : task_step t custom n [] w ≡ with_task n did w
  first_step =
      ap (λ (s : TaskSide). sent t (acted t custom n [] s).parcel (with_task n (acted t custom n [] s).side w)) side_is
      ∙ (λ i. with_task n (record { inbox = rest; outbox = sends i; stand = stays i }) w)

  pub at_first : task_at t n (with_task n did w) ≡ did
  at_first = get_or-set_same w.tasks n did (no_task t) there

  -- what is told is handed over
  second_step : task_step t custom n [] (with_task n did w) ≡ with_acker a (gets_message m (acker_at a w)) (with_task n left w)
  second_step =
      ap (λ (s : TaskSide). sent t (acted t custom n [] s).parcel (with_task n (acted t custom n [] s).side (with_task n did w))) at_first
      ∙ ap (λ (ts : List TaskSide). with_acker a (gets_message m (acker_at a w)) (record w { tasks = ts })) (set-set w.tasks n did left)

  -- and met
  third_step : acker_step t a (with_acker a (gets_message m (acker_at a w)) (with_task n left w))
      ≡ record w { tasks = set w.tasks n left; ackers = set w.ackers a told }
  third_step =
      let got : AckerSide = gets_message m (acker_at a w) in
      let at : get_or (set w.ackers a got) a no_acker ≡ gets_message m (record { inbox = []; outbox = []; entries = entries; counted = w.tick }) =
      get_or-set_same w.ackers a got no_acker low ∙ ap (gets_message m) idle in
      let now = ap (answered t.buckets w.tick) at ∙ idle_meets t.buckets w.tick entries m in
      (λ i. record w { tasks = set w.tasks n left; ackers = set (set w.ackers a got) a (now i).side; verdicts = w.verdicts ++ option_to_list (now i).verdict })
      ∙ (λ i. record w { tasks = set w.tasks n left; ackers = set-set w.ackers a got told i; verdicts = append-nil w.verdicts i })

  pub at_once : acker_step t a (task_step t custom n [] (task_step t custom n [] w)) ≡ record w { tasks = set w.tasks n left; ackers = set w.ackers a told }
  at_once = ap (λ v. acker_step t a (task_step t custom n [] v)) first_step ∙ ap (acker_step t a) second_step ∙ third_step

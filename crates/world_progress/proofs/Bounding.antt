-- What can be done is bounded by the attempts that a plan allows and the nodes of all records.
use Rattle.std.proofs.Common.{◌≡◌, ◌<◌, ◌≤◌, ℕ, suc, ◌+◌, ◌*◌, ◌==◌, ◌&&◌, Bool, true, false, cond, List, [], ◌∷◌, length, filter, map, drop, inl, inr, refl, sym, ap, ◌∙◌, arith}
use Rattle.std.specs.List.{AllByRecursion, range_with_len}
use Rattle.std.specs.Cmp.{nat_eq_equiv}
use Rattle.std.proofs.Math.Nat.{add-mul, mul-add, mul-le-mul_left, mul-le-mul_right, mul_assoc}
use Rattle.std.proofs.lemmas.Bool.{cases_eq}
use Rattle.std.proofs.lemmas.List.{length-map}
use Rattle.std.proofs.lemmas.List.Elements.{recursion_from_All}
use Rattle.event_worlds.specs.attempt_fates.declared.fates.Attempt.{Attempt}
use Rattle.event_worlds.specs.attempt_fates.Fates.{committed, committed_batches, is_abort, is_committed}
use Rattle.event_worlds.specs.bolt_ops.RowOp.{Custom}
use Rattle.event_worlds.specs.commit_turns.Account.{ended_of, rows_at, waits_of}
use Rattle.event_worlds.specs.commit_turns.Kept.{batches_taken, pending_batches}
use Rattle.event_worlds.specs.commit_turns.declared.wait.Wait.{Wait}
use Rattle.event_worlds.specs.counted_items.Weights.{weigh}
use Rattle.event_worlds.proofs.counted_items.Weighing.{each-weighs, weigh-append, weigh-le, weigh-le_each, weigh-map, weigh-ones, weigh-same, weigh-same_each, weigh-swap, weigh-zero}
use Rattle.event_worlds.specs.acker_core.declared.verdict.Verdict.{Verdict}
use Rattle.event_worlds.specs.Accounted.{BeganWith, BeginsWithBatch, IsInput, LedTo, station_of, weigh_ackers, weigh_tasks}
use Rattle.event_worlds.specs.Worlds.{AckerSide, Known, TaskSide}
use Rattle.event_worlds.specs.storm_values.declared.value.Root.{Root}
use Rattle.event_worlds.specs.storm_values.declared.value.Value.{Value}
use Rattle.event_worlds.specs.topology_plan.Topology.{Topology}
use Rattle.event_worlds.specs.topology_plan.Valid.{IsValid}
use Rattle.event_worlds.specs.tree_model.declared.messages.AckMsg.{AckMsg}
use Rattle.event_worlds.specs.tree_model.declared.messages.Tuple.{Tuple}
use Rattle.event_worlds.specs.tree_model.Trees.{node_count}
use Rattle.event_worlds.specs.record_offers.Offers.{batch_count}
use Rattle.event_worlds.specs.taken_records.Cuts.{Cut}
use Rattle.event_worlds.specs.taken_records.Taken.{batch_spans}
use Rattle.event_worlds.proofs.taken_records.Bounding.{taken_few}
use Rattle.event_worlds.specs.record_spans.declared.span.Span.{Span}
use Rattle.event_worlds.specs.tuple_account.Ends.{Ended, Waits}
use Rattle.event_worlds.specs.tuple_account.Histories.{Execution, History, Opening, Receipt, Told, on_tuple, opens, rows_in}
use Rattle.event_worlds.specs.tuple_account.Moves.{Reached, Station, account_of, AreRows}
use Rattle.event_worlds.specs.tuple_account.Sound.{tells}
use Rattle.event_worlds.proofs.tuple_account.Reading.{few, messages_weight, notes_are, packets, rows_are_found, tuples_weight}
use Rattle.event_worlds.proofs.tuple_account.Sending.{issued_verdicts, on_message, on_verdict}
use Rattle.event_worlds.proofs.tuple_account.Telling.{told_begun}
use Rattle.event_worlds.specs.tuple_account.Accounts.{is_of, issued_notes}
use Rattle.event_worlds.specs.tuple_account.Accounts as tuples
use Rattle.event_worlds.specs.tuple_account.Issued.{Run, course_of_run, notes_by, notes_of}
use Rattle.event_worlds.specs.tuple_tickets.Roots.{root_eq}
use Rattle.event_worlds.specs.tuple_tickets.Trees.{Course, fails, goes, mute}
use Rattle.event_worlds.proofs.tuple_tickets.Roots.{root_itself}
use Rattle.event_worlds.specs.Rounds.{rounds_needed}
use Rattle.event_worlds.proofs.Nodes.{NodesAdd, batches-nodes}
use Rattle.event_worlds.proofs.Spans.{begun-batches}
use Rattle.event_worlds.proofs.counted_items.Each.{each-weaker}
use Rattle.world_progress.specs.Lasting.{Lasting, NoneAborted}
use Rattle.world_progress.specs.Doing.{done, in_boxes, messages_in, taken_from, tuples_in}
use Rattle.world_progress.proofs.Lists.{range-length}
use Rattle.world_progress.proofs.Resting.{runs_issued, was_begun}
use Rattle.world_progress.proofs.Records.{taken-nodes}
use Rattle.world_progress.proofs.Sources.{records-few}
use Rattle.world_progress.proofs.Tallying.{AreWithin, all_committed, by_txid, tries_none, within}

-- ---- what stands in boxes waits

tuples-wait : (a : ℕ) (sides : List TaskSide) → tuples_in sides ≤ weigh_tasks (on_tuple (λ x. 1)) a sides
tuples-wait a [] = omega arith
tuples-wait a (side ∷ sides) = let o = weigh-ones side.inbox in let rest = tuples-wait (a + 1) sides in omega arith

messages-wait : (a : ℕ) (sides : List AckerSide) → messages_in sides ≤ weigh_ackers (on_message (λ m. 1)) a sides
messages-wait a [] = omega arith
messages-wait a (side ∷ sides) = let o = weigh-ones side.inbox in let rest = messages-wait (a + 1) sides in omega arith

swapped : (a b : ℕ) → (a == b) ≡ (b == a)
swapped a b = nat_eq_equiv.symm a b

same_roots : (a b : Root) → root_eq a b ≡ root_eq b a
same_roots a b = ap (λ (c : Bool). c && (a.attempt == b.attempt)) (swapped a.txid b.txid) ∙ ap (λ (c : Bool). (b.txid == a.txid) && c) (swapped a.attempt b.attempt)

few_notes : (t : Topology) (custom : Custom) (u : Run) (c : Course) → weigh (λ (m : AckMsg). 1) (notes_by t custom u c) ≤ 1
few_notes t custom u goes = omega arith
few_notes t custom u fails = omega arith
few_notes t custom u mute = omega arith

module _ (t : Topology) (custom : Custom) (h : History) (b : Station) (reached : Reached t custom h b) where
  abbrev all : List Tuple
  all = tuples.issued t custom (account_of h b)

  runs_few : length h.runs ≤ length all
  runs_few = let r = runs_issued t custom h b reached (λ x. 1) in let a = weigh-ones h.runs in let c = weigh-ones all in omega arith

  notes_few : weigh (λ (m : AckMsg). 1) (issued_notes t custom (account_of h b)) ≤ length h.begun + length all
  notes_few =
      let n = notes_are t custom h b reached (λ m. 1) in
      let a = weigh-ones h.begun in
      let l = weigh-le (λ (e : Execution). weigh (λ (m : AckMsg). 1) (notes_of t custom e.run)) (λ (e : Execution). 1) (λ e. few_notes t custom e.run (course_of_run t custom e.run)) h.runs in
      let c = weigh-ones h.runs in
      let r = runs_few in omega arith

  told_few : length h.told ≤ length h.begun
  told_few =
      let a = weigh-ones h.told in
      let c = weigh-ones h.begun in
      let l = weigh-le_each (λ (x : Told). 1) (λ (x : Told). weigh (λ (o : Opening). tells o.begun.root x) h.begun) (λ (x : Told). (f : Told → ℕ) → f x ≤ weigh f h.told) some h.told (each-weighs h.told) in
      let s = weigh-swap (λ (o : Opening) (x : Told). tells o.begun.root x) h.begun h.told in
      let m = weigh-le (λ (o : Opening). weigh (tells o.begun.root) h.told) (λ (o : Opening). 1) (λ o. let d = told_begun t custom h b reached o.begun.root in let e = reached.once o.begun.root in omega arith) h.begun in omega arith
    where
      some : (x : Told) → ((f : Told → ℕ) → f x ≤ weigh f h.told) → 1 ≤ weigh (λ (o : Opening). tells o.begun.root x) h.begun
      some x stands =
          let here : tells x.root x ≡ 1 = ap (λ (c : Bool). cond {A = ℕ} c 1 0) (root_itself x.root x.root refl) in
          let s = stands (tells x.root) in
          let d = told_begun t custom h b reached x.root in
          let e = weigh-same (λ (o : Opening). tells o.begun.root x) (opens x.root) (λ o. ap (λ (c : Bool). cond {A = ℕ} c 1 0) (same_roots x.root o.begun.root)) h.begun in omega arith

  -- what was taken and stands in boxes was issued
  handed_few : (boxes : ℕ) → boxes ≤ b.waiting (on_tuple (λ x. 1)) + (b.waiting (on_message (λ m. 1)) + b.waiting (on_verdict (λ v. 1))) → taken_from h + boxes ≤ (length all + length all) + (length h.begun + length h.begun)
  handed_few boxes few =
      let x = packets t custom h b reached (on_tuple (λ x. 1)) in
      let xi = tuples_weight t custom h b reached (λ x. 1) in
      let xo = weigh-ones all in
      let y = packets t custom h b reached (on_message (λ m. 1)) in
      let yi = messages_weight t custom h b reached (λ m. 1) in
      let yn = notes_few in
      let z = packets t custom h b reached (on_verdict (λ v. 1)) in
      let zi = issued_verdicts t custom (λ v. 1) h in
      let zn = told_few in
      let zo = weigh-ones h.told in
      let r = weigh-ones h.runs in
      let m = weigh-ones h.met in
      let v = weigh-ones h.heard in
      let rz = weigh-zero (λ (e : Execution). 0) (λ e. refl) h.runs in
      let mz = weigh-zero (λ (e : Receipt). 0) (λ e. refl) h.met in
      let vz = weigh-zero (λ (v : Verdict). 0) (λ v. refl) h.heard in omega arith

  module _ (valid : IsValid t) where
    abbrev rows_of : Root → List (List Value)
    rows_of root = rows_in h.begun root

    rows_are : AreRows rows_of h.begun
    rows_are = rows_are_found t custom h b reached

    -- tuples by the nodes of their roots' rows
    tuples_few : length all ≤ weigh (λ (o : Opening). node_count t custom o.begun.rows) h.begun
    tuples_few =
        let n = weigh-ones all in
        let l = weigh-le_each (λ (x : Tuple). 1) (λ (x : Tuple). weigh (λ (o : Opening). is_of o.begun.root x) h.begun) (λ (x : Tuple). (f : Tuple → ℕ) → f x ≤ weigh f all) some all (each-weighs all) in
        let s = weigh-swap (λ (o : Opening) (x : Tuple). is_of o.begun.root x) h.begun all in
        let m = weigh-le (λ (o : Opening). weigh (is_of o.begun.root) all) (λ (o : Opening). node_count t custom (rows_of o.begun.root))
        (λ o. few t custom h b reached rows_of rows_are valid o.begun.root) h.begun in
        let e = weigh-same_each (λ (o : Opening). node_count t custom o.begun.rows) (λ (o : Opening). node_count t custom (rows_of o.begun.root))
        (λ (o : Opening). o.begun.rows ≡ rows_of o.begun.root)
        (λ o is. ap (node_count t custom) is) h.begun rows_are in omega arith
      where
        some : (x : Tuple) → ((f : Tuple → ℕ) → f x ≤ weigh f all) → 1 ≤ weigh (λ (o : Opening). is_of o.begun.root x) h.begun
        some x stands =
            let w = was_begun t custom h b reached valid x stands in
            let e = weigh-same (λ (o : Opening). is_of o.begun.root x) (opens x.root) (λ o. ap (λ (q : Bool). cond {A = ℕ} q 1 0) (same_roots x.root o.begun.root)) h.begun in omega arith

-- ---- numbers

-- of one attempt of each transaction no more is done, where each has a node
bound_some : (a p n sum many start result : ℕ) → 1 ≤ a → sum ≤ p → many ≤ p → result ≤ sum * 4 + many * 6 + start → result < start + 16 * a * (p + n + 1)
bound_some a p n sum many start result some few records most =
    let x : 16 * (p + n + 1) ≤ 16 * a * (p + n + 1) = mul-le-mul_right (p + n + 1) (omega arith) in omega arith

-- of so many attempts and one more no more is done than 16 times as many allow
bound_none : (a p n sum start result : ℕ) → 1 ≤ a → sum ≤ p → result ≤ ((a + 1) * sum) * 4 + ((a + 1) * n) * 6 + start → result < start + 16 * a * (p + n + 1)
bound_none a p n sum start result some few most =
    let x = mul-le-mul_left (a + 1) few in
    let y : (a + 1) * p ≤ (a + a) * p = mul-le-mul_right p (omega arith) in
    let z : (a + 1) * n ≤ (a + a) * n = mul-le-mul_right n (omega arith) in
    let u = add-mul a a p in
    let v = add-mul a a n in
    let q = mul-add (16 * a) (p + n) 1 in
    let r = mul-add (16 * a) p n in
    let s = mul_assoc 16 a p in
    let w = mul_assoc 16 a n in omega arith

-- ---- transactions

filter_few : {X : Type 0} (test : X → Bool) (xs : List X) → length (filter test xs) ≤ length xs
filter_few test [] = omega arith
filter_few test (x ∷ xs) = by (test x) (filter_few test xs)
  where
    by : (b : Bool) → length (filter test xs) ≤ length xs → length (cond b (x ∷ filter test xs) (filter test xs)) ≤ suc (length xs)
    by true rest = omega arith
    by false rest = omega arith

module _ (t : Topology) (custom : Custom) (cut : Cut) (words : ℕ → ℕ → ℕ) (valid : IsValid t) (h : History) (k : Known)
    (led : LedTo t custom cut words h k) where
  commits_few : k.world.desk.committed ≤ cut.start + length h.begun
  commits_few =
      let c = led.kept.commits in
      let m = length-map (committed k.world.fates) (λ (a : Attempt). a.root.txid) in
      let f = filter_few (λ (a : Attempt). is_committed a.end) k.world.fates in
      let b = led.fits.begun (λ root. 1) in
      let o = weigh-ones h.begun in
      let e = weigh-map (λ (a : Ended). 1) ended_of k.world.fates in
      let g = weigh-ones k.world.fates in omega arith

  -- by the nodes of the openings' rows, and the openings
  done_of : done h k.world ≤ weigh (λ (o : Opening). node_count t custom o.begun.rows) h.begun * 4 + length h.begun * 6 + cut.start
  done_of =
      let x = tuples-wait 0 k.world.tasks in
      let y = messages-wait 0 k.world.ackers in
      let z = weigh-ones k.world.verdicts in
      let i = handed_few t custom h (station_of k) led.reached (in_boxes k.world) (omega arith) in
      let f = tuples_few t custom h (station_of k) led.reached valid in
      let m = commits_few in omega arith

  -- so many transactions from one on, so many attempts of each, and a bound of the nodes of each attempt
  module _ (low batches attempts : ℕ) (within : AreWithin low batches attempts h.begun) (c : ℕ → ℕ)
      (own : AllByRecursion (λ (o : Opening). node_count t custom o.begun.rows ≤ c o.begun.root.txid) h.begun) where
    done_few : done h k.world ≤ (attempts * weigh c (range_with_len low batches)) * 4 + (attempts * batches) * 6 + cut.start
    done_few =
        let d = done_of in
        let l = weigh-le_each (λ (o : Opening). node_count t custom o.begun.rows) (λ (o : Opening). c o.begun.root.txid)
        (λ (o : Opening). node_count t custom o.begun.rows ≤ c o.begun.root.txid)
        (λ o less. less) h.begun own in
        let w = by_txid low batches attempts h.begun within c in
        let o = weigh-ones h.begun in
        let v = by_txid low batches attempts h.begun within (λ (i : ℕ). 1) in
        let r = ap (λ (n : ℕ). attempts * n) (weigh-ones (range_with_len low batches) ∙ range-length low batches) in omega arith

module _ (t : Topology) (custom : Custom) (cut : Cut) (words : ℕ → ℕ → ℕ) (adds : NodesAdd t custom) (input : IsInput t cut) (h : History) (k : Known)
    (last : Lasting t custom cut words h k) where
  abbrev nodes : ℕ
  nodes = node_count t custom cut.records

  batched : AllByRecursion (BeginsWithBatch cut) h.begun
  batched = begun-batches t custom cut words (station_of k) h k last.led

  -- ---- without partitions

  abbrev count : ℕ
  count = batch_count (length cut.records) cut.size

  abbrev its_nodes : ℕ → ℕ
  its_nodes txid = node_count t custom (rows_at cut (batch_spans (length cut.records) cut.size txid))

  module _ (none : cut.partitions ≡ 0) where
    known_batches : AllByRecursion (λ (o : Opening). (1 ≤ o.begun.root.txid) × (o.begun.root.txid < 1 + count)) h.begun
    known_batches =
        each-weaker (BeginsWithBatch cut) (λ (o : Opening). (1 ≤ o.begun.root.txid) × (o.begun.root.txid < 1 + count))
        (λ o is.
        let later = is.1.later in
        let there = (is.1.numbered none).0 in
        let e = ap (λ (n : ℕ). batch_count n cut.size) input.start.marks in (omega arith, omega arith)) h.begun batched

    known_nodes : AllByRecursion (λ (o : Opening). node_count t custom o.begun.rows ≤ its_nodes o.begun.root.txid) h.begun
    known_nodes =
        each-weaker (BeginsWithBatch cut) (λ (o : Opening). node_count t custom o.begun.rows ≤ its_nodes o.begun.root.txid)
        (λ o is.
        let e : node_count t custom o.begun.rows ≡ its_nodes o.begun.root.txid =
        ap (node_count t custom)
        (is.2 ∙ ap (rows_at cut)
        ((is.1.numbered none).1 ∙ ap (λ (n : ℕ). batch_spans n cut.size o.begun.root.txid) input.start.marks)) in omega arith) h.begun batched

    bounded_none : done h k.world < cut.start + 16 * t.attempts * (nodes + count + 1)
    bounded_none =
        let a = t.attempts in
        let led = last.led in
        let w = within t cut k.world.desk k.world.fates h led.kept led.fits 1 count (a + 1) known_batches
        (tries_none t cut k.world.desk k.world.fates h led.kept led.fits none) led.reached.once in
        let f = done_few t custom cut words input.valid h k led 1 count (a + 1) w its_nodes known_nodes in
        let n = batches-nodes t custom adds cut.records cut.size 0 count in
        let z : node_count t custom (drop (0 * cut.size) cut.records) ≡ nodes = ap (λ (i : ℕ). node_count t custom (drop i cut.records))
        (let e : 0 * cut.size ≡ 0 = omega arith in e) in
        let v = input.valid.attempts.0 in
        bound_none a nodes count (weigh its_nodes (range_with_len 1 count)) cut.start (done h k.world) v (omega arith) f

  -- ---- with partitions, where none aborted

  module _ (none : AllByRecursion (λ (a : Attempt). is_abort a.end ≡ false) k.world.fates) where
    abbrev batches : List (List Span)
    batches = batches_taken k.world.desk k.world.fates

    abbrev begun_rows : Root → List (List Value)
    begun_rows root = rows_in h.begun root

    -- the rows that were begun are those of the batches that were taken
    rows_weigh : (f : List (List Value) → ℕ) → weigh (λ (o : Opening). f o.begun.rows) h.begun ≡ weigh (λ (spans : List Span). f (rows_at cut spans)) batches
    rows_weigh f =
        let led = last.led in
        let e = weigh-same_each (λ (o : Opening). f o.begun.rows) (λ (o : Opening). f (begun_rows o.begun.root))
        (λ (o : Opening). o.begun.rows ≡ begun_rows o.begun.root) (λ o is. ap f is) h.begun (rows_are_found t custom h (station_of k) led.reached) in
        let b = led.fits.begun (λ root. f (begun_rows root)) in
        let x = weigh-map (λ (a : Ended). f (begun_rows a.root)) ended_of k.world.fates in
        let y = weigh-map (λ (w : Waits). f (begun_rows w.root)) waits_of k.world.desk.pending in
        let p = weigh-same_each (λ (a : Attempt). f (begun_rows a.root)) (λ (a : Attempt). f (rows_at cut a.spans))
        (λ (a : Attempt). BeganWith cut h.begun a.root a.spans) (λ a is. ap f (sym is)) k.world.fates led.spans.ends in
        let q = weigh-same_each (λ (w : Wait). f (begun_rows w.root)) (λ (w : Wait). f (rows_at cut w.spans))
        (λ (w : Wait). BeganWith cut h.begun w.root w.spans) (λ w is. ap f (sym is)) k.world.desk.pending led.spans.waits in
        let m = weigh-map (λ (spans : List Span). f (rows_at cut spans)) (λ (a : Attempt). a.spans) k.world.fates in
        let n = weigh-map (λ (spans : List Span). f (rows_at cut spans)) (λ (w : Wait). w.spans) k.world.desk.pending in
        let a = weigh-append (λ (spans : List Span). f (rows_at cut spans)) (committed_batches k.world.fates) (pending_batches k.world.desk) in
        let c = ap (λ (xs : List Attempt). weigh (λ (spans : List Span). f (rows_at cut spans)) (map (λ (x : Attempt). x.spans) xs))
        (all_committed t cut k.world.desk k.world.fates h led.kept led.fits none) in omega arith

    bounded_some : done h k.world < cut.start + 16 * t.attempts * (nodes + count + 1)
    bounded_some =
        let led = last.led in
        let d = done_of t custom cut words input.valid h k led in
        let x = rows_weigh (node_count t custom) in
        let n = taken-nodes t custom adds cut.records cut.gone k.world.desk.gone cut.size batches input.start.marks led.kept.taken in
        let y = rows_weigh (λ rows. 1) in
        let o = weigh-ones h.begun in
        let b = weigh-ones batches in
        let f = taken_few cut.gone k.world.desk.gone cut.size batches led.kept.taken in
        let r = records-few t input.valid input.wired custom cut.records in
        let e = input.start.marks in
        bound_some t.attempts nodes count (weigh (λ (o : Opening). node_count t custom o.begun.rows) h.begun) (length h.begun) cut.start (done h k.world)
        input.valid.attempts.0 (omega arith) (omega arith) d

  -- it is less than the number of rounds
  pub bounded : NoneAborted cut k.world.fates → done h k.world < cut.start + rounds_needed t custom cut
  bounded none_aborted =
      elim (cases_eq cut.partitions 0) [
        | inl none ↦ bounded_none none
        | inr some ↦ bounded_some (recursion_from_All (λ (a : Attempt). is_abort a.end ≡ false) k.world.fates (none_aborted (omega (arith, some))))
      ]

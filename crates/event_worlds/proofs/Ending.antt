-- What follows for the fates, and for lists that pending attempts were settled with.
use Rattle.std.proofs.Common.{◌≡◌, ◌≤◌, ◌<◌, ℕ, zero, suc, ◌+◌, ◌*◌, ◌^◌, List, [], ◌∷◌, ◌++◌, length, map, slice_get, Option, Some, sym, ap, subst, ◌∙◌, arith}
use Rattle.std.specs.List.{AllByRecursion}
use Rattle.std.proofs.lemmas.List.{length-map}
use Rattle.commit_order.specs.attempt_fates.declared.fates.Attempt.{Attempt}
use Rattle.commit_order.specs.bolt_ops.RowOp.{Custom}
use Rattle.commit_order.specs.commit_turns.declared.wait.Wait.{Wait}
use Rattle.commit_order.specs.commit_turns.Account.{desk_of, ended_of, ends_of, waits_of, ending_of, rows_at}
use Rattle.commit_order.proofs.counted_items.Each.{each-back, each-map, each-parts, each-weaker, each-both, each-flat_map, each-to_map}
use Rattle.commit_order.proofs.counted_items.Equality.{each-within}
use Rattle.event_worlds.specs.Accounted.{AreCaused, IsInput, LedAt, BeganWith, BeginsWithBatch, IsCausedEnd, rows_by}
use Rattle.event_worlds.specs.Worlds.{Known}
use Rattle.commit_order.specs.storm_values.declared.value.Root.{Root}
use Rattle.commit_order.specs.storm_values.declared.value.Value.{Value}
use Rattle.commit_order.specs.topology_plan.Topology.{Topology}
use Rattle.commit_order.specs.tree_model.declared.messages.AckMsg.{AckMsg}
use Rattle.commit_order.specs.tree_model.Lists.{all_said, Covers, IsClosed, IsComplete, root_of, IsTrueOf}
use Rattle.commit_order.specs.tree_model.Trees.{node_count, Node, node_at}
use Rattle.commit_order.proofs.tree_model.Reading.{growth, all_true_said}
use Rattle.commit_order.specs.taken_records.Cuts.{Cut}
use Rattle.commit_order.specs.tuple_account.Drawn.{AreDrawn, IsDrawn}
use Rattle.commit_order.specs.tuple_account.Ends.{Waits, lists_of, verdicts_of_ends, verdicts_of_waits, verdicts_settled, CauseBy, Ended, HasCause, list_in}
use Rattle.commit_order.specs.tuple_account.Fits.{IsWaiting}
use Rattle.commit_order.specs.tuple_account.Histories.{History, Opening, IsTaskOf, rows_in}
use Rattle.commit_order.specs.tuple_account.Moves.{Station, AreRows}
use Rattle.commit_order.specs.tuple_account.Places.{before}
use Rattle.commit_order.specs.tuple_account.Sound.{IsCaused, IsSound}
use Rattle.commit_order.proofs.tuple_account.Ending.{causes, ends_drawn}
use Rattle.commit_order.proofs.tuple_account.Routing.{verdict_code}
use Rattle.commit_order.proofs.tuple_tickets.Words.{covered_if_closed}
use Rattle.commit_order.proofs.tuple_account.Telling.{heard_causes}
use Rattle.commit_order.specs.attempt_fates.declared.fates.End.{End}
use Rattle.commit_order.specs.attempt_fates.declared.fates.End.TheVariants as end
use Rattle.commit_order.specs.tree_model.declared.messages.AckMsg.TheVariants as msg
use Rattle.event_worlds.proofs.Nodes.{NodesAdd, batch-nodes}
use Rattle.event_worlds.proofs.Spans.{begun-batches, rows_by-found}
use Rattle.commit_order.proofs.tuple_account.Reading.{rows_are_found}

-- what each item of a list has, the one at a place has
at-place : {X : Type 0} (P : X → Type 0) (xs : List X) (i : ℕ) (x : X) → AllByRecursion P xs → slice_get xs i ≡ Some x → P x
at-place P [] zero x all is = cc
at-place P [] (suc i) x all is = cc
at-place P (y ∷ ys) zero x all is = let same : y ≡ x = cc in subst P same all.0
at-place P (y ∷ ys) (suc i) x all is = at-place P ys i x all.1 is

module _ (t : Topology) (custom : Custom) (cut : Cut) (words : ℕ → ℕ → ℕ) (input : IsInput t cut) (h : History) (k : Known) (all : Station) (led : LedAt t custom cut words all h k) where
  abbrev fates : List Attempt
  fates = k.world.fates

  abbrev most : ℕ
  most = node_count t custom cut.records

  abbrev rows_of : Root → List (List Value)
  rows_of root = rows_in h.begun root

  rows : AreRows rows_of h.begun
  rows = rows_are_found t custom h all led.reached

  few_nodes : NodesAdd t custom → AllByRecursion (λ (o : Opening). node_count t custom o.begun.rows ≤ most) h.begun
  few_nodes adds =
      each-weaker (BeginsWithBatch cut) (λ (o : Opening). node_count t custom o.begun.rows ≤ most)
      (λ o begins. let few = batch-nodes t custom adds cut.records begins.0 begins.1.batch.apart in
      let e = ap (node_count t custom) begins.2 in omega arith) h.begun (begun-batches t custom cut words all h k led)

  ends_length : length (ends_of fates) ≡ length fates
  ends_length = length-map fates ended_of

  abbrev limit : ℕ → ℕ
  limit n = 40 + (n + 64) * most

  -- ---- causes

  own_cause : (a : Attempt) → HasCause t custom rows_of k.world.desk.tick (ended_of a) × BeganWith cut h.begun a.root a.spans → IsCausedEnd t custom cut k.world.desk.tick a
  own_cause a both = subst (λ (rs : List (List Value)). CauseBy t custom rs k.world.desk.tick (ended_of a) (ending_of a.end)) (sym both.1) both.0

  -- the end of each attempt has its cause in its own records
  pub own-causes : AllByRecursion (IsCausedEnd t custom cut k.world.desk.tick) fates
  own-causes =
      each-weaker (λ (a : Attempt). HasCause t custom rows_of k.world.desk.tick (ended_of a) × BeganWith cut h.begun a.root a.spans) (IsCausedEnd t custom cut k.world.desk.tick) own_cause fates
      (each-both (λ (a : Attempt). HasCause t custom rows_of k.world.desk.tick (ended_of a)) (λ (a : Attempt). BeganWith cut h.begun a.root a.spans) fates
      (each-map (HasCause t custom rows_of k.world.desk.tick) ended_of fates
      (causes t custom h all led.reached rows_of rows (desk_of cut k.world.desk) (ends_of fates) led.fits)) led.spans.ends)

  -- ---- drawn ids

  -- the messages of an attempt's list are of its root
  of_root : (a : Attempt) → IsCausedEnd t custom cut k.world.desk.tick a × (rows_by cut fates a.root ≡ rows_of a.root) → AllByRecursion (λ (m : AckMsg). rows_by cut fates (root_of m) ≡ rows_of (root_of m)) (list_in (ending_of a.end))
  of_root a both = by a.end both.0
    where
      told : (list : List AckMsg) → IsSound t custom (rows_at cut a.spans) a.root list → AllByRecursion (λ (m : AckMsg). rows_by cut fates (root_of m) ≡ rows_of (root_of m)) list
      told list sound =
          each-weaker (IsTrueOf t custom (rows_at cut a.spans) a.root) (λ (m : AckMsg). rows_by cut fates (root_of m) ≡ rows_of (root_of m))
          (λ m is. ap (rows_by cut fates) is.of_root ∙ both.1 ∙ ap rows_of (sym is.of_root)) list sound.is_true

      by : (e : End) → CauseBy t custom (rows_at cut a.spans) k.world.desk.tick (ended_of a) (ending_of e) → AllByRecursion (λ (m : AckMsg). rows_by cut fates (root_of m) ≡ rows_of (root_of m)) (list_in (ending_of e))
      by (end.Committed list) cause = told list cause.0
      by (end.Failed path) cause = tt
      by end.TimedOut cause = tt
      by (end.Coincided list) cause = told list cause.0
      by (end.CommitFailed component part first last) cause = tt
      by (end.Dropped other) cause = tt

  lists_of_roots : AllByRecursion (λ (m : AckMsg). rows_by cut fates (root_of m) ≡ rows_of (root_of m)) (lists_of (ends_of fates))
  lists_of_roots =
      each-flat_map (λ (m : AckMsg). rows_by cut fates (root_of m) ≡ rows_of (root_of m)) (λ (a : Ended). list_in a.ending) (ends_of fates)
      (each-to_map (λ (a : Ended). AllByRecursion (λ (m : AckMsg). rows_by cut fates (root_of m) ≡ rows_of (root_of m)) (list_in a.ending)) ended_of fates
      (each-weaker (λ (a : Attempt). IsCausedEnd t custom cut k.world.desk.tick a × (rows_by cut fates a.root ≡ rows_of a.root))
      (λ (a : Attempt). AllByRecursion (λ (m : AckMsg). rows_by cut fates (root_of m) ≡ rows_of (root_of m)) (list_in (ending_of a.end))) of_root fates
      (each-both (IsCausedEnd t custom cut k.world.desk.tick) (λ (a : Attempt). rows_by cut fates a.root ≡ rows_of a.root) fates own-causes (rows_by-found cut h.begun fates led.spans.ends))))

  drawn_so : (m : AckMsg) → IsDrawn t custom rows_of words m × (rows_by cut fates (root_of m) ≡ rows_of (root_of m)) → IsDrawn t custom (rows_by cut fates) words m
  drawn_so (msg.Init m) both = both.0
  drawn_so (msg.Done m) both =
      (both.0.0, subst (λ (rs : List (List Value)). (node : Node) → node_at t custom rs m.consumed.path ≡ Some node → IsTaskOf t node.component m.draw.source) (sym both.1) both.0.1)
  drawn_so (msg.Failed m) both = tt

  drawn_by : (most_ : ℕ) → AreDrawn t custom rows_of words most_ (lists_of (ends_of fates)) → AreDrawn t custom (rows_by cut fates) words most_ (lists_of (ends_of fates))
  drawn_by most_ drawn = record {
    drawn = each-weaker (λ (m : AckMsg). IsDrawn t custom rows_of words m × (rows_by cut fates (root_of m) ≡ rows_of (root_of m))) (IsDrawn t custom (rows_by cut fates) words) drawn_so (lists_of (ends_of fates))
        (each-both (IsDrawn t custom rows_of words) (λ (m : AckMsg). rows_by cut fates (root_of m) ≡ rows_of (root_of m)) (lists_of (ends_of fates)) drawn.drawn lists_of_roots);
    once = drawn.once;
    below = drawn.below;
  }

  -- each end has its cause, and the ids of all lists are drawn
  pub ends-caused : ((s j : ℕ) → all.given s j ≡ before (k.counts s) j) → NodesAdd t custom → AreCaused t custom cut k.world.desk.tick words fates
  ends-caused given adds = record {
    each = own-causes;
    drawn = λ small.
        drawn_by (limit (length fates))
        (subst (λ (n : ℕ). AreDrawn t custom rows_of words (limit n) (lists_of (ends_of fates))) ends_length
        (ends_drawn t custom h all led.reached rows_of rows (desk_of cut k.world.desk) (ends_of fates) led.fits input.valid most (few_nodes adds) led.starts
        (subst (λ (n : ℕ). limit n < 2 ^ 64) (sym ends_length) small) k.counts given words led.drawn));
  }

  -- ---- lists that were settled

  -- what the verdict that an attempt was settled by comes from
  settled_causes : AllByRecursion (λ (w : Wait). AllByRecursion (IsCaused t custom rows_of) (verdicts_settled w.root w.settled)) k.world.desk.pending
  settled_causes =
      each-map (λ (w : Waits). AllByRecursion (IsCaused t custom rows_of) (verdicts_settled w.root w.settled)) waits_of k.world.desk.pending
      (each-parts (IsCaused t custom rows_of) (λ (w : Waits). verdicts_settled w.root w.settled) (map waits_of k.world.desk.pending)
      (each-back (IsCaused t custom rows_of) (verdicts_of_ends (ends_of fates)) (verdicts_of_waits (map waits_of k.world.desk.pending))
      (each-within verdict_code (IsCaused t custom rows_of) (verdicts_of_ends (ends_of fates) ++ verdicts_of_waits (map waits_of k.world.desk.pending)) h.heard led.fits.heard
      (heard_causes t custom h all led.reached rows_of rows))))

  pub settled-whole : (i : ℕ) (w : Wait) (list : List AckMsg) → slice_get k.world.desk.pending i ≡ Some w → w.settled ≡ Some list
      → IsSound t custom (rows_at cut w.spans) w.root list × IsClosed list × Covers t custom (rows_at cut w.spans) list
  settled-whole i w list at is =
      let caused : AllByRecursion (IsCaused t custom rows_of) (verdicts_settled w.root (Some list)) =
      subst (λ (o : Option (List AckMsg)). AllByRecursion (IsCaused t custom rows_of) (verdicts_settled w.root o)) is
      (at-place (λ (v : Wait). AllByRecursion (IsCaused t custom rows_of) (verdicts_settled v.root v.settled)) k.world.desk.pending i w settled_causes at) in
      let waits : IsWaiting (desk_of cut k.world.desk) (waits_of w) =
      at-place (λ (v : Wait). IsWaiting (desk_of cut k.world.desk) (waits_of v)) k.world.desk.pending i w
      (each-map (IsWaiting (desk_of cut k.world.desk)) waits_of k.world.desk.pending led.fits.waits) at in
      let own : rows_at cut w.spans ≡ rows_of w.root = at-place (λ (v : Wait). BeganWith cut h.begun v.root v.spans) k.world.desk.pending i w led.spans.waits at in
      let sound : IsSound t custom (rows_at cut w.spans) w.root list = subst (λ (rs : List (List Value)). IsSound t custom rs w.root list) (sym own) caused.0.0 in
      let complete : IsComplete list = caused.0.1 in
      let closed : IsClosed list = waits.closed list is in (
        sound,
        closed,
        covered_if_closed (growth t custom (rows_at cut w.spans)) w.root (all_said list) (all_true_said t custom (rows_at cut w.spans) w.root list sound.is_true) (let x = complete.begins in let y = sound.is_single.begins in omega arith) closed,
      )

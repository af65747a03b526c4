-- Small steps between those of a turn.
use Rattle.std.proofs.Common.{◌≡◌, ℕ, ◌+◌, ◌<◌, ◌==◌, ◌&&◌, Bool, true, false, cond, None, Some, List, [], ◌∷◌, ◌++◌, length, map, refl, sym, ap, subst, ◌∙◌, arith}
use Rattle.std.specs.Prelude.{IsTrue}
use Rattle.std.specs.List.{AllByRecursion}
use Rattle.std.proofs.lemmas.List.{append_assoc, map-append}
use Rattle.attempt_fates.specs.declared.fates.End.{End}
use Rattle.tuple_account.proofs.counted_items.Each.{each-append, each-front, each-back}
use Rattle.tuple_account.specs.storm_values.declared.value.Root.{Root}
use Rattle.tuple_account.specs.topology_plan.Topology.{Topology}
use Rattle.tuple_account.specs.tree_model.Lists.{IsClosed}
use Rattle.tuple_account.specs.tree_model.declared.messages.AckMsg.{AckMsg}
use Rattle.commit_turns.specs.declared.wait.Wait.{Wait}
use Rattle.commit_turns.specs.Desks.{settled, without}
use Rattle.taken_records.specs.Taken.{StayFronts}
use Rattle.record_offers.specs.Offers.{is_gone}
use Rattle.taken_records.specs.Cuts.{Cut}
use Rattle.attempt_fates.specs.declared.fates.Attempt.{Attempt}
use Rattle.attempt_fates.specs.declared.fates.End.TheVariants as end
use Rattle.attempt_fates.specs.Fates.{aborts_of, committed_batches, drops_of, is_abort, is_committed, is_dropped, is_failed_commit, is_near}
use Rattle.commit_turns.specs.Desks.{Desk, ended_at}
use Rattle.commit_turns.specs.Kept.{AreInRow, batches_taken}
use Rattle.commit_turns.specs.Turns.{aborted}
use Rattle.commit_turns.proofs.Dropping.{count_append, count_cons}
use Rattle.commit_turns.proofs.Aborting.{follow_plain}
use Rattle.commit_turns.proofs.Ends.{no_abort, no_drop, not_committed}
use Rattle.commit_turns.proofs.Going.{IsGoing, IsTimely, going_aborted}
use Rattle.commit_turns.proofs.Holding.{Holds, among, batches_push, holds_commit, holds_abort, holds_settled, spans_of}
use Rattle.commit_turns.proofs.Lists.{Found}
use Rattle.commit_turns.proofs.Rows.{row_at}
use Rattle.commit_turns.proofs.Tallies.{own-few, settled-split, without-split}
use Rattle.commit_turns.proofs.Telling.{aborts_push}

-- whether a commit is out does not matter
pub going_out : (t : Topology) (cut : Cut) (d : Desk) (fates : List Attempt) (b : Bool) → IsGoing t cut d fates → IsGoing t cut (record d { out = b }) fates
going_out t cut d fates b going = record {
  holds = going.holds;
  timely = going.timely;
  follow = going.follow;
  fronts = going.fronts;
  row = going.row;
  few_drops = going.few_drops;
  most = going.most;
  goes_on = going.goes_on;
  ran_out = going.ran_out;
}

module _ (t : Topology) (cut : Cut) (d : Desk) (fates : List Attempt) (going : IsGoing t cut d fates) (none : d.exhausted ≡ None) where
  module _ (test : Wait → Bool) (w : Wait) (found : Found test d.pending w) where
    split_holds : Holds t cut d.tick d.committed d.tries d.gone (found.before ++ w ∷ found.behind) fates
    split_holds = subst (λ (ps : List Wait). Holds t cut d.tick d.committed d.tries d.gone ps fates) found.split going.holds

    split_timely : AllByRecursion (IsTimely t.buckets d.tick) (found.before ++ w ∷ found.behind)
    split_timely = subst (AllByRecursion (IsTimely t.buckets d.tick)) found.split going.timely

    timely_beside : AllByRecursion (IsTimely t.buckets d.tick) (found.before ++ found.behind)
    timely_beside =
        each-append (IsTimely t.buckets d.tick) found.before found.behind (each-front (IsTimely t.buckets d.tick) found.before (w ∷ found.behind) split_timely)
        (each-back (IsTimely t.buckets d.tick) found.before (w ∷ found.behind) split_timely).1

    pub left : found.before ++ found.behind ≡ without w.root d.pending
    left = sym (ap (without w.root) found.split ∙ without-split found.before found.behind w split_holds.one)

    -- an attempt falls
    pub going_abort : (how : End) → is_abort how ≡ true → (IsTrue (is_failed_commit how) → w.root.txid ≡ d.committed + 1)
        → IsGoing t cut (aborted t cut (ended_at d.tick how w ∷ []) (record d { pending = without w.root d.pending })).desk
        (fates ++ (aborted t cut (ended_at d.tick how w ∷ []) (record d { pending = without w.root d.pending })).ended)
    going_abort how is failed =
        subst (λ (ps : List Wait). IsGoing t cut (aborted t cut (ended_at d.tick how w ∷ []) (record d { pending = ps })).desk (fates ++ (aborted t cut (ended_at d.tick how w ∷ []) (record d { pending = ps })).ended)) left
        (going_aborted t cut d fates going.holds going.follow going.fronts going.row going.few_drops (going.goes_on none) (ended_at d.tick how w) [] found.before found.behind found.behind w found.split refl refl
        (λ Q all. all) (is, tt) ((among t cut d.tick d.committed d.tries d.gone fates found.before found.behind w split_holds).later, tt)
        (λ txid. let o = own-few txid w.root.txid in omega arith)
        (holds_abort t cut d.tick d.committed d.tries d.gone fates found.before found.behind w split_holds how (not_committed how is) is failed)
        timely_beside)

    -- an attempt is settled
    pub going_settled : (list : List AckMsg) → IsClosed list → IsGoing t cut (record d { pending = settled w.root list d.pending }) fates
    going_settled list closed = record {
      holds = subst (λ (ps : List Wait). Holds t cut d.tick d.committed d.tries d.gone ps fates) now (holds_settled t cut d.tick d.committed d.tries d.gone fates found.before found.behind w split_holds list closed);
      timely = subst (AllByRecursion (IsTimely t.buckets d.tick)) now
          (each-append (IsTimely t.buckets d.tick) found.before (record w { settled = Some list } ∷ found.behind)
          (each-front (IsTimely t.buckets d.tick) found.before (w ∷ found.behind) split_timely)
          ((λ timed. absurd (never timed)), (each-back (IsTimely t.buckets d.tick) found.before (w ∷ found.behind) split_timely).1));
      follow = going.follow;
      fronts = λ some. subst (λ xs. StayFronts cut.partitions (length cut.gone) (is_gone cut.gone) (committed_batches fates ++ xs)) batches (going.fronts some);
      row = λ some. subst (AreInRow (d.committed + 1)) now (row_settled (d.committed + 1) found.before (subst (AreInRow (d.committed + 1)) found.split (going.row some)));
      few_drops = going.few_drops;
      most = going.most;
      goes_on = going.goes_on;
      ran_out = going.ran_out;
    }
      where
        now : found.before ++ record w { settled = Some list } ∷ found.behind ≡ settled w.root list d.pending
        now = sym (ap (settled w.root list) found.split ∙ settled-split found.before found.behind w split_holds.one list)

        never : Some list ≡ None → ⊥
        never e = cc

        batches : map spans_of d.pending ≡ map spans_of (settled w.root list d.pending)
        batches =
            ap (map spans_of) found.split ∙ map-append spans_of found.before (w ∷ found.behind)
            ∙ sym (map-append spans_of found.before (record w { settled = Some list } ∷ found.behind)) ∙ ap (map spans_of) now

        row_settled : (next : ℕ) (before : List Wait) → AreInRow next (before ++ w ∷ found.behind) → AreInRow next (before ++ record w { settled = Some list } ∷ found.behind)
        row_settled next [] row = (row.0, row.1)
        row_settled next (x ∷ before) row = (row.0, row_settled (next + 1) before row.1)

    -- the attempt of the next transaction is committed
    pub going_commit : (how : End) → is_committed how ≡ true → w.root.txid ≡ d.committed + 1
        → IsGoing t cut (record d { committed = d.committed + 1; pending = without w.root d.pending; out = false }) (fates ++ ended_at d.tick how w ∷ [])
    going_commit how is turn =
        subst (λ (ps : List Wait). IsGoing t cut (record d { committed = d.committed + 1; pending = ps; out = false }) (fates ++ ended_at d.tick how w ∷ [])) left
        (record {
          holds = holds_commit t cut d.tick d.committed d.tries d.gone fates found.before found.behind w split_holds how is (no_abort how is) turn;
          timely = timely_beside;
          follow = follow_plain cut fates (ended_at d.tick how w) going.follow (λ by e. plain by e);
          fronts = λ some. subst (StayFronts cut.partitions (length cut.gone) (is_gone cut.gone)) (batches some) (going.fronts some);
          row = λ some. subst (λ (ps : List Wait). AreInRow (d.committed + 1 + 1) (ps ++ found.behind)) (sym (alone some)) (rest_row some);
          few_drops = λ txid. (let g = going.few_drops txid in let f = same_drops txid in let n = count_append (λ (a : Attempt). is_near t.pending txid a.root.txid && is_abort a.end) fates (ended_at d.tick how w ∷ []) in omega (arith, g, f, n));
          most = λ txid. (let g = going.most txid in let f = same_aborts txid in omega arith);
          goes_on = λ goes txid. (let g = going.goes_on none txid in let f = same_aborts txid in omega arith);
          ran_out = λ txid some. absurd (none_some txid (sym none ∙ some));
        })
      where
        plain : (by : Root) → how ≡ end.Dropped by → ⊥
        plain by e = never (sym is ∙ ap is_committed e)
          where
            never : true ≡ false → ⊥
            never e = cc

        none_some : (txid : ℕ) → None ≡ Some txid → ⊥
        none_some txid e = cc

        same_aborts : (txid : ℕ) → aborts_of txid (fates ++ ended_at d.tick how w ∷ []) ≡ aborts_of txid fates
        same_aborts txid =
            let f = aborts_push txid fates (ended_at d.tick how w) in
            let z = off (w.root.txid == txid) in omega arith
          where
            off : (b : Bool) → cond {A = ℕ} (b && is_abort how) 1 0 ≡ 0
            off true = ap (λ (c : Bool). cond {A = ℕ} c 1 0) (no_abort how is)
            off false = refl

        same_drops : (txid : ℕ) → drops_of txid (fates ++ ended_at d.tick how w ∷ []) ≡ drops_of txid fates
        same_drops txid =
            let p = λ (a : Attempt). (a.root.txid == txid) && is_dropped a.end in
            let c = count_append p fates (ended_at d.tick how w ∷ []) in
            let o = count_cons p (ended_at d.tick how w) [] in
            let z = off (w.root.txid == txid) in omega (arith, c, o, z)
          where
            off : (b : Bool) → cond {A = ℕ} (b && is_dropped how) 1 0 ≡ 0
            off true = ap (λ (c : Bool). cond {A = ℕ} c 1 0) (no_drop how is)
            off false = refl

        split_row : 0 < cut.partitions → AreInRow (d.committed + 1) (found.before ++ w ∷ found.behind)
        split_row some = subst (AreInRow (d.committed + 1)) found.split (going.row some)

        alone : 0 < cut.partitions → found.before ≡ []
        alone some = by found.before (row_at (d.committed + 1) found.before found.behind w (split_row some))
          where
            by : (ws : List Wait) → w.root.txid ≡ d.committed + 1 + length ws → ws ≡ []
            by [] e = refl
            by (x ∷ ws) e = absurd (omega (arith, e, turn))

        rest_row : 0 < cut.partitions → AreInRow (d.committed + 1 + 1) found.behind
        rest_row some = (subst (λ (ps : List Wait). AreInRow (d.committed + 1) (ps ++ w ∷ found.behind)) (alone some) (split_row some)).1

        batches : 0 < cut.partitions → batches_taken d fates ≡ committed_batches (fates ++ ended_at d.tick how w ∷ []) ++ map spans_of (found.before ++ found.behind)
        batches some =
            ap (λ ws. committed_batches fates ++ map spans_of ws) (found.split ∙ ap (λ (ps : List Wait). ps ++ w ∷ found.behind) (alone some))
            ∙ sym (append_assoc (committed_batches fates) (w.spans ∷ []) (map spans_of found.behind))
            ∙ ap (λ xs. xs ++ map spans_of found.behind) (sym (batches_push fates (ended_at d.tick how w) true is))
            ∙ ap (λ (ps : List Wait). committed_batches (fates ++ ended_at d.tick how w ∷ []) ++ map spans_of (ps ++ found.behind)) (sym (alone some))

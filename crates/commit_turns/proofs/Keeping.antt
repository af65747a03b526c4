-- What the coordinator keeps, as what holds while a turn goes on, and back.
use Rattle.std.proofs.Common.{◌≡◌, ℕ, ◌+◌, ◌≤◌, Bool, true, false, cond, None, Some, List, [], ◌∷◌, ◌++◌, length, map, filter, refl, sym, ap, subst, ◌∙◌, arith}
use Rattle.std.specs.Prelude.{IsTrue}
use Rattle.std.specs.List.{AllByRecursion}
use Rattle.std.specs.List.Sorted.{IsNonDecreasing}
use Rattle.tuple_account.proofs.counted_items.Each.{each-weaker, each-both}
use Rattle.tuple_account.specs.topology_plan.Topology.{Topology}
use Rattle.tuple_account.specs.topology_plan.Valid.{IsValid}
use Rattle.record_spans.specs.declared.span.Span.{Span}
use Rattle.record_offers.specs.Offers.{is_gone}
use Rattle.taken_records.specs.Taken.{IsFront, passed_with}
use Rattle.taken_records.proofs.Fronting.{stay_before}
use Rattle.taken_records.proofs.Taking.{first_taken, once_at_most, times_append}
use Rattle.commit_turns.specs.declared.wait.Wait.{Wait}
use Rattle.taken_records.specs.Cuts.{Cut, IsStart}
use Rattle.attempt_fates.specs.declared.fates.Attempt.{Attempt}
use Rattle.attempt_fates.specs.Fates.{attempt_numbers, committed_batches, committed_txids, is_committed}
use Rattle.commit_turns.specs.Desks.{Desk, first_desk}
use Rattle.commit_turns.specs.Kept.{IsKept, IsWaiting, batches_taken}
use Rattle.commit_turns.proofs.Going.{IsGoing, IsTimely}
use Rattle.commit_turns.proofs.Holding.{Holds, IsBegun, spans_of}
use Rattle.commit_turns.proofs.Lists.{range_below}
use Rattle.commit_turns.proofs.Tallies.{apart-of-few, few-of-apart, has-tally, tally}
use Rattle.replay_pending.proofs.Counting.{tried-empty}
use Rattle.commit_turns.proofs.Telling.{Told}

past_of : (most : ℕ) (fates : List Attempt) → AllByRecursion (λ (k : ℕ). k ≤ most) (committed_txids fates)
    → AllByRecursion (λ (a : Attempt). IsTrue (is_committed a.end) → a.root.txid ≤ most) fates
past_of most [] all = tt
past_of most (a ∷ fates) all = by (is_committed a.end) refl all (λ rest. past_of most fates rest)
  where
    by : (b : Bool) → is_committed a.end ≡ b → AllByRecursion (λ (k : ℕ). k ≤ most) (map (λ (x : Attempt). x.root.txid) (cond b (a ∷ filter (λ (x : Attempt). is_committed x.end) fates) (filter (λ (x : Attempt). is_committed x.end) fates)))
        → (AllByRecursion (λ (k : ℕ). k ≤ most) (committed_txids fates) → AllByRecursion (λ (x : Attempt). IsTrue (is_committed x.end) → x.root.txid ≤ most) fates)
        → AllByRecursion (λ (x : Attempt). IsTrue (is_committed x.end) → x.root.txid ≤ most) (a ∷ fates)
    by true is below later = ((λ was. below.0), later below.1)
    by false is below later = ((λ was. absurd (never (sym is ∙ was))), later below)
      where
        never : false ≡ true → ⊥
        never e = cc

module _ (t : Topology) (cut : Cut) (d : Desk) (fates : List Attempt) where
  module _ (kept : IsKept t cut d fates) where
    few : (txid : ℕ) → tally txid d.pending ≤ 1
    few = few-of-apart d.pending kept.apart

    told : Told cut d.committed d.tick fates
    told = record {
      in_order = kept.once.in_order;
      commits = kept.commits;
      numbered = kept.once.numbered;
      last_committed = kept.once.last_committed;
      batches = kept.once.batches;
      rises = kept.once.rises;
      finishes = kept.once.finishes;
      handed_out = kept.once.handed_out;
      past = past_of d.committed fates
          (subst (AllByRecursion (λ (k : ℕ). k ≤ d.committed)) (sym kept.once.in_order) (range_below (cut.start + 1) (length (committed_txids fates)) d.committed (let c = kept.commits in omega arith)));
      fails = kept.fails_in_turn;
    }

    pub going : IsGoing t cut d fates
    going = record {
      holds = record {
        told = told;
        begun = λ txid. kept.begun txid ∙ ap (λ (k : ℕ). length (attempt_numbers txid fates) + k) (has-tally txid d.pending (few txid));
        aborted = kept.aborted;
        one = few;
        waits = each-weaker (IsWaiting t cut d) (IsBegun t cut d.tries d.committed d.tick)
            (λ w is. record { number = is.number; later = is.later; near = is.near; batch = is.batch; starts = is.starts; closed = is.closed }) d.pending kept.waits;
        few = kept.few;
        taken = kept.taken;
      };
      timely = each-weaker (IsWaiting t cut d) (IsTimely t.buckets d.tick) (λ w is. is.not_late) d.pending kept.waits;
      follow = kept.drops;
      fronts = kept.fronts;
      row = kept.in_row;
      few_drops = kept.few_drops;
      most = kept.most;
      goes_on = kept.goes_on;
      ran_out = kept.ran_out;
    }

  pub kept_of : IsGoing t cut d fates → IsKept t cut d fates
  kept_of g = record {
    once = record {
      in_order = h.told.in_order;
      numbered = h.told.numbered;
      last_committed = h.told.last_committed;
      batches = h.told.batches;
      apart = λ n first last.
          let all = once_at_most cut.gone d.gone cut.size (batches_taken d fates) n h.taken first last in
          let parts = times_append (committed_batches fates) (map spans_of d.pending) n in
          omega (arith, all, parts);
      fronts = λ some. stay_before cut.partitions (length cut.gone) (is_gone cut.gone) (committed_batches fates) (map spans_of d.pending) (g.fronts some);
      rises = h.told.rises;
      finishes = h.told.finishes;
      handed_out = h.told.handed_out;
    };
    commits = h.told.commits;
    fails_in_turn = h.told.fails;
    drops = g.follow;
    taken = h.taken;
    fronts = g.fronts;
    in_row = g.row;
    begun = λ txid. h.begun txid ∙ ap (λ (k : ℕ). length (attempt_numbers txid fates) + k) (sym (has-tally txid d.pending (h.one txid)));
    aborted = h.aborted;
    few_drops = g.few_drops;
    waits = each-weaker (λ (w : Wait). IsBegun t cut d.tries d.committed d.tick w × IsTimely t.buckets d.tick w) (IsWaiting t cut d) waiting d.pending
        (each-both (IsBegun t cut d.tries d.committed d.tick) (IsTimely t.buckets d.tick) d.pending h.waits g.timely);
    apart = apart-of-few d.pending h.one;
    few = h.few;
    most = g.most;
    goes_on = g.goes_on;
    ran_out = g.ran_out;
  }
    where
      h : Holds t cut d.tick d.committed d.tries d.gone d.pending fates
      h = g.holds

      waiting : (w : Wait) → IsBegun t cut d.tries d.committed d.tick w × IsTimely t.buckets d.tick w → IsWaiting t cut d w
      waiting w both = record {
        number = both.0.number;
        later = both.0.later;
        near = both.0.near;
        batch = both.0.batch;
        starts = both.0.starts;
        not_late = both.1;
        closed = both.0.closed;
      }

-- ---- at first

pub going_first : (t : Topology) (cut : Cut) → IsValid t → IsStart cut → IsGoing t cut (first_desk cut) []
going_first t cut valid start = record {
  holds = record {
    told = record {
      in_order = refl;
      commits = omega arith;
      numbered = λ txid. refl;
      last_committed = λ i j d low high. absurd (omega arith);
      batches = tt;
      rises = tt;
      finishes = none_fall;
      handed_out = tt;
      past = tt;
      fails = λ earlier later a e is. absurd (no_fate earlier later a e);
    };
    begun = λ txid. ap (λ x. x.begun) (tried-empty txid);
    aborted = λ txid. ap (λ x. x.aborted) (tried-empty txid);
    one = λ txid. omega arith;
    waits = tt;
    few = omega arith;
    taken = first_taken cut.gone cut.size;
  };
  timely = tt;
  follow = record {
    partitions = λ earlier later a by e is. absurd (no_fate earlier later a e);
    follows = λ earlier later a by e is. absurd (no_fate earlier later a e);
    apart = λ i j d low high. absurd (omega arith);
  };
  fronts = λ some earlier later e. none_before earlier later e (start.fronts some);
  row = λ some. tt;
  few_drops = λ txid. omega arith;
  most = λ txid. omega arith;
  goes_on = λ goes txid. (let a = valid.attempts.0 in omega arith);
  ran_out = λ txid is. absurd (none_some txid is);
}
  where
    none_some : (txid : ℕ) → None ≡ Some txid → ⊥
    none_some txid e = cc

    no_fate : (earlier later : List Attempt) (a : Attempt) → [] ≡ earlier ++ a ∷ later → ⊥
    no_fate [] later a e = cc
    no_fate (x ∷ earlier) later a e = cc

    none_fall : IsNonDecreasing []
    none_fall = λ i j d low high. absurd (omega arith)

    none_before : (earlier later : List (List Span)) → [] ≡ earlier ++ later → IsFront cut.partitions (length cut.gone) (is_gone cut.gone)
        → IsFront cut.partitions (length cut.gone) (passed_with (is_gone cut.gone) earlier)
    none_before [] later e front = front
    none_before (x ∷ earlier) later e front = absurd (some e)
      where
        some : [] ≡ x ∷ (earlier ++ later) → ⊥
        some e = cc

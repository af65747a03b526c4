-- What a turn of the coordinator and the outcome of a commit do. Batches in flight side by side and
-- commits in the order of transactions after Storm's documentation, "Trident State"; the order of
-- the steps, and which attempts end with others, are this project's own.
use Rattle.std.specs.Prelude.{ℕ, zero, suc, ◌+◌, ◌-◌, ◌^◌, ◌==◌, ◌&&◌, nat_lt, ◌%◌, not, Bool, true, false, if◌then◌else◌, min, Option, None, Some, is_some, List, [], ◌∷◌, ◌++◌, map, filter, length}
use Rattle.std.specs.List.{find, list_all, range_with_len}
use Rattle.std.specs.Option.{option_and_then}
use Rattle.tuple_account.specs.acker_core.declared.verdict.Verdict.{Verdict}
use Rattle.tuple_account.specs.acker_core.declared.verdict.Verdict.TheVariants.{Complete, Fails}
use Rattle.attempt_fates.specs.declared.fates.End.{End}
use Rattle.attempt_fates.specs.declared.fates.End.TheVariants as end
use Rattle.commit_turns.specs.declared.wait.Wait.{Wait}
use Rattle.record_offers.specs.Offers.{left_in, offered}
use Rattle.taken_records.specs.Taken.{marked, put_back, runs_of}
use Rattle.state_parts.specs.declared.answer.CommitOutcome.{CommitOutcome}
use Rattle.state_parts.specs.declared.answer.CommitOutcome.TheVariants as outcome
use Rattle.tuple_account.specs.storm_values.declared.value.Root.{Root}
use Rattle.tuple_account.specs.storm_values.Lines.{first_some}
use Rattle.tuple_account.specs.topology_plan.Topology.{Topology}
use Rattle.tuple_account.specs.tree_model.declared.messages.AckMsg.{AckMsg}
use Rattle.tuple_account.specs.tree_model.Lists.{occurrences}
use Rattle.tuple_account.specs.tuple_tickets.Edges.{times}
use Rattle.tuple_account.specs.tuple_tickets.declared.edge.Edge.{Edge}
use Rattle.taken_records.specs.Cuts.{Cut, offers_of}
use Rattle.attempt_fates.specs.declared.fates.Attempt.{Attempt}
use Rattle.commit_turns.specs.Desks.{Desk, Progress, ended_at, has_txid, is_late, settled, still, timed_of, without}
use Rattle.replay_pending.specs.InFlight as flight
use Rattle.replay_pending.specs.InFlight.{Tries, tried, with_begun}

-- whether each edge of a list occurs an even number of times
abbrev pub is_closed : List AckMsg → Bool
is_closed list =
    list_all (λ (e : Edge). times e (occurrences list) % 2 == 0) (occurrences list)

-- the number at which ticks end
abbrev pub last_tick : ℕ
last_tick = 2 ^ 64 - 1

-- the greatest number that a transaction may have
abbrev pub last_txid : ℕ
last_txid = 2 ^ 64 - 1

-- the greatest number that an attempt may have
abbrev pub last_attempt : ℕ
last_attempt = 2 ^ 32 - 1

module _ (t : Topology) (cut : Cut) where
  -- ---- attempts that abort

  -- the transaction of an attempt with which as many aborted as a plan allows
  abbrev pub last_try : Tries → Attempt → Option ℕ
  last_try tries a =
      if nat_lt (tried a.root.txid tries).aborted t.attempts then None else Some a.root.txid

  -- Whether a pending attempt ends with those that aborted: with partitions, where its transaction
  -- is above that of the first of them. That is the lowest of theirs, since those that are pending
  -- are then in the order of their transactions.
  abbrev pub ends_with : Root → Wait → Bool
  ends_with first w = not (cut.partitions == 0) && nat_lt first.txid w.root.txid

  -- the attempts that are dropped with those that aborted, in the order of their begins
  abbrev pub drops : ℕ → Root → List Wait → List Attempt
  drops tick first pending =
      map (ended_at tick (end.Dropped first)) (filter (ends_with first) pending)

  -- each of the attempts that aborted counts
  abbrev pub counted : List Attempt → Tries → Tries
  counted xs tries = flight.counted (map (λ (a : Attempt). a.root.txid) xs) tries

  -- the records of attempts that ended come back
  abbrev pub returned : List Attempt → List Bool → List Bool
  returned fates gone = put_back (map (λ (a : Attempt). a.spans) fates) gone

  -- Attempts aborted, which are pending no longer. Those that end with them are dropped, and all
  -- their records come back. The first with which as many of its transaction aborted as a plan
  -- allows stops the coordinator.
  abbrev pub aborted : List Attempt → Desk → Progress
  aborted [] d = still d
  aborted (first ∷ others) d = record {
    desk = record d {
      tries = counted (first ∷ others) d.tries;
      gone = returned (first ∷ others ++ drops d.tick first.root d.pending) d.gone;
      pending = filter (λ (w : Wait). not (ends_with first.root w)) d.pending;
      exhausted = first_some
          (map (last_try (counted (first ∷ others) d.tries)) (first ∷ others));
    };
    ended = first ∷ others ++ drops d.tick first.root d.pending;
  }

  -- ---- a verdict is heard

  -- a timed attempt ends; where there is none, nothing changes
  abbrev pub end_timed : End → Option Wait → Desk → Progress
  end_timed how None d = still d
  end_timed how (Some w) d = aborted (ended_at d.tick how w ∷ [])
      (record d { pending = without w.root d.pending })

  -- a timed attempt with a complete verdict is settled where its list is closed, and ends else
  abbrev pub complete_timed : List AckMsg → Bool → Option Wait → Desk → Progress
  complete_timed list closed None d = still d
  complete_timed list true (Some w) d =
      still (record d { pending = settled w.root list d.pending })
  complete_timed list false (Some w) d = end_timed (end.Coincided list) (Some w) d

  -- a verdict of an attempt that is not pending and timed changes nothing
  abbrev pub heard : Option Verdict → Desk → Progress
  heard None d = still d
  heard (Some (Complete root list)) d =
      complete_timed list (is_closed list) (timed_of root d.pending) d
  heard (Some (Fails root path)) d = end_timed (end.Failed path) (timed_of root d.pending) d

  -- ---- ticks

  -- the timed attempts that end at a tick, in the order of their begins
  abbrev pub late_at : ℕ → List Wait → List Attempt
  late_at tick pending =
      map (ended_at tick end.TimedOut) (filter (is_late t.buckets tick) pending)

  -- the others
  abbrev pub in_time_at : ℕ → List Wait → List Wait
  in_time_at tick pending = filter (λ (w : Wait). not (is_late t.buckets tick w)) pending

  -- the tick number rises, and the attempts that are late end
  abbrev pub one_tick : Desk → Progress
  one_tick d = aborted (late_at (d.tick + 1) d.pending)
      (record d { tick = d.tick + 1; pending = in_time_at (d.tick + 1) d.pending })

  -- at the last number, and after an end that stopped the coordinator, a tick changes nothing
  abbrev pub has_no_tick : Desk → Bool
  has_no_tick d = if is_some d.exhausted then true else d.tick == last_tick

  -- and then more
  abbrev pub and_then : Progress → Progress → Progress
  and_then p q = record { desk = q.desk; ended = p.ended ++ q.ended }

  abbrev pub ticked : ℕ → Desk → Progress
  ticked zero d = still d
  ticked (suc n) d =
      if has_no_tick d then still d else and_then (one_tick d) (ticked n (one_tick d).desk)

  -- ---- a commit is ordered

  -- the settled attempt of the lowest transaction that was not committed
  abbrev pub next_to_commit : Desk → Option Wait
  next_to_commit d =
      find (λ (w : Wait). (w.root.txid == d.committed + 1) && is_some w.settled) d.pending

  abbrev pub ordered : Desk → Desk
  ordered d = record d { out = is_some (next_to_commit d) }

  -- ---- attempts begin

  -- the lowest transaction that was not committed and has no pending attempt
  abbrev pub free_txid : Desk → Option ℕ
  free_txid d = find (λ txid. not (has_txid txid d.pending))
      (range_with_len (d.committed + 1)
      (min (length d.pending + 1) (last_txid - d.committed)))

  -- the next attempt of a transaction
  abbrev pub next_attempt : Desk → ℕ → Option Root
  next_attempt d txid =
      if nat_lt (tried txid d.tries).begun last_attempt
      then Some (record { txid = txid; attempt = (tried txid d.tries).begun + 1 })
      else None

  -- the root that begins next, while fewer are pending than may be
  abbrev pub next_root : Desk → Option Root
  next_root d =
      if nat_lt (length d.pending) t.pending
      then option_and_then (next_attempt d) (free_txid d)
      else None

  -- an attempt with these records, of which there are some, timed from this tick on
  abbrev pub fresh : Desk → Root → List ℕ → Option Wait
  fresh d root [] = None
  fresh d root (n ∷ numbers) = Some
      (record { root = root; spans = runs_of (n ∷ numbers); start = d.tick; settled = None })

  -- the attempt that begins next, with what is offered while some partitions are shut
  abbrev pub next_wait : ℕ → Desk → Option Wait
  next_wait shut d = option_and_then
      (λ root. fresh d root (offered (offers_of cut d.gone) root.txid shut)) (next_root d)

  -- it is pending, and its records are gone
  abbrev pub begun : Wait → Desk → Desk
  begun w d = record d {
    tries = with_begun w.root.txid w.root.attempt d.tries;
    gone = marked true w.spans d.gone;
    pending = d.pending ++ w ∷ [];
  }

  -- what the coordinator knows, and the attempts that it began, in order
  pub record Filled : Type 0 where
    pub desk : Desk
    pub begun : List Wait

  abbrev pub fill_more : (Desk → Filled) → Desk → Option Wait → Filled
  fill_more more d None = record { desk = d; begun = [] }
  fill_more more d (Some w) = record {
    desk = (more (begun w d)).desk;
    begun = w ∷ (more (begun w d)).begun;
  }

  -- attempts begin until as many are pending as may be, or nothing is offered
  abbrev pub filled : ℕ → ℕ → Desk → Filled
  filled shut zero d = record { desk = d; begun = [] }
  filled shut (suc places) d = fill_more (filled shut places) d (next_wait shut d)

  -- ---- a turn

  -- A verdict is heard, the ticks pass, and unless the coordinator stopped a commit is ordered and
  -- attempts begin.
  pub record Turned : Type 0 where
    pub desk : Desk
    pub ended : List Attempt
    pub commit : Option Wait
    pub begun : List Wait

  abbrev pub ordered_and_filled : Desk → List Attempt → Filled → Turned
  ordered_and_filled d fates f = record {
    desk = f.desk;
    ended = fates;
    commit = next_to_commit d;
    begun = f.begun;
  }

  abbrev pub turned_by : ℕ → Option ℕ → Progress → Turned
  turned_by shut (Some txid) p =
      record { desk = p.desk; ended = p.ended; commit = None; begun = [] }
  turned_by shut None p =
      ordered_and_filled p.desk p.ended (filled shut t.pending (ordered p.desk))

  abbrev pub passed : ℕ → Progress → Progress
  passed ticks p = and_then p (ticked ticks p.desk)

  abbrev pub turned : Option Verdict → (ticks shut : ℕ) → Desk → Turned
  turned verdict ticks shut d = turned_by shut
      (passed ticks (heard verdict d)).desk.exhausted (passed ticks (heard verdict d))

  -- ---- the outcome of a commit

  -- the end of an attempt whose commit came to this
  abbrev pub end_by : CommitOutcome → Option (List AckMsg) → End
  end_by outcome.Done None = end.Committed []
  end_by outcome.Done (Some list) = end.Committed list
  end_by (outcome.Failed component part before after) list =
      end.CommitFailed component part before after

  abbrev pub decided_by : CommitOutcome → Option Wait → Desk → Progress
  decided_by how None d = still (record d { out = false })
  decided_by outcome.Done (Some w) d = record {
    desk = record d {
      committed = d.committed + 1;
      pending = without w.root d.pending;
      out = false;
    };
    ended = ended_at d.tick (end_by outcome.Done w.settled) w ∷ [];
  }
  decided_by (outcome.Failed component part before after) (Some w) d = aborted
      (ended_at d.tick (end.CommitFailed component part before after) w ∷ [])
      (record d { pending = without w.root d.pending; out = false })

  -- the attempt whose commit was ordered ends
  abbrev pub decided : CommitOutcome → Desk → Progress
  decided how d = decided_by how (next_to_commit d) d

  -- whether no record is left uncommitted
  abbrev pub is_finished : Desk → Bool
  is_finished d = (left_in d.gone == 0) && (length d.pending == 0)

-- What the coordinator knows. Pending attempts and their cap after Storm's documentation,
-- "Concepts" (max spout pending); that a settled attempt is not timed is this project's own.
use Rattle.std.specs.Prelude.{ℕ, ◌+◌, ◌==◌, ◌&&◌, not, Bool, false, if◌then◌else◌, Option, None, Some, is_some, List, [], map, filter}
use Rattle.std.specs.FinMap as fin_map
use Rattle.std.specs.List.{find, list_any}
use Rattle.attempt_fates.specs.declared.fates.Attempt.{Attempt}
use Rattle.attempt_fates.specs.declared.fates.End.{End}
use Rattle.commit_turns.specs.declared.wait.Wait.{Wait}
use Rattle.replay_pending.specs.InFlight.{Tries}
use Rattle.taken_records.specs.Cuts.{Cut}
use Rattle.tuple_account.specs.rotating_ledger.Held.{root_eq}
use Rattle.tuple_account.specs.storm_values.declared.value.Root.{Root}
use Rattle.tuple_account.specs.tree_model.declared.messages.AckMsg.{AckMsg}

-- The ticks that were counted, the last transaction that was committed, the attempts of each that
-- were begun and aborted, a mark for each record that is committed, pending or was gone at first,
-- the pending attempts in the order of their begins, whether a commit was ordered whose outcome was
-- not told yet, and the transaction whose attempts have run out.
pub record Desk : Type 0 where
  pub tick : ℕ
  pub committed : ℕ
  pub tries : Tries
  pub gone : List Bool
  pub pending : List Wait
  pub out : Bool
  pub exhausted : Option ℕ

-- nothing was counted, begun or committed
abbrev pub first_desk : Cut → Desk
first_desk cut = record {
  tick = 0;
  committed = cut.start;
  tries = fin_map.empty;
  gone = cut.gone;
  pending = [];
  out = false;
  exhausted = None;
}

-- ---- pending attempts

abbrev pub is_of_root : Root → Wait → Bool
is_of_root root w = root_eq root w.root

abbrev pub is_timed : Wait → Bool
is_timed w = not (is_some w.settled)

-- a pending attempt that is timed, by its root
abbrev pub timed_of : Root → List Wait → Option Wait
timed_of root pending = find (λ (w : Wait). is_of_root root w && is_timed w) pending

-- the others
abbrev pub without : Root → List Wait → List Wait
without root pending = filter (λ (w : Wait). not (is_of_root root w)) pending

-- the attempt of a root is settled with a list
abbrev pub settle_with : Root → List AckMsg → Wait → Wait
settle_with root list w =
    if is_of_root root w then record w { settled = Some list } else w

abbrev pub settled : Root → List AckMsg → List Wait → List Wait
settled root list pending = map (settle_with root list) pending

-- whether an attempt of a transaction is pending
abbrev pub has_txid : ℕ → List Wait → Bool
has_txid txid pending = list_any (λ (w : Wait). txid == w.root.txid) pending

-- a timed attempt ends at the tick that is so many after its begin
abbrev pub is_late : ℕ → ℕ → Wait → Bool
is_late buckets tick w = is_timed w && (w.start + buckets == tick)

-- ---- ends

-- a pending attempt that ended at a tick
abbrev pub ended_at : ℕ → End → Wait → Attempt
ended_at finish end w = record {
  root = w.root;
  spans = w.spans;
  start = w.start;
  finish = finish;
  end = end;
}

-- what the coordinator knows, and the attempts that ended
pub record Progress : Type 0 where
  pub desk : Desk
  pub ended : List Attempt

-- nothing ended
abbrev pub still : Desk → Progress
still d = record { desk = d; ended = [] }

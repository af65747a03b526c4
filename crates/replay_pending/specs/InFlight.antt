-- The attempts in flight. That at most so many batches are pending is after Storm's documentation,
-- "Concepts" (max spout pending, which counts batches in Trident), and a time-out after so many
-- ticks after its `RotatingMap`; that a settled attempt is not timed is this project's own.
use Rattle.std.specs.Prelude.{◌≡◌, ℕ, ◌+◌, ◌==◌, ◌&&◌, ◌≤◌, nat_lt, not, Bool, false, if◌then◌else◌, Option, None, Some, is_some, unwrap_or, List, [], ◌∷◌, ◌++◌, length, map, filter, count_by, refl}
use Rattle.std.specs.Coded.{Coded, code_by, coded×, coded_ℕ, coded_list, coded_option}
use Rattle.std.specs.FinMap as fin_map
use Rattle.std.specs.List.{find, list_any}
use Rattle.std.specs.Ordering.{nat_cmp}
use Rattle.record_spans.specs.declared.span.Span.{Span}
use Rattle.storm_values.specs.declared.value.Root.{Root}
use Rattle.rotating_ledger.specs.Held.{root_eq, root_code}
use Rattle.replay_pending.specs.declared.attempts.Tried.{Tried}
use Rattle.replay_pending.specs.declared.entry.Entry.{Entry}

-- how many attempts of each transaction were begun, and how many of them aborted
abbrev pub Tries : Type 0
Tries = fin_map.FinMap nat_cmp Tried

-- How many attempts may be pending, the number of the tick since its begin at which a timed one
-- ends, the ticks so far, the pending attempts in the order of their begins, and how many were
-- begun and aborted.
pub record InFlight (L : Type 0) : Type 0 where
  pub cap : ℕ
  pub buckets : ℕ
  pub tick : ℕ
  pub pending : List (Entry L)
  pub tries : Tries

-- spans, entries, counts and the table are stored as the tuples of their fields
abbrev pub span_code : Coded Span
span_code =
    code_by (ℕ × ℕ) (coded× coded_ℕ coded_ℕ) (λ s. (s.first, s.last))
    (λ p. record { first = p.0; last = p.1 }) (λ _. refl)

abbrev pub entry_code : {L : Type 0} → Coded L → Coded (Entry L)
entry_code {L} code =
    code_by
    (Root × (List Span × (ℕ × Option L)))
    (coded× root_code (coded× (coded_list span_code) (coded× coded_ℕ (coded_option code))))
    (λ e. (e.root, (e.spans, (e.start, e.settled))))
    (λ p. record { root = p.0; spans = p.1.0; start = p.1.1.0; settled = p.1.1.1 })
    (λ _. refl)

abbrev pub tried_code : Coded Tried
tried_code =
    code_by (ℕ × ℕ) (coded× coded_ℕ coded_ℕ) (λ t. (t.begun, t.aborted))
    (λ p. record { begun = p.0; aborted = p.1 }) (λ _. refl)

abbrev pub in_flight_code : {L : Type 0} → Coded L → Coded (InFlight L)
in_flight_code {L} code =
    code_by
    (ℕ × (ℕ × (ℕ × (List (Entry L) × Tries))))
    (coded× coded_ℕ
    (coded× coded_ℕ
    (coded× coded_ℕ (coded× (coded_list (entry_code code)) (fin_map.code coded_ℕ tried_code)))))
    (λ p. (p.cap, (p.buckets, (p.tick, (p.pending, p.tries)))))
    (λ q. record {
      cap = q.0;
      buckets = q.1.0;
      tick = q.1.1.0;
      pending = q.1.1.1.0;
      tries = q.1.1.1.1;
    })
    (λ _. refl)

-- ---- counts

-- what stands there of a transaction, else none
abbrev pub tried : ℕ → Tries → Tried
tried txid tries = unwrap_or (fin_map.get tries txid) (record { begun = 0; aborted = 0 })

-- one more attempt of a transaction was begun, which has this number
abbrev pub with_begun : ℕ → ℕ → Tries → Tries
with_begun txid number tries =
    fin_map.insert tries txid (record { begun = number; aborted = (tried txid tries).aborted })

-- one more aborted
abbrev pub with_aborted : ℕ → Tries → Tries
with_aborted txid tries = fin_map.insert tries txid
    (record { begun = (tried txid tries).begun; aborted = (tried txid tries).aborted + 1 })

-- one more of each of these aborted
abbrev pub counted : List ℕ → Tries → Tries
counted [] tries = tries
counted (txid ∷ txids) tries = counted txids (with_aborted txid tries)

module _ {L : Type 0} where
  -- an attempt that begins at a tick, with its records
  abbrev pub fresh : Root → List Span → ℕ → Entry L
  fresh root spans start =
      record { root = root; spans = spans; start = start; settled = None }

  abbrev pub none_in_flight : ℕ → ℕ → InFlight L
  none_in_flight cap buckets = record {
    cap = cap;
    buckets = buckets;
    tick = 0;
    pending = [];
    tries = fin_map.empty;
  }

  -- ---- what is asked

  abbrev pub is_of_root : Root → Entry L → Bool
  is_of_root root e = root_eq root e.root

  abbrev pub is_timed : Entry L → Bool
  is_timed e = not (is_some e.settled)

  -- it is of a root, and timed
  abbrev pub is_timed_of : Root → Entry L → Bool
  is_timed_of root e = is_of_root root e && is_timed e

  abbrev pub is_of_txid : ℕ → Entry L → Bool
  is_of_txid txid e = txid == e.root.txid

  -- its transaction is above this one
  abbrev pub is_above : ℕ → Entry L → Bool
  is_above txid e = nat_lt txid e.root.txid

  -- it is of the transaction after this one, and settled
  abbrev pub is_settled_after : ℕ → Entry L → Bool
  is_settled_after before e = (e.root.txid == before + 1) && is_some e.settled

  abbrev pub is_pending : Root → List (Entry L) → Bool
  is_pending root pending = list_any (is_of_root root) pending

  -- whether some attempt of a transaction is pending
  abbrev pub has_txid : ℕ → List (Entry L) → Bool
  has_txid txid pending = list_any (is_of_txid txid) pending

  -- the attempt of a root, where it is pending
  abbrev pub entry_of : Root → List (Entry L) → Option (Entry L)
  entry_of root pending = find (is_of_root root) pending

  -- the same, where it is timed
  abbrev pub timed_of : Root → List (Entry L) → Option (Entry L)
  timed_of root pending = find (is_timed_of root) pending

  -- the settled attempt of the transaction after this one
  abbrev pub settled_after : ℕ → List (Entry L) → Option (Entry L)
  settled_after before pending = find (is_settled_after before) pending

  -- no attempt of the root's transaction is pending, and it is the next one
  abbrev pub IsNext : Root → InFlight L → Type 0
  IsNext root p =
      (has_txid root.txid p.pending ≡ false)
      × (root.attempt ≡ (tried root.txid p.tries).begun + 1)

  -- no root is pending twice
  abbrev pub AreDistinct : List (Entry L) → Type 0
  AreDistinct [] = Unit {0}
  AreDistinct (e ∷ es) = (is_pending e.root es ≡ false) × AreDistinct es

  -- no more are pending than may be, and no root twice
  pub record AreFew (cap : ℕ) (pending : List (Entry L)) : Type 0 where
    pub most : length pending ≤ cap
    pub once : AreDistinct pending

  -- of each transaction no more are pending than were begun and did not abort
  abbrev pub AreCounted : Tries → List (Entry L) → Type 0
  AreCounted tries pending = (txid : ℕ)
      → (tried txid tries).aborted + count_by (is_of_txid txid) pending ≤ (tried txid tries).begun

  -- the pending attempts are few, and counted
  pub record AreKept (cap : ℕ) (tries : Tries) (pending : List (Entry L)) : Type 0 where
    pub few : AreFew cap pending
    pub counts : AreCounted tries pending

  -- ---- what is done

  -- a root begins: it is pending after all others, and timed, and it is the attempt of its number
  abbrev pub begun : Root → List Span → InFlight L → InFlight L
  begun root spans p = record p {
    pending = p.pending ++ fresh root spans p.tick ∷ [];
    tries = with_begun root.txid root.attempt p.tries;
  }

  -- the attempt of a root is settled with a list, and no longer timed
  abbrev pub settle_with : Root → L → Entry L → Entry L
  settle_with root list e = if is_of_root root e then record e { settled = Some list } else e

  abbrev pub settled : Root → L → List (Entry L) → List (Entry L)
  settled root list pending = map (settle_with root list) pending

  abbrev pub ended : Root → List (Entry L) → List (Entry L)
  ended root pending = filter (λ (e : Entry L). not (is_of_root root e)) pending

  -- it ends, and is counted as aborted
  abbrev pub aborted : Root → InFlight L → InFlight L
  aborted root p = record p {
    pending = ended root p.pending;
    tries = with_aborted root.txid p.tries;
  }

  -- a timed attempt ends at the tick that is so many after its begin
  abbrev pub is_late : ℕ → ℕ → Entry L → Bool
  is_late buckets tick e = is_timed e && (e.start + buckets == tick)

  -- the attempts that end at one more tick, in the order of their begins
  abbrev pub due : InFlight L → List (Entry L)
  due p = filter (is_late p.buckets (p.tick + 1)) p.pending

  abbrev pub txids_of : List (Entry L) → List ℕ
  txids_of es = map (λ (e : Entry L). e.root.txid) es

  -- the others after one more tick, and those that ended are counted as aborted
  abbrev pub ticked : InFlight L → InFlight L
  ticked p = record p {
    tick = p.tick + 1;
    pending = filter (λ (e : Entry L). not (is_late p.buckets (p.tick + 1) e)) p.pending;
    tries = counted (txids_of (due p)) p.tries;
  }

-- Any calls, one after another, and what the ticks among them tell.
use Rattle.std.specs.Prelude.{ℕ, ◌+◌, ◌||◌, nat_lt, Bool, true, false, if◌then◌else◌, is_some, List, [], ◌∷◌, length}
use Rattle.record_spans.specs.declared.span.Span.{Span}
use Rattle.storm_values.specs.declared.value.Root.{Root}
use Rattle.rotating_ledger.specs.Held.{root_eq}
use Rattle.replay_pending.specs.InFlight.{InFlight, aborted, begun, due, ended, is_pending, settled, ticked, timed_of}
use Rattle.replay_pending.specs.declared.entry.Entry.{Entry}

pub data Call (L : Type 0) : Type 0 where
  Begin : (root : Root) → (spans : List Span) → Call L
  Settle : (root : Root) → (list : L) → Call L
  End : (root : Root) → Call L
  Abort : (root : Root) → Call L
  Tick : Call L

module _ {L : Type 0} where
  -- a root begins where there is room
  abbrev pub began : Bool → Root → List Span → InFlight L → InFlight L
  began true root spans p = begun root spans p
  began false root spans p = p

  -- a root is settled where it is timed
  abbrev pub settles : Bool → Root → L → InFlight L → InFlight L
  settles true root list p = record p { pending = settled root list p.pending }
  settles false root list p = p

  -- a root aborts where it is pending
  abbrev pub aborts : Bool → Root → InFlight L → InFlight L
  aborts true root p = aborted root p
  aborts false root p = p

  -- the attempts in flight after a call
  abbrev pub after : Call L → InFlight L → InFlight L
  after (Begin root spans) p = began (nat_lt (length p.pending) p.cap) root spans p
  after (Settle root list) p = settles (is_some (timed_of root p.pending)) root list p
  after (End root) p = record p { pending = ended root p.pending }
  after (Abort root) p = aborts (is_pending root p.pending) root p
  after Tick p = ticked p

  -- the attempts that a call tells
  abbrev pub told_by : Call L → InFlight L → List (Entry L)
  told_by (Begin root spans) p = []
  told_by (Settle root list) p = []
  told_by (End root) p = []
  told_by (Abort root) p = []
  told_by Tick p = due p

  abbrev pub tells : Root → Call L → InFlight L → Bool
  tells root call p = is_pending root (told_by call p)

  abbrev pub after_all : List (Call L) → InFlight L → InFlight L
  after_all [] p = p
  after_all (c ∷ cs) p = after_all cs (after c p)

  -- whether one of the calls tells a root
  abbrev pub one_tells : Root → List (Call L) → InFlight L → Bool
  one_tells root [] p = false
  one_tells root (c ∷ cs) p = tells root c p || one_tells root cs (after c p)

  -- the root of a call is this one
  abbrev pub is_of : Root → Call L → Bool
  is_of root (Begin other spans) = root_eq root other
  is_of root (Settle other list) = root_eq root other
  is_of root (End other) = root_eq root other
  is_of root (Abort other) = root_eq root other
  is_of root Tick = false

  abbrev pub begins : Root → Call L → Bool
  begins root (Begin other spans) = root_eq root other
  begins root (Settle other list) = false
  begins root (End other) = false
  begins root (Abort other) = false
  begins root Tick = false

  -- how many ticks are among the calls
  abbrev pub is_tick : Call L → Bool
  is_tick (Begin root spans) = false
  is_tick (Settle root list) = false
  is_tick (End root) = false
  is_tick (Abort root) = false
  is_tick Tick = true

  abbrev pub ticks_in : List (Call L) → ℕ
  ticks_in [] = 0
  ticks_in (c ∷ cs) = (if is_tick c then 1 else 0) + ticks_in cs

-- One stretch of several workers over boxes whose books are whole before and after it.
-- This project's own.
use Rattle.std.specs.Prelude.{◌≡◌, ℕ, zero, suc, ◌+◌, List, [], ◌∷◌, map}
use Rattle.tree_model.specs.bolt_ops.RowOp.{Custom}
use Rattle.tree_model.specs.counted_items.Weights.{weigh}
use Rattle.tree_model.specs.storm_values.declared.value.Root.{Root}
use Rattle.tree_model.specs.topology_plan.Topology.{Topology}
use Rattle.tree_model.specs.declared.messages.AckMsg.{AckMsg}
use Rattle.tuple_account.specs.Histories.{Packet, History, nothing, joined, issued, taken, met_in, told_in, dropped_in, drawn_in}
use Rattle.tuple_account.specs.Moves.{Station, empty, beside, IsWell}

-- g 0 to g (n - 1), added up
abbrev pub sum_below : (ℕ → ℕ) → ℕ → ℕ
sum_below g zero = 0
sum_below g (suc n) = sum_below g n + g n

-- what the one whole pass of a box knows of it, as weights of packets
pub record Books : Type 0 where
  pub sent : (Packet → ℕ) → ℕ
  pub taken : (Packet → ℕ) → ℕ
  pub held : (Packet → ℕ) → ℕ

-- what was sent was taken or is held
abbrev pub Tells : Books → Type 0
Tells b = (f : Packet → ℕ) → b.sent f ≡ b.taken f + b.held f

-- What a worker did in a stretch: its outboxes (as what waits), entries and words before and after,
-- and what it sent to each box and took from it.
pub record Share : Type 0 where
  pub old : Station
  pub new : Station
  pub sent : ℕ → (Packet → ℕ) → ℕ
  pub taken : ℕ → (Packet → ℕ) → ℕ
  pub history : History

-- what a worker says of its share, over n boxes
pub record DoesShare (t : Topology) (custom : Custom) (n : ℕ) (x : Share) : Type 0 where
  pub packets : (f : Packet → ℕ)
      → x.old.waiting f + issued t custom f x.history
      ≡ x.new.waiting f + sum_below (λ i. x.sent i f) n
  pub takes : (f : Packet → ℕ) → sum_below (λ i. x.taken i f) n ≡ taken f x.history
  pub notes : (g : Root → AckMsg → ℕ)
      → x.old.kept g + met_in g x.history
      ≡ x.new.kept g + (told_in g x.history + dropped_in g x.history)
  pub draws : (s j : ℕ) → x.old.given s j + drawn_in s j x.history ≡ x.new.given s j
  pub well : IsWell t custom x.history

-- a box's books after the joins
pub record Grows (shares : List Share) (i : ℕ) (old new : Books) : Type 0 where
  pub sent : (f : Packet → ℕ)
      → new.sent f ≡ old.sent f + weigh (λ (x : Share). x.sent i f) shares
  pub taken : (f : Packet → ℕ)
      → new.taken f ≡ old.taken f + weigh (λ (x : Share). x.taken i f) shares

-- ---- all of them

abbrev pub all_of : List History → History
all_of [] = nothing
all_of (h ∷ hs) = joined h (all_of hs)

abbrev pub together : List Station → Station
together [] = empty
together (a ∷ rest) = beside a (together rest)

-- what n boxes hold
abbrev pub in_boxes : (ℕ → Books) → ℕ → Station
in_boxes books n =
    record { waiting = λ f. sum_below (λ i. (books i).held f) n; kept = λ g. 0; given = λ s j. 0 }

abbrev pub olds : List Share → List Station
olds shares = map (λ (x : Share). x.old) shares

abbrev pub news : List Share → List Station
news shares = map (λ (x : Share). x.new) shares

abbrev pub histories : List Share → List History
histories shares = map (λ (x : Share). x.history) shares

-- The books of n boxes and all outboxes, tied to what happened: what was issued was sent or waits
-- in an outbox, and what was taken was executed, met or heard.
pub record Gathered (t : Topology) (custom : Custom) (h : History) (n : ℕ) (books : ℕ → Books)
    (outboxes : (Packet → ℕ) → ℕ) : Type 0 where
  pub sent : (f : Packet → ℕ)
      → sum_below (λ i. (books i).sent f) n + outboxes f ≡ issued t custom f h
  pub taken : (f : Packet → ℕ) → sum_below (λ i. (books i).taken f) n ≡ taken f h

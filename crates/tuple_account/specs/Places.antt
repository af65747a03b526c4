-- Words of sources by their places. This project's own.
use Rattle.std.specs.Prelude.{◌≡◌, ℕ, ◌+◌, ◌==◌, nat_lt, if◌then◌else◌, List, length, map}
use Rattle.std.specs.List.{range_with_len}
use Rattle.tree_model.specs.tuple_tickets.declared.edge.Edge.{Edge}
use Rattle.tree_model.specs.declared.messages.AckMsg.{AckMsg}
use Rattle.tree_model.specs.declared.messages.AckMsg.TheVariants as msg

-- the weight that is 1 at the places below a number
abbrev pub before : ℕ → ℕ → ℕ
before count j = if nat_lt j count then 1 else 0

-- 1 where word j of source s is one of so many words of a source from a place on
abbrev pub spans : ℕ → ℕ → ℕ → ℕ → ℕ → ℕ
spans source first count s j =
    if s == source then (if nat_lt j first then 0 else before (first + count) j) else 0

-- these are the words of a source from a place on
abbrev pub HasWords : (ℕ → ℕ → ℕ) → ℕ → ℕ → List ℕ → Type 0
HasWords words source at ids = ids ≡ map (words source) (range_with_len at (length ids))

abbrev pub ids_of : List Edge → List ℕ
ids_of edges = map (λ (e : Edge). e.id) edges

-- 1 where word j of source s is one of a message's
abbrev pub covers : ℕ → ℕ → AckMsg → ℕ
covers s j (msg.Init m) = spans m.draw.source m.draw.first (length m.edges) s j
covers s j (msg.Done m) = spans m.draw.source m.draw.first (length m.produced) s j
covers s j (msg.Failed m) = 0

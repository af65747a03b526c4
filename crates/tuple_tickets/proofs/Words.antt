-- When a word of 0 says that the tree is covered.
use Rattle.std.proofs.Common.{◌≡◌, ◌↔◌, Contains, ℕ, zero, suc, ◌%◌, ◌≤◌, List, [], ◌∷◌, sym, refl, ap, ◌∙◌, arith}
use Rattle.storm_values.specs.declared.value.Root.{Root}
use Rattle.counted_items.specs.Weights.{weigh}
use Rattle.counted_items.proofs.Weighing.{item-weighs}
use Rattle.tuple_tickets.specs.declared.edge.Edge.{Edge}
use Rattle.tuple_tickets.specs.Edges.{is_edge, times, xor_ids}
use Rattle.tuple_tickets.specs.Lists.{Message, occurrences, consumes, is_init, word, AreTrueOf, IsOpen, AreOpen, IsClosed, IsSingle, IsSteady, Covers, IsComplete, Coincides, NoneCancel}
use Rattle.tuple_tickets.specs.Trees.{Growth}
use Rattle.tuple_tickets.proofs.Covering.{closed, no_failure}
use Rattle.tuple_tickets.proofs.Odd.{odd}
use Rattle.tuple_tickets.proofs.Toggles.{left_of, times-left_of, none-left, xor-same, edge_itself, edge_among}

-- ---- open edges

pub left_are_open : (list : List Message) → AreOpen list (left_of (occurrences list))
left_are_open list e = times-left_of (occurrences list) e

-- the word is that of the open edges
pub word_of_open : (list : List Message) (edges : List Edge) → AreOpen list edges → word list ≡ xor_ids edges
word_of_open list edges are_open = xor-same (occurrences list) edges (λ e. let o = are_open e in omega arith)

pub closed-none : (list : List Message) (edges : List Edge) → AreOpen list edges → IsClosed list → edges ≡ []
closed-none list edges are_open closed = none-left edges (λ e. are_open e ∙ closed e)

pub none-closed : (list : List Message) (edges : List Edge) → AreOpen list edges → edges ≡ [] → IsClosed list
none-closed list edges are_open none e = sym (are_open e) ∙ ap (times e) none

-- a list is closed exactly where it has no open edges
pub closed_empty : (list : List Message) (edges : List Edge) → AreOpen list edges → IsClosed list ↔ (edges ≡ [])
closed_empty list edges are_open = (closed-none list edges are_open, none-closed list edges are_open)

pub closed_word : (list : List Message) → IsClosed list → word list ≡ 0
closed_word list closed = word_of_open list [] (λ e. sym (closed e))

-- an edge is open where it is among the open edges
pub open_there : (list : List Message) (edges : List Edge) → AreOpen list edges → (e : Edge) → IsOpen list e ↔ Contains edges e
open_there list edges are_open e = (
  (λ is_open. edge_among e edges (let o = are_open e in omega arith)),
  λ there. let w = item-weighs (is_edge e) edges e there in let one : is_edge e e ≡ 1 = rw (edge_itself e) refl in let o = are_open e in omega arith,
)

-- ---- coincidence

-- what does not cancel does not coincide
pub none_coincide : (list : List Message) → NoneCancel list → Coincides list → ⊥
none_coincide list none coincides = none coincides.edges (λ e. let o = coincides.are_open e in omega arith) coincides.are_some coincides.cancel

-- a word of 0 with an init is that of a closed list, where nothing coincides
pub zero_closed : (list : List Message) → (Coincides list → ⊥) → 1 ≤ weigh is_init list → word list ≡ 0 → IsClosed list
zero_closed list none begins zero_word = by_left (left_of (occurrences list)) refl
  where
    by_left : (edges : List Edge) → left_of (occurrences list) ≡ edges → IsClosed list
    by_left [] is = none-closed list (left_of (occurrences list)) (left_are_open list) is
    by_left (e ∷ edges) is = absurd (none (record {
      begins = begins;
      edges = left_of (occurrences list);
      are_open = left_are_open list;
      are_some = λ empty. let bad : e ∷ edges ≡ [] = sym is ∙ empty in cc;
      cancel = sym (word_of_open list (left_of (occurrences list)) (left_are_open list)) ∙ zero_word;
    }))

-- a list that is told as complete and is not closed coincides
pub complete_coincides : (list : List Message) → IsComplete list → (IsClosed list → ⊥) → Coincides list
complete_coincides list complete not_closed = record {
  begins = complete.begins;
  edges = left_of (occurrences list);
  are_open = left_are_open list;
  are_some = λ none. not_closed (none-closed list (left_of (occurrences list)) (left_are_open list) none);
  cancel = sym (word_of_open list (left_of (occurrences list)) (left_are_open list)) ∙ complete.zero_word;
}

-- ---- complete and covered

module _ {N : Type 0} (g : Growth N) (r : Root) (list : List Message) (all_true : AreTrueOf g r list) where
  at_least : (n : ℕ) → n % 2 ≡ 1 → 1 ≤ n
  at_least zero e = absurd (omega arith)
  at_least (suc n) e = omega arith

  pub covered_if_closed : weigh is_init list ≡ 1 → IsClosed list → Covers g r list
  covered_if_closed one_init closed = record {
    begins = omega arith;
    consumed = λ path n there. at_least (weigh (consumes path) list) (odd g r list all_true one_init closed path n there);
  }

  module _ (single : IsSingle list) (steady : IsSteady list) where
    pub complete_if_covered : Covers g r list → IsComplete list
    complete_if_covered covers = record {
      begins = covers.begins;
      none_failed = no_failure g r list all_true covers;
      zero_word = closed_word list (closed g r list all_true single steady covers);
    }

    pub covered_if_complete : (Coincides list → ⊥) → IsComplete list → Covers g r list
    covered_if_complete none complete = covered_if_closed (let a = single.begins in let b = complete.begins in omega arith) (zero_closed list none complete.begins complete.zero_word)

    pub complete_covers : (Coincides list → ⊥) → IsComplete list ↔ Covers g r list
    complete_covers none = (covered_if_complete none, complete_if_covered)

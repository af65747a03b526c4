-- What is kept of the messages of a window's records. This project's own.
use Rattle.std.specs.Prelude.{◌≡◌, ◌↔◌, ℕ, suc, Bool, true, List, [], ◌∷◌}
use Rattle.ledger_words.specs.Notes.{HoldsNotes}
use Rattle.shared_ledger.specs.declared.rule.Book.{Book}
use Rattle.tree_model.specs.bolt_ops.RowOp.{Custom}
use Rattle.tree_model.specs.counted_items.Weights.{weigh}
use Rattle.tree_model.specs.storm_values.declared.value.Root.{Root}
use Rattle.tree_model.specs.storm_values.declared.value.Value.{Value}
use Rattle.tree_model.specs.topology_plan.Topology.{Topology}
use Rattle.tree_model.specs.declared.messages.AckMsg.{AckMsg}
use Rattle.tree_model.specs.Lists.{AreTrueOf, IsSingle, IsClosed, is_failed, word}
use Rattle.tracked_trees.specs.Reached.{reached}
use Rattle.tracked_trees.specs.Tries.{tallied}

-- the root of the record at this place of a window, at an attempt
abbrev pub root_at : ℕ → ℕ → Root
root_at attempt number = record { txid = suc number; attempt = attempt }

-- A record's messages are true of its tree and single, and the book's calls on the root of its
-- number are those of the messages, in order.
pub record IsNoted (t : Topology) (custom : Custom) (attempt : ℕ) (book : Book) (number : ℕ)
    (row : List Value) (list : List AckMsg) : Type 0 where
  pub are_true : AreTrueOf t custom (row ∷ []) (root_at attempt number) list
  pub is_single : IsSingle list
  pub in_book : HoldsNotes number book list

-- how many nodes of a state and key an attempt at the records reaches
abbrev pub count_in_window : Topology → Custom → ℕ → List (List Value) → ℕ → List ℕ → ℕ
count_in_window t custom attempt rows state key =
    weigh (λ (row : List Value). weigh (tallied t state key) (reached t custom attempt row)) rows

-- acked exactly where the messages have the word 0, no failure and no open edge
abbrev pub IsJudged : List AckMsg → Bool → Type 0
IsJudged list acked =
    acked ≡ true ↔ (word list ≡ 0) × (weigh is_failed list ≡ 0) × IsClosed list

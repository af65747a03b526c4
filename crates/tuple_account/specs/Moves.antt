-- What waits, is kept and was given at two moments, and what happened between them. All of it is
-- said by weights, so that parts of the work add up, one after another and side by side.
-- This project's own.
use Rattle.std.specs.Prelude.{◌≡◌, ◌≤◌, ℕ, ◌+◌, List, map}
use Rattle.std.specs.List.{AllByRecursion}
use Rattle.tree_model.specs.bolt_ops.RowOp.{Custom}
use Rattle.tree_model.specs.counted_items.Weights.{weigh}
use Rattle.tree_model.specs.storm_values.declared.value.Root.{Root}
use Rattle.tree_model.specs.storm_values.declared.value.Value.{Value}
use Rattle.tree_model.specs.topology_plan.Topology.{Topology}
use Rattle.tree_model.specs.declared.messages.AckMsg.{AckMsg}
use Rattle.tuple_account.specs.Accounts.{Account}
use Rattle.tuple_account.specs.Histories.{Packet, Opening, Execution, History, IsOpening, IsExecution, IsTold, opens, on_tuple, issued, taken, met_in, told_in, dropped_in, drawn_in}
use Rattle.tuple_account.specs.Places.{HasWords}

-- The weight of what waits in boxes and outboxes; that of the messages in ackers' entries, each
-- with the root of its entry; and 1 at each word that was given, by source and place.
pub record Station : Type 0 where
  pub waiting : (Packet → ℕ) → ℕ
  pub kept : (Root → AckMsg → ℕ) → ℕ
  pub given : ℕ → ℕ → ℕ

abbrev pub empty : Station
empty = record { waiting = λ f. 0; kept = λ g. 0; given = λ s j. 0 }

-- both together
abbrev pub beside : Station → Station → Station
beside a b = record {
  waiting = λ f. a.waiting f + b.waiting f;
  kept = λ g. a.kept g + b.kept g;
  given = λ s j. a.given s j + b.given s j;
}

-- the same, in other boxes or another order
pub record IsAlike (a b : Station) : Type 0 where
  pub waiting : (f : Packet → ℕ) → a.waiting f ≡ b.waiting f
  pub kept : (g : Root → AckMsg → ℕ) → a.kept g ≡ b.kept g
  pub given : (s j : ℕ) → a.given s j ≡ b.given s j

-- each item of a history is well made
pub record IsWell (t : Topology) (custom : Custom) (h : History) : Type 0 where
  pub begun : AllByRecursion (IsOpening t) h.begun
  pub runs : AllByRecursion (IsExecution t custom) h.runs
  pub told : AllByRecursion IsTold h.told

-- What waited and was issued was taken or waits, what was kept and met was told, dropped or is
-- kept, and what was drawn was given: each as often.
pub record Moves (t : Topology) (custom : Custom) (a : Station) (h : History) (b : Station)
    : Type 0 where
  pub packets : (f : Packet → ℕ) → a.waiting f + issued t custom f h ≡ b.waiting f + taken f h
  pub notes : (g : Root → AckMsg → ℕ)
      → a.kept g + met_in g h ≡ b.kept g + (told_in g h + dropped_in g h)
  pub draws : (s j : ℕ) → a.given s j + drawn_in s j h ≡ b.given s j
  pub well : IsWell t custom h

-- all that happened so far led from nothing here, and no root was begun twice
pub record Reached (t : Topology) (custom : Custom) (h : History) (b : Station) : Type 0 where
  pub moves : Moves t custom empty h b
  pub once : (root : Root) → weigh (opens root) h.begun ≤ 1

-- these are the rows that each root was begun with
abbrev pub AreRows : (Root → List (List Value)) → List Opening → Type 0
AreRows rows_of begun =
    AllByRecursion (λ (o : Opening). o.begun.rows ≡ rows_of o.begun.root) begun

-- The ids are these words, at their places. A driver says it where its sources tell their words.
pub record HasDrawn (words : ℕ → ℕ → ℕ) (h : History) : Type 0 where
  pub of_begun : AllByRecursion
      (λ (o : Opening). HasWords words o.begun.source o.begun.at o.begun.ids) h.begun
  pub of_runs : AllByRecursion
      (λ (e : Execution). HasWords words e.run.task e.run.at e.run.ids) h.runs

-- the account of the tuples alone
abbrev pub account_of : History → Station → Account
account_of h b = record {
  begun = map (λ (o : Opening). o.begun) h.begun;
  runs = map (λ (e : Execution). e.run) h.runs;
  waiting = λ f. b.waiting (on_tuple f);
}

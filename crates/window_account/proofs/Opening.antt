-- Where a walk stands when its records were begun.
use Rattle.std.proofs.Common.{◌≡◌, ◌≢◌, ℕ, zero, suc, ◌+◌, ◌-◌, ◌<◌, ◌≤◌, ◌==◌, ◌&&◌, Bool, true, false, cond, List, [], ◌∷◌, ◌++◌, map, fold, length, replicate, slice_get, Some, refl, sym, ap, subst, ◌∙◌, eqb-true, arith}
use Rattle.std.proofs.lemmas.Bool.{ne_eqb}
use Rattle.std.proofs.lemmas.List.{append-nil, map-append}
use Rattle.std.specs.List.{AllByRecursion, flat_map}
use Rattle.std.specs.Option.{option_to_list}
use Rattle.tree_model.proofs.counted_items.Each.{each-append, each-flat_map, each-to_map, each-weaker}
use Rattle.tree_model.proofs.counted_items.Equality.{and-true}
use Rattle.tree_model.proofs.counted_items.Weighing.{weigh-append}
use Rattle.tree_model.proofs.tuple_tickets.Roots.{root_itself}
use Rattle.shared_ledger.specs.declared.rule.Call.{Call}
use Rattle.state_tallies.specs.Tallies.{capped}
use Rattle.tree_model.specs.bolt_ops.RowOp.{Custom}
use Rattle.tree_model.specs.counted_items.Weights.{weigh}
use Rattle.tree_model.specs.storm_values.declared.value.Root.{Root}
use Rattle.tree_model.specs.storm_values.declared.value.Value.{Value}
use Rattle.tree_model.specs.topology_plan.declared.parts.Origin.TheVariants as origin
use Rattle.tree_model.specs.topology_plan.Topology.{Topology}
use Rattle.tree_model.specs.tuple_tickets.Roots.{root_eq}
use Rattle.tree_model.specs.declared.messages.AckMsg.{AckMsg}
use Rattle.tree_model.specs.declared.messages.Tuple.{Tuple}
use Rattle.tree_model.specs.Lists.{root_of}
use Rattle.tree_model.specs.Trees.{Node, kids, kids_by}
use Rattle.tracked_trees.specs.Reached.{reached_from}
use Rattle.tracked_trees.specs.Tries.{tallied}
use Rattle.tracked_trees.proofs.Depths.{by_rows}
use Rattle.tuple_account.specs.Accounts.{is_begun, IsBegun, issued_notes}
use Rattle.tuple_account.specs.Issued.{Begun, first_tuples, init_of, node_of, tuples_from}
use Rattle.window_account.specs.Noted.{root_at, count_in_window}
use Rattle.window_account.specs.Stands.{AreBegun, Opens, Stands, account_of, rows_of}
use Rattle.window_account.specs.Calls.{IsAmong, call_of, noted, number_of}
use Rattle.window_account.proofs.Tuples.{each-from, nodes_back}

module _ (t : Topology) (attempt : ℕ) where
  roots_among : (count i : ℕ) (rows : List (List Value)) (begun : List Begun) → AreBegun t attempt i rows begun → i + length rows ≤ count → AllByRecursion (λ (b : Begun). IsAmong count attempt b.root) begun
  roots_among count i [] [] are fits = tt
  roots_among count i [] (b ∷ begun) are fits = absurd are
  roots_among count i (row ∷ rows) [] are fits = absurd are
  roots_among count i (row ∷ rows) (b ∷ begun) are fits = (
    subst (IsAmong count attempt) (sym are.0) (record { least = omega arith; most = omega (arith, fits); attempt_is = refl }),
    roots_among count (suc i) rows begun are.3 (omega (arith, fits)),
  )

  -- ---- each root once

  none_before : (root : Root) (i : ℕ) (rows : List (List Value)) (begun : List Begun) → AreBegun t attempt i rows begun → root.txid ≤ i → weigh (is_begun root) begun ≡ 0
  none_before root i [] [] are low = refl
  none_before root i [] (b ∷ begun) are low = absurd are
  none_before root i (row ∷ rows) [] are low = absurd are
  none_before root i (row ∷ rows) (b ∷ begun) are low =
      let other : (suc i == root.txid) ≡ false = ne_eqb (suc i) root.txid (λ same. omega (arith, same, low)) in
      let here : is_begun root b ≡ 0 = ap (λ (q : Root). cond (root_eq q root) 1 0) are.0 ∙ rw other refl in
      let later = none_before root (suc i) rows begun are.3 (omega (arith, low)) in omega (arith, here, later)

  begun_once : (root : Root) (i : ℕ) (rows : List (List Value)) (begun : List Begun) → AreBegun t attempt i rows begun → weigh (is_begun root) begun ≤ 1
  begun_once root i [] [] are = omega arith
  begun_once root i [] (b ∷ begun) are = absurd are
  begun_once root i (row ∷ rows) [] are = absurd are
  begun_once root i (row ∷ rows) (b ∷ begun) are = by (root_eq b.root root) refl (begun_once root (suc i) rows begun are.3)
    where
      by : (c : Bool) → root_eq b.root root ≡ c → weigh (is_begun root) begun ≤ 1 → cond c 1 0 + weigh (is_begun root) begun ≤ 1
      by false is later = omega (arith, later)
      by true is later =
          let same = eqb-true b.root.txid root.txid (and-true (b.root.txid == root.txid) (b.root.attempt == root.attempt) is).0 in
          let mine = ap (λ (q : Root). q.txid) are.0 in
          let low : root.txid ≤ suc i = omega (arith, same, mine) in
          let none = none_before root (suc i) rows begun are.3 low in omega (arith, none)

  begun_each : (i : ℕ) (rows : List (List Value)) (begun : List Begun) → AreBegun t attempt i rows begun → (n k : ℕ) → k ≡ i + n → n < length rows → 1 ≤ weigh (is_begun (root_at attempt k)) begun
  begun_each i [] [] are n k is less = absurd (omega (arith, less))
  begun_each i [] (b ∷ begun) are n k is less = absurd are
  begun_each i (row ∷ rows) [] are n k is less = absurd are
  begun_each i (row ∷ rows) (b ∷ begun) are zero k is less =
      let same : b.root ≡ root_at attempt k = are.0 ∙ ap (root_at attempt) (let e : i ≡ k = omega (arith, is) in e) in
      let here : is_begun (root_at attempt k) b ≡ 1 = rw (root_itself b.root (root_at attempt k) same) refl in
      omega (arith, here)
  begun_each i (row ∷ rows) (b ∷ begun) are (suc n) k is less =
      let later = begun_each (suc i) rows begun are.3 n k (omega (arith, is)) (omega (arith, less)) in omega (arith, later)

  -- ---- their rows, and the nodes of their tuples

  begun_rows : (custom : Custom) (all : List (List Value)) (i : ℕ) (rows : List (List Value)) (begun : List Begun) → AreBegun t attempt i rows begun → ((n k : ℕ) → k ≡ i + n → slice_get all k ≡ slice_get rows n) → AllByRecursion (IsBegun t custom (rows_of all)) begun
  begun_rows custom all i [] [] are there = tt
  begun_rows custom all i [] (b ∷ begun) are there = absurd are
  begun_rows custom all i (row ∷ rows) [] are there = absurd are
  begun_rows custom all i (row ∷ rows) (b ∷ begun) are there =
      let at : slice_get all (number_of b.root) ≡ Some row = ap (λ (q : Root). slice_get all (number_of q)) are.0 ∙ there 0 (suc i - 1) (omega arith) in
      let rows_are : b.rows ≡ rows_of all b.root = are.1 ∙ sym (ap option_to_list at) in (
        record { rows = rows_are; ids = are.2 ∙ ap (λ (rs : List (List Value)). length (kids t origin.Spout rs)) (sym are.1) },
        begun_rows custom all (suc i) rows begun are.3 (λ n k is. there (suc n) k (omega (arith, is))),
      )

  begun_nodes : (i : ℕ) (rows : List (List Value)) (begun : List Begun) → AreBegun t attempt i rows begun → map node_of (flat_map (first_tuples t) begun) ≡ kids t origin.Spout rows
  begun_nodes i [] [] are = refl
  begun_nodes i [] (b ∷ begun) are = absurd are
  begun_nodes i (row ∷ rows) [] are = absurd are
  begun_nodes i (row ∷ rows) (b ∷ begun) are =
      let enough : length b.ids ≡ length (kids t origin.Spout b.rows) = are.2 ∙ ap (λ (rs : List (List Value)). length (kids t origin.Spout rs)) (sym are.1) in
      let here : map node_of (first_tuples t b) ≡ kids_by t origin.Spout row =
      nodes_back b.root [] 0 (kids t origin.Spout b.rows) b.ids enough ∙ ap (kids t origin.Spout) are.1 ∙ append-nil (kids_by t origin.Spout row) in
      map-append node_of (first_tuples t b) (flat_map (first_tuples t) begun) ∙ (λ j. here j ++ begun_nodes (suc i) rows begun are.3 j)

  -- ---- one more

  pub begun_push : (i : ℕ) (rows : List (List Value)) (begun : List Begun) (row : List Value) (b : Begun) (k : ℕ) → AreBegun t attempt i rows begun → k ≡ i + length rows
      → b.root ≡ root_at attempt k → b.rows ≡ row ∷ [] → length b.ids ≡ length (kids t origin.Spout (row ∷ [])) → AreBegun t attempt i (rows ++ row ∷ []) (begun ++ b ∷ [])
  begun_push i [] [] row b k are is root rows_are enough = (root ∙ ap (root_at attempt) (let e : k ≡ i = omega (arith, is) in e), rows_are, enough, tt)
  begun_push i [] (x ∷ begun) row b k are is root rows_are enough = absurd are
  begun_push i (x ∷ rows) [] row b k are is root rows_are enough = absurd are
  begun_push i (x ∷ rows) (y ∷ begun) row b k are is root rows_are enough =
      (are.0, are.1, are.2, begun_push (suc i) rows begun row b k are.3 (omega (arith, is)) root rows_are enough)

  -- ---- all are begun

  module _ (custom : Custom) (rows : List (List Value)) (waiting : List Tuple) (lists : List (List AckMsg)) (calls : List Call) (counts : ℕ → List ℕ → ℕ)
      (opens : Opens t attempt (length rows) rows waiting lists calls) (none : (state : ℕ) (key : List ℕ) → counts state key ≡ 0) where
    among_all : AllByRecursion (λ (b : Begun). IsAmong (length rows) attempt b.root) opens.begun
    among_all = roots_among (length rows) 0 rows opens.begun opens.are_begun (omega arith)

    notes_all : issued_notes t custom (account_of opens.begun [] waiting) ≡ map (init_of t) opens.begun
    notes_all = append-nil (map (init_of t) opens.begun)

    pub opened : Stands t custom attempt 1 (length t.components) rows waiting lists calls counts
    opened = record {
      begun = opens.begun;
      runs = [];
      account = record {
        balanced = λ f.
            let all = weigh-append f (flat_map (first_tuples t) opens.begun) [] in
            let waits = ap (weigh f) opens.waits in omega (arith, all, waits);
        distinct = λ root. begun_once root 0 rows opens.begun opens.are_begun;
        begun_well = begun_rows custom rows 0 rows opens.begun opens.are_begun (λ n k is. ap (slice_get rows) (let e : k ≡ n = omega (arith, is) in e));
        runs_well = tt;
      };
      all_begun = λ i less. begun_each 0 rows opens.begun opens.are_begun i i (omega arith) less;
      at_depth = subst (AllByRecursion (λ (tuple : Tuple). length tuple.edge.path ≡ 1)) (sym opens.waits)
          (each-flat_map (λ (tuple : Tuple). length tuple.edge.path ≡ 1) (first_tuples t) opens.begun
          (each-weaker (λ (b : Begun). IsAmong (length rows) attempt b.root) (λ (b : Begun). AllByRecursion (λ (tuple : Tuple). length tuple.edge.path ≡ 1) (first_tuples t b))
          (λ b among. each-from (λ (tuple : Tuple). length tuple.edge.path ≡ 1) b.root [] (λ tuple root long. omega (arith, long)) 0 (kids t origin.Spout b.rows) b.ids) opens.begun among_all));
      among = subst (AllByRecursion (λ (tuple : Tuple). IsAmong (length rows) attempt tuple.root)) (sym opens.waits)
          (each-flat_map (λ (tuple : Tuple). IsAmong (length rows) attempt tuple.root) (first_tuples t) opens.begun
          (each-weaker (λ (b : Begun). IsAmong (length rows) attempt b.root) (λ (b : Begun). AllByRecursion (λ (tuple : Tuple). IsAmong (length rows) attempt tuple.root) (first_tuples t b))
          (λ b among. each-from (λ (tuple : Tuple). IsAmong (length rows) attempt tuple.root) b.root [] (λ tuple root long. subst (IsAmong (length rows) attempt) (sym root) among) 0 (kids t origin.Spout b.rows) b.ids) opens.begun among_all));
      fit = opens.fit;
      told_among = subst (AllByRecursion (λ (m : AckMsg). IsAmong (length rows) attempt (root_of m))) (sym notes_all)
          (each-to_map (λ (m : AckMsg). IsAmong (length rows) attempt (root_of m)) (init_of t) opens.begun among_all);
      notes = opens.notes ∙ ap (fold noted (replicate (length rows) [])) (sym notes_all);
      called = opens.called ∙ ap (map call_of) (sym notes_all);
      counted = λ state key. (
        0,
        ap capped (none state key),
        (let nodes = ap (λ ns. weigh (tallied t state key) (flat_map (reached_from (length t.components) t custom attempt) ns)) (ap (map node_of) opens.waits ∙ begun_nodes 0 rows opens.begun opens.are_begun) in
            let total = by_rows t custom attempt (tallied t state key) rows in omega (arith, nodes, total)),
      );
    }

-- Where a walk stands one depth further down.
use Rattle.std.proofs.Common.{◌≡◌, ℕ, zero, suc, ◌+◌, List, [], ◌∷◌, ◌++◌, map, fold, length, replicate, refl, sym, ap, subst, ◌∙◌, append_assoc, arith}
use Rattle.std.proofs.lemmas.List.{map-append}
use Rattle.std.proofs.lemmas.List.Concat.{flat_map-append}
use Rattle.std.proofs.lemmas.List.Sums.{fold-append}
use Rattle.std.specs.List.{AllByRecursion, flat_map}
use Rattle.tree_model.proofs.counted_items.Each.{each-append, each-flat_map, each-map, each-both, each-weaker}
use Rattle.tree_model.proofs.counted_items.Weighing.{weigh-append, weigh-map}
use Rattle.shared_ledger.specs.declared.rule.Call.{Call}
use Rattle.state_tallies.specs.Tallies.{capped}
use Rattle.tree_model.specs.bolt_ops.RowOp.{Custom}
use Rattle.tree_model.specs.counted_items.Weights.{weigh}
use Rattle.tree_model.specs.storm_values.declared.value.Value.{Value}
use Rattle.tree_model.specs.topology_plan.Topology.{Topology}
use Rattle.tree_model.specs.declared.messages.AckMsg.{AckMsg}
use Rattle.tree_model.specs.declared.messages.Tuple.{Tuple}
use Rattle.tree_model.specs.Lists.{root_of}
use Rattle.tree_model.specs.Trees.{Node}
use Rattle.tracked_trees.specs.Reached.{kids_at, reached_from}
use Rattle.tracked_trees.specs.Tries.{tallied}
use Rattle.tracked_trees.proofs.Depths.{depths}
use Rattle.tuple_account.specs.Accounts.{IsRun, issued, issued_notes}
use Rattle.tuple_account.specs.Issued.{Run, children_of, first_tuples, init_of, node_of, notes_of}
use Rattle.window_account.specs.Calls.{IsFit}
use Rattle.window_account.specs.Noted.{count_in_window}
use Rattle.window_account.specs.Stands.{Stands, account_of}
use Rattle.window_account.specs.Calls.{IsAmong, call_of, noted, tallied_in}
use Rattle.window_account.proofs.Tuples.{each-child, each-note, all_kids_back}

module _ (t : Topology) (custom : Custom) (attempt depth levels : ℕ) (rows : List (List Value)) (old : List Tuple) (lists : List (List AckMsg)) (calls : List Call) (counts : ℕ → List ℕ → ℕ)
    (now : Stands t custom attempt depth (levels + 1) rows old lists calls counts) (us : List Run) (of_tuples : map (λ (u : Run). u.tuple) us ≡ old) (well : AllByRecursion (IsRun t custom) us)
    (new : List Tuple) (made : new ≡ flat_map (children_of t custom) us) where
  told : List AckMsg
  told = flat_map (notes_of t custom) us

  notes_more : issued_notes t custom (account_of now.begun (now.runs ++ us) new) ≡ issued_notes t custom (account_of now.begun now.runs old) ++ flat_map (notes_of t custom) us
  notes_more =
      ap (λ (ms : List AckMsg). map (init_of t) now.begun ++ ms) (flat_map-append (notes_of t custom) now.runs us)
      ∙ sym (append_assoc (map (init_of t) now.begun) (flat_map (notes_of t custom) now.runs) (flat_map (notes_of t custom) us))

  runs_among : AllByRecursion (λ (u : Run). IsAmong (length rows) attempt u.tuple.root) us
  runs_among = each-map (λ (tuple : Tuple). IsAmong (length rows) attempt tuple.root) (λ (u : Run). u.tuple) us (subst (AllByRecursion (λ (tuple : Tuple). IsAmong (length rows) attempt tuple.root)) (sym of_tuples) now.among)

  runs_deep : AllByRecursion (λ (u : Run). length u.tuple.edge.path ≡ depth) us
  runs_deep = each-map (λ (tuple : Tuple). length tuple.edge.path ≡ depth) (λ (u : Run). u.tuple) us (subst (AllByRecursion (λ (tuple : Tuple). length tuple.edge.path ≡ depth)) (sym of_tuples) now.at_depth)

  nodes_next : map node_of new ≡ flat_map (kids_at t custom attempt) (map node_of old)
  nodes_next =
      ap (map node_of) made
      ∙ all_kids_back t custom attempt us (each-weaker (λ (u : Run). IsAmong (length rows) attempt u.tuple.root) (λ (u : Run). u.tuple.root.attempt ≡ attempt) (λ u among. among.attempt_is) us runs_among) well
      ∙ ap (λ (tuples : List Tuple). flat_map (kids_at t custom attempt) (map node_of tuples)) of_tuples

  module _ (fit : AllByRecursion (IsFit t) new) (lists_new : List (List AckMsg)) (noted_more : lists_new ≡ fold noted lists (flat_map (notes_of t custom) us))
      (calls_new : List Call) (called_more : calls_new ≡ calls ++ map call_of (flat_map (notes_of t custom) us))
      (counts_new : ℕ → List ℕ → ℕ) (counted_more : (state : ℕ) (key : List ℕ) → capped (counts_new state key) ≡ capped (counts state key + tallied_in t state key old)) where
    pub stepped : Stands t custom attempt (depth + 1) levels rows new lists_new calls_new counts_new
    stepped = record {
      begun = now.begun;
      runs = now.runs ++ us;
      account = record {
        balanced = λ f.
            let before = now.account.balanced f in
            let runs = weigh-append (λ (u : Run). f u.tuple) now.runs us in
            let these = weigh-map f (λ (u : Run). u.tuple) us in
            let are = ap (weigh f) of_tuples in
            let next = ap (weigh f) made in
            let firsts = flat_map (first_tuples t) now.begun in
            let was = weigh-append f firsts (flat_map (children_of t custom) now.runs) in
            let is = weigh-append f firsts (flat_map (children_of t custom) (now.runs ++ us)) in
            let cut = ap (weigh f) (flat_map-append (children_of t custom) now.runs us) in
            let parts = weigh-append f (flat_map (children_of t custom) now.runs) (flat_map (children_of t custom) us) in
            omega (arith, before, runs, these, are, next, was, is, cut, parts);
        distinct = now.account.distinct;
        begun_well = now.account.begun_well;
        runs_well = each-append (IsRun t custom) now.runs us now.account.runs_well well;
      };
      all_begun = now.all_begun;
      at_depth = subst (AllByRecursion (λ (tuple : Tuple). length tuple.edge.path ≡ depth + 1)) (sym made)
          (each-flat_map (λ (tuple : Tuple). length tuple.edge.path ≡ depth + 1) (children_of t custom) us
          (each-weaker (λ (u : Run). length u.tuple.edge.path ≡ depth) (λ (u : Run). AllByRecursion (λ (tuple : Tuple). length tuple.edge.path ≡ depth + 1) (children_of t custom u))
          (λ u deep. each-child t custom (λ (tuple : Tuple). length tuple.edge.path ≡ depth + 1) u (λ tuple root long. omega (arith, long, deep))) us runs_deep));
      among = subst (AllByRecursion (λ (tuple : Tuple). IsAmong (length rows) attempt tuple.root)) (sym made)
          (each-flat_map (λ (tuple : Tuple). IsAmong (length rows) attempt tuple.root) (children_of t custom) us
          (each-weaker (λ (u : Run). IsAmong (length rows) attempt u.tuple.root) (λ (u : Run). AllByRecursion (λ (tuple : Tuple). IsAmong (length rows) attempt tuple.root) (children_of t custom u))
          (λ u among. each-child t custom (λ (tuple : Tuple). IsAmong (length rows) attempt tuple.root) u (λ tuple root long. subst (IsAmong (length rows) attempt) (sym root) among)) us runs_among));
      fit = fit;
      told_among = subst (AllByRecursion (λ (m : AckMsg). IsAmong (length rows) attempt (root_of m))) (sym notes_more)
          (each-append (λ (m : AckMsg). IsAmong (length rows) attempt (root_of m)) (issued_notes t custom (account_of now.begun now.runs old)) (flat_map (notes_of t custom) us) now.told_among
          (each-flat_map (λ (m : AckMsg). IsAmong (length rows) attempt (root_of m)) (notes_of t custom) us
          (each-weaker (λ (u : Run). IsAmong (length rows) attempt u.tuple.root) (λ (u : Run). AllByRecursion (λ (m : AckMsg). IsAmong (length rows) attempt (root_of m)) (notes_of t custom u))
          (λ u among. each-note t custom (λ (m : AckMsg). IsAmong (length rows) attempt (root_of m)) u (λ m root. subst (IsAmong (length rows) attempt) (sym root) among)) us runs_among)));
      notes = noted_more ∙ ap (λ (ls : List (List AckMsg)). fold noted ls (flat_map (notes_of t custom) us)) now.notes
          ∙ sym (fold-append noted (replicate (length rows) []) (issued_notes t custom (account_of now.begun now.runs old)) (flat_map (notes_of t custom) us))
          ∙ ap (fold noted (replicate (length rows) [])) (sym notes_more);
      called = called_more ∙ ap (λ (cs : List Call). cs ++ map call_of (flat_map (notes_of t custom) us)) now.called
          ∙ sym (map-append call_of (issued_notes t custom (account_of now.begun now.runs old)) (flat_map (notes_of t custom) us)) ∙ ap (map call_of) (sym notes_more);
      counted = λ state key.
          let before = now.counted state key in
          let more = counted_more state key in
          let this = depths t custom attempt (tallied t state key) levels (map node_of old) in
          let same : levels + 1 ≡ suc levels = omega arith in
          let was = ap (λ (n : ℕ). weigh (tallied t state key) (flat_map (reached_from n t custom attempt) (map node_of old))) same in
          let here = weigh-map (tallied t state key) node_of old in
          let next = ap (λ (ns : List Node). weigh (tallied t state key) (flat_map (reached_from levels t custom attempt) ns)) nodes_next in
          let total = before.2 in
          let done = before.1 in
          (before.0 + tallied_in t state key old, omega (arith, more, done), omega (arith, this, was, here, next, total));
    }

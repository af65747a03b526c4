-- At the end of a walk nothing waits, and a record is acked exactly where its attempt is good.
use Rattle.std.proofs.Common.{◌≡◌, ◌≢◌, ◌↔◌, ℕ, zero, suc, ◌+◌, ◌-◌, ◌<◌, ◌≤◌, Bool, true, false, cond, true≢false, List, [], ◌∷◌, ◌++◌, map, filter, ◌==◌, get_or, fold, length, replicate, slice_get, Some, refl, sym, ap, subst, ◌∙◌, arith}
use Rattle.std.proofs.lemmas.List.{length-replicate}
use Rattle.std.proofs.lemmas.Option.{slice_get_within, get_or_from_slice_get, slice_get-get_or}
use Rattle.std.specs.Coded.{Coded, code_by, coded×, coded_ℕ, coded_list}
use Rattle.std.specs.List.{AllByRecursion, flat_map, AllZip}
use Rattle.std.specs.Option.{option_to_list}
use Rattle.tree_model.proofs.counted_items.Each.{each-append, each-both, each-weaker}
use Rattle.tree_model.proofs.counted_items.Equality.{each-within}
use Rattle.tree_model.proofs.counted_items.Weighing.{weigh-append, weigh-map}
use Rattle.tree_model.proofs.tuple_tickets.Codes.{root_code, edge_code}
use Rattle.tree_model.proofs.tuple_tickets.Covering as covering
use Rattle.tree_model.proofs.tuple_tickets.Words.{closed_word, covered_if_closed}
use Rattle.tree_model.proofs.Reading.{growth, all_true_said, inits_said, failures_said}
use Rattle.ledger_words.specs.Notes.{HoldsNotes}
use Rattle.shared_ledger.specs.declared.rule.Book.{Book}
use Rattle.shared_ledger.specs.declared.rule.Call.{Call}
use Rattle.tree_model.specs.bolt_ops.RowOp.{Custom}
use Rattle.tree_model.specs.counted_items.Weights.{weigh, Within}
use Rattle.tree_model.specs.storm_values.declared.value.Root.{Root}
use Rattle.tree_model.specs.storm_values.declared.value.Value.{Value}
use Rattle.tree_model.specs.topology_plan.Topology.{Topology}
use Rattle.tree_model.specs.topology_plan.Valid.{IsValid}
use Rattle.tree_model.specs.tuple_tickets.declared.edge.Edge.{Edge}
use Rattle.tree_model.specs.tuple_tickets.Lists as tickets
use Rattle.tree_model.specs.tuple_tickets.Roots.{root_eq}
use Rattle.tree_model.specs.declared.messages.AckMsg.{AckMsg}
use Rattle.tree_model.specs.declared.messages.Tuple.{Tuple}
use Rattle.tree_model.specs.Lists.{root_of, all_said, word, is_init, is_failed, AreTrueOf, IsSingle, IsSteady, IsClosed, Covers}
use Rattle.tree_model.specs.Trees.{node_at}
use Rattle.tracked_trees.specs.Reached.{is_good}
use Rattle.tracked_trees.proofs.Good.{all_go, good_of}
use Rattle.tracked_trees.proofs.Short.{short}
use Rattle.tuple_account.proofs.Codes.{value_code}
use Rattle.tuple_account.proofs.Sound.{nodes, are_true, are_single, are_steady}
use Rattle.tuple_account.proofs.Tickets.{weigh-notes_about}
use Rattle.tuple_account.specs.Accounts.{is_begun, issued, issued_notes, notes_about, IsNode}
use Rattle.tuple_account.specs.Issued.{Begun, first_tuples, init_of, notes_of}
use Rattle.window_account.specs.Noted.{root_at, IsNoted, IsJudged}
use Rattle.window_account.specs.Stands.{Stands, account_of, rows_of}
use Rattle.window_account.specs.Calls.{IsAmong, call_of, noted, number_of}
use Rattle.window_account.proofs.Keeping.{noted_are, noted_all_length, calls_are}
use Rattle.window_account.proofs.OneRoot.{good_covers}

tuple_code : Coded Tuple
tuple_code =
    code_by (Root × (Edge × (ℕ × List Value))) (coded× root_code (coded× edge_code (coded× coded_ℕ (coded_list value_code))))
    (λ x. (x.root, (x.edge, (x.component, x.row)))) (λ c. record { root = c.0; edge = c.1.0; component = c.1.1.0; row = c.1.1.1 }) (λ x. refl)

never : {X : Type 0} (xs : List X) → AllByRecursion (λ x. ⊥) xs → xs ≡ []
never [] all = refl
never (x ∷ xs) all = absurd all.0

both_ways : (x y : Bool) → (x ≡ true → y ≡ true) → (y ≡ true → x ≡ true) → x ≡ y
both_ways true y there back = sym (there refl)
both_ways false true there back = back refl
both_ways false false there back = refl

module _ (t : Topology) (custom : Custom) (valid : IsValid t) (attempt levels : ℕ) (rows : List (List Value)) (waiting : List Tuple) (lists : List (List AckMsg)) (calls : List Call) (counts : ℕ → List ℕ → ℕ)
    (last : Stands t custom attempt (length t.components + 1) levels rows waiting lists calls counts) where
  -- the paths of what waits would be too long
  pub none_left : waiting ≡ []
  none_left =
      never waiting
      (each-weaker (λ (tuple : Tuple). IsNode t custom (rows_of rows) tuple × (length tuple.edge.path ≡ length t.components + 1)) (λ tuple. ⊥)
      (λ tuple both. let few = short t custom (rows_of rows tuple.root) tuple.edge.path _ valid both.0 in let deep = both.1 in omega (arith, few, deep)) waiting
      (each-both (IsNode t custom (rows_of rows)) (λ (tuple : Tuple). length tuple.edge.path ≡ length t.components + 1) waiting
      (each-within tuple_code (IsNode t custom (rows_of rows)) waiting (issued t custom (account_of last.begun last.runs waiting)) (λ f. let all = last.account.balanced f in omega (arith, all))
      (nodes t custom (rows_of rows) (account_of last.begun last.runs waiting) last.account)) last.at_depth))

  module _ (i : ℕ) (row : List Value) (there : slice_get rows i ≡ Some row) where
    within : i < length rows
    within = slice_get_within rows i row there

    abbrev told : List AckMsg
    told = notes_about (root_at attempt i) (issued_notes t custom (account_of last.begun last.runs waiting))

    own_row : rows_of rows (root_at attempt i) ≡ row ∷ []
    own_row = let place : suc i - 1 ≡ i = omega arith in ap option_to_list (ap (slice_get rows) place ∙ there)

    its_list : (list : List AckMsg) → slice_get lists i ≡ Some list → list ≡ told
    its_list list at =
        sym (get_or_from_slice_get lists i list [] at) ∙ ap (λ (ls : List (List AckMsg)). get_or ls i []) last.notes
        ∙ noted_are (length rows) attempt i within (issued_notes t custom (account_of last.begun last.runs waiting)) last.told_among

    whole : Within told told
    whole f = omega arith

    true_told : AreTrueOf t custom (row ∷ []) (root_at attempt i) told
    true_told = subst (λ (rs : List (List Value)). AreTrueOf t custom rs (root_at attempt i) told) own_row
        (are_true t custom (rows_of rows) (account_of last.begun last.runs waiting) last.account (root_at attempt i) told whole)

    all_true : tickets.AreTrueOf (growth t custom (row ∷ [])) (root_at attempt i) (all_said told)
    all_true = all_true_said t custom (row ∷ []) (root_at attempt i) told true_told

    single_told : IsSingle told
    single_told = are_single t custom (rows_of rows) (account_of last.begun last.runs waiting) last.account (root_at attempt i) told whole

    steady_told : IsSteady told
    steady_told = are_steady t custom (rows_of rows) (account_of last.begun last.runs waiting) last.account (root_at attempt i) told whole

    one_init : weigh tickets.is_init (all_said told) ≡ 1
    one_init =
        let r = root_at attempt i in
        let w = λ (m : AckMsg). cond (root_eq (root_of m) r) (is_init m) 0 in
        let all = weigh-notes_about r is_init (issued_notes t custom (account_of last.begun last.runs waiting)) in
        let cut = weigh-append w (map (init_of t) last.begun) (flat_map (notes_of t custom) last.runs) in
        let inits = weigh-map w (init_of t) last.begun in
        let some : 1 ≤ weigh (λ (b : Begun). w (init_of t b)) last.begun = last.all_begun i within in
        let most = single_told.begins in
        let said = inits_said told in
        omega (arith, all, cut, inits, some, most, said)

    held : (book : Book) → book.calls ≡ calls → HoldsNotes i book told
    held book is =
        ap (λ (cs : List Call). filter (λ (c : Call). c.root == i) cs) (is ∙ last.called) ∙ calls_are (length rows) attempt i (issued_notes t custom (account_of last.begun last.runs waiting)) last.told_among

    good_is : (list : List AckMsg) (acked : Bool) → list ≡ told → IsJudged list acked → acked ≡ is_good t custom attempt row
    good_is list acked is judged = both_ways acked (is_good t custom attempt row)
        (λ is_acked. good_of t custom attempt row (λ path node at. covering.consumed_goes (growth t custom (row ∷ [])) (root_at attempt i) path node at (all_said told) all_true ((covers_told (subst IsClosed is (judged.0 is_acked).2)).consumed path node at)))
        (λ good. judged.1 (subst (λ (l : List AckMsg). (word l ≡ 0) × (weigh is_failed l ≡ 0) × IsClosed l) (sym is) (good_told good)))
      where
        covers_told : IsClosed told → Covers t custom (row ∷ []) told
        covers_told closed = covered_if_closed (growth t custom (row ∷ [])) (root_at attempt i) (all_said told) all_true one_init closed

        good_told : is_good t custom attempt row ≡ true → (word told ≡ 0) × (weigh is_failed told ≡ 0) × IsClosed told
        good_told good =
            let covers : Covers t custom (row ∷ []) told = subst (λ (rs : List (List Value)). Covers t custom rs told) own_row
            (good_covers t custom (rows_of rows) (account_of last.begun last.runs waiting) last.account (λ f. ap (weigh f) none_left) (root_at attempt i)
            (λ path node at. all_go t custom attempt row valid good path node (subst (λ (rs : List (List Value)). node_at t custom rs path ≡ Some node) own_row at)) (last.all_begun i within)) in
            let closed = covering.closed (growth t custom (row ∷ [])) (root_at attempt i) (all_said told) all_true single_told steady_told covers in
            let none_failed = covering.no_failure (growth t custom (row ∷ [])) (root_at attempt i) (all_said told) all_true covers in
            (closed_word (all_said told) closed, sym (failures_said told) ∙ none_failed, closed)

    pub is_noted : (book : Book) (list : List AckMsg) → book.calls ≡ calls → slice_get lists i ≡ Some list → IsNoted t custom attempt book i row list
    is_noted book list is at = subst (IsNoted t custom attempt book i row) (sym (its_list list at))
        (record { are_true = true_told; is_single = single_told; in_book = held book is })

    pub acked_covers : (list : List AckMsg) (acked : Bool) → slice_get lists i ≡ Some list → IsJudged list acked → acked ≡ true → Covers t custom (row ∷ []) list
    acked_covers list acked at judged is_acked =
        let is = its_list list at in
        subst (Covers t custom (row ∷ [])) (sym is) (covered_if_closed (growth t custom (row ∷ [])) (root_at attempt i) (all_said told) all_true one_init (subst IsClosed is (judged.0 is_acked).2))

    pub acked_good : (list : List AckMsg) (acked : Bool) → slice_get lists i ≡ Some list → IsJudged list acked → acked ≡ is_good t custom attempt row
    acked_good list acked at judged = good_is list acked (its_list list at) judged

  pub as_many : length lists ≡ length rows
  as_many = ap length last.notes ∙ noted_all_length (replicate (length rows) []) (issued_notes t custom (account_of last.begun last.runs waiting)) ∙ length-replicate (length rows) []

  -- the judged lists, row by row
  pub all_acked : (acked : List Bool) → AllZip IsJudged lists acked → acked ≡ map (is_good t custom attempt) rows
  all_acked acked judged = from 0 rows lists acked as_many judged (λ n k is. ap (slice_get rows) (let e : k ≡ n = omega (arith, is) in e)) (λ n k is. ap (slice_get lists) (let e : k ≡ n = omega (arith, is) in e))
    where
      from : (i : ℕ) (rs : List (List Value)) (ls : List (List AckMsg)) (bs : List Bool) → length ls ≡ length rs → AllZip IsJudged ls bs
          → ((n k : ℕ) → k ≡ i + n → slice_get rows k ≡ slice_get rs n) → ((n k : ℕ) → k ≡ i + n → slice_get lists k ≡ slice_get ls n) → bs ≡ map (is_good t custom attempt) rs
      from i [] [] [] long all rows_at lists_at = refl
      from i [] [] (b ∷ bs) long all rows_at lists_at = absurd all
      from i [] (l ∷ ls) bs long all rows_at lists_at = absurd (omega (arith, long))
      from i (r ∷ rs) [] bs long all rows_at lists_at = absurd (omega (arith, long))
      from i (r ∷ rs) (l ∷ ls) [] long all rows_at lists_at = absurd all
      from i (r ∷ rs) (l ∷ ls) (b ∷ bs) long all rows_at lists_at =
          let here = acked_good i r (rows_at 0 i (omega arith)) l b (lists_at 0 i (omega arith)) all.0 in
          let later = from (suc i) rs ls bs (omega (arith, long)) all.1 (λ n k is. rows_at (suc n) k (omega (arith, is))) (λ n k is. lists_at (suc n) k (omega (arith, is))) in
          λ j. here j ∷ later j

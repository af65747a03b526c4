-- What a write, and the values of later writes, do to the pairs of the states.
use Rattle.std.proofs.Common.{◌≡◌, ℕ, zero, suc, ◌+◌, ◌==◌, ◌&&◌, ◌<◌, ◌≤◌, ◌⊎◌, inl, inr, Bool, true, false, cond, arith, slice_get, replicate, ℤ, List, [], ◌∷◌, ◌++◌, map, filter, fold, length, get_or, set, Option, Some, None, IfSome, sym, refl, ap, subst, ◌∙◌, ⊎_elim, length-set}
use Rattle.std.proofs.lemmas.Bool.{and_left, cases_eq, cases_lt, eq-eqb, ne_eqb}
use Rattle.std.proofs.lemmas.List.{append-nil, map-id, length-map, length-replicate, map-set, get_or-map, get_or-set_same, get_or-set_other}
use Rattle.std.proofs.lemmas.List.Elements.{filter_map-append}
use Rattle.std.proofs.lemmas.List.FromFn.{map-range_with_len_more}
use Rattle.std.proofs.lemmas.List.Sums.{fold-append}
use Rattle.std.proofs.lemmas.Option.{none-some, same_Some, slice_get_cases, slice_get_past, option_and_then_some}
use Rattle.std.proofs.lemmas.Slice.Zip.{all_zipped_more}
use Rattle.std.specs.Cmp.Lexicographic.{bytes_decides}
use Rattle.std.specs.List.{AllZip, cons_option, filter_map, range_with_len}
use Rattle.std.specs.Option.{option_and_then}
use Rattle.std.specs.Str.{bytes_eq}
use Rattle.indexmap.specs.IndexMap.{IndexMap}
use Rattle.tree_model.specs.bolt_ops.RowOp.{Custom, IsCustom}
use Rattle.tree_model.specs.topology_plan.declared.parts.Body.{Body}
use Rattle.tree_model.specs.topology_plan.declared.parts.Body.TheVariants.{Bolt, State}
use Rattle.tree_model.specs.topology_plan.declared.parts.Component.{Component}
use Rattle.tree_model.specs.topology_plan.declared.parts.Fold.{Fold}
use Rattle.tree_model.specs.topology_plan.Topology.{Topology}
use Rattle.tree_model.specs.declared.write.Pair.{Pair}
use Rattle.tree_model.specs.declared.write.Table.{Table}
use Rattle.tree_model.specs.declared.write.Write.{Write}
use Rattle.tree_model.specs.Inside.{entries_of}
use Rattle.tree_model.specs.Tables.{Folding, StateOf, amounts_of, base, folded, state_by, state_at, value_at, IsTally, IsTableOf, AreRunningTables, AddsTable}
use Rattle.fold_tables.specs.Merging.{IsPut, AreMergedIn, AreFewWrites, joined, merged}
use Rattle.fold_tables.specs.Pieces.{AreMergedStates, MergesAt, fold_by, fold_at, pairs_by}
use Rattle.fold_tables.proofs.Joining.{amounts_of-append, base-append}

-- ---- one more write

abbrev is_for : ℕ → List ℕ → Write → Bool
is_for state key write = (write.state == state) && bytes_eq write.key key

one_more : (by : Folding) (old : Option ℤ) (write : Write) (b : Bool) → fold (λ o amount. Some (by o amount)) old (map (λ (w : Write). w.amount) (cond b (write ∷ []) [])) ≡ cond b (Some (by old write.amount)) old
one_more by old write true = refl
one_more by old write false = refl

-- one more write folds its amount in where it is for the key
base-push : (by : Folding) (before : List Write) (write : Write) (state : ℕ) (key : List ℕ) → base by (before ++ write ∷ []) state key ≡ cond (is_for state key write) (Some (by (base by before state key) write.amount)) (base by before state key)
base-push by before write state key =
    ap (fold (λ old amount. Some (by old amount)) None) (amounts_of-append before (write ∷ []) state key)
    ∙ fold-append (λ old amount. Some (by old amount)) None (amounts_of before state key) (amounts_of (write ∷ []) state key)
    ∙ one_more by (base by before state key) write (is_for state key write)

base-push_own : (by : Folding) (before : List Write) (write : Write) (state : ℕ) (key : List ℕ) → (write.state == state) ≡ true → base by (before ++ write ∷ []) state key ≡ cond (bytes_eq write.key key) (Some (by (base by before state key) write.amount)) (base by before state key)
base-push_own by before write state key own =
    base-push by before write state key
    ∙ ap (λ b. cond (b && bytes_eq write.key key) (Some (by (base by before state key) write.amount)) (base by before state key)) own

base-push_other : (by : Folding) (before : List Write) (write : Write) (state : ℕ) (key : List ℕ) → (write.state == state) ≡ false → base by (before ++ write ∷ []) state key ≡ base by before state key
base-push_other by before write state key other =
    base-push by before write state key
    ∙ ap (λ b. cond b (Some (by (base by before state key) write.amount)) (base by before state key)) (and_left (write.state == state) (bytes_eq write.key key) other)

-- a write for a state, in its pairs
IsTally-put : (by : Folding) (before : List Write) (write : Write) (state : ℕ) (old new : List Pair) → (write.state == state) ≡ true → IsTally by before state old → IsPut (λ o. by o write.amount) old write.key new
    → IsTally by (before ++ write ∷ []) state new
IsTally-put by before write state old new own tally put = λ key.
    put.values key
    ∙ ap (λ value. cond (bytes_eq write.key key) (Some (by value write.amount)) (value_at old key)) (tally write.key)
    ∙ same key (bytes_eq write.key key) refl
    ∙ sym (base-push_own by before write state key own)
  where
    same : (key : List ℕ) (b : Bool) → bytes_eq write.key key ≡ b → cond (bytes_eq write.key key) (Some (by (base by before state write.key) write.amount)) (value_at old key) ≡ cond (bytes_eq write.key key) (Some (by (base by before state key) write.amount)) (base by before state key)
    same key true is = rw is (ap (λ name. Some (by (base by before state name) write.amount)) ((bytes_decides write.key key).0 is))
    same key false is = rw is (tally key)

IfSome_with : {X : Type 0} {P Q : X → Type 0} (o : Option X) → IfSome o P → ((x : X) → o ≡ Some x → P x → Q x) → IfSome o Q
IfSome_with None p step = tt
IfSome_with (Some x) p step = step x refl p

IfSome-at : {X : Type 0} (P : X → Type 0) (o : Option X) (x : X) → o ≡ Some x → IfSome o P → P x
IfSome-at P o x some holds = rw some at holds

module _ (t : Topology) (custom : Custom) (before : List Write) (write : Write) (tables : List (List Pair)) (is : AreRunningTables t custom before tables) where
  state_within : (state : StateOf) → state_at t custom write.state ≡ Some state → write.state < length tables
  state_within state found = rw is.count (⊎_elim (λ there. there.1) (λ past. absurd (none-some state (ap (option_and_then (λ (component : Component). state_by custom write.state component component.body)) (sym past.1) ∙ found))) (slice_get_cases t.components write.state).1)

  others : (number : ℕ) → (write.state ≡ number → ⊥) → (state : StateOf) → IsTally state.by before number (get_or tables number []) → IsTally state.by (before ++ write ∷ []) number (get_or tables number [])
  others number differs state tally = λ key. tally key ∙ sym (base-push_other state.by before write number key (ne_eqb _ _ differs))

  -- what a write for no state leaves
  pub ignored : state_at t custom write.state ≡ None → AreRunningTables t custom (before ++ write ∷ []) tables
  ignored none = record {
    count = is.count;
    tables = λ number. IfSome_with (state_at t custom number) (is.tables number) (λ state found tally. others number (λ same. none-some state (sym none ∙ ap (state_at t custom) same ∙ found)) state tally);
  }

  -- what a write for a state leaves
  module _ (state : StateOf) (found : state_at t custom write.state ≡ Some state) (pairs : List Pair) (put : IsPut (λ o. state.by o write.amount) (get_or tables write.state []) write.key pairs) where
    own : IsTally state.by (before ++ write ∷ []) write.state (get_or (set tables write.state pairs) write.state [])
    own =
        rw (get_or-set_same tables write.state pairs [] (state_within state found))
        (IsTally-put state.by before write write.state (get_or tables write.state []) pairs (eq-eqb _ _ refl) (IfSome-at (λ here. IsTally here.by before write.state (get_or tables write.state [])) (state_at t custom write.state) state found (is.tables write.state)) put)

    at : (number : ℕ) (here : StateOf) → state_at t custom number ≡ Some here → IsTally here.by before number (get_or tables number []) → (write.state ≡ number) ⊎ (write.state ≡ number → ⊥) → IsTally here.by (before ++ write ∷ []) number (get_or (set tables write.state pairs) number [])
    at number here found_here tally (inl same) =
        let one : state ≡ here = same_Some _ _ (sym found ∙ ap (state_at t custom) same ∙ found_here) in
        subst (λ n. IsTally here.by (before ++ write ∷ []) n (get_or (set tables write.state pairs) n [])) same
        (subst (λ (s : StateOf). IsTally s.by (before ++ write ∷ []) write.state (get_or (set tables write.state pairs) write.state [])) one own)
    at number here found_here tally (inr differs) =
        rw (get_or-set_other tables write.state number pairs [] (λ e. differs (sym e))) (others number differs here tally)

    pub written : AreRunningTables t custom (before ++ write ∷ []) (set tables write.state pairs)
    written = record {
      count = length-set tables write.state pairs ∙ is.count;
      tables = λ number. IfSome_with (state_at t custom number) (is.tables number) (λ here found_here tally. at number here found_here tally (cases_eq write.state number));
    }

-- the state of a number, by its component
state_found : (t : Topology) (custom : Custom) (number : ℕ) (component : Component) (body : Body) → slice_get t.components number ≡ Some component → component.body ≡ body → state_at t custom number ≡ state_by custom number component body
state_found t custom number component body there is =
    ap (option_and_then (λ (c : Component). state_by custom number c c.body)) there ∙ ap (state_by custom number component) is

module _ (t : Topology) (custom : Custom) (write : Write) (before : List Write) (tables : List (List Pair)) where
  -- a write for a number that is no component's
  pub past_all : slice_get t.components write.state ≡ None → AreRunningTables t custom before tables → AreRunningTables t custom (before ++ write ∷ []) tables
  past_all none is = ignored t custom before write tables is (ap (option_and_then (λ (c : Component). state_by custom write.state c c.body)) none)

  -- a write for a bolt
  pub for_bolt : (component : Component) (op : _) → slice_get t.components write.state ≡ Some component → component.body ≡ Bolt op → AreRunningTables t custom before tables → AreRunningTables t custom (before ++ write ∷ []) tables
  for_bolt component op there bolt is = ignored t custom before write tables is (state_found t custom write.state component (Bolt op) there bolt)

  -- a write for a state
  pub for_state : (component : Component) (spec : _) (pairs : List Pair) → slice_get t.components write.state ≡ Some component → component.body ≡ State spec → IsPut (λ o. folded custom spec.fold o write.amount) (get_or tables write.state []) write.key pairs
      → AreRunningTables t custom before tables → AreRunningTables t custom (before ++ write ∷ []) (set tables write.state pairs)
  for_state component spec pairs there state put is =
      written t custom before write tables is (record { number = write.state; name = component.name; by = folded custom spec.fold }) (state_found t custom write.state component (State spec) there state) pairs put

-- ---- later writes

module _ (custom : Custom) (earlier later : List Write) (is : IsCustom custom) (few : AreFewWrites (earlier ++ later)) (number : ℕ) (before after pairs : List Pair) where
  at_body : (component : Component) (body : Body) → IfSome (fold_by body) (λ by. AreMergedIn (joined custom by) before after pairs)
      → IfSome (state_by custom number component body) (λ state. IsTally state.by earlier number before) → IfSome (state_by custom number component body) (λ state. IsTally state.by later number after)
      → IfSome (state_by custom number component body) (λ state. IsTally state.by (earlier ++ later) number pairs)
  at_body component (Bolt op) merge first second = tt
  at_body component (State spec) merge first second = λ key.
      merge.values key
      ∙ ap (λ o. merged (joined custom spec.fold) o (value_at after key)) (first key)
      ∙ ap (merged (joined custom spec.fold) (base (folded custom spec.fold) earlier number key)) (second key)
      ∙ sym (base-append custom spec.fold earlier later number key is few)

  at_component : (o : Option Component) → IfSome (option_and_then (λ (c : Component). fold_by c.body) o) (λ by. AreMergedIn (joined custom by) before after pairs)
      → IfSome (option_and_then (λ (c : Component). state_by custom number c c.body) o) (λ state. IsTally state.by earlier number before) → IfSome (option_and_then (λ (c : Component). state_by custom number c c.body) o) (λ state. IsTally state.by later number after)
      → IfSome (option_and_then (λ (c : Component). state_by custom number c c.body) o) (λ state. IsTally state.by (earlier ++ later) number pairs)
  at_component None merge first second = tt
  at_component (Some component) merge first second = at_body component component.body merge first second

-- the merge of the pairs of each state has the values of the joined writes
pub AreRunningTables-merged : (t : Topology) (custom : Custom) (earlier later : List Write) (before after pairs : List (List Pair)) → IsCustom custom → AreFewWrites (earlier ++ later) → AreMergedStates t custom before after pairs
    → AreRunningTables t custom earlier before → AreRunningTables t custom later after → AreRunningTables t custom (earlier ++ later) pairs
AreRunningTables-merged t custom earlier later before after pairs is few merge first second = record {
  count = merge.count ∙ first.count;
  tables = λ number. at_component custom earlier later is few number (get_or before number []) (get_or after number []) (get_or pairs number []) (slice_get t.components number) (merge.states number) (first.tables number) (second.tables number);
}

-- ---- the maps behind the pairs

-- a state whose map changes
pub pairs_by-set : {S : Type 0} (olds : List (IndexMap (List ℕ) ℤ S)) (place : ℕ) (new : IndexMap (List ℕ) ℤ S) → pairs_by (set olds place new) ≡ set (pairs_by olds) place (entries_of new)
pairs_by-set olds place new = map-set entries_of olds place new

pub pairs_at : {S : Type 0} (olds : List (IndexMap (List ℕ) ℤ S)) (place : ℕ) (old : IndexMap (List ℕ) ℤ S) → place < length olds → old ≡ get_or olds place old → get_or (pairs_by olds) place [] ≡ entries_of old
pairs_at olds place old within read = get_or-map entries_of olds place old [] within ∙ ap entries_of (sym read)

pub length-pairs_by : {S : Type 0} (olds : List (IndexMap (List ℕ) ℤ S)) → length (pairs_by olds) ≡ length olds
length-pairs_by olds = length-map olds entries_of

-- one state's maps are merged
pub merges_state : {S : Type 0} (custom : Custom) (by : Fold) (place : ℕ) (olds laters : List (IndexMap (List ℕ) ℤ S)) (old other new empty : IndexMap (List ℕ) ℤ S) → place < length olds → place < length laters → old ≡ get_or olds place old → other ≡ get_or laters place other
    → AreMergedIn (joined custom by) (entries_of old) (entries_of other) (entries_of new)
    → MergesAt custom (Some by) place (pairs_by olds) (pairs_by laters) (pairs_by (set olds place new)) (pairs_by (set laters place empty))
merges_state custom by place olds laters old other new empty here there read read_other merge = record {
  merged =
      rw (pairs_by-set olds place new, pairs_at olds place old here read, pairs_at laters place other there read_other, get_or-set_same (pairs_by olds) place (entries_of new) [] (rw (length-pairs_by olds) here))
      merge;
  others = λ n differs. ap (λ tables. get_or tables n []) (pairs_by-set olds place new) ∙ get_or-set_other (pairs_by olds) place n (entries_of new) [] differs;
  others_later = λ n differs. ap (λ tables. get_or tables n []) (pairs_by-set laters place empty) ∙ get_or-set_other (pairs_by laters) place n (entries_of empty) [] differs;
}

-- the states up to a number are merged, those from it on are as they were
module _ (t : Topology) (custom : Custom) (old later : List (List Pair)) where
  pub record AreMergedUpTo (number : ℕ) (new left : List (List Pair)) : Type 0 where
    pub merged : (n : ℕ) → n < number → IfSome (fold_at t n)
        (λ by. AreMergedIn (joined custom by) (get_or old n []) (get_or later n []) (get_or new n []))
    pub here : (n : ℕ) → number ≤ n → get_or new n [] ≡ get_or old n []
    pub there : (n : ℕ) → number ≤ n → get_or left n [] ≡ get_or later n []

  pub merged_none : AreMergedUpTo 0 old later
  merged_none = record {
    merged = λ n below. absurd (omega arith);
    here = λ n above. refl;
    there = λ n above. refl;
  }

  pub merged_more : (number : ℕ) (component : Component) (new left newer lefter : List (List Pair)) → slice_get t.components number ≡ Some component → AreMergedUpTo number new left → MergesAt custom (fold_by component.body) number new left newer lefter
      → AreMergedUpTo (number + 1) newer lefter
  merged_more number component new left newer lefter found so_far step = record {
    merged = λ n below. at n below (cases_eq n number);
    here = λ n above. step.others n (λ same. absurd (omega (arith, same))) ∙ so_far.here n (omega arith);
    there = λ n above. step.others_later n (λ same. absurd (omega (arith, same))) ∙ so_far.there n (omega arith);
  }
    where
      own : IfSome (fold_by component.body) (λ by. AreMergedIn (joined custom by) (get_or old number []) (get_or later number []) (get_or newer number []))
      own = rw (← so_far.here number (omega arith), ← so_far.there number (omega arith)) step.merged

      at : (n : ℕ) → n < number + 1 → (n ≡ number) ⊎ (n ≡ number → ⊥) → IfSome (fold_at t n) (λ by. AreMergedIn (joined custom by) (get_or old n []) (get_or later n []) (get_or newer n []))
      at n below (inl same) =
          subst (λ k. IfSome (fold_at t k) (λ by. AreMergedIn (joined custom by) (get_or old k []) (get_or later k []) (get_or newer k []))) (sym same)
          (subst (λ (o : Option Component). IfSome (option_and_then (λ (c : Component). fold_by c.body) o) (λ by. AreMergedIn (joined custom by) (get_or old number []) (get_or later number []) (get_or newer number []))) (sym found) own)
      at n below (inr differs) =
          let low : n < number = omega (arith, differs) in
          subst (λ pairs. IfSome (fold_at t n) (λ by. AreMergedIn (joined custom by) (get_or old n []) (get_or later n []) pairs)) (sym (step.others n differs)) (so_far.merged n low)

  -- at the end all are
  pub merged_all : (new left : List (List Pair)) → length new ≡ length old → AreMergedUpTo (length t.components) new left → AreMergedStates t custom old later new
  merged_all new left count all = record {
    count = count;
    states = λ number. at number (cases_lt number (length t.components));
  }
    where
      at : (number : ℕ) → (number < length t.components) ⊎ (length t.components ≤ number) → IfSome (fold_at t number) (λ by. AreMergedIn (joined custom by) (get_or old number []) (get_or later number []) (get_or new number []))
      at number (inl below) = all.merged number below
      at number (inr past) = rw (slice_get_past t.components number past) tt

-- ---- no writes

IfSome-always : {X : Type 0} {P : X → Type 0} (o : Option X) → ((x : X) → P x) → IfSome o P
IfSome-always None each = tt
IfSome-always (Some x) each = each x

get_or-replicate_same : {X : Type 0} (n i : ℕ) (x : X) → get_or (replicate n x) i x ≡ x
get_or-replicate_same zero i x = refl
get_or-replicate_same (suc n) zero x = refl
get_or-replicate_same (suc n) (suc i) x = get_or-replicate_same n i x

pub AreRunningTables-none : (t : Topology) (custom : Custom) → AreRunningTables t custom [] (replicate (length t.components) [])
AreRunningTables-none t custom = record {
  count = length-replicate (length t.components) [];
  tables = λ number. IfSome-always (state_at t custom number) (λ state. rw (get_or-replicate_same {X = List Pair} (length t.components) number []) (λ key. refl));
}

-- ---- the tables at the end

range_with_len_more : (n : ℕ) → range_with_len 0 (n + 1) ≡ range_with_len 0 n ++ n ∷ []
range_with_len_more n = sym (map-id (range_with_len 0 (n + 1))) ∙ map-range_with_len_more (λ (k : ℕ). k) 0 n n (omega arith) ∙ ap (λ ks. ks ++ n ∷ []) (map-id (range_with_len 0 n))

state_by-number : (custom : Custom) (n : ℕ) (component : Component) (body : Body) (state : StateOf) → state_by custom n component body ≡ Some state → state.number ≡ n
state_by-number custom n component (Bolt op) state found = absurd (none-some state found)
state_by-number custom n component (State spec) state found = ap (λ (s : StateOf). s.number) (sym (same_Some _ _ found))

state_at-number : (t : Topology) (custom : Custom) (n : ℕ) (state : StateOf) → state_at t custom n ≡ Some state → state.number ≡ n
state_at-number t custom n state found = option_and_then_some (λ (component : Component). state_by custom n component component.body) (slice_get t.components n) state found (λ component there is. state_by-number custom n component component.body state is)

AllZip-table : (writes : List Write) (o : Option StateOf) (pairs : List Pair) (states : List StateOf) (old new : List Table) → AllZip (IsTableOf writes) states old → IfSome o (λ state. IsTally state.by writes state.number pairs) → AddsTable o pairs old new → AllZip (IsTableOf writes) (states ++ cons_option o []) new
AllZip-table writes None pairs states old new all table adds = rw (append-nil states, adds) all
AllZip-table writes (Some state) pairs states old new all tally adds =
    rw adds.2 (all_zipped_more (IsTableOf writes) states old state (record { name = state.name; pairs = adds.0 }) all (record { name = refl; pairs = record { ordered = adds.1.ordered; values = λ key. adds.1.values key ∙ tally key } }))

-- one more component in a list of tables
pub tables_more : (t : Topology) (custom : Custom) (writes : List Write) (tables : List (List Pair)) (n : ℕ) (component : Component) (pairs : List Pair) (old new : List Table) → slice_get t.components n ≡ Some component → pairs ≡ get_or tables n [] → AreRunningTables t custom writes tables
    → AddsTable (state_by custom n component component.body) pairs old new → AllZip (IsTableOf writes) (filter_map (state_at t custom) (range_with_len 0 n)) old → AllZip (IsTableOf writes) (filter_map (state_at t custom) (range_with_len 0 (n + 1))) new
tables_more t custom writes tables n component pairs old new there same is adds all =
    let at : state_at t custom n ≡ state_by custom n component component.body = ap (option_and_then (λ (c : Component). state_by custom n c c.body)) there in
    let tally : IfSome (state_at t custom n) (λ state. IsTally state.by writes state.number pairs) =
    IfSome_with (state_at t custom n) (is.tables n) (λ state found tally. rw (state_at-number t custom n state found, same) tally) in
    let more : filter_map (state_at t custom) (range_with_len 0 (n + 1)) ≡ filter_map (state_at t custom) (range_with_len 0 n) ++ cons_option (state_at t custom n) [] =
    ap (filter_map (state_at t custom)) (range_with_len_more n) ∙ filter_map-append (state_at t custom) (range_with_len 0 n) (n ∷ []) in
    rw more (AllZip-table writes (state_at t custom n) pairs (filter_map (state_at t custom) (range_with_len 0 n)) old new all tally (rw at adds))

-- What the rows of parts come to together.
use Rattle.std.proofs.Common.{Result, Err, ◌≡◌, ◌+◌, ◌≤◌, ◌<◌, ◌==◌, ◌||◌, ◌⊎◌, inl, inr, ℕ, ℤ, zero, suc, Bool, true, false, cond, List, [], ◌∷◌, ◌++◌, length, map, get_or, set, take, Less, Option, None, Some, BTreeMap, slice_get, refl, sym, ap, subst, ◌∙◌, arith}
use Rattle.std.proofs.lemmas.Bool.{eq-eqb, ne_eqb}
use Rattle.std.proofs.lemmas.List.{append-nil, length-map, length-take-le, map-id, take_all, take_more, get_or-map}
use Rattle.std.proofs.lemmas.List.Elements.{filter_map-append}
use Rattle.std.proofs.lemmas.List.FromFn.{map-range_with_len_more}
use Rattle.std.proofs.lemmas.Map.Text.{is_eq-slice_cmp}
use Rattle.std.proofs.lemmas.Option.{get_or_from_slice_get, slice_get-get_or, slice_get_within}
use Rattle.std.proofs.lemmas.Slice.Zip.{AllZip-long, all_zipped_more}
use Rattle.std.specs.BTreeMap.{IsOrdered, Updates, is_at}
use Rattle.std.specs.Cmp.Lexicographic.{slice_cmp, bytes_decides}
use Rattle.std.specs.List.{AllByRecursion, AllZip, cons_option, filter_map, find, list_any, range_with_len}
use Rattle.std.specs.List.Sorted.{IsStrictlySortedBy}
use Rattle.std.specs.Map.{keys_of, lookup, update}
use Rattle.std.specs.Option.{option_and_then, option_map, option_or}
use Rattle.std.specs.Ordering.{nat_cmp}
use Rattle.std.specs.Str.{bytes_eq}
use Rattle.tree_model.specs.bolt_ops.RowOp.{Custom}
use Rattle.tree_model.specs.storm_values.Counts.{raised}
use Rattle.storm_stores.specs.CellMaps.{CellMap, cell_at}
use Rattle.tree_model.specs.topology_plan.declared.parts.Component.{Component}
use Rattle.tree_model.specs.topology_plan.declared.parts.Kind.{Kind}
use Rattle.tree_model.specs.topology_plan.Topology.{Topology}
use Rattle.tree_model.specs.declared.write.Pair.{Pair}
use Rattle.tree_model.specs.declared.write.Table.{Table}
use Rattle.state_parts.specs.Gathered.{pair_of, pairs_of, value_of}
use Rattle.tree_model.specs.Tables.{StateOf, state_at, state_by, value_at}
use Rattle.state_cells.specs.Rows.{IsBadRow, row_by, rows_of, value_in}
use Rattle.state_parts.specs.declared.parts.StatePart.{StatePart}
use Rattle.state_parts.specs.Commits.{SameCounts}
use Rattle.state_parts.specs.PartPlans.{PartPlan, plan_of, plans_of}
use Rattle.state_parts.specs.PartTables.{AddsTableOver, AreRead, IsBadRowAt, IsRead, IsTableOver, OneRaised, Tell, components_of, put_all, value_among, value_for}

-- ---- rows that are put into a map

bytes_same : (xs ys : List ℕ) → xs ≡ ys → bytes_eq xs ys ≡ true
bytes_same xs ys same = (bytes_decides xs ys).1 same

bytes_other : (xs ys : List ℕ) → (xs ≡ ys → ⊥) → bytes_eq xs ys ≡ false
bytes_other xs ys other = cases (bytes_eq xs ys) refl
  where
    cases : (b : Bool) → bytes_eq xs ys ≡ b → b ≡ false
    cases true is = absurd (other ((bytes_decides xs ys).0 is))
    cases false is = refl

bytes_cases : (xs ys : List ℕ) → (xs ≡ ys) ⊎ (xs ≡ ys → ⊥)
bytes_cases xs ys = cases (bytes_eq xs ys) refl
  where
    cases : (b : Bool) → bytes_eq xs ys ≡ b → (xs ≡ ys) ⊎ (xs ≡ ys → ⊥)
    cases true is = inl ((bytes_decides xs ys).0 is)
    cases false is = inr (λ same. let yes_it_is : bytes_eq xs ys ≡ true = bytes_same xs ys same in cc)

-- values that are the same key by key stay so when pairs are put
pub put_same : (f g : List ℕ → Option ℤ) (pairs : List Pair) (key : List ℕ) → ((k : List ℕ) → f k ≡ g k) → put_all f pairs key ≡ put_all g pairs key
put_same f g [] key same = same key
put_same f g (pair ∷ pairs) key same =
    put_same (update bytes_eq f pair.key (Some pair.value)) (update bytes_eq g pair.key (Some pair.value)) pairs key
    (λ k. ap (cond (bytes_eq pair.key k) (Some pair.value)) (same k))

same_both : {X : Type 0} (b : Bool) (x : X) → cond b x x ≡ x
same_both true x = refl
same_both false x = refl

-- the rows of some keys, where v tells the value of each
rows_put : (v : List ℕ → Option ℤ) (keys : List (List ℕ)) (f : List ℕ → Option ℤ) (key : List ℕ)
    → put_all f (filter_map (λ (k : List ℕ). row_by k (v k)) keys) key ≡ cond (list_any (bytes_eq key) keys) (option_or (v key) (f key)) (f key)
rows_put v [] f key = refl
rows_put v (k ∷ keys) f key = cases (v k) refl (bytes_cases k key) (λ g. rows_put v keys g key)
  where
    cases : (o : Option ℤ) → v k ≡ o → (k ≡ key) ⊎ (k ≡ key → ⊥)
        → ((g : List ℕ → Option ℤ) → put_all g (filter_map (λ (x : List ℕ). row_by x (v x)) keys) key ≡ cond (list_any (bytes_eq key) keys) (option_or (v key) (g key)) (g key))
        → put_all f (cons_option (row_by k o) (filter_map (λ (x : List ℕ). row_by x (v x)) keys)) key ≡ cond (bytes_eq key k || list_any (bytes_eq key) keys) (option_or (v key) (f key)) (f key)
    cases None is (inl same) again =
        let none : v key ≡ None = ap v (sym same) ∙ is in
        let found : bytes_eq key k ≡ true = bytes_same key k (sym same) in
        rw (found, none) (again f ∙ ap (λ (o : Option ℤ). cond (list_any (bytes_eq key) keys) (option_or o (f key)) (f key)) none ∙ same_both (list_any (bytes_eq key) keys) (f key))
    cases None is (inr other) again =
        let apart : bytes_eq key k ≡ false = bytes_other key k (λ e. other (sym e)) in
        rw apart (again f)
    cases (Some n) is (inl same) again =
        let some : v key ≡ Some n = ap v (sym same) ∙ is in
        let found : bytes_eq key k ≡ true = bytes_same key k (sym same) in
        let put : bytes_eq k key ≡ true = bytes_same k key same in
        rw (found, some)
        (again (update bytes_eq f k (Some n))
        ∙ ap (λ (o : Option ℤ). cond (list_any (bytes_eq key) keys) (option_or o (cond (bytes_eq k key) (Some n) (f key))) (cond (bytes_eq k key) (Some n) (f key))) some
        ∙ ap (λ (b : Bool). cond (list_any (bytes_eq key) keys) (Some n) (cond b (Some n) (f key))) put ∙ same_both (list_any (bytes_eq key) keys) (Some n))
    cases (Some n) is (inr other) again =
        let apart : bytes_eq key k ≡ false = bytes_other key k (λ e. other (sym e)) in
        let kept : bytes_eq k key ≡ false = bytes_other k key other in
        rw apart
        (again (update bytes_eq f k (Some n))
        ∙ ap (λ (b : Bool). cond (list_any (bytes_eq key) keys) (option_or (v key) (cond b (Some n) (f key))) (cond b (Some n) (f key))) kept)

no_cell : (key : List ℕ) (cells : CellMap) → list_any (bytes_eq key) (keys_of cells) ≡ false → cell_at cells key ≡ None
no_cell key [] none = refl
no_cell key (entry ∷ cells) none = cases (bytes_eq key entry.0) refl none (no_cell key cells)
  where
    cases : (b : Bool) → bytes_eq key entry.0 ≡ b → (b || list_any (bytes_eq key) (keys_of cells)) ≡ false → (list_any (bytes_eq key) (keys_of cells) ≡ false → cell_at cells key ≡ None) → cond (bytes_eq key entry.0) (Some entry.1) (cell_at cells key) ≡ None
    cases true is none rest = absurd cc
    cases false is none rest = rw is (rest none)

-- the rows of a part, put into a map
pub put_rows : (cells : CellMap) (f : List ℕ → Option ℤ) (key : List ℕ) → put_all f (rows_of cells) key ≡ option_or (value_in (cell_at cells key)) (f key)
put_rows cells f key = rows_put (λ (k : List ℕ). value_in (cell_at cells k)) (keys_of cells) f key ∙ cases (list_any (bytes_eq key) (keys_of cells)) refl
  where
    cases : (b : Bool) → list_any (bytes_eq key) (keys_of cells) ≡ b → cond b (option_or (value_in (cell_at cells key)) (f key)) (f key) ≡ option_or (value_in (cell_at cells key)) (f key)
    cases true is = refl
    cases false is = ap (λ (held : Option (List ℕ)). option_or (value_in held) (f key)) (sym (no_cell key cells is))

-- the values of a part that is one of the state
pub values_added : (number component : ℕ) (cells : CellMap) (pairs : List Pair) (old new : List ℕ → Option ℤ) → component ≡ number → pairs ≡ rows_of cells → ((key : List ℕ) → new key ≡ put_all old pairs key)
    → (key : List ℕ) → new key ≡ option_or (value_for number component cells key) (old key)
values_added number component cells pairs old new own rows puts key =
    let here : (component == number) ≡ true = eq-eqb component number own in
    rw here (puts key ∙ ap (λ (ps : List Pair). put_all old ps key) rows ∙ put_rows cells old key)

pub values_stay : (number component : ℕ) (cells : CellMap) (old : List ℕ → Option ℤ) → (component ≡ number → ⊥) → (key : List ℕ) → old key ≡ option_or (value_for number component cells key) (old key)
values_stay number component cells old other key =
    let apart : (component == number) ≡ false = ne_eqb component number other in
    rw apart refl

-- ---- a map of texts as a table

found : (b : Bool) (entry : List ℕ × ℤ) (rest : Option Pair) → option_map (λ (pair : Pair). pair.value) (cond b (Some (pair_of entry)) rest) ≡ cond b (Some entry.1) (option_map (λ (pair : Pair). pair.value) rest)
found true entry rest = refl
found false entry rest = refl

value_at-entries : (key : List ℕ) (entries : List (List ℕ × ℤ)) → value_at (map pair_of entries) key ≡ lookup (is_at (slice_cmp nat_cmp key)) entries
value_at-entries key [] = refl
value_at-entries key (entry ∷ entries) =
    found (bytes_eq key entry.0) entry (find (λ (pair : Pair). bytes_eq key pair.key) (map pair_of entries))
    ∙ ap (cond (bytes_eq key entry.0) (Some entry.1)) (value_at-entries key entries)
    ∙ ap (λ b. cond b (Some entry.1) (lookup (is_at (slice_cmp nat_cmp key)) entries)) (sym (is_eq-slice_cmp key entry.0))

value_at-pairs : (m : BTreeMap (List ℕ) ℤ) (key : List ℕ) → value_at (pairs_of m) key ≡ value_of m key
value_at-pairs m key = value_at-entries key m.entries

above : (key : List ℕ) (entries : List (List ℕ × ℤ)) → AllByRecursion (λ k. slice_cmp nat_cmp key k ≡ Less) (map (λ (e : List ℕ × ℤ). e.0) entries) → AllByRecursion (λ k. slice_cmp nat_cmp key k ≡ Less) (map (λ (pair : Pair). pair.key) (map pair_of entries))
above key [] all = tt
above key (entry ∷ entries) all = (all.0, above key entries all.1)

entries_ordered : (entries : List (List ℕ × ℤ)) → IsStrictlySortedBy (slice_cmp nat_cmp) (map (λ (e : List ℕ × ℤ). e.0) entries) → IsStrictlySortedBy (slice_cmp nat_cmp) (map (λ (pair : Pair). pair.key) (map pair_of entries))
unfolding IsStrictlySortedBy
entries_ordered [] sorted = tt
entries_ordered (entry ∷ entries) sorted = (above entry.0 entries sorted.0, entries_ordered entries sorted.1)

-- a map without entries
pub value_none : (m : BTreeMap (List ℕ) ℤ) → m.entries ≡ [] → (key : List ℕ) → value_of m key ≡ None
value_none m none key = ap (lookup (is_at (slice_cmp nat_cmp key))) none

-- a map with one more key and its value
pub value_put : (old new : BTreeMap (List ℕ) ℤ) (key : List ℕ) (value : ℤ) → Updates (slice_cmp nat_cmp) old new key (Some value) → (k : List ℕ) → value_of new k ≡ update bytes_eq (value_of old) key (Some value) k
value_put old new key value updates k = updates.0 k ∙ ap (λ b. cond b (Some value) (value_of old k)) (is_eq-slice_cmp key k)

-- a map with the values of the state's parts is the state's table
pub table_of_map : {S : Type 0} (tells : S → CellMap → Type 0) (parts : List (StatePart S)) (state : StateOf) (m : BTreeMap (List ℕ) ℤ) (table : Table) → table.name ≡ state.name → table.pairs ≡ pairs_of m → IsOrdered (slice_cmp nat_cmp) m
    → ((maps : List CellMap) → Tell tells parts maps → (key : List ℕ) → value_of m key ≡ value_among state.number (components_of parts) maps key) → IsTableOver tells parts state table
table_of_map tells parts state m table named same sorted values = record {
  name = named;
  ordered = subst (λ (pairs : List Pair). IsStrictlySortedBy (slice_cmp nat_cmp) (map (λ (pair : Pair). pair.key) pairs)) (sym same) (entries_ordered m.entries sorted);
  values = λ maps told key. ap (λ (pairs : List Pair). value_at pairs key) same ∙ value_at-pairs m key ∙ values maps told key;
}

pub same_fault : {T U E : Type 0} (r : Result T E) (e fault : E) → r ≡ Err e → ◌≡◌ {A = Result U E} (Err e) (Err fault) → r ≡ Err fault
same_fault r e fault is same = let one : e ≡ fault = cc in is ∙ ap Err one

pub told_fault : {T U E : Type 0} (r : Result T E) (e fault : E) → r ≡ Err e → r ≡ Err fault → ◌≡◌ {A = Result U E} (Err e) (Err fault)
told_fault r e fault is same = let one : e ≡ fault = cc in ap Err one

-- ---- lists side by side

module _ {A B : Type 0} (R : A → B → Type 0) where
  pub zip_at : (xs : List A) (ys : List B) (i : ℕ) (d : A) (e : B) → AllZip R xs ys → i < length xs → R (get_or xs i d) (get_or ys i e)
  zip_at [] ys i d e all within = absurd (omega arith)
  zip_at (x ∷ xs) [] i d e all within = absurd all
  zip_at (x ∷ xs) (y ∷ ys) zero d e all within = all.0
  zip_at (x ∷ xs) (y ∷ ys) (suc i) d e all within = zip_at xs ys i d e all.1 (omega arith)

  pub zip_set : (xs : List A) (ys : List B) (i : ℕ) (d : A) (y : B) → AllZip R xs ys → R (get_or xs i d) y → AllZip R xs (set ys i y)
  zip_set [] [] i d y all is = tt
  zip_set [] (z ∷ ys) i d y all is = absurd all
  zip_set (x ∷ xs) [] i d y all is = absurd all
  zip_set (x ∷ xs) (z ∷ ys) zero d y all is = (is, all.1)
  zip_set (x ∷ xs) (z ∷ ys) (suc i) d y all is = (all.0, zip_set xs ys i d y all.1 is)

among_push : (number : ℕ) (components : List ℕ) (maps : List CellMap) (component : ℕ) (cells : CellMap) (key : List ℕ) → length maps ≡ length components
    → value_among number (components ++ component ∷ []) (maps ++ cells ∷ []) key ≡ option_or (value_for number component cells key) (value_among number components maps key)
among_push number [] [] component cells key long = option_or_none (value_for number component cells key)
  where
    option_or_none : (o : Option ℤ) → option_or None o ≡ option_or o None
    option_or_none None = refl
    option_or_none (Some n) = refl
among_push number [] (m ∷ maps) component cells key long = absurd (omega arith)
among_push number (c ∷ components) [] component cells key long = absurd (omega arith)
among_push number (c ∷ components) (m ∷ maps) component cells key long =
    ap (λ (o : Option ℤ). option_or o (value_for number c m key)) (among_push number components maps component cells key (omega arith))
    ∙ assoc (value_for number component cells key)
  where
    assoc : (o : Option ℤ) → option_or (option_or o (value_among number components maps key)) (value_for number c m key) ≡ option_or o (option_or (value_among number components maps key) (value_for number c m key))
    assoc None = refl
    assoc (Some n) = refl

-- the first i parts were read
pub record Reading {S : Type 0} (tells : S → CellMap → Type 0) (count : S → ℕ) (number : ℕ) (old now : List (StatePart S)) (i : ℕ) (values : List ℕ → Option ℤ) : Type 0 where
  pub read : AreRead tells count old now
  pub counts : SameCounts count old now
  pub told : (maps : List CellMap) → Tell tells old maps → (key : List ℕ) → values key ≡ value_among number (take i (components_of old)) (take i maps) key

-- ---- counts of parts that are read

module _ {S : Type 0} (count : S → ℕ) where
  pub counts_same : (parts : List (StatePart S)) → SameCounts count parts parts
  counts_same [] = tt
  counts_same (at ∷ parts) = (refl, counts_same parts)

  pub counts_on : (xs ys zs : List (StatePart S)) → SameCounts count xs ys → SameCounts count ys zs → SameCounts count xs zs
  counts_on [] [] zs first next = next
  counts_on [] (y ∷ ys) zs first next = absurd first
  counts_on (x ∷ xs) [] zs first next = absurd first
  counts_on (x ∷ xs) (y ∷ ys) [] first next = absurd next
  counts_on (x ∷ xs) (y ∷ ys) (z ∷ zs) first next = (next.0 ∙ first.0, counts_on xs ys zs first.1 next.1)

  -- one more part was read, and its store did not fail
  pub counts_set : (old now : List (StatePart S)) (i : ℕ) (was is : StatePart S) → i < length old → was ≡ get_or now i was → SameCounts count old now → count is.over.store ≡ count was.over.store → SameCounts count old (set now i is)
  counts_set [] now i was is within read same quiet = absurd (omega arith)
  counts_set (x ∷ old) [] i was is within read same quiet = absurd same
  counts_set (x ∷ old) (y ∷ now) zero was is within read same quiet = (quiet ∙ ap (λ (at : StatePart S). count at.over.store) read ∙ same.0, same.1)
  counts_set (x ∷ old) (y ∷ now) (suc i) was is within read same quiet = (same.0, counts_set old now i was is (omega arith) read same.1 quiet)

  -- its store failed
  pub raised_set : (old now : List (StatePart S)) (i : ℕ) (was is : StatePart S) → i < length old → was ≡ get_or now i was → SameCounts count old now → count is.over.store ≡ raised (count was.over.store) → OneRaised count old (set now i is)
  raised_set [] now i was is within read same rose = absurd (omega arith)
  raised_set (x ∷ old) [] i was is within read same rose = absurd same
  raised_set (x ∷ old) (y ∷ now) zero was is within read same rose = inl (rose ∙ ap (λ (at : StatePart S). raised (count at.over.store)) read ∙ ap raised same.0, same.1)
  raised_set (x ∷ old) (y ∷ now) (suc i) was is within read same rose = inr (same.0, raised_set old now i was is (omega arith) read same.1 rose)

  -- a store that failed later failed since the beginning
  pub raised_later : (xs ys zs : List (StatePart S)) → SameCounts count xs ys → OneRaised count ys zs → OneRaised count xs zs
  raised_later [] [] zs same one = one
  raised_later [] (y ∷ ys) zs same one = absurd same
  raised_later (x ∷ xs) [] zs same one = absurd same
  raised_later (x ∷ xs) (y ∷ ys) [] same one = absurd one
  raised_later (x ∷ xs) (y ∷ ys) (z ∷ zs) same (inl here) = inl (here.0 ∙ ap raised same.0, counts_on xs ys zs same.1 here.1)
  raised_later (x ∷ xs) (y ∷ ys) (z ∷ zs) same (inr later) = inr (later.0 ∙ same.0, raised_later xs ys zs same.1 later.1)

-- ---- parts that are read

module _ {S : Type 0} (tells : S → CellMap → Type 0) (count : S → ℕ) where
  read_same : (at : StatePart S) → IsRead tells count at at
  read_same at = record { plan = refl; same = λ cells told. told; never_falls = omega arith }

  pub all_read : (parts : List (StatePart S)) → AreRead tells count parts parts
  all_read [] = tt
  all_read (at ∷ parts) = (read_same at, all_read parts)

  read_on : (a b c : StatePart S) → IsRead tells count a b → IsRead tells count b c → IsRead tells count a c
  read_on a b c first next = record {
    plan = next.plan ∙ first.plan;
    same = λ cells told. next.same cells (first.same cells told);
    never_falls = let one = first.never_falls in let two = next.never_falls in omega arith;
  }

  pub all_read_on : (xs ys zs : List (StatePart S)) → AreRead tells count xs ys → AreRead tells count ys zs → AreRead tells count xs zs
  all_read_on [] [] [] first next = tt
  all_read_on [] [] (z ∷ zs) first next = absurd next
  all_read_on [] (y ∷ ys) zs first next = absurd first
  all_read_on (x ∷ xs) [] zs first next = absurd first
  all_read_on (x ∷ xs) (y ∷ ys) [] first next = absurd next
  all_read_on (x ∷ xs) (y ∷ ys) (z ∷ zs) first next = (read_on x y z first.0 next.0, all_read_on xs ys zs first.1 next.1)

  -- one more part was read
  pub read_set : (old now : List (StatePart S)) (i : ℕ) (was is : StatePart S) → i < length old → was ≡ get_or now i was → AreRead tells count old now → IsRead tells count was is → AreRead tells count old (set now i is)
  read_set old now i was is within read all next =
      zip_set (IsRead tells count) old now i was is all
      (read_on (get_or old i was) was is (subst (λ (x : StatePart S). IsRead tells count (get_or old i was) x) (sym read) (zip_at (IsRead tells count) old now i was was all within)) next)

  pub read_long : (old now : List (StatePart S)) → AreRead tells count old now → length now ≡ length old
  read_long old now all = AllZip-long (IsRead tells count) old now all

  pub read_components : (old now : List (StatePart S)) → AreRead tells count old now → components_of now ≡ components_of old
  read_components [] [] all = refl
  read_components [] (y ∷ now) all = absurd all
  read_components (x ∷ old) [] all = absurd all
  read_components (x ∷ old) (y ∷ now) all =
      ap (λ (c : ℕ). c ∷ components_of now) (ap (λ (p : PartPlan). p.component) all.0.plan)
      ∙ ap (λ (cs : List ℕ). x.component ∷ cs) (read_components old now all.1)

  pub read_plans : (old now : List (StatePart S)) → AreRead tells count old now → plans_of now ≡ plans_of old
  read_plans [] [] all = refl
  read_plans [] (y ∷ now) all = absurd all
  read_plans (x ∷ old) [] all = absurd all
  read_plans (x ∷ old) (y ∷ now) all =
      ap (λ (p : PartPlan). p ∷ plans_of now) all.0.plan ∙ ap (λ (ps : List PartPlan). plan_of x ∷ ps) (read_plans old now all.1)

  pub read_tell : (old now : List (StatePart S)) (maps : List CellMap) → AreRead tells count old now → Tell tells old maps → Tell tells now maps
  read_tell [] [] [] all told = tt
  read_tell [] [] (m ∷ maps) all told = absurd told
  read_tell [] (y ∷ now) maps all told = absurd all
  read_tell (x ∷ old) [] maps all told = absurd all
  read_tell (x ∷ old) (y ∷ now) [] all told = absurd told
  read_tell (x ∷ old) (y ∷ now) (m ∷ maps) all told = (all.0.same m told.0, read_tell old now maps all.1 told.1)

  pub bad_at : (old now : List (StatePart S)) (i : ℕ) (was : StatePart S) (key : List ℕ) → i < length old → was ≡ get_or now i was → AreRead tells count old now
      → ((cells : CellMap) → tells was.over.store cells → IsBadRow was.over.kind key (cell_at cells key)) → IsBadRowAt tells old key
  bad_at old now i was key within read all bad =
      let first : IsRead tells count (get_or old i was) was = subst (λ (x : StatePart S). IsRead tells count (get_or old i was) x) (sym read) (zip_at (IsRead tells count) old now i was was all within) in
      record {
        place = i;
        was = get_or old i was;
        was_at = slice_get-get_or old i was within;
        bad = λ cells told. subst (λ (k : Kind). IsBadRow k key (cell_at cells key)) (ap (λ (p : PartPlan). p.kind) first.plan) (bad cells (first.same cells told));
      }

  pub bad_before : (xs ys : List (StatePart S)) (key : List ℕ) → AreRead tells count xs ys → IsBadRowAt tells ys key → IsBadRowAt tells xs key
  bad_before xs ys key all bad =
      let long = read_long xs ys all in
      let there = slice_get_within ys bad.place bad.was bad.was_at in
      let within : bad.place < length xs = omega arith in
      let read : bad.was ≡ get_or ys bad.place bad.was = sym (get_or_from_slice_get ys bad.place bad.was bad.was bad.was_at) in
      bad_at xs ys bad.place bad.was key within read all bad.bad

  -- ---- the values of a state, part by part

  pub reading_more : (number : ℕ) (old now : List (StatePart S)) (i : ℕ) (before after : List ℕ → Option ℤ) (was is : StatePart S) → i < length old → was ≡ get_or now i was
      → ((cells : CellMap) → tells was.over.store cells → (key : List ℕ) → after key ≡ option_or (value_for number was.component cells key) (before key))
      → IsRead tells count was is → count is.over.store ≡ count was.over.store → Reading tells count number old now i before → Reading tells count number old (set now i is) (i + 1) after
  reading_more number old now i before after was is within read added next quiet reading = record {
    read = read_set old now i was is within read reading.read next;
    counts = counts_set count old now i was is within read reading.counts quiet;
    told = λ maps told key.
        let maps_long : length maps ≡ length old = AllZip-long (λ at cells. tells at.over.store cells) old maps told in
        let components_long : length (components_of old) ≡ length old = length-map old (λ (at : StatePart S). at.component) in
        let in_maps : i < length maps = omega arith in
        let in_components : i < length (components_of old) = omega arith in
        let first : IsRead tells count (get_or old i was) was = subst (λ (x : StatePart S). IsRead tells count (get_or old i was) x) (sym read) (zip_at (IsRead tells count) old now i was was reading.read within) in
        let cells_told : tells was.over.store (get_or maps i []) = first.same (get_or maps i []) (zip_at (λ at cells. tells at.over.store cells) old maps i was [] told within) in
        let component : was.component ≡ get_or (components_of old) i 0 =
        ap (λ (p : PartPlan). p.component) first.plan ∙ sym (get_or-map (λ (at : StatePart S). at.component) old i was 0 within) in
        let fronts : length (take i maps) ≡ length (take i (components_of old)) = length-take-le i maps (omega arith) ∙ sym (length-take-le i (components_of old) (omega arith)) in
        added (get_or maps i []) cells_told key
        ∙ ap (λ (o : Option ℤ). option_or (value_for number was.component (get_or maps i []) key) o) (reading.told maps told key)
        ∙ ap (λ (c : ℕ). option_or (value_for number c (get_or maps i []) key) (value_among number (take i (components_of old)) (take i maps) key)) component
        ∙ sym (among_push number (take i (components_of old)) (take i maps) (get_or (components_of old) i 0) (get_or maps i []) key fronts)
        ∙ ap (λ (cs : List ℕ). value_among number cs (take i maps ++ get_or maps i [] ∷ []) key) (sym (take_more (components_of old) i 0 in_components))
        ∙ ap (λ (ms : List CellMap). value_among number (take (i + 1) (components_of old)) ms key) (sym (take_more maps i [] in_maps));
  }

  pub reading_last : (number : ℕ) (old now : List (StatePart S)) (i : ℕ) (values : List ℕ → Option ℤ) → length old ≤ i → Reading tells count number old now i values
      → (maps : List CellMap) → Tell tells old maps → (key : List ℕ) → values key ≡ value_among number (components_of old) maps key
  reading_last number old now i values past reading maps told key =
      let maps_long : length maps ≡ length old = AllZip-long (λ at cells. tells at.over.store cells) old maps told in
      let components_long : length (components_of old) ≡ length old = length-map old (λ (at : StatePart S). at.component) in
      reading.told maps told key
      ∙ ap (λ (cs : List ℕ). value_among number cs (take i maps) key) (take_all i (components_of old) (omega arith))
      ∙ ap (λ (ms : List CellMap). value_among number (components_of old) ms key) (take_all i maps (omega arith))

  -- ---- the tables, state by state

  -- a table over parts that were read is one over the parts as they were
  table_before : (old now : List (StatePart S)) (state : StateOf) (table : Table) → AreRead tells count old now → IsTableOver tells now state table → IsTableOver tells old state table
  table_before old now state table all is = record {
    name = is.name;
    ordered = is.ordered;
    values = λ maps told key. is.values maps (read_tell old now maps all told) key ∙ ap (λ (cs : List ℕ). value_among state.number cs maps key) (read_components old now all);
  }

  zip_added : (old now : List (StatePart S)) (o : Option StateOf) (states : List StateOf) (before after : List Table) → AreRead tells count old now → AddsTableOver tells now o before after
      → AllZip (IsTableOver tells old) states before → AllZip (IsTableOver tells old) (states ++ cons_option o []) after
  zip_added old now None states before after all same zipped = rw (append-nil states, same) zipped
  zip_added old now (Some state) states before after all adds zipped =
      rw adds.1 (all_zipped_more (IsTableOver tells old) states before state adds.0 zipped (table_before old now state adds.0 all adds.2))

  one_more : (n : ℕ) → range_with_len 0 (n + 1) ≡ range_with_len 0 n ++ n ∷ []
  one_more n = sym (map-id (range_with_len 0 (n + 1))) ∙ map-range_with_len_more (λ (k : ℕ). k) 0 n n (omega arith) ∙ ap (λ (ks : List ℕ). ks ++ n ∷ []) (map-id (range_with_len 0 n))

  -- one more component in the list of tables
  pub tables_more : (t : Topology) (custom : Custom) (old now : List (StatePart S)) (n : ℕ) (component : Component) (before after : List Table) → slice_get t.components n ≡ Some component → AreRead tells count old now
      → AddsTableOver tells now (state_by custom n component component.body) before after → AllZip (IsTableOver tells old) (filter_map (state_at t custom) (range_with_len 0 n)) before
      → AllZip (IsTableOver tells old) (filter_map (state_at t custom) (range_with_len 0 (n + 1))) after
  tables_more t custom old now n component before after there all adds zipped =
      let at : state_at t custom n ≡ state_by custom n component component.body = ap (option_and_then (λ (c : Component). state_by custom n c c.body)) there in
      let more : filter_map (state_at t custom) (range_with_len 0 (n + 1)) ≡ filter_map (state_at t custom) (range_with_len 0 n) ++ cons_option (state_at t custom n) [] =
      ap (filter_map (state_at t custom)) (one_more n) ∙ filter_map-append (state_at t custom) (range_with_len 0 n) (n ∷ []) in
      rw more (zip_added old now (state_at t custom n) (filter_map (state_at t custom) (range_with_len 0 n)) before after all (rw at adds) zipped)

-- What a key holds after a put.
use Rattle.std.proofs.Common.{◌≡◌, ◌≢◌, ℕ, suc, Bool, true, false, true≢false, ◌&&◌, T, cond, List, [], ◌∷◌, length, None, Some, refl, sym, ap, subst, ◌∙◌, nat_cmp}
use Rattle.std.specs.BTreeSet.{insert_key}
use Rattle.std.specs.Cmp.Lexicographic.{slice_cmp}
use Rattle.std.specs.FinMap.Entries.{below_all, find, is_sorted, same_entries}
use Rattle.std.specs.List.{AllByRecursion}
use Rattle.std.specs.List.Sorted.{IsStrictlySortedBy}
use Rattle.std.specs.Map.{keys_of}
use Rattle.std.specs.Ordering.{is_eq, is_lt, match_ordering, ordering_reverse}
use Rattle.std.specs.declared.cmp.Ordering.{Ordering}
use Rattle.std.specs.declared.cmp.Ordering.TheVariants.{Less, Equal, Greater}
use Rattle.std.specs.Str.{bytes_eq}
use Rattle.std.proofs.lemmas.Bool.{false_from_ne_true}
use Rattle.std.proofs.lemmas.Cmp.{nat_list_cmp_total}
use Rattle.std.proofs.lemmas.Map.Lookups.{exact_bytes}
use Rattle.std.proofs.lemmas.Map.Text.{is_eq-slice_cmp}
use Rattle.std.proofs.lemmas.Option.{none-some}
use Rattle.std.proofs.lemmas.Slice.Eq.{bytes_eq-Decides}
use Rattle.storm_stores.specs.CellMaps.{CellMap, InKeyOrder, cell_at, with_cell}

pub bytes_eq-same : (key : List ℕ) → bytes_eq key key ≡ true
bytes_eq-same key = (bytes_eq-Decides key key).1 refl

pub bytes_eq-other : (a b : List ℕ) → a ≢ b → bytes_eq a b ≡ false
bytes_eq-other a b differ = false_from_ne_true _ (λ same. differ ((bytes_eq-Decides a b).0 same))

pub cell_at-with_cell : (cells : CellMap) (key cell : List ℕ) → cell_at (with_cell cells key cell) key ≡ Some cell
cell_at-with_cell [] key cell = rw (bytes_eq-same key) refl
cell_at-with_cell (e ∷ es) key cell = cases (slice_cmp nat_cmp key e.0) refl (cell_at-with_cell es key cell)
  where
    cases : (o : Ordering) → slice_cmp nat_cmp key e.0 ≡ o → cell_at (with_cell es key cell) key ≡ Some cell
        → cell_at (match_ordering o ((key, cell) ∷ e ∷ es) ((e.0, cell) ∷ es) (e ∷ with_cell es key cell)) key ≡ Some cell
    cases Less is later = rw (bytes_eq-same key) refl
    cases Equal is later = rw (← is_eq-slice_cmp key e.0, is) refl
    cases Greater is later = rw (← is_eq-slice_cmp key e.0, is) later

pub cell_at-with_cell_other : (cells : CellMap) (key cell other : List ℕ) → other ≢ key → cell_at (with_cell cells key cell) other ≡ cell_at cells other
cell_at-with_cell_other [] key cell other differ = rw (bytes_eq-other other key differ) refl
cell_at-with_cell_other (e ∷ es) key cell other differ = cases (slice_cmp nat_cmp key e.0) refl (cell_at-with_cell_other es key cell other differ)
  where
    cases : (o : Ordering) → slice_cmp nat_cmp key e.0 ≡ o → cell_at (with_cell es key cell) other ≡ cell_at es other
        → cell_at (match_ordering o ((key, cell) ∷ e ∷ es) ((e.0, cell) ∷ es) (e ∷ with_cell es key cell)) other ≡ cell_at (e ∷ es) other
    cases Less is later = rw (bytes_eq-other other key differ) refl
    cases Equal is later =
        let apart : bytes_eq other e.0 ≡ false = bytes_eq-other other e.0 (λ same. differ (same ∙ sym (exact_bytes key e.0 is))) in
        rw apart refl
    cases Greater is later = ap (λ found. cond (bytes_eq other e.0) (Some e.1) found) later

-- the cell of any key
pub cell_at-any : (cells : CellMap) (key cell at : List ℕ) → cell_at (with_cell cells key cell) at ≡ cond (bytes_eq at key) (Some cell) (cell_at cells at)
cell_at-any cells key cell at = cases (bytes_eq at key) refl
  where
    cases : (b : Bool) → bytes_eq at key ≡ b → cell_at (with_cell cells key cell) at ≡ cond b (Some cell) (cell_at cells at)
    cases true is = subst (λ k. cell_at (with_cell cells key cell) k ≡ Some cell) (sym ((bytes_eq-Decides at key).0 is)) (cell_at-with_cell cells key cell)
    cases false is = cell_at-with_cell_other cells key cell at (λ same. true≢false (sym ((bytes_eq-Decides at key).1 same) ∙ is))

-- ---- the order of keys

pub InKeyOrder-none : InKeyOrder []
unfolding IsStrictlySortedBy
InKeyOrder-none = tt

below_less : (x y : List ℕ) (keys : List (List ℕ)) → slice_cmp nat_cmp x y ≡ Less → AllByRecursion (λ k. slice_cmp nat_cmp y k ≡ Less) keys → AllByRecursion (λ k. slice_cmp nat_cmp x k ≡ Less) keys
below_less x y [] less below = tt
below_less x y (k ∷ ks) less below = (nat_list_cmp_total.trans x y k less below.0, below_less x y ks less below.1)

below-with_cell : (x : List ℕ) (cells : CellMap) (key cell : List ℕ) → slice_cmp nat_cmp x key ≡ Less → AllByRecursion (λ k. slice_cmp nat_cmp x k ≡ Less) (keys_of cells)
    → AllByRecursion (λ k. slice_cmp nat_cmp x k ≡ Less) (keys_of (with_cell cells key cell))
below-with_cell x [] key cell less below = (less, tt)
below-with_cell x (e ∷ es) key cell less below = cases (slice_cmp nat_cmp key e.0) (below-with_cell x es key cell less below.1)
  where
    cases : (o : Ordering) → AllByRecursion (λ k. slice_cmp nat_cmp x k ≡ Less) (keys_of (with_cell es key cell))
        → AllByRecursion (λ k. slice_cmp nat_cmp x k ≡ Less) (keys_of (match_ordering o ((key, cell) ∷ e ∷ es) ((e.0, cell) ∷ es) (e ∷ with_cell es key cell)))
    cases Less later = (less, below)
    cases Equal later = below
    cases Greater later = (below.0, later)

pub InKeyOrder-with_cell : (cells : CellMap) (key cell : List ℕ) → InKeyOrder cells → InKeyOrder (with_cell cells key cell)
unfolding IsStrictlySortedBy
InKeyOrder-with_cell [] key cell ordered = (tt, tt)
InKeyOrder-with_cell (e ∷ es) key cell ordered = cases (slice_cmp nat_cmp key e.0) refl (InKeyOrder-with_cell es key cell ordered.1)
  where
    cases : (o : Ordering) → slice_cmp nat_cmp key e.0 ≡ o → InKeyOrder (with_cell es key cell)
        → InKeyOrder (match_ordering o ((key, cell) ∷ e ∷ es) ((e.0, cell) ∷ es) (e ∷ with_cell es key cell))
    cases Less is later = ((is, below_less key e.0 (keys_of es) is ordered.0), ordered)
    cases Equal is later = ordered
    cases Greater is later =
        let less : slice_cmp nat_cmp e.0 key ≡ Less = nat_list_cmp_total.antisymm e.0 key ∙ ap ordering_reverse is in
        (below-with_cell e.0 es key cell less ordered.0, later)

-- the keys after a put
pub keys_of-with_cell : (cells : CellMap) (key cell : List ℕ) → keys_of (with_cell cells key cell) ≡ insert_key (slice_cmp nat_cmp) (keys_of cells) key
keys_of-with_cell [] key cell = refl
keys_of-with_cell (e ∷ es) key cell = cases (slice_cmp nat_cmp key e.0) (keys_of-with_cell es key cell)
  where
    cases : (o : Ordering) → keys_of (with_cell es key cell) ≡ insert_key (slice_cmp nat_cmp) (keys_of es) key
        → keys_of (match_ordering o ((key, cell) ∷ e ∷ es) ((e.0, cell) ∷ es) (e ∷ with_cell es key cell))
        ≡ match_ordering o (key ∷ e.0 ∷ keys_of es) (e.0 ∷ keys_of es) (e.0 ∷ insert_key (slice_cmp nat_cmp) (keys_of es) key)
    cases Less later = refl
    cases Equal later = refl
    cases Greater later = ap (λ keys. e.0 ∷ keys) later

-- a new key makes the map longer by one
pub length-with_cell : (cells : CellMap) (key cell : List ℕ) → cell_at cells key ≡ None → length (with_cell cells key cell) ≡ suc (length cells)
length-with_cell [] key cell none = refl
length-with_cell (e ∷ es) key cell none = cases (slice_cmp nat_cmp key e.0) refl (bytes_eq key e.0) refl none (length-with_cell es key cell)
  where
    cases : (o : Ordering) → slice_cmp nat_cmp key e.0 ≡ o → (b : Bool) → bytes_eq key e.0 ≡ b → cond b (Some e.1) (cell_at es key) ≡ None → (cell_at es key ≡ None → length (with_cell es key cell) ≡ suc (length es))
        → length (match_ordering o ((key, cell) ∷ e ∷ es) ((e.0, cell) ∷ es) (e ∷ with_cell es key cell)) ≡ suc (length (e ∷ es))
    cases o is true same none later = absurd (none-some e.1 (sym none))
    cases Less is false same none later = refl
    cases Equal is false same none later = absurd (true≢false (ap is_eq (sym is) ∙ is_eq-slice_cmp key e.0 ∙ same))
    cases Greater is false same none later = ap (λ n. suc n) (later none)

-- ---- two maps whose keys have the same cells

both : (a b : Bool) → T a → T b → T (a && b)
both true b p q = q
both false b p q = p

below : (x : List ℕ) (cells : CellMap) → AllByRecursion (λ k. slice_cmp nat_cmp x k ≡ Less) (keys_of cells) → T (below_all (slice_cmp nat_cmp) x cells)
below x [] less = tt
below x (e ∷ es) less = both _ _ (subst (λ o. T (is_lt o)) (sym less.0) tt) (below x es less.1)

rises : (cells : CellMap) → InKeyOrder cells → T (is_sorted (slice_cmp nat_cmp) cells)
unfolding IsStrictlySortedBy
rises [] ordered = tt
rises (e ∷ es) ordered = both _ _ (below e.0 es ordered.0) (rises es ordered.1)

found : (cells : CellMap) (key : List ℕ) → find (slice_cmp nat_cmp) key cells ≡ cell_at cells key
found [] key = refl
found (e ∷ es) key = λ i. cond (is_eq-slice_cmp key e.0 i) (Some e.1) (found es key i)

pub same_cells : (a b : CellMap) → InKeyOrder a → InKeyOrder b → ((key : List ℕ) → cell_at a key ≡ cell_at b key) → a ≡ b
same_cells a b a_ordered b_ordered same =
    same_entries (slice_cmp nat_cmp) nat_list_cmp_total exact_bytes a b (rises a a_ordered) (rises b b_ordered) (λ key. found a key ∙ same key ∙ sym (found b key))

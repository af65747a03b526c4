-- The map that a hashed table of keys makes.
use Rattle.std.proofs.Common.{◌≡◌, ℕ, suc, Bool, true, false, cond, true≢false, ◌||◌, List, [], ◌∷◌, Option, None, Some, IsSome, is_some, map, length, refl, sym, ap, subst, ◌∙◌, nat_cmp}
use Rattle.std.proofs.lemmas.Bool.{cond-false}
use Rattle.std.proofs.lemmas.Cmp.{nat_list_cmp_total, nat_list_eq_equiv}
use Rattle.std.proofs.lemmas.List.Kept.{IsStrictlySortedBy-dedup}
use Rattle.std.proofs.lemmas.List.Sorted.{list_any-IsPermutation}
use Rattle.std.proofs.lemmas.Map.{lookup-none}
use Rattle.std.proofs.lemmas.Map.Entries.{none_past_head}
use Rattle.std.proofs.lemmas.Map.Keys.{IsDistinct-IsPermutation, IsDistinct-tail}
use Rattle.std.proofs.lemmas.Map.Text.{is_eq-slice_cmp}
use Rattle.std.proofs.lemmas.Slice.Eq.{bytes_eq-Decides}
use Rattle.std.specs.BTreeSet.{insert_key}
use Rattle.std.specs.Cmp.Lexicographic.{slice_cmp}
use Rattle.std.specs.List.{IsDistinct, dedup, dedup_from, list_any, slice_get}
use Rattle.std.specs.List.Sorted.{IsPermutation, IsSorted, IsStrictlySortedBy}
use Rattle.std.specs.Map.{keys_of, lookup, set_value}
use Rattle.std.specs.Str.{bytes_eq}
use Rattle.indexmap.proofs.CallerLemmas.{updates-with_value_at}
use Rattle.indexmap.specs.IndexMap.{IndexMap, IsUnique, insert_entry, with_value_at}
use Rattle.storm_stores.specs.CellMaps.{CellMap, InKeyOrder, cell_at, with_cell}
use Rattle.storm_stores.specs.MemoryStore.{cells_of}
use Rattle.storm_stores.proofs.CellMapLemmas.{InKeyOrder-none, InKeyOrder-with_cell, cell_at-any, keys_of-with_cell, length-with_cell, same_cells}

-- ---- one key beside another

shadowed : {X : Type 0} (b : Bool) (x y z : X) → cond b x z ≡ cond b x (cond b y z)
shadowed true x y z = refl
shadowed false x y z = refl

module _ (key at held : List ℕ) where
  -- the key that is found: the others keep their cells
  met : {X : Type 0} (new old rest : X) → bytes_eq key held ≡ true → cond (bytes_eq at held) new rest ≡ cond (bytes_eq at key) new (cond (bytes_eq at held) old rest)
  met new old rest is =
      subst (λ k. cond (bytes_eq at held) new rest ≡ cond (bytes_eq at k) new (cond (bytes_eq at held) old rest)) (sym ((bytes_eq-Decides key held).0 is)) (shadowed (bytes_eq at held) new old rest)

  -- another key: the look-up goes on behind it
  passed : {X : Type 0} (new old rest : X) → bytes_eq key held ≡ false → cond (bytes_eq at held) old (cond (bytes_eq at key) new rest) ≡ cond (bytes_eq at key) new (cond (bytes_eq at held) old rest)
  passed new old rest differs = cases (bytes_eq at key) refl
    where
      cases : (b : Bool) → bytes_eq at key ≡ b → cond (bytes_eq at held) old (cond b new rest) ≡ cond b new (cond (bytes_eq at held) old rest)
      cases true is = cond-false (bytes_eq at held) _ _ (ap (λ bytes. bytes_eq bytes held) ((bytes_eq-Decides at key).0 is) ∙ differs)
      cases false is = refl

-- ---- keys with no cells

blank : List (List ℕ) → CellMap
blank keys = map {B = List ℕ × List ℕ} (λ key. (key, [])) keys

keys_of-blank : (keys : List (List ℕ)) → keys_of (blank keys) ≡ keys
unfolding blank
keys_of-blank [] = refl
keys_of-blank (key ∷ keys) = ap (λ rest. key ∷ rest) (keys_of-blank keys)

cell_at-blank : (keys : List (List ℕ)) (at : List ℕ) → cell_at (blank keys) at ≡ cond (list_any (bytes_eq at) keys) (Some []) None
unfolding blank
cell_at-blank [] at = refl
cell_at-blank (key ∷ keys) at = cases (bytes_eq at key) (cell_at-blank keys at)
  where
    cases : (b : Bool) → cell_at (blank keys) at ≡ cond (list_any (bytes_eq at) keys) (Some []) None → cond b (Some []) (cell_at (blank keys) at) ≡ cond (b || list_any (bytes_eq at) keys) (Some []) None
    cases true rest = refl
    cases false rest = rest

-- two lists of keys in order with the same keys
same_sorted : (a b : List (List ℕ)) → IsStrictlySortedBy (slice_cmp nat_cmp) a → IsStrictlySortedBy (slice_cmp nat_cmp) b → ((at : List ℕ) → list_any (bytes_eq at) a ≡ list_any (bytes_eq at) b) → a ≡ b
same_sorted a b a_sorted b_sorted same =
    let is = same_cells (blank a) (blank b)
    (subst (IsStrictlySortedBy (slice_cmp nat_cmp)) (sym (keys_of-blank a)) a_sorted)
    (subst (IsStrictlySortedBy (slice_cmp nat_cmp)) (sym (keys_of-blank b)) b_sorted)
    (λ at. cell_at-blank a at ∙ ap (λ found. cond found (Some []) None) (same at) ∙ sym (cell_at-blank b at)) in
    sym (keys_of-blank a) ∙ ap keys_of is ∙ keys_of-blank b

any_key : (b rest : Bool) (cell : List ℕ) (found : Option (List ℕ)) → rest ≡ is_some found → (b || rest) ≡ is_some (cond b (Some cell) found)
any_key true rest cell found is = refl
any_key false rest cell found is = is

any-keys : (cells : CellMap) (at : List ℕ) → list_any (bytes_eq at) (keys_of cells) ≡ is_some (cell_at cells at)
any-keys [] at = refl
any-keys (e ∷ es) at = any_key (bytes_eq at e.0) (list_any (bytes_eq at) (keys_of es)) e.1 (cell_at es at) (any-keys es at)

-- the keys put in their places one after another
abbrev sort : List (List ℕ) → List (List ℕ)
sort [] = []
sort (key ∷ keys) = insert_key (slice_cmp nat_cmp) (sort keys) key

-- keys that differ lose none
dedup_from-distinct : (x : List ℕ) (xs : List (List ℕ)) → IsDistinct bytes_eq (x ∷ xs) → dedup_from bytes_eq x xs ≡ x ∷ xs
unfolding IsDistinct
dedup_from-distinct x [] distinct = refl
dedup_from-distinct x (y ∷ ys) distinct =
    cond-false (bytes_eq y x) _ _ (nat_list_eq_equiv.symm y x ∙ distinct.0.0) ∙ ap (λ keys. x ∷ keys) (dedup_from-distinct y ys distinct.1)

dedup-distinct : (xs : List (List ℕ)) → IsDistinct bytes_eq xs → dedup bytes_eq xs ≡ xs
dedup-distinct [] distinct = refl
dedup-distinct (x ∷ xs) distinct = dedup_from-distinct x xs distinct

-- ---- look-ups in a table after a write

lookup-insert : (entries : CellMap) (key cell at : List ℕ)
    → cell_at (insert_entry bytes_eq entries key cell) at ≡ cond (bytes_eq at key) (Some cell) (cell_at entries at)
lookup-insert [] key cell at = refl
lookup-insert (e ∷ es) key cell at = cases (bytes_eq key e.0) refl (lookup-insert es key cell at)
  where
    cases : (b : Bool) → bytes_eq key e.0 ≡ b → cell_at (insert_entry bytes_eq es key cell) at ≡ cond (bytes_eq at key) (Some cell) (cell_at es at)
        → lookup (bytes_eq at) (cond b ((e.0, cell) ∷ es) (e ∷ insert_entry bytes_eq es key cell)) ≡ cond (bytes_eq at key) (Some cell) (cond (bytes_eq at e.0) (Some e.1) (cell_at es at))
    cases true is rest = met key at e.0 (Some cell) (Some e.1) (cell_at es at) is
    cases false is rest = ap (cond (bytes_eq at e.0) (Some e.1)) rest ∙ passed key at e.0 (Some cell) (Some e.1) (cell_at es at) is

lookup-set : (entries : CellMap) (key cell at : List ℕ) → IsSome (cell_at entries key)
    → cell_at (set_value (bytes_eq key) entries cell) at ≡ cond (bytes_eq at key) (Some cell) (cell_at entries at)
lookup-set [] key cell at there = absurd (true≢false (sym there))
lookup-set (e ∷ es) key cell at there = cases (bytes_eq key e.0) refl there (lookup-set es key cell at)
  where
    cases : (b : Bool) → bytes_eq key e.0 ≡ b → IsSome (cond b (Some e.1) (cell_at es key))
        → (IsSome (cell_at es key) → cell_at (set_value (bytes_eq key) es cell) at ≡ cond (bytes_eq at key) (Some cell) (cell_at es at))
        → lookup (bytes_eq at) (cond b ((e.0, cell) ∷ es) (e ∷ set_value (bytes_eq key) es cell)) ≡ cond (bytes_eq at key) (Some cell) (cond (bytes_eq at e.0) (Some e.1) (cell_at es at))
    cases true is there rest = met key at e.0 (Some cell) (Some e.1) (cell_at es at) is
    cases false is there rest = ap (cond (bytes_eq at e.0) (Some e.1)) (rest there) ∙ passed key at e.0 (Some cell) (Some e.1) (cell_at es at) is

-- ---- the map of a table

pub InKeyOrder-cells_of : (entries : CellMap) → InKeyOrder (cells_of entries)
InKeyOrder-cells_of [] = InKeyOrder-none
InKeyOrder-cells_of (e ∷ es) = InKeyOrder-with_cell (cells_of es) e.0 e.1 (InKeyOrder-cells_of es)

pub cell_at-cells_of : (entries : CellMap) (key : List ℕ) → cell_at (cells_of entries) key ≡ cell_at entries key
cell_at-cells_of [] key = refl
cell_at-cells_of (e ∷ es) key = cell_at-any (cells_of es) e.0 e.1 key ∙ ap (cond (bytes_eq key e.0) (Some e.1)) (cell_at-cells_of es key)

written : (old new : CellMap) (key cell : List ℕ) → ((at : List ℕ) → cell_at new at ≡ cond (bytes_eq at key) (Some cell) (cell_at old at))
    → cells_of new ≡ with_cell (cells_of old) key cell
written old new key cell is =
    same_cells (cells_of new) (with_cell (cells_of old) key cell) (InKeyOrder-cells_of new) (InKeyOrder-with_cell (cells_of old) key cell (InKeyOrder-cells_of old))
    (λ at. cell_at-cells_of new at ∙ is at ∙ ap (cond (bytes_eq at key) (Some cell)) (sym (cell_at-cells_of old at)) ∙ sym (cell_at-any (cells_of old) key cell at))

pub cells_of-insert : (entries : CellMap) (key cell : List ℕ) → cells_of (insert_entry bytes_eq entries key cell) ≡ with_cell (cells_of entries) key cell
cells_of-insert entries key cell = written entries (insert_entry bytes_eq entries key cell) key cell (lookup-insert entries key cell)

pub cells_of-set : (entries : CellMap) (key cell : List ℕ) → IsSome (cell_at entries key) → cells_of (set_value (bytes_eq key) entries cell) ≡ with_cell (cells_of entries) key cell
cells_of-set entries key cell there = written entries (set_value (bytes_eq key) entries cell) key cell (λ at. lookup-set entries key cell at there)

-- the key that stands at a number has the cell that is written there
pub cells_of-at : {S : Type 0} (table : IndexMap (List ℕ) (List ℕ) S) (i : ℕ) (key old cell : List ℕ) → IsUnique bytes_eq table → slice_get table.entries i ≡ Some (key, old)
    → cells_of (with_value_at table i cell).entries ≡ with_cell (cells_of table.entries) key cell
cells_of-at table i key old cell unique here =
    let updates = updates-with_value_at table i cell nat_list_eq_equiv unique key old here in
    written table.entries (with_value_at table i cell).entries key cell (λ at. updates.0 at ∙ ap (λ b. cond b (Some cell) (cell_at table.entries at)) (nat_list_eq_equiv.symm key at))

-- the keys of the map are given by the keys alone
pub keys_of-cells_of : (old new : CellMap) → keys_of new ≡ keys_of old → keys_of (cells_of new) ≡ keys_of (cells_of old)
keys_of-cells_of old new is = sorted new ∙ ap sort is ∙ sym (sorted old)
  where
    sorted : (entries : CellMap) → keys_of (cells_of entries) ≡ sort (keys_of entries)
    sorted [] = refl
    sorted (e ∷ es) = keys_of-with_cell (cells_of es) e.0 e.1 ∙ ap (λ keys. insert_key (slice_cmp nat_cmp) keys e.0) (sorted es)

pub length-cells_of : (entries : CellMap) → IsDistinct bytes_eq (keys_of entries) → length (cells_of entries) ≡ length entries
length-cells_of [] distinct = refl
length-cells_of (e ∷ es) distinct =
    let none : cell_at (cells_of es) e.0 ≡ None = cell_at-cells_of es e.0 ∙ lookup-none (bytes_eq e.0) es (none_past_head nat_list_eq_equiv e.0 e es distinct (nat_list_eq_equiv.refl e.0)) in
    length-with_cell (cells_of es) e.0 e.1 none ∙ ap (λ n. suc n) (length-cells_of es (IsDistinct-tail bytes_eq e.0 (keys_of es) distinct))

-- a sort of the keys gives those of the map
pub keys-sorted : (entries : CellMap) (keys : List (List ℕ)) → IsDistinct bytes_eq (keys_of entries) → IsPermutation (keys_of entries) keys → IsSorted (slice_cmp nat_cmp) keys
    → keys ≡ keys_of (cells_of entries)
keys-sorted entries keys distinct moved sorted =
    let differ : IsDistinct bytes_eq keys = IsDistinct-IsPermutation bytes_eq nat_list_eq_equiv.symm (keys_of entries) keys moved distinct in
    let rise : IsStrictlySortedBy (slice_cmp nat_cmp) keys =
    subst (IsStrictlySortedBy (slice_cmp nat_cmp)) (dedup-distinct keys differ) (IsStrictlySortedBy-dedup nat_list_cmp_total (λ x y. sym (is_eq-slice_cmp x y)) keys sorted) in
    same_sorted keys (keys_of (cells_of entries)) rise (InKeyOrder-cells_of entries)
    (λ at. sym (list_any-IsPermutation (bytes_eq at) (keys_of entries) keys moved) ∙ any-keys entries at ∙ ap is_some (sym (cell_at-cells_of entries at)) ∙ sym (any-keys (cells_of entries) at))

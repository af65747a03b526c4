-- Writes leave one table for a state, and one list of tables.
use Rattle.std.proofs.Common.{◌≡◌, ℕ, Bool, true, false, cond, ◌&&◌, T, ℤ, List, [], ◌∷◌, map, Less, Option, Some, sym, refl, ap, ◌∙◌}
use Rattle.std.proofs.lemmas.Cmp.{nat_list_cmp_total}
use Rattle.std.proofs.lemmas.Map.Lookups.{exact_bytes}
use Rattle.std.proofs.lemmas.Map.Text.{is_eq-slice_cmp}
use Rattle.std.specs.Cmp.Lexicographic.{slice_cmp}
use Rattle.std.specs.List.{find, AllByRecursion, AllZip}
use Rattle.std.specs.List.Sorted.{IsStrictlySortedBy}
use Rattle.std.specs.FinMap.Entries as entry
use Rattle.std.specs.Option.{option_map}
use Rattle.std.specs.Ordering.{nat_cmp, is_lt}
use Rattle.std.specs.Str.{bytes_eq}
use Rattle.bolt_ops.specs.RowOp.{Custom}
use Rattle.topology_plan.specs.Topology.{Topology}
use Rattle.tree_model.specs.declared.write.Pair.{Pair}
use Rattle.tree_model.specs.declared.write.Table.{Table}
use Rattle.tree_model.specs.declared.write.Write.{Write}
use Rattle.tree_model.specs.Tables.{Folding, StateOf, states_of, value_at, IsTable, IsTableOf, AreTables}

abbrev entry_of : Pair → List ℕ × ℤ
entry_of pair = (pair.key, pair.value)

abbrev pair_from : List ℕ × ℤ → Pair
pair_from entry = record { key = entry.0; value = entry.1 }

pairs_back : (pairs : List Pair) → map pair_from (map entry_of pairs) ≡ pairs
pairs_back [] = refl
pairs_back (pair ∷ pairs) = ap (λ rest. pair ∷ rest) (pairs_back pairs)

found : (b : Bool) (pair : Pair) (rest : Option Pair) → option_map (λ (p : Pair). p.value) (cond b (Some pair) rest) ≡ cond b (Some pair.value) (option_map (λ (p : Pair). p.value) rest)
found true pair rest = refl
found false pair rest = refl

find-entries : (key : List ℕ) (pairs : List Pair) → entry.find (slice_cmp nat_cmp) key (map entry_of pairs) ≡ value_at pairs key
find-entries key [] = refl
find-entries key (pair ∷ pairs) =
    sym (found (bytes_eq key pair.key) pair (find (λ (p : Pair). bytes_eq key p.key) pairs)
    ∙ ap (cond (bytes_eq key pair.key) (Some pair.value)) (sym (find-entries key pairs))
    ∙ ap (λ b. cond b (Some pair.value) (entry.find (slice_cmp nat_cmp) key (map entry_of pairs))) (sym (is_eq-slice_cmp key pair.key)))

both : (a b : Bool) → a ≡ true → T b → T (a && b)
both a b first second = rw first second

both_hold : (a b : Bool) → T a → T b → T (a && b)
both_hold true b first second = second
both_hold false b first second = absurd first

above : (key : List ℕ) (pairs : List Pair) → AllByRecursion (λ k. slice_cmp nat_cmp key k ≡ Less) (map (λ (pair : Pair). pair.key) pairs) → T (entry.below_all (slice_cmp nat_cmp) key (map entry_of pairs))
above key [] all = tt
above key (pair ∷ pairs) all = both _ _ (ap is_lt all.0) (above key pairs all.1)

ordered_entries : (pairs : List Pair) → IsStrictlySortedBy (slice_cmp nat_cmp) (map (λ (pair : Pair). pair.key) pairs) → T (entry.is_sorted (slice_cmp nat_cmp) (map entry_of pairs))
unfolding IsStrictlySortedBy
ordered_entries [] sorted = tt
ordered_entries (pair ∷ pairs) sorted = both_hold _ _ (above pair.key pairs sorted.0) (ordered_entries pairs sorted.1)

pairs_same : (by : Folding) (writes : List Write) (state : ℕ) (a b : List Pair) → IsTable by writes state a → IsTable by writes state b → a ≡ b
pairs_same by writes state a b first second =
    let entries : map entry_of a ≡ map entry_of b =
    entry.same_entries (slice_cmp nat_cmp) nat_list_cmp_total exact_bytes (map entry_of a) (map entry_of b) (ordered_entries a first.ordered) (ordered_entries b second.ordered)
    (λ key. find-entries key a ∙ first.values key ∙ sym (second.values key) ∙ sym (find-entries key b)) in
    sym (pairs_back a) ∙ ap (map pair_from) entries ∙ pairs_back b

table_same : (writes : List Write) (state : StateOf) (a b : Table) → IsTableOf writes state a → IsTableOf writes state b → a ≡ b
table_same writes state a b first second =
    ap (λ name. record { name = name; pairs = a.pairs }) (first.name ∙ sym second.name)
    ∙ ap (λ pairs. record { name = b.name; pairs = pairs }) (pairs_same state.by writes state.number a.pairs b.pairs first.pairs second.pairs)

all_same : (writes : List Write) (states : List StateOf) (a b : List Table) → AllZip (IsTableOf writes) states a → AllZip (IsTableOf writes) states b → a ≡ b
all_same writes [] [] [] first second = refl
all_same writes [] [] (y ∷ ys) first second = absurd second
all_same writes [] (x ∷ xs) b first second = absurd first
all_same writes (state ∷ states) [] b first second = absurd first
all_same writes (state ∷ states) (x ∷ xs) [] first second = absurd second
all_same writes (state ∷ states) (x ∷ xs) (y ∷ ys) first second =
    ap (λ z. z ∷ xs) (table_same writes state x y first.0 second.0) ∙ ap (λ zs. y ∷ zs) (all_same writes states xs ys first.1 second.1)

pub tables_same : (t : Topology) (custom : Custom) (writes : List Write) (a b : List Table) → AreTables t custom writes a → AreTables t custom writes b → a ≡ b
tables_same t custom writes a b first second = all_same writes (states_of t custom) a b first second

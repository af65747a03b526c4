-- What one more write does to the value of a key.
use Rattle.std.proofs.Common.{◌≡◌, ℕ, ◌==◌, Bool, true, false, ◌&&◌, cond, ℤ, List, [], ◌∷◌, ◌++◌, map, filter, fold, Option, Some, None, refl, sym, ap, ◌∙◌}
use Rattle.std.proofs.lemmas.Bool.{eqb-true}
use Rattle.std.proofs.lemmas.List.{map-append}
use Rattle.std.proofs.lemmas.List.Elements.{filter-append}
use Rattle.std.proofs.lemmas.List.Sums.{fold-append}
use Rattle.std.specs.Cmp.Lexicographic.{bytes_decides}
use Rattle.std.specs.Option.{option_map}
use Rattle.std.specs.Str.{bytes_eq}
use Rattle.tree_model.specs.topology_plan.declared.parts.Fold.{Fold}
use Rattle.tree_model.specs.topology_plan.declared.parts.Fold.TheVariants.{Count, Sum, Last, Max}
use Rattle.tree_model.specs.topology_plan.declared.parts.Fold.TheVariants as fold_of
use Rattle.tree_model.specs.declared.write.Write.{Write}
use Rattle.tree_model.specs.Tables.{amounts_of, base}
use Rattle.state_reader.specs.declared.totals.Total.{Total}
use Rattle.state_reader.specs.Totals.{folding, grown, total_by}

abbrev is_for : ℕ → List ℕ → Write → Bool
is_for state key write = (write.state == state) && bytes_eq write.key key

amounts_of-append : (before after : List Write) (state : ℕ) (key : List ℕ) → amounts_of (before ++ after) state key ≡ amounts_of before state key ++ amounts_of after state key
amounts_of-append before after state key =
    ap (map (λ (write : Write). write.amount)) (filter-append (is_for state key) before after)
    ∙ map-append (λ (write : Write). write.amount) (filter (is_for state key) before) (filter (is_for state key) after)

one_more : (by : Fold) (old : Option ℤ) (write : Write) (b : Bool) → fold (λ o amount. Some (folding by o amount)) old (map (λ (w : Write). w.amount) (cond b (write ∷ []) [])) ≡ cond b (Some (folding by old write.amount)) old
one_more by old write true = refl
one_more by old write false = refl

-- one more write folds its amount in where it is for the key
pub base-push : (by : Fold) (before : List Write) (write : Write) (state : ℕ) (key : List ℕ) → base (folding by) (before ++ write ∷ []) state key ≡ cond ((write.state == state) && bytes_eq write.key key) (Some (folding by (base (folding by) before state key) write.amount)) (base (folding by) before state key)
base-push by before write state key =
    ap (fold (λ old amount. Some (folding by old amount)) None) (amounts_of-append before (write ∷ []) state key)
    ∙ fold-append (λ old amount. Some (folding by old amount)) None (amounts_of before state key) (amounts_of (write ∷ []) state key)
    ∙ one_more by (base (folding by) before state key) write (is_for state key write)

-- ---- totals

-- a total with one more amount has the folds with one more amount
pub total_by-grown : (by : Fold) (old : Option Total) (amount : ℤ) → Some (total_by by (grown old amount)) ≡ Some (folding by (option_map (total_by by) old) amount)
total_by-grown Count None amount = refl
total_by-grown Count (Some old) amount = refl
total_by-grown Sum None amount = refl
total_by-grown Sum (Some old) amount = refl
total_by-grown Last None amount = refl
total_by-grown Last (Some old) amount = refl
total_by-grown Max None amount = refl
total_by-grown Max (Some old) amount = refl
total_by-grown fold_of.Custom None amount = refl
total_by-grown fold_of.Custom (Some old) amount = refl

option_map-cond : {X Z : Type 0} (f : X → Z) (b : Bool) (x : X) (rest : Option X) → option_map f (cond b (Some x) rest) ≡ cond b (Some (f x)) (option_map f rest)
option_map-cond f true x rest = refl
option_map-cond f false x rest = refl

first : (x y : Bool) → (x && y) ≡ true → x ≡ true
first true y both = refl
first false y both = cc

second : (x y : Bool) → (x && y) ≡ true → y ≡ true
second true y both = both
second false y both = cc

-- a key's value with one more write, from its total
pub value-push : (by : Fold) (before : List Write) (write : Write) (state : ℕ) (key : List ℕ) (own here : Option Total) → option_map (total_by by) own ≡ base (folding by) before write.state write.key → option_map (total_by by) here ≡ base (folding by) before state key
    → option_map (total_by by) (cond ((write.state == state) && bytes_eq write.key key) (Some (grown own write.amount)) here) ≡ base (folding by) (before ++ write ∷ []) state key
value-push by before write state key own here is was =
    option_map-cond (total_by by) for (grown own write.amount) here
    ∙ at for refl
    ∙ sym (base-push by before write state key)
  where
    for : Bool
    for = (write.state == state) && bytes_eq write.key key

    at : (b : Bool) → for ≡ b → cond b (Some (total_by by (grown own write.amount))) (option_map (total_by by) here) ≡ cond b (Some (folding by (base (folding by) before state key) write.amount)) (base (folding by) before state key)
    at true both = total_by-grown by own write.amount ∙ ap (λ o. Some (folding by o write.amount)) (is ∙ ap (λ n. base (folding by) before n write.key) number ∙ ap (base (folding by) before state) same)
      where
        number : write.state ≡ state
        number = eqb-true write.state state (first (write.state == state) (bytes_eq write.key key) both)

        same : write.key ≡ key
        same = (bytes_decides write.key key).0 (second (write.state == state) (bytes_eq write.key key) both)
    at false apart = was

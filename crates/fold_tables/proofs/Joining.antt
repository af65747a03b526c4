-- The value of joined amounts is the merge of their values, and so for writes and tables.
use Rattle.std.proofs.Common.{◌≡◌, ℕ, ◌==◌, ◌&&◌, cond, Bool, true, false, ◌+◌, ◌-◌, ◌*◌, ◌<◌, ◌≤◌, ◌^◌, min, All, ℤ, pos, negsuc, ◌+ℤ◌, ◌≤ℤ◌, List, [], ◌∷◌, ◌++◌, length, map, filter, fold, Option, Some, None, unwrap_or, refl, sym, ap, subst, ◌∙◌, add-zero, arith}
use Rattle.std.proofs.lemmas.List.{length-append, map-append}
use Rattle.std.proofs.lemmas.List.Elements.{filter-append, recursion_from_All}
use Rattle.std.proofs.lemmas.List.Sums.{fold-append}
use Rattle.std.proofs.lemmas.Int.{ints, clamps}
use Rattle.std.specs.Int.{int_max, saturate_signed, w64, w128}
use Rattle.std.specs.Int.RustNames.{FitsSigned}
use Rattle.std.specs.List.{AllByRecursion}
use Rattle.std.specs.Str.{bytes_eq}
use Rattle.tree_model.specs.bolt_ops.RowOp.{Custom, IsCustom}
use Rattle.tree_model.specs.topology_plan.declared.parts.Fold.{Fold}
use Rattle.tree_model.specs.topology_plan.declared.parts.Fold.TheVariants.{Count, Sum, Last, Max}
use Rattle.tree_model.specs.topology_plan.declared.parts.Fold.TheVariants as fold_of
use Rattle.tree_model.specs.declared.write.Pair.{Pair}
use Rattle.tree_model.specs.declared.write.Write.{Write}
use Rattle.tree_model.specs.Tables.{Folding, IsTable, amounts_of, base, folded, value_at}
use Rattle.fold_tables.specs.Merging.{value_of, joined, merged, AreFew, AreFewWrites, AreMerged}

abbrev Fits : ℤ → Type 0
Fits amount = FitsSigned w64 amount

-- A fold and what joins its values, where so many amounts leave a value that is good for as many.
record Joins (by : Folding) (join : ℤ → ℤ → ℤ) (Good : ℕ → ℤ → Type 0) : Type 0 where
  first : (x : ℤ) → Fits x → Good 1 (by None x)
  next : (n : ℕ) (v x : ℤ) → Good n v → Fits x → n + 1 < 2 ^ 63 → Good (n + 1) (by (Some v) x)
  begins : (m : ℕ) (v x : ℤ) → Good m v → Fits x → m + 1 < 2 ^ 63 → by (Some v) x ≡ join v (by None x)
  goes_on : (m n : ℕ) (v w x : ℤ) → Good m v → Good n w → Fits x → m + n + 1 < 2 ^ 63
      → by (Some (join v w)) x ≡ join v (by (Some w) x)

module _ (by : Folding) (join : ℤ → ℤ → ℤ) (Good : ℕ → ℤ → Type 0) (joins : Joins by join Good) where
  abbrev step : Option ℤ → ℤ → Option ℤ
  step old x = Some (by old x)

  -- from a good value on, amounts leave a good value
  goes : (n : ℕ) (v : ℤ) (xs : List ℤ) → Good n v → AllByRecursion Fits xs → n + length xs < 2 ^ 63
      → (u : ℤ) × (fold step (Some v) xs ≡ Some u) × Good (n + length xs) u
  goes n v [] good fit few = (v, refl, rw add-zero good)
  goes n v (x ∷ xs) good fit few =
      let rest = goes (n + 1) (by (Some v) x) xs (joins.next n v x good fit.0 (omega arith)) fit.1 (omega arith) in
      let count : n + 1 + length xs ≡ n + length (x ∷ xs) = omega arith in
      (rest.0, rest.1, subst (λ k. Good k rest.0) count rest.2)

  -- what comes later may be folded by itself
  runs : (m n : ℕ) (v w : ℤ) (ys : List ℤ) → Good m v → Good n w → AllByRecursion Fits ys → m + n + length ys < 2 ^ 63
      → fold step (Some (join v w)) ys ≡ merged join (Some v) (fold step (Some w) ys)
  runs m n v w [] good_v good_w fit few = refl
  runs m n v w (y ∷ ys) good_v good_w fit few =
      ap (λ u. fold step (Some u) ys) (joins.goes_on m n v w y good_v good_w fit.0 (omega arith))
      ∙ runs m (n + 1) v (by (Some w) y) ys good_v (joins.next n w y good_w fit.0 (omega arith)) fit.1 (omega arith)

  later : (m : ℕ) (v : ℤ) (ys : List ℤ) → Good m v → AllByRecursion Fits ys → m + length ys < 2 ^ 63
      → fold step (Some v) ys ≡ merged join (Some v) (fold step None ys)
  later m v [] good fit few = refl
  later m v (y ∷ ys) good fit few =
      ap (λ u. fold step (Some u) ys) (joins.begins m v y good fit.0 (omega arith))
      ∙ runs m 1 v (by None y) ys good (joins.first y fit.0) fit.1 (omega arith)

  both : (xs ys : List ℤ) → AllByRecursion Fits xs → AllByRecursion Fits ys → length xs + length ys < 2 ^ 63
      → fold step None (xs ++ ys) ≡ merged join (fold step None xs) (fold step None ys)
  both [] ys fit_x fit_y few = refl
  both (x ∷ xs) ys fit_x fit_y few =
      let all = goes 1 (by None x) xs (joins.first x fit_x.0) fit_x.1 (omega arith) in
      let good : Good (1 + length xs) all.0 = all.2 in
      fold-append step (Some (by None x)) xs ys
      ∙ ap (λ o. fold step o ys) all.1
      ∙ later (1 + length xs) all.0 ys good fit_y (omega arith)
      ∙ ap (λ o. merged join o (fold step None ys)) (sym all.1)

-- ---- sums, which come to no end

within : (z : ℤ) → z ≤ℤ pos (2 ^ 127 - 1) → pos 0 ≤ℤ (z +ℤ pos (2 ^ 127)) → saturate_signed w128 z ≡ z
within (pos n) below above = ap pos (omega (arith, ints))
within (negsuc n) below above = ap negsuc (omega (arith, ints))

-- the sum of n amounts
record IsSum (n : ℕ) (v : ℤ) : Type 0 where
  below : v ≤ℤ pos (n * 2 ^ 63)
  above : pos 0 ≤ℤ (v +ℤ pos (n * 2 ^ 63))

-- an amount is the sum of one
IsSum-one : (x : ℤ) → Fits x → IsSum 1 x
IsSum-one x fit = record { below = omega (arith, ints); above = omega (arith, ints) }

-- two sums add up
IsSum-add : (m n : ℕ) (v w : ℤ) → IsSum m v → IsSum n w → IsSum (m + n) (v +ℤ w)
IsSum-add m n v w first second = record { below = omega (arith, ints); above = omega (arith, ints) }

exact : (n : ℕ) (v : ℤ) → IsSum n v → n < 2 ^ 63 → saturate_signed w128 v ≡ v
exact n v is few = within v (omega (arith, ints)) (omega (arith, ints))

exactly : (n : ℕ) (v : ℤ) → IsSum n v → n < 2 ^ 63 → IsSum n (saturate_signed w128 v)
exactly n v is few = subst (IsSum n) (sym (exact n v is few)) is

zero_plus : (x : ℤ) → pos 0 +ℤ x ≡ x
zero_plus x = omega (arith, ints)

-- in sums so small nothing is lost on the way
regroup : (m n : ℕ) (v w x : ℤ) → IsSum m v → IsSum n w → Fits x → m + n + 1 < 2 ^ 63
    → saturate_signed w128 (saturate_signed w128 (v +ℤ w) +ℤ x) ≡ saturate_signed w128 (v +ℤ saturate_signed w128 (w +ℤ x))
regroup m n v w x first second fit few =
    let both = IsSum-add m n v w first second in
    let more = IsSum-add n 1 w x second (IsSum-one x fit) in
    ap (λ s. saturate_signed w128 (s +ℤ x)) (exact (m + n) (v +ℤ w) both (omega arith))
    ∙ ap (saturate_signed w128) sums
    ∙ ap (λ s. saturate_signed w128 (v +ℤ s)) (sym (exact (n + 1) (w +ℤ x) more (omega arith)))
  where
    sums : (v +ℤ w) +ℤ x ≡ v +ℤ (w +ℤ x)
    sums = omega (arith, ints)

abbrev added : Folding
added old amount = saturate_signed w128 (unwrap_or old (pos 0) +ℤ amount)

abbrev add : ℤ → ℤ → ℤ
add earlier later = saturate_signed w128 (earlier +ℤ later)

Joins-sum : Joins added add IsSum
Joins-sum = record {
  first = λ x fit. exactly 1 (pos 0 +ℤ x) (subst (IsSum 1) (sym (zero_plus x)) (IsSum-one x fit)) (omega arith);
  next = λ n v x good fit few. exactly (n + 1) (v +ℤ x) (IsSum-add n 1 v x good (IsSum-one x fit)) few;
  begins = λ m v x good fit few. ap (λ s. saturate_signed w128 (v +ℤ s)) (sym (ap (saturate_signed w128) (zero_plus x) ∙ exact 1 x (IsSum-one x fit) (omega arith)));
  goes_on = λ m n v w x good_v good_w fit few. regroup m n v w x good_v good_w fit few;
}

-- ---- the other folds

abbrev Always : ℕ → ℤ → Type 0
Always n v = Unit {0}

max_regroup : (v w x : ℤ) → int_max (int_max v w) x ≡ int_max v (int_max w x)
max_regroup v w x = omega (arith, ints, clamps)

Joins-last : (custom : Custom) → Joins (folded custom Last) (joined custom Last) Always
Joins-last custom = record {
  first = λ x fit. tt;
  next = λ n v x good fit few. tt;
  begins = λ m v x good fit few. refl;
  goes_on = λ m n v w x good_v good_w fit few. refl;
}

Joins-max : (custom : Custom) → Joins (folded custom Max) (joined custom Max) Always
Joins-max custom = record {
  first = λ x fit. tt;
  next = λ n v x good fit few. tt;
  begins = λ m v x good fit few. refl;
  goes_on = λ m n v w x good_v good_w fit few. max_regroup v w x;
}

Joins-custom : (custom : Custom) → IsCustom custom → Joins (folded custom fold_of.Custom) (joined custom fold_of.Custom) Always
Joins-custom custom is = record {
  first = λ x fit. tt;
  next = λ n v x good fit few. tt;
  begins = λ m v x good fit few. refl;
  goes_on = λ m n v w x good_v good_w fit few. is.associative v w (custom.one x);
}

-- the value of joined amounts is the merge of the values of each
pub value_of-append : (custom : Custom) (by : Fold) (xs ys : List ℤ) → IsCustom custom → AllByRecursion Fits xs → AllByRecursion Fits ys → length xs + length ys < 2 ^ 63
    → value_of (folded custom by) (xs ++ ys) ≡ merged (joined custom by) (value_of (folded custom by) xs) (value_of (folded custom by) ys)
value_of-append custom Count xs ys is fit_x fit_y few = both added add IsSum Joins-sum xs ys fit_x fit_y few
value_of-append custom Sum xs ys is fit_x fit_y few = both added add IsSum Joins-sum xs ys fit_x fit_y few
value_of-append custom Last xs ys is fit_x fit_y few = both (folded custom Last) (joined custom Last) Always (Joins-last custom) xs ys fit_x fit_y few
value_of-append custom Max xs ys is fit_x fit_y few = both (folded custom Max) (joined custom Max) Always (Joins-max custom) xs ys fit_x fit_y few
value_of-append custom fold_of.Custom xs ys is fit_x fit_y few = both (folded custom fold_of.Custom) (joined custom fold_of.Custom) Always (Joins-custom custom is) xs ys fit_x fit_y few

-- what holds of each of two lists that are joined
halves : {X : Type 0} (P : X → Type 0) (xs ys : List X) → AllByRecursion P (xs ++ ys) → AllByRecursion P xs × AllByRecursion P ys
halves P [] ys all = (tt, all)
halves P (x ∷ xs) ys all = let rest = halves P xs ys all.1 in ((all.0, rest.0), rest.1)

pub few-append : (custom : Custom) (by : Fold) (xs ys : List ℤ) → IsCustom custom → AreFew (xs ++ ys)
    → value_of (folded custom by) (xs ++ ys) ≡ merged (joined custom by) (value_of (folded custom by) xs) (value_of (folded custom by) ys)
few-append custom by xs ys is few =
    let fit = halves Fits xs ys (recursion_from_All Fits (xs ++ ys) few.fit) in
    value_of-append custom by xs ys is fit.0 fit.1 (omega (arith, length-append xs ys, few.fewer))

-- ---- the writes for a key of a state

abbrev is_for : ℕ → List ℕ → Write → Bool
is_for state key write = (write.state == state) && bytes_eq write.key key

pub amounts_of-append : (before after : List Write) (state : ℕ) (key : List ℕ) → amounts_of (before ++ after) state key ≡ amounts_of before state key ++ amounts_of after state key
amounts_of-append before after state key =
    ap (map (λ (write : Write). write.amount)) (filter-append (is_for state key) before after)
    ∙ map-append (λ (write : Write). write.amount) (filter (is_for state key) before) (filter (is_for state key) after)

abbrev Fit : Write → Type 0
Fit write = Fits write.amount

amounts_fit : (b : Bool) (write : Write) (rest : List Write) → Fit write → AllByRecursion Fits (map (λ (w : Write). w.amount) rest) → AllByRecursion Fits (map (λ (w : Write). w.amount) (cond b (write ∷ rest) rest))
amounts_fit true write rest fit all = (fit, all)
amounts_fit false write rest fit all = all

fit_for : (writes : List Write) (state : ℕ) (key : List ℕ) → AllByRecursion Fit writes → AllByRecursion Fits (amounts_of writes state key)
fit_for [] state key all = tt
fit_for (write ∷ writes) state key all = amounts_fit (is_for state key write) write (filter (is_for state key) writes) all.0 (fit_for writes state key all.1)

as_many : (b : Bool) (write : Write) (rest : List Write) (n : ℕ) → length (map (λ (w : Write). w.amount) rest) ≤ n → length (map (λ (w : Write). w.amount) (cond b (write ∷ rest) rest)) ≤ n + 1
as_many true write rest n few = omega arith
as_many false write rest n few = omega arith

few_for : (writes : List Write) (state : ℕ) (key : List ℕ) → length (amounts_of writes state key) ≤ length writes
few_for [] state key = omega arith
few_for (write ∷ writes) state key = omega (arith, as_many (is_for state key write) write (filter (is_for state key) writes) (length writes) (few_for writes state key))

-- the value of a key in joined writes is the merge of its values in each
pub base-append : (custom : Custom) (by : Fold) (xs ys : List Write) (state : ℕ) (key : List ℕ) → IsCustom custom → AreFewWrites (xs ++ ys)
    → base (folded custom by) (xs ++ ys) state key ≡ merged (joined custom by) (base (folded custom by) xs state key) (base (folded custom by) ys state key)
base-append custom by xs ys state key is few =
    let fit = halves Fit xs ys (recursion_from_All Fit (xs ++ ys) few.fit) in
    ap (value_of (folded custom by)) (amounts_of-append xs ys state key)
    ∙ value_of-append custom by (amounts_of xs state key) (amounts_of ys state key) is (fit_for xs state key fit.0) (fit_for ys state key fit.1)
    (omega (arith, length-append xs ys, few.fewer, few_for xs state key, few_for ys state key))

-- the table of joined writes is the merge of the tables of each
pub IsTable-append : (custom : Custom) (by : Fold) (xs ys : List Write) (state : ℕ) (earlier later pairs : List Pair) → IsCustom custom → AreFewWrites (xs ++ ys)
    → IsTable (folded custom by) xs state earlier → IsTable (folded custom by) ys state later → AreMerged (joined custom by) earlier later pairs
    → IsTable (folded custom by) (xs ++ ys) state pairs
IsTable-append custom by xs ys state earlier later pairs is few first second merge = record {
  ordered = merge.ordered;
  values = λ key. merge.values key ∙ ap (λ o. merged (joined custom by) o (value_at later key)) (first.values key)
      ∙ ap (merged (joined custom by) (base (folded custom by) xs state key)) (second.values key)
      ∙ sym (base-append custom by xs ys state key is few);
}

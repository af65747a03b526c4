-- Items that move between hands, and numbers in order.
use Rattle.std.proofs.Common.{◌≡◌, ◌<◌, ◌≤◌, ℕ, zero, suc, Bool, true, false, cond, ◌+◌, List, [], ◌∷◌, ◌++◌, length, map, None, Some, set, get_or, Vec, sym, refl, ap, subst, ◌∙◌, append_assoc, nat_lt, arith, ◌%◌, length-append}
use borrow.Author.Tests.{ltb-true, ltb-false, lt-ltb}
use Rattle.std.specs.Prelude.{slice_get}
use Rattle.std.specs.List.{AllByRecursion, range_with_len}
use Rattle.std.specs.List.Sorted.{IsNonDecreasingBy, IsPermutation}
use Rattle.std.specs.declared.alloc.Global.{Global}
use Rattle.std.proofs.lemmas.List.Sorted.{IsPermutation-append_left, IsPermutation-append_right, IsPermutation-append_comm, IsPermutation-refl, IsPermutation-trans}
use Rattle.event_worlds.specs.counted_items.Weights.{Same, weigh}
use Rattle.std.proofs.Math.Nat.{mod-add-mod, mod-eq_of_lt}
use Rattle.std.proofs.lemmas.List.{length-map, length-set}
use Rattle.event_worlds.proofs.counted_items.Each.{each-weaker}
use Rattle.event_worlds.proofs.counted_items.Sums.{same-IsPermutation}
use Rattle.event_worlds.proofs.counted_items.Weighing.{weigh-map}
use Rattle.worker_stretches.specs.Hands.{AreInTurn, GivesAt, IsInTurn, items_in}

module _ {X : Type 0} where
  pub is_permutation : (xs ys : List X) → xs ≡ ys → IsPermutation xs ys
  is_permutation xs ys is = subst (IsPermutation xs) is (IsPermutation-refl xs)

  pub at-some : (xs : List X) (n : ℕ) (x : X) → n < length xs → x ≡ get_or xs n x → slice_get xs n ≡ Some x
  at-some [] n x below is = absurd (omega arith)
  at-some (y ∷ ys) zero x below is = ap (λ (z : X). Some z) (sym is)
  at-some (y ∷ ys) (suc n) x below is = at-some ys n x (omega arith) is

  pub not-some : (x : X) → None ≡ Some x → ⊥
  not-some x is = cc

  pub some-is : (x y : X) → Some x ≡ Some y → x ≡ y
  some-is x y is = cc

  -- one more item in a hand
  put-in : (hands : List (Vec X Global)) (n : ℕ) (before after : Vec X Global) (x : X) → slice_get hands n ≡ Some before → after.items ≡ before.items ++ x ∷ []
      → IsPermutation (items_in hands ++ x ∷ []) (items_in (set hands n after))
  put-in [] n before after x at items = absurd (let e : None ≡ Some before = at in cc)
  put-in (h ∷ hs) zero before after x at items =
      let is : h ≡ before = let e : Some h ≡ Some before = at in cc in
      let then : after.items ≡ h.items ++ x ∷ [] = items ∙ ap (λ (v : Vec X Global). v.items ++ x ∷ []) (sym is) in
      IsPermutation-trans ((h.items ++ items_in hs) ++ x ∷ []) (h.items ++ (x ∷ items_in hs)) (after.items ++ items_in hs)
      (subst (λ (zs : List X). IsPermutation zs (h.items ++ (x ∷ items_in hs))) (sym (append_assoc h.items (items_in hs) (x ∷ [])))
      (IsPermutation-append_right h.items (items_in hs ++ x ∷ []) (x ∷ items_in hs) (IsPermutation-append_comm (items_in hs) (x ∷ []))))
      (is_permutation (h.items ++ (x ∷ items_in hs)) (after.items ++ items_in hs) (sym (append_assoc h.items (x ∷ []) (items_in hs)) ∙ ap (λ (zs : List X). zs ++ items_in hs) (sym then)))
  put-in (h ∷ hs) (suc n) before after x at items =
      subst (λ (zs : List X). IsPermutation zs (h.items ++ items_in (set hs n after))) (sym (append_assoc h.items (items_in hs) (x ∷ [])))
      (IsPermutation-append_right h.items (items_in hs ++ x ∷ []) (items_in (set hs n after)) (put-in hs n before after x at items))

  -- so far, and one item more
  pub dealt-more : (all rest : List X) (old new : List (Vec X Global)) (n : ℕ) (x : X) → IsPermutation all (items_in old ++ x ∷ rest) → GivesAt n x old new
      → IsPermutation all (items_in new ++ rest)
  dealt-more all rest old new n x so_far gives =
      IsPermutation-trans all (items_in old ++ x ∷ rest) (items_in new ++ rest) so_far
      (subst (λ (zs : List X). IsPermutation zs (items_in new ++ rest)) (append_assoc (items_in old) (x ∷ []) rest)
      (IsPermutation-append_left rest (items_in old ++ x ∷ []) (items_in new)
      (subst (λ (hs : List (Vec X Global)). IsPermutation (items_in old ++ x ∷ []) (items_in hs)) (sym gives.others) (put-in old n gives.before gives.after x gives.at gives.items))))

  pub gives-many : (old new : List (Vec X Global)) (n : ℕ) (x : X) → GivesAt n x old new → length new ≡ length old
  gives-many old new n x gives = ap length gives.others ∙ length-set old n gives.after

  pub items-more : (all : List X) (rest : List (Vec X Global)) (hand : Vec X Global) (before now : List X) → before ++ (hand.items ++ items_in rest) ≡ all → now ≡ before ++ hand.items → now ++ items_in rest ≡ all
  items-more all rest hand before now so_far is = ap (λ (zs : List X). zs ++ items_in rest) is ∙ append_assoc before hand.items (items_in rest) ∙ so_far

  no-items : (xs ys : List X) → xs ++ ys ≡ [] → (xs ≡ []) × (ys ≡ [])
  no-items [] ys is = (refl, is)
  no-items (x ∷ xs) ys is = absurd (let e : x ∷ (xs ++ ys) ≡ [] = is in cc)

  pub one-empty : (hands : List (Vec X Global)) (v : Vec X Global) → items_in hands ≡ [] → v.items ≡ [] → items_in (hands ++ v ∷ []) ≡ []
  one-empty [] v none empty = ap (λ (zs : List X). zs ++ []) empty
  one-empty (h ∷ hs) v none empty =
      let parts = no-items h.items (items_in hs) none in
      ap (λ (zs : List X). zs ++ items_in (hs ++ v ∷ [])) parts.0 ∙ one-empty hs v parts.1 empty

-- ---- items in turn

-- So many items were dealt out, and the next goes to this hand.
pub record Turning {X : Type 0} (first count : ℕ) (all rest : List X) (hands : List (Vec X Global)) (at : ℕ) : Type 0 where
  pub done : List X
  pub parts : done ++ rest ≡ all
  pub next : at ≡ (first + length done) % count
  pub in_turn : AreInTurn first count all hands

module _ {X : Type 0} (first count : ℕ) (all : List X) where
  none-in-turn : (hands : List (Vec X Global)) → items_in hands ≡ [] → (n : ℕ) (hand : Vec X Global) → slice_get hands n ≡ Some hand → hand.items ≡ []
  none-in-turn [] none n hand at = absurd (not-some hand at)
  none-in-turn (h ∷ hs) none zero hand at = ap (λ (v : Vec X Global). v.items) (sym (some-is h hand at)) ∙ (no-items h.items (items_in hs) none).0
  none-in-turn (h ∷ hs) none (suc n) hand at = none-in-turn hs (no-items h.items (items_in hs) none).1 n hand at

  pub turning-none : (hands : List (Vec X Global)) → first < count → items_in hands ≡ [] → Turning first count all all hands first
  turning-none hands below none = record {
    done = [];
    parts = refl;
    next = sym (mod-eq_of_lt below) ∙ ap (λ (n : ℕ). n % count) (let e : first ≡ first + 0 = omega arith in e);
    in_turn = λ n hand at. subst (AllByRecursion (IsInTurn first count n all)) (sym (none-in-turn hands none n hand at)) tt;
  }

  at-middle : (done rest : List X) (x : X) → slice_get (done ++ x ∷ rest) (length done) ≡ Some x
  at-middle [] rest x = refl
  at-middle (y ∷ done) rest x = at-middle done rest x

  each-last : (n : ℕ) (xs : List X) (x : X) → AllByRecursion (IsInTurn first count n all) xs → IsInTurn first count n all x → AllByRecursion (IsInTurn first count n all) (xs ++ x ∷ [])
  each-last n [] x each here = (here, tt)
  each-last n (y ∷ xs) x each here = (each.0, each-last n xs x each.1 here)

  -- what was at a place and is changed there
  changed : (P : ℕ → Vec X Global → Type 0) (hands : List (Vec X Global)) (m : ℕ) (after : Vec X Global) → ((n : ℕ) (hand : Vec X Global) → slice_get hands n ≡ Some hand → P n hand) → P m after
      → (n : ℕ) (hand : Vec X Global) → slice_get (set hands m after) n ≡ Some hand → P n hand
  changed P [] m after each here n hand at = absurd (not-some hand at)
  changed P (h ∷ hs) zero after each here zero hand at = subst (P zero) (some-is after hand at) here
  changed P (h ∷ hs) zero after each here (suc n) hand at = each (suc n) hand at
  changed P (h ∷ hs) (suc m) after each here zero hand at = each zero hand at
  changed P (h ∷ hs) (suc m) after each here (suc n) hand at = changed (λ k. P (suc k)) hs m after (λ k v. each (suc k) v) here n hand at

  pub turning-more : (rest : List X) (x : X) (old new : List (Vec X Global)) (at then : ℕ) → Turning first count all (x ∷ rest) old at → GivesAt at x old new → then ≡ (at + 1) % count → Turning first count all rest new then
  turning-more rest x old new at then so_far gives next = record {
    done = so_far.done ++ x ∷ [];
    parts = append_assoc so_far.done (x ∷ []) rest ∙ so_far.parts;
    next = next ∙ ap (λ (n : ℕ). (n + 1) % count) so_far.next ∙ mod-add-mod (first + length so_far.done) count 1
        ∙ ap (λ (n : ℕ). n % count) (let l = length-append so_far.done (x ∷ []) in let e : first + length so_far.done + 1 ≡ first + length (so_far.done ++ x ∷ []) = omega arith in e);
    in_turn = λ n hand is. changed (λ m (v : Vec X Global). AllByRecursion (IsInTurn first count m all) v.items) old at gives.after so_far.in_turn
        (subst (AllByRecursion (IsInTurn first count at all)) (sym gives.items)
        (each-last at gives.before.items x (so_far.in_turn at gives.before gives.at) (record {
          place = length so_far.done;
          there = subst (λ xs. slice_get xs (length so_far.done) ≡ Some x) so_far.parts (at-middle so_far.done rest x);
          turn = sym so_far.next;
        }))) n hand (ap (λ hs. slice_get hs n) (sym gives.others) ∙ is);
  }

-- ---- numbers in order

-- numbers that rise, by recursion
abbrev AreRising : List ℕ → Type 0
AreRising [] = Unit {0}
AreRising (n ∷ ns) = AllByRecursion (λ m. n ≤ m) ns × AreRising ns

abbrev below : ℕ → ℕ → ℕ
below s m = cond (nat_lt m s) 1 0

none-below : (s : ℕ) (ns : List ℕ) → AllByRecursion (λ m. s ≤ m) ns → weigh (below s) ns ≡ 0
none-below s [] all = refl
none-below s (n ∷ ns) all =
    let here : nat_lt n s ≡ false = not-below n s (nat_lt n s) refl all.0 in
    let e = ap (λ (b : Bool). cond b (suc zero) zero) here in
    let rest = none-below s ns all.1 in omega arith
  where
    not-below : (n s : ℕ) (b : Bool) → nat_lt n s ≡ b → s ≤ n → nat_lt n s ≡ false
    not-below n s false is le = is
    not-below n s true is le = absurd (let l = ltb-true n s is in omega arith)

range-above : (s k count : ℕ) → s ≤ k → AllByRecursion (λ m. s ≤ m) (range_with_len k count)
range-above s k zero le = tt
range-above s k (suc count) le = (le, range-above s (k + 1) count (omega arith))

-- the least of numbers that weigh as a range is the first of it
first-is : (k count n : ℕ) (ns : List ℕ) → AllByRecursion (λ m. n ≤ m) ns → Same (n ∷ ns) (range_with_len k (suc count)) → n ≡ k
first-is k count n ns least same =
    let low : k ≤ n = not-less (nat_lt n k) refl in
    let high : n ≤ k = not-more (nat_lt k n) refl in omega arith
  where
    not-less : (b : Bool) → nat_lt n k ≡ b → k ≤ n
    not-less false is = ltb-false n k is
    not-less true is = absurd (
        let e = same (below k) in
        let none = none-below k (range_with_len k (suc count)) (range-above k k (suc count) (omega arith)) in
        let one = ap (λ (b : Bool). cond b (suc zero) zero) is in omega arith)

    not-more : (b : Bool) → nat_lt k n ≡ b → n ≤ k
    not-more false is = ltb-false k n is
    not-more true is = absurd (
        let over = ltb-true k n is in
        let e = same (below (suc k)) in
        let none = none-below (suc k) (n ∷ ns) (over, each-weaker (λ m. n ≤ m) (λ m. suc k ≤ m) (λ m le. omega arith) ns least) in
        let one = ap (λ (b : Bool). cond b (suc zero) zero) (lt-ltb k (suc k) (omega arith)) in omega arith)

pub in-order : (k count : ℕ) (ns : List ℕ) → AreRising ns → Same ns (range_with_len k count) → ns ≡ range_with_len k count
in-order k zero [] rises same = refl
in-order k zero (n ∷ ns) rises same = absurd (let e = same (λ m. 1) in omega arith)
in-order k (suc count) [] rises same = absurd (let e = same (λ m. 1) in omega arith)
in-order k (suc count) (n ∷ ns) rises same =
    let first = first-is k count n ns rises.0 same in
    (λ i. first i ∷ in-order (k + 1) count ns rises.1 (λ f. let e = same f in let h = ap f first in omega arith) i)

rising-from : (ns : List ℕ) → IsNonDecreasingBy (λ n. n) ns → AreRising ns
rising-from [] up = tt
rising-from (n ∷ ns) up = (above n ns (λ j below. up 0 (suc j) n (omega arith) (omega arith)), rising-from ns (λ i j d le below. up (suc i) (suc j) d (omega arith) (omega arith)))
  where
    above : (n : ℕ) (ns : List ℕ) → ((j : ℕ) → j < length ns → n ≤ get_or ns j n) → AllByRecursion (λ m. n ≤ m) ns
    above n [] each = tt
    above n (m ∷ ns) each = (each 0 (omega arith), above n ns (λ j below. each (suc j) (omega arith)))

-- items in the order of their numbers, which are those of a range
pub sorted : {X : Type 0} (number : X → ℕ) (old new : List X) → IsPermutation (map number old) (range_with_len 0 (length old)) → IsPermutation old new → length new ≡ length old → IsNonDecreasingBy number new
    → map number new ≡ range_with_len 0 (length new)
sorted {X} number old new are moved many up =
    subst (λ (n : ℕ). map number new ≡ range_with_len 0 n) (sym many)
    (in-order 0 (length old) (map number new) (rising-from (map number new) (mapped new up))
    (λ f. weigh-map f number new ∙ sym (same-IsPermutation old new moved (λ x. f (number x))) ∙ sym (weigh-map f number old) ∙ same-IsPermutation (map number old) (range_with_len 0 (length old)) are f))
  where
    at : (xs : List X) (i : ℕ) (n : ℕ) (x : X) → i < length xs → get_or (map number xs) i n ≡ number (get_or xs i x)
    at [] i n x below = absurd (omega arith)
    at (y ∷ ys) zero n x below = refl
    at (y ∷ ys) (suc i) n x below = at ys i n x (omega arith)

    mapped : (xs : List X) → IsNonDecreasingBy number xs → IsNonDecreasingBy (λ n. n) (map number xs)
    mapped [] up i j d le below = absurd (omega arith)
    mapped (x ∷ xs) up i j d le below =
        let len = length-map (x ∷ xs) number in
        let p = at (x ∷ xs) i d x (omega arith) in
        let q = at (x ∷ xs) j d x (omega arith) in
        let r = up i j x le (omega arith) in omega arith

-- Rising stamps: the stamps of one number, and two rising lists that have each stamp as often.
use Rattle.std.proofs.Common.{◌≡◌, ◌≢◌, ℕ, suc, ◌+◌, ◌<◌, ◌≤◌, nat_le, Bool, true, false, cond, List, [], ◌∷◌, ◌++◌, ⊎_elim, sym, refl, ap, ◌∙◌, arith}
use Rattle.std.proofs.lemmas.Slice.Eq.{bytes_eq-Decides}
use Rattle.std.proofs.lemmas.Bool.Decides.{nat_tests}
use Rattle.std.specs.Str.{bytes_eq}
use Rattle.std.specs.List.{AllByRecursion}
use Rattle.std.specs.Coded.{Coded, code_by, coded×, coded_ℕ, coded_list}
use Rattle.counted_items.specs.Weights.{weigh, Same}
use Rattle.counted_items.specs.Codes.{is_item, times}
use Rattle.counted_items.proofs.Each.{each-append, each-front, each-back, each-weaker}
use Rattle.counted_items.proofs.Equality.{same_or_not, counted, is_item-refl, other_items}
use Rattle.pass_numbers.proofs.Numbering.{same_digits}
use Rattle.pass_numbers.proofs.Weights.{each-none, none-each}
use Rattle.task_queues.specs.declared.rule.Stamped.{Stamped}
use Rattle.task_queues.specs.Books.{stamp, stamped_from}
use Rattle.task_queues.specs.Rule.{Below, Rises}
use Rattle.task_queues.specs.Whole.{stamps_under}

-- a stamp by its parts
abbrev pub coded_stamp : {M : Type 0} → Coded M → Coded (Stamped M)
coded_stamp {M} coded =
    code_by (List ℕ × (ℕ × M)) (coded× (coded_list coded_ℕ) (coded× coded_ℕ coded)) (λ s. (s.digits, (s.place, s.item)))
    (λ p. record { digits = p.0; place = p.1.0; item = p.1.1 }) (λ s. refl)

module _ {M : Type 0} where
  -- ---- two rising lists in one

  abbrev pub BelowAll : List (Stamped M) → Stamped M → Type 0
  BelowAll stamps s = AllByRecursion (Below s) stamps

  pub Rises-front : (xs ys : List (Stamped M)) → Rises (xs ++ ys) → Rises xs
  Rises-front [] ys rises = tt
  Rises-front (x ∷ xs) ys rises = (each-front (Below x) xs ys rises.0, Rises-front xs ys rises.1)

  pub Rises-across : (xs ys : List (Stamped M)) → Rises (xs ++ ys) → AllByRecursion (BelowAll ys) xs
  Rises-across [] ys rises = tt
  Rises-across (x ∷ xs) ys rises = (each-back (Below x) xs ys rises.0, Rises-across xs ys rises.1)

  pub Rises-append : (xs ys : List (Stamped M)) → Rises xs → Rises ys → AllByRecursion (BelowAll ys) xs → Rises (xs ++ ys)
  Rises-append [] ys first second across = second
  Rises-append (x ∷ xs) ys first second across = (each-append (Below x) xs ys first.0 across.0, Rises-append xs ys first.1 second across.1)

  -- 1 for a stamp of the same number that is not above
  early : Stamped M → Stamped M → ℕ
  early x s = cond (bytes_eq x.digits s.digits) (cond (nat_le s.place x.place) 1 0) 0

  early-none : (x s : Stamped M) → Below x s → early x s ≡ 0
  unfolding early
  early-none x s below = by_case (bytes_eq x.digits s.digits) refl
    where
      by_case : (b : Bool) → bytes_eq x.digits s.digits ≡ b → ◌≡◌ {A = ℕ} (cond b (cond (nat_le s.place x.place) 1 0) 0) 0
      by_case true is = let l : x.place < s.place = below ((bytes_eq-Decides x.digits s.digits).0 is) in grind (arith, nat_tests)
      by_case false is = refl

  none-early : (x s : Stamped M) → early x s ≡ 0 → Below x s
  unfolding early
  none-early x s none same =
      let yes : bytes_eq x.digits s.digits ≡ true = (bytes_eq-Decides x.digits s.digits).1 same in
      late (nat_le s.place x.place) refl (rw yes at none)
    where
      late : (t : Bool) → t ≡ nat_le s.place x.place → ◌≡◌ {A = ℕ} (cond t 1 0) 0 → x.place < s.place
      late true is e = absurd (omega arith)
      late false is e = grind (arith, nat_tests)

  -- what a stamp is below stays so where each stamp stands as often
  pub below_same : (x : Stamped M) (xs ys : List (Stamped M)) → Same xs ys → BelowAll xs x → BelowAll ys x
  below_same x xs ys same all =
      let e = same (early x) in
      let none = none-each (early x) xs (each-weaker (Below x) (λ s. early x s ≡ 0) (early-none x) xs all) in
      each-weaker (λ s. early x s ≡ 0) (Below x) (none-early x) ys (each-none (early x) ys (sym e ∙ none))

  -- ---- the stamps of one number

  abbrev pub IsUnder : List ℕ → Stamped M → Type 0
  IsUnder digits s = s.digits ≡ digits

  -- the weight of the stamps of one number
  abbrev pub under : (Stamped M → ℕ) → List ℕ → Stamped M → ℕ
  under f digits s = cond (bytes_eq s.digits digits) (f s) 0

  pub weigh-under : (f : Stamped M → ℕ) (digits : List ℕ) (stamps : List (Stamped M)) → weigh f (stamps_under digits stamps) ≡ weigh (under f digits) stamps
  weigh-under f digits [] = refl
  weigh-under f digits (s ∷ stamps) = by_case (bytes_eq s.digits digits) (weigh-under f digits stamps)
    where
      by_case : (b : Bool) → weigh f (stamps_under digits stamps) ≡ weigh (under f digits) stamps → weigh f (cond b (s ∷ stamps_under digits stamps) (stamps_under digits stamps)) ≡ cond b (f s) 0 + weigh (under f digits) stamps
      by_case true e = omega arith
      by_case false e = omega arith

  pub each-under_number : (P : Stamped M → Type 0) (digits : List ℕ) (stamps : List (Stamped M)) → AllByRecursion P stamps → AllByRecursion P (stamps_under digits stamps)
  each-under_number P digits [] all = tt
  each-under_number P digits (s ∷ stamps) all = by_case (bytes_eq s.digits digits) (each-under_number P digits stamps all.1)
    where
      by_case : (b : Bool) → AllByRecursion P (stamps_under digits stamps) → AllByRecursion P (cond b (s ∷ stamps_under digits stamps) (stamps_under digits stamps))
      by_case true rest = (all.0, rest)
      by_case false rest = rest

  pub Rises-under : (digits : List ℕ) (stamps : List (Stamped M)) → Rises stamps → Rises (stamps_under digits stamps)
  Rises-under digits [] rises = tt
  Rises-under digits (s ∷ stamps) rises = by_case (bytes_eq s.digits digits) (Rises-under digits stamps rises.1)
    where
      by_case : (b : Bool) → Rises (stamps_under digits stamps) → Rises (cond b (s ∷ stamps_under digits stamps) (stamps_under digits stamps))
      by_case true rest = (each-under_number (Below s) digits stamps rises.0, rest)
      by_case false rest = rest

  pub under-are : (digits : List ℕ) (stamps : List (Stamped M)) → AllByRecursion (IsUnder digits) (stamps_under digits stamps)
  under-are digits [] = tt
  under-are digits (s ∷ stamps) = by_case (bytes_eq s.digits digits) refl (under-are digits stamps)
    where
      by_case : (b : Bool) → bytes_eq s.digits digits ≡ b → AllByRecursion (IsUnder digits) (stamps_under digits stamps) → AllByRecursion (IsUnder digits) (cond b (s ∷ stamps_under digits stamps) (stamps_under digits stamps))
      by_case true is rest = ((bytes_eq-Decides s.digits digits).0 is, rest)
      by_case false is rest = rest

  -- ---- what was sent under a number

  sent-above : (digits : List ℕ) (from : ℕ) (x : M) (place : ℕ) (xs : List M) → from < place → BelowAll (stamped_from digits place xs) (stamp digits from x)
  sent-above digits from x place [] l = tt
  sent-above digits from x place (y ∷ xs) l = ((λ same. l), sent-above digits from x (suc place) xs (omega arith))

  pub sent-rises : (digits : List ℕ) (place : ℕ) (xs : List M) → Rises (stamped_from digits place xs)
  sent-rises digits place [] = tt
  sent-rises digits place (x ∷ xs) = (sent-above digits place x (suc place) xs (omega arith), sent-rises digits (suc place) xs)

  pub sent-are : (digits : List ℕ) (place : ℕ) (xs : List M) → AllByRecursion (IsUnder digits) (stamped_from digits place xs)
  sent-are digits place [] = tt
  sent-are digits place (x ∷ xs) = (refl, sent-are digits (suc place) xs)

  pub sent-under : (f : Stamped M → ℕ) (digits : List ℕ) (place : ℕ) (xs : List M) → weigh (under f digits) (stamped_from digits place xs) ≡ weigh f (stamped_from digits place xs)
  sent-under f digits place [] = refl
  sent-under f digits place (x ∷ xs) =
      let here : under f digits (stamp digits place x) ≡ f (stamp digits place x) = rw (same_digits digits) refl in
      let rest = sent-under f digits (suc place) xs in omega arith

  pub sent-other : (f : Stamped M → ℕ) (digits other : List ℕ) (place : ℕ) (xs : List M) → bytes_eq other digits ≡ false → weigh (under f digits) (stamped_from other place xs) ≡ 0
  sent-other f digits other place [] apart = refl
  sent-other f digits other place (x ∷ xs) apart =
      let here : under f digits (stamp other place x) ≡ 0 = rw apart refl in
      let rest = sent-other f digits other (suc place) xs apart in omega arith

-- ---- equal lists

module _ {M : Type 0} (coded : Coded M) (digits : List ℕ) where
  -- where one list begins with x and the other with y, and y is not x, x is above y
  first_above : (x y : Stamped M) (xs ys : List (Stamped M)) → x ≢ y → AllByRecursion (IsUnder digits) (x ∷ xs) → AllByRecursion (IsUnder digits) (y ∷ ys) → Rises (y ∷ ys) → Same (x ∷ xs) (y ∷ ys) → y.place < x.place
  first_above x y xs ys apart mine theirs rises same =
      let c : Coded (Stamped M) = coded_stamp coded in
      let e = same (is_item c x) in
      let own = is_item-refl c x in
      let other : is_item c x y ≡ 0 = rw (other_items c y x (λ is. apart (sym is))) refl in
      let some : 1 ≤ times c x ys = omega arith in
      counted c (Below y) x ys rises.0 some (theirs.0 ∙ sym mine.0)

  pub rising_same : (xs ys : List (Stamped M)) → AllByRecursion (IsUnder digits) xs → AllByRecursion (IsUnder digits) ys → Rises xs → Rises ys → Same xs ys → xs ≡ ys
  rising_same [] [] mine theirs first second same = refl
  rising_same [] (y ∷ ys) mine theirs first second same = let e = same (λ s. 1) in absurd (omega arith)
  rising_same (x ∷ xs) [] mine theirs first second same = let e = same (λ s. 1) in absurd (omega arith)
  rising_same (x ∷ xs) (y ∷ ys) mine theirs first second same =
      let is : x ≡ y = ⊎_elim (λ is. is)
      (λ apart.
      let above = first_above x y xs ys apart mine theirs second same in
      let below = first_above y x ys xs (λ e. apart (sym e)) theirs mine first (λ f. sym (same f)) in absurd (omega arith)) (same_or_not (coded_stamp coded) x y) in
      let rest = rising_same xs ys mine.1 theirs.1 first.1 second.1 (λ f. let e = same f in let g : f x ≡ f y = ap f is in omega arith) in
      λ i. is i ∷ rest i

-- The shares of passes come to what the first had, or to less, and a pass with all of it has all numbers.
use Rattle.std.proofs.Common.{◌≡◌, ◌⊎◌, ℕ, ◌+◌, ◌-◌, ◌/◌, ◌<◌, ◌≤◌, max, nat_lt, Bool, true, false, cond, List, [], ◌∷◌, ◌++◌, set, inl, inr, ⊎_elim, sym, refl, ap, ◌∙◌, arith}
use Rattle.std.proofs.lemmas.Bool.Decides.{nat_tests}
use Rattle.std.specs.List.{AllByRecursion}
use mathlib.Core.Option.{some}
use lib.ListN.{get_elem?}
use Rattle.counted_items.specs.Weights.{weigh}
use Rattle.counted_items.proofs.Each.{each-append}
use Rattle.pass_numbers.specs.declared.Number.{Number}
use Rattle.pass_numbers.specs.Numbers.{over, IsWhole, Numbered}
use Rattle.pass_numbers.proofs.Lists.{each-set, each-at}
use Rattle.pass_numbers.proofs.Weights.{weigh-set, weigh-set-append, weigh-at}
use Rattle.pass_numbers.proofs.Numbering.{whole_of}
use Rattle.task_queues.specs.declared.rule.Book.{Book}
use Rattle.task_queues.specs.declared.rule.View.{View}
use Rattle.task_queues.specs.Books.{all_shares, given_share, left_share, no_view, numbers_in, numbers_of}
use Rattle.task_queues.specs.Rule.{HasShare, Shared}

-- ---- what a split does with a share

-- a share of 2 and more is divided, and both get some
abbrev pub IsDivided : ℕ → ℕ → ℕ → Type 0
IsDivided share left given = (left + given ≡ share) × (1 ≤ left) × (1 ≤ given)

-- less is lost
abbrev pub IsLost : ℕ → ℕ → ℕ → Type 0
IsLost share left given = (share < 2) × (left ≡ 0) × (given ≡ 0)

pub share_cases : (share : ℕ) → IsDivided share (left_share share) (given_share share) ⊎ IsLost share (left_share share) (given_share share)
share_cases share = by_case (nat_lt share 2) refl
  where
    by_case : (t : Bool) → nat_lt share 2 ≡ t → IsDivided share (cond t 0 (share - max 1 (share / 256))) (cond t 0 (max 1 (share / 256))) ⊎ IsLost share (cond t 0 (share - max 1 (share / 256))) (cond t 0 (max 1 (share / 256)))
    by_case true is = let few : share < 2 = grind (arith, nat_tests) in inr (few, refl, refl)
    by_case false is = let some_left : 2 ≤ share = grind (arith, nat_tests) in inl (omega arith, omega arith, omega arith)

module _ {M : Type 0} where
  abbrev pub share_of : View M → ℕ
  share_of v = v.share

  some_share : (v : View M) (b : Book M) (bs : List (Book M)) → v.books ≡ b ∷ bs → HasShare v → 1 ≤ v.share
  some_share v b bs is has = ⊎_elim (λ none. let e : b ∷ bs ≡ [] = sym is ∙ none in absurd (cc)) (λ some_left. some_left) has

  -- a step leaves a pass its share
  pub shared_set : (views : List (View M)) (port : ℕ) (v w : View M) (b : Book M) (bs : List (Book M)) → get_elem? views port ≡ some v → v.books ≡ b ∷ bs → w.share ≡ v.share → Shared views → Shared (set views port w)
  shared_set views port v w b bs at is same shared =
      let total = weigh-set share_of views port v w at in
      ⊎_elim (λ less. inl (omega arith)) (λ all. inr (omega arith, each-set HasShare views port w all.1 (inr (let own = some_share v b bs is (each-at HasShare views port v all.1 at) in omega arith)))) shared

  -- a split divides it, or it is lost
  pub shared_cut : (views : List (View M)) (port : ℕ) (v w r : View M) (b : Book M) (bs : List (Book M)) → get_elem? views port ≡ some v → v.books ≡ b ∷ bs → w.share ≡ left_share v.share → r.share ≡ given_share v.share → Shared views → Shared (set views port w ++ r ∷ [])
  shared_cut views port v w r b bs at is left given shared =
      ⊎_elim divided lost (share_cases v.share)
    where
      total : weigh share_of (set views port w ++ r ∷ []) + v.share ≡ weigh share_of views + w.share + r.share
      total = weigh-set-append share_of views port v w r at

      divided : IsDivided v.share (left_share v.share) (given_share v.share) → Shared (set views port w ++ r ∷ [])
      divided parts =
          let sum = parts.0 in let some_left = parts.1 in let some_given = parts.2 in
          let e = total in
          ⊎_elim (λ less. inl (omega arith))
          (λ all. inr (omega arith, each-append HasShare (set views port w) (r ∷ []) (each-set HasShare views port w all.1 (inr (omega arith))) (inr (omega arith), tt))) shared

      lost : IsLost v.share (left_share v.share) (given_share v.share) → Shared (set views port w ++ r ∷ [])
      lost parts =
          let few = parts.0 in let none_left = parts.1 in let none_given = parts.2 in
          let e = total in
          ⊎_elim (λ less. inl (omega arith)) (λ all. inl (let own = some_share v b bs is (each-at HasShare views port v all.1 at) in let sum = all.0 in omega arith)) shared

  -- a join adds one to the other
  pub shared_join : (views : List (View M)) (port other : ℕ) (v u w : View M) (b : Book M) (bs : List (Book M)) → get_elem? views port ≡ some v → get_elem? (set views port w) other ≡ some u → v.books ≡ b ∷ bs → w.share ≡ v.share + u.share
      → Shared views → Shared (set (set views port w) other no_view)
  shared_join views port other v u w b bs at there is sum shared =
      let first = weigh-set share_of views port v w at in
      let second = weigh-set share_of (set views port w) other u no_view there in
      ⊎_elim (λ less. inl (omega arith))
      (λ all. inr (omega arith, each-set HasShare (set views port w) other no_view (each-set HasShare views port w all.1 (inr (let own = some_share v b bs is (each-at HasShare views port v all.1 at) in omega arith))) (inl refl))) shared

  -- no pass has more than all of it
  pub share-le : (views : List (View M)) (port : ℕ) (v : View M) → get_elem? views port ≡ some v → Shared views → v.share ≤ all_shares
  share-le views port v at shared = let own = weigh-at share_of views port v at in ⊎_elim (λ less. omega arith) (λ all. let sum = all.0 in omega arith) shared

  -- ---- a pass with all of it

  none_others : (f : Number → ℕ) (us : List (View M)) → AllByRecursion HasShare us → weigh share_of us ≡ 0 → over numbers_of f us ≡ 0
  none_others f [] all none = refl
  none_others f (u ∷ us) all none =
      let here : weigh f (numbers_of u) ≡ 0 = ⊎_elim (λ no_books. ap (λ (bs : List (Book M)). weigh f (numbers_in bs)) no_books) (λ some_left. absurd (omega arith)) all.0 in
      let later = none_others f us all.1 (omega arith) in omega arith

  pub all_is_whole : (views : List (View M)) (port : ℕ) (v : View M) → get_elem? views port ≡ some v → Shared views → Numbered numbers_of views → v.share ≡ all_shares → IsWhole (numbers_of v)
  all_is_whole views port v at shared numbered all =
      ⊎_elim (λ less. let own = weigh-at share_of views port v at in absurd (omega arith)) (λ each. whole_of numbers_of views (numbers_of v) (alone each.0 each.1) numbered) shared
    where
      alone : weigh share_of views ≡ all_shares → AllByRecursion HasShare views → (f : Number → ℕ) → weigh f (numbers_of v) ≡ over numbers_of f views
      alone sum each f =
          let moved = weigh-set share_of views port v no_view at in
          let others = none_others f (set views port no_view) (each-set HasShare views port no_view each (inl refl)) (omega arith) in
          let numbers = weigh-set (λ (u : View M). weigh f (numbers_of u)) views port v no_view at in omega arith

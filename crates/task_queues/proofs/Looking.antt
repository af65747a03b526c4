-- What a whole pass knows of its box.
use Rattle.std.proofs.Common.{◌≡◌, ◌≢◌, ℕ, ◌+◌, ◌≤◌, List, [], ◌∷◌, length, sym, refl, ap, subst, ◌∙◌, arith}
use Rattle.std.proofs.lemmas.List.{length-map}
use Rattle.std.specs.List.{AllByRecursion}
use Rattle.counted_items.proofs.Each.{each-append}
use Rattle.pass_numbers.specs.Numbers.{IsWhole}
use Rattle.pass_numbers.proofs.Lists.{each-at}
use Rattle.topology_plan.specs.Topology.{Topology}
use Rattle.task_queues.specs.declared.rule.Book.{Book}
use Rattle.task_queues.specs.declared.rule.Stamped.{Stamped}
use Rattle.task_queues.specs.declared.rule.View.{View}
use Rattle.task_queues.specs.Books.{all_shares, both_of, numbers_of, taken_of}
use Rattle.task_queues.specs.Rule.{items_of, IsKept, Stood}
use Rattle.task_queues.specs.Whole.{HoldsRest}
use Rattle.task_queues.proofs.Shares.{share-le, all_is_whole}
use Rattle.task_queues.proofs.Whole.{whole_balanced, whole_above}
use Rattle.task_queues.proofs.Draining.{stood_few}

module _ {M : Type 0} (is_true : Topology → ℕ → M → Type 0) where
  of_items : (P : M → Type 0) (stamps : List (Stamped M)) → AllByRecursion P (items_of stamps) → AllByRecursion (λ (s : Stamped M). P s.item) stamps
  of_items P [] all = tt
  of_items P (s ∷ stamps) all = (all.0, of_items P stamps all.1)

  pub holds_rest : (v : View M) (items : List M) → v.books ≢ [] → Stood is_true v items → IsWhole (numbers_of v) → HoldsRest is_true v
  holds_rest v items some_book stood whole =
      let kept = stood.kept in
      let count = ap length kept.held_are in
      let same = length-map kept.held (λ (s : Stamped M). s.item) in
      let few = stood_few is_true v items some_book stood in record {
        held = kept.held;
        all = whole_balanced is_true items stood.views kept stood.pass v stood.here whole;
        are_true = named v.books some_book (each-at (λ (u : View M). AllByRecursion (IsKept is_true kept.plan kept.owner kept.capacity kept.held u) u.books) stood.views stood.pass v kept.books stood.here);
        took_true = took v.books (each-at (λ (u : View M). AllByRecursion (IsKept is_true kept.plan kept.owner kept.capacity kept.held u) u.books) stood.views stood.pass v kept.books stood.here);
        few = omega arith;
        rises = kept.rises;
        above = whole_above is_true items stood.views kept stood.pass v stood.here;
      }
    where
      took : (books : List (Book M)) → AllByRecursion (IsKept is_true stood.kept.plan stood.kept.owner stood.kept.capacity stood.kept.held v) books
          → AllByRecursion (λ (s : Stamped M). is_true v.plan v.owner s.item) (taken_of books)
      took [] all = tt
      took (b ∷ books) all =
          each-append (λ (s : Stamped M). is_true v.plan v.owner s.item) b.taken (taken_of books)
          (subst (λ (p : Topology × ℕ). AllByRecursion (λ (s : Stamped M). is_true p.0 p.1 s.item) b.taken) (λ i. (sym all.0.plan_is i, sym all.0.owner_is i)) all.0.taken_true) (took books all.1)

      named : (books : List (Book M)) → books ≢ [] → AllByRecursion (IsKept is_true stood.kept.plan stood.kept.owner stood.kept.capacity stood.kept.held v) books
          → AllByRecursion (λ (s : Stamped M). is_true v.plan v.owner s.item) stood.kept.held
      named [] some_book all = absurd (some_book refl)
      named (b ∷ books) some_book all =
          of_items (is_true v.plan v.owner) stood.kept.held
          (subst (AllByRecursion (is_true v.plan v.owner)) (sym stood.kept.held_are)
          (subst (λ (p : Topology × ℕ). AllByRecursion (is_true p.0 p.1) items) (λ i. (sym all.0.plan_is i, sym all.0.owner_is i)) stood.kept.items_true))

  -- ---- after a join, at which the pass looked

  pub joined_rest : (v w : View M) → w ≡ v → v.books ≢ [] → (items : List M) → Stood is_true v items → IsWhole (numbers_of w) → HoldsRest is_true w
  joined_rest v w is some_book items stood whole = subst (HoldsRest is_true) (sym is) (holds_rest v items some_book stood (subst (λ (u : View M). IsWhole (numbers_of u)) is whole))

  pub joined_few : (v u x : View M) → x ≡ both_of v u → (items : List M) → Stood is_true x items → v.share + u.share ≤ all_shares
  joined_few v u x is items stood =
      let few = share-le stood.views stood.pass x stood.here stood.kept.shared in
      let sum = ap (λ (z : View M). z.share) is in omega arith

  pub joined_whole : (v w : View M) → w ≡ v → (items : List M) → Stood is_true v items → w.share ≡ all_shares → IsWhole (numbers_of w)
  joined_whole v w is items stood all =
      let had : v.share ≡ all_shares = sym (ap (λ (u : View M). u.share) is) ∙ all in
      subst (λ (u : View M). IsWhole (numbers_of u)) (sym is) (all_is_whole stood.views stood.pass v stood.here stood.kept.shared stood.kept.numbered had)

-- What a pass with all numbers knows of the box.
use Rattle.std.proofs.Common.{◌≡◌, ℕ, ◌+◌, List, [], ◌∷◌, ◌++◌, length, length-append, sym, refl, ap, ◌∙◌, arith}
use Rattle.std.specs.List.{AllByRecursion}
use Rattle.std.proofs.lemmas.List.{length-map}
use mathlib.Core.Option.{some}
use lib.ListN.{get_elem?}
use Rattle.counted_items.specs.Weights.{weigh, Same}
use Rattle.counted_items.proofs.Each.{each-any, each-weaker}
use Rattle.counted_items.proofs.Weighing.{weigh-append, weigh-ones}
use Rattle.pass_numbers.specs.Numbers.{IsWhole}
use Rattle.pass_numbers.proofs.Lists.{each-at}
use Rattle.pass_numbers.proofs.Numbering.{only}
use Rattle.topology_plan.specs.Topology.{Topology}
use Rattle.task_queues.specs.declared.rule.Book.{Book}
use Rattle.task_queues.specs.declared.rule.Stamped.{Stamped}
use Rattle.task_queues.specs.declared.rule.View.{View}
use Rattle.task_queues.specs.Books.{no_view, sent_of, taken_of, numbers_in, numbers_of}
use Rattle.task_queues.specs.Rule.{Rises, IsKept, Kept}
use Rattle.task_queues.proofs.Weighed.{sent_weight, taken_weight, in_view, over_books, sent-is, taken-is, balanced_in}

no_book : {M : Type 0} (bs : List (Book M)) → numbers_in bs ≡ [] → bs ≡ []
no_book [] none = refl
no_book (b ∷ bs) none = cc

-- as many of each weigh the same
pub same-length : {X : Type 0} (xs ys : List X) → Same xs ys → length xs ≡ length ys
same-length xs ys same = sym (weigh-ones xs) ∙ same (λ x. 1) ∙ weigh-ones ys

module _ {M : Type 0} (is_true : Topology → ℕ → M → Type 0) (items : List M) (views : List (View M)) (kept : Kept is_true items views) (port : ℕ) (v : View M) (at : get_elem? views port ≡ some v) where
  -- what was sent is what was taken and what the box holds
  pub whole_balanced : IsWhole (numbers_of v) → Same (sent_of v.books) (taken_of v.books ++ kept.held)
  whole_balanced whole h =
      let alone : (f : Book M → ℕ) → over_books f views ≡ in_view f v = λ f.
      only numbers_of no_view refl (in_view f) refl views port v (each-any (λ (u : View M). numbers_of u ≡ [] → in_view f u ≡ 0) (λ u none. ap (weigh f) (no_book u.books none)) views) whole kept.numbered at in
      let s = alone (sent_weight h) in
      let t = alone (taken_weight h) in
      let e = balanced_in kept.held views kept.balanced h in
      let x = sent-is h v.books in
      let y = taken-is h v.books in
      let z = weigh-append h (taken_of v.books) kept.held in omega arith

  -- so many were not taken
  pub whole_left : IsWhole (numbers_of v) → length (sent_of v.books) ≡ length (taken_of v.books) + length items
  whole_left whole =
      let e = same-length (sent_of v.books) (taken_of v.books ++ kept.held) (whole_balanced whole) in
      let a = length-append (taken_of v.books) kept.held in
      let b = length-map kept.held (λ (s : Stamped M). s.item) in
      let c = ap length kept.held_are in omega arith

  -- each book's taken stamps rise, and those in the box are above them
  pub whole_above : AllByRecursion (λ (b : Book M). Rises (b.taken ++ kept.held)) v.books
  whole_above =
      each-weaker (IsKept is_true kept.plan kept.owner kept.capacity kept.held v) (λ (b : Book M). Rises (b.taken ++ kept.held)) (λ b here. here.rises) v.books
      (each-at (λ (u : View M). AllByRecursion (IsKept is_true kept.plan kept.owner kept.capacity kept.held u) u.books) views port v kept.books at)

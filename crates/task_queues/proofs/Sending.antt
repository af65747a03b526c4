-- A push keeps the rule.
use Rattle.std.proofs.Common.{◌≡◌, ℕ, ◌+◌, ◌<◌, false, List, [], ◌∷◌, ◌++◌, set, length, refl, ap, subst, ◌∙◌, append_assoc, length-append, arith}
use Rattle.std.specs.List.{AllByRecursion}
use mathlib.Core.Option.{some}
use lib.ListN.{get_elem?}
use Rattle.counted_items.specs.Weights.{weigh}
use Rattle.counted_items.proofs.Each.{each-append, each-weaker}
use Rattle.counted_items.proofs.Weighing.{weigh-append}
use Rattle.pass_numbers.proofs.Lists.{each-both, each-set, each-at, map-append}
use Rattle.pass_numbers.proofs.Weights.{each-none}
use Rattle.pass_numbers.proofs.Numbering.{numbered_set}
use Rattle.topology_plan.specs.Topology.{Topology}
use Rattle.task_queues.specs.declared.rule.Book.{Book}
use Rattle.task_queues.specs.declared.rule.Stamped.{Stamped}
use Rattle.task_queues.specs.declared.rule.View.{View}
use Rattle.task_queues.specs.Books.{viewed, stamp, stamped_from, numbers_of}
use Rattle.task_queues.specs.Rule.{Below, Rises, IsKept, Kept}
use Rattle.task_queues.proofs.Weighed.{sent_weight, taken_weight, in_view, books-set, balanced_in, balanced_out}
use Rattle.task_queues.proofs.Shares.{shared_set}
use Rattle.task_queues.proofs.Stamps.{stamped-more, late, all-below, early, Rises-more}

-- what a book keeps is the same of views with the same terms
pub with_view : {M : Type 0} (is_true : Topology → ℕ → M → Type 0) (plan : Topology) (owner capacity : ℕ) (held : List (Stamped M)) (v w : View M) → w.plan ≡ v.plan → w.owner ≡ v.owner → w.capacity ≡ v.capacity
    → (bs : List (Book M)) → AllByRecursion (IsKept is_true plan owner capacity held v) bs → AllByRecursion (IsKept is_true plan owner capacity held w) bs
with_view is_true plan owner capacity held v w p o c bs all =
    each-weaker (IsKept is_true plan owner capacity held v) (IsKept is_true plan owner capacity held w)
    (λ b old. record { plan_is = p ∙ old.plan_is; owner_is = o ∙ old.owner_is; capacity_is = c ∙ old.capacity_is; sent_true = old.sent_true; taken_true = old.taken_true; rises = old.rises }) bs all

module _ {M : Type 0} (is_true : Topology → ℕ → M → Type 0) (plan : Topology) (owner capacity share : ℕ) (b : Book M) (bs : List (Book M)) where
  abbrev sent_book : M → Book M
  sent_book x = record { number = b.number; sent = b.sent ++ x ∷ []; taken = b.taken }

  pub push_kept : (n port : ℕ) (x : M) (items : List M) (views : List (View M)) → capacity ≡ n → is_true plan owner x → length items < n → Kept is_true items views → get_elem? views port ≡ some (viewed plan owner capacity share (b ∷ bs))
      → Kept is_true (items ++ x ∷ []) (set views port (viewed plan owner capacity share (sent_book x ∷ bs)))
  push_kept n port x items views room true_x short kept at =
      let v : View M = viewed plan owner capacity share (b ∷ bs) in
      let w : View M = viewed plan owner capacity share (sent_book x ∷ bs) in
      let s : Stamped M = stamp b.number.digits (length b.sent) x in
      let L : Stamped M → ℕ = late b.number.digits (length b.sent) in
      let P : View M → Type 0 = λ u. AllByRecursion (IsKept is_true kept.plan kept.owner kept.capacity kept.held u) u.books in
      let Q : View M → Type 0 = λ u. AllByRecursion (IsKept is_true kept.plan kept.owner kept.capacity (kept.held ++ s ∷ []) u) u.books in
      let own = each-at P views port v kept.books at in
      let none = early kept.held views port v b bs kept.balanced kept.numbered at refl in
      let still : (u : View M) (c : Book M) → IsKept is_true kept.plan kept.owner kept.capacity kept.held u c → taken_weight L c ≡ 0 → IsKept is_true kept.plan kept.owner kept.capacity (kept.held ++ s ∷ []) u c =
      λ u c old nothing. record {
        plan_is = old.plan_is;
        owner_is = old.owner_is;
        capacity_is = old.capacity_is;
        sent_true = old.sent_true;
        taken_true = old.taken_true;
        rises = subst Rises (append_assoc c.taken kept.held (s ∷ [])) (Rises-more (c.taken ++ kept.held) s old.rises
            (each-append (λ (y : Stamped M). Below y s) c.taken kept.held (all-below b.number.digits (length b.sent) x c.taken nothing) (all-below b.number.digits (length b.sent) x kept.held none.1)));
      } in
      let zeros = each-none (in_view (taken_weight L)) views none.0 in
      let all : AllByRecursion Q views =
      each-both P (λ u. in_view (taken_weight L) u ≡ 0) Q
      (λ u old nothing. each-both (IsKept is_true kept.plan kept.owner kept.capacity kept.held u) (λ c. taken_weight L c ≡ 0) (IsKept is_true kept.plan kept.owner kept.capacity (kept.held ++ s ∷ []) u) (still u) u.books old (each-none (taken_weight L) u.books nothing)) views kept.books zeros in
      let mine = each-at Q views port v all at in
      let true_here : is_true kept.plan kept.owner x = subst (λ (k : ℕ). is_true kept.plan k x) own.0.owner_is (subst (λ (p : Topology). is_true p owner x) own.0.plan_is true_x) in
      let count = own.0.capacity_is in
      record {
        plan = kept.plan;
        owner = kept.owner;
        capacity = kept.capacity;
        held = kept.held ++ s ∷ [];
        held_are = map-append (λ (t : Stamped M). t.item) kept.held (s ∷ []) ∙ ap (λ ys. ys ++ x ∷ []) kept.held_are;
        few = omega (arith, length-append items (x ∷ []));
        items_true = each-append (is_true kept.plan kept.owner) items (x ∷ []) kept.items_true (true_here, tt);
        named = each-set (λ (u : View M). u.fresh ≡ false) views port w kept.named refl;
        books = each-set Q views port w all
            (record { plan_is = mine.0.plan_is; owner_is = mine.0.owner_is; capacity_is = mine.0.capacity_is; sent_true = each-append (is_true kept.plan kept.owner) b.sent (x ∷ []) mine.0.sent_true (true_here, tt); taken_true = mine.0.taken_true; rises = mine.0.rises }, with_view is_true kept.plan kept.owner kept.capacity (kept.held ++ s ∷ []) v w refl refl refl bs mine.1);
        rises = Rises-more kept.held s kept.rises (all-below b.number.digits (length b.sent) x kept.held none.1);
        balanced = balanced_out (kept.held ++ s ∷ []) (set views port w) (λ h.
            let sent = books-set (sent_weight h) views port v w at in
            let taken = books-set (taken_weight h) views port v w at in
            let more : sent_weight h (sent_book x) ≡ sent_weight h b + h s = stamped-more h b.number.digits 0 b.sent x ∙ ap (λ (k : ℕ). weigh h (stamped_from b.number.digits 0 b.sent) + h (stamp b.number.digits k x)) (omega arith) in
            let before = balanced_in kept.held views kept.balanced h in
            omega (arith, weigh-append h kept.held (s ∷ [])));
        numbered = numbered_set numbers_of views port v w at refl kept.numbered;
        shared = shared_set views port v w b bs at refl refl kept.shared;
      }

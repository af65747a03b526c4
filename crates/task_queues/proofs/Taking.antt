-- A pop keeps the rule.
use Rattle.std.proofs.Common.{◌≡◌, ℕ, ◌+◌, false, List, [], ◌∷◌, ◌++◌, set, sym, refl, subst, append_assoc, arith}
use Rattle.std.specs.List.{AllByRecursion}
use mathlib.Core.Option.{some}
use lib.ListN.{get_elem?}
use Rattle.counted_items.proofs.Each.{each-append, each-weaker}
use Rattle.counted_items.proofs.Weighing.{weigh-append}
use Rattle.pass_numbers.proofs.Lists.{each-set, each-at}
use Rattle.pass_numbers.proofs.Numbering.{numbered_set}
use Rattle.topology_plan.specs.Topology.{Topology}
use Rattle.task_queues.specs.declared.rule.Book.{Book}
use Rattle.task_queues.specs.declared.rule.Stamped.{Stamped}
use Rattle.task_queues.specs.declared.rule.View.{View}
use Rattle.task_queues.specs.Books.{viewed, numbers_of}
use Rattle.task_queues.specs.Rule.{items_of, Rises, Balanced, IsKept, Kept}
use Rattle.task_queues.proofs.Weighed.{sent_weight, taken_weight, books-set, balanced_in, balanced_out}
use Rattle.task_queues.proofs.Shares.{shared_set}
use Rattle.task_queues.proofs.Stamps.{Rises-skip}
use Rattle.task_queues.proofs.Sending.{with_view}

module _ {M : Type 0} (is_true : Topology → ℕ → M → Type 0) (plan : Topology) (owner capacity share : ℕ) (b : Book M) (bs : List (Book M)) where
  abbrev taken_book : Stamped M → Book M
  taken_book s = record { number = b.number; sent = b.sent; taken = b.taken ++ s ∷ [] }

  -- the stamp that was taken, what is held after it, the rule, and that the message is true
  abbrev pub Popped : (port : ℕ) (x : M) (items : List M) (views : List (View M)) → Kept is_true (x ∷ items) views → Type 0
  Popped port x items views kept = (s : Stamped M) × (rest : List (Stamped M)) × (s.item ≡ x) × (kept.held ≡ s ∷ rest) × Kept is_true items (set views port (viewed plan owner capacity share (taken_book s ∷ bs))) × is_true plan owner x

  pub pop_kept : (port : ℕ) (x : M) (items : List M) (views : List (View M)) (kept : Kept is_true (x ∷ items) views) → get_elem? views port ≡ some (viewed plan owner capacity share (b ∷ bs)) → Popped port x items views kept
  pop_kept port x items views kept at = popped kept.held refl
    where
      popped : (held : List (Stamped M)) → kept.held ≡ held → Popped port x items views kept
      popped [] is = let e : items_of [] ≡ x ∷ items = subst (λ (ss : List (Stamped M)). items_of ss ≡ x ∷ items) is kept.held_are in absurd (cc)
      popped (s ∷ ss) is =
          let v : View M = viewed plan owner capacity share (b ∷ bs) in
          let w : View M = viewed plan owner capacity share (taken_book s ∷ bs) in
          let P : View M → Type 0 = λ u. AllByRecursion (IsKept is_true kept.plan kept.owner kept.capacity (s ∷ ss) u) u.books in
          let Q : View M → Type 0 = λ u. AllByRecursion (IsKept is_true kept.plan kept.owner kept.capacity ss u) u.books in
          let are : items_of (s ∷ ss) ≡ x ∷ items = subst (λ (zs : List (Stamped M)). items_of zs ≡ x ∷ items) is kept.held_are in
          let each : AllByRecursion P views = subst (λ (zs : List (Stamped M)). AllByRecursion (λ (u : View M). AllByRecursion (IsKept is_true kept.plan kept.owner kept.capacity zs u) u.books) views) is kept.books in
          let rises : Rises (s ∷ ss) = subst Rises is kept.rises in
          let balanced : Balanced (s ∷ ss) views = subst (λ (zs : List (Stamped M)). Balanced zs views) is kept.balanced in
          let own = each-at P views port v each at in
          let still : (u : View M) (c : Book M) → IsKept is_true kept.plan kept.owner kept.capacity (s ∷ ss) u c → IsKept is_true kept.plan kept.owner kept.capacity ss u c =
          λ u c old. record { plan_is = old.plan_is; owner_is = old.owner_is; capacity_is = old.capacity_is; sent_true = old.sent_true; taken_true = old.taken_true; rises = Rises-skip c.taken s ss old.rises } in
          let all : AllByRecursion Q views =
          each-weaker P Q (λ u. each-weaker (IsKept is_true kept.plan kept.owner kept.capacity (s ∷ ss) u) (IsKept is_true kept.plan kept.owner kept.capacity ss u) (still u) u.books) views each in
          let T : Stamped M → Type 0 = λ t. is_true kept.plan kept.owner t.item in
          let mine = each-at Q views port v all at in
          let item : s.item ≡ x = cc in
          let rest : items_of ss ≡ items = cc in
          let few = kept.few in (
            s,
            ss,
            item,
            is,
            record {
              plan = kept.plan;
              owner = kept.owner;
              capacity = kept.capacity;
              held = ss;
              held_are = rest;
              few = omega arith;
              items_true = kept.items_true.1;
              named = each-set (λ (u : View M). u.fresh ≡ false) views port w kept.named refl;
              books = each-set Q views port w all
                  (record { plan_is = mine.0.plan_is; owner_is = mine.0.owner_is; capacity_is = mine.0.capacity_is; sent_true = mine.0.sent_true; taken_true = each-append T b.taken (s ∷ []) mine.0.taken_true (subst (is_true kept.plan kept.owner) (sym item) kept.items_true.0, tt); rises = subst Rises (sym (append_assoc b.taken (s ∷ []) ss)) own.0.rises }, with_view is_true kept.plan kept.owner kept.capacity ss v w refl refl refl bs mine.1);
              rises = rises.1;
              balanced = balanced_out ss (set views port w) (λ h.
                  let sent = books-set (sent_weight h) views port v w at in
                  let taken = books-set (taken_weight h) views port v w at in
                  let more : taken_weight h (taken_book s) ≡ taken_weight h b + (h s + 0) = weigh-append h b.taken (s ∷ []) in
                  let before = balanced_in (s ∷ ss) views balanced h in
                  omega arith);
              numbered = numbered_set numbers_of views port v w at refl kept.numbered;
              shared = shared_set views port v w b bs at refl refl kept.shared;
            },
            subst (λ (k : ℕ). is_true plan k x) (sym own.0.owner_is) (subst (λ (p : Topology). is_true p kept.owner x) (sym own.0.plan_is) kept.items_true.0),
          )

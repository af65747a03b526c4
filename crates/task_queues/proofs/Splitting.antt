-- A split and a join keep the rule, and a box gets its terms.
use Rattle.std.proofs.Common.{◌≡◌, ℕ, zero, suc, ◌+◌, false, true≢false, List, [], ◌∷◌, ◌++◌, set, inl, inr, ⊎_elim, sym, refl, ap, ◌∙◌, arith}
use Rattle.std.specs.List.{AllByRecursion}
use mathlib.Core.Option.{some, some-injective, some-ne-none}
use lib.ListN.{get_elem?}
use Rattle.counted_items.specs.Weights.{weigh}
use Rattle.counted_items.proofs.Each.{each-append, each-weaker}
use Rattle.counted_items.proofs.Weighing.{weigh-append}
use Rattle.pass_numbers.specs.declared.Number.{Number}
use Rattle.pass_numbers.specs.Numbers.{over}
use Rattle.pass_numbers.proofs.Lists.{each-set, each-at, map-append}
use Rattle.pass_numbers.proofs.Weights.{weigh-set}
use Rattle.pass_numbers.proofs.Numbering.{first_whole, one_numbered, numbered_as, split_numbered}
use Rattle.topology_plan.specs.Topology.{Topology}
use Rattle.task_queues.specs.declared.rule.Book.{Book}
use Rattle.task_queues.specs.declared.rule.View.{View}
use Rattle.task_queues.specs.Books.{viewed, no_view, blank, first_view, numbers_in, numbers_of, kept_first, cut_first, left_share, given_share}
use Rattle.task_queues.specs.Rule.{IsKept, Kept, Ruled}
use Rattle.task_queues.proofs.Weighed.{sent_weight, taken_weight, in_view, over_books, books-set, books-set-append, balanced_in, balanced_out}
use Rattle.task_queues.proofs.Shares.{shared_cut, shared_join}
use Rattle.task_queues.proofs.Sending.{with_view}

module _ {M : Type 0} (is_true : Topology → ℕ → M → Type 0) where
  -- ---- the first pass gets its terms

  blank_is : (views : List (View M)) (port : ℕ) (v : View M) → views ≡ blank ∷ [] → get_elem? views port ≡ some v → v ≡ blank
  blank_is views port v is at = at_one port (rw is at at)
    where
      at_one : (port : ℕ) → get_elem? (blank ∷ []) port ≡ some v → v ≡ blank
      at_one zero at = sym (some-injective blank v at)
      at_one (suc port) at = absurd (some-ne-none v (sym at))

  -- a pass that names its terms is of a box whose passes do
  pub is_kept : (items : List M) (views : List (View M)) (port : ℕ) (v : View M) → v.fresh ≡ false → Ruled is_true items views → get_elem? views port ≡ some v → Kept is_true items views
  is_kept items views port v old ruled at =
      ⊎_elim (λ new. absurd (true≢false (ap (λ (u : View M). u.fresh) (sym (blank_is views port v new.1 at)) ∙ old))) (λ kept. kept) ruled

  begins : (plan : Topology) (owner capacity : ℕ) → Kept is_true [] (first_view plan owner capacity ∷ no_view ∷ [])
  begins plan owner capacity = record {
    plan = plan;
    owner = owner;
    capacity = capacity;
    held = [];
    held_are = refl;
    few = omega arith;
    items_true = tt;
    named = (refl, (refl, tt));
    books = ((record { plan_is = refl; owner_is = refl; capacity_is = refl; sent_true = tt; taken_true = tt; rises = tt }, tt), (tt, tt));
    rises = tt;
    balanced = λ h. refl;
    numbered = numbered_as (numbers_of {M = M}) (numbers_of {M = M}) (first_view plan owner capacity ∷ []) (first_view plan owner capacity ∷ no_view ∷ []) (λ f. omega arith)
        (one_numbered (numbers_of {M = M}) (first_view plan owner capacity) first_whole);
    shared = inr (omega arith, (inr (omega arith), (inl refl, tt)));
  }

  pub names : (port : ℕ) (v : View M) (plan : Topology) (owner capacity : ℕ) (items : List M) (views : List (View M)) → v ≡ blank → Ruled is_true items views → get_elem? views port ≡ some v
      → Ruled is_true items (set views port (first_view plan owner capacity) ++ no_view ∷ [])
  names port v plan owner capacity items views is ruled at =
      ⊎_elim (λ new. inr (rw (new.0, new.1, port_is port (rw new.1 at at)) (begins plan owner capacity))) (λ kept. absurd (true≢false (ap (λ (u : View M). u.fresh) (sym is) ∙ each-at (λ (u : View M). u.fresh ≡ false) views port v kept.named at))) ruled
    where
      port_is : (port : ℕ) → get_elem? (blank ∷ []) port ≡ some v → port ≡ 0
      port_is zero at = refl
      port_is (suc port) at = absurd (some-ne-none v (sym at))

module _ {M : Type 0} (is_true : Topology → ℕ → M → Type 0) (plan : Topology) (owner capacity share : ℕ) (b : Book M) (bs : List (Book M)) where
  -- ---- a split

  abbrev kept_view : View M
  kept_view = viewed plan owner capacity (left_share share) (kept_first (b ∷ bs))

  abbrev cut_view : View M
  cut_view = viewed plan owner capacity (given_share share) (cut_first (b ∷ bs))

  pub cut_kept : (port : ℕ) (items : List M) (views : List (View M)) → Kept is_true items views → get_elem? views port ≡ some (viewed plan owner capacity share (b ∷ bs)) → Kept is_true items (set views port kept_view ++ cut_view ∷ [])
  cut_kept port items views kept at =
      let v : View M = viewed plan owner capacity share (b ∷ bs) in
      let w : View M = kept_view in
      let r : View M = cut_view in
      let after : List (View M) = set views port w ++ r ∷ [] in
      let P : View M → Type 0 = λ u. AllByRecursion (IsKept is_true kept.plan kept.owner kept.capacity kept.held u) u.books in
      let own = each-at P views port v kept.books at in
      let same : (g : Book M → ℕ) → in_view g w ≡ in_view g v → in_view g r ≡ 0 → over_books g after ≡ over_books g views = λ g stays none. let e = books-set-append g views port v w r at in omega arith in
      record {
        plan = kept.plan;
        owner = kept.owner;
        capacity = kept.capacity;
        held = kept.held;
        held_are = kept.held_are;
        few = kept.few;
        items_true = kept.items_true;
        named = each-append (λ (u : View M). u.fresh ≡ false) (set views port w) (r ∷ []) (each-set (λ (u : View M). u.fresh ≡ false) views port w kept.named refl) (refl, tt);
        books = each-append P (set views port w) (r ∷ [])
            (each-set P views port w kept.books
            (record { plan_is = own.0.plan_is; owner_is = own.0.owner_is; capacity_is = own.0.capacity_is; sent_true = own.0.sent_true; taken_true = own.0.taken_true; rises = own.0.rises }, with_view is_true kept.plan kept.owner kept.capacity kept.held v w refl refl refl bs own.1))
            ((record { plan_is = own.0.plan_is; owner_is = own.0.owner_is; capacity_is = own.0.capacity_is; sent_true = tt; taken_true = tt; rises = kept.rises }, tt), tt);
        rises = kept.rises;
        balanced = balanced_out kept.held after (λ h.
            let sent = same (sent_weight h) refl refl in
            let taken = same (taken_weight h) refl refl in
            let before = balanced_in kept.held views kept.balanced h in omega arith);
        numbered = split_numbered numbers_of no_view refl views port v w r at (λ nil. cc) refl refl kept.numbered;
        shared = shared_cut views port v w r b bs at refl refl refl kept.shared;
      }

  -- ---- a join

  pub join_kept : (port other : ℕ) (u : View M) (items : List M) (views : List (View M)) → Kept is_true items views → get_elem? views port ≡ some (viewed plan owner capacity share (b ∷ bs))
      → get_elem? (set views port (viewed plan owner capacity (share + u.share) ((b ∷ bs) ++ u.books))) other ≡ some u → get_elem? views other ≡ some u
      → Kept is_true items (set (set views port (viewed plan owner capacity (share + u.share) ((b ∷ bs) ++ u.books))) other no_view)
  join_kept port other u items views kept at there was =
      let v : View M = viewed plan owner capacity share (b ∷ bs) in
      let w : View M = viewed plan owner capacity (share + u.share) ((b ∷ bs) ++ u.books) in
      let after : List (View M) = set (set views port w) other no_view in
      let P : View M → Type 0 = λ z. AllByRecursion (IsKept is_true kept.plan kept.owner kept.capacity kept.held z) z.books in
      let own = each-at P views port v kept.books at in
      let theirs = each-at P views other u kept.books was in
      let same : (g : Book M → ℕ) → over_books g after ≡ over_books g views =
      λ g. let e = books-set g views port v w at in let f = books-set g (set views port w) other u no_view there in let h = weigh-append g (b ∷ bs) u.books in omega arith in
      let numbers : (f : Number → ℕ) → over numbers_of f after ≡ over numbers_of f views =
      λ f.
      let F : View M → ℕ = λ z. weigh f (numbers_of z) in
      let e = weigh-set F views port v w at in
      let g = weigh-set F (set views port w) other u no_view there in
      let joined : weigh f (numbers_in ((b ∷ bs) ++ u.books)) ≡ weigh f (numbers_in (b ∷ bs)) + weigh f (numbers_in u.books) = ap (weigh f) (map-append (λ (c : Book M). c.number) (b ∷ bs) u.books) ∙ weigh-append f (numbers_in (b ∷ bs)) (numbers_in u.books) in omega arith in
      record {
        plan = kept.plan;
        owner = kept.owner;
        capacity = kept.capacity;
        held = kept.held;
        held_are = kept.held_are;
        few = kept.few;
        items_true = kept.items_true;
        named = each-set (λ (z : View M). z.fresh ≡ false) (set views port w) other no_view (each-set (λ (z : View M). z.fresh ≡ false) views port w kept.named refl) refl;
        books = each-set P (set views port w) other no_view
            (each-set P views port w kept.books
            (each-append (IsKept is_true kept.plan kept.owner kept.capacity kept.held w) (b ∷ bs) u.books (with_view is_true kept.plan kept.owner kept.capacity kept.held v w refl refl refl (b ∷ bs) own)
            (each-weaker (IsKept is_true kept.plan kept.owner kept.capacity kept.held u) (IsKept is_true kept.plan kept.owner kept.capacity kept.held w)
            (λ c old. record { plan_is = own.0.plan_is; owner_is = own.0.owner_is; capacity_is = own.0.capacity_is; sent_true = old.sent_true; taken_true = old.taken_true; rises = old.rises }) u.books theirs)))
            tt;
        rises = kept.rises;
        balanced = balanced_out kept.held after (λ h. same (sent_weight h) ∙ balanced_in kept.held views kept.balanced h ∙ ap (λ (n : ℕ). n + weigh h kept.held) (sym (same (taken_weight h))));
        numbered = numbered_as numbers_of numbers_of views after numbers kept.numbered;
        shared = shared_join views port other v u w b bs at there refl refl kept.shared;
      }

-- Each kind of step keeps the rule, and tells what it tells.
use Rattle.std.proofs.Common.{◌≡◌, ◌≢◌, ℕ, ◌+◌, false, List, [], ◌∷◌, ◌++◌, set, inr, sym, refl, ap, subst, ◌∙◌, arith}
use Rattle.std.specs.List.{AllByRecursion}
use mathlib.Core.Option.{some}
use lib.ListN.{get_elem?}
use Rattle.crossbeam_queue.specs.Fifo.{Pushes, Pops, Forks, Merges, Learns}
use Rattle.counted_items.specs.Weights.{Same}
use Rattle.pass_numbers.proofs.Lists.{set-else}
use Rattle.topology_plan.specs.Topology.{Topology}
use Rattle.task_queues.specs.declared.rule.Book.{Book}
use Rattle.task_queues.specs.declared.rule.Stamped.{Stamped}
use Rattle.task_queues.specs.declared.rule.View.{View}
use Rattle.task_queues.specs.Books.{viewed, no_view, blank, first_view, sent_of, taken_of, sent_first, taken_first, kept_first, cut_first, left_share, given_share, sent_to, took, kept_of, cut_of, both_of}
use Rattle.task_queues.specs.Rule.{Rises, Kept, Ruled, Stood}
use Rattle.task_queues.specs.Steps.{SendsOne, IsNext, TakesOne}
use Rattle.task_queues.proofs.Sending.{push_kept}
use Rattle.task_queues.proofs.Taking.{pop_kept}
use Rattle.task_queues.proofs.Splitting.{is_kept, names, cut_kept, join_kept}
use Rattle.task_queues.proofs.Whole.{whole_balanced, whole_left, whole_above}

module _ {M : Type 0} where
  -- what a pass knows that has books, by its parts
  parts : (v : View M) (b : Book M) (bs : List (Book M)) → v.fresh ≡ false → v.books ≡ b ∷ bs → viewed v.plan v.owner v.capacity v.share (b ∷ bs) ≡ v
  parts v b bs old is = λ i. record { fresh = sym old i; plan = v.plan; owner = v.owner; capacity = v.capacity; share = v.share; books = sym is i }

  module _ (is_true : Topology → ℕ → M → Type 0) where
    -- the stamp that stands first is the next
    next_is : (port : ℕ) (v : View M) (items : List M) (views : List (View M)) (kept : Kept is_true items views) → get_elem? views port ≡ some v → (s : Stamped M) (rest : List (Stamped M)) → kept.held ≡ s ∷ rest → IsNext is_true v s
    next_is port v items views kept at s rest is = record {
      items = items;
      stood = record { views = views; kept = kept; pass = port; here = at };
      rest = rest;
      first = is;
      above = subst (λ (held : List (Stamped M)). AllByRecursion (λ (b : Book M). Rises (b.taken ++ held)) v.books) is (whole_above is_true items views kept port v at);
      whole = λ whole. subst (λ (held : List (Stamped M)). Same (sent_of v.books) (taken_of v.books ++ held)) is (whole_balanced is_true items views kept port v at whole);
    }

    pub stands : (port : ℕ) (v : View M) → v.fresh ≡ false → Learns (Ruled is_true) port v (Stood is_true v)
    stands port v old items views ruled at = record { views = views; kept = is_kept is_true items views port v old ruled at; pass = port; here = at }

    pub sends : (n port : ℕ) (v : View M) (x : M) → v.fresh ≡ false → v.books ≢ [] → v.capacity ≡ n → is_true v.plan v.owner x → Pushes (Ruled is_true) n port v x (SendsOne v x)
    sends n port v x old some_book room true_x = sent v.books refl
      where
        sent : (books : List (Book M)) → v.books ≡ books → Pushes (Ruled is_true) n port v x (SendsOne v x)
        sent [] is items views short ruled at = absurd (some_book is)
        sent (b ∷ bs) is items views short ruled at =
            let kept = is_kept is_true items views port v old ruled at in (
              sent_to v x,
              inr (subst (λ (u : View M). Kept is_true (items ++ x ∷ []) (set views port u)) (λ i. record { fresh = sym old i; plan = v.plan; owner = v.owner; capacity = v.capacity; share = v.share; books = sent_first (sym is i) x })
                  (push_kept is_true v.plan v.owner v.capacity v.share b bs n port x items views room true_x short kept (at ∙ ap some (sym (parts v b bs old is))))),
              (refl, λ whole. let e = whole_left is_true items views kept port v at whole in omega arith),
            )

    pub takes : (port : ℕ) (v : View M) → v.fresh ≡ false → v.books ≢ [] → Pops (Ruled is_true) port v (TakesOne is_true v)
    takes port v old some_book = taken v.books refl
      where
        taken : (books : List (Book M)) → v.books ≡ books → Pops (Ruled is_true) port v (TakesOne is_true v)
        taken [] is x items views ruled at = absurd (some_book is)
        taken (b ∷ bs) is x items views ruled at =
            let kept = is_kept is_true (x ∷ items) views port v old ruled at in
            let popped = pop_kept is_true v.plan v.owner v.capacity v.share b bs port x items views kept (at ∙ ap some (sym (parts v b bs old is))) in
            let s = popped.0 in (
              took v s,
              inr (subst (λ (u : View M). Kept is_true items (set views port u)) (λ i. record { fresh = sym old i; plan = v.plan; owner = v.owner; capacity = v.capacity; share = v.share; books = taken_first (sym is i) s }) popped.4),
              (s, popped.2, refl, popped.5, next_is port v (x ∷ items) views kept at s popped.1 popped.3),
            )

    pub begins : (port : ℕ) (v : View M) (plan : Topology) (owner capacity : ℕ) → v ≡ blank → Forks (Ruled is_true) port v (first_view plan owner capacity) no_view
    begins port v plan owner capacity is items views = names is_true port v plan owner capacity items views is

    pub cuts : (port : ℕ) (v : View M) → v.fresh ≡ false → v.books ≢ [] → Forks (Ruled is_true) port v (kept_of v) (cut_of v)
    cuts port v old some_book = made v.books refl
      where
        made : (books : List (Book M)) → v.books ≡ books → Forks (Ruled is_true) port v (kept_of v) (cut_of v)
        made [] is items views ruled at = absurd (some_book is)
        made (b ∷ bs) is items views ruled at =
            inr (subst (λ (u : View M × View M). Kept is_true items (set views port u.0 ++ u.1 ∷ []))
            (λ i. (record { fresh = sym old i; plan = v.plan; owner = v.owner; capacity = v.capacity; share = left_share v.share; books = kept_first (sym is i) }, record { fresh = sym old i; plan = v.plan; owner = v.owner; capacity = v.capacity; share = given_share v.share; books = cut_first (sym is i) }))
            (cut_kept is_true v.plan v.owner v.capacity v.share b bs port items views (is_kept is_true items views port v old ruled at) (at ∙ ap some (sym (parts v b bs old is)))))

    pub merges : (port : ℕ) (v : View M) (other : ℕ) (u : View M) → v.fresh ≡ false → v.books ≢ [] → Merges (Ruled is_true) port v other u (both_of v u) no_view
    merges port v other u old some_book = made v.books refl
      where
        made : (books : List (Book M)) → v.books ≡ books → Merges (Ruled is_true) port v other u (both_of v u) no_view
        made [] is items views ruled at apart there = absurd (some_book is)
        made (b ∷ bs) is items views ruled at apart there =
            let to : viewed v.plan v.owner v.capacity (v.share + u.share) ((b ∷ bs) ++ u.books) ≡ both_of v u = λ i. record { fresh = sym old i; plan = v.plan; owner = v.owner; capacity = v.capacity; share = v.share + u.share; books = sym is i ++ u.books } in
            let was : get_elem? views other ≡ some u = sym (set-else views port other (both_of v u) (λ e. apart (sym e))) ∙ there in
            inr (subst (λ (w : View M). Kept is_true items (set (set views port w) other no_view)) to
            (join_kept is_true v.plan v.owner v.capacity v.share b bs port other u items views (is_kept is_true items views port v old ruled at) (at ∙ ap some (sym (parts v b bs old is)))
            (ap (λ (w : View M). get_elem? (set views port w) other) to ∙ there) was))

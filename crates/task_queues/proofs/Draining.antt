-- What is left in a box, taken one by one.
use Rattle.std.proofs.Common.{◌≡◌, ◌≢◌, ℕ, ◌+◌, ◌-◌, ◌<◌, ◌≤◌, false, List, [], ◌∷◌, ◌++◌, length, length-append, append_assoc, append-nil, sym, refl, ap, subst, ◌∙◌, arith}
use Rattle.std.proofs.lemmas.List.{length-map}
use Rattle.std.specs.List.{AllByRecursion}
use Rattle.counted_items.specs.Weights.{weigh, Same}
use Rattle.counted_items.proofs.Each.{each-append, each-weaker}
use Rattle.counted_items.proofs.Weighing.{weigh-append}
use Rattle.pass_numbers.specs.Numbers.{IsWhole}
use Rattle.pass_numbers.proofs.Lists.{each-at, map-append}
use Rattle.topology_plan.specs.Topology.{Topology}
use Rattle.task_queues.specs.declared.rule.Book.{Book}
use Rattle.task_queues.specs.declared.rule.Stamped.{Stamped}
use Rattle.task_queues.specs.declared.rule.View.{View}
use Rattle.task_queues.specs.Books.{sent_of, taken_of, taken_first, took, with_books, numbers_in, numbers_of}
use Rattle.task_queues.specs.Rule.{items_of, Rises, IsKept, Stood}
use Rattle.task_queues.specs.Steps.{TakesOne}
use Rattle.task_queues.specs.Whole.{IsLeft}
use Rattle.task_queues.proofs.Stamps.{Rises-back}
use Rattle.task_queues.proofs.Whole.{same-length, whole_balanced, whole_left, whole_above}
use Rattle.task_queues.proofs.Order.{Rises-front, Rises-across, Rises-append, below_same, BelowAll}
use Rattle.task_queues.proofs.Arriving.{arrives}

module _ {M : Type 0} where
  -- the books after these were taken under the first number
  abbrev pub taken_all : List (Book M) → List (Stamped M) → List (Book M)
  taken_all [] stamps = []
  taken_all (b ∷ bs) stamps = record { number = b.number; sent = b.sent; taken = b.taken ++ stamps } ∷ bs

  abbrev pub took_all : View M → List (Stamped M) → View M
  took_all v stamps = with_books v (taken_all v.books stamps)

  all-more : (bs : List (Book M)) (stamps : List (Stamped M)) (s : Stamped M) → taken_first (taken_all bs stamps) s ≡ taken_all bs (stamps ++ s ∷ [])
  all-more [] stamps s = refl
  all-more (b ∷ bs) stamps s = λ i. record { number = b.number; sent = b.sent; taken = append_assoc b.taken stamps (s ∷ []) i } ∷ bs

  all-none : (bs : List (Book M)) → taken_all bs [] ≡ bs
  all-none [] = refl
  all-none (b ∷ bs) = λ i. record { number = b.number; sent = b.sent; taken = append-nil b.taken i } ∷ bs

  all-numbers : (bs : List (Book M)) (stamps : List (Stamped M)) → numbers_in (taken_all bs stamps) ≡ numbers_in bs
  all-numbers [] stamps = refl
  all-numbers (b ∷ bs) stamps = refl

  all-some : (bs : List (Book M)) (stamps : List (Stamped M)) → bs ≢ [] → taken_all bs stamps ≢ []
  all-some [] stamps some_book nil = some_book refl
  all-some (b ∷ bs) stamps some_book nil = cc

  all-sent : (bs : List (Book M)) (stamps : List (Stamped M)) → sent_of (taken_all bs stamps) ≡ sent_of bs
  all-sent [] stamps = refl
  all-sent (b ∷ bs) stamps = refl

  all-taken : (bs : List (Book M)) (stamps : List (Stamped M)) → bs ≢ [] → (f : Stamped M → ℕ) → weigh f (taken_of (taken_all bs stamps)) ≡ weigh f (taken_of bs) + weigh f stamps
  all-taken [] stamps some_book f = absurd (some_book refl)
  all-taken (b ∷ bs) stamps some_book f =
      omega (arith, weigh-append f (b.taken ++ stamps) (taken_of bs), weigh-append f b.taken stamps, weigh-append f b.taken (taken_of bs))

  all-length : (bs : List (Book M)) (stamps : List (Stamped M)) → bs ≢ [] → length (taken_of (taken_all bs stamps)) ≡ length (taken_of bs) + length stamps
  all-length bs stamps some_book =
      same-length (taken_of (taken_all bs stamps)) (taken_of bs ++ stamps) (λ f. let e = all-taken bs stamps some_book f in let a = weigh-append f (taken_of bs) stamps in omega arith) ∙ length-append (taken_of bs) stamps

  all-first : (bs : List (Book M)) (stamps : List (Stamped M)) → bs ≢ [] → (held : List (Stamped M)) → AllByRecursion (λ (b : Book M). Rises (b.taken ++ held)) (taken_all bs stamps) → Rises stamps
  all-first [] stamps some_book held all = absurd (some_book refl)
  all-first (b ∷ bs) stamps some_book held all = Rises-back b.taken stamps (Rises-front (b.taken ++ stamps) held all.0)

-- The messages that were taken so far, of a pass that has all numbers and a box that stood so at the start.
pub record Drains {M : Type 0} (is_true : Topology → ℕ → M → Type 0) (old now : View M) (items : List M) : Type 0 where
  pub named : old.fresh ≡ false
  pub some_book : old.books ≢ []
  pub whole : IsWhole (numbers_of old)
  pub start : List M
  pub stood : Stood is_true old start
  pub few : length start ≤ old.capacity
  pub stamps : List (Stamped M)
  pub now_is : now ≡ took_all old stamps
  pub items_are : items_of stamps ≡ items
  pub items_true : AllByRecursion (is_true old.plan old.owner) items

module _ {M : Type 0} (is_true : Topology → ℕ → M → Type 0) where
  -- what the box held is no more than the pass knows as its capacity
  pub stood_few : (v : View M) (items : List M) → v.books ≢ [] → Stood is_true v items → length items ≤ v.capacity
  stood_few v items some_book stood =
      first v.books some_book (each-at (λ (u : View M). AllByRecursion (IsKept is_true stood.kept.plan stood.kept.owner stood.kept.capacity stood.kept.held u) u.books) stood.views stood.pass v stood.kept.books stood.here)
    where
      first : (books : List (Book M)) → books ≢ [] → AllByRecursion (IsKept is_true stood.kept.plan stood.kept.owner stood.kept.capacity stood.kept.held v) books → length items ≤ v.capacity
      first [] some_book all = absurd (some_book refl)
      first (b ∷ books) some_book all = let few = stood.kept.few in let is = all.0.capacity_is in omega arith

  pub drain_begins : (v w : View M) (items : List M) → w ≡ v → v.fresh ≡ false → v.books ≢ [] → IsWhole (numbers_of v) → (start : List M) → Stood is_true v start → items ≡ [] → Drains is_true v w items
  drain_begins v w items is named some_book whole start stood none = record {
    named = named;
    some_book = some_book;
    whole = whole;
    start = start;
    stood = stood;
    few = stood_few v start some_book stood;
    stamps = [];
    now_is = is ∙ (λ i. with_books v (sym (all-none v.books) i));
    items_are = sym none;
    items_true = subst (AllByRecursion (is_true v.plan v.owner)) (sym none) tt;
  }

  module _ (old now : View M) (items : List M) (drains : Drains is_true old now items) where
    pub named_now : now.fresh ≡ false
    named_now = ap (λ (v : View M). v.fresh) drains.now_is ∙ drains.named

    pub some_now : now.books ≢ []
    some_now nil = all-some old.books drains.stamps drains.some_book (sym (ap (λ (v : View M). v.books) drains.now_is) ∙ nil)

    whole_now : IsWhole (numbers_of now)
    whole_now = subst IsWhole (sym (ap numbers_of drains.now_is ∙ all-numbers old.books drains.stamps)) drains.whole

    count : length items ≡ length drains.stamps
    count = sym (ap length drains.items_are) ∙ length-map drains.stamps (λ (s : Stamped M). s.item)

    sent_now : length (sent_of now.books) ≡ length (sent_of old.books)
    sent_now = ap (λ (v : View M). length (sent_of v.books)) drains.now_is ∙ ap length (all-sent old.books drains.stamps)

    taken_now : length (taken_of now.books) ≡ length (taken_of old.books) + length drains.stamps
    taken_now = ap (λ (v : View M). length (taken_of v.books)) drains.now_is ∙ all-length old.books drains.stamps drains.some_book

    left_at_first : length (sent_of old.books) ≤ length (taken_of old.books) + old.capacity
    left_at_first =
        let e = whole_left is_true drains.start drains.stood.views drains.stood.kept drains.stood.pass old drains.stood.here drains.whole in
        let f = drains.few in omega arith

    module _ (x : M) (next : View M) (takes : TakesOne is_true now x next) where
      -- one more fits
      pub drain_fits : length items < old.capacity
      drain_fits =
          let next_one = takes.4 in
          let e = same-length (sent_of now.books) (taken_of now.books ++ takes.0 ∷ next_one.rest) (next_one.whole whole_now) in
          let a = length-append (taken_of now.books) (takes.0 ∷ next_one.rest) in
          let b = sent_now in
          let c = taken_now in
          let d = count in
          let f = left_at_first in omega arith

      next_is : next ≡ took_all old (drains.stamps ++ takes.0 ∷ [])
      next_is = takes.2 ∙ ap (λ (v : View M). took v takes.0) drains.now_is ∙ (λ i. with_books old (all-more old.books drains.stamps takes.0 i))

      terms : is_true old.plan old.owner x
      terms = subst (λ (v : View M). is_true v.plan v.owner x) drains.now_is takes.3

      pub drain_more : (after : List M) → after ≡ items ++ x ∷ [] → Drains is_true old next after
      drain_more after is = record {
        named = drains.named;
        some_book = drains.some_book;
        whole = drains.whole;
        start = drains.start;
        stood = drains.stood;
        few = drains.few;
        stamps = drains.stamps ++ takes.0 ∷ [];
        now_is = next_is;
        items_are = map-append (λ (s : Stamped M). s.item) drains.stamps (takes.0 ∷ []) ∙ (λ i. drains.items_are i ++ takes.1 i ∷ []) ∙ sym is;
        items_true = subst (AllByRecursion (is_true old.plan old.owner)) (sym is) (each-append (is_true old.plan old.owner) items (x ∷ []) drains.items_true (terms, tt));
      }

      -- fewer are left
      pub drain_nears : length (sent_of next.books) - length (taken_of next.books) < length (sent_of now.books) - length (taken_of now.books)
      drain_nears =
          let next_one = takes.4 in
          let e = same-length (sent_of now.books) (taken_of now.books ++ takes.0 ∷ next_one.rest) (next_one.whole whole_now) in
          let a = length-append (taken_of now.books) (takes.0 ∷ next_one.rest) in
          let b = sent_now in
          let c = taken_now in
          let s : length (sent_of next.books) ≡ length (sent_of old.books) = ap (λ (v : View M). length (sent_of v.books)) next_is ∙ ap length (all-sent old.books (drains.stamps ++ takes.0 ∷ [])) in
          let t : length (taken_of next.books) ≡ length (taken_of old.books) + length (drains.stamps ++ takes.0 ∷ []) = ap (λ (v : View M). length (taken_of v.books)) next_is ∙ all-length old.books (drains.stamps ++ takes.0 ∷ []) drains.some_book in
          let n = length-append drains.stamps (takes.0 ∷ []) in omega arith

    -- ---- none is left

    module _ (empty : List M) (none : length empty ≡ 0) (stood : Stood is_true now empty) where
      held_none : (held : List (Stamped M)) → items_of held ≡ empty → held ≡ []
      held_none [] are = refl
      held_none (s ∷ held) are = let e = ap length are in absurd (omega arith)

      none_held : stood.kept.held ≡ []
      none_held = held_none stood.kept.held stood.kept.held_are

      at_last : Same (sent_of now.books) (taken_of now.books)
      at_last f =
          let e = whole_balanced is_true empty stood.views stood.kept stood.pass now stood.here whole_now f in
          let a = weigh-append f (taken_of now.books) stood.kept.held in
          let b = ap (weigh f) none_held in omega arith

      all_left : Same (sent_of old.books) (taken_of old.books ++ drains.stamps)
      all_left f =
          let e = at_last f in
          let s = ap (λ (v : View M). weigh f (sent_of v.books)) drains.now_is ∙ ap (weigh f) (all-sent old.books drains.stamps) in
          let t = ap (λ (v : View M). weigh f (taken_of v.books)) drains.now_is ∙ all-taken old.books drains.stamps drains.some_book f in
          let a = weigh-append f (taken_of old.books) drains.stamps in omega arith

      held_same : Same drains.stood.kept.held drains.stamps
      held_same f =
          let e = whole_balanced is_true drains.start drains.stood.views drains.stood.kept drains.stood.pass old drains.stood.here drains.whole f in
          let a = weigh-append f (taken_of old.books) drains.stood.kept.held in
          let b = all_left f in
          let c = weigh-append f (taken_of old.books) drains.stamps in omega arith

      left_rises : Rises drains.stamps
      left_rises =
          all-first old.books drains.stamps drains.some_book stood.kept.held
          (subst (λ (v : View M). AllByRecursion (λ (b : Book M). Rises (b.taken ++ stood.kept.held)) v.books) drains.now_is (whole_above is_true empty stood.views stood.kept stood.pass now stood.here))

      left_above : AllByRecursion (λ (b : Book M). Rises (b.taken ++ drains.stamps)) old.books
      left_above =
          each-weaker (λ (b : Book M). Rises (b.taken ++ drains.stood.kept.held)) (λ (b : Book M). Rises (b.taken ++ drains.stamps))
          (λ b rises.
          Rises-append b.taken drains.stamps (Rises-front b.taken drains.stood.kept.held rises) left_rises
          (each-weaker (BelowAll drains.stood.kept.held) (BelowAll drains.stamps) (λ s below. below_same s drains.stood.kept.held drains.stamps held_same below) b.taken (Rises-across b.taken drains.stood.kept.held rises)))
          old.books (whole_above is_true drains.start drains.stood.views drains.stood.kept drains.stood.pass old drains.stood.here)

      pub drain_ends : IsLeft old.books items
      drain_ends = record {
        held = drains.stamps;
        held_are = drains.items_are;
        all = all_left;
        rises = left_rises;
        above = left_above;
        arrives = λ coded taker. arrives coded old.books drains.stamps drains.whole all_left left_above taker;
      }

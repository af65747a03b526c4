-- A row of passes of which one changes.
use Rattle.std.proofs.Common.{◌≡◌, ◌≢◌, ◌<◌, ℕ, zero, suc, List, [], ◌∷◌, length, map, Option, Some, None, get_or, set, sym, refl, ap, subst, ◌∙◌, arith}
use Rattle.std.specs.Prelude.{slice_get, IfSome, OnOk, OnErr, Result, Ok, Err}
use Rattle.std.specs.Option.{IfNone}
use Rattle.std.proofs.lemmas.List.{length-set, map-set}
use Rattle.box_rows.specs.declared.mail.Mail.{Mail}
use Rattle.box_rows.specs.Mails.{IsTrueMail, weigh_mail}
use Rattle.box_rows.specs.Rows.{ArePasses, HasSent, HasTaken, IsPassFor, IsSameRow, IsViewAt, weigh_sent, weigh_taken}
use Rattle.box_rows.proofs.Weighing.{at-some, weigh-at, view_sends, view_takes}
use Rattle.task_queues.specs.Books.{sent_to, took}
use Rattle.task_queues.specs.declared.pass.Mailbox.{Mailbox}
use Rattle.task_queues.specs.declared.pass.Pass.{Pass}
use Rattle.task_queues.specs.declared.rule.Stamped.{Stamped}
use Rattle.task_queues.specs.declared.rule.View.{View}
use Rattle.task_queues.specs.Passes.{IsPassOf, view_of}
use Rattle.task_queues.specs.Steps.{IsNext}
use Rattle.event_worlds.specs.topology_plan.Topology.{Topology}

pub one_of : {X : Type 0} (x y : X) → Some x ≡ Some y → x ≡ y
one_of x y is = cc

pub get-map : {X Y : Type 0} (f : X → Y) (xs : List X) (i : ℕ) (x : X) → slice_get xs i ≡ Some x → slice_get (map f xs) i ≡ Some (f x)
get-map f [] i x at = absurd (let e : None ≡ Some x = at in cc)
get-map f (y ∷ ys) zero x at = let e = one_of y x at in ap (λ z. Some (f z)) e
get-map f (y ∷ ys) (suc i) x at = get-map f ys i x at

pub map-at : {X Y : Type 0} (f : X → Y) (xs : List X) (i : ℕ) (x y : X) → slice_get xs i ≡ Some x → f y ≡ f x → map f (set xs i y) ≡ map f xs
map-at f [] i x y at same = refl
map-at f (z ∷ zs) zero x y at same = let e : z ≡ x = let some : Some z ≡ Some x = at in cc in ap (λ w. w ∷ map f zs) (same ∙ ap f (sym e))
map-at f (z ∷ zs) (suc i) x y at same = ap (λ ws. f z ∷ ws) (map-at f zs i x y at same)

get-set : {X : Type 0} (xs : List X) (i n : ℕ) (x y z : X) → slice_get xs i ≡ Some x → slice_get (set xs i y) n ≡ Some z → (P : ℕ → X → Type 0) → P i y → (slice_get xs n ≡ Some z → P n z) → P n z
get-set [] i n x y z at found P here there = there found
get-set (w ∷ ws) zero zero x y z at found P here there = let e : y ≡ z = let some : Some y ≡ Some z = found in cc in subst (P 0) e here
get-set (w ∷ ws) zero (suc n) x y z at found P here there = there found
get-set (w ∷ ws) (suc i) zero x y z at found P here there = there found
get-set (w ∷ ws) (suc i) (suc n) x y z at found P here there = get-set ws i n x y z at found (λ (k : ℕ). P (suc k)) here there

module _ (t : Topology) (boxes : List (Mailbox Mail)) (passes : List (Pass Mail)) (n : ℕ) (box : Mailbox Mail) (p q : Pass Mail)
    (are : ArePasses t boxes passes) (below : n < length boxes) (box_is : box ≡ get_or boxes n box) (pass_is : p ≡ get_or passes n p) where
  box_at : slice_get boxes n ≡ Some box
  box_at = at-some boxes n box below box_is

  pub pass_at : slice_get passes n ≡ Some p
  pass_at = at-some passes n p (let m = are.many in omega arith) pass_is

  pub pass_for : IsPassFor t n box p
  pass_for = are.each n box p box_at pass_at

  pub passes_change : IsPassOf box q → (view_of q).plan ≡ (view_of p).plan → (view_of q).owner ≡ (view_of p).owner → ArePasses t boxes (set passes n q)
  passes_change is plan owner = record {
    many = length-set passes n q ∙ are.many;
    each = λ k b r at found. get-set passes n k p q r pass_at found (λ (i : ℕ) (x : Pass Mail). (b : Mailbox Mail) → slice_get boxes i ≡ Some b → IsPassFor t i b x)
        (λ b at. let e : box ≡ b = let some : Some box ≡ Some b = sym box_at ∙ at in cc in record {
          pass = subst (λ (x : Mailbox Mail). IsPassOf x q) e is;
          plan = plan ∙ pass_for.plan;
          owner = owner ∙ pass_for.owner;
        })
        (λ there b at. are.each k b r at there) b at;
  }

  pub row_same : view_of q ≡ view_of p → IsSameRow passes (set passes n q)
  row_same same = record {
    views = map-at view_of passes n p q pass_at same;
    sent = λ f. let w = weigh-at (λ (x : Pass Mail). weigh_sent f (view_of x)) passes n p q pass_at in let e = ap (weigh_sent f) same in omega arith;
    taken = λ f. let w = weigh-at (λ (x : Pass Mail). weigh_taken f (view_of x)) passes n p q pass_at in let e = ap (weigh_taken f) same in omega arith;
  }

  pub view_at : IsViewAt n passes (view_of p)
  view_at = get-map view_of passes n p pass_at

  -- whatever the pass knows is what it is known to know
  pub at_view : (P : View Mail → Type 0) → P (view_of p) → (v : View Mail) → IsViewAt n passes v → P v
  at_view P here v is = subst P (one_of (view_of p) v (sym view_at ∙ is)) here

  pub at_view_set : (P : View Mail → Type 0) → view_of q ≡ view_of p → P (view_of p) → (v : View Mail) → IsViewAt n (set passes n q) v → P v
  at_view_set P same here v is = at_view P here v (subst (λ (vs : List (View Mail)). slice_get vs n ≡ Some v) (map-at view_of passes n p q pass_at same) is)

  pub row_sent : (mail : Mail) → (view_of p).books ≢ [] → view_of q ≡ sent_to (view_of p) mail → HasSent n mail passes (set passes n q)
  row_sent mail some_book is = record {
    before = view_of p;
    there = view_at;
    views = map-set view_of passes n q ∙ ap (set (map view_of passes) n) is;
    sent = λ f. let w = weigh-at (λ (x : Pass Mail). weigh_sent f (view_of x)) passes n p q pass_at in let e = ap (weigh_sent f) is in let d = (view_sends f (view_of p) mail some_book).0 in omega arith;
    taken = λ f. let w = weigh-at (λ (x : Pass Mail). weigh_taken f (view_of x)) passes n p q pass_at in let e = ap (weigh_taken f) is in let d = (view_sends f (view_of p) mail some_book).1 in omega arith;
  }

  pub row_taken : (mail : Mail) (s : Stamped Mail) → (view_of p).books ≢ [] → s.item ≡ mail → view_of q ≡ took (view_of p) s → IsNext IsTrueMail (view_of p) s → HasTaken n mail passes (set passes n q)
  row_taken mail s some_book item is next = record {
    before = view_of p;
    there = view_at;
    stamp = s;
    item = item;
    first = next;
    views = map-set view_of passes n q ∙ ap (set (map view_of passes) n) is;
    sent = λ f. let w = weigh-at (λ (x : Pass Mail). weigh_sent f (view_of x)) passes n p q pass_at in let e = ap (weigh_sent f) is in let d = (view_takes f (view_of p) s some_book).0 in omega arith;
    taken = λ f. let w = weigh-at (λ (x : Pass Mail). weigh_taken f (view_of x)) passes n p q pass_at in let e = ap (weigh_taken f) is in let d = (view_takes f (view_of p) s some_book).1 in
        let k = ap (λ (x : Mail). weigh_mail f x) item in omega arith;
  }

-- ---- by what was answered

module _ {M A : Type 0} where
  pub send_terms : (r : Result A M) (v w : View M) (m : M) → OnOk r (w ≡ sent_to v m) → OnErr r (w ≡ v) → (w.plan ≡ v.plan) × (w.owner ≡ v.owner)
  send_terms (Ok a) v w m ok err = (ap (λ (x : View M). x.plan) ok, ap (λ (x : View M). x.owner) ok)
  send_terms (Err e) v w m ok err = (ap (λ (x : View M). x.plan) err, ap (λ (x : View M). x.owner) err)

  pub ok_then : {P Q : Type 0} (r : Result A M) → (P → Q) → OnOk r P → OnOk r Q
  ok_then (Ok a) then ok = then ok
  ok_then (Err e) then ok = tt

  pub err_then : {P Q : Type 0} (r : Result A M) → (P → Q) → OnErr r P → OnErr r Q
  err_then (Ok a) then err = tt
  err_then (Err e) then err = then err

module _ {M : Type 0} where
  pub take_terms : (is_true : Topology → ℕ → M → Type 0) (r : Option M) (v w : View M) → IfSome r (λ m. (s : Stamped M) × (s.item ≡ m) × (w ≡ took v s) × IsNext is_true v s) → IfNone r (w ≡ v) → (w.plan ≡ v.plan) × (w.owner ≡ v.owner)
  take_terms is_true (Some m) v w some none = let e : w ≡ took v some.0 = some.2 in (ap (λ (x : View M). x.plan) e, ap (λ (x : View M). x.owner) e)
  take_terms is_true None v w some none = (ap (λ (x : View M). x.plan) none, ap (λ (x : View M). x.owner) none)

  pub some_then : {P Q : M → Type 0} (r : Option M) → ((m : M) → P m → Q m) → IfSome r P → IfSome r Q
  some_then (Some m) then some = then m some
  some_then None then some = tt

  pub none_then : {P Q : Type 0} (r : Option M) → (P → Q) → IfNone r P → IfNone r Q
  none_then (Some m) then none = tt
  none_then None then none = then none

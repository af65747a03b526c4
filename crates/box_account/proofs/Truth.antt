-- Messages that were taken under the rule of a box are true of it.
use Rattle.std.proofs.Common.{◌≡◌, ◌<◌, ℕ, zero, suc, List, [], ◌∷◌, length, map, slice_get, None, Some, refl, sym, ap, ◌∙◌, subst, arith}
use Rattle.std.specs.List.{AllByRecursion}
use Rattle.std.proofs.lemmas.List.{length-map}
use Rattle.box_account.specs.Taken.{TookTrue, TookTruly}
use Rattle.box_rows.specs.declared.mail.Mail.{Mail}
use Rattle.box_rows.specs.FitRows.{IsFitRow, IsFitView}
use Rattle.box_rows.specs.Mails.{IsTrueMail}
use Rattle.box_rows.specs.Rows.{ArePasses, IsPassFor}
use Rattle.box_rows.proofs.Changing.{get-map, one_of}
use Rattle.event_worlds.proofs.counted_items.Each.{each-flat_map, each-weaker}
use Rattle.pass_numbers.proofs.Lists.{each-at}
use Rattle.task_queues.specs.Books.{taken_of}
use Rattle.task_queues.specs.declared.pass.Mailbox.{Mailbox}
use Rattle.task_queues.specs.declared.pass.Pass.{Pass}
use Rattle.task_queues.specs.declared.rule.Book.{Book}
use Rattle.task_queues.specs.declared.rule.Stamped.{Stamped}
use Rattle.task_queues.specs.declared.rule.View.{View}
use Rattle.task_queues.specs.Passes.{view_of}
use Rattle.task_queues.specs.Rule.{IsKept, Stood}
use Rattle.event_worlds.specs.topology_plan.Topology.{Topology}

-- under the rule
pub took_under_rule : (v : View Mail) (items : List Mail) → Stood IsTrueMail v items → TookTruly v
took_under_rule v items stood =
    each-flat_map (λ (s : Stamped Mail). IsTrueMail v.plan v.owner s.item) (λ (b : Book Mail). b.taken) v.books
    (each-weaker (IsKept IsTrueMail stood.kept.plan stood.kept.owner stood.kept.capacity stood.kept.held v) (λ (b : Book Mail). AllByRecursion (λ (s : Stamped Mail). IsTrueMail v.plan v.owner s.item) b.taken) one v.books
    (each-at (λ (u : View Mail). AllByRecursion (IsKept IsTrueMail stood.kept.plan stood.kept.owner stood.kept.capacity stood.kept.held u) u.books) stood.views stood.pass v stood.kept.books stood.here))
  where
    one : (b : Book Mail) → IsKept IsTrueMail stood.kept.plan stood.kept.owner stood.kept.capacity stood.kept.held v b → AllByRecursion (λ (s : Stamped Mail). IsTrueMail v.plan v.owner s.item) b.taken
    one b is = subst (λ (p : Topology × ℕ). AllByRecursion (λ (s : Stamped Mail). IsTrueMail p.0 p.1 s.item) b.taken) (λ i. (sym is.plan_is i, sym is.owner_is i)) is.taken_true

-- what holds of each view holds of one
view-of : (P : View Mail → Type 0) (vs : List (View Mail)) (n : ℕ) (v : View Mail) → AllByRecursion P vs → slice_get vs n ≡ Some v → P v
view-of P [] n v all at = absurd (let e : None ≡ Some v = at in cc)
view-of P (w ∷ vs) zero v all at = subst P (one_of w v at) all.0
view-of P (w ∷ vs) (suc n) v all at = view-of P vs n v all.1 at

-- a list has an item at each number below its length
item-at : {X : Type 0} (P : Type 0) (xs : List X) (n : ℕ) → n < length xs → ((x : X) → slice_get xs n ≡ Some x → P) → P
item-at P [] n below use_it = absurd (omega arith)
item-at P (x ∷ xs) zero below use_it = use_it x refl
item-at P (x ∷ xs) (suc n) below use_it = item-at P xs n (omega arith) use_it

number-below : {X : Type 0} (xs : List X) (n : ℕ) (x : X) → slice_get xs n ≡ Some x → n < length xs
number-below [] n x at = absurd (let e : None ≡ Some x = at in cc)
number-below (y ∷ xs) zero x at = omega arith
number-below (y ∷ xs) (suc n) x at = let rest = number-below xs n x at in omega arith

-- what passes took is true of the boxes that they are for
pub row_took : (t : Topology) (boxes : List (Mailbox Mail)) (row : List (Pass Mail)) → ArePasses t boxes row → AllByRecursion TookTruly (map view_of row) → TookTrue t row
row_took t boxes row passes truly n v at =
    item-at Took row n few (λ p here. item-at Took boxes n (let f = few in let m = passes.many in omega arith) (λ box there. by p (passes.each n box p there here) (one_of (view_of p) v (sym (get-map view_of row n p here) ∙ at))))
  where
    Took : Type 0
    Took = AllByRecursion (λ (s : Stamped Mail). IsTrueMail t n s.item) (taken_of v.books)

    few : n < length row
    few = let b = number-below (map view_of row) n v at in let l = length-map row view_of in omega arith

    by : {box : Mailbox Mail} (p : Pass Mail) → IsPassFor t n box p → view_of p ≡ v → Took
    by p is same =
        subst (λ (q : Topology × ℕ). AllByRecursion (λ (s : Stamped Mail). IsTrueMail q.0 q.1 s.item) (taken_of v.books))
        (λ i. ((sym (ap (λ (u : View Mail). u.plan) same) ∙ is.plan) i, (sym (ap (λ (u : View Mail). u.owner) same) ∙ is.owner) i)) (view-of TookTruly (map view_of row) n v truly at)

-- a row with all numbers knows it
pub fit_took : (t : Topology) (boxes : List (Mailbox Mail)) (row : List (Pass Mail)) → IsFitRow t boxes row → TookTrue t row
fit_took t boxes row is = row_took t boxes row is.passes (each-weaker IsFitView TookTruly (λ v fit. fit.rest.took_true) (map view_of row) is.fit)

-- Boxes that are made one after another.
use Rattle.std.proofs.Common.{◌≡◌, ℕ, zero, suc, ◌+◌, List, [], ◌∷◌, ◌++◌, length, map, None, Some, sym, refl, ap, subst, ◌∙◌, arith}
use Rattle.std.specs.Prelude.{slice_get}
use Rattle.std.proofs.lemmas.List.FromFn.{map-range_with_len_more}
use Rattle.std.specs.List.{AllByRecursion}
use Rattle.pass_numbers.specs.Numbers.{IsWhole}
use Rattle.box_rows.specs.declared.mail.Mail.{Mail}
use Rattle.box_rows.specs.FirstRow.{box_capacity, first_of}
use Rattle.box_rows.specs.FitRows.{IsFitRow, IsFitView}
use Rattle.box_rows.specs.Mails.{IsTrueMail, last_box}
use Rattle.box_rows.specs.Rows.{ArePasses, IsPassFor}
use Rattle.box_rows.proofs.AllRows.{each-last, map-last}
use Rattle.box_rows.proofs.Changing.{one_of}
use Rattle.task_queues.specs.Books.{first_view, numbers_of}
use Rattle.task_queues.specs.declared.pass.Mailbox.{Mailbox}
use Rattle.task_queues.specs.declared.pass.Pass.{Pass}
use Rattle.task_queues.specs.declared.rule.View.{View}
use Rattle.task_queues.specs.Passes.{IsPassOf, view_of}
use Rattle.task_queues.specs.Whole.{HoldsRest}
use Rattle.event_worlds.specs.topology_plan.Topology.{Topology}

-- so many boxes were made, each with its pass
pub record Made (t : Topology) (n : ℕ) (boxes : List (Mailbox Mail)) (row : List (Pass Mail)) : Type 0 where
  pub count : length boxes ≡ n
  pub passes : ArePasses t boxes row
  pub views : map view_of row ≡ first_of t n
  pub fit : AllByRecursion IsFitView (map view_of row)

both-push : {X Y : Type 0} (P : ℕ → X → Y → Type 0) (xs : List X) (ys : List Y) (x : X) (y : Y) → length ys ≡ length xs → P (length xs) x y
    → ((k : ℕ) (a : X) (b : Y) → slice_get xs k ≡ Some a → slice_get ys k ≡ Some b → P k a b)
    → (k : ℕ) (a : X) (b : Y) → slice_get (xs ++ x ∷ []) k ≡ Some a → slice_get (ys ++ y ∷ []) k ≡ Some b → P k a b
both-push P [] [] x y same here before zero a b at bt = subst (P 0 a) (one_of y b bt) (subst (λ z. P 0 z y) (one_of x a at) here)
both-push P [] [] x y same here before (suc k) a b at bt = absurd (let e : None ≡ Some a = at in cc)
both-push P [] (z ∷ ys) x y same here before k a b at bt = absurd (omega arith)
both-push P (w ∷ xs) [] x y same here before k a b at bt = absurd (omega arith)
both-push P (w ∷ xs) (z ∷ ys) x y same here before zero a b at bt = before 0 a b at bt
both-push P (w ∷ xs) (z ∷ ys) x y same here before (suc k) a b at bt =
    both-push (λ i c d. P (suc i) c d) xs ys x y (omega arith) here (λ i c d ct dt. before (suc i) c d ct dt) k a b at bt

length-push : {X : Type 0} (xs : List X) (x : X) → length (xs ++ x ∷ []) ≡ length xs + 1
length-push [] x = refl
length-push (y ∷ ys) x = let rest = length-push ys x in omega arith

pub made-none : (t : Topology) (boxes : List (Mailbox Mail)) (row : List (Pass Mail)) → boxes ≡ [] → row ≡ [] → Made t 0 boxes row
made-none t boxes row no_box no_pass = subst (λ (bs : List (Mailbox Mail)). Made t 0 bs row) (sym no_box) (subst (Made t 0 []) (sym no_pass) none)
  where
    none : Made t 0 [] []
    none = record {
      count = refl;
      passes = record { many = refl; each = λ n box p at there. absurd (let e : None ≡ Some p = there in cc) };
      views = refl;
      fit = tt;
    }

first-rest : (t : Topology) (n : ℕ) → HoldsRest IsTrueMail (first_view t n box_capacity)
first-rest t n = record {
  held = [];
  all = λ f. refl;
  are_true = tt;
  took_true = tt;
  few = (omega arith);
  rises = tt;
  above = (tt, tt);
}

made-next : (t : Topology) (n : ℕ) (boxes : List (Mailbox Mail)) (row : List (Pass Mail)) (box : Mailbox Mail) (pass : Pass Mail) → Made t n boxes row → IsPassOf box pass
    → view_of pass ≡ first_view t n box_capacity → IsWhole (numbers_of (view_of pass)) → Made t (n + 1) (boxes ++ box ∷ []) (row ++ pass ∷ [])
made-next t n boxes row box pass made is view whole = record {
  count = length-push boxes box ∙ ap (λ (k : ℕ). k + 1) made.count;
  passes = record {
    many = (let a = length-push boxes box in let b = length-push row pass in let m = made.passes.many in omega arith);
    each = both-push (IsPassFor t) boxes row box pass made.passes.many
        (record { pass = is; plan = ap (λ (v : View Mail). v.plan) view; owner = ap (λ (v : View Mail). v.owner) view ∙ sym made.count })
        made.passes.each;
  };
  views = map-last view_of row pass ∙ (λ i. made.views i ++ view i ∷ []) ∙ sym (firsts n);
  fit = subst (AllByRecursion IsFitView) (sym (map-last view_of row pass)) (each-last IsFitView (map view_of row) (view_of pass) made.fit
      (record { whole = whole; rest = subst (HoldsRest IsTrueMail) (sym view) (first-rest t n) }));
}
  where
    firsts : (k : ℕ) → first_of t (k + 1) ≡ first_of t k ++ first_view t k box_capacity ∷ []
    firsts k = map-range_with_len_more (λ (i : ℕ). first_view t i box_capacity) 0 k k (omega arith)

pub made-more : (t : Topology) (n : ℕ) (boxes more : List (Mailbox Mail)) (row longer : List (Pass Mail)) (box : Mailbox Mail) (pass : Pass Mail) → Made t n boxes row → more ≡ boxes ++ box ∷ [] → longer ≡ row ++ pass ∷ []
    → IsPassOf box pass → view_of pass ≡ first_view t n box_capacity → IsWhole (numbers_of (view_of pass)) → Made t (n + 1) more longer
made-more t n boxes more row longer box pass made boxes_are row_is is view whole =
    subst (λ (bs : List (Mailbox Mail)). Made t (n + 1) bs longer) (sym boxes_are) (subst (Made t (n + 1) (boxes ++ box ∷ [])) (sym row_is) (made-next t n boxes row box pass made is view whole))

pub made-all : (t : Topology) (n : ℕ) (boxes : List (Mailbox Mail)) (row : List (Pass Mail)) → Made t n boxes row → n ≡ last_box t + 1 → IsFitRow t boxes row
made-all t n boxes row made ends = record { passes = made.passes; boxes_are = made.count ∙ ends; fit = made.fit }

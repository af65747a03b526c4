-- Rows of passes that have all numbers of their boxes.
use Rattle.std.proofs.Common.{◌≡◌, ◌≤◌, ◌<◌, ℕ, zero, suc, ◌+◌, ◌-◌, nat_lt, ltb-true, ltb-false, Bool, true, false, List, [], ◌∷◌, length, map, Option, Some, None, set, sym, refl, subst, ◌∙◌, arith}
use Rattle.std.specs.Prelude.{slice_get, IfSome, OnOk, OnErr, Result, Ok, Err}
use Rattle.std.specs.Option.{IfNone}
use Rattle.std.specs.List.{AllByRecursion}
use Rattle.std.proofs.lemmas.List.{length-map}
use Rattle.event_worlds.specs.counted_items.Weights.{weigh}
use Rattle.event_worlds.proofs.counted_items.Weighing.{weigh-append}
use Rattle.event_worlds.proofs.Waiting.{each-set}
use Rattle.pass_numbers.specs.Numbers.{IsWhole}
use Rattle.box_rows.specs.declared.mail.Mail.{Mail}
use Rattle.box_rows.specs.FitRows.{AreWhole, HoldsMore, IsFitRow, IsFitView, TellsAt}
use Rattle.box_rows.specs.Mails.{IsTrueMail, last_box, weigh_mail}
use Rattle.box_rows.specs.Rows.{ArePasses, HasSent, HasTaken, IsSameRow, IsViewAt, sent_in, taken_in, weigh_sent, weigh_taken}
use Rattle.box_rows.proofs.Changing.{one_of}
use Rattle.box_rows.proofs.AllRows.{sent-views, taken-views}
use Rattle.task_queues.specs.Books.{numbers_of, numbers_in, sent_first, sent_to, taken_first, taken_of, took}
use Rattle.task_queues.specs.declared.pass.Mailbox.{Mailbox}
use Rattle.task_queues.specs.declared.pass.Pass.{Pass}
use Rattle.task_queues.specs.declared.rule.Book.{Book}
use Rattle.task_queues.specs.declared.rule.Stamped.{Stamped}
use Rattle.task_queues.specs.declared.rule.View.{View}
use Rattle.task_queues.specs.Passes.{view_of}
use Rattle.task_queues.specs.Whole.{HoldsRest}
use Rattle.event_worlds.specs.topology_plan.Topology.{Topology}
use Rattle.event_worlds.specs.tuple_account.Histories.{Packet}

-- ---- what is held was sent

covered : (v : View Mail) → HoldsRest IsTrueMail v → (f : Packet → ℕ) → weigh_taken f v ≤ weigh_sent f v
covered v rest f =
    let e = rest.all (λ (s : Stamped Mail). weigh_mail f s.item) in
    let a = weigh-append (λ (s : Stamped Mail). weigh_mail f s.item) (taken_of v.books) rest.held in omega arith

covers-views : (vs : List (View Mail)) → AllByRecursion IsFitView vs → (f : Packet → ℕ) → weigh (weigh_taken f) vs ≤ weigh (weigh_sent f) vs
covers-views [] all f = omega arith
covers-views (v ∷ vs) all f = let rest = covers-views vs all.1 f in let one = covered v all.0.rest f in omega arith

pub covers : (row : List (Pass Mail)) → AllByRecursion IsFitView (map view_of row) → (f : Packet → ℕ) → taken_in row f ≤ sent_in row f
covers row all f =
    let c = covers-views (map view_of row) all f in let s = sent-views f row in let t = taken-views f row in omega arith

-- ---- rows that are the same

pub same-then : (old mid new : List (Pass Mail)) → IsSameRow old mid → IsSameRow mid new → IsSameRow old new
same-then old mid new a b = record {
  views = b.views ∙ a.views;
  sent = λ f. b.sent f ∙ a.sent f;
  taken = λ f. b.taken f ∙ a.taken f;
}

pub sent-then : (n : ℕ) (mail : Mail) (old mid new : List (Pass Mail)) → HasSent n mail old mid → IsSameRow mid new → HasSent n mail old new
sent-then n mail old mid new a b = record {
  before = a.before;
  there = a.there;
  views = b.views ∙ a.views;
  sent = λ f. b.sent f ∙ a.sent f;
  taken = λ f. b.taken f ∙ a.taken f;
}

pub taken-then : (n : ℕ) (mail : Mail) (old mid new : List (Pass Mail)) → HasTaken n mail old mid → IsSameRow mid new → HasTaken n mail old new
taken-then n mail old mid new a b = record {
  before = a.before;
  there = a.there;
  stamp = a.stamp;
  item = a.item;
  first = a.first;
  views = b.views ∙ a.views;
  sent = λ f. b.sent f ∙ a.sent f;
  taken = λ f. b.taken f ∙ a.taken f;
}

pub same-none : (row : List (Pass Mail)) → IsSameRow row row
same-none row = record { views = refl; sent = λ f. refl; taken = λ f. refl }

-- ---- one view of a row

view-at : (P : View Mail → Type 0) (vs : List (View Mail)) (n : ℕ) (v : View Mail) → AllByRecursion P vs → slice_get vs n ≡ Some v → P v
view-at P [] n v all at = absurd (let e : None ≡ Some v = at in cc)
view-at P (w ∷ vs) zero v all at = subst P (one_of w v at) all.0
view-at P (w ∷ vs) (suc n) v all at = view-at P vs n v all.1 at

get-set : (vs : List (View Mail)) (n : ℕ) (v w : View Mail) → slice_get vs n ≡ Some v → slice_get (set vs n w) n ≡ Some w
get-set [] n v w at = absurd (let e : None ≡ Some v = at in cc)
get-set (u ∷ vs) zero v w at = refl
get-set (u ∷ vs) (suc n) v w at = get-set vs n v w at

sent-numbers : (bs : List (Book Mail)) (x : Mail) → numbers_in (sent_first bs x) ≡ numbers_in bs
sent-numbers [] x = refl
sent-numbers (b ∷ bs) x = refl

taken-numbers : (bs : List (Book Mail)) (s : Stamped Mail) → numbers_in (taken_first bs s) ≡ numbers_in bs
taken-numbers [] s = refl
taken-numbers (b ∷ bs) s = refl

pub whole-at : (row : List (Pass Mail)) (n : ℕ) (v : View Mail) → AllByRecursion IsFitView (map view_of row) → IsViewAt n row v → IsWhole (numbers_of v)
whole-at row n v fit at = (view-at IsFitView (map view_of row) n v fit at).whole

-- one view changed, and has the numbers that it had
set-fit : (old new : List (Pass Mail)) (n : ℕ) (v w : View Mail) → AllByRecursion IsFitView (map view_of old) → IsViewAt n old v → map view_of new ≡ set (map view_of old) n w → numbers_of w ≡ numbers_of v → TellsAt n new
    → AllByRecursion IsFitView (map view_of new)
set-fit old new n v w fit there views numbers tells =
    let whole : IsWhole (numbers_of w) = subst IsWhole (sym numbers) (whole-at old n v fit there) in
    let here : IsViewAt n new w = subst (λ (vs : List (View Mail)). slice_get vs n ≡ Some w) (sym views) (get-set (map view_of old) n v w there) in
    let one : IsFitView w = record { whole = whole; rest = tells w here whole } in
    subst (AllByRecursion IsFitView) (sym views) (each-set IsFitView (map view_of old) n w fit one)

pub fit-sent : (n : ℕ) (mail : Mail) (old new : List (Pass Mail)) → AllByRecursion IsFitView (map view_of old) → HasSent n mail old new → TellsAt n new → AllByRecursion IsFitView (map view_of new)
fit-sent n mail old new fit has tells = set-fit old new n has.before (sent_to has.before mail) fit has.there has.views (sent-numbers has.before.books mail) tells

pub fit-taken : (n : ℕ) (mail : Mail) (old new : List (Pass Mail)) → AllByRecursion IsFitView (map view_of old) → HasTaken n mail old new → TellsAt n new → AllByRecursion IsFitView (map view_of new)
fit-taken n mail old new fit has tells = set-fit old new n has.before (took has.before has.stamp) fit has.there has.views (taken-numbers has.before.books has.stamp) tells

pub fit-same : (old new : List (Pass Mail)) → AllByRecursion IsFitView (map view_of old) → IsSameRow old new → AllByRecursion IsFitView (map view_of new)
fit-same old new fit same = subst (AllByRecursion IsFitView) (sym same.views) fit

-- ---- what is held

pub holds-sent : (n : ℕ) (mail : Mail) (old new : List (Pass Mail)) → AllByRecursion IsFitView (map view_of old) → HasSent n mail old new → HoldsMore mail old new
holds-sent n mail old new fit has = λ f.
    sent_one (sent_in old f) (taken_in old f) (sent_in new f) (taken_in new f) (weigh_mail f mail) (has.sent f) (has.taken f) (covers old fit f)
  where
    sent_one : (s k s' k' x : ℕ) → s' ≡ s + x → k' ≡ k → k ≤ s → s' - k' ≡ s - k + x
    sent_one s k s' k' x es et before = omega arith

pub holds-taken : (n : ℕ) (mail : Mail) (old new : List (Pass Mail)) → AllByRecursion IsFitView (map view_of old) → AllByRecursion IsFitView (map view_of new) → HasTaken n mail old new → HoldsMore mail new old
holds-taken n mail old new fit now has = λ f.
    taken_one (sent_in old f) (taken_in old f) (sent_in new f) (taken_in new f) (weigh_mail f mail) (has.sent f) (has.taken f) (covers old fit f) (covers new now f)
  where
    taken_one : (s k s' k' x : ℕ) → s' ≡ s → k' ≡ k + x → k ≤ s → k' ≤ s' → s - k ≡ s' - k' + x
    taken_one s k s' k' x es et before after = omega arith

-- ---- by what was answered

module _ (n : ℕ) (old mid new : List (Pass Mail)) (fit : AllByRecursion IsFitView (map view_of old)) (same : IsSameRow mid new) (tells : TellsAt n new) where
  pub send-fits : {A E : Type 0} (r : Result A E) (mail : Mail) → OnOk r (HasSent n mail old mid) → OnErr r (IsSameRow old mid) → AllByRecursion IsFitView (map view_of new)
  send-fits (Ok a) mail ok err = fit-sent n mail old new fit (sent-then n mail old mid new ok same) tells
  send-fits (Err e) mail ok err = fit-same old new fit (same-then old mid new err same)

  pub take-fits : (r : Option Mail) → IfSome r (λ m. HasTaken n m old mid) → IfNone r (IsSameRow old mid) → AllByRecursion IsFitView (map view_of new)
  take-fits (Some m) some none = fit-taken n m old new fit (taken-then n m old mid new some same) tells
  take-fits None some none = fit-same old new fit (same-then old mid new none same)

-- ---- looks, one after another

abbrev FitAt : List (View Mail) → ℕ → Type 0
FitAt vs n = (v : View Mail) → slice_get vs n ≡ Some v → IsFitView v

-- the first so many are fit, and none changed
pub record Looked (so_far : ℕ) (old new : List (Pass Mail)) : Type 0 where
  pub same : IsSameRow old new
  pub fit : (i : ℕ) → i < so_far → FitAt (map view_of new) i

pub looked-none : (row : List (Pass Mail)) → Looked 0 row row
looked-none row = record { same = same-none row; fit = λ i below. absurd (omega arith) }

pub looked-more : (n : ℕ) (old mid new : List (Pass Mail)) → AreWhole old → Looked n old mid → IsSameRow mid new → TellsAt n new → Looked (n + 1) old new
looked-more n old mid new whole so_far same tells = record {
  same = same-then old mid new so_far.same same;
  fit = λ i below. by i below (nat_lt i n) refl;
}
  where
    still : AreWhole new
    still = subst (AllByRecursion (λ (v : View Mail). IsWhole (numbers_of v))) (sym (same.views ∙ so_far.same.views)) whole

    here : FitAt (map view_of new) n
    here v at =
        let has = view-at (λ (u : View Mail). IsWhole (numbers_of u)) (map view_of new) n v still at in record { whole = has; rest = tells v at has }

    by : (i : ℕ) → i < n + 1 → (b : Bool) → nat_lt i n ≡ b → FitAt (map view_of new) i
    by i below true is = subst (λ (vs : List (View Mail)). FitAt vs i) (sym same.views) (so_far.fit i (ltb-true i n is))
    by i below false is = let over = ltb-false i n is in let e : i ≡ n = omega arith in subst (FitAt (map view_of new)) (sym e) here

all-fit : (vs : List (View Mail)) → ((i : ℕ) → i < length vs → FitAt vs i) → AllByRecursion IsFitView vs
all-fit [] each = tt
all-fit (v ∷ vs) each = (each 0 (omega arith) v refl, all-fit vs (λ i below w at. each (suc i) (omega arith) w at))

pub looked-all : (t : Topology) (boxes : List (Mailbox Mail)) (old new : List (Pass Mail)) (n : ℕ) → ArePasses t boxes new → length boxes ≡ last_box t + 1 → Looked n old new → n ≡ length boxes → IsFitRow t boxes new
looked-all t boxes old new n passes many looked ends = record {
  passes = passes;
  boxes_are = many;
  fit = all-fit (map view_of new) (λ i below. looked.fit i (let m = passes.many in let l = length-map new view_of in omega arith));
}

-- Rows split for all workers, and joined again.
use Rattle.std.proofs.Common.{◌≡◌, ◌≢◌, ◌<◌, ◌≤◌, ℕ, zero, suc, List, [], ◌∷◌, ◌++◌, length, map, sym, refl, ap, subst, ◌∙◌, arith}
use Rattle.std.specs.List.{AllByRecursion}
use Rattle.std.proofs.lemmas.List.{length-map}
use Rattle.event_worlds.specs.counted_items.Weights.{weigh}
use Rattle.event_worlds.proofs.counted_items.Weighing.{weigh-append}
use Rattle.pass_numbers.proofs.Numbering.{numbered_as}
use Rattle.pass_numbers.specs.Numbers.{Numbered}
use Rattle.box_rows.specs.declared.mail.Mail.{Mail}
use Rattle.box_rows.specs.Rows.{ArePasses, sent_in, taken_in, weigh_sent, weigh_taken}
use Rattle.box_rows.specs.AllRows.{ArePassesIn, HasComeBack, HasJoined, HasSplit, Row, sent_by, taken_by, views_in}
use Rattle.box_rows.specs.Splitting.{joined_views, numbers_in_box}
use Rattle.box_rows.proofs.Numbers.{cut-sent, join-numbered, joined-sent, kept-sent, split-numbered}
use Rattle.task_queues.specs.Books.{cut_of, kept_of, numbers_in}
use Rattle.task_queues.specs.declared.pass.Mailbox.{Mailbox}
use Rattle.task_queues.specs.declared.pass.Pass.{Pass}
use Rattle.task_queues.specs.declared.rule.Book.{Book}
use Rattle.task_queues.specs.declared.rule.View.{View}
use Rattle.task_queues.specs.Passes.{view_of}
use Rattle.event_worlds.specs.topology_plan.Topology.{Topology}
use Rattle.event_worlds.specs.tuple_account.Histories.{Packet}

-- ---- a row by its views

pub sent-views : (f : Packet → ℕ) (row : List (Pass Mail)) → weigh (weigh_sent f) (map view_of row) ≡ sent_in row f
sent-views f [] = refl
sent-views f (p ∷ ps) = let rest = sent-views f ps in omega arith

pub taken-views : (f : Packet → ℕ) (row : List (Pass Mail)) → weigh (weigh_taken f) (map view_of row) ≡ taken_in row f
taken-views f [] = refl
taken-views f (p ∷ ps) = let rest = taken-views f ps in omega arith

some-numbers : (bs : List (Book Mail)) → bs ≢ [] → numbers_in bs ≢ []
some-numbers [] some none = some refl
some-numbers (b ∷ bs) some none = cc

has-numbers : (n : ℕ) (row : List (Pass Mail)) → n < length row → numbers_in_box n (map view_of row) ≢ []
has-numbers n [] below = absurd (omega arith)
has-numbers zero (p ∷ ps) below = some-numbers (view_of p).books p.some_book
has-numbers (suc n) (p ∷ ps) below = has-numbers n ps (omega arith)

pub map-last : {X Y : Type 0} (f : X → Y) (xs : List X) (x : X) → map f (xs ++ x ∷ []) ≡ map f xs ++ f x ∷ []
map-last f [] x = refl
map-last f (y ∷ ys) x = ap (λ zs. f y ∷ zs) (map-last f ys x)

pub each-last : {X : Type 0} (P : X → Type 0) (xs : List X) (x : X) → AllByRecursion P xs → P x → AllByRecursion P (xs ++ x ∷ [])
each-last P [] x all here = (here, tt)
each-last P (y ∷ ys) x all here = (all.0, each-last P ys x all.1 here)

-- a row that comes last, in place of second
pub last-second : (n : ℕ) (vs us : List (View Mail)) (others : List (List (View Mail))) → Numbered (numbers_in_box n) (vs ∷ us ∷ others) → Numbered (numbers_in_box n) (vs ∷ (others ++ us ∷ []))
last-second n vs us others =
    numbered_as (numbers_in_box n) (numbers_in_box n) (vs ∷ us ∷ others) (vs ∷ (others ++ us ∷ []))
    (λ f. let a = weigh-append (λ (w : List (View Mail)). weigh f (numbers_in_box n w)) others (us ∷ []) in omega arith)

pub second-last : (n : ℕ) (vs us : List (View Mail)) (others : List (List (View Mail))) → Numbered (numbers_in_box n) (vs ∷ (others ++ us ∷ [])) → Numbered (numbers_in_box n) (vs ∷ us ∷ others)
second-last n vs us others =
    numbered_as (numbers_in_box n) (numbers_in_box n) (vs ∷ (others ++ us ∷ [])) (vs ∷ us ∷ others)
    (λ f. let a = weigh-append (λ (w : List (View Mail)). weigh f (numbers_in_box n w)) others (us ∷ []) in omega arith)

-- ---- splits

module _ (t : Topology) (boxes : List (Mailbox Mail)) where
  pub none-split : (row : List (Pass Mail)) → HasSplit t boxes row row []
  none-split row = record { passes = tt; sent = λ f. refl; taken = λ f. refl; none_sent = λ f. refl; none_taken = λ f. refl; numbers = λ n below all. all }

  pub one-more : (start now new : List (Pass Mail)) (rows : List Row) (made : Row) → HasSplit t boxes start now rows → ArePasses t boxes now → ArePasses t boxes made.items
      → map view_of new ≡ map kept_of (map view_of now) → map view_of made.items ≡ map cut_of (map view_of now) → HasSplit t boxes start new (rows ++ made ∷ [])
  one-more start now new rows made so_far are made_are kept cut = record {
    passes = each-last (ArePassesIn t boxes) rows made so_far.passes made_are;
    sent = λ f.
        let a = sent-views f new in let b = sent-views f now in
        let k = (kept-sent f (map view_of now)).0 in let e = ap (weigh (weigh_sent f)) kept in let s = so_far.sent f in omega arith;
    taken = λ f.
        let a = taken-views f new in let b = taken-views f now in
        let k = (kept-sent f (map view_of now)).1 in let e = ap (weigh (weigh_taken f)) kept in let s = so_far.taken f in omega arith;
    none_sent = λ f.
        let a = sent-views f made.items in let c = (cut-sent f (map view_of now)).0 in let e = ap (weigh (weigh_sent f)) cut in
        let w = weigh-append (λ (r : Row). sent_in r.items f) rows (made ∷ []) in let s = so_far.none_sent f in omega arith;
    none_taken = λ f.
        let a = taken-views f made.items in let c = (cut-sent f (map view_of now)).1 in let e = ap (weigh (weigh_taken f)) cut in
        let w = weigh-append (λ (r : Row). taken_in r.items f) rows (made ∷ []) in let s = so_far.none_taken f in omega arith;
    numbers = λ n below all.
        let was = so_far.numbers n below all in
        let some = has-numbers n now (let m = are.many in omega arith) in
        let cutten = split-numbered n (map view_of now) (map views_in rows) some was in
        let moved = last-second n (map kept_of (map view_of now)) (map cut_of (map view_of now)) (map views_in rows) cutten in
        subst (λ (vs : List (List (View Mail))). Numbered (numbers_in_box n) (map view_of new ∷ vs)) (sym (map-last views_in rows made))
        (subst (λ (vs : List (List (View Mail))). Numbered (numbers_in_box n) vs) (λ i. sym kept i ∷ (map views_in rows ++ sym cut i ∷ [])) moved);
  }

-- ---- joins

pub none-joined : (row : List (Pass Mail)) (rows : List Row) → HasJoined row rows row rows
none-joined row rows = record { sent = λ f. refl; taken = λ f. refl; numbers = λ n all. all }

pub each-first : {X : Type 0} (P : X → Type 0) (xs : List X) (x : X) → AllByRecursion P (xs ++ x ∷ []) → AllByRecursion P xs × P x
each-first P [] x all = (tt, all.0)
each-first P (y ∷ ys) x all = let rest = each-first P ys x all.1 in ((all.0, rest.0), rest.1)

module _ (t : Topology) (boxes : List (Mailbox Mail)) where
  pub one-fewer : (start now new : List (Pass Mail)) (rows rest fewer : List Row) (other : Row) → HasJoined start rows now rest → rest ≡ fewer ++ other ∷ [] → ArePasses t boxes now → ArePasses t boxes other.items
      → map view_of new ≡ joined_views (map view_of now) (map view_of other.items) → HasJoined start rows new fewer
  one-fewer start now new rows rest fewer other so_far is are others joined =
      let size : length (map view_of other.items) ≤ length (map view_of now) = (let a = length-map other.items view_of in let b = length-map now view_of in let c = are.many in let d = others.many in omega arith) in record {
        sent = λ f.
            let a = sent-views f new in let b = sent-views f now in let o = sent-views f other.items in
            let j = (joined-sent f (map view_of now) (map view_of other.items) size).0 in let e = ap (weigh (weigh_sent f)) joined in
            let w = weigh-append (λ (r : Row). sent_in r.items f) fewer (other ∷ []) in let x = ap (λ (rs : List Row). sent_by rs f) is in let s = so_far.sent f in omega arith;
        taken = λ f.
            let a = taken-views f new in let b = taken-views f now in let o = taken-views f other.items in
            let j = (joined-sent f (map view_of now) (map view_of other.items) size).1 in let e = ap (weigh (weigh_taken f)) joined in
            let w = weigh-append (λ (r : Row). taken_in r.items f) fewer (other ∷ []) in let x = ap (λ (rs : List Row). taken_by rs f) is in let s = so_far.taken f in omega arith;
        numbers = λ n all.
            let was = so_far.numbers n all in
            let split = subst (λ (vs : List (List (View Mail))). Numbered (numbers_in_box n) (map view_of now ∷ vs)) (ap (map views_in) is ∙ map-last views_in fewer other) was in
            let second = second-last n (map view_of now) (views_in other) (map views_in fewer) split in
            subst (λ (vs : List (View Mail)). Numbered (numbers_in_box n) (vs ∷ map views_in fewer)) (sym joined)
            (join-numbered n (map view_of now) (views_in other) (map views_in fewer) size second);
      }

-- ---- splits that are joined again

pub back-none : (count : ℕ) (row : List (Pass Mail)) → HasComeBack count row row
back-none count row = record { sent = λ f. refl; taken = λ f. refl; numbers = λ n below all. all }

pub comes-back : (t : Topology) (boxes : List (Mailbox Mail)) (start now new : List (Pass Mail)) (rows : List Row) → HasSplit t boxes start now rows → HasJoined now rows new [] → HasComeBack (length boxes) start new
comes-back t boxes start now new rows split joined = record {
  sent = λ f. let j = joined.sent f in let s = split.sent f in let o = split.none_sent f in omega arith;
  taken = λ f. let j = joined.taken f in let s = split.taken f in let o = split.none_taken f in omega arith;
  numbers = λ n below all. joined.numbers n (split.numbers n below all);
}

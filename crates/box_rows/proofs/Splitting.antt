-- Rows in which passes are split and joined one after another.
use Rattle.std.proofs.Common.{◌≡◌, ◌<◌, ◌≤◌, ℕ, zero, suc, ◌+◌, List, [], ◌∷◌, ◌++◌, length, map, None, Some, get_or, set, sym, refl, ap, subst, ◌∙◌, arith}
use Rattle.std.specs.Prelude.{slice_get}
use Rattle.std.proofs.lemmas.List.{map-set, length-map}
use Rattle.box_rows.specs.declared.mail.Mail.{Mail}
use Rattle.box_rows.specs.Rows.{ArePasses, IsPassFor}
use Rattle.box_rows.specs.Splitting.{IsPassAt, JoinsAt, SplitsAt, joined_views}
use Rattle.box_rows.proofs.Changing.{get-map, one_of, pass_at, pass_for}
use Rattle.task_queues.specs.Books.{both_of, cut_of, kept_of}
use Rattle.task_queues.specs.declared.pass.Mailbox.{Mailbox}
use Rattle.task_queues.specs.declared.pass.Pass.{Pass}
use Rattle.task_queues.specs.declared.rule.View.{View}
use Rattle.task_queues.specs.Passes.{IsPassOf, view_of}
use Rattle.event_worlds.specs.topology_plan.Topology.{Topology}

-- the first so many changed
abbrev pub half : {X : Type 0} → (X → X) → ℕ → List X → List X
half f n [] = []
half f zero (x ∷ xs) = x ∷ xs
half f (suc n) (x ∷ xs) = f x ∷ half f n xs

abbrev pub front : {X : Type 0} → (X → X) → ℕ → List X → List X
front f n [] = []
front f zero (x ∷ xs) = []
front f (suc n) (x ∷ xs) = f x ∷ front f n xs

module _ {X : Type 0} (f : X → X) where
  pub half-none : (xs : List X) → half f zero xs ≡ xs
  half-none [] = refl
  half-none (x ∷ xs) = refl

  pub front-none : (xs : List X) → front f zero xs ≡ []
  front-none [] = refl
  front-none (x ∷ xs) = refl

  pub half-all : (n : ℕ) (xs : List X) → length xs ≤ n → half f n xs ≡ map f xs
  half-all n [] all = refl
  half-all zero (x ∷ xs) all = absurd (omega arith)
  half-all (suc n) (x ∷ xs) all = ap (λ ys. f x ∷ ys) (half-all n xs (omega arith))

  pub front-all : (n : ℕ) (xs : List X) → length xs ≤ n → front f n xs ≡ map f xs
  front-all n [] all = refl
  front-all zero (x ∷ xs) all = absurd (omega arith)
  front-all (suc n) (x ∷ xs) all = ap (λ ys. f x ∷ ys) (front-all n xs (omega arith))

  -- the next one
  pub half-more : (n : ℕ) (xs : List X) (x : X) → slice_get (half f n xs) n ≡ Some x → set (half f n xs) n (f x) ≡ half f (suc n) xs
  half-more n [] x at = absurd (let e : None ≡ Some x = at in cc)
  half-more zero (y ∷ ys) x at = let e = one_of y x at in (λ i. f (sym e i) ∷ sym (half-none ys) i)
  half-more (suc n) (y ∷ ys) x at = ap (λ zs. f y ∷ zs) (half-more n ys x at)

  pub front-more : (g : X → X) (n : ℕ) (xs : List X) (x : X) → slice_get (half g n xs) n ≡ Some x → front f n xs ++ f x ∷ [] ≡ front f (suc n) xs
  front-more g n [] x at = absurd (let e : None ≡ Some x = at in cc)
  front-more g zero (y ∷ ys) x at = let e = one_of y x at in (λ i. f (sym e i) ∷ sym (front-none ys) i)
  front-more g (suc n) (y ∷ ys) x at = ap (λ zs. f y ∷ zs) (front-more g n ys x at)

module _ (t : Topology) (boxes : List (Mailbox Mail)) (row : List (Pass Mail)) (n : ℕ) (box : Mailbox Mail) (p q made : Pass Mail)
    (are : ArePasses t boxes row) (below : n < length boxes) (box_is : box ≡ get_or boxes n box) (pass_is : p ≡ get_or row n p) where
  pub splits_at : IsPassOf box made → view_of q ≡ kept_of (view_of p) → view_of made ≡ cut_of (view_of p) → SplitsAt t boxes n row (set row n q) made
  splits_at is kept cut =
      let at = pass_at t boxes row n box p q are below box_is pass_is in
      let for = pass_for t boxes row n box p q are below box_is pass_is in record {
        is_for = λ other there.
            let same : box ≡ other = one_of box other (sym (pass_box are below box_is) ∙ there) in
            subst (λ (b : Mailbox Mail). IsPassFor t n b made) same (record {
              pass = is;
              plan = ap (λ (v : View Mail). v.plan) cut ∙ for.plan;
              owner = ap (λ (v : View Mail). v.owner) cut ∙ for.owner;
            });
        before = view_of p;
        at = get-map view_of row n p at;
        kept = map-set view_of row n q ∙ ap (set (map view_of row) n) kept;
        cut = cut;
      }
    where
      pass_box : ArePasses t boxes row → n < length boxes → box ≡ get_or boxes n box → slice_get boxes n ≡ Some box
      pass_box are below is = at_some boxes n below is
        where
          at_some : (xs : List (Mailbox Mail)) (i : ℕ) → i < length xs → box ≡ get_or xs i box → slice_get xs i ≡ Some box
          at_some [] i below is = absurd (omega arith)
          at_some (y ∷ ys) zero below is = ap (λ z. Some z) (sym is)
          at_some (y ∷ ys) (suc i) below is = at_some ys i (omega arith) is

  pub joins_at : view_of q ≡ both_of (view_of p) (view_of made) → JoinsAt n made row (set row n q)
  joins_at joined = record {
    before = view_of p;
    at = get-map view_of row n p (pass_at t boxes row n box p q are below box_is pass_is);
    joined = map-set view_of row n q ∙ ap (set (map view_of row) n) joined;
  }

-- ---- rows that were made

pub record HalfSplit (t : Topology) (boxes : List (Mailbox Mail)) (n : ℕ) (start now made : List (Pass Mail)) : Type 0 where
  pub passes : ArePasses t boxes now
  pub kept : map view_of now ≡ half kept_of n (map view_of start)
  pub cut : map view_of made ≡ front cut_of n (map view_of start)
  pub made_for : (k : ℕ) (p : Pass Mail) → slice_get made k ≡ Some p → IsPassAt t boxes k p
  pub many : length made ≡ n

get-push : {X : Type 0} (xs : List X) (x p : X) (k : ℕ) → slice_get (xs ++ x ∷ []) k ≡ Some p → (P : ℕ → X → Type 0) → P (length xs) x → (slice_get xs k ≡ Some p → P k p) → P k p
get-push [] x p zero at P here before = subst (P zero) (one_of x p at) here
get-push [] x p (suc k) at P here before = absurd (let e : None ≡ Some p = at in cc)
get-push (y ∷ ys) x p zero at P here before = before at
get-push (y ∷ ys) x p (suc k) at P here before = get-push ys x p k at (λ (i : ℕ). P (suc i)) here before

length-push : {X : Type 0} (xs : List X) (x : X) → length (xs ++ x ∷ []) ≡ length xs + 1
length-push [] x = refl
length-push (y ∷ ys) x = let rest = length-push ys x in omega arith

map-push : {X Y : Type 0} (f : X → Y) (xs : List X) (x : X) → map f (xs ++ x ∷ []) ≡ map f xs ++ f x ∷ []
map-push f [] x = refl
map-push f (y ∷ ys) x = ap (λ zs. f y ∷ zs) (map-push f ys x)

module _ (t : Topology) (boxes : List (Mailbox Mail)) (start : List (Pass Mail)) where
  pub split-starts : ArePasses t boxes start → HalfSplit t boxes 0 start start []
  split-starts are = record {
    passes = are;
    kept = sym (half-none kept_of (map view_of start));
    cut = sym (front-none cut_of (map view_of start));
    made_for = λ k p at. absurd (let e : None ≡ Some p = at in cc);
    many = refl;
  }

  pub split-more : (n : ℕ) (now new made : List (Pass Mail)) (pass : Pass Mail) → HalfSplit t boxes n start now made → ArePasses t boxes new → SplitsAt t boxes n now new pass → HalfSplit t boxes (n + 1) start new (made ++ pass ∷ [])
  split-more n now new made pass so_far are one =
      let vs = map view_of start in
      let at : slice_get (half kept_of n vs) n ≡ Some one.before = subst (λ (xs : List (View Mail)). slice_get xs n ≡ Some one.before) so_far.kept one.at in
      let next : suc n ≡ n + 1 = omega arith in record {
        passes = are;
        kept = one.kept ∙ ap (λ (xs : List (View Mail)). set xs n (kept_of one.before)) so_far.kept ∙ half-more kept_of n vs one.before at ∙ ap (λ (k : ℕ). half kept_of k vs) next;
        cut = map-push view_of made pass ∙ (λ i. so_far.cut i ++ one.cut i ∷ []) ∙ front-more cut_of kept_of n vs one.before at ∙ ap (λ (k : ℕ). front cut_of k vs) next;
        made_for = λ k p there. get-push made pass p k there (IsPassAt t boxes) (subst (λ (i : ℕ). IsPassAt t boxes i pass) (sym so_far.many) one.is_for) (λ was. so_far.made_for k p was);
        many = length-push made pass ∙ (let m = so_far.many in omega arith);
      }

  pub split-kept : (n : ℕ) (now made : List (Pass Mail)) → HalfSplit t boxes n start now made → length start ≤ n → map view_of now ≡ map kept_of (map view_of start)
  split-kept n now made half_way all = half_way.kept ∙ half-all kept_of n (map view_of start) (let l = length-map start view_of in omega arith)

  pub split-cut : (n : ℕ) (now made : List (Pass Mail)) → HalfSplit t boxes n start now made → length start ≤ n → map view_of made ≡ map cut_of (map view_of start)
  split-cut n now made half_way all = half_way.cut ∙ front-all cut_of n (map view_of start) (let l = length-map start view_of in omega arith)

  pub split-made : (n : ℕ) (now made : List (Pass Mail)) → HalfSplit t boxes n start now made → n ≡ length boxes → ArePasses t boxes made
  split-made n now made half_way all = record { many = half_way.many ∙ all; each = λ k box p there at. half_way.made_for k p at box there }

-- ---- rows that are joined

-- the first so many are as they were, and the others have the other's books
abbrev pub partly : ℕ → List (View Mail) → List (View Mail) → List (View Mail)
partly n [] us = []
partly n (v ∷ vs) [] = v ∷ vs
partly zero (v ∷ vs) (u ∷ us) = both_of v u ∷ partly zero vs us
partly (suc n) (v ∷ vs) (u ∷ us) = v ∷ partly n vs us

partly-all : (n : ℕ) (vs us : List (View Mail)) → length us ≤ n → partly n vs us ≡ vs
partly-all n [] us all = refl
partly-all n (v ∷ vs) [] all = refl
partly-all zero (v ∷ vs) (u ∷ us) all = absurd (omega arith)
partly-all (suc n) (v ∷ vs) (u ∷ us) all = ap (λ ws. v ∷ ws) (partly-all n vs us (omega arith))

partly-none : (vs us : List (View Mail)) → partly zero vs us ≡ joined_views vs us
partly-none [] us = refl
partly-none (v ∷ vs) [] = refl
partly-none (v ∷ vs) (u ∷ us) = ap (λ ws. both_of v u ∷ ws) (partly-none vs us)

partly-one : (vs xs : List (View Mail)) (u : View Mail) (done : List (View Mail)) (before : View Mail) → slice_get (partly (suc (length xs)) vs (xs ++ u ∷ done)) (length xs) ≡ Some before
    → set (partly (suc (length xs)) vs (xs ++ u ∷ done)) (length xs) (both_of before u) ≡ partly (length xs) vs (xs ++ u ∷ done)
partly-one [] xs u done before at = absurd (let e : None ≡ Some before = at in cc)
partly-one (v ∷ vs) [] u done before at = let e = one_of v before at in ap (λ w. both_of w u ∷ partly zero vs done) (sym e)
partly-one (v ∷ vs) (x ∷ xs) u done before at = ap (λ ws. v ∷ ws) (partly-one vs xs u done before at)

append-one : {X : Type 0} (xs : List X) (x : X) (ys : List X) → (xs ++ x ∷ []) ++ ys ≡ xs ++ x ∷ ys
append-one [] x ys = refl
append-one (z ∷ zs) x ys = ap (λ ws. z ∷ ws) (append-one zs x ys)

pub record HalfJoined (t : Topology) (boxes : List (Mailbox Mail)) (start other now rest : List (Pass Mail)) : Type 0 where
  pub passes : ArePasses t boxes now
  pub done : List (View Mail)
  pub all : map view_of other ≡ map view_of rest ++ done
  pub joined : map view_of now ≡ partly (length rest) (map view_of start) (map view_of other)
  pub rest_for : (k : ℕ) (p : Pass Mail) → slice_get rest k ≡ Some p → IsPassAt t boxes k p
  pub many : length rest ≤ length boxes

get-front : {X : Type 0} (xs : List X) (x p : X) (k : ℕ) → slice_get xs k ≡ Some p → slice_get (xs ++ x ∷ []) k ≡ Some p
get-front [] x p k at = absurd (let e : None ≡ Some p = at in cc)
get-front (y ∷ ys) x p zero at = at
get-front (y ∷ ys) x p (suc k) at = get-front ys x p k at

get-last : {X : Type 0} (xs : List X) (x : X) → slice_get (xs ++ x ∷ []) (length xs) ≡ Some x
get-last [] x = refl
get-last (y ∷ ys) x = get-last ys x

module _ (t : Topology) (boxes : List (Mailbox Mail)) (start other : List (Pass Mail)) where
  pub join-starts : ArePasses t boxes start → ArePasses t boxes other → HalfJoined t boxes start other start other
  join-starts are others = record {
    passes = are;
    done = [];
    all = sym (append-empty (map view_of other));
    joined = sym (partly-all (length other) (map view_of start) (map view_of other) (let l = length-map other view_of in omega arith));
    rest_for = λ k p at box there. others.each k box p there at;
    many = (let m = others.many in omega arith);
  }
    where
      append-empty : (xs : List (View Mail)) → xs ++ [] ≡ xs
      append-empty [] = refl
      append-empty (x ∷ xs) = ap (λ ys. x ∷ ys) (append-empty xs)

  -- the last of the rest
  pub last-for : (now rest fewer : List (Pass Mail)) (pass : Pass Mail) → HalfJoined t boxes start other now rest → rest ≡ fewer ++ pass ∷ [] → IsPassAt t boxes (length fewer) pass × (length fewer < length boxes)
  last-for now rest fewer pass so_far is = (
    so_far.rest_for (length fewer) pass (subst (λ (xs : List (Pass Mail)). slice_get xs (length fewer) ≡ Some pass) (sym is) (get-last fewer pass)),
    (let l = length-push fewer pass in let e = ap length is in let m = so_far.many in omega arith),
  )

  pub join-more : (now new rest fewer : List (Pass Mail)) (pass : Pass Mail) → HalfJoined t boxes start other now rest → rest ≡ fewer ++ pass ∷ [] → ArePasses t boxes new → JoinsAt (length fewer) pass now new → HalfJoined t boxes start other new fewer
  join-more now new rest fewer pass so_far is are one =
      let vs = map view_of start in
      let us : map view_of other ≡ map view_of fewer ++ view_of pass ∷ so_far.done =
      so_far.all ∙ ap (λ (xs : List (Pass Mail)). map view_of xs ++ so_far.done) is ∙ ap (λ ws. ws ++ so_far.done) (map-push view_of fewer pass) ∙ append-one (map view_of fewer) (view_of pass) so_far.done in
      let size : length rest ≡ suc (length (map view_of fewer)) = (let l = length-push fewer pass in let e = ap length is in let m = length-map fewer view_of in omega arith) in
      let here : length fewer ≡ length (map view_of fewer) = (let m = length-map fewer view_of in omega arith) in
      let was : map view_of now ≡ partly (suc (length (map view_of fewer))) vs (map view_of fewer ++ view_of pass ∷ so_far.done) = so_far.joined ∙ (λ i. partly (size i) vs (us i)) in
      let at : slice_get (partly (suc (length (map view_of fewer))) vs (map view_of fewer ++ view_of pass ∷ so_far.done)) (length (map view_of fewer)) ≡ Some one.before =
      subst (λ (k : ℕ). slice_get (partly (suc (length (map view_of fewer))) vs (map view_of fewer ++ view_of pass ∷ so_far.done)) k ≡ Some one.before) here
      (subst (λ (ws : List (View Mail)). slice_get ws (length fewer) ≡ Some one.before) was one.at) in record {
        passes = are;
        done = view_of pass ∷ so_far.done;
        all = us;
        joined = one.joined ∙ (λ i. set (was i) (here i) (both_of one.before (view_of pass))) ∙ partly-one vs (map view_of fewer) (view_of pass) so_far.done one.before at
            ∙ (λ i. partly (sym here i) vs (sym us i));
        rest_for = λ k p there. so_far.rest_for k p (subst (λ (xs : List (Pass Mail)). slice_get xs k ≡ Some p) (sym is) (get-front fewer pass p k there));
        many = (let l = length-push fewer pass in let e = ap length is in let m = so_far.many in omega arith);
      }

  pub join-ends : (now rest : List (Pass Mail)) → HalfJoined t boxes start other now rest → rest ≡ [] → map view_of now ≡ joined_views (map view_of start) (map view_of other)
  join-ends now rest so_far none = so_far.joined ∙ ap (λ (xs : List (Pass Mail)). partly (length xs) (map view_of start) (map view_of other)) none ∙ partly-none (map view_of start) (map view_of other)

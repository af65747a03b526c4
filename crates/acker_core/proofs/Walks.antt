-- A walk over a tuple tree that comes to each message of a list shows that the list is closed, and its dones' path order.
use Rattle.std.proofs.Common.{IfSome, ◌≡◌, ℕ, ◌+◌, false, List, [], ◌∷◌, ◌++◌, Option, None, Some, Ordering, Less, Equal, Greater, is_gt, length, flat_map, IsPermutation, refl, sym, ap, subst, ◌∙◌, arith}
use Rattle.std.specs.Prelude.{slice_get}
use Rattle.std.specs.List.{AllByRecursion}
use Rattle.std.specs.Ordering.{ordering_reverse}
use Rattle.std.proofs.lemmas.Cmp.{nat_list_cmp_total}
use Rattle.std.proofs.lemmas.List.Folds.{flat_map-map}
use Rattle.tree_model.specs.counted_items.Weights.{Same, weigh}
use Rattle.tree_model.proofs.counted_items.Each.{each-append, each-weaker}
use Rattle.tree_model.proofs.counted_items.Sums.{same-IsPermutation}
use Rattle.tree_model.proofs.counted_items.Weighing.{weigh-append, weigh-flat_map, weigh-push}
use Rattle.tree_model.specs.storm_values.Order.{path_cmp}
use Rattle.tree_model.specs.tuple_tickets.declared.edge.Edge.{Edge}
use Rattle.tree_model.specs.tuple_tickets.Edges.{is_edge}
use Rattle.tree_model.specs.declared.messages.AckMsg.{AckMsg}
use Rattle.tree_model.specs.declared.messages.AckMsg.TheVariants as msg
use Rattle.tree_model.specs.declared.messages.Done.{Done}
use Rattle.tree_model.specs.tuple_tickets.Lists as tickets
use Rattle.tree_model.specs.Lists.{said, IsClosed, occurrences_in}
use Rattle.commit_writes.specs.Writes.{AreInPathOrder, HasDoneAt, IsPathOrderOf, done_of, dones_at, dones_in}
use Rattle.acker_core.specs.declared.follow.LentEdge.{LentEdge}
use Rattle.acker_core.specs.declared.follow.Open.{Open}
use Rattle.acker_core.specs.Orders.{FollowsOn, HasInit, StandsAt, all_open, edge_of, edges_in}
use Rattle.acker_core.proofs.Places.{AreApart, HasAt, whole_at}

-- ---- open edges

pub taken : (before rest after : List Open) (top : Open) (e : Edge) (others : List Edge) → before ≡ rest ++ top ∷ [] → edges_in top ≡ e ∷ others
    → all_open after ≡ all_open rest ++ others → Same (all_open before) (e ∷ all_open after)
taken before rest after top e others popped parts put f =
    let all = ap (λ (os : List Open). weigh f (all_open os)) popped in
    let each = weigh-flat_map f edges_in (rest ++ top ∷ []) in
    let one = weigh-push (λ (o : Open). weigh f (edges_in o)) rest top in
    let front = weigh-flat_map f edges_in rest in
    let first : weigh f (edges_in top) ≡ f e + weigh f others = ap (weigh f) parts in
    let last = ap (weigh f) put ∙ weigh-append f (all_open rest) others in omega arith

pub taken_is : (o : Option (LentEdge × ℕ)) (edge : LentEdge) (slot : ℕ) (before after : List Edge) → IfSome o (λ t. Same before (edge_of t.0 ∷ after))
    → o ≡ Some (edge, slot) → Same before (edge_of edge ∷ after)
taken_is o edge slot before after is found = subst (λ (o : Option (LentEdge × ℕ)). IfSome o (λ t. Same before (edge_of t.0 ∷ after))) found is

-- one is taken, and those of the done come
pub went : (before left after made : List Edge) (e used : Edge) → Same before (e ∷ left) → after ≡ left ++ made → used ≡ e → Same (before ++ made) (used ∷ after)
went before left after made e used moved put same f =
    let m = moved f in
    let a = weigh-append f before made in
    let b = ap (weigh f) put ∙ weigh-append f left made in
    let c = ap f same in omega arith

pub none_open : (os : List Open) → length os ≡ 0 → all_open os ≡ []
none_open [] empty = refl
none_open (o ∷ os) empty = absurd (omega arith)

-- ---- a walk so far

-- the edge that a done consumes, and those that it produced
abbrev pub used : Option AckMsg → List Edge
used None = []
used (Some (msg.Init m)) = []
used (Some (msg.Done m)) = m.consumed ∷ []
used (Some (msg.Failed m)) = []

abbrev pub made : Option AckMsg → List Edge
made None = []
made (Some (msg.Init m)) = []
made (Some (msg.Done m)) = m.produced
made (Some (msg.Failed m)) = []

-- dones stand at the places, and their paths rise from one path to another
abbrev pub Rises : List AckMsg → List ℕ → List ℕ → List ℕ → Type 0
Rises list p [] last = p ≡ last
Rises list p (k ∷ ks) last = (d : Done) × StandsAt list k d × (path_cmp p d.consumed.path ≡ Less) × Rises list d.consumed.path ks last

pub record IsWalked (list : List AckMsg) (firsts : List Edge) (order : List ℕ) (last : List ℕ) (left : List Edge) : Type 0 where
  pub rises : Rises list [] order last
  pub balanced : (f : Edge → ℕ) → weigh f firsts + weigh (λ (k : ℕ). weigh f (made (slice_get list k))) order ≡ weigh (λ (k : ℕ). weigh f (used (slice_get list k))) order + weigh f left

pub walked-none : (list : List AckMsg) (firsts : List Edge) (order last : List ℕ) (before after : List Open) → order ≡ [] → last ≡ [] → before ≡ []
    → all_open after ≡ all_open before ++ firsts → IsWalked list firsts order last (all_open after)
walked-none list firsts order last before after none at_root empty put = record {
  rises = subst (λ (ks : List ℕ). Rises list [] ks last) (sym none) (sym at_root);
  balanced = λ f.
      let a = ap (weigh (λ (k : ℕ). weigh f (made (slice_get list k)))) none in
      let b = ap (weigh (λ (k : ℕ). weigh f (used (slice_get list k)))) none in
      let c = ap (λ (os : List Open). weigh f (all_open os)) empty in
      let d = ap (weigh f) put ∙ weigh-append f (all_open before) firsts in omega arith;
}

module _ (list : List AckMsg) where
  rises-push : (p : List ℕ) (ks : List ℕ) (last : List ℕ) (k : ℕ) (d : Done) → Rises list p ks last → StandsAt list k d
      → path_cmp last d.consumed.path ≡ Less → Rises list p (ks ++ k ∷ []) d.consumed.path
  rises-push p [] last k d up at above = (d, at, ap (λ (q : List ℕ). path_cmp q d.consumed.path) up ∙ above, refl)
  rises-push p (j ∷ js) last k d up at above = (up.0, up.1, up.2, rises-push up.0.consumed.path js last k d up.3 at above)

  pub walked-more : (firsts : List Edge) (order longer last path : List ℕ) (before after : List Edge) → IsWalked list firsts order last before
      → FollowsOn list order longer last path before after → IsWalked list firsts longer path after
  walked-more firsts order longer last path before after walked on = record {
    rises = subst (λ (ks : List ℕ). Rises list [] ks path) (sym on.added)
        (subst (Rises list [] (order ++ on.place ∷ [])) (sym on.is_last) (rises-push [] order last on.place on.done walked.rises on.there on.above));
    balanced = λ f.
        let old = walked.balanced f in
        let moved = on.moved f in
        let parts = weigh-append f before on.done.produced in
        let a = ap (weigh (λ (k : ℕ). weigh f (made (slice_get list k)))) on.added ∙ weigh-push (λ (k : ℕ). weigh f (made (slice_get list k))) order on.place in
        let b = ap (weigh (λ (k : ℕ). weigh f (used (slice_get list k)))) on.added ∙ weigh-push (λ (k : ℕ). weigh f (used (slice_get list k))) order on.place in
        let c : weigh f (made (slice_get list on.place)) ≡ weigh f on.done.produced = ap (λ (o : Option AckMsg). weigh f (made o)) on.there in
        let d : weigh f (used (slice_get list on.place)) ≡ f on.done.consumed + 0 = ap (λ (o : Option AckMsg). weigh f (used o)) on.there in omega arith;
  }

  -- ---- no place stands twice

  own_reverse : (o : Ordering) → o ≡ ordering_reverse o → o ≡ Equal
  own_reverse Less same = cc
  own_reverse Equal same = refl
  own_reverse Greater same = cc

  path-itself : (p : List ℕ) → path_cmp p p ≡ Less → ⊥
  path-itself p below = let equal = own_reverse (path_cmp p p) (nat_list_cmp_total.antisymm p p) in let wrong : Less ≡ Equal = sym below ∙ equal in cc

  -- a done above a path stands at a place
  abbrev IsAbove : List ℕ → ℕ → Type 0
  IsAbove p k = (d : Done) × StandsAt list k d × (path_cmp p d.consumed.path ≡ Less)

  all-above : (p : List ℕ) (ks : List ℕ) (last : List ℕ) → Rises list p ks last → AllByRecursion (IsAbove p) ks
  all-above p [] last up = tt
  all-above p (k ∷ ks) last up = (
    (up.0, up.1, up.2),
    each-weaker (IsAbove up.0.consumed.path) (IsAbove p)
        (λ j h. (h.0, h.1, nat_list_cmp_total.trans p up.0.consumed.path h.0.consumed.path up.2 h.2)) ks
        (all-above up.0.consumed.path ks last up.3),
  )

  same_done : (d e : Done) (o : Option AckMsg) → o ≡ Some (msg.Done d) → o ≡ Some (msg.Done e) → d ≡ e
  same_done d e o first second = cc

  apart : (p : List ℕ) (ks : List ℕ) (last : List ℕ) → Rises list p ks last → AreApart ks
  apart p [] last up = tt
  apart p (k ∷ ks) last up = (
    each-weaker (IsAbove up.0.consumed.path) (λ (j : ℕ). j ≡ k → ⊥)
        (λ j h same.
        let one : up.0 ≡ h.0 = same_done up.0 h.0 (slice_get list k) up.1 (ap (slice_get list) (sym same) ∙ h.1) in
        path-itself up.0.consumed.path (subst (λ (d : Done). path_cmp up.0.consumed.path d.consumed.path ≡ Less) (sym one) h.2)) ks
        (all-above up.0.consumed.path ks last up.3),
    apart up.0.consumed.path ks last up.3,
  )

  -- ---- the dones at the places

  each-done : (P : Done → Type 0) (ks : List ℕ) → AllByRecursion (λ (k : ℕ). (d : Done) × StandsAt list k d × P d) ks → AllByRecursion P (dones_at list ks)
  each-done P [] all = tt
  each-done P (k ∷ ks) all =
      each-append P (done_of (slice_get list k)) (dones_at list ks)
      (subst (λ (o : Option AckMsg). AllByRecursion P (done_of o)) (sym all.0.1) (all.0.2, tt)) (each-done P ks all.1)

  in_order : (p : List ℕ) (ks : List ℕ) (last : List ℕ) → Rises list p ks last → AreInPathOrder (dones_at list ks)
  in_order p [] last up = tt
  in_order p (k ∷ ks) last up =
      let q = up.0.consumed.path in
      let above : AllByRecursion (λ (e : Done). is_gt (path_cmp q e.consumed.path) ≡ false) (dones_at list ks) =
      each-done (λ (e : Done). is_gt (path_cmp q e.consumed.path) ≡ false) ks
      (each-weaker (IsAbove q) (λ (j : ℕ). (d : Done) × StandsAt list j d × (is_gt (path_cmp q d.consumed.path) ≡ false)) (λ j h. (h.0, h.1, ap is_gt h.2)) ks (all-above q ks last up.3)) in
      subst (λ (o : Option AckMsg). AreInPathOrder (done_of o ++ dones_at list ks)) (sym up.1) (above, in_order q ks last up.3)

  have_dones : (p : List ℕ) (ks : List ℕ) (last : List ℕ) → Rises list p ks last → AllByRecursion (HasDoneAt list) ks
  have_dones p [] last up = tt
  have_dones p (k ∷ ks) last up = ((up.0, up.1), have_dones up.0.consumed.path ks last up.3)

  -- ---- the edges at the places

  abbrev edges_of : Option AckMsg → List Edge
  edges_of None = []
  edges_of (Some m) = occurrences_in m

  both : (f : Edge → ℕ) (p : List ℕ) (ks : List ℕ) (last : List ℕ) → Rises list p ks last
      → weigh (λ (k : ℕ). weigh f (edges_of (slice_get list k))) ks
      ≡ weigh (λ (k : ℕ). weigh f (used (slice_get list k))) ks + weigh (λ (k : ℕ). weigh f (made (slice_get list k))) ks
  both f p [] last up = refl
  both f p (k ∷ ks) last up =
      let d = up.0 in
      let a : weigh f (edges_of (slice_get list k)) ≡ f d.consumed + weigh f d.produced = ap (λ (o : Option AckMsg). weigh f (edges_of o)) up.1 in
      let b : weigh f (used (slice_get list k)) ≡ f d.consumed + 0 = ap (λ (o : Option AckMsg). weigh f (used o)) up.1 in
      let c : weigh f (made (slice_get list k)) ≡ weigh f d.produced = ap (λ (o : Option AckMsg). weigh f (made o)) up.1 in
      let later = both f d.consumed.path ks last up.3 in omega arith

  -- ---- each message was met

  init_apart : (firsts : List Edge) (ks : List ℕ) → (init : HasInit list firsts) → AllByRecursion (HasDoneAt list) ks → AllByRecursion (λ (j : ℕ). j ≡ init.place → ⊥) ks
  init_apart firsts ks init all =
      each-weaker (HasDoneAt list) (λ (j : ℕ). j ≡ init.place → ⊥)
      (λ j h same. let wrong : Some (msg.Done h.0) ≡ Some (msg.Init init.init) = sym h.1 ∙ ap (slice_get list) same ∙ init.there in cc) ks all

  pub walked-all : (firsts : List Edge) (order last : List ℕ) (left : List Edge) → HasInit list firsts → IsWalked list firsts order last left → left ≡ []
      → length order + 1 ≡ length list → IsClosed list × IsPathOrderOf list order
  walked-all firsts order last left init walked none many = (
    closed,
    record {
      there = have_dones [] order last walked.rises;
      same = subst (λ (ds : List Done). IsPermutation (dones_in list) ds) no_done (whole_at done_of refl list (init.place ∷ order) no_twice all_there count);
      ordered = in_order [] order last walked.rises;
    },
  )
    where
      no_twice : AreApart (init.place ∷ order)
      no_twice = (init_apart firsts order init (have_dones [] order last walked.rises), apart [] order last walked.rises)

      all_there : AllByRecursion (HasAt list) (init.place ∷ order)
      all_there = (
        (msg.Init init.init, init.there),
        each-weaker (HasDoneAt list) (HasAt list) (λ k h. (msg.Done h.0, h.1)) order (have_dones [] order last walked.rises),
      )

      count : length (init.place ∷ order) ≡ length list
      count = omega arith

      no_done : flat_map (λ (k : ℕ). done_of (slice_get list k)) (init.place ∷ order) ≡ dones_at list order
      no_done = ap (λ (o : Option AckMsg). done_of o ++ dones_at list order) init.there

      closed : IsClosed list
      closed e =
          let f = is_edge e in
          let same = same-IsPermutation (flat_map occurrences_in list) (flat_map (λ (k : ℕ). edges_of (slice_get list k)) (init.place ∷ order)) (whole_at edges_of refl list (init.place ∷ order) no_twice all_there count) f in
          let each = ap (weigh f) (flat_map-map tickets.occurrences_in said list) in
          let flat = weigh-flat_map f (λ (k : ℕ). edges_of (slice_get list k)) (init.place ∷ order) in
          let first : weigh f (edges_of (slice_get list init.place)) ≡ weigh f init.init.edges = ap (λ (o : Option AckMsg). weigh f (edges_of o)) init.there in
          let are = ap (weigh f) init.are in
          let parts = both f [] order last walked.rises in
          let balanced = walked.balanced f in
          let empty : weigh f left ≡ 0 = ap (weigh f) none in omega arith

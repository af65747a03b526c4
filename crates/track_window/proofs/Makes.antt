-- Making tuples of nodes: none, more, and one.
use Rattle.std.proofs.Common.{◌≡◌, ℕ, zero, suc, ◌+◌, ◌<◌, List, [], ◌∷◌, ◌++◌, map, length, length-append, take, get_or, replicate, refl, sym, ap, subst, ◌∙◌, append_assoc, append-nil, add-zero, arith}
use Rattle.std.proofs.lemmas.List.{map-append}
use Rattle.std.specs.List.{AllByRecursion, flat_map}
use Rattle.tree_model.proofs.counted_items.Each.{each-append}
use Rattle.tree_model.specs.storm_values.declared.value.Root.{Root}
use Rattle.tree_model.specs.storm_values.declared.value.Value.{Value}
use Rattle.tree_model.specs.topology_plan.Topology.{Topology}
use Rattle.tree_model.specs.tuple_tickets.declared.edge.Edge.{Edge}
use Rattle.tree_model.specs.declared.messages.Tuple.{Tuple}
use Rattle.tree_model.specs.Trees.{Node}
use Rattle.tuple_account.specs.Issued.{edges_of, tuples_from}
use Rattle.tuple_account.proofs.Drawing.{as_many_edges}
use Rattle.window_account.specs.Calls.{IsFitNode}
use Rattle.track_window.specs.declared.job.Job.{Job}
use Rattle.track_window.specs.Jobs.{tuples_in}
use Rattle.track_window.specs.Making.{Makes, node}

cut : (root : Root) (path : List ℕ) (j : ℕ) (ns ms : List Node) (xs ys : List ℕ) → length xs ≡ length ns
    → tuples_from root path j (ns ++ ms) (xs ++ ys) ≡ tuples_from root path j ns xs ++ tuples_from root path (j + length ns) ms ys
cut root path j [] ms [] ys enough = ap (λ k. tuples_from root path k ms ys) (sym (add-zero j))
cut root path j [] ms (x ∷ xs) ys enough = absurd (omega (arith, enough))
cut root path j (n ∷ ns) ms [] ys enough = absurd (omega (arith, enough))
cut root path j (n ∷ ns) ms (x ∷ xs) ys enough =
    let first : Tuple = record { root = root; edge = record { path = path ++ j ∷ []; id = x }; component = n.component; row = n.row } in
    let e : suc j + length ns ≡ j + length (n ∷ ns) = omega arith in
    ap (λ l. first ∷ l) (cut root path (suc j) ns ms xs ys (omega (arith, enough)) ∙ ap (λ k. tuples_from root path (suc j) ns xs ++ tuples_from root path k ms ys) e)

module _ (t : Topology) (root : Root) (path : List ℕ) where
  pub Makes-none : (edges : List Edge) (jobs : List Job) → Makes t root path [] edges jobs edges jobs
  Makes-none edges jobs = record {
    ids = [];
    enough = refl;
    edges = sym (append-nil edges);
    jobs = sym (append-nil (tuples_in jobs));
    fit = tt;
  }

  pub Makes-then : (ns ms : List Node) (e0 e1 e2 : List Edge) (j0 j1 j2 : List Job) → Makes t root path ns e0 j0 e1 j1 → Makes t root path ms e1 j1 e2 j2 → Makes t root path (ns ++ ms) e0 j0 e2 j2
  Makes-then ns ms e0 e1 e2 j0 j1 j2 first second =
      let long : length e1 ≡ length e0 + length ns =
      ap length first.edges ∙ length-append e0 (edges_of (tuples_from root path (length e0) ns first.ids))
      ∙ ap (λ (n : ℕ). length e0 + n) (as_many_edges root path (length e0) ns first.ids first.enough ∙ first.enough) in
      let all = cut root path (length e0) ns ms first.ids second.ids first.enough in
      let later = ap (λ (k : ℕ). tuples_from root path k ms second.ids) long in
      record {
        ids = first.ids ++ second.ids;
        enough = length-append first.ids second.ids ∙ (λ i. first.enough i + second.enough i) ∙ sym (length-append ns ms);
        edges =
            second.edges
            ∙ (λ i. first.edges i ++ edges_of (later i))
            ∙ append_assoc e0 (edges_of (tuples_from root path (length e0) ns first.ids)) (edges_of (tuples_from root path (length e0 + length ns) ms second.ids))
            ∙ ap (λ (es : List Edge). e0 ++ es) (sym (map-append (λ (tuple : Tuple). tuple.edge) (tuples_from root path (length e0) ns first.ids) (tuples_from root path (length e0 + length ns) ms second.ids)) ∙ ap edges_of (sym all));
        jobs =
            second.jobs
            ∙ (λ i. first.jobs i ++ later i)
            ∙ append_assoc (tuples_in j0) (tuples_from root path (length e0) ns first.ids) (tuples_from root path (length e0 + length ns) ms second.ids)
            ∙ ap (λ (ts : List Tuple). tuples_in j0 ++ ts) (sym all);
        fit = each-append (IsFitNode t) ns ms first.fit second.fit;
      }

  -- one tuple
  pub Makes-one : (n : Node) (edge : Edge) (job : Job) (id : ℕ) (e0 e1 : List Edge) (j0 j1 : List Job) → edge ≡ record { path = path ++ length e0 ∷ []; id = id } → e1 ≡ e0 ++ edge ∷ [] → j1 ≡ j0 ++ job ∷ []
      → job.tuple ≡ record { root = root; edge = edge; component = n.component; row = n.row } → IsFitNode t n → Makes t root path (n ∷ []) e0 j0 e1 j1
  Makes-one n edge job id e0 e1 j0 j1 at edges jobs tuple fit = record {
    ids = id ∷ [];
    enough = refl;
    edges = edges ∙ ap (λ (x : Edge). e0 ++ x ∷ []) at;
    jobs = ap tuples_in jobs ∙ map-append (λ (job : Job). job.tuple) j0 (job ∷ []) ∙ ap (λ (x : Tuple). tuples_in j0 ++ x ∷ []) (tuple ∙ ap (λ (x : Edge). record { root = root; edge = x; component = n.component; row = n.row }) at);
    fit = (fit, tt);
  }

  -- ---- lists of nodes, one more

  replicate_more : {X : Type 0} (n : ℕ) (x : X) → replicate (n + 1) x ≡ replicate n x ++ x ∷ []
  replicate_more zero x = refl
  replicate_more (suc n) x = let e : suc n + 1 ≡ suc (n + 1) = omega arith in ap (λ (k : ℕ). replicate k x) e ∙ ap (λ xs. x ∷ xs) (replicate_more n x)

  pub Makes-again : (n : ℕ) (x : Node) (e0 e1 e2 : List Edge) (j0 j1 j2 : List Job) → Makes t root path (replicate n x) e0 j0 e1 j1 → Makes t root path (x ∷ []) e1 j1 e2 j2 → Makes t root path (replicate (n + 1) x) e0 j0 e2 j2
  Makes-again n x e0 e1 e2 j0 j1 j2 first second =
      subst (λ (ns : List Node). Makes t root path ns e0 j0 e2 j2) (sym (replicate_more n x)) (Makes-then (replicate n x) (x ∷ []) e0 e1 e2 j0 j1 j2 first second)

  take_more : {X : Type 0} (xs : List X) (i : ℕ) (x : X) → i < length xs → x ≡ get_or xs i x → take (i + 1) xs ≡ take i xs ++ x ∷ []
  take_more [] i x within at = absurd (omega (arith, within))
  take_more (y ∷ ys) zero x within at = ap (λ z. z ∷ []) (sym at)
  take_more (y ∷ ys) (suc i) x within at = let e : suc i + 1 ≡ suc (i + 1) = omega arith in ap (λ (k : ℕ). take k (y ∷ ys)) e ∙ ap (λ zs. y ∷ zs) (take_more ys i x (omega (arith, within)) at)

  pub take_whole : {X : Type 0} (xs : List X) (n : ℕ) → n ≡ length xs → take n xs ≡ xs
  take_whole [] zero is = refl
  take_whole [] (suc n) is = refl
  take_whole (x ∷ xs) zero is = absurd (omega (arith, is))
  take_whole (x ∷ xs) (suc n) is = ap (λ ys. x ∷ ys) (take_whole xs n (omega (arith, is)))

  flat_more : {X : Type 0} (f : X → List Node) (xs : List X) (x : X) → flat_map f (xs ++ x ∷ []) ≡ flat_map f xs ++ f x
  flat_more f [] x = append-nil (f x)
  flat_more f (y ∷ ys) x = ap (λ zs. f y ++ zs) (flat_more f ys x) ∙ sym (append_assoc (f y) (flat_map f ys) (f x))

  -- the nodes of one more item of a list
  pub Makes-more : {X : Type 0} (f : X → List Node) (xs : List X) (i : ℕ) (x : X) → i < length xs → x ≡ get_or xs i x → (e0 e1 e2 : List Edge) (j0 j1 j2 : List Job)
      → Makes t root path (flat_map f (take i xs)) e0 j0 e1 j1 → Makes t root path (f x) e1 j1 e2 j2 → Makes t root path (flat_map f (take (i + 1) xs)) e0 j0 e2 j2
  Makes-more f xs i x within at e0 e1 e2 j0 j1 j2 first second =
      subst (λ (ns : List Node). Makes t root path ns e0 j0 e2 j2) (sym (ap (flat_map f) (take_more xs i x within at) ∙ flat_more f (take i xs) x))
      (Makes-then (flat_map f (take i xs)) (f x) e0 e1 e2 j0 j1 j2 first second)

  pub Makes-pushed : {X : Type 0} (f : X → List Node) (xs : List X) (x : X) (e0 e1 e2 : List Edge) (j0 j1 j2 : List Job)
      → Makes t root path (flat_map f xs) e0 j0 e1 j1 → Makes t root path (f x) e1 j1 e2 j2 → Makes t root path (flat_map f (xs ++ x ∷ [])) e0 j0 e2 j2
  Makes-pushed f xs x e0 e1 e2 j0 j1 j2 first second =
      subst (λ (ns : List Node). Makes t root path ns e0 j0 e2 j2) (sym (flat_more f xs x)) (Makes-then (flat_map f xs) (f x) e0 e1 e2 j0 j1 j2 first second)

  pub Makes-as : (ns ms : List Node) (e0 e1 : List Edge) (j0 j1 : List Job) → ns ≡ ms → Makes t root path ns e0 j0 e1 j1 → Makes t root path ms e0 j0 e1 j1
  Makes-as ns ms e0 e1 j0 j1 same = subst (λ (xs : List Node). Makes t root path xs e0 j0 e1 j1) same

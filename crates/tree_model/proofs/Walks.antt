-- The nodes below some nodes, piece by piece.
use Rattle.std.proofs.Common.{◌≡◌, ◌≢◌, All, Bool, true, false, ◌<◌, get_or, ℕ, zero, suc, ◌+◌, ◌-◌, ◌^◌, ◌≤◌, min, arith, zero-add, List, [], ◌∷◌, ◌++◌, length, fold, Option, Some, None, sym, refl, ap, subst, ◌∙◌}
use Rattle.std.proofs.lemmas.List.{append-nil, append_assoc}
use Rattle.std.proofs.lemmas.List.Concat.{flat_map-append}
use Rattle.std.proofs.lemmas.List.Elements.{filter_map-append}
use Rattle.std.specs.Prelude.{nat_lt, Result, Ok, Err, OnOk}
use Rattle.std.specs.List.{AllByRecursion, flat_map, filter_map, cons_option}
use Rattle.std.proofs.lemmas.List.Elements.{All-from_recursion, recursion_from_All}
use Rattle.std.specs.Option.{option_to_list}
use Rattle.storm_values.specs.declared.value.Value.{Value}
use Rattle.bolt_ops.specs.RowOp.{Custom}
use Rattle.topology_plan.specs.declared.parts.Origin.TheVariants as origin
use Rattle.topology_plan.specs.Topology.{Topology}
use Rattle.tree_model.specs.declared.plain.NodeCounter.{NodeCounter}
use Rattle.tree_model.specs.declared.write.Write.{Write}
use Rattle.storm_values.specs.declared.value.Value.TheVariants.{Text}
use Rattle.tree_model.specs.Trees.{word_rows, Node, kids, kids_of, kids_by, nodes_from, nodes_of, write_of, writes, node_count}

module _ (t : Topology) (custom : Custom) where
  -- a node, and what is below it
  pub nodes_from-kids : (levels : ℕ) (node : Node) → levels ≢ 0 → nodes_from levels t custom node ≡ node ∷ flat_map (nodes_from (levels - 1) t custom) (kids_of t custom node)
  nodes_from-kids zero node some = absurd (some refl)
  nodes_from-kids (suc levels) node some =
      let less : levels ≡ suc levels - 1 = omega arith in
      ap (λ (n : ℕ). node ∷ flat_map (nodes_from n t custom) (kids_of t custom node)) less

-- a node was visited, and then what is below it
pub walked-node : {V E : Type 0} (r : Result (Unit {0}) E) (f : V → Node → V) (old mid new : V) (node : Node) (all below : List Node) → mid ≡ f old node → all ≡ node ∷ below → OnOk r (new ≡ fold f mid below) → OnOk r (new ≡ fold f old all)
walked-node (Ok done) f old mid new node all below visited is then = then ∙ ap (λ v. fold f v below) visited ∙ ap (fold f old) (sym is)
walked-node (Err e) f old mid new node all below visited is then = tt

-- rows that were walked, and more of them
pub walked-more : {V : Type 0} (f : V → Node → V) (g : Node → List Node) (k : List Value → List Node) (v : V) (xs ys : List (List Value))
    → fold f (fold f v (flat_map g (flat_map k xs))) (flat_map g (flat_map k ys)) ≡ fold f v (flat_map g (flat_map k (xs ++ ys)))
walked-more f g k v xs ys =
    sym (fold-append f v (flat_map g (flat_map k xs)) (flat_map g (flat_map k ys)))
    ∙ ap (fold f v) (sym (flat_map-append g (flat_map k xs) (flat_map k ys)) ∙ ap (flat_map g) (sym (flat_map-append k xs ys)))
  where
    fold-append : {V N : Type 0} (f : V → N → V) (v : V) (ms ns : List N) → fold f v (ms ++ ns) ≡ fold f (fold f v ms) ns
    fold-append f v [] ns = refl
    fold-append f v (m ∷ ms) ns = fold-append f (f v m) ms ns

-- the rows of words, piece by piece
pub word_rows-append : (xs ys : List (List ℕ)) → word_rows (xs ++ ys) ≡ word_rows xs ++ word_rows ys
word_rows-append [] ys = refl
word_rows-append (x ∷ xs) ys = by (nat_lt 0 (length x)) refl (word_rows-append xs ys)
  where
    by : (b : Bool) → nat_lt 0 (length x) ≡ b → word_rows (xs ++ ys) ≡ word_rows xs ++ word_rows ys → word_rows (x ∷ xs ++ ys) ≡ word_rows (x ∷ xs) ++ word_rows ys
    by true is rest = rw is (ap (λ rs. (Text x ∷ []) ∷ rs) rest)
    by false is rest = rw is rest

piece_first : (P : List Value → Type 0) (y : List ℕ) (ys : List (List ℕ)) → AllByRecursion P (word_rows (y ∷ ys)) → AllByRecursion P (word_rows (y ∷ [])) × AllByRecursion P (word_rows ys)
piece_first P y ys each = cut (nat_lt 0 (length y)) refl each
  where
    cut : (b : Bool) → nat_lt 0 (length y) ≡ b → AllByRecursion P (word_rows (y ∷ ys)) → AllByRecursion P (word_rows (y ∷ [])) × AllByRecursion P (word_rows ys)
    cut true is each = let e = rw is at each in (rw is (e.0, tt), e.1)
    cut false is each = let e = rw is at each in (rw is tt, e)

piece_at : (P : List Value → Type 0) (ys : List (List ℕ)) (m : ℕ) (x : List ℕ) → AllByRecursion P (word_rows ys) → m < length ys → x ≡ get_or ys m x → AllByRecursion P (word_rows (x ∷ []))
piece_at P [] m x each less is = absurd (omega arith)
piece_at P (y ∷ ys) zero x each less is = subst (λ (z : List ℕ). AllByRecursion P (word_rows (z ∷ []))) (sym is) (piece_first P y ys each).0
piece_at P (y ∷ ys) (suc m) x each less is = piece_at P ys m x (piece_first P y ys each).1 (omega arith) is

-- a piece's row is one of them
pub word_rows-at : (P : List Value → Type 0) (xs : List (List ℕ)) (n : ℕ) (x : List ℕ) → All P (word_rows xs) → n < length xs → x ≡ get_or xs n x → All P (word_rows (x ∷ []))
word_rows-at P xs n x all below at = All-from_recursion P (word_rows (x ∷ [])) (piece_at P xs n x (recursion_from_All P (word_rows xs) all) below at)

-- a node's write at the end of the writes so far
abbrev pub with_write : Topology → List Write → Node → List Write
with_write t before node = before ++ option_to_list (write_of t node)

one_write : (o : Option Write) (before rest : List Write) → (before ++ option_to_list o) ++ rest ≡ before ++ cons_option o rest
one_write None before rest = ap (λ ws. ws ++ rest) (append-nil before)
one_write (Some write) before rest = append_assoc before (write ∷ []) rest

pub fold-with_write : (t : Topology) (before : List Write) (nodes : List Node) → fold (with_write t) before nodes ≡ before ++ filter_map (write_of t) nodes
fold-with_write t before [] = sym (append-nil before)
fold-with_write t before (node ∷ nodes) = fold-with_write t (with_write t before node) nodes ∙ one_write (write_of t node) before (filter_map (write_of t) nodes)

-- a walk that adds each node's write has them all
pub writes_from_walk : (t : Topology) (custom : Custom) (rows : List (List Value)) (levels : ℕ) (start made : List Write) → start ≡ [] → levels ≡ length t.components → made ≡ fold (with_write t) start (flat_map (nodes_from levels t custom) (kids t origin.Spout rows)) → made ≡ writes t custom rows
unfolding nodes_of
writes_from_walk t custom rows levels start made empty all walk =
    walk ∙ rw (empty, all) (fold-with_write t [] (flat_map (nodes_from (length t.components) t custom) (kids t origin.Spout rows)))

-- ---- the rows of two lists

module _ (t : Topology) (custom : Custom) where
  pub nodes_of-append : (xs ys : List (List Value)) → nodes_of t custom (xs ++ ys) ≡ nodes_of t custom xs ++ nodes_of t custom ys
  unfolding nodes_of
  nodes_of-append xs ys =
      ap (flat_map (nodes_from (length t.components) t custom)) (flat_map-append (kids_by t origin.Spout) xs ys)
      ∙ flat_map-append (nodes_from (length t.components) t custom) (kids t origin.Spout xs) (kids t origin.Spout ys)

  pub writes-append : (xs ys : List (List Value)) → writes t custom (xs ++ ys) ≡ writes t custom xs ++ writes t custom ys
  writes-append xs ys = ap (filter_map (write_of t)) (nodes_of-append xs ys) ∙ filter_map-append (write_of t) (nodes_of t custom xs) (nodes_of t custom ys)

-- ---- a count of the nodes, which ends at 2^64 - 1

abbrev pub counted : NodeCounter → Node → NodeCounter
counted counter node = record { count = min (counter.count + 1) (2 ^ 64 - 1) }

pub fold-counted : (n : ℕ) (nodes : List Node) → n ≤ 2 ^ 64 - 1 → (fold counted (record { count = n }) nodes).count ≡ min (n + length nodes) (2 ^ 64 - 1)
fold-counted n [] fits = omega arith
fold-counted n (node ∷ nodes) fits = fold-counted (min (n + 1) (2 ^ 64 - 1)) nodes (omega arith) ∙ omega arith

-- a walk that counts each node
pub count_from_walk : (t : Topology) (custom : Custom) (rows : List (List Value)) (levels : ℕ) (made : NodeCounter) → levels ≡ length t.components → made ≡ fold counted (record { count = 0 }) (flat_map (nodes_from levels t custom) (kids t origin.Spout rows)) → made.count ≡ min (node_count t custom rows) (2 ^ 64 - 1)
unfolding nodes_of
count_from_walk t custom rows levels made all walk =
    ap (λ (counter : NodeCounter). counter.count) walk ∙ rw all (fold-counted 0 (flat_map (nodes_from (length t.components) t custom) (kids t origin.Spout rows)) (omega arith) ∙ ap (λ n. min n (2 ^ 64 - 1)) (zero-add _))

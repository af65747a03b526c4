-- What one more write does to the running tables.
use Rattle.std.proofs.Common.{◌≡◌, ℕ, zero, suc, ◌+◌, arith, slice_get, replicate, ◌<◌, ◌⊎◌, inl, inr, ℤ, List, [], ◌∷◌, ◌++◌, length, get_or, set, fold, append_assoc, Option, Some, None, IfSome, sym, refl, ap, ◌∙◌, subst, ⊎_elim, length-set}
use Rattle.std.proofs.lemmas.Bool.{cases_eq, eq-eqb, ne_eqb}
use Rattle.std.proofs.lemmas.List.{append-nil, map-id, length-replicate, map-set, get_or-map, get_or-set_same, get_or-set_other}
use Rattle.std.proofs.lemmas.List.Elements.{filter_map-append}
use Rattle.std.proofs.lemmas.List.FromFn.{map-range_with_len_more}
use Rattle.std.proofs.lemmas.Slice.Zip.{all_zipped_more}
use Rattle.std.proofs.lemmas.Option.{none-some, same_Some, slice_get_cases, option_and_then_some}
use Rattle.std.proofs.Math.Seq.{map-set_same}
use Rattle.std.specs.List.{AllZip, cons_option, filter_map, flat_map, range_with_len}
use Rattle.std.specs.Option.{option_map_or, option_and_then}
use Rattle.bolt_ops.specs.RowOp.{Custom}
use Rattle.storm_values.specs.declared.value.Value.{Value}
use Rattle.topology_plan.specs.declared.parts.Body.{Body}
use Rattle.topology_plan.specs.declared.parts.Body.TheVariants.{Bolt, State}
use Rattle.topology_plan.specs.declared.parts.Component.{Component}
use Rattle.topology_plan.specs.declared.parts.Origin.TheVariants as origin
use Rattle.topology_plan.specs.Topology.{Topology}
use Rattle.tree_model.specs.declared.running.Filling.{Filling}
use Rattle.tree_model.specs.declared.running.Values.{Values}
use Rattle.tree_model.specs.declared.write.Pair.{Pair}
use Rattle.tree_model.specs.declared.write.Table.{Table}
use Rattle.tree_model.specs.declared.write.Write.{Write}
use Rattle.tree_model.specs.Tables.{Folding, StateOf, tallied, with_amount, written, state_by, state_at, IsTally, IsTableOf, AreRunningTables, AddsTable}
use Rattle.tree_model.specs.Inside.{pairs_of, pairs_by}
use Rattle.tree_model.specs.Trees.{Node, kids, nodes_from, nodes_of, write_of, writes}
use Rattle.tree_model.proofs.Folding.{IsTally-push, IsTally-other}

-- what follows of the value that is there
pub IfSome_with : {X : Type 0} {P Q : X → Type 0} (o : Option X) → IfSome o P → ((x : X) → o ≡ Some x → P x → Q x) → IfSome o Q
IfSome_with None p step = tt
IfSome_with (Some x) p step = step x refl p

IfSome-at : {X : Type 0} (P : X → Type 0) (o : Option X) (x : X) → o ≡ Some x → IfSome o P → P x
IfSome-at P o x some holds = rw some at holds

-- one more write
module _ (t : Topology) (custom : Custom) (before : List Write) (write : Write) (tables : List (List Pair)) (is : AreRunningTables t custom before tables) where
  -- its state is a component, so it has pairs
  state_within : (state : StateOf) → state_at t custom write.state ≡ Some state → write.state < length tables
  state_within state found = rw is.count (⊎_elim (λ there. there.1) (λ past. absurd (none-some state (ap (option_and_then (λ (component : Component). state_by custom write.state component component.body)) (sym past.1) ∙ found))) (slice_get_cases t.components write.state).1)

  own : (state : StateOf) → state_at t custom write.state ≡ Some state → IsTally state.by (before ++ write ∷ []) write.state (get_or (set tables write.state (tallied state.by (get_or tables write.state []) write.key write.amount)) write.state [])
  own state found =
      rw (get_or-set_same tables write.state (tallied state.by (get_or tables write.state []) write.key write.amount) [] (state_within state found))
      (IsTally-push state.by before write write.state (get_or tables write.state []) (eq-eqb _ _ refl) (IfSome-at (λ here. IsTally here.by before write.state (get_or tables write.state [])) (state_at t custom write.state) state found (is.tables write.state)))

  others : (number : ℕ) → (write.state ≡ number → ⊥) → (state : StateOf) → IsTally state.by before number (get_or tables number []) → IsTally state.by (before ++ write ∷ []) number (get_or tables number [])
  others number differs state = IsTally-other state.by before write number (get_or tables number []) (ne_eqb _ _ differs)

  -- what a write for no state leaves
  ignored : state_at t custom write.state ≡ None → AreRunningTables t custom (before ++ write ∷ []) tables
  ignored none = record {
    count = is.count;
    tables = λ number. IfSome_with (state_at t custom number) (is.tables number) (λ state found tally. others number (λ same. none-some state (sym none ∙ ap (state_at t custom) same ∙ found)) state tally);
  }

  -- what a write for a state leaves
  put : (state : StateOf) → state_at t custom write.state ≡ Some state → AreRunningTables t custom (before ++ write ∷ []) (set tables write.state (tallied state.by (get_or tables write.state []) write.key write.amount))
  put state found = record {
    count = length-set tables write.state pairs ∙ is.count;
    tables = λ number. IfSome_with (state_at t custom number) (is.tables number) (λ here found_here tally. at number here found_here tally (cases_eq write.state number));
  }
    where
      pairs : List Pair
      pairs = tallied state.by (get_or tables write.state []) write.key write.amount

      at : (number : ℕ) (here : StateOf) → state_at t custom number ≡ Some here → IsTally here.by before number (get_or tables number []) → (write.state ≡ number) ⊎ (write.state ≡ number → ⊥) → IsTally here.by (before ++ write ∷ []) number (get_or (set tables write.state pairs) number [])
      at number here found_here tally (inl same) =
          let one : state ≡ here = same_Some _ _ (sym found ∙ ap (state_at t custom) same ∙ found_here) in
          subst (λ n. IsTally here.by (before ++ write ∷ []) n (get_or (set tables write.state pairs) n [])) same
          (subst (λ (s : StateOf). IsTally s.by (before ++ write ∷ []) write.state (get_or (set tables write.state pairs) write.state [])) one (own state found))
      at number here found_here tally (inr differs) =
          rw (get_or-set_other tables write.state number pairs [] (λ e. differs (sym e))) (others number differs here tally)

  -- the running tables with the write are those of the writes with it
  pub AreRunningTables-written : AreRunningTables t custom (before ++ write ∷ []) (written t custom tables write)
  AreRunningTables-written = at (state_at t custom write.state) refl
    where
      at : (o : Option StateOf) → state_at t custom write.state ≡ o → AreRunningTables t custom (before ++ write ∷ []) (option_map_or (λ (state : StateOf). set tables write.state (tallied state.by (get_or tables write.state []) write.key write.amount)) o tables)
      at None none = ignored none
      at (Some state) found = put state found

-- and so for many writes
pub AreRunningTables-fold : (t : Topology) (custom : Custom) (before writes : List Write) (tables : List (List Pair)) → AreRunningTables t custom before tables → AreRunningTables t custom (before ++ writes) (fold (written t custom) tables writes)
AreRunningTables-fold t custom before [] tables is = rw append-nil is
AreRunningTables-fold t custom before (write ∷ writes) tables is =
    subst (λ all. AreRunningTables t custom all (fold (written t custom) tables (write ∷ writes))) (append_assoc before (write ∷ []) writes)
    (AreRunningTables-fold t custom (before ++ write ∷ []) writes (written t custom tables write) (AreRunningTables-written t custom before write tables is))

-- ---- the maps behind the tables

module _ (olds : List Values) (state : ℕ) (by : Folding) (key : List ℕ) (amount : ℤ) where
  -- the map of a state has the amount folded in
  pub pairs_by-put : (old new : Values) → state < length olds → old ≡ get_or olds state old → pairs_of new ≡ tallied by (pairs_of old) key amount
      → pairs_by (set olds state new) ≡ with_amount (pairs_by olds) state by key amount
  pairs_by-put old new within read puts =
      let was : get_or (pairs_by olds) state [] ≡ pairs_of old = get_or-map pairs_of olds state old [] within ∙ ap pairs_of (sym read) in
      map-set pairs_of olds state new ∙ ap (set (pairs_by olds) state) (puts ∙ ap (λ pairs. tallied by pairs key amount) (sym was))

-- where a map's pairs stay, all do
pub pairs_by-set_same : (olds : List Values) (i : ℕ) (old new : Values) → old ≡ get_or olds i old → pairs_of new ≡ pairs_of old → pairs_by (set olds i new) ≡ pairs_by olds
pairs_by-set_same olds i old new read same = map-set_same pairs_of olds i new old (same ∙ ap pairs_of read)

-- ---- a walk that adds each node's write

abbrev pub at_node : Topology → Custom → List (List Pair) → Node → List (List Pair)
at_node t custom tables node = option_map_or (written t custom tables) (write_of t node) tables

fold-at_node : (t : Topology) (custom : Custom) (nodes : List Node) (tables : List (List Pair)) → fold (at_node t custom) tables nodes ≡ fold (written t custom) tables (filter_map (write_of t) nodes)
fold-at_node t custom [] tables = refl
fold-at_node t custom (node ∷ nodes) tables = fold-at_node t custom nodes (at_node t custom tables node) ∙ at (write_of t node)
  where
    at : (o : Option Write) → fold (written t custom) (option_map_or (written t custom tables) o tables) (filter_map (write_of t) nodes) ≡ fold (written t custom) tables (cons_option o (filter_map (write_of t) nodes))
    at None = refl
    at (Some write) = refl

-- the same where the tables stand beside their folds
module _ {F : Type 0} (meaning : F → Custom) (t : Topology) where
  abbrev pub filled : Filling F → Node → Filling F
  filled filling node = record filling { tables = option_map_or (written t (meaning filling.folds) filling.tables) (write_of t node) filling.tables }

  pub fold-filled : (nodes : List Node) (filling : Filling F) → (fold filled filling nodes).tables ≡ fold (at_node t (meaning filling.folds)) filling.tables nodes
  fold-filled [] filling = refl
  fold-filled (node ∷ nodes) filling = fold-filled nodes (filled filling node)

-- it leaves the tables of the writes of the whole tree
pub tables_from_walk : (t : Topology) (custom : Custom) (rows : List (List Value)) (levels : ℕ) (start made : List (List Pair)) → AreRunningTables t custom [] start → levels ≡ length t.components → made ≡ fold (at_node t custom) start (flat_map (nodes_from levels t custom) (kids t origin.Spout rows)) → AreRunningTables t custom (writes t custom rows) made
unfolding nodes_of
tables_from_walk t custom rows levels start made empty all walk =
    rw (walk ∙ fold-at_node t custom (flat_map (nodes_from levels t custom) (kids t origin.Spout rows)) start, all) (AreRunningTables-fold t custom [] (writes t custom rows) start empty)

pub tables_from_filling : {F : Type 0} (meaning : F → Custom) (t : Topology) (custom : Custom) (rows : List (List Value)) (levels : ℕ) (start made : Filling F) → meaning start.folds ≡ custom → AreRunningTables t custom [] start.tables → levels ≡ length t.components
    → made ≡ fold (filled meaning t) start (flat_map (nodes_from levels t custom) (kids t origin.Spout rows)) → AreRunningTables t custom (writes t custom rows) made.tables
tables_from_filling {F} meaning t custom rows levels start made by empty all walk =
    tables_from_walk t custom rows levels start.tables made.tables empty all
    (ap (λ (f : Filling F). f.tables) walk ∙ fold-filled meaning t (flat_map (nodes_from levels t custom) (kids t origin.Spout rows)) start
    ∙ ap (λ (c : Custom). fold (at_node t c) start.tables (flat_map (nodes_from levels t custom) (kids t origin.Spout rows))) by)

-- no write is in empty tables
IsTally-none : (by : Folding) (state : ℕ) → IsTally by [] state []
IsTally-none by state = λ key. refl

IfSome-always : {X : Type 0} {P : X → Type 0} (o : Option X) → ((x : X) → P x) → IfSome o P
IfSome-always None each = tt
IfSome-always (Some x) each = each x

get_or-replicate_same : {X : Type 0} (n i : ℕ) (x : X) → get_or (replicate n x) i x ≡ x
get_or-replicate_same zero i x = refl
get_or-replicate_same (suc n) zero x = refl
get_or-replicate_same (suc n) (suc i) x = get_or-replicate_same n i x

pub AreRunningTables-none : (t : Topology) (custom : Custom) → AreRunningTables t custom [] (replicate (length t.components) [])
AreRunningTables-none t custom = record {
  count = length-replicate (length t.components) [];
  tables = λ number. IfSome-always (state_at t custom number) (λ state. rw (get_or-replicate_same {X = List Pair} (length t.components) number []) (IsTally-none state.by number));
}

range_with_len_more : (n : ℕ) → range_with_len 0 (n + 1) ≡ range_with_len 0 n ++ n ∷ []
range_with_len_more n = sym (map-id (range_with_len 0 (n + 1))) ∙ map-range_with_len_more (λ (k : ℕ). k) 0 n n (omega arith) ∙ ap (λ ks. ks ++ n ∷ []) (map-id (range_with_len 0 n))

state_by-number : (custom : Custom) (n : ℕ) (component : Component) (body : Body) (state : StateOf) → state_by custom n component body ≡ Some state → state.number ≡ n
state_by-number custom n component (Bolt op) state found = absurd (none-some state found)
state_by-number custom n component (State spec) state found = ap (λ (s : StateOf). s.number) (sym (same_Some _ _ found))

state_at-number : (t : Topology) (custom : Custom) (n : ℕ) (state : StateOf) → state_at t custom n ≡ Some state → state.number ≡ n
state_at-number t custom n state found = option_and_then_some (λ (component : Component). state_by custom n component component.body) (slice_get t.components n) state found (λ component there is. state_by-number custom n component component.body state is)

AllZip-table : (writes : List Write) (o : Option StateOf) (pairs : List Pair) (states : List StateOf) (old new : List Table) → AllZip (IsTableOf writes) states old → IfSome o (λ state. IsTally state.by writes state.number pairs) → AddsTable o pairs old new → AllZip (IsTableOf writes) (states ++ cons_option o []) new
AllZip-table writes None pairs states old new all table adds = rw (append-nil states, adds) all
AllZip-table writes (Some state) pairs states old new all tally adds =
    rw adds.2 (all_zipped_more (IsTableOf writes) states old state (record { name = state.name; pairs = adds.0 }) all (record { name = refl; pairs = record { ordered = adds.1.ordered; values = λ key. adds.1.values key ∙ tally key } }))

-- one more component in a list of tables
pub tables_more : (t : Topology) (custom : Custom) (writes : List Write) (tables : List (List Pair)) (n : ℕ) (component : Component) (pairs : List Pair) (old new : List Table) → slice_get t.components n ≡ Some component → pairs ≡ get_or tables n [] → AreRunningTables t custom writes tables
    → AddsTable (state_by custom n component component.body) pairs old new → AllZip (IsTableOf writes) (filter_map (state_at t custom) (range_with_len 0 n)) old → AllZip (IsTableOf writes) (filter_map (state_at t custom) (range_with_len 0 (n + 1))) new
tables_more t custom writes tables n component pairs old new there same is adds all =
    let at : state_at t custom n ≡ state_by custom n component component.body = ap (option_and_then (λ (c : Component). state_by custom n c c.body)) there in
    let tally : IfSome (state_at t custom n) (λ state. IsTally state.by writes state.number pairs) =
    IfSome_with (state_at t custom n) (is.tables n) (λ state found tally. rw (state_at-number t custom n state found, same) tally) in
    let more : filter_map (state_at t custom) (range_with_len 0 (n + 1)) ≡ filter_map (state_at t custom) (range_with_len 0 n) ++ cons_option (state_at t custom n) [] =
    ap (filter_map (state_at t custom)) (range_with_len_more n) ∙ filter_map-append (state_at t custom) (range_with_len 0 n) (n ∷ []) in
    rw more (AllZip-table writes (state_at t custom n) pairs (filter_map (state_at t custom) (range_with_len 0 n)) old new all tally (rw at adds))

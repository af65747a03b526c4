-- The laws of tickets, read off for tuples.
use Rattle.std.proofs.Common.{◌≡◌, ◌≢◌, ℕ, ◌≤◌, Bool, true, false, cond, List, [], ◌∷◌, length, map, flat_map, Some, IsSome, option_and_then, option_to_list, sym, refl, ap, subst, ◌∙◌, arith}
use Rattle.std.specs.List.{AllByRecursion}
use Rattle.tree_model.specs.bolt_ops.RowOp.{Custom}
use Rattle.tree_model.specs.counted_items.Weights.{weigh, Within}
use Rattle.tree_model.proofs.counted_items.Each.{each-append, each-flat_map, each-map, each-to_map, each-weaker, each-both}
use Rattle.tree_model.proofs.counted_items.Equality.{each-within}
use Rattle.tree_model.proofs.counted_items.Weighing.{weigh-map}
use Rattle.tree_model.specs.storm_values.declared.value.Root.{Root}
use Rattle.tree_model.specs.storm_values.declared.value.Value.{Value}
use Rattle.tree_model.specs.topology_plan.declared.parts.Origin.TheVariants as origin
use Rattle.tree_model.specs.topology_plan.Topology.{Topology}
use Rattle.tree_model.specs.topology_plan.Valid.{IsValid}
use Rattle.tree_model.specs.tuple_tickets.Lists.{paths_of}
use Rattle.tree_model.specs.tuple_tickets.Notes as notes
use Rattle.tree_model.specs.tuple_tickets.Paths.{paths_below}
use Rattle.tree_model.specs.tuple_tickets.Roots.{root_eq}
use Rattle.tree_model.specs.tuple_tickets.Tickets.{Ticket, made_by}
use Rattle.tree_model.specs.tuple_tickets.Tickets as tickets
use Rattle.tree_model.specs.tuple_tickets.Trees.{Course, goes, fails, mute}
use Rattle.tree_model.proofs.tuple_tickets.Codes.{ticket_code}
use Rattle.tree_model.proofs.tuple_tickets.Few as few_tickets
use Rattle.tree_model.proofs.tuple_tickets.Once as once_tickets
use Rattle.tree_model.proofs.tuple_tickets.Roots.{same_root}
use Rattle.tree_model.proofs.tuple_tickets.Stuck.{all_covered}
use Rattle.tree_model.proofs.tuple_tickets.Told.{paths_of_tickets, list_single, list_steady}
use Rattle.tree_model.specs.declared.messages.AckMsg.{AckMsg}
use Rattle.tree_model.specs.declared.messages.Tuple.{Tuple}
use Rattle.tree_model.specs.Lists.{root_of, all_said, is_failed, IsTrueOf, AreTrueOf, IsSingle, IsSteady, Covers}
use Rattle.tree_model.specs.Trees.{Node, kids, kids_of, node_count, write_of}
use Rattle.tree_model.proofs.Reading.{failures_said}
use Rattle.tree_model.proofs.TreePaths.{paths, paths_are, as_many_paths}
use Rattle.tuple_account.specs.Accounts.{Account, is_begun, is_of, is_at, notes_about, issued, issued_notes, IsBegun, IsRun, IsAccount, IsNode}
use Rattle.tuple_account.specs.Issued.{Begun, Run, node_of, tuples_from, edges_of, init_of, course_of_run, notes_by, notes_of}
use Rattle.tuple_account.proofs.Codes.{node_code, msg_code}
use Rattle.tuple_account.proofs.Tickets.{ticket_of, begun_read, run_read, account_read, tuples_read, edges_read, grows, issued_read, within_read, has_all_read, account_is}

-- what each note has, each note of the root has
each_about : (P : AckMsg → Type 0) (r : Root) (ms : List AckMsg) → AllByRecursion P ms → AllByRecursion (λ m. (root_of m ≡ r) × P m) (notes_about r ms)
each_about P r [] all = tt
each_about P r (m ∷ ms) all = cases (root_eq (root_of m) r) refl (each_about P r ms all.1)
  where
    cases : (b : Bool) → root_eq (root_of m) r ≡ b → AllByRecursion (λ m. (root_of m ≡ r) × P m) (notes_about r ms) → AllByRecursion (λ m. (root_of m ≡ r) × P m) (cond b (m ∷ notes_about r ms) (notes_about r ms))
    cases true is later = ((same_root (root_of m) r is, all.0), later)
    cases false is later = later

-- the paths of tuples below a path
paths_of_tuples : (root : Root) (path : List ℕ) (nodes : List Node) (ids : List ℕ) → length ids ≡ length nodes → paths_of (edges_of (tuples_from root path 0 nodes ids)) ≡ paths_below path 0 (length nodes)
paths_of_tuples root path nodes ids same =
    ap paths_of (sym (edges_read (tuples_from root path 0 nodes ids)) ∙ ap notes.edges_of (tuples_read root path 0 nodes ids))
    ∙ paths_of_tickets root path 0 nodes ids same

module _ (t : Topology) (custom : Custom) (rows_of : Root → List (List Value)) where
  -- a message is true of its root
  abbrev IsTrueNote : AckMsg → Type 0
  IsTrueNote m = IsTrueOf t custom (rows_of (root_of m)) (root_of m) m

  init_true : (b : Begun) → IsBegun t custom rows_of b → IsTrueNote (init_of t b)
  init_true b well = record {
    of_root = refl;
    says_true = paths_of_tuples b.root [] (kids t origin.Spout b.rows) b.ids well.ids ∙ ap (λ (rows : List (List Value)). paths_below [] 0 (length (kids t origin.Spout rows))) well.rows;
    carries = tt;
  }

  run_true : (u : Run) → IsRun t custom u → IsNode t custom rows_of u.tuple → AllByRecursion IsTrueNote (notes_of t custom u)
  run_true u well node = cases (course_of_run t custom u) refl
    where
      cases : (c : Course) → course_of_run t custom u ≡ c → AllByRecursion IsTrueNote (notes_by t custom u c)
      cases goes is = (
        record {
          of_root = refl;
          carries = ap (λ o. option_to_list (option_and_then (write_of t) o)) (sym node);
          says_true = (
            node_of u.tuple,
            node,
            is,
            ap (λ (c : Course). paths_of (edges_of (made_by c (tuples_from u.tuple.root u.tuple.edge.path 0 (kids_of t custom (node_of u.tuple)) u.ids)))) is
                ∙ paths_of_tuples u.tuple.root u.tuple.edge.path (kids_of t custom (node_of u.tuple)) u.ids (well is),
          );
        },
        tt,
      )
      cases fails is = (record { of_root = refl; says_true = (node_of u.tuple, node, is); carries = tt }, tt)
      cases mute is = tt

  module _ (a : Account) (account : IsAccount t custom rows_of a) where
    abbrev read : tickets.IsAccount (grows t custom rows_of) (account_read a)
    read = account_is t custom rows_of a account

    pub once : (r : Root) (path : List ℕ) → weigh (is_at r path) (issued t custom a) ≤ 1
    once r path = subst (λ (n : ℕ). n ≤ 1) (issued_read t custom rows_of a account.begun_well (tickets.is_at r path)) (once_tickets.once (grows t custom rows_of) (account_read a) read r path)

    pub nodes : AllByRecursion (IsNode t custom rows_of) (issued t custom a)
    nodes =
        each-map (tickets.IsNode (grows t custom rows_of)) ticket_of (issued t custom a)
        (each-within (ticket_code node_code) (tickets.IsNode (grows t custom rows_of)) (map ticket_of (issued t custom a)) (tickets.issued (grows t custom rows_of) (account_read a))
        (λ f. let e = issued_read t custom rows_of a account.begun_well f in let m = weigh-map f ticket_of (issued t custom a) in omega arith)
        (once_tickets.nodes (grows t custom rows_of) node_code (account_read a) read))

    pub few : IsValid t → (r : Root) → weigh (is_of r) (issued t custom a) ≤ node_count t custom (rows_of r)
    few valid r =
        let e : weigh (tickets.is_of r) (tickets.issued (grows t custom rows_of) (account_read a)) ≡ weigh (is_of r) (issued t custom a) = issued_read t custom rows_of a account.begun_well (tickets.is_of r) in
        let are = paths_are t custom (rows_of r) valid in
        let n = as_many_paths t custom (rows_of r) (paths t custom (rows_of r)) valid are in
        let l = few_tickets.few node_code (grows t custom rows_of) (account_read a) read r (paths t custom (rows_of r))
        (λ path node there. (are.exact path).0 (subst IsSome (sym there) (in_tree node))) in omega arith
      where
        in_tree : (node : Node) → IsSome (Some node)
        in_tree node = refl

    pub used_nodes : AllByRecursion (λ (u : Run). IsNode t custom rows_of u.tuple) a.runs
    used_nodes = each-map (λ (u : tickets.Run Node). tickets.IsNode (grows t custom rows_of) u.ticket) run_read a.runs (once_tickets.used_nodes (grows t custom rows_of) node_code (account_read a) read)

    notes_true : AllByRecursion IsTrueNote (issued_notes t custom a)
    notes_true =
        each-append IsTrueNote (map (init_of t) a.begun) (flat_map (notes_of t custom) a.runs)
        (each-to_map IsTrueNote (init_of t) a.begun (each-weaker (IsBegun t custom rows_of) (λ b. IsTrueNote (init_of t b)) init_true a.begun account.begun_well))
        (each-flat_map IsTrueNote (notes_of t custom) a.runs
        (each-weaker (λ (u : Run). IsRun t custom u × IsNode t custom rows_of u.tuple) (λ (u : Run). AllByRecursion IsTrueNote (notes_of t custom u)) (λ u both. run_true u both.0 both.1) a.runs
        (each-both (IsRun t custom) (λ (u : Run). IsNode t custom rows_of u.tuple) a.runs account.runs_well used_nodes)))

    module _ (r : Root) (list : List AckMsg) (within : Within list (notes_about r (issued_notes t custom a))) where
      pub are_true : AreTrueOf t custom (rows_of r) r list
      are_true =
          each-weaker (λ (m : AckMsg). (root_of m ≡ r) × IsTrueNote m) (IsTrueOf t custom (rows_of r) r) (λ m both. subst (λ (q : Root). IsTrueOf t custom (rows_of q) q m) both.0 both.1) list
          (each-within msg_code (λ (m : AckMsg). (root_of m ≡ r) × IsTrueNote m) list (notes_about r (issued_notes t custom a)) within (each_about IsTrueNote r (issued_notes t custom a) notes_true))

      pub are_single : IsSingle list
      are_single = list_single node_code (grows t custom rows_of) (account_read a) read r (all_said list) (within_read t custom rows_of a account.begun_well r list within)

      pub are_steady : IsSteady list
      are_steady = list_steady node_code (grows t custom rows_of) (account_read a) read r (all_said list) (within_read t custom rows_of a account.begun_well r list within)

    pub covers : ((f : Tuple → ℕ) → a.waiting f ≡ 0) → AllByRecursion (λ (u : Run). course_of_run t custom u ≢ mute) a.runs
        → (r : Root) (list : List AckMsg) → 1 ≤ weigh (is_begun r) a.begun → Within (notes_about r (issued_notes t custom a)) list → weigh is_failed list ≡ 0 → Covers t custom (rows_of r) list
    covers none_waits none_mute r list begun has_all none_failed =
        all_covered node_code (grows t custom rows_of) (account_read a) read (λ f. none_waits (λ tuple. f (ticket_of tuple)))
        (each-to_map (λ (u : tickets.Run Node). (grows t custom rows_of).course u.ticket.root u.ticket.node ≢ mute) run_read a.runs none_mute)
        r (all_said list) (has_all_read t custom rows_of a account.begun_well r list has_all) (let m = weigh-map (tickets.is_begun r) begun_read a.begun in omega arith) (failures_said list ∙ none_failed)

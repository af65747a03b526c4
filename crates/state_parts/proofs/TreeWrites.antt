-- The writes of a tree are placed, and placed writes of one key have one part.
use Rattle.std.proofs.Common.{◌≡◌, ◌%◌, ℕ, List, [], ◌∷◌, Option, None, Some, slice_get, refl, sym, ap, subst, ◌∙◌}
use Rattle.std.proofs.lemmas.List.Elements.{All-cons, All-contains, All-nil}
use Rattle.std.proofs.lemmas.Option.{none-some, same_Some}
use Rattle.std.specs.List.{cons_option, filter_map}
use Rattle.std.specs.Option.{option_and_then, option_map_or}
use Rattle.tree_model.specs.bolt_ops.RowOp.{Custom}
use Rattle.tree_model.specs.storm_values.Keys.{hash_of}
use Rattle.tree_model.specs.storm_values.declared.value.Value.{Value}
use Rattle.tree_model.specs.topology_plan.declared.parts.Body.{Body}
use Rattle.tree_model.specs.topology_plan.declared.parts.Body.TheVariants.{Bolt, State}
use Rattle.tree_model.specs.topology_plan.declared.parts.Component.{Component}
use Rattle.tree_model.specs.topology_plan.Topology.{Topology, tasks_of}
use Rattle.tree_model.specs.declared.write.Write.{Write}
use Rattle.tree_model.specs.Trees.{Node, key_of, nodes_of, write_by, write_of, writes}
use Rattle.state_parts.specs.Standing.{ArePlaced, HaveOnePart, IsPlaced}
use Rattle.state_parts.proofs.KeyTexts.{one_hash}

module _ (t : Topology) where
  -- the write of a state's node goes to the part that the hash of its key chooses
  by_body : (node : Node) (component : Component) (body : Body) (write : Write) → slice_get t.components node.component ≡ Some component → write_by node.component component.tasks body node.row ≡ Some write → IsPlaced t write
  by_body node component (Bolt op) write there is = absurd (none-some write is)
  by_body node component (State spec) write there is =
      subst (λ (w : Write). IsPlaced t w) (same_Some _ write is)
      (record {
        values = key_of spec node.row;
        text = refl;
        place = ap (λ (tasks : ℕ). hash_of (key_of spec node.row) % tasks) (ap (λ (o : Option Component). option_map_or (λ (c : Component). c.tasks) o 0) there);
      })

  by_node : (node : Node) (write : Write) → write_of t node ≡ Some write → IsPlaced t write
  by_node node write is = cases (slice_get t.components node.component) refl is
    where
      cases : (o : Option Component) → slice_get t.components node.component ≡ o → option_and_then (λ (c : Component). write_by node.component c.tasks c.body node.row) o ≡ Some write → IsPlaced t write
      cases None there is = absurd (none-some write is)
      cases (Some component) there is = by_body node component component.body write there is

  by_nodes : (nodes : List Node) → ArePlaced t (filter_map (write_of t) nodes)
  by_nodes [] = All-nil (IsPlaced t)
  by_nodes (node ∷ nodes) = cases (write_of t node) refl (by_nodes nodes)
    where
      cases : (o : Option Write) → write_of t node ≡ o → ArePlaced t (filter_map (write_of t) nodes) → ArePlaced t (cons_option o (filter_map (write_of t) nodes))
      cases None is later = later
      cases (Some write) is later = All-cons (IsPlaced t) write (filter_map (write_of t) nodes) (by_node node write is) later

  pub writes_are_placed : (custom : Custom) (rows : List (List Value)) → ArePlaced t (writes t custom rows)
  writes_are_placed custom rows = by_nodes (nodes_of t custom rows)

  -- placed writes of one state for one key go to one part
  pub placed_have_one_part : (made : List Write) → ArePlaced t made → HaveOnePart made
  placed_have_one_part made placed a b has_a has_b state key =
      let at_a : IsPlaced t a = All-contains (IsPlaced t) made a placed has_a in
      let at_b : IsPlaced t b = All-contains (IsPlaced t) made b placed has_b in
      let hash : hash_of at_a.values ≡ hash_of at_b.values = one_hash at_a.values at_b.values (at_a.text ∙ key ∙ sym at_b.text) in
      sym at_a.place ∙ ap (λ (h : ℕ). h % tasks_of t a.state) hash ∙ ap (λ (c : ℕ). hash_of at_b.values % tasks_of t c) state ∙ at_b.place

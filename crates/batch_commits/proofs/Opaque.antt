-- Behind an opaque spout all parts are opaque, and what an opaque part has before a commit does not depend on what comes next.
use Rattle.std.proofs.Common.{◌≡◌, ℕ, ℤ, List, [], ◌∷◌, Option, None, Some, length, slice_get, refl, sym, ap₂, subst}
use Rattle.std.proofs.lemmas.List.Elements.{All-cons, All-head, All-nil, All-tail}
use Rattle.std.proofs.lemmas.Option.{get_or_from_slice_get, slice_get_within}
use Rattle.std.specs.List.{AllByRecursion, range_with_len}
use Rattle.std.specs.Option.{option_map_or}
use Rattle.cell_format.specs.declared.cell.Cell.{Cell}
use Rattle.cell_format.specs.Standing.{CellStands, KeyStands, Stands}
use Rattle.state_parts.specs.Commits.{ArePerhapsCommitted, own_writes}
use Rattle.state_parts.specs.declared.parts.StatePart.{StatePart}
use Rattle.state_parts.specs.PartPlans.{AreParts, PartPlan, part_by, parts_at, parts_by, plans_of}
use Rattle.state_parts.specs.Standing.{AllStand, PartStands}
use Rattle.storm_stores.specs.CellMaps.{CellMap, cell_at}
use Rattle.tuple_account.proofs.counted_items.Each.{each-any, each-flat_map, each-to_map}
use Rattle.tuple_account.specs.bolt_ops.RowOp.{Custom}
use Rattle.tuple_account.specs.storm_values.declared.value.Root.{Root}
use Rattle.tuple_account.specs.topology_plan.declared.parts.Body.{Body}
use Rattle.tuple_account.specs.topology_plan.declared.parts.Body.TheVariants.{Bolt, State}
use Rattle.tuple_account.specs.topology_plan.declared.parts.Component.{Component}
use Rattle.tuple_account.specs.topology_plan.declared.parts.Kind.{Kind}
use Rattle.tuple_account.specs.topology_plan.declared.parts.Kind.TheVariants.{Opaque}
use Rattle.tuple_account.specs.topology_plan.Topology.{Topology, tasks_of}
use Rattle.tuple_account.specs.topology_plan.Wired.{IsWired, MayFollowOpaque}
use Rattle.tuple_account.specs.tree_model.declared.write.Write.{Write}
use Rattle.tuple_account.specs.tree_model.Tables.{Folding, folded}

-- ---- all parts are opaque

abbrev IsOpaque : PartPlan → Type 0
IsOpaque plan = plan.kind ≡ Opaque

opaque_by : (number tasks : ℕ) (body : Body) → MayFollowOpaque body → AllByRecursion IsOpaque (parts_by number tasks body)
opaque_by number tasks (Bolt op) may = tt
opaque_by number tasks (State spec) may =
    let parts = range_with_len 0 tasks in
    each-to_map IsOpaque (part_by number spec.kind spec.fold) parts
    (each-any (λ part. IsOpaque (part_by number spec.kind spec.fold part)) (λ part. may) parts)

module _ (t : Topology) (wired : IsWired t) (opaque : t.spout_kind ≡ Opaque) where
  opaque_at : (number : ℕ) → AllByRecursion IsOpaque (parts_at t number)
  opaque_at number = by (slice_get t.components number) refl
    where
      by : (o : Option Component) → slice_get t.components number ≡ o
          → AllByRecursion IsOpaque (option_map_or (λ (component : Component). parts_by number component.tasks component.body) o [])
      by None there = tt
      by (Some c) there =
          opaque_by number c.tasks c.body
          (subst (λ (component : Component). MayFollowOpaque component.body) (get_or_from_slice_get t.components number c c there)
          (wired.replays opaque number c (slice_get_within t.components number c there)))

  -- behind an opaque spout each part is opaque
  pub planned_opaque : {S : Type 0} (parts : List (StatePart S)) → AreParts t parts → AllByRecursion IsOpaque (plans_of parts)
  planned_opaque parts planned =
      let numbers = range_with_len 0 (length t.components) in
      subst (AllByRecursion IsOpaque) (sym planned)
      (each-flat_map IsOpaque (parts_at t) numbers (each-any (λ number. AllByRecursion IsOpaque (parts_at t number)) opaque_at numbers))

-- a commit leaves the plans of the parts
pub plans_kept : {S : Type 0} (tells : S → CellMap → Type 0) (custom : Custom) (root : Root) (made : List Write)
    (old new : List (StatePart S)) → ArePerhapsCommitted tells custom root made old new → plans_of new ≡ plans_of old
plans_kept tells custom root made [] [] done = refl
plans_kept tells custom root made [] (y ∷ new) done = absurd done
plans_kept tells custom root made (x ∷ old) [] done = absurd done
plans_kept tells custom root made (x ∷ old) (y ∷ new) done =
    ap₂ (λ plan plans. plan ∷ plans) done.0.plan (plans_kept tells custom root made old new done.1)

-- ---- an opaque part, whatever comes next

module _ (by : Folding) (n : ℕ) where
  cell_next : (base : Option ℤ) (next others : List ℤ) (cell : Option Cell)
      → CellStands Opaque by n base next cell → CellStands Opaque by n base others cell
  cell_next base next others None stands = stands
  cell_next base next others (Some cell) stands = stands

  key_next : (base : Option ℤ) (next others : List ℤ) (held : Option (List ℕ))
      → KeyStands Opaque by n base next held → KeyStands Opaque by n base others held
  key_next base next others held at =
      record { cell = at.cell; is = at.is; stands = cell_next base next others at.cell at.stands }

  map_next : (kind : Kind) (parts part : ℕ) (done next others : List Write) (held : List ℕ → Option (List ℕ)) → kind ≡ Opaque
      → Stands kind by parts part n done next held → Stands kind by parts part n done others held
  map_next kind parts part done next others held opaque at =
      subst (λ (k : Kind). Stands k by parts part n done others held) (sym opaque)
      (let there = subst (λ (k : Kind). Stands k by parts part n done next held) opaque at in record {
        keys = λ key. key_next _ _ _ (held key) (there.keys key);
        own = there.own;
      })

module _ {S : Type 0} (tells : S → CellMap → Type 0) (t : Topology) (custom : Custom) (n : ℕ) (done next others : List Write) where
  part_next : (at : StatePart S) → at.over.kind ≡ Opaque → PartStands tells t custom n done next at
      → PartStands tells t custom n done others at
  part_next at opaque is = record {
    cells = is.cells;
    told = is.told;
    stands =
        map_next (folded custom at.over.by) n at.over.kind (tasks_of t at.component) at.part (own_writes done at)
        (own_writes next at) (own_writes others at) (cell_at is.cells) opaque is.stands;
  }

  pub opaque_stand : (parts : List (StatePart S)) → AllByRecursion IsOpaque (plans_of parts)
      → AllStand tells t custom n done next parts → AllStand tells t custom n done others parts
  opaque_stand [] opaque stand = All-nil (PartStands tells t custom n done others)
  opaque_stand (x ∷ xs) opaque stand =
      All-cons (PartStands tells t custom n done others) x xs
      (part_next x opaque.0 (All-head (PartStands tells t custom n done next) x xs stand))
      (opaque_stand xs opaque.1 (All-tail (PartStands tells t custom n done next) x xs stand))

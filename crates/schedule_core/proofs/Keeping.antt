-- Parts stay what they were, and stores that told their cells still tell some.
use Rattle.std.proofs.Common.{◌≡◌, List, [], ◌∷◌, refl, sym, subst, ◌∙◌}
use Rattle.std.specs.List.{AllZip}
use Rattle.schedule_core.specs.Driving.{AreKept, StillTells}
use Rattle.event_worlds.specs.bolt_ops.RowOp.{Custom}
use Rattle.event_worlds.specs.storm_values.declared.value.Root.{Root}
use Rattle.event_worlds.specs.state_parts.Commits.{ArePerhapsCommitted}
use Rattle.event_worlds.specs.state_parts.declared.parts.StatePart.{StatePart}
use Rattle.event_worlds.specs.state_parts.PartPlans.{plans_of}
use Rattle.storm_stores.specs.CellMaps.{CellMap}
use Rattle.event_worlds.specs.tree_model.declared.write.Write.{Write}

module _ {S : Type 0} (tells : S → CellMap → Type 0) where
  told-none : (parts : List (StatePart S)) → AllZip (StillTells tells) parts parts
  told-none [] = tt
  told-none (x ∷ xs) = (λ cells told. (cells, told), told-none xs)

  told-then : (a b c : List (StatePart S)) → AllZip (StillTells tells) a b
      → AllZip (StillTells tells) b c → AllZip (StillTells tells) a c
  told-then [] [] c first second = second
  told-then [] (y ∷ ys) c first second = absurd first
  told-then (x ∷ xs) [] c first second = absurd first
  told-then (x ∷ xs) (y ∷ ys) [] first second = absurd second
  told-then (x ∷ xs) (y ∷ ys) (z ∷ zs) first second = (
    λ cells told. let mid = first.0 cells told in second.0 mid.0 mid.1,
    told-then xs ys zs first.1 second.1,
  )

  told-committed : (custom : Custom) (root : Root) (made : List Write) (a b : List (StatePart S))
      → ArePerhapsCommitted tells custom root made a b → AllZip (StillTells tells) a b
  told-committed custom root made [] [] kept = tt
  told-committed custom root made [] (y ∷ ys) kept = absurd kept
  told-committed custom root made (x ∷ xs) [] kept = absurd kept
  told-committed custom root made (x ∷ xs) (y ∷ ys) kept = (
    λ cells told. let to = kept.0.turns.to cells told in (to.0, to.1),
    told-committed custom root made xs ys kept.1,
  )

  -- nothing was done
  pub kept-none : (parts : List (StatePart S)) → AreKept tells parts parts
  kept-none parts = record { plans = refl; told = told-none parts }

  pub kept-as : (a b c : List (StatePart S)) → c ≡ b → AreKept tells a b → AreKept tells a c
  kept-as a b c same kept =
      subst (λ (x : List (StatePart S)). AreKept tells a x) (sym same) kept

  -- one thing after another was done
  pub kept-then : (a b c : List (StatePart S)) → AreKept tells a b → AreKept tells b c
      → AreKept tells a c
  kept-then a b c first second = record {
    plans = second.plans ∙ first.plans;
    told = told-then a b c first.told second.told;
  }

  -- a commit, also one that was broken off
  pub kept-committed : (custom : Custom) (root : Root) (made : List Write) (a b : List (StatePart S))
      → plans_of b ≡ plans_of a → ArePerhapsCommitted tells custom root made a b → AreKept tells a b
  kept-committed custom root made a b plans kept = record {
    plans = plans;
    told = told-committed custom root made a b kept;
  }

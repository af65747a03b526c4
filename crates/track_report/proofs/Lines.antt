-- The lines of components, one after another.
use Rattle.std.proofs.Common.{◌≡◌, ◌∙◌, ◌+◌, ◌++◌, ℕ, zero, suc, List, [], ◌∷◌, Some, drop, slice_get, sym, ap, ap₂, arith}
use Rattle.std.proofs.lemmas.List.{append_assoc}
use Rattle.std.proofs.lemmas.Option.{none-some, same_Some}
use Rattle.state_tallies.specs.declared.tallies.KeyCount.{KeyCount}
use Rattle.tree_model.specs.topology_plan.declared.parts.Component.{Component}
use Rattle.track_report.specs.Lines.{state_lines, tally_lines}

-- what is left of a list from a place on
left_at : {X : Type 0} (xs : List X) (k : ℕ) (x : X) → slice_get xs k ≡ Some x → drop k xs ≡ x ∷ drop (k + 1) xs
left_at [] k x at = absurd (none-some x at)
left_at (y ∷ xs) zero x at = ap (λ z. z ∷ xs) (same_Some _ _ at)
left_at (y ∷ xs) (suc k) x at = let next : suc k + 1 ≡ suc (k + 1) = omega arith in rw next (left_at xs k x at)

-- the lines from a component on begin with its own
pub lines_more : (components : List Component) (tallies : List (List KeyCount)) (k : ℕ) (c : Component) (counts : List KeyCount) (old new all : List ℕ) → slice_get components k ≡ Some c → slice_get tallies k ≡ Some counts
    → old ++ tally_lines (drop k components) (drop k tallies) ≡ all → new ≡ old ++ state_lines c.name counts → new ++ tally_lines (drop (k + 1) components) (drop (k + 1) tallies) ≡ all
lines_more components tallies k c counts old new all at beside so_far added =
    ap (λ text. text ++ tally_lines (drop (k + 1) components) (drop (k + 1) tallies)) added
    ∙ append_assoc old (state_lines c.name counts) (tally_lines (drop (k + 1) components) (drop (k + 1) tallies))
    ∙ ap (λ text. old ++ text) (sym (ap₂ tally_lines (left_at components k c at) (left_at tallies k counts beside)))
    ∙ so_far

use Rattle.std.proofs.Common.{rules, ◌≡◌, ◌≤◌, ◌<◌, ◌+◌, ◌-◌, ◌^◌, ℕ, List, [], ◌∷◌, ◌++◌, map, length, replicate, Option, Some, None, sym, refl, ap, subst, ◌∙◌, arith}
use Rattle.std.specs.List.{AllByRecursion}
use Rattle.state_tallies.specs.Inside.{counts_by}
use Rattle.state_tallies.specs.Tallies.{count_of, AreInOrder}
use Rattle.state_tallies.proofs.tallies.sorted_states.Given as goal

abbrev pub invariant-loop-counts : goal.invariant-loop-counts
invariant-loop-counts l = record {
  long : length l.made ≡ length l.yielded;
  counts : (s : ℕ) (k : List ℕ) → count_of l.made s k ≡ count_of (counts_by l.yielded) s k;
  ordered : AllByRecursion AreInOrder l.made;
}

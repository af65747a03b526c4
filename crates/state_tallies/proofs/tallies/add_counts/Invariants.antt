use Rattle.std.proofs.Common.{rules, ◌≡◌, ◌≤◌, ◌<◌, ◌+◌, ◌-◌, ◌^◌, ℕ, List, [], ◌∷◌, ◌++◌, map, length, replicate, Option, Some, None, sym, refl, ap, subst, ◌∙◌, arith}
use Rattle.std.specs.Map.Iter.{deref_pair}
use Rattle.state_tallies.specs.Inside.{counts_of}
use Rattle.state_tallies.specs.Tallies.{capped, count_in, AreFewIn}
use Rattle.state_tallies.proofs.Counting.{summed}
use Rattle.state_tallies.proofs.tallies.add_counts.Given as goal

abbrev pub invariant-loop-key : goal.invariant-loop-key
invariant-loop-key l = record {
  parts : map deref_pair l.yielded ++ l.key-iterator ≡ l.others.entries;
  made : (k : List ℕ) → count_in (counts_of l.counts) k ≡ capped (count_in (counts_of l.fn.counts) k + summed (map deref_pair l.yielded) k);
}

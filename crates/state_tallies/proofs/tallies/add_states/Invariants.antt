use Rattle.std.proofs.Common.{rules, ◌≡◌, ◌≤◌, ◌<◌, ◌+◌, ◌-◌, ◌^◌, ℕ, List, [], ◌∷◌, ◌++◌, map, length, replicate, Option, Some, None, sym, refl, ap, subst, ◌∙◌, arith}
use Rattle.std.proofs.Common.{cond, nat_lt}
use Rattle.state_tallies.specs.Inside.{counts_by}
use Rattle.state_tallies.specs.Tallies.{count_of, capped, AreFew}
use Rattle.state_tallies.proofs.tallies.add_states.Given as goal

abbrev pub invariant-loop-place : goal.invariant-loop-place
invariant-loop-place l = record {
  long : length l.states.items ≡ length l.fn.states.items;
  counts : (s : ℕ) (k : List ℕ) → count_of (counts_by l.states.items) s k ≡ capped (count_of (counts_by l.fn.states.items) s k + cond (nat_lt s l.place) (count_of (counts_by l.others.items) s k) 0);
  few : AreFew (counts_by l.states.items);
}

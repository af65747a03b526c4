use Rattle.std.proofs.Common.{rules, ◌≡◌, ◌≤◌, ◌<◌, ◌+◌, ◌-◌, ◌^◌, ℕ, List, [], ◌∷◌, ◌++◌, map, length, replicate, Option, Some, None, sym, refl, ap, subst, ◌∙◌, arith}
use Rattle.state_tallies.specs.Inside.{counts_by}
use Rattle.state_tallies.proofs.tallies.no_states.Given as goal

abbrev pub invariant-loop : goal.invariant-loop
invariant-loop l = counts_by l.states.items ≡ replicate l.counter []

use Rattle.std.proofs.Common.{rules, ◌≡◌, ◌≤◌, ◌<◌, ◌+◌, ◌-◌, ◌^◌, ℕ, List, [], ◌∷◌, ◌++◌, map, length, replicate, Option, Some, None, sym, refl, ap, subst, ◌∙◌, arith}
use Rattle.std.proofs.lemmas.Result.{IfOk-weaker}
use Rattle.state_tallies.specs.Inside.{counts_of}
use Rattle.state_tallies.specs.Tallies.{count_in, AreInOrder}
use Rattle.state_tallies.proofs.Counting.{counts-reordered, counts-ordered}
use Rattle.state_tallies.proofs.tallies.sorted_counts.Goals as goal

pub returns-clause-counts : goal.returns-clause-counts
returns-clause-counts c =
    IfOk-weaker c.counts_in.result _ (λ made. (key : List ℕ) → count_in made key ≡ count_in (counts_of c.args.counts) key)
    (λ made is key. ap (λ counts. count_in counts key) is ∙ counts-reordered c.args.counts c.sort_keys.new.self c.in_ok-sort_keys.ensures.reordered key) c.counts_in.ensures

pub returns-clause-ordered : goal.returns-clause-ordered
returns-clause-ordered c =
    IfOk-weaker c.counts_in.result _ AreInOrder
    (λ made is. subst AreInOrder (sym is) (counts-ordered c.args.counts c.sort_keys.new.self c.in_ok-sort_keys.ensures.sorted c.in_ok-sort_keys.ensures.unique)) c.counts_in.ensures

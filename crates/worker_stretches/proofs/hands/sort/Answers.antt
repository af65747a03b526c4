use Rattle.std.proofs.Common.{rules}
use Rattle.std.proofs.lemmas.List.Sorted.{IsNonDecreasingBy-from_sort_by_key}
use Rattle.worker_stretches.proofs.Handing.{sorted}
use Rattle.worker_stretches.proofs.hands.sort.Goals as goal

pub returns-clause-numbered : goal.returns-clause-numbered
returns-clause-numbered g c =
    sorted g.T.Numbered.number_of c.args.all.now.items c.sort_unstable_by_key.new.self.items c.requires (search rules) (search rules)
    (IsNonDecreasingBy-from_sort_by_key g.T.Numbered.number_of c.sort_unstable_by_key.new.self.items c.sort_unstable_by_key.ensures.sorted (λ a r f k. search rules))

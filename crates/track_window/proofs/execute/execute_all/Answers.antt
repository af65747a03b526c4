use Rattle.std.proofs.Common.{rules, ◌≡◌, ◌≢◌, ◌≤◌, ◌<◌, ◌+◌, ◌-◌, ℕ, zero, suc, bit_xor, Bool, true, false, true≢false, List, [], ◌∷◌, ◌++◌, map, take, get_or, set, length, replicate, Option, Some, None, All, sym, refl, ap, subst, ◌∙◌, arith}
use Rattle.track_window.specs.Jobs.{IsExecuted}
use Rattle.track_window.proofs.Found.{zipped}
use Rattle.track_window.proofs.execute.execute_all.Goals as goal

pub returns : goal.returns
returns g c =
    zipped (IsExecuted c.args.plan.now (g.O.RowOp.meaning c.args.custom.now)) c.args.jobs.now c.for_each_mut.new.s (search rules)
    (λ i d below. let k = (c.for_each_mut.ensures i d below).1 in search rules)

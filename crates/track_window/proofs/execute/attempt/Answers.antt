use Rattle.std.proofs.Common.{rules, ◌≡◌, ◌≢◌, ◌≤◌, ◌<◌, ◌+◌, ◌-◌, ℕ, zero, suc, bit_xor, Bool, true, false, true≢false, List, [], ◌∷◌, ◌++◌, map, take, get_or, set, length, replicate, Option, Some, None, All, sym, refl, ap, subst, ◌∙◌, arith}
use Rattle.track_window.proofs.Found.{rows_found}
use Rattle.track_window.proofs.execute.attempt.Goals as goal

pub returns-in-Rows : goal.returns-in-Rows
returns-in-Rows g c =
    rows_found c.args.plan.now (g.O.RowOp.meaning c.args.custom.now) c.args.tuple.now c.component-at.result.now c.in-Bolt.op c.component-at.ensures.value c.in-Bolt.is c.in-Rows.rows (g.O.RowOp.keeps c.args.custom.now) c.component-at.ensures.fits c.requires.1 (search rules)

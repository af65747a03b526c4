use Rattle.std.proofs.Common.{rules, ◌≡◌, ◌≢◌, ◌≤◌, ◌<◌, ◌+◌, ◌-◌, ◌*◌, ◌^◌, ℕ, zero, suc, bit_xor, Bool, true, false, true≢false, List, [], ◌∷◌, ◌++◌, map, take, get_or, set, length, replicate, Option, Some, None, All, sym, refl, ap, subst, ◌∙◌, arith}
use Rattle.track_window.proofs.Settling.{steps_mute}
use Rattle.track_window.proofs.walk.Walk.settle.Goals as goal

pub returns-in-Mute : goal.returns-in-Mute
returns-in-Mute g c = steps_mute c.args.plan.now (g.O.RowOp.meaning c.args._custom.now) c.args.job.tuple c.args.self.now (search rules)

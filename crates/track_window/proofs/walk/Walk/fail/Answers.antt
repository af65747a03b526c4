use Rattle.std.proofs.Common.{rules, ◌≡◌, ◌≢◌, ◌≤◌, ◌<◌, ◌+◌, ◌-◌, ◌*◌, ◌^◌, ℕ, zero, suc, bit_xor, Bool, true, false, true≢false, List, [], ◌∷◌, ◌++◌, map, take, get_or, set, length, replicate, Option, Some, None, All, sym, refl, ap, subst, ◌∙◌, arith}
use Rattle.std.proofs.lemmas.Result.{on_ok_weaker}
use Rattle.track_window.proofs.Settling.{steps_failed}
use Rattle.track_window.proofs.walk.Walk.fail.Goals as goal

pub returns : goal.returns
returns c = on_ok_weaker c.tell.result (λ told t custom is. steps_failed t custom c.args.tuple c.args.self.now c.tell.new.self is told) c.tell.ensures

use Rattle.std.proofs.Common.{rules, ◌≡◌, ◌≢◌, ◌≤◌, ◌<◌, ◌+◌, ◌-◌, ◌*◌, ◌^◌, ℕ, zero, suc, bit_xor, Bool, true, false, true≢false, List, [], ◌∷◌, ◌++◌, map, take, drop, get_or, set, length, replicate, Option, Some, None, All, sym, refl, ap, subst, ◌∙◌, arith}
use Rattle.acker_core.specs.Check.{IsCheckOf}
use Rattle.track_window.proofs.Judging.{closed_yes, closed_no}
use Rattle.track_window.proofs.judge.is_closed.Goals as goal

pub returns-in-Closed : goal.returns-in-Closed
returns-in-Closed c =
    let checked = subst (IsCheckOf c.args.list.now) c.in-Closed.is c.in_ok-check_list.ensures in
    closed_yes c.args.list.now checked.0

pub returns-in-Left : goal.returns-in-Left
returns-in-Left c =
    let checked = subst (IsCheckOf c.args.list.now) c.in-Left.is c.in_ok-check_list.ensures in
    closed_no c.args.list.now c.in-Left.field-0 checked.0.odd checked.1

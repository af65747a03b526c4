use Rattle.std.proofs.Common.{◌≡◌, ◌≤◌, ◌∷◌, length, arith, rules}
use Rattle.report_lines.proofs.Joined.{path_done}
use Rattle.report_lines.proofs.texts.push_path.Goals as goal

pub returns : goal.returns
returns c =
    let parts : c.args.path.now ≡ c.in-Some.first.now ∷ c.in-Some.others.now = search rules in
    let all : length c.in-Some.others.now ≤ c.loop-number.number-index = omega arith in
    path_done _ _ c.in-Some.others.now c.loop-number.number-index _ _ _ parts all c.in_ok-write.ensures.bytes c.loop-number.invariant

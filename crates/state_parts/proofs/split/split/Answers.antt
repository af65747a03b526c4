use Rattle.std.proofs.Common.{rules, ◌≡◌, ◌≤◌, length, take, subst, sym, ◌∙◌, arith}
use Rattle.std.proofs.lemmas.List.{take_all}
use Rattle.tree_model.specs.Packs.{write_in}
use Rattle.state_parts.specs.Dealt.{AreDealt}
use Rattle.state_parts.proofs.SplitLemmas.{dealt_none, taken_more}
use Rattle.state_parts.proofs.split.split.Goals as goal

pub loop-at-init : goal.loop-at-init
loop-at-init g c = dealt_none c.args.parts.now c.in_ok-dealt.dealt.items c.in_ok-dealt.ensures.long c.in_ok-dealt.ensures.none

pub loop-at-preserved : goal.loop-at-preserved
loop-at-preserved g c =
    let all = c.args.writes.now in
    rw (taken_more all c.loop-at.at (write_in c.get.result) c.get.ensures) (c.in_ok-deal.ensures (take c.loop-at.at all) c.loop-at.invariant)

pub returns : goal.returns
returns g c =
    let end : length c.args.writes.now ≤ c.loop-at.at = search rules in
    rw (← take_all c.loop-at.at c.args.writes.now end) c.loop-at.invariant

use Rattle.std.proofs.Common.{rules, ◌≡◌, length, subst, arith}
use Rattle.box_rows.specs.Splitting.{IsPassAt, JoinsAt}
use Rattle.box_rows.proofs.Splitting.{join-ends, join-more, join-starts, last-for}
use Rattle.box_rows.proofs.rows.join_row.Goals as goal

pub loop-pass-init : goal.loop-pass-init
loop-pass-init c = join-starts c.args.posts.now.plan.now c.args.posts.now.boxes.items c.args.into.now.items c.args.other.items c.requires.passes c.requires.other

pub join_at-requires-clause-other : goal.join_at-requires-clause-other
join_at-requires-clause-other c =
    subst (λ n. IsPassAt c.args.posts.now.plan.now c.args.posts.now.boxes.items n c.in-Some.pass) (search rules)
    (last-for c.args.posts.now.plan.now c.args.posts.now.boxes.items c.args.into.now.items c.args.other.items c.loop-pass.into.items c.loop-pass.rest.items c.pop.new.self.items c.in-Some.pass c.loop-pass.invariant (search rules)).0

pub join_at-requires-clause-there : goal.join_at-requires-clause-there
join_at-requires-clause-there c =
    let few = (last-for c.args.posts.now.plan.now c.args.posts.now.boxes.items c.args.into.now.items c.args.other.items c.loop-pass.into.items c.loop-pass.rest.items c.pop.new.self.items c.in-Some.pass c.loop-pass.invariant (search rules)).1 in
    let n : c.len.result ≡ length c.pop.new.self.items = search rules in omega arith

pub loop-pass-preserved : goal.loop-pass-preserved
loop-pass-preserved c =
    join-more c.args.posts.now.plan.now c.args.posts.now.boxes.items c.args.into.now.items c.args.other.items c.loop-pass.into.items c.join_at.new.into.items c.loop-pass.rest.items c.pop.new.self.items c.in-Some.pass c.loop-pass.invariant (search rules)
    c.join_at.ensures.passes (subst (λ n. JoinsAt n c.in-Some.pass c.loop-pass.into.items c.join_at.new.into.items) (search rules) c.join_at.ensures.joined)

pub returns-clause-joined : goal.returns-clause-joined
returns-clause-joined c =
    join-ends c.args.posts.now.plan.now c.args.posts.now.boxes.items c.args.into.now.items c.args.other.items c.loop-pass.into.items c.loop-pass.rest.items c.loop-pass.invariant (search rules)

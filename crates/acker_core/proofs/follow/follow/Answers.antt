use Rattle.std.proofs.Common.{◌≡◌, ◌+◌, ◌<◌, ℕ, List, [], ◌∷◌, length, length-append, rules, sym, ap, subst, ◌∙◌, arith}
use Rattle.std.proofs.lemmas.Option.{slice_get_within}
use Rattle.tree_model.specs.declared.messages.AckMsg.TheVariants as msg
use Rattle.tree_model.specs.Lists.{IsClosed}
use Rattle.commit_writes.specs.Writes.{IsPathOrderOf}
use Rattle.acker_core.specs.Orders.{FollowsOn, all_open, last_path}
use Rattle.acker_core.proofs.Walks.{none_open, walked-all, walked-more}
use Rattle.acker_core.proofs.follow.follow.Goals as goal

pub loop-preserved : goal.loop-preserved
loop-preserved c =
    let on : FollowsOn c.args.list.now c.loop.walk.order.items c.step.new.self.order.items (last_path c.loop.walk.last) (last_path c.step.new.self.last)
    (all_open c.loop.walk.pending.items) (all_open c.step.new.self.pending.items) = c.in_ok-step.ensures (search rules) in
    let longer = ap length on.added ∙ length-append c.loop.walk.order.items (on.place ∷ []) in
    let before = c.loop.invariant.count in
    record {
      walked = walked-more c.args.list.now c.args.firsts.now c.loop.walk.order.items c.step.new.self.order.items (last_path c.loop.walk.last) (last_path c.step.new.self.last)
          (all_open c.loop.walk.pending.items) (all_open c.step.new.self.pending.items) c.loop.invariant.walked on;
      count = omega arith;
    }

pub returns : goal.returns
returns c =
    let some : c.requires.place < length c.args.list.now = slice_get_within c.args.list.now c.requires.place (msg.Init c.requires.init) c.requires.there in
    let empty : length c.loop.walk.pending.items ≡ 0 = search rules in
    let many : length c.loop.walk.order.items + 1 ≡ length c.args.list.now = let before = c.loop.invariant.count in omega arith in
    subst (λ (order : List ℕ). IsClosed c.args.list.now × IsPathOrderOf c.args.list.now order) (sym c.from_vec.ensures)
    (walked-all c.args.list.now c.args.firsts.now c.loop.walk.order.items (last_path c.loop.walk.last) (all_open c.loop.walk.pending.items) c.requires
    c.loop.invariant.walked (none_open c.loop.walk.pending.items empty) many)

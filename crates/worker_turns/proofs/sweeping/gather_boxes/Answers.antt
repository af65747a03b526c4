use Rattle.std.proofs.Common.{◌≤◌, length, subst, arith}
use Rattle.worker_stretches.specs.event_engine.Engines.{IsReady, cut_in}
use Rattle.event_worlds.specs.taken_records.Cuts.{Cut}
use Rattle.worker_turns.proofs.Sweeps.{all-carries, all-empty, all-more}
use Rattle.worker_turns.proofs.sweeping.gather_boxes.Goals as goal

pub loop-at-preserved : goal.loop-at-preserved
loop-at-preserved g c =
    let t = c.args.posts.now.plan.now in
    let kept = c.loop-at.invariant in
    let did = c.in_ok-gather_box.ensures in
    all-more t (cut_in c.args.engine.now) c.args.posts.now.boxes.items c.loop-at.at c.args.engine.now c.loop-at.engine c.gather_box.new.engine c.args.row.now.items c.loop-at.row.items c.gather_box.new.row.items kept
    (subst (λ (k : Cut). IsReady t k c.gather_box.new.engine) kept.ready.seated.of_cut did.ready) c.gather_box.ensures.row c.gather_box.ensures.still c.gather_box.ensures.others did.empty did.carries

pub returns-clause-empty : goal.returns-clause-empty
returns-clause-empty g c =
    let far = c.loop-at-test.false in
    let many = c.len-at-end.ensures in
    let past : length c.args.posts.now.boxes.items ≤ c.loop-at.at = omega arith in
    all-empty c.args.posts.now.plan.now (cut_in c.args.engine.now) c.args.posts.now.boxes.items c.loop-at.at c.args.engine.now c.loop-at.engine c.args.row.now.items c.loop-at.row.items c.loop-at.invariant past

pub returns-clause-carries : goal.returns-clause-carries
returns-clause-carries g c = λ left.
    all-carries c.args.posts.now.plan.now (cut_in c.args.engine.now) c.args.posts.now.boxes.items c.loop-at.at c.args.engine.now c.loop-at.engine c.args.row.now.items c.loop-at.row.items left c.loop-at.invariant

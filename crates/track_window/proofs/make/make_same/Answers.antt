use Rattle.std.proofs.Common.{rules, ◌≡◌, ◌≢◌, ◌≤◌, ◌<◌, ◌+◌, ◌-◌, ℕ, zero, suc, bit_xor, Bool, true, false, true≢false, List, [], ◌∷◌, ◌++◌, map, take, get_or, set, length, replicate, Option, Some, None, All, sym, refl, ap, subst, ◌∙◌, arith}
use Rattle.track_window.specs.Making.{Makes, node}
use Rattle.track_window.proofs.Makes.{Makes-none, Makes-again}
use Rattle.track_window.proofs.make.make_same.Goals as goal

pub loop-preserved : goal.loop-preserved
loop-preserved g c =
    let t = c.args.plan.now in
    let root = c.args.below.now.root in
    let path = c.args.below.now.path.now in
    let one : Makes t root path (node c.args.component c.args.row.now ∷ []) c.loop.edges c.loop.jobs.items c.make.new.edges c.make.new.jobs.items =
    subst (λ (r : List _). Makes t root path (node c.args.component r ∷ []) c.loop.edges c.loop.jobs.items c.make.new.edges c.make.new.jobs.items) c.in_ok-copy.ensures c.in_ok-make.ensures in
    Makes-again t root path c.loop.counter (node c.args.component c.args.row.now) c.args.edges.now c.loop.edges c.make.new.edges c.args.jobs.now.items c.loop.jobs.items c.make.new.jobs.items c.loop.invariant one

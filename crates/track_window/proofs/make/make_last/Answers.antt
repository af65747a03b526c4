use Rattle.std.proofs.Common.{rules, ◌≡◌, ◌≢◌, ◌≤◌, ◌<◌, ◌+◌, ◌-◌, ℕ, zero, suc, bit_xor, Bool, true, false, true≢false, List, [], ◌∷◌, ◌++◌, map, take, get_or, set, length, replicate, Option, Some, None, All, sym, refl, ap, subst, ◌∙◌, arith}
use Rattle.tree_model.specs.topology_plan.Topology.{copies_of}
use Rattle.track_window.specs.Making.{Makes, node}
use Rattle.track_window.proofs.Makes.{Makes-none, Makes-again, Makes-as}
use Rattle.track_window.proofs.make.make_last.Goals as goal

pub returns-then-count-eq0 : goal.returns-then-count-eq0
returns-then-count-eq0 g c =
    let none : copies_of c.args.plan.now c.args.sub.now ≡ 0 = search rules in
    rw none (Makes-none c.args.plan.now c.args.below.now.root c.args.below.now.path.now c.args.edges.now c.args.jobs.now.items)

pub returns : goal.returns
returns g c =
    let x = node c.args.sub.now.to c.args.row in
    let count : c.copies-count.result - 1 + 1 ≡ copies_of c.args.plan.now c.args.sub.now = search rules in
    Makes-as c.args.plan.now c.args.below.now.root c.args.below.now.path.now (replicate (c.copies-count.result - 1 + 1) x) (replicate (copies_of c.args.plan.now c.args.sub.now) x) _ _ _ _ (ap (λ (n : ℕ). replicate n x) count)
    (Makes-again c.args.plan.now c.args.below.now.root c.args.below.now.path.now (c.copies-count.result - 1) x _ _ _ _ _ _ c.in_ok-make_same.ensures c.in_ok-make.ensures)

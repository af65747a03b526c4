use Rattle.std.proofs.Common.{rules, ◌≡◌, ◌≢◌, ◌≤◌, ◌<◌, ◌+◌, ◌-◌, ℕ, zero, suc, bit_xor, Bool, true, false, true≢false, List, [], ◌∷◌, ◌++◌, map, take, get_or, set, length, replicate, Option, Some, None, All, sym, refl, ap, subst, ◌∙◌, arith}
use Rattle.tree_model.specs.Trees.{kids_by}
use Rattle.track_window.proofs.Makes.{Makes-pushed}
use Rattle.track_window.proofs.make.make_rows.Goals as goal

pub loop-row-preserved : goal.loop-row-preserved
loop-row-preserved g c =
    Makes-pushed c.args.plan.now c.args.below.now.root c.args.below.now.path.now (kids_by c.args.plan.now c.args.from) c.loop-row.yielded c.in-Some.row c.args.edges.now c.loop-row.edges c.make_row.new.edges c.args.jobs.now.items c.loop-row.jobs.items c.make_row.new.jobs.items c.loop-row.invariant c.in_ok-make_row.ensures

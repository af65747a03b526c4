use Rattle.std.proofs.Common.{rules, ◌≡◌, ◌≢◌, ◌≤◌, ◌<◌, ◌+◌, ◌-◌, ◌*◌, ◌^◌, ℕ, zero, suc, bit_xor, Bool, true, false, true≢false, List, [], ◌∷◌, ◌++◌, map, take, get_or, set, length, replicate, Option, Some, None, All, sym, refl, ap, subst, ◌∙◌, arith}
use Rattle.std.specs.List.{flat_map}
use Rattle.tree_model.specs.Trees.{copies_at, kids_by}
use Rattle.track_window.specs.Making.{Makes}
use Rattle.track_window.proofs.Makes.{Makes-more, Makes-as, take_whole}
use Rattle.track_window.proofs.make.make_row.Goals as goal

pub loop-place-preserved : goal.loop-place-preserved
loop-place-preserved g c =
    let within : c.loop-place.place < length c.subs-subs.result.now = search rules in
    Makes-more c.args.plan.now c.args.below.now.root c.args.below.now.path.now (copies_at c.args.plan.now c.args.row) c.subs-subs.result.now c.loop-place.place c.index-subs-place.result within c.index-subs-place.is
    c.args.edges.now c.loop-place.edges c.make_copies.new.edges c.args.jobs.now.items c.loop-place.jobs.items c.make_copies.new.jobs.items c.loop-place.invariant c.in_ok-make_copies.ensures

pub returns : goal.returns
returns g c =
    let t = c.args.plan.now in
    let root = c.args.below.now.root in
    let path = c.args.below.now.path.now in
    let subs = c.subs-subs.result.now in
    let f = copies_at t c.args.row in
    let at : c.loop-place.place ≡ length subs - 1 = search rules in
    let within : length subs - 1 < length subs = search rules in
    let count : length subs - 1 + 1 ≡ length subs = search rules in
    let before = subst (λ (k : ℕ). Makes t root path (flat_map f (take k subs)) c.args.edges.now c.args.jobs.now.items c.loop-place.edges c.loop-place.jobs.items) at c.loop-place.invariant in
    let all = Makes-more t root path f subs (length subs - 1) c.index-subs-last.result within c.index-subs-last.is c.args.edges.now c.loop-place.edges c.make_last.new.edges c.args.jobs.now.items c.loop-place.jobs.items c.make_last.new.jobs.items before c.in_ok-make_last.ensures in
    Makes-as t root path (flat_map f (take (length subs - 1 + 1) subs)) (kids_by t c.args.from c.args.row) c.args.edges.now c.make_last.new.edges c.args.jobs.now.items c.make_last.new.jobs.items
    (ap (flat_map f) (take_whole t root path subs (length subs - 1 + 1) count ∙ c.subs-subs.ensures.value)) all

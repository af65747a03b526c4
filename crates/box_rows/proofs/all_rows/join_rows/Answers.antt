use Rattle.std.proofs.Common.{rules, ◌≡◌, ◌++◌, ◌∷◌, [], subst}
use Rattle.std.specs.List.{AllByRecursion}
use Rattle.box_rows.specs.AllRows.{ArePassesIn}
use Rattle.box_rows.proofs.AllRows.{each-first, one-fewer}
use Rattle.box_rows.proofs.all_rows.join_rows.Goals as goal

pub loop-other-preserved : goal.loop-other-preserved
loop-other-preserved c =
    let is : c.loop-other.rest.items ≡ c.pop.new.self.items ++ c.in-Some.other ∷ [] = search rules in
    let parts = each-first (ArePassesIn c.args.posts.now.plan.now c.args.posts.now.boxes.items) c.pop.new.self.items c.in-Some.other
    (subst (AllByRecursion (ArePassesIn c.args.posts.now.plan.now c.args.posts.now.boxes.items)) is c.loop-other.invariant.others) in record {
      passes = c.join_row.ensures.passes;
      others = parts.0;
      joined = one-fewer c.args.posts.now.plan.now c.args.posts.now.boxes.items c.args.row.now.items c.loop-other.row.items c.join_row.new.into.items c.args.rows.items c.loop-other.rest.items c.pop.new.self.items c.in-Some.other
          c.loop-other.invariant.joined is c.loop-other.invariant.passes parts.1 c.join_row.ensures.joined;
    }

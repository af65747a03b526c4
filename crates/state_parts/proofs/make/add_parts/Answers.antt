use Rattle.state_parts.specs.PartPlans.{plans_of}
use Rattle.state_parts.proofs.Places.{fresh_part, parts_more}
use Rattle.state_parts.proofs.make.add_parts.Goals as goal

pub add_part-requires : goal.add_part-requires
add_part-requires g c = fresh_part c.args.component c.args.spec.now.kind c.args.spec.now.fold c.loop-part.part (plans_of c.args.parts.now.items) (plans_of c.loop-part.parts.items) c.requires c.loop-part.invariant.plans

pub loop-part-preserved : goal.loop-part-preserved
loop-part-preserved g c = record {
  plans = parts_more c.args.component c.args.spec.now.kind c.args.spec.now.fold c.loop-part.part (plans_of c.args.parts.now.items) (plans_of c.loop-part.parts.items) (plans_of c.add_part.new.parts.items) c.in_ok-add_part.ensures.plans c.loop-part.invariant.plans;
  out = λ start out. c.add_part.ensures.out start (c.loop-part.invariant.out start out);
  only_made = λ start only. c.in_ok-add_part.ensures.only_made start (c.loop-part.invariant.only_made start only);
}

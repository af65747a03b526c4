use Rattle.std.proofs.Common.{◌≡◌, ◌++◌, drop, length, All}
use Rattle.groupings.specs.Allowed.{IsLane}
use Rattle.groupings.specs.Routing.{lanes_of}
use Rattle.groupings.proofs.router.Router.new.Given as goal

abbrev pub invariant-loop-i : goal.invariant-loop-i
invariant-loop-i l = record {
  lanes : l.lanes.items ++ lanes_of l.plan (drop l.i l.subs) (drop l.i l.starts) ≡ lanes_of l.plan l.subs l.starts;
  counted : length l.lanes.items ≡ l.i;
  each : All IsLane l.lanes.items;
}

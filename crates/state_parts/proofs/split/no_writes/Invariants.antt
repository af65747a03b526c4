use Rattle.std.proofs.Common.{◌≡◌, [], length}
use Rattle.std.specs.List.{AllByRecursion}
use Rattle.state_parts.specs.Dealt.{IsGrouped}
use Rattle.state_parts.proofs.split.no_writes.Given as goal

abbrev pub invariant-loop : goal.invariant-loop
invariant-loop l = record {
  long : length l.dealt.items ≡ l.counter;
  none : AllByRecursion (IsGrouped []) l.dealt.items;
}

use Rattle.std.proofs.Common.{◌≡◌, ◌-◌, ◌<◌, ◌++◌}
use Rattle.load_source.specs.Records.{records_after}
use Rattle.load_source.proofs.records.load_records.Given as goal

abbrev pub invariant-loop : goal.invariant-loop
invariant-loop l = record {
  made : l.rows ++ records_after (l.fn.count - l.counter) l.number ≡ records_after l.fn.count l.fn.seed;
  small : l.number < 65537;
}

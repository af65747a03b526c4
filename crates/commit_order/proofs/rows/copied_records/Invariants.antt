use Rattle.std.proofs.Common.{◌≡◌, take}
use Rattle.attempt_fates.specs.Fates.{records_in}
use Rattle.commit_order.proofs.rows.copied_records.Given as goal

abbrev pub invariant-loop-span : goal.invariant-loop-span
invariant-loop-span l = record {
  rows : l.rows ≡ records_in l.offers.records (take l.span-index l.spans);
}

use Rattle.std.proofs.Common.{◌≡◌, ◌++◌, map}
use Rattle.std.specs.Vec.Iter.{into_iter_items}
use Rattle.attempt_fates.specs.declared.fates.End.TheVariants as end
use Rattle.commit_order.specs.Offices.{entry_ended, entry_spans}
use Rattle.record_offers.specs.Offers.{with_gone}
use Rattle.taken_records.specs.Taken.{put_back}
use Rattle.commit_order.proofs.ticks.time_out.Given as goal

abbrev pub invariant-loop-entry : goal.invariant-loop-entry
invariant-loop-entry l = record {
  told : l.fates ≡ l.fn.fates ++ map (entry_ended l.tick end.TimedOut) l.yielded;
  back : l.offers ≡ with_gone l.fn.offers (put_back (map entry_spans l.yielded) l.fn.offers.gone);
  all : l.fn.late.items ≡ l.yielded ++ into_iter_items l.entry-iterator;
}

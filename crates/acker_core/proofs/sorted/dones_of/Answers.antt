use Rattle.std.proofs.Common.{length, refl, arith}
use Rattle.std.proofs.lemmas.Option.{slice_get_read}
use Rattle.acker_core.proofs.PathOrders.{dones-more}
use Rattle.acker_core.proofs.sorted.dones_of.Goals as goal

pub loop-place-preserved : goal.loop-place-preserved
loop-place-preserved c = record {
  all = dones-more c.args.list.now c.loop-place.dones.items c.add_done.new.into.items c.loop-place.place c.index-list-place.result (omega arith)
      c.index-list-place.is c.loop-place.invariant.all c.in_ok-add_done.ensures.all;
  there = c.in_ok-add_done.ensures.there c.args.list.now
      (slice_get_read c.args.list.now (length c.args.list.now) c.loop-place.place c.index-list-place.result refl (omega arith) c.index-list-place.is)
      c.loop-place.invariant.there;
}

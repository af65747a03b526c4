use Rattle.std.proofs.Common.{map, ap, ◌∙◌}
use Rattle.acker_core.specs.Orders.{place_of}
use Rattle.acker_core.proofs.PathOrders.{sorted_is}
use Rattle.acker_core.proofs.sorted.sorted_order.Goals as goal

pub returns : goal.returns
returns c =
    sorted_is c.args.list.now c.in_ok-dones.dones.items c.sort_dones.new.dones.items c.in_ok-places.places c.in_ok-dones.ensures.all c.in_ok-dones.ensures.there
    c.sort_dones.ensures.same c.sort_dones.ensures.ordered (c.in_ok-places.ensures ∙ ap (map place_of) c.deref.ensures.value)

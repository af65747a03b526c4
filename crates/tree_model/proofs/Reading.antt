-- What true lists of messages say, which the laws of lists in `tuple_tickets` are about.
use Rattle.std.proofs.Common.{◌≡◌, ℕ, List}
use Rattle.counted_items.specs.Weights.{weigh}
use Rattle.counted_items.proofs.Each.{each-to_map, each-weaker}
use Rattle.counted_items.proofs.Weighing.{weigh-map}
use Rattle.bolt_ops.specs.RowOp.{Custom}
use Rattle.storm_values.specs.declared.value.Root.{Root}
use Rattle.storm_values.specs.declared.value.Value.{Value}
use Rattle.topology_plan.specs.Topology.{Topology}
use Rattle.tuple_tickets.specs.Lists as tickets
use Rattle.tuple_tickets.specs.Trees.{Growth}
use Rattle.tree_model.specs.declared.messages.AckMsg.{AckMsg}
use Rattle.tree_model.specs.Courses.{growth_of}
use Rattle.tree_model.specs.Lists.{said, all_said, is_init, is_failed, consumes, IsTrueOf, AreTrueOf}
use Rattle.tree_model.specs.Trees.{Node}

-- how the trees of some rows grow
abbrev pub growth : Topology → Custom → List (List Value) → Growth Node
growth t custom rows = growth_of t custom (λ r. rows)

pub all_true_said : (t : Topology) (custom : Custom) (rows : List (List Value)) (root : Root) (list : List AckMsg) → AreTrueOf t custom rows root list → tickets.AreTrueOf (growth t custom rows) root (all_said list)
all_true_said t custom rows root list all =
    each-to_map (tickets.IsTrueOf (growth t custom rows) root) said list
    (each-weaker (IsTrueOf t custom rows root) (λ m. tickets.IsTrueOf (growth t custom rows) root (said m)) (λ m is_true. is_true.says_true) list all)

-- ---- weights of messages, and of what they say

pub inits_said : (list : List AckMsg) → weigh tickets.is_init (all_said list) ≡ weigh is_init list
inits_said list = weigh-map tickets.is_init said list

pub failures_said : (list : List AckMsg) → weigh tickets.is_failed (all_said list) ≡ weigh is_failed list
failures_said list = weigh-map tickets.is_failed said list

pub consumed_said : (list : List AckMsg) (path : List ℕ) → weigh (tickets.consumes path) (all_said list) ≡ weigh (consumes path) list
consumed_said list path = weigh-map (tickets.consumes path) said list

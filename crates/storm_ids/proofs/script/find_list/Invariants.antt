use Rattle.std.proofs.Common.{◌≡◌, drop}
use Rattle.storm_ids.specs.Script.{list_of}
use Rattle.storm_ids.proofs.script.find_list.Given as goal

abbrev pub invariant-loop-list : goal.invariant-loop-list
invariant-loop-list l = list_of l.source (drop l.list-index l.lists) ≡ list_of l.source l.lists

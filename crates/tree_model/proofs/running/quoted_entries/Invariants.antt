use Rattle.std.proofs.Common.{◌≡◌, ◌++◌, map}
use Rattle.std.specs.Map.Iter.{deref_pair}
use Rattle.tree_model.specs.Inside.{quoted_entry}
use Rattle.tree_model.proofs.running.quoted_entries.Given as goal

abbrev pub invariant-loop-text : goal.invariant-loop-text
invariant-loop-text l = record {
  parts : map deref_pair l.yielded ++ l.text-iterator ≡ l.entries.entries;
  made : l.made.entries ≡ map quoted_entry (map deref_pair l.yielded);
}

use Rattle.std.proofs.Common.{◌≡◌, SFits, rules}
use Rattle.std.proofs.lemmas.Int.{to_z-of_z}
use Rattle.std.specs.Int.{w128}
use Rattle.std.specs.List.{IsDistinct}
use Rattle.std.specs.Map.{keys_of}
use Rattle.std.specs.Map.Iter.{deref_pair}
use Rattle.std.specs.Str.{bytes_eq}
use Rattle.storm_values.specs.Keys.{quoted}
use Rattle.indexmap.specs.IndexMap.{insert_entry}
use Rattle.tree_model.proofs.Quoted.{entries_more, parts_more}
use Rattle.tree_model.proofs.running.quoted_entries.Goals as goal

-- the entry that comes has another key than all before it
pub loop-text-preserved : goal.loop-text-preserved
loop-text-preserved c =
    let all = c.args.entries.now.entries in
    let now = c.loop-text.invariant in
    let fits : SFits w128 c.in-Some.value.now = search rules in
    let distinct : IsDistinct bytes_eq (keys_of all) = c.len.ensures.unique in
    let inserted : c.insert.new.self.entries ≡ insert_entry bytes_eq c.loop-text.made.entries (quoted c.in-Some.text.now) c.in-Some.value.now = rw (c.in_ok-quoted_key.ensures, to_z-of_z) at c.in_ok-insert.ensures.entries in
    record {
      parts = parts_more deref_pair c.loop-text.yielded (c.in-Some.text, c.in-Some.value) c.loop-text.text-iterator c.next.new.self all now.parts c.in-Some.ensures.steps;
      made = entries_more deref_pair c.loop-text.yielded (c.in-Some.text, c.in-Some.value) c.loop-text.text-iterator c.next.new.self all c.loop-text.made.entries c.insert.new.self.entries now.parts c.in-Some.ensures.steps distinct now.made inserted;
    }

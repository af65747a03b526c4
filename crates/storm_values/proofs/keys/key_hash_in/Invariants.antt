use Rattle.std.proofs.Common.{◌≡◌, ◌≤◌, fold, take, length}
use Rattle.storm_values.specs.Keys.{fnv_step, fnv_offset, key_bytes}
use Rattle.storm_values.specs.Rows.{values_in}
use Rattle.storm_values.proofs.keys.key_hash_in.Given as goal

abbrev pub invariant-loop-field : goal.invariant-loop-field
invariant-loop-field l = record {
  place : l.place ≡ length (values_in l.row (take l.field-index l.fields));
  few : l.place ≤ l.field-index;
  hash : l.hash ≡ fold fnv_step fnv_offset (key_bytes (values_in l.row (take l.field-index l.fields)));
}

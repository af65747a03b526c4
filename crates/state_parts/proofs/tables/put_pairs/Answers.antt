use Rattle.std.proofs.Common.{rules, ◌≡◌, ◌∷◌, Some, SFits, ◌∙◌, arith}
use Rattle.std.proofs.lemmas.Grind.{common_steps}
use Rattle.std.proofs.lemmas.Int.{to_z-of_z}
use Rattle.std.specs.Int.{w128}
use Rattle.std.specs.Map.{update}
use Rattle.std.specs.Str.{bytes_eq}
use Rattle.std.specs.Vec.Iter.{into_iter_items}
use Rattle.state_parts.specs.Gathered.{value_of}
use Rattle.state_parts.proofs.TableLemmas.{put_same, value_put}
use Rattle.state_parts.proofs.tables.put_pairs.Goals as goal

pub loop-pair-preserved : goal.loop-pair-preserved
loop-pair-preserved c =
    let head : into_iter_items c.loop-pair.pair-iterator ≡ c.in-Some.pair ∷ into_iter_items c.next.new.self = grind (arith, common_steps) in
    let fits : SFits w128 c.in-Some.pair.value = search rules in
    record {
      can_go_on = tt;
      will_end = tt;
      ordered = search rules;
      put = λ key.
          put_same (value_of c.insert.new.self) (update bytes_eq (value_of c.loop-pair.values) c.in-Some.pair.key (Some c.in-Some.pair.value)) (into_iter_items c.next.new.self) key
          (value_put c.loop-pair.values c.insert.new.self c.in-Some.pair.key c.in-Some.pair.value (rw to_z-of_z at c.in_ok-insert.ensures.updates))
          ∙ (rw head at c.loop-pair.invariant.put) key;
    }

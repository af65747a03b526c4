use Rattle.std.proofs.Common.{◌≡◌, Vec, sym, ap, ◌∙◌, arith}
use Rattle.std.specs.declared.alloc.Global.{Global}
use Rattle.topology_reader.proofs.Common.{Sub, items_by, option_map_or, source_of, with_sub, with_input, planned_grouping}
use Rattle.topology_reader.proofs.SubLemmas.{inputs_next}
use Rattle.topology_reader.proofs.planned.add_inputs.Goals as goal
use Rattle.topology_reader.proofs.planned.add_inputs.Goals.{in-Some+in_ok-grouping+in_ok-add_sub, in_default}

pub loop-input-preserved : goal.loop-input-preserved
loop-input-preserved c =
    let p = c.args.wiring.now in
    let input = c.input-item.result in
    let rows = items_by c.loop-input.subs.items in
    let found : source_of c.args.wiring.now c.input-item.result.from ≡ c.source_of.result = sym (c.source_of.ensures ∙ ap (λ q. source_of q input.from) c.sources.ensures.value) in
    let added : items_by c.match-source_of.subs.items ≡ with_input c.args.wiring.now c.args.to (items_by c.loop-input.subs.items) c.input-item.result =
    elim c.match-source_of.branch [
      | in-Some+in_ok-grouping+in_ok-add_sub w ↦
          ap (λ (subs : Vec (Vec Sub Global) Global). items_by subs.items) w.subs-is
          ∙ w.in_ok-add_sub.ensures
          ∙ ap (λ grouping. with_sub rows w.in-Some.from (record { to = c.args.to; grouping = grouping })) w.in_ok-grouping.ensures
          ∙ sym (ap (λ source. option_map_or (λ from. with_sub rows from (record { to = c.args.to; grouping = planned_grouping p from input.grouping })) source rows) (found ∙ w.in-Some.is))
      | in_default w ↦
          ap (λ (subs : Vec (Vec Sub Global) Global). items_by subs.items) w.subs-is
          ∙ sym (ap (λ source. option_map_or (λ from. with_sub rows from (record { to = c.args.to; grouping = planned_grouping p from input.grouping })) source rows) (found ∙ w.in_default.is))
    ]
    in
    inputs_next p c.args.to c.args.inputs.now c.loop-input.input-index input _ rows _ (omega arith) c.input-item.is c.loop-input.invariant added

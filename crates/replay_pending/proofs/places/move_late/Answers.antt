use Rattle.std.proofs.Common.{◌++◌, length, filter, sym, ap, ◌∙◌, arith}
use Rattle.std.proofs.lemmas.List.{append-nil}
use Rattle.replay_pending.specs.InFlight.{is_late}
use Rattle.replay_pending.proofs.Late.{first_out, none_out, one_moved}
use Rattle.replay_pending.proofs.places.move_late.Goals as goal

pub push_reserved-requires : goal.push_reserved-requires
push_reserved-requires g c =
    let es = c.loop-place.entries.items in
    let out = first_out (is_late c.args.buckets c.args.tick) es c.remove.new.self.items c.deref.result.now c.late_place.result c.in-Some.place c.remove.result
    c.late_place.ensures c.deref.ensures.value c.in-Some.is c.remove.ensures.value c.remove.ensures.items in
    let one = ap length out.told in
    let room = c.loop-place.invariant.room in
    omega arith

pub loop-place-preserved : goal.loop-place-preserved
loop-place-preserved g c =
    let es = c.loop-place.entries.items in
    let late = is_late c.args.buckets c.args.tick in
    let out = first_out late es c.remove.new.self.items c.deref.result.now c.late_place.result c.in-Some.place c.remove.result
    c.late_place.ensures c.deref.ensures.value c.in-Some.is c.remove.ensures.value c.remove.ensures.items in
    let one = ap length out.told in
    let before = c.loop-place.invariant in
    let more = c.push_reserved.ensures.len in
    let same = c.push_reserved.ensures.capacity in
    let room = before.room in
    record {
      told =
          ap (λ xs. xs ++ filter late c.remove.new.self.items) c.push_reserved.ensures.items
          ∙ one_moved late c.loop-place.told.items es c.remove.new.self.items c.remove.result out.told ∙ before.told;
      kept = sym out.kept ∙ before.kept;
      room = omega arith;
    }

pub returns-clause-told : goal.returns-clause-told
returns-clause-told g c =
    let none = none_out (is_late c.args.buckets c.args.tick) c.loop-place.entries.items c.deref.result.now c.late_place.result
    c.late_place.ensures c.deref.ensures.value c.in_default.is in
    sym (append-nil c.loop-place.told.items) ∙ ap (λ xs. c.loop-place.told.items ++ xs) (sym none.0) ∙ c.loop-place.invariant.told

pub returns-clause-kept : goal.returns-clause-kept
returns-clause-kept g c =
    let none = none_out (is_late c.args.buckets c.args.tick) c.loop-place.entries.items c.deref.result.now c.late_place.result
    c.late_place.ensures c.deref.ensures.value c.in_default.is in
    sym none.1 ∙ c.loop-place.invariant.kept

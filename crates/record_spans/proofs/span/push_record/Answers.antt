use Rattle.std.proofs.Common.{length, refl, ap, sym, ◌∙◌}
use Rattle.record_spans.proofs.SpanLemmas.{begun, grown_in_place}
use Rattle.record_spans.proofs.span.push_record.Goals as goal

pub returns-then-is_next-clause-apart : goal.returns-then-is_next-clause-apart
returns-then-is_next-clause-apart c =
    rw (c.index_mut.ensures.value, c.len-end.ensures ∙ sym c.deref.ensures.len ∙ ap length c.deref.ensures.value)
    (grown_in_place c.args.spans.now.items c.args.number c.index_mut.result.now (rw c.deref.ensures.value at c.if-is_next.ensures.some refl) (rw c.deref.ensures.value at c.if-is_next.ensures.next refl) c.requires.apart c.requires.some).0

pub returns-then-is_next-clause-records : goal.returns-then-is_next-clause-records
returns-then-is_next-clause-records c =
    rw (c.index_mut.ensures.value, c.len-end.ensures ∙ sym c.deref.ensures.len ∙ ap length c.deref.ensures.value)
    (grown_in_place c.args.spans.now.items c.args.number c.index_mut.result.now (rw c.deref.ensures.value at c.if-is_next.ensures.some refl) (rw c.deref.ensures.value at c.if-is_next.ensures.next refl) c.requires.apart c.requires.some).1

pub returns-then-is_next-clause-end : goal.returns-then-is_next-clause-end
returns-then-is_next-clause-end c =
    rw (c.index_mut.ensures.value, c.len-end.ensures ∙ sym c.deref.ensures.len ∙ ap length c.deref.ensures.value)
    (grown_in_place c.args.spans.now.items c.args.number c.index_mut.result.now (rw c.deref.ensures.value at c.if-is_next.ensures.some refl) (rw c.deref.ensures.value at c.if-is_next.ensures.next refl) c.requires.apart c.requires.some).2

pub returns-clause-apart : goal.returns-clause-apart
returns-clause-apart c =
    let below = rw c.deref.ensures.value at c.if-is_next.ensures.other refl in
    (begun c.args.spans.now.items c.push.new.self.items c.args.number c.in_ok-push.ensures.items c.requires.apart (below c.requires.behind)).0

pub returns-clause-end : goal.returns-clause-end
returns-clause-end c =
    let below = rw c.deref.ensures.value at c.if-is_next.ensures.other refl in
    (begun c.args.spans.now.items c.push.new.self.items c.args.number c.in_ok-push.ensures.items c.requires.apart (below c.requires.behind)).2

use Rattle.std.proofs.Common.{◌+◌, ◌||◌, take, get_or, true≢false, sym, subst, ◌∙◌, arith}
use Rattle.record_spans.specs.Spans.{end_of, is_within, stands_in}
use Rattle.record_spans.specs.Fronts.{IsNew, Misses}
use Rattle.record_spans.proofs.SpanLemmas.{span_at}
use Rattle.record_spans.proofs.FrontLemmas.{not_before, not_fronts, reaches_same, stands_more}
use Rattle.record_spans.proofs.fronts.are_fronts.Goals as goal

pub goes_on-requires-clause-first : goal.goes_on-requires-clause-first
goes_on-requires-clause-first c =
    (span_at 0 (end_of 0 c.args.spans.now) c.args.spans.now c.loop-span.span-index (record { first = 0; last = 0 }) c.requires.apart (omega arith) c.loop-span-test.true).0

pub goes_on-requires-clause-some_records : goal.goes_on-requires-clause-some_records
goes_on-requires-clause-some_records c =
    (span_at 0 (end_of 0 c.args.spans.now) c.args.spans.now c.loop-span.span-index (record { first = 0; last = 0 }) c.requires.apart (omega arith) c.loop-span-test.true).1

pub returns-then-not-goes_on : goal.returns-then-not-goes_on
returns-then-not-goes_on c =
    let spans = c.args.spans.now in
    let j = c.loop-span.span-index in
    let within = c.loop-span-test.true in
    let fresh : IsNew (stands_in (take j spans)) (get_or spans j (record { first = 0; last = 0 })) = λ n least most. not_before 0 spans j n (record { first = 0; last = 0 }) c.requires.apart within least in
    let misses = c.goes_on.ensures.misses c.if-not-goes_on.true (stands_in (take j spans)) c.loop-span.invariant.reaches fresh in
    let here : Misses c.args.partitions (stands_in (take j spans)) (get_or spans j (record { first = 0; last = 0 })) =
    subst (λ p. Misses p (stands_in (take j spans)) (get_or spans j (record { first = 0; last = 0 }))) c.loop-span.invariant.len misses in
    (λ h. absurd (true≢false (sym h)), λ fronts. absurd (not_fronts c.args.partitions spans j (record { first = 0; last = 0 }) c.requires.apart within here fronts))

pub loop-span-preserved : goal.loop-span-preserved
loop-span-preserved c =
    let spans = c.args.spans.now in
    let j = c.loop-span.span-index in
    let within = c.loop-span-test.true in
    let fresh : IsNew (stands_in (take j spans)) (get_or spans j (record { first = 0; last = 0 })) = λ n least most. not_before 0 spans j n (record { first = 0; last = 0 }) c.requires.apart within least in
    let goes = c.goes_on.ensures.goes c.if-not-goes_on.false (stands_in (take j spans)) c.loop-span.invariant.reaches fresh in
    record {
      len = c.goes_on.ensures.len ∙ c.loop-span.invariant.len;
      reaches = reaches_same (λ n. stands_in (take j spans) n || is_within (get_or spans j (record { first = 0; last = 0 })) n) (stands_in (take (j + 1) spans)) c.goes_on.new.next
          (λ n. stands_more spans j n (record { first = 0; last = 0 }) within) goes;
    }

use Rattle.std.proofs.Common.{◌≡◌, ◌+◌, ◌≤◌, ◌&&◌, ◌||◌, ◌∙◌, arith}
use Rattle.std.specs.Prelude.{nat_le}
use Rattle.std.proofs.lemmas.List.{length-set}
use Rattle.record_spans.proofs.FrontLemmas.{adds_one, reaches_more}
use Rattle.record_spans.proofs.fronts.goes_on.Goals as goal

pub loop-at-preserved : goal.loop-at-preserved
loop-at-preserved c =
    let inv = c.loop-at.invariant in
    let len = inv.len in
    let some = c.requires.some in
    let first = c.args.span.now.first in
    let at = c.loop-at.at in
    let least : first ≤ at + 1 = omega arith in
    rw c.from-in-loop-at.ensures (record {
      len = length-set c.loop-at.next _ _ ∙ len;
      reaches = λ gone was fresh. reaches_more (λ n. gone n || nat_le first n && nat_le n at) (λ n. gone n || nat_le first n && nat_le n (at + 1)) c.loop-at.next at (omega (arith, len, some)) (c.if-next-partition.false ∙ c.from.ensures)
          (inv.reaches gone was fresh) (λ n. adds_one (gone n) first n at least);
    })

pub returns-clause-goes : goal.returns-clause-goes
returns-clause-goes c =
    let e : c.loop-at.at ≡ c.args.span.now.last = omega arith in
    λ _ gone was fresh. rw e at (c.loop-at.invariant.reaches gone was fresh)

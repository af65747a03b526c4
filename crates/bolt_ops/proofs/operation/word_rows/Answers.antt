use Rattle.std.proofs.Common.{lit<}
use Rattle.std.proofs.lemmas.Iterator.Consumers.{YieldsList-end}
use Rattle.std.proofs.lemmas.Iterator.Splits.{YieldsList-from_str_split}
use Rattle.bolt_ops.proofs.operation.word_rows.Goals as goal

-- every piece between two spaces was yielded
pub returns : goal.returns
returns c =
    let split = c.split-word-items.ensures in
    let same = c.into_iter-word-iterator.ensures.into_iter_gives in
    let gives = YieldsList-from_str_split {s = c.into_iter-word-iterator.result} 32 c.args.text.now
    (lit< tt) (rw same split.text) (rw same split.has_more) (rw same split.pattern) in
    let all = YieldsList-end gives c.loop-word.yielded _ c.loop-word.yielded_by _ _ c.in-None.is c.next.ensures.steps in
    rw (c.loop-word.invariant, all.0)

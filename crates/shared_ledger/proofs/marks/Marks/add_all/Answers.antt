use Rattle.std.proofs.Common.{◌/◌, ◌%◌, ◌==◌, slice_index, ap, ◌∙◌, arith}
use Rattle.std.specs.Int.{bit_at}
use Rattle.shared_ledger.proofs.Marked.{or_marked}
use Rattle.shared_ledger.proofs.marks.Marks.add_all.Goals as goal

pub returns : goal.returns
returns c = λ r low.
    ap (λ n. bit_at n (r % 64) == 1) (c.loop-place.invariant.0 (r / 64) (let l = c.loop-place-test.false in omega arith))
    ∙ or_marked (slice_index c.args.self.now.words (r / 64)) (slice_index c.args.others.now.words (r / 64)) (r % 64)

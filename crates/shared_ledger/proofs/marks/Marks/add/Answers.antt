use Rattle.std.proofs.Common.{◌/◌, ◌%◌, ◌==◌, bit_or, slice_index, slice_set, ap, ◌∙◌, arith}
use Rattle.std.specs.Int.{bit_at}
use Rattle.shared_ledger.proofs.Marked.{one_marked, one_bit}
use Rattle.shared_ledger.proofs.marks.Marks.add.Goals as goal

pub returns : goal.returns
returns c = λ r low.
    ap (λ n. bit_at (slice_index (slice_set c.args.self.now.words (c.args.root / 64) (bit_or (slice_index c.args.self.now.words (c.args.root / 64)) n)) (r / 64)) (r % 64) == 1) (one_bit (c.args.root % 64) (omega arith))
    ∙ one_marked c.args.self.now.words c.args.root r (let l = c.requires in let e = c.args.self.now.sized in omega arith)

use Rattle.std.proofs.Common.{rules, ◌<◌, inl, inr, ◌∷◌, [], length, sym, ◌∙◌, arith}
use Rattle.acker_core.proofs.Below.{below_early, below_late, first_ends, within_both}
use Rattle.acker_core.proofs.follow.is_below.Goals as goal

pub returns-in-Less : goal.returns-in-Less
returns-in-Less c =
    λ below.
    let low = within_both c.min-both.result (length c.args.a.before.now) (length c.args.b.before.now) c.min-both.ensures in
    below_early c.min-both.result c.args.a.before.now c.args.b.before.now (c.args.a.last ∷ []) (c.args.b.last ∷ []) low.0 low.1
    (sym c.cmp.ensures ∙ c.in-Less.is)

pub returns-then-x-y : goal.returns-then-x-y
returns-then-x-y c =
    λ below.
    let low = within_both c.min-both.result (length c.args.a.before.now) (length c.args.b.before.now) c.min-both.ensures in
    below_late c.min-both.result c.args.a.before.now c.args.b.before.now c.args.a.last c.args.b.last low.0 low.1
    (first_ends c.min-both.result (length c.args.a.before.now) (length c.args.b.before.now) c.min-both.ensures)
    (sym c.cmp.ensures ∙ c.in-Equal.is)
    (inl (let less = c.if-x-y.true in let x = c.number_at-x.ensures in let y = c.number_at-y.ensures in omega arith))

pub returns-then-x-y-2 : goal.returns-then-x-y-2
returns-then-x-y-2 c =
    λ shorter.
    let low = within_both c.min-both.result (length c.args.a.before.now) (length c.args.b.before.now) c.min-both.ensures in
    let fewer : length c.args.a.before.now < length c.args.b.before.now = search (rules, shorter) in
    below_late c.min-both.result c.args.a.before.now c.args.b.before.now c.args.a.last c.args.b.last low.0 low.1
    (first_ends c.min-both.result (length c.args.a.before.now) (length c.args.b.before.now) c.min-both.ensures)
    (sym c.cmp.ensures ∙ c.in-Equal.is)
    (inr (sym c.number_at-x.ensures ∙ c.if-x-y-2.true ∙ c.number_at-y.ensures, fewer))

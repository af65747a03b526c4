use Rattle.std.proofs.Common.{length, refl, ap, sym, ◌∙◌, arith}
use Rattle.kept_commits.proofs.Runs.{begun, grown_at}
use Rattle.kept_commits.proofs.joining.add.Goals as goal

pub returns-then-touches-clause-separate : goal.returns-then-touches-clause-separate
returns-then-touches-clause-separate c =
    (grown_at c.args.runs.now.items c.args.span c.index_mut-run.result.now c.len-end.result c.max-run.result
    (c.len-end.ensures ∙ sym c.deref.ensures.len ∙ ap length c.deref.ensures.value) c.index_mut-run.ensures.value c.max-run.ensures
    (rw c.deref.ensures.value at c.if-touches.ensures.some refl) c.requires.separate c.requires.behind (rw c.deref.ensures.value at c.if-touches.ensures.near refl) (omega arith)).0

pub returns-then-touches-clause-behind : goal.returns-then-touches-clause-behind
returns-then-touches-clause-behind c =
    (grown_at c.args.runs.now.items c.args.span c.index_mut-run.result.now c.len-end.result c.max-run.result
    (c.len-end.ensures ∙ sym c.deref.ensures.len ∙ ap length c.deref.ensures.value) c.index_mut-run.ensures.value c.max-run.ensures
    (rw c.deref.ensures.value at c.if-touches.ensures.some refl) c.requires.separate c.requires.behind (rw c.deref.ensures.value at c.if-touches.ensures.near refl) (omega arith)).1

pub returns-then-touches-clause-numbers : goal.returns-then-touches-clause-numbers
returns-then-touches-clause-numbers c =
    (grown_at c.args.runs.now.items c.args.span c.index_mut-run.result.now c.len-end.result c.max-run.result
    (c.len-end.ensures ∙ sym c.deref.ensures.len ∙ ap length c.deref.ensures.value) c.index_mut-run.ensures.value c.max-run.ensures
    (rw c.deref.ensures.value at c.if-touches.ensures.some refl) c.requires.separate c.requires.behind (rw c.deref.ensures.value at c.if-touches.ensures.near refl) (omega arith)).2

pub returns-clause-separate : goal.returns-clause-separate
returns-clause-separate c =
    (begun c.args.runs.now.items c.push.new.self.items c.args.span c.in_ok-push.ensures.items c.requires.separate (λ some. rw c.deref.ensures.value at c.if-touches.ensures.far refl some) (omega arith)).0

pub returns-clause-behind : goal.returns-clause-behind
returns-clause-behind c =
    (begun c.args.runs.now.items c.push.new.self.items c.args.span c.in_ok-push.ensures.items c.requires.separate (λ some. rw c.deref.ensures.value at c.if-touches.ensures.far refl some) (omega arith)).1

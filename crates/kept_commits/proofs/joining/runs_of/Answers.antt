use Rattle.std.proofs.Common.{◌∙◌, arith}
use Rattle.record_spans.specs.Spans.{stands_in}
use Rattle.kept_commits.proofs.Runs.{more_stand}
use Rattle.kept_commits.proofs.joining.runs_of.Goals as goal

pub loop-span-preserved : goal.loop-span-preserved
loop-span-preserved c = record {
  separate = c.in_ok-add.ensures.separate;
  behind = λ k from below.
      let here = c.in_ok-add.ensures.behind in
      let rises = c.requires c.loop-span.span-index k (record { first = 0; last = 0 }) (omega (arith, from)) below in
      omega (arith, here, rises);
  numbers = λ n. c.in_ok-add.ensures.numbers n ∙ more_stand c.args.spans.now c.loop-span.span-index n _ (stands_in c.loop-span.runs.items n) c.loop-span-test.true (c.loop-span.invariant.numbers n);
  fit = c.in_ok-add.ensures.fit c.loop-span.invariant.fit;
}

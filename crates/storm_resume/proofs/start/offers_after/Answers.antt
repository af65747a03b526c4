use Rattle.std.proofs.Common.{ℕ, ◌<◌, subst}
use Rattle.storm_resume.proofs.Goings.{cut_of, input_of}
use Rattle.storm_resume.proofs.start.offers_after.Goals as goal

pub returns-clause-cut : goal.returns-clause-cut
returns-clause-cut c =
    cut_of c.after.result c.args.plan.now c.args.rows c.args.start.now c.batch.result c.partitions.result c.batch.ensures.value c.partitions.ensures.value c.after.ensures.same c.after.ensures.gone

pub returns-clause-input : goal.returns-clause-input
returns-clause-input c =
    input_of c.after.result c.args.plan.now c.args.rows c.args.start.now c.possible_starts_are_starts.ensures.after c.facts.ensures.valid c.facts.ensures.wired
    (subst (λ (n : ℕ). 0 < n) c.batch.ensures.value c.batch.ensures.some) c.requires.rows c.requires.few c.requires.of_input (returns-clause-cut c)

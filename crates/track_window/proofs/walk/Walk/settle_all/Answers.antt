use Rattle.std.proofs.Common.{rules, ◌≡◌, ◌≢◌, ◌≤◌, ◌<◌, ◌+◌, ◌-◌, ◌*◌, ◌^◌, ℕ, zero, suc, bit_xor, Bool, true, false, true≢false, List, [], ◌∷◌, ◌++◌, map, take, get_or, set, length, replicate, Option, Some, None, All, sym, refl, ap, subst, ◌∙◌, arith}
use Rattle.std.proofs.lemmas.List.{map-append}
use Rattle.tree_model.specs.declared.messages.Tuple.{Tuple}
use Rattle.track_window.specs.declared.job.Job.{Job}
use Rattle.track_window.specs.Jobs.{IsSafe, tuples_in}
use Rattle.track_window.specs.Walks.{Steps}
use Rattle.track_window.proofs.Settling.{steps_none, steps_then, steps_count}
use Rattle.track_window.proofs.walk.Walk.settle_all.Goals as goal

pub loop-job-init : goal.loop-job-init
loop-job-init g c = steps_none c.args.plan.now (g.O.RowOp.meaning c.args.custom.now) c.args.self.now

pub settle_at-requires-clause-count : goal.settle_at-requires-clause-count
settle_at-requires-clause-count g c = λ κs within.
    c.requires.count ∙ sym (steps_count c.args.plan.now (g.O.RowOp.meaning c.args.custom.now) (tuples_in c.loop-job.yielded) c.args.self.now c.loop-job.self c.loop-job.invariant)

pub settle_at-requires-clause-few : goal.settle_at-requires-clause-few
settle_at-requires-clause-few g c = λ κs within.
    let same = steps_count c.args.plan.now (g.O.RowOp.meaning c.args.custom.now) (tuples_in c.loop-job.yielded) c.args.self.now c.loop-job.self c.loop-job.invariant in
    subst (λ (n : ℕ). n < 2 ^ 32) (sym same) c.requires.few

pub settle_at-requires-clause-components : goal.settle_at-requires-clause-components
settle_at-requires-clause-components g c = λ κs within. c.loop-job.invariant.components ∙ c.requires.components

pub loop-job-preserved : goal.loop-job-preserved
loop-job-preserved g c =
    let t = c.args.plan.now in
    let custom = g.O.RowOp.meaning c.args.custom.now in
    subst (λ (ts : List Tuple). Steps t custom ts c.args.self.now c.settle_at.new.self) (sym (map-append (λ (job : Job). job.tuple) c.loop-job.yielded (c.in-Some.job ∷ [])))
    (steps_then t custom (tuples_in c.loop-job.yielded) (c.in-Some.job.tuple ∷ []) c.args.self.now c.loop-job.self c.settle_at.new.self c.loop-job.invariant c.in_ok-settle_at.ensures)

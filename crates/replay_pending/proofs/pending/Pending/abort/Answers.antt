use Rattle.std.proofs.Common.{◌≡◌, true, ap, sym, ◌∙◌}
use Rattle.std.specs.Prelude.{is_some}
use Rattle.replay_pending.specs.InFlight.{is_of_root, is_pending}
use Rattle.replay_pending.proofs.Counting.{counts-pending, kept-aborted}
use Rattle.replay_pending.proofs.Found.{some-any}
use Rattle.replay_pending.proofs.pending.Pending.abort.Goals as goal

pub abort-requires : goal.abort-requires
abort-requires g c =
    let f = c.self.inside in
    let there : is_pending c.args.root f.entries.items ≡ true =
    sym (some-any (is_of_root c.args.root) f.entries.items) ∙ ap is_some (sym c.take.ensures.entry ∙ c.in-Some.is) in
    counts-pending c.args.root f.tries f.entries.items there c.self.invariant.counts

pub invariant_of-self : goal.invariant_of-self
invariant_of-self g c =
    let f = c.self.inside in
    let there : is_pending c.args.root f.entries.items ≡ true =
    sym (some-any (is_of_root c.args.root) f.entries.items) ∙ ap is_some (sym c.take.ensures.entry ∙ c.in-Some.is) in
    rw (c.take.ensures.left, c.abort.ensures) (kept-aborted f.cap f.tries f.entries.items c.args.root there c.self.invariant)

use Rattle.std.proofs.Common.{◌≡◌, ◌+◌, ◌++◌, filter, ap, ◌∙◌}
use Rattle.replay_pending.specs.InFlight.{is_late}
use Rattle.replay_pending.proofs.Counting.{counts-filter, kept-ticked}
use Rattle.replay_pending.proofs.pending.Pending.tick.Goals as goal

pub count_aborted-requires : goal.count_aborted-requires
count_aborted-requires g c =
    let f = c.self.inside in
    let late = is_late f.buckets (f.tick + 1) in
    let told : c.deref-2.result.now ≡ filter late f.entries.items =
    c.deref-2.ensures.value ∙ c.move_late.ensures.told ∙ ap (λ xs. xs ++ filter late f.entries.items) c.in_ok-told.ensures.items in
    rw told (counts-filter late f.tries f.entries.items c.self.invariant.counts)

pub invariant_of-self : goal.invariant_of-self
invariant_of-self g c =
    let f = c.self.inside in
    let late = is_late f.buckets (f.tick + 1) in
    let told : c.deref-2.result.now ≡ filter late f.entries.items =
    c.deref-2.ensures.value ∙ c.move_late.ensures.told ∙ ap (λ xs. xs ++ filter late f.entries.items) c.in_ok-told.ensures.items in
    rw (c.count_aborted.ensures, told, c.move_late.ensures.kept) (kept-ticked f.cap f.tries f.entries.items late c.self.invariant)

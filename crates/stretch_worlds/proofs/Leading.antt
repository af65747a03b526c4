-- A stretch of work leads on.
use Rattle.std.proofs.Common.{◌≡◌, ◌≤◌, ◌^◌, ◌-◌, ◌+◌, ℕ, List, [], ◌++◌, sym, ap, subst, ◌∙◌, append-nil}
use Rattle.event_worlds.specs.attempt_fates.declared.fates.Attempt.{Attempt}
use Rattle.event_worlds.specs.bolt_ops.RowOp.{Custom}
use Rattle.event_worlds.specs.commit_turns.Account.{desk_of, ends_of}
use Rattle.event_worlds.specs.commit_turns.Desks.{Desk}
use Rattle.event_worlds.specs.commit_turns.Kept.{IsKept, HaveSpans}
use Rattle.event_worlds.specs.Accounted.{LedAt, BeganWith}
use Rattle.event_worlds.specs.Worlds.{Known, ended}
use Rattle.event_worlds.proofs.Leading.{fits-alike, reached-more, starts-more}
use Rattle.stretch_worlds.specs.Stretching.{IsFit, IsInside, LeavesDesk}
use Rattle.event_worlds.specs.topology_plan.Topology.{Topology}
use Rattle.event_worlds.specs.taken_records.Cuts.{Cut}
use Rattle.event_worlds.specs.tuple_account.Fits.{Fits}
use Rattle.event_worlds.specs.tuple_account.Histories.{History, joined}
use Rattle.event_worlds.specs.tuple_account.Moves.{HasDrawn, Moves, Station}
use Rattle.event_worlds.proofs.tuple_account.Moving.{drawn-both}
use Rattle.event_worlds.proofs.Spans.{spans-alike}

none_more : {X : Type 0} (xs more : List X) → more ≡ [] → xs ≡ xs ++ more
none_more xs more none = sym (ap (λ ys. xs ++ ys) none ∙ append-nil xs)

module _ (t : Topology) (custom : Custom) (cut : Cut) (words : ℕ → ℕ → ℕ) where
  pub leads_on : (all after : Station) (h more : History) (k new : Known) → LedAt t custom cut words all h k → Moves t custom all more after → HasDrawn words more
      → IsInside more → IsFit t new → LeavesDesk k new → LedAt t custom cut words after (joined h more) new
  leads_on all after h more k new led moves drawn inside fit same = record {
    reached = reached-more t custom h more all after inside.begun led.reached moves;
    drawn = drawn-both words h more led.drawn drawn;
    starts = starts-more h more inside.starts led.starts;
    orderly = fit.orderly;
    counted = fit.counted;
    kept = subst (λ (p : Desk × List Attempt). IsKept t cut p.0 p.1) (λ i. (sym same.desk i, sym same.fates i)) led.kept;
    fits = subst (λ (p : Desk × List Attempt). Fits t (desk_of cut p.0) (ends_of p.1) (joined h more)) (λ i. (sym same.desk i, sym same.fates i))
        (fits-alike t (desk_of cut k.world.desk) (ends_of k.world.fates) h (joined h more) (none_more h.begun more.begun inside.begun)
        (none_more h.heard more.heard inside.heard) led.fits);
    spans = subst (λ (p : Desk × List Attempt). HaveSpans (BeganWith cut (joined h more).begun) p.0 p.1) (λ i. (sym same.desk i, sym same.fates i))
        (spans-alike cut k.world.desk k.world.fates h.begun (joined h more).begun (none_more h.begun more.begun inside.begun) led.spans);
    silent = fit.silent;
    ticks = subst (λ (p : ℕ × ℕ). p.0 ≤ p.1) (λ i. (ap (λ (d : Desk). d.tick) (sym same.desk) i, sym same.tick i)) led.ticks;
    unheard = subst (λ (p : ℕ × (ℕ × ℕ)). ended (p.0 + p.1.0) ≤ p.1.1) (λ i. (ap (λ (d : Desk). d.tick) (sym same.desk) i, (sym same.unheard i, sym same.tick i))) led.unheard;
    last = subst (λ (n : ℕ). n ≤ 2 ^ 64 - 1) (sym same.tick) led.last;
  }

use Rattle.std.proofs.Common.{◌≡◌, ◌+◌, ◌<◌, ◌∷◌, length, drop, ap, subst, sym, ◌∙◌, arith}
use Rattle.std.proofs.lemmas.List.{drop_more}
use Rattle.replay_pending.specs.InFlight.{AreCounted, counted, txids_of}
use Rattle.replay_pending.proofs.Counting.{counts-first}
use Rattle.replay_pending.proofs.pending.count_aborted.Goals as goal

pub loop-entry-preserved : goal.loop-entry-preserved
loop-entry-preserved g c =
    let es = c.args.entries.now in
    let i = c.loop-entry.entry-index in
    let e = c.entry-item.result in
    let rest = drop (i + 1) es in
    let near : i < length es = omega arith in
    let here : drop i es ≡ e ∷ rest = drop_more es i e near ∙ ap (λ v. v ∷ rest) (sym c.entry-item.is) in
    let first = counts-first c.loop-entry.tries e rest (subst (AreCounted c.loop-entry.tries) here c.loop-entry.invariant.counts) in
    record {
      counts = rw c.abort.ensures first.1;
      left =
          ap (counted (txids_of rest)) c.abort.ensures ∙ ap (λ vs. counted (txids_of vs) c.loop-entry.tries) (sym here) ∙ c.loop-entry.invariant.left;
    }

-- The account read off the desk and the fates, and back.
use Rattle.std.proofs.Common.{◌≡◌, ℕ, ◌≤◌, None, List, map, sym, subst, ◌∙◌, arith}
use Rattle.std.proofs.lemmas.List.{length-map}
use Rattle.tuple_account.specs.acker_core.declared.verdict.Verdict.{Verdict}
use Rattle.attempt_fates.specs.declared.fates.Attempt.{Attempt}
use Rattle.tuple_account.specs.counted_items.Weights.{weigh}
use Rattle.tuple_account.proofs.counted_items.Each.{each-both, each-map, each-to_map, each-weaker}
use Rattle.tuple_account.proofs.counted_items.Weighing.{weigh-append, weigh-flat_map, weigh-map}
use Rattle.tuple_account.specs.storm_values.declared.value.Root.{Root}
use Rattle.tuple_account.specs.topology_plan.Topology.{Topology}
use Rattle.taken_records.specs.Cuts.{Cut}
use Rattle.tuple_account.specs.Ends.{Ended, Waits, commits, verdicts_by, verdicts_of_ends, verdicts_of_waits, verdicts_settled}
use Rattle.tuple_account.specs.Fits.{Fits, IsEnd, IsWaiting}
use Rattle.tuple_account.specs.Histories.{History, Opening}
use Rattle.tuple_account.specs.Sound.{is_about}
use Rattle.commit_turns.specs.declared.wait.Wait.{Wait}
use Rattle.commit_turns.specs.Account.{desk_of, ended_of, ends_of, waits_of}
use Rattle.commit_turns.specs.Desks.{Desk}
use Rattle.commit_turns.proofs.Accounting.{HasBooks}
use Rattle.commit_turns.proofs.Booking.{IsChecked, ended_by, is_root, settled_by}
use Rattle.commit_turns.proofs.Holding.{IsBegun}
use Rattle.commit_turns.proofs.Going.{IsGoing}

-- the roots that were begun
abbrev pub roots_of : List Opening → List Root
roots_of openings = map (λ (o : Opening). o.begun.root) openings

ends_weight : (f : Verdict → ℕ) (fates : List Attempt) → weigh f (verdicts_of_ends (ends_of fates)) ≡ weigh (ended_by f) fates
ends_weight f fates =
    weigh-flat_map f (λ (a : Ended). verdicts_by a.root a.ending) (ends_of fates)
    ∙ weigh-map (λ (a : Ended). weigh f (verdicts_by a.root a.ending)) ended_of fates

waits_weight : (f : Verdict → ℕ) (ws : List Wait) → weigh f (verdicts_of_waits (map waits_of ws)) ≡ weigh (settled_by f) ws
waits_weight f ws =
    weigh-flat_map f (λ (w : Waits). verdicts_settled w.root w.settled) (map waits_of ws)
    ∙ weigh-map (λ (w : Waits). weigh f (verdicts_settled w.root w.settled)) waits_of ws

module _ (t : Topology) (cut : Cut) (d : Desk) (fates : List Attempt) (h : History) where
  pub books_of : Fits t (desk_of cut d) (ends_of fates) h → HasBooks t cut d fates (roots_of h.begun) h.heard
  books_of fits = record {
    begun = λ f.
        (let e = fits.begun f in
        let o = weigh-map f (λ (o : Opening). o.begun.root) h.begun in
        let a = weigh-map (λ (a : Ended). f a.root) ended_of fates in
        let w = weigh-map (λ (w : Waits). f w.root) waits_of d.pending in omega arith);
    numbered = λ root. weigh-map (is_root root) (λ (o : Opening). o.begun.root) h.begun ∙ fits.numbered root;
    heard_all = λ f.
        (let e = fits.heard f in
        let p = weigh-append f (verdicts_of_ends (ends_of fates)) (verdicts_of_waits (map waits_of d.pending)) in
        let a = ends_weight f fates in
        let w = waits_weight f d.pending in omega arith);
    unheard = each-map (λ (w : Waits). w.settled ≡ None → weigh (is_about w.root) h.heard ≡ 0) waits_of d.pending fits.unheard;
    checked = each-weaker (λ (a : Attempt). IsEnd t d.tick (ended_of a)) (IsChecked t) (λ a is. is.checked) fates (each-map (IsEnd t d.tick) ended_of fates fits.ends);
    once = λ txid. sym (weigh-map (commits txid) ended_of fates) ∙ fits.once txid;
  }

  pub fits_of : IsGoing t cut d fates → HasBooks t cut d fates (roots_of h.begun) h.heard → Fits t (desk_of cut d) (ends_of fates) h
  fits_of going b = record {
    begun = λ f.
        (let e = b.begun f in
        let o = weigh-map f (λ (o : Opening). o.begun.root) h.begun in
        let a = weigh-map (λ (a : Ended). f a.root) ended_of fates in
        let w = weigh-map (λ (w : Waits). f w.root) waits_of d.pending in omega arith);
    numbered = λ root. sym (weigh-map (is_root root) (λ (o : Opening). o.begun.root) h.begun) ∙ b.numbered root;
    heard = λ f.
        (let e = b.heard_all f in
        let p = weigh-append f (verdicts_of_ends (ends_of fates)) (verdicts_of_waits (map waits_of d.pending)) in
        let a = ends_weight f fates in
        let w = waits_weight f d.pending in omega arith);
    unheard = each-to_map (λ (w : Waits). w.settled ≡ None → weigh (is_about w.root) h.heard ≡ 0) waits_of d.pending b.unheard;
    ends = each-to_map (IsEnd t d.tick) ended_of fates
        (each-weaker (λ (a : Attempt). (a.start ≤ a.finish) × ((a.finish ≤ d.tick) × IsChecked t a)) (λ (a : Attempt). IsEnd t d.tick (ended_of a))
        (λ a all. record { starts = all.0; finishes = all.1.0; checked = all.1.1 }) fates
        (each-both (λ (a : Attempt). a.start ≤ a.finish) (λ (a : Attempt). (a.finish ≤ d.tick) × IsChecked t a) fates
        going.holds.told.rises
        (each-both (λ (a : Attempt). a.finish ≤ d.tick) (IsChecked t) fates going.holds.told.handed_out b.checked)));
    waits = each-to_map (IsWaiting (desk_of cut d)) waits_of d.pending
        (each-weaker (IsBegun t cut d.tries d.committed d.tick) (λ (w : Wait). IsWaiting (desk_of cut d) (waits_of w)) (λ w is. record { starts = is.starts; later = is.later; closed = is.closed }) d.pending going.holds.waits);
    few = subst (λ (n : ℕ). n ≤ t.pending) (sym (length-map d.pending waits_of)) going.holds.few;
    once = λ txid. weigh-map (commits txid) ended_of fates ∙ b.once txid;
  }

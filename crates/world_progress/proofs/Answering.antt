-- What an acker's step adds to what was done.
use Rattle.std.proofs.Common.{◌≡◌, ◌<◌, inl, inr, ℕ, suc, ◌-◌, List, [], ◌∷◌, ◌++◌, length, get_or, set, None, Some, refl, sym, ap, subst, arith}
use Rattle.std.specs.Option.{option_to_list}
use Rattle.std.proofs.lemmas.Bool.{cases_lt}
use Rattle.std.proofs.lemmas.List.{append-nil, length-append, get_or_past, set_past}
use Rattle.event_worlds.specs.acker_core.declared.verdict.Verdict.{Verdict}
use Rattle.event_worlds.specs.Added.{acker_adds, acker_adds_past, meets_front, lost}
use Rattle.event_worlds.specs.Worlds.{AckerSide, Answered, World, acker_at, acker_step, aged, answered_past, counted_up, meets, no_acker}
use Rattle.event_worlds.specs.topology_plan.Topology.{Topology}
use Rattle.event_worlds.specs.tree_model.declared.messages.AckMsg.{AckMsg}
use Rattle.event_worlds.specs.tuple_account.Histories.{History, joined, nothing}
use Rattle.world_progress.specs.Doing.{done, messages_in}
use Rattle.world_progress.proofs.Doing.{Stepped, rose, kept}
use Rattle.event_worlds.proofs.Waiting.{weigh-set}
use Rattle.world_progress.proofs.Lists.{at-set}

-- its box and its outbox are empty
pub record IsIdleSide (side : AckerSide) : Type 0 where
  pub inbox : side.inbox ≡ []
  pub outbox : side.outbox ≡ []

abbrev pub IsIdleAcker : ℕ → World → Type 0
IsIdleAcker n w = IsIdleSide (acker_at n w)

-- nothing was handed over, this acker had nothing to do, and no idle one has more
pub record IsQuietAcker (n : ℕ) (w v : World) : Type 0 where
  pub verdicts : v.verdicts ≡ w.verdicts
  pub here : IsIdleAcker n v
  pub others : (m : ℕ) → IsIdleAcker m w → IsIdleAcker m v

module _ (t : Topology) (w : World) (h : History) (n : ℕ) where
  -- the world after an answer
  abbrev after : Answered → World
  after a = record w { ackers = set w.ackers n a.side; verdicts = w.verdicts ++ option_to_list a.verdict }

  abbrev pub DoesAcker : Type 0
  DoesAcker = Stepped (done h w) (done (joined h (acker_adds n t.buckets w.tick (acker_at n w))) (acker_step t n w)) (IsQuietAcker n w (acker_step t n w))

  quiet_of : (y : AckerSide) → IsIdleAcker n w → IsIdleSide y → IsQuietAcker n w (after (record { side = y; verdict = None }))
  quiet_of y idle idle_now = record {
    verdicts = append-nil w.verdicts;
    here = at-set (λ (k : ℕ) (s : AckerSide). k ≡ n → IsIdleSide s) w.ackers n y no_acker (λ k e. subst (λ (j : ℕ). IsIdleSide (get_or w.ackers j no_acker)) (sym e) idle) (λ below e. idle_now) n refl;
    others = at-set (λ (k : ℕ) (s : AckerSide). IsIdleAcker k w → IsIdleSide s) w.ackers n y no_acker (λ k i. i) (λ below i. idle_now);
  }

  -- a side with as many messages, and no verdict
  same_boxes : (y : AckerSide) → length y.inbox ≡ length (acker_at n w).inbox → messages_in (set w.ackers n y) ≡ messages_in w.ackers
  same_boxes y same =
      elim (cases_lt n (length w.ackers)) [
        | inl below ↦ let s = weigh-set (λ (x : AckerSide). length x.inbox) w.ackers n y no_acker below in omega arith
        | inr past ↦ ap messages_in (set_past w.ackers n y past)
      ]

  there_of : (box : ℕ) → length (acker_at n w).inbox ≡ suc box → n < length w.ackers
  there_of box some =
      elim (cases_lt n (length w.ackers)) [
        | inl below ↦ below
        | inr past ↦ let e = ap (λ (s : AckerSide). length s.inbox) (get_or_past w.ackers n no_acker past) in absurd (omega arith)
      ]

  takes_one : (m : AckMsg) (rest : List AckMsg) → (acker_at n w).inbox ≡ m ∷ rest
      → done h w < done (joined h (record (meets_front n (m ∷ rest) (aged t.buckets (w.tick - (acker_at n w).counted) (acker_at n w).entries)) { dropped = lost t.buckets (w.tick - (acker_at n w).counted) (acker_at n w).entries }))
      (after (record { side = meets (counted_up t.buckets w.tick (acker_at n w)) (m ∷ rest); verdict = None }))
  takes_one m rest box =
      let e = ap length box in
      let s = weigh-set (λ (x : AckerSide). length x.inbox) w.ackers n (meets (counted_up t.buckets w.tick (acker_at n w)) (m ∷ rest)) no_acker (there_of (length rest) e) in
      let a = length-append h.met (record { acker = n; message = m } ∷ []) in
      let b = ap length (append-nil h.runs) in
      let c = ap length (append-nil h.heard) in
      let d = ap length (append-nil h.begun) in
      let v = ap length (append-nil w.verdicts) in omega arith

  hands_on : (v : Verdict) (rest : List Verdict) → done h w < done (joined h nothing) (after (record { side = record (acker_at n w) { outbox = rest }; verdict = Some v }))
  hands_on v rest =
      let s = same_boxes (record (acker_at n w) { outbox = rest }) refl in
      let b = ap length (append-nil h.runs) in
      let a = ap length (append-nil h.met) in
      let c = ap length (append-nil h.heard) in
      let d = ap length (append-nil h.begun) in
      let l = length-append w.verdicts (v ∷ []) in omega arith

  counts_only : done (joined h (record nothing { dropped = lost t.buckets (w.tick - (acker_at n w).counted) (acker_at n w).entries })) (after (record { side = counted_up t.buckets w.tick (acker_at n w); verdict = None })) ≡ done h w
  counts_only =
      let s = same_boxes (counted_up t.buckets w.tick (acker_at n w)) refl in
      let b = ap length (append-nil h.runs) in
      let a = ap length (append-nil h.met) in
      let c = ap length (append-nil h.heard) in
      let d = ap length (append-nil h.begun) in
      let v = ap length (append-nil w.verdicts) in omega arith

  pub acker_does : DoesAcker
  acker_does = outer (acker_at n w).outbox refl
    where
      inner : (box : List AckMsg) → (acker_at n w).inbox ≡ box → (acker_at n w).outbox ≡ []
          → Stepped (done h w) (done (joined h (record (meets_front n box (aged t.buckets (w.tick - (acker_at n w).counted) (acker_at n w).entries)) { dropped = lost t.buckets (w.tick - (acker_at n w).counted) (acker_at n w).entries }))
          (after (record { side = meets (counted_up t.buckets w.tick (acker_at n w)) box; verdict = None }))) (IsQuietAcker n w (after (record { side = meets (counted_up t.buckets w.tick (acker_at n w)) box; verdict = None })))
      inner [] box out = kept counts_only (quiet_of (counted_up t.buckets w.tick (acker_at n w)) (record { inbox = box; outbox = out }) (record { inbox = box; outbox = out }))
      inner (m ∷ rest) box out = rose (takes_one m rest box)

      outer : (out : List Verdict) → (acker_at n w).outbox ≡ out
          → Stepped (done h w) (done (joined h (acker_adds_past n t.buckets w.tick (acker_at n w) out)) (after (answered_past t.buckets w.tick (acker_at n w) out))) (IsQuietAcker n w (after (answered_past t.buckets w.tick (acker_at n w) out)))
      outer (v ∷ rest) out = rose (hands_on v rest)
      outer [] out = inner (acker_at n w).inbox refl out

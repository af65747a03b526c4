-- Attempts that are dropped, as a step of what is known.
use Rattle.std.proofs.Common.{◌≡◌, ℕ, ◌==◌, ◌&&◌, Bool, true, false, not, cond, nat_lt, Option, List, [], ◌∷◌, ◌++◌, map, filter, refl, sym, ap, ap₂, ◌∙◌}
use Rattle.std.proofs.lemmas.List.{append-nil}
use Rattle.attempt_fates.specs.declared.fates.Attempt.{Attempt}
use Rattle.attempt_fates.specs.declared.fates.End.TheVariants as end
use Rattle.commit_order.proofs.Steps.{filter-map, late-ends, office_by}
use Rattle.commit_order.specs.Offices.{DropsAll, Office, Settled, entry_ended, entry_spans, wait_of, waits}
use Rattle.commit_turns.specs.declared.wait.Wait.{Wait}
use Rattle.commit_turns.specs.Turns.{drops, ends_with}
use Rattle.record_offers.specs.Offers.{OfferState, with_gone}
use Rattle.record_spans.specs.declared.span.Span.{Span}
use Rattle.replay_pending.specs.declared.entry.Entry.{Entry}
use Rattle.replay_pending.specs.InFlight.{InFlight, is_above}
use Rattle.taken_records.specs.Taken.{put_back}
use Rattle.tuple_account.specs.storm_values.declared.value.Root.{Root}
use Rattle.tuple_account.specs.topology_plan.Topology.{Topology}

-- ---- without partitions

none_passes : (p : Wait → Bool) → ((w : Wait) → p w ≡ false) → (ws : List Wait) → (filter p ws ≡ []) × (filter (λ (w : Wait). not (p w)) ws ≡ ws)
none_passes p none [] = (refl, refl)
none_passes p none (w ∷ ws) =
    let rest = none_passes p none ws in (
      ap (λ (b : Bool). cond b (w ∷ filter p ws) (filter p ws)) (none w) ∙ rest.0,
      ap (λ (b : Bool). cond (not b) (w ∷ filter (λ (v : Wait). not (p v)) ws) (filter (λ (v : Wait). not (p v)) ws)) (none w) ∙ ap (λ (vs : List Wait). w ∷ vs) rest.1,
    )

pub drops_none : (o : Office) (first : Root) (fates : List Attempt) → (o.cut.partitions == 0) ≡ true → DropsAll first o o fates fates
drops_none o first fates none =
    let both = none_passes (ends_with o.topology o.cut first) (λ w. ap (λ (b : Bool). not b && nat_lt first.txid w.root.txid) none) o.desk.pending in
    record {
      office = sym (ap₂ (λ (ds ws : List Wait). record o { desk = record o.desk { gone = put_back (map (λ (w : Wait). w.spans) ds) o.desk.gone; pending = ws } }) both.0 both.1);
      fates = sym (ap (λ (ds : List Wait). fates ++ map (λ (w : Wait). record { root = w.root; spans = w.spans; start = w.start; finish = o.desk.tick; end = end.Dropped first }) ds) both.0 ∙ append-nil fates);
    }

-- ---- with partitions

spans_of : (es : List (Entry Settled)) → map (λ (w : Wait). w.spans) (waits es) ≡ map entry_spans es
spans_of [] = refl
spans_of (e ∷ es) = ap (λ rest. e.spans ∷ rest) (spans_of es)

same_filter : (p q : Wait → Bool) → ((w : Wait) → p w ≡ q w) → (ws : List Wait) → filter p ws ≡ filter q ws
same_filter p q same [] = refl
same_filter p q same (w ∷ ws) =
    ap (λ (b : Bool). cond b (w ∷ filter p ws) (filter p ws)) (same w) ∙ ap (λ (vs : List Wait). cond (q w) (w ∷ vs) vs) (same_filter p q same ws)

module _ (t : Topology) (began : List Span) (offers : OfferState) (committed : ℕ) (p q : InFlight Settled) (out : Bool) (exhausted : Option ℕ) where
  abbrev before : Office
  before = office_by t began offers committed p out exhausted

  module _ (first : Root) (some : (offers.partitions == 0) ≡ false) where
    abbrev higher : List (Entry Settled)
    higher = filter (is_above first.txid) p.pending

    ends_now : (w : Wait) → ends_with t before.cut first w ≡ nat_lt first.txid w.root.txid
    ends_now w = ap (λ (b : Bool). not b && nat_lt first.txid w.root.txid) some

    who : filter (ends_with t before.cut first) before.desk.pending ≡ waits higher
    who =
        same_filter (ends_with t before.cut first) (λ (w : Wait). nat_lt first.txid w.root.txid) ends_now before.desk.pending
        ∙ filter-map wait_of (λ (w : Wait). nat_lt first.txid w.root.txid) p.pending

    others : filter (λ (w : Wait). not (ends_with t before.cut first w)) before.desk.pending ≡ waits (filter (λ (e : Entry Settled). not (is_above first.txid e)) p.pending)
    others =
        same_filter (λ (w : Wait). not (ends_with t before.cut first w)) (λ (w : Wait). not (nat_lt first.txid w.root.txid)) (λ w. ap not (ends_now w)) before.desk.pending
        ∙ filter-map wait_of (λ (w : Wait). not (nat_lt first.txid w.root.txid)) p.pending

    pub drops_step : (new : OfferState) (told tells : List Attempt) → q ≡ record p { pending = filter (λ (e : Entry Settled). not (is_above first.txid e)) p.pending }
        → new ≡ with_gone offers (put_back (map entry_spans higher) offers.gone) → tells ≡ told ++ map (entry_ended p.tick (end.Dropped first)) higher
        → DropsAll first before (office_by t began new committed q out exhausted) told tells
    drops_step new told tells is back adds = record {
      office =
          ap₂ (λ r o. office_by t began o committed r out exhausted) is back
          ∙ ap₂ (λ (marks : List Bool) (ws : List Wait). record before { desk = record before.desk { gone = marks; pending = ws } })
          (ap (λ xs. put_back xs offers.gone) (sym (ap (map (λ (w : Wait). w.spans)) who ∙ spans_of higher))) (sym others);
      fates = adds ∙ ap (λ (xs : List Attempt). told ++ xs)
          (late-ends p.tick (end.Dropped first) higher
          ∙ ap (map (λ (w : Wait). record { root = w.root; spans = w.spans; start = w.start; finish = p.tick; end = end.Dropped first })) (sym who));
    }

    -- the same attempts are dropped where memory was wanted
    pub dropped_are : map (entry_ended p.tick (end.Dropped first)) higher ≡ drops t before.cut p.tick first before.desk.pending
    dropped_are =
        late-ends p.tick (end.Dropped first) higher
        ∙ ap (map (λ (w : Wait). record { root = w.root; spans = w.spans; start = w.start; finish = p.tick; end = end.Dropped first })) (sym who)

-- A tick.
use Rattle.std.proofs.Common.{◌≡◌, ℕ, ◌+◌, ◌<◌, ◌≤◌, ◌==◌, not, Bool, true, false, cond, Option, None, Some, List, [], ◌∷◌, ◌++◌, map, filter, refl, sym, ap, subst, ◌∙◌, arith, eq-eqb}
use Rattle.std.specs.Prelude.{is_some}
use Rattle.std.specs.List.{AllByRecursion}
use Rattle.std.proofs.lemmas.Bool.{and_from}
use Rattle.std.proofs.lemmas.List.{append-nil}
use Rattle.attempt_fates.specs.declared.fates.End.TheVariants as end
use Rattle.tuple_account.proofs.counted_items.Each.{each-weaker}
use Rattle.tuple_account.specs.topology_plan.Topology.{Topology}
use Rattle.tuple_account.specs.tree_model.declared.messages.AckMsg.{AckMsg}
use Rattle.commit_turns.specs.declared.wait.Wait.{Wait}
use Rattle.commit_turns.specs.Desks.{is_late, is_timed}
use Rattle.commit_turns.specs.Turns.{last_tick}
use Rattle.taken_records.specs.Cuts.{Cut}
use Rattle.attempt_fates.specs.declared.fates.Attempt.{Attempt}
use Rattle.attempt_fates.specs.declared.fates.End.{End}
use Rattle.attempt_fates.specs.Fates.{is_abort}
use Rattle.commit_turns.specs.Desks.{Desk, ended_at}
use Rattle.commit_turns.specs.Turns.{counted, aborted, has_no_tick, in_time_at, one_tick, returned}
use Rattle.commit_turns.proofs.Aborting.{all_aborted}
use Rattle.commit_turns.proofs.Going.{IsGoing, IsTimely, count_in, going_aborted}
use Rattle.commit_turns.proofs.Holding.{Holds, IsBegun, holds_tick}
use Rattle.commit_turns.proofs.Tallies.{own, tally}

pub no_stop : (t : Topology) (cut : Cut) (d : Desk) → has_no_tick t cut d ≡ false → d.exhausted ≡ None
no_stop t cut d goes = by d.exhausted refl goes
  where
    by : (o : Option ℕ) → d.exhausted ≡ o → cond (is_some o) true (d.tick == last_tick) ≡ false → d.exhausted ≡ None
    by None is on = is
    by (Some txid) is off = absurd (never off)
      where
        never : true ≡ false → ⊥
        never e = cc

module _ (t : Topology) (tick : ℕ) where
  in_time : (w : Wait) → IsTimely t.buckets tick w → is_late t.buckets (tick + 1) w ≡ false → IsTimely t.buckets (tick + 1) w
  in_time w timely early timed = by (w.start + t.buckets == tick + 1) refl
    where
      is : is_timed w ≡ true
      is = ap (λ (o : Option (List AckMsg)). not (is_some o)) timed

      by : (b : Bool) → (w.start + t.buckets == tick + 1) ≡ b → tick + 1 < w.start + t.buckets
      by true on = absurd (never (sym (and_from (is_timed w) (w.start + t.buckets == tick + 1) is on) ∙ early))
        where
          never : true ≡ false → ⊥
          never e = cc
      by false off =
          let less = timely timed in
          let differ : w.start + t.buckets ≡ tick + 1 → ⊥ = (λ same. never (sym (eq-eqb (w.start + t.buckets) (tick + 1) same) ∙ off)) in omega arith
        where
          never : true ≡ false → ⊥
          never e = cc

  pub timely_rest : (ws : List Wait) → AllByRecursion (IsTimely t.buckets tick) ws
      → AllByRecursion (IsTimely t.buckets (tick + 1)) (filter (λ (w : Wait). not (is_late t.buckets (tick + 1) w)) ws)
  timely_rest [] all = tt
  timely_rest (w ∷ ws) all = by (is_late t.buckets (tick + 1) w) refl (timely_rest ws all.1)
    where
      by : (b : Bool) → is_late t.buckets (tick + 1) w ≡ b → AllByRecursion (IsTimely t.buckets (tick + 1)) (filter (λ (v : Wait). not (is_late t.buckets (tick + 1) v)) ws)
          → AllByRecursion (IsTimely t.buckets (tick + 1)) (cond (not b) (w ∷ filter (λ (v : Wait). not (is_late t.buckets (tick + 1) v)) ws) (filter (λ (v : Wait). not (is_late t.buckets (tick + 1) v)) ws))
      by true late rest = rest
      by false early rest = (in_time w all.0 early, rest)

-- ---- the first that passes a test

module _ (p : Wait → Bool) where
  none_pass : (ws : List Wait) → filter p ws ≡ [] → filter (λ (w : Wait). not (p w)) ws ≡ ws
  none_pass [] is = refl
  none_pass (w ∷ ws) is = by (p w) is (none_pass ws)
    where
      by : (b : Bool) → cond b (w ∷ filter p ws) (filter p ws) ≡ [] → (filter p ws ≡ [] → filter (λ (v : Wait). not (p v)) ws ≡ ws)
          → cond (not b) (w ∷ filter (λ (v : Wait). not (p v)) ws) (filter (λ (v : Wait). not (p v)) ws) ≡ w ∷ ws
      by true is rest = absurd (some is)
        where
          some : w ∷ filter p ws ≡ [] → ⊥
          some e = cc
      by false is rest = ap (λ (vs : List Wait). w ∷ vs) (rest is)

  record FirstPass (ws : List Wait) (first : Wait) (others : List Wait) : Type 0 where
    before : List Wait
    behind : List Wait
    split : ws ≡ before ++ first ∷ behind
    rest : filter (λ (w : Wait). not (p w)) ws ≡ before ++ filter (λ (w : Wait). not (p w)) behind

  first_pass : (ws : List Wait) (first : Wait) (others : List Wait) → filter p ws ≡ first ∷ others → FirstPass ws first others
  first_pass [] first others is = absurd (none is)
    where
      none : [] ≡ first ∷ others → ⊥
      none e = cc
  first_pass (w ∷ ws) first others is = by (p w) refl is (first_pass ws first others)
    where
      head : w ∷ filter p ws ≡ first ∷ others → w ≡ first
      head e = cc

      by : (b : Bool) → p w ≡ b → cond b (w ∷ filter p ws) (filter p ws) ≡ first ∷ others → (filter p ws ≡ first ∷ others → FirstPass ws first others) → FirstPass (w ∷ ws) first others
      by true on is rest = record {
        before = [];
        behind = ws;
        split = ap (λ (x : Wait). x ∷ ws) (head is);
        rest = ap (λ (b : Bool). cond (not b) (w ∷ filter (λ (v : Wait). not (p v)) ws) (filter (λ (v : Wait). not (p v)) ws)) on;
      }
      by false off is rest =
          let r = rest is in
          record {
            before = w ∷ r.before;
            behind = r.behind;
            split = ap (λ (xs : List Wait). w ∷ xs) r.split;
            rest = ap (λ (b : Bool). cond (not b) (w ∷ filter (λ (v : Wait). not (p v)) ws) (filter (λ (v : Wait). not (p v)) ws)) off ∙ ap (λ (xs : List Wait). w ∷ xs) r.rest;
          }

  tally_filter : (txid : ℕ) (ws : List Wait) → tally txid (filter p ws) ≤ tally txid ws
  tally_filter txid [] = omega arith
  tally_filter txid (w ∷ ws) = by (p w) (tally_filter txid ws)
    where
      by : (b : Bool) → tally txid (filter p ws) ≤ tally txid ws → tally txid (cond b (w ∷ filter p ws) (filter p ws)) ≤ own txid w.root.txid + tally txid ws
      by true rest = omega arith
      by false rest = omega arith

  each_filter : (Q : Wait → Type 0) (ws : List Wait) → AllByRecursion Q ws → AllByRecursion Q (filter p ws)
  each_filter Q [] all = tt
  each_filter Q (w ∷ ws) all = by (p w) (each_filter Q ws all.1)
    where
      by : (b : Bool) → AllByRecursion Q (filter p ws) → AllByRecursion Q (cond b (w ∷ filter p ws) (filter p ws))
      by true rest = (all.0, rest)
      by false rest = rest

module _ (tick : ℕ) (how : End) where
  count_map : (txid : ℕ) (ws : List Wait) → count_in txid (map (ended_at tick how) ws) ≡ tally txid ws
  count_map txid [] = refl
  count_map txid (w ∷ ws) = ap (λ (k : ℕ). own txid w.root.txid + k) (count_map txid ws)

  aborts_map : is_abort how ≡ true → (ws : List Wait) → AllByRecursion (λ (x : Attempt). is_abort x.end ≡ true) (map (ended_at tick how) ws)
  aborts_map fell [] = tt
  aborts_map fell (w ∷ ws) = (fell, aborts_map fell ws)

  later_map : (committed : ℕ) (ws : List Wait) → AllByRecursion (λ (w : Wait). committed < w.root.txid) ws → AllByRecursion (λ (x : Attempt). committed < x.root.txid) (map (ended_at tick how) ws)
  later_map committed [] all = tt
  later_map committed (w ∷ ws) all = (all.0, later_map committed ws all.1)

-- ---- one tick

module _ (t : Topology) (cut : Cut) (d : Desk) (fates : List Attempt) (going : IsGoing t cut d fates) (none : d.exhausted ≡ None) where
  abbrev late : Wait → Bool
  late = is_late t.buckets (d.tick + 1)

  abbrev on_time : List Wait
  on_time = in_time_at t cut (d.tick + 1) d.pending

  held : Holds t cut (d.tick + 1) d.committed d.tries d.gone d.pending fates
  held = holds_tick t cut d.tick d.committed d.tries d.gone d.pending fates going.holds

  quiet : filter late d.pending ≡ [] → IsGoing t cut (record d { tick = d.tick + 1; pending = on_time }) (fates ++ [])
  quiet is =
      subst (IsGoing t cut (record d { tick = d.tick + 1; pending = on_time })) (sym (append-nil fates))
      (subst (λ (ps : List Wait). IsGoing t cut (record d { tick = d.tick + 1; pending = ps }) fates) (sym (none_pass late d.pending is)) (record {
        holds = held;
        timely = subst (AllByRecursion (IsTimely t.buckets (d.tick + 1))) (none_pass late d.pending is) (timely_rest t d.tick d.pending going.timely);
        follow = going.follow;
        fronts = going.fronts;
        row = going.row;
        few_drops = going.few_drops;
        most = going.most;
        goes_on = going.goes_on;
        ran_out = going.ran_out;
      }))

  module _ (w : Wait) (ws : List Wait) (is : filter late d.pending ≡ w ∷ ws) where
    f : FirstPass late d.pending w ws
    f = first_pass late d.pending w ws is

    abbrev timed_out : Wait → Attempt
    timed_out = ended_at (d.tick + 1) end.TimedOut

    aborted_all : Holds t cut (d.tick + 1) d.committed (counted t cut (timed_out w ∷ map timed_out ws) d.tries) (returned t cut (timed_out w ∷ map timed_out ws) d.gone) on_time (fates ++ timed_out w ∷ map timed_out ws)
    aborted_all =
        subst (λ (xs : List Wait). Holds t cut (d.tick + 1) d.committed (counted t cut (map timed_out xs) d.tries) (returned t cut (map timed_out xs) d.gone) on_time (fates ++ map timed_out xs)) is
        (all_aborted t cut (d.tick + 1) d.committed d.tries d.gone fates late end.TimedOut refl refl (λ v on failed. absurd (never failed)) d.pending held)
      where
        never : false ≡ true → ⊥
        never e = cc

    some_late : IsGoing t cut (aborted t cut (timed_out w ∷ map timed_out ws) (record d { tick = d.tick + 1; pending = on_time })).desk
        (fates ++ (aborted t cut (timed_out w ∷ map timed_out ws) (record d { tick = d.tick + 1; pending = on_time })).ended)
    some_late =
        subst (λ (ps : List Wait). IsGoing t cut (aborted t cut (timed_out w ∷ map timed_out ws) (record d { tick = d.tick + 1; pending = ps })).desk (fates ++ (aborted t cut (timed_out w ∷ map timed_out ws) (record d { tick = d.tick + 1; pending = ps })).ended)) (sym f.rest)
        (going_aborted t cut (record d { tick = d.tick + 1 }) fates held going.follow going.fronts going.row going.few_drops (going.goes_on none) (timed_out w) (map timed_out ws) f.before f.behind (filter (λ (v : Wait). not (late v)) f.behind) w
        f.split refl refl (λ Q all. each_filter (λ (v : Wait). not (late v)) Q f.behind all)
        (aborts_map (d.tick + 1) end.TimedOut refl (w ∷ ws))
        (later_map (d.tick + 1) end.TimedOut d.committed (w ∷ ws) (subst (AllByRecursion (λ (v : Wait). d.committed < v.root.txid)) is
        (each_filter late (λ (v : Wait). d.committed < v.root.txid) d.pending (each-weaker (IsBegun t cut d.tries d.committed d.tick) (λ (v : Wait). d.committed < v.root.txid) (λ v b. b.later) d.pending going.holds.waits))))
        (λ txid. let c = count_map (d.tick + 1) end.TimedOut txid (w ∷ ws) in let s = ap (tally txid) is in let m = tally_filter late txid d.pending in let o = going.holds.one txid in omega (arith, c, s, m, o))
        (subst (λ (ps : List Wait). Holds t cut (d.tick + 1) d.committed (counted t cut (timed_out w ∷ map timed_out ws) d.tries) (returned t cut (timed_out w ∷ map timed_out ws) d.gone) ps (fates ++ timed_out w ∷ map timed_out ws)) f.rest aborted_all)
        (subst (AllByRecursion (IsTimely t.buckets (d.tick + 1))) f.rest (timely_rest t d.tick d.pending going.timely)))

  pub going_tick : IsGoing t cut (one_tick t cut d).desk (fates ++ (one_tick t cut d).ended)
  going_tick = by (filter late d.pending) refl
    where
      by : (xs : List Wait) → filter late d.pending ≡ xs
          → IsGoing t cut (aborted t cut (map (ended_at (d.tick + 1) end.TimedOut) xs) (record d { tick = d.tick + 1; pending = on_time })).desk
          (fates ++ (aborted t cut (map (ended_at (d.tick + 1) end.TimedOut) xs) (record d { tick = d.tick + 1; pending = on_time })).ended)
      by [] is = quiet is
      by (w ∷ ws) is = some_late w ws is

-- Attempts that fall, and those that are dropped with them.
use Rattle.std.proofs.Common.{◌≡◌, inl, inr, ℕ, zero, suc, ◌+◌, ◌<◌, ◌≤◌, ◌==◌, ◌&&◌, not, nat_lt, Bool, true, false, cond, List, [], ◌∷◌, ◌++◌, length, map, filter, refl, sym, ap, subst, ◌∙◌, arith, eq-eqb}
use Rattle.std.specs.Prelude.{IsTrue}
use Rattle.std.specs.List.{AllByRecursion}
use Rattle.std.proofs.lemmas.Bool.{ltb-true}
use Rattle.std.proofs.lemmas.List.{append-nil, append_assoc, length-append, map-append}
use Rattle.std.proofs.lemmas.List.Elements.{All-from_recursion, filter-append}
use Rattle.std.proofs.lemmas.List.Quantifiers.{all_pairs_push}
use Rattle.tuple_account.proofs.counted_items.Each.{each-append, each-weaker}
use Rattle.tuple_account.specs.storm_values.declared.value.Root.{Root}
use Rattle.tuple_account.specs.topology_plan.Topology.{Topology}
use Rattle.record_spans.specs.declared.span.Span.{Span}
use Rattle.taken_records.specs.Taken.{marked, put_back}
use Rattle.commit_turns.specs.declared.wait.Wait.{Wait}
use Rattle.taken_records.specs.Cuts.{Cut}
use Rattle.attempt_fates.specs.declared.fates.Attempt.{Attempt}
use Rattle.attempt_fates.specs.declared.fates.End.{End}
use Rattle.attempt_fates.specs.declared.fates.End.TheVariants as end
use Rattle.attempt_fates.specs.Fates.{AreDroppedApart, DropsFollow, Follows, attempt_numbers, is_abort, is_committed, is_failed_commit}
use Rattle.attempt_fates.specs.Fates.{committed as committed_of}
use Rattle.commit_turns.specs.Desks.{ended_at}
use Rattle.replay_pending.specs.InFlight.{Tries, with_aborted}
use Rattle.commit_turns.specs.Turns.{counted, drops, ends_with, returned}
use Rattle.commit_turns.proofs.Holding.{Holds, holds_drop, holds_abort}
use Rattle.commit_turns.proofs.Lists.{last_or_front, range_place}
use Rattle.commit_turns.proofs.Tallies.{own-itself, tally, tally-split, own-none}
use Rattle.commit_turns.proofs.Telling.{Told}

-- ---- attempts that are removed

module _ (p : Wait → Bool) (f : Wait → Attempt) (P : List Wait → List Attempt → Type 0)
    (step : (before behind : List Wait) (w : Wait) (done : List Attempt) → p w ≡ true → P (before ++ w ∷ behind) done → P (before ++ behind) (done ++ f w ∷ [])) where
  pub removed : (before rest : List Wait) (done : List Attempt) → P (before ++ rest) done → P (before ++ filter (λ (w : Wait). not (p w)) rest) (done ++ map f (filter p rest))
  removed before [] done q = subst (P (before ++ [])) (sym (append-nil done)) q
  removed before (w ∷ rest) done q =
      by (p w) refl (λ r. removed before rest (done ++ f w ∷ []) r) (λ r. removed (before ++ w ∷ []) rest done r)
    where
      by : (b : Bool) → p w ≡ b
          → (P (before ++ rest) (done ++ f w ∷ []) → P (before ++ filter (λ (v : Wait). not (p v)) rest) ((done ++ f w ∷ []) ++ map f (filter p rest)))
          → (P ((before ++ w ∷ []) ++ rest) done → P ((before ++ w ∷ []) ++ filter (λ (v : Wait). not (p v)) rest) (done ++ map f (filter p rest)))
          → P (before ++ cond (not b) (w ∷ filter (λ (v : Wait). not (p v)) rest) (filter (λ (v : Wait). not (p v)) rest)) (done ++ map f (cond b (w ∷ filter p rest) (filter p rest)))
      by true on leaves stays =
          subst (P (before ++ filter (λ (v : Wait). not (p v)) rest)) (append_assoc done (f w ∷ []) (map f (filter p rest))) (leaves (step before rest w done on q))
      by false off leaves stays =
          subst (λ (ws : List Wait). P ws (done ++ map f (filter p rest))) (append_assoc before (w ∷ []) (filter (λ (v : Wait). not (p v)) rest))
          (stays (subst (λ (ws : List Wait). P ws done) (sym (append_assoc before (w ∷ []) rest)) q))

-- ---- counts and records of those that ended

pub back_append : (xs ys : List (List Span)) (gone : List Bool) → put_back (xs ++ ys) gone ≡ put_back ys (put_back xs gone)
back_append [] ys gone = refl
back_append (x ∷ xs) ys gone = back_append xs ys (marked false x gone)

module _ (t : Topology) (cut : Cut) where
  pub counted_push : (done : List Attempt) (a : Attempt) (tries : Tries) → counted t cut (done ++ a ∷ []) tries ≡ with_aborted a.root.txid (counted t cut done tries)
  counted_push [] a tries = refl
  counted_push (x ∷ done) a tries = counted_push done a (with_aborted x.root.txid tries)

  pub returned_append : (xs ys : List Attempt) (gone : List Bool) → returned t cut (xs ++ ys) gone ≡ returned t cut ys (returned t cut xs gone)
  returned_append xs ys gone = ap (λ bs. put_back bs gone) (map-append (λ (a : Attempt). a.spans) xs ys) ∙ back_append (map (λ (a : Attempt). a.spans) xs) (map (λ (a : Attempt). a.spans) ys) gone

  -- ---- those of a test fall

  module _ (tick committed : ℕ) (tries : Tries) (gone : List Bool) (fates : List Attempt) (p : Wait → Bool) (how : End) (is : is_committed how ≡ false) (fell : is_abort how ≡ true)
      (failed : (w : Wait) → p w ≡ true → IsTrue (is_failed_commit how) → w.root.txid ≡ committed + 1) where
    abbrev Fell : List Wait → List Attempt → Type 0
    Fell ws done = Holds t cut tick committed (counted t cut done tries) (returned t cut done gone) ws (fates ++ done)

    falls : (before behind : List Wait) (w : Wait) (done : List Attempt) → p w ≡ true → Fell (before ++ w ∷ behind) done → Fell (before ++ behind) (done ++ ended_at tick how w ∷ [])
    falls before behind w done on h =
        subst (λ x. Holds t cut tick committed x (returned t cut (done ++ ended_at tick how w ∷ []) gone) (before ++ behind) (fates ++ (done ++ ended_at tick how w ∷ []))) (sym (counted_push done (ended_at tick how w) tries))
        (subst (λ x. Holds t cut tick committed (with_aborted w.root.txid (counted t cut done tries)) x (before ++ behind) (fates ++ (done ++ ended_at tick how w ∷ []))) (sym (returned_append done (ended_at tick how w ∷ []) gone))
        (subst (Holds t cut tick committed (with_aborted w.root.txid (counted t cut done tries)) (marked false w.spans (returned t cut done gone)) (before ++ behind)) (append_assoc fates done (ended_at tick how w ∷ []))
        (holds_abort t cut tick committed (counted t cut done tries) (returned t cut done gone) (fates ++ done) before behind w h how is fell (failed w on))))

    pub all_aborted : (pending : List Wait) → Holds t cut tick committed tries gone pending fates
        → Fell (filter (λ (w : Wait). not (p w)) pending) (map (ended_at tick how) (filter p pending))
    all_aborted pending h = removed p (ended_at tick how) Fell falls [] pending [] (subst (Holds t cut tick committed tries gone pending) (sym (append-nil fates)) h)

-- ---- what follows what

pub splits : {X : Type 0} (Q : X → Type 0) (xs : List X) → ((earlier later : List X) (x : X) → xs ≡ earlier ++ x ∷ later → Q x) → AllByRecursion Q xs
splits Q [] each = tt
splits Q (x ∷ xs) each = (each [] xs x refl, splits Q xs (λ earlier later y e. each (x ∷ earlier) later y (ap (λ zs. x ∷ zs) e)))

-- an attempt among those that ended has no number above theirs
pub among_numbers : (cut : Cut) (committed tick : ℕ) (fates : List Attempt) → Told cut committed tick fates → (earlier later : List Attempt) (x : Attempt) → fates ≡ earlier ++ x ∷ later
    → x.root.attempt ≤ length (attempt_numbers x.root.txid fates)
among_numbers cut committed tick fates told earlier later x e =
    let txid = x.root.txid in
    let len = length-append (attempt_numbers txid earlier) (x.root.attempt ∷ attempt_numbers txid later) in
    let place = range_place 1 (length (attempt_numbers txid fates)) (attempt_numbers txid earlier) (attempt_numbers txid later) x.root.attempt (sym (told.numbered txid) ∙ parts) in
    let same = ap length parts in
    omega (arith, len, place, same)
  where
    here : attempt_numbers x.root.txid (x ∷ later) ≡ x.root.attempt ∷ attempt_numbers x.root.txid later
    here = ap (λ (b : Bool). map (λ (a : Attempt). a.root.attempt) (cond b (x ∷ filter (λ (a : Attempt). a.root.txid == x.root.txid) later) (filter (λ (a : Attempt). a.root.txid == x.root.txid) later))) (eq-eqb x.root.txid x.root.txid refl)

    parts : attempt_numbers x.root.txid fates ≡ attempt_numbers x.root.txid earlier ++ x.root.attempt ∷ attempt_numbers x.root.txid later
    parts =
        ap (attempt_numbers x.root.txid) e
        ∙ ap (map (λ (a : Attempt). a.root.attempt)) (filter-append (λ (a : Attempt). a.root.txid == x.root.txid) earlier (x ∷ later))
        ∙ map-append (λ (a : Attempt). a.root.attempt) (filter (λ (a : Attempt). a.root.txid == x.root.txid) earlier) (filter (λ (a : Attempt). a.root.txid == x.root.txid) (x ∷ later))
        ∙ ap (λ ns. attempt_numbers x.root.txid earlier ++ ns) here

module _ (cut : Cut) (fates : List Attempt) (a : Attempt) (follow : DropsFollow cut fates) where
  -- an attempt that is not dropped
  pub follow_plain : ((by : Root) → a.end ≡ end.Dropped by → ⊥) → DropsFollow cut (fates ++ a ∷ [])
  follow_plain plain = record {
    partitions = λ earlier later x by e is. elim (last_or_front fates earlier later a x e) [
      | inl front ↦ follow.partitions earlier front.0 x by front.1 is
      | inr last ↦ absurd (plain by (ap (λ (y : Attempt). y.end) last.1 ∙ is))
    ];
    follows = λ earlier later x by e is. elim (last_or_front fates earlier later a x e) [
      | inl front ↦ follow.follows earlier front.0 x by front.1 is
      | inr last ↦ absurd (plain by (ap (λ (y : Attempt). y.end) last.1 ∙ is))
    ];
    apart = all_pairs_push AreDroppedApart fates a follow.apart (λ k d less by x_is a_is. absurd (plain by a_is));
  }

  -- one that is dropped
  pub follow_drop : (by : Root) → a.end ≡ end.Dropped by → 0 < cut.partitions → Follows fates a by → AllByRecursion (λ (x : Attempt). AreDroppedApart x a) fates → DropsFollow cut (fates ++ a ∷ [])
  follow_drop by how some follows apart = record {
    partitions = λ earlier later x other e is. some;
    follows = λ earlier later x other e is. elim (last_or_front fates earlier later a x e) [
      | inl front ↦ follow.follows earlier front.0 x other front.1 is
      | inr last ↦ last_one earlier x other last.0 last.1 is
    ];
    apart = all_pairs_push AreDroppedApart fates a follow.apart (λ k d less. All-from_recursion (λ (x : Attempt). AreDroppedApart x a) fates apart k d less);
  }
    where
      same_root : (other : Root) → end.Dropped by ≡ end.Dropped other → by ≡ other
      same_root other e = cc

      last_one : (earlier : List Attempt) (x : Attempt) (other : Root) → fates ≡ earlier → a ≡ x → x.end ≡ end.Dropped other → Follows earlier x other
      last_one earlier x other same_fates same is =
          subst (λ (fs : List Attempt). Follows fs x other) same_fates
          (subst (λ (y : Attempt). Follows fates y other) same
          (subst (Follows fates a) (same_root other (sym how ∙ ap (λ (y : Attempt). y.end) same ∙ is)) follows))

-- those that end with another are of a greater transaction
pub ends_above : (t : Topology) (cut : Cut) (first : Attempt) (w : Wait) → ends_with t cut first.root w ≡ true → (0 < cut.partitions) × (first.root.txid < w.root.txid)
ends_above t cut first w on = by (cut.partitions == 0) refl (nat_lt first.root.txid w.root.txid) refl on
  where
    never : false ≡ true → ⊥
    never e = cc

    by : (b : Bool) → (cut.partitions == 0) ≡ b → (c : Bool) → nat_lt first.root.txid w.root.txid ≡ c → (not b && c) ≡ true → (0 < cut.partitions) × (first.root.txid < w.root.txid)
    by true none c is e = absurd (never e)
    by false some false is e = absurd (never e)
    by false some true is e = (positive cut.partitions some, ltb-true first.root.txid w.root.txid is)
      where
        positive : (n : ℕ) → (n == 0) ≡ false → 0 < n
        positive zero off = absurd (zero_is off)
          where
            zero_is : (0 == 0) ≡ false → ⊥
            zero_is e = cc
        positive (suc n) off = omega arith

-- ---- attempts are dropped with the first that fell

module _ (t : Topology) (cut : Cut) (tick committed : ℕ) (tries : Tries) (gone : List Bool) (fates : List Attempt) (first : Attempt) (fell : List Attempt) where
  abbrev pub fates_aborted : List Attempt
  fates_aborted = fates ++ first ∷ fell

  abbrev pub dropped_at : Wait → Attempt
  dropped_at = ended_at tick (end.Dropped first.root)

  pub record Dropping (ws : List Wait) (done : List Attempt) : Type 0 where
    pub holds : Holds t cut tick committed tries (returned t cut done gone) ws (fates_aborted ++ done)
    pub follow : DropsFollow cut (fates_aborted ++ done)
    pub none : committed_of done ≡ []
    pub left : AllByRecursion (λ (x : Attempt). tally x.root.txid ws ≡ 0) done

  module _ (told : Told cut committed tick fates) (earlier_follow : DropsFollow cut fates) (next : first.root.attempt ≡ length (attempt_numbers first.root.txid fates) + 1) (aborts_first : is_abort first.end ≡ true)
      (now : first.finish ≡ tick) (all_aborts : AllByRecursion (λ (x : Attempt). is_abort x.end ≡ true) fell) (none_aborted : committed_of fell ≡ []) where
    -- none of those before was dropped with it
    apart_before : (w : Wait) → AllByRecursion (λ (x : Attempt). AreDroppedApart x (dropped_at w)) fates
    apart_before w = splits (λ (x : Attempt). AreDroppedApart x (dropped_at w)) fates each
      where
        same_root : (by other : Root) → end.Dropped other ≡ end.Dropped by → other ≡ by
        same_root by other e = cc

        each : (earlier later : List Attempt) (x : Attempt) → fates ≡ earlier ++ x ∷ later → AreDroppedApart x (dropped_at w)
        each earlier later x e by x_is a_is same =
            let f = earlier_follow.follows earlier later x by e x_is in
            let at : fates ≡ f.before ++ f.other ∷ (f.between ++ x ∷ later) = e ∙ ap (λ (xs : List Attempt). xs ++ x ∷ later) f.split ∙ append_assoc f.before (f.other ∷ f.between) (x ∷ later) in
            let few = among_numbers cut committed tick fates told f.before (f.between ++ x ∷ later) f.other at in
            let root : f.other.root ≡ first.root = f.root ∙ sym (same_root by first.root a_is) in
            let one : f.other.root.attempt ≡ first.root.attempt = ap (λ (r : Root). r.attempt) root in
            let count : length (attempt_numbers f.other.root.txid fates) ≡ length (attempt_numbers first.root.txid fates) = ap (λ (r : Root). length (attempt_numbers r.txid fates)) root in
            omega (arith, few, one, count, next)

    apart_aborts : (w : Wait) (xs : List Attempt) → AllByRecursion (λ (x : Attempt). is_abort x.end ≡ true) xs → AllByRecursion (λ (x : Attempt). AreDroppedApart x (dropped_at w)) xs
    apart_aborts w xs all = each-weaker (λ (x : Attempt). is_abort x.end ≡ true) (λ (x : Attempt). AreDroppedApart x (dropped_at w)) (λ x fall by x_is a_is same. never (sym fall ∙ ap is_abort x_is)) xs all
      where
        never : true ≡ false → ⊥
        never e = cc

    apart_done : (before behind : List Wait) (w : Wait) (done : List Attempt) → AllByRecursion (λ (x : Attempt). tally x.root.txid (before ++ w ∷ behind) ≡ 0) done
        → AllByRecursion (λ (x : Attempt). AreDroppedApart x (dropped_at w)) done
    apart_done before behind w done left =
        each-weaker (λ (x : Attempt). tally x.root.txid (before ++ w ∷ behind) ≡ 0) (λ (x : Attempt). AreDroppedApart x (dropped_at w))
        (λ x none by x_is a_is same. own-none x.root.txid w.root.txid (let s = tally-split x.root.txid before behind w in omega (arith, none, s)) (sym same)) done left

    none_push : (done : List Attempt) (w : Wait) → committed_of done ≡ [] → committed_of (done ++ dropped_at w ∷ []) ≡ []
    none_push done w none = filter-append (λ (x : Attempt). is_committed x.end) done (dropped_at w ∷ []) ∙ append-nil (committed_of done) ∙ none

    none_between : (done : List Attempt) → committed_of done ≡ [] → committed_of (fell ++ done) ≡ []
    none_between done none = filter-append (λ (x : Attempt). is_committed x.end) fell done ∙ ap (λ (xs : List Attempt). xs ++ committed_of done) none_aborted ∙ none

    follows_first : (w : Wait) (done : List Attempt) → committed_of done ≡ [] → first.root.txid < w.root.txid → Follows (fates_aborted ++ done) (dropped_at w) first.root
    follows_first w done none lower = record {
      before = fates;
      other = first;
      between = fell ++ done;
      split = append_assoc fates (first ∷ fell) done;
      root = refl;
      aborts = aborts_first;
      lower = lower;
      finish = now;
      none_between = none_between done none;
    }

    drops_one : (before behind : List Wait) (w : Wait) (done : List Attempt) → ends_with t cut first.root w ≡ true → Dropping (before ++ w ∷ behind) done → Dropping (before ++ behind) (done ++ dropped_at w ∷ [])
    drops_one before behind w done on d =
        let above = ends_above t cut first w on in
        record {
          holds = subst (λ x. Holds t cut tick committed tries x (before ++ behind) (fates_aborted ++ (done ++ dropped_at w ∷ []))) (sym (returned_append t cut done (dropped_at w ∷ []) gone))
              (subst (Holds t cut tick committed tries (marked false w.spans (returned t cut done gone)) (before ++ behind)) (append_assoc fates_aborted done (dropped_at w ∷ []))
              (holds_drop t cut tick committed tries (returned t cut done gone) (fates_aborted ++ done) before behind w d.holds (end.Dropped first.root) refl refl (λ failed. never failed)));
          follow = subst (DropsFollow cut) (append_assoc fates_aborted done (dropped_at w ∷ []))
              (follow_drop cut (fates_aborted ++ done) (dropped_at w) d.follow first.root refl above.0 (follows_first w done d.none above.1)
              (each-append (λ (x : Attempt). AreDroppedApart x (dropped_at w)) fates_aborted done
              (each-append (λ (x : Attempt). AreDroppedApart x (dropped_at w)) fates (first ∷ fell) (apart_before w) (apart_aborts w (first ∷ fell) (aborts_first, all_aborts)))
              (apart_done before behind w done d.left)));
          none = none_push done w d.none;
          left = each-append (λ (x : Attempt). tally x.root.txid (before ++ behind) ≡ 0) done (dropped_at w ∷ [])
              (each-weaker (λ (x : Attempt). tally x.root.txid (before ++ w ∷ behind) ≡ 0) (λ (x : Attempt). tally x.root.txid (before ++ behind) ≡ 0)
              (λ x none. let s = tally-split x.root.txid before behind w in omega (arith, none, s)) done d.left)
              ((let s = tally-split w.root.txid before behind w in let o = d.holds.one w.root.txid in let i = own-itself w.root.txid w.root.txid refl in omega (arith, s, o, i)), tt);
        }
      where
        never : false ≡ true → ⊥
        never e = cc

    pub all_dropped : (pending : List Wait) → Holds t cut tick committed tries gone pending fates_aborted → DropsFollow cut fates_aborted
        → Dropping (filter (λ (w : Wait). not (ends_with t cut first.root w)) pending) (drops t cut tick first.root pending)
    all_dropped pending h follow =
        removed (ends_with t cut first.root) dropped_at Dropping drops_one [] pending []
        (record {
          holds = subst (Holds t cut tick committed tries gone pending) (sym (append-nil fates_aborted)) h;
          follow = subst (DropsFollow cut) (sym (append-nil fates_aborted)) follow;
          none = refl;
          left = tt;
        })

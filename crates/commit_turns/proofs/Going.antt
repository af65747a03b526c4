-- Between the steps of a turn.
use Rattle.std.proofs.Common.{◌≡◌, ◌⊎◌, inl, inr, ℕ, zero, suc, ◌+◌, ◌<◌, ◌≤◌, ◌==◌, ◌&&◌, not, nat_lt, Bool, true, false, cond, Option, None, Some, List, [], ◌∷◌, ◌++◌, length, map, filter, refl, sym, ap, subst, ◌∙◌, arith}
use Rattle.std.specs.List.{AllByRecursion}
use Rattle.std.proofs.lemmas.Bool.{ltb-false, ltb-true, lt-ltb, le-ltb, cases_eq}
use Rattle.std.proofs.lemmas.Bool.Decides.{nat_tests}
use Rattle.std.proofs.lemmas.List.{append-nil, append_assoc, map-append}
use Rattle.std.proofs.lemmas.List.Elements.{filter-append}
use Rattle.tuple_account.proofs.counted_items.Each.{each-weaker}
use Rattle.tuple_account.specs.counted_items.Weights.{weigh}
use Rattle.tuple_account.specs.storm_values.Lines.{first_some}
use Rattle.tuple_account.specs.topology_plan.Topology.{Topology}
use Rattle.record_offers.specs.Offers.{is_gone}
use Rattle.taken_records.specs.Taken.{StayFronts}
use Rattle.taken_records.proofs.Fronting.{stay_before}
use Rattle.commit_turns.specs.declared.wait.Wait.{Wait}
use Rattle.taken_records.specs.Cuts.{Cut}
use Rattle.attempt_fates.specs.declared.fates.Attempt.{Attempt}
use Rattle.attempt_fates.specs.Fates.{DropsFollow, aborts_of, attempt_numbers, committed_batches, drops_of, is_abort, is_committed, is_dropped, is_near, near_aborts}
use Rattle.attempt_fates.specs.Fates.{committed as committed_of}
use Rattle.commit_turns.specs.Desks.{Desk}
use Rattle.replay_pending.specs.InFlight.{Tries, tried, with_aborted}
use Rattle.commit_turns.specs.Kept.{AreInRow, batches_taken}
use Rattle.commit_turns.specs.Turns.{counted, drops, ends_with, aborted, last_try, returned}
use Rattle.commit_turns.proofs.Ends.{not_committed}
use Rattle.commit_turns.proofs.Dropping.{count_append, count_cons, count_dropped, aborts_dropped, near_one, tally_has}
use Rattle.commit_turns.proofs.Aborting.{Dropping, all_dropped, ends_above, follow_plain, returned_append}
use Rattle.commit_turns.proofs.Holding.{Holds, IsBegun, next, spans_of}
use Rattle.commit_turns.proofs.Rows.{row_at, row_before, row_behind, row_least, row_most}
use Rattle.commit_turns.proofs.Tallies.{own, own-other, tally}
use Rattle.commit_turns.proofs.Tallying.{aborted-aborted}

-- a timed attempt is not late
abbrev pub IsTimely : ℕ → ℕ → Wait → Type 0
IsTimely buckets tick w = w.settled ≡ None → tick < w.start + buckets

pub record IsGoing (t : Topology) (cut : Cut) (d : Desk) (fates : List Attempt) : Type 0 where
  pub holds : Holds t cut d.tick d.committed d.tries d.gone d.pending fates
  pub timely : AllByRecursion (IsTimely t.buckets d.tick) d.pending
  pub follow : DropsFollow cut fates
  pub fronts : 0 < cut.partitions → StayFronts cut.partitions (length cut.gone) (is_gone cut.gone) (batches_taken d fates)
  pub row : 0 < cut.partitions → AreInRow (d.committed + 1) d.pending
  pub few_drops : (txid : ℕ) → drops_of txid fates ≤ near_aborts t.pending txid fates
  pub most : (txid : ℕ) → aborts_of txid fates ≤ t.attempts
  pub goes_on : d.exhausted ≡ None → (txid : ℕ) → aborts_of txid fates < t.attempts
  pub ran_out : (txid : ℕ) → d.exhausted ≡ Some txid → (aborts_of txid fates ≡ t.attempts) × (d.committed < txid)

some_none : {X : Type 0} (x : X) → Some x ≡ None → ⊥
some_none x e = cc

none_some : {X : Type 0} (x : X) → None ≡ Some x → ⊥
none_some x e = cc

same_some : {X : Type 0} (x y : X) → Some x ≡ Some y → x ≡ y
same_some x y e = cc

-- ---- the first of some

pub none_first : (f : Attempt → Option ℕ) (xs : List Attempt) → first_some (map f xs) ≡ None → AllByRecursion (λ (x : Attempt). f x ≡ None) xs
none_first f [] is = tt
none_first f (x ∷ xs) is = by (f x) refl (none_first f xs) is
  where
    by : (o : Option ℕ) → f x ≡ o → (first_some (map f xs) ≡ None → AllByRecursion (λ (y : Attempt). f y ≡ None) xs) → first_some (o ∷ map f xs) ≡ None
        → AllByRecursion (λ (y : Attempt). f y ≡ None) (x ∷ xs)
    by None none rest is = (none, rest is)
    by (Some k) some rest is = absurd (some_none k is)

pub some_first : (Q : Attempt → Type 0) (f : Attempt → Option ℕ) (xs : List Attempt) (k : ℕ) → AllByRecursion Q xs → first_some (map f xs) ≡ Some k → (x : Attempt) × Q x × (f x ≡ Some k)
some_first Q f [] k all is = absurd (none_some k is)
some_first Q f (x ∷ xs) k all is = by (f x) refl (some_first Q f xs k all.1) is
  where
    by : (o : Option ℕ) → f x ≡ o → (first_some (map f xs) ≡ Some k → (y : Attempt) × Q y × (f y ≡ Some k)) → first_some (o ∷ map f xs) ≡ Some k → (y : Attempt) × Q y × (f y ≡ Some k)
    by None none rest is = rest is
    by (Some j) some rest is = (x, all.0, some ∙ is)

-- ---- counts

-- how many of them are of a transaction
abbrev pub count_in : ℕ → List Attempt → ℕ
count_in txid xs = weigh (λ (a : Attempt). own txid a.root.txid) xs

module _ (t : Topology) (cut : Cut) where
  pub counted_aborted : (xs : List Attempt) (tries : Tries) (txid : ℕ) → (tried txid (counted t cut xs tries)).aborted ≡ (tried txid tries).aborted + count_in txid xs
  counted_aborted [] tries txid = omega arith
  counted_aborted (a ∷ xs) tries txid =
      let rest = counted_aborted xs (with_aborted a.root.txid tries) txid in
      let one = aborted-aborted tries a.root.txid txid in omega arith

  last_none : (tries : Tries) (a : Attempt) → last_try t cut tries a ≡ None → (tried a.root.txid tries).aborted < t.attempts
  last_none tries a is = by (nat_lt (tried a.root.txid tries).aborted t.attempts) refl is
    where
      by : (b : Bool) → nat_lt (tried a.root.txid tries).aborted t.attempts ≡ b → cond b None (Some a.root.txid) ≡ None → (tried a.root.txid tries).aborted < t.attempts
      by true on e = ltb-true (tried a.root.txid tries).aborted t.attempts on
      by false off e = absurd (some_none a.root.txid e)

  last_some : (tries : Tries) (a : Attempt) (txid : ℕ) → last_try t cut tries a ≡ Some txid → (a.root.txid ≡ txid) × (t.attempts ≤ (tried a.root.txid tries).aborted)
  last_some tries a txid is = by (nat_lt (tried a.root.txid tries).aborted t.attempts) refl is
    where
      by : (b : Bool) → nat_lt (tried a.root.txid tries).aborted t.attempts ≡ b → cond b None (Some a.root.txid) ≡ Some txid → (a.root.txid ≡ txid) × (t.attempts ≤ (tried a.root.txid tries).aborted)
      by true on e = absurd (none_some txid e)
      by false off e = (same_some a.root.txid txid e, ltb-false (tried a.root.txid tries).aborted t.attempts off)

  few_or_none : (tries : Tries) (xs : List Attempt) (txid : ℕ) → AllByRecursion (λ (a : Attempt). (tried a.root.txid tries).aborted < t.attempts) xs
      → (count_in txid xs ≡ 0) ⊎ ((tried txid tries).aborted < t.attempts)
  few_or_none tries [] txid all = inl refl
  few_or_none tries (a ∷ xs) txid all =
      elim (cases_eq a.root.txid txid) [
        | inl on ↦ inr (subst (λ (k : ℕ). (tried k tries).aborted < t.attempts) on all.0)
        | inr off ↦
            elim (few_or_none tries xs txid all.1) [
              | inl none ↦ inl (let o = own-other txid a.root.txid off in omega arith)
              | inr few ↦ inr few
            ]
      ]

-- ---- attempts that fell are not committed and not dropped

pub none_committed : (xs : List Attempt) → AllByRecursion (λ (x : Attempt). is_abort x.end ≡ true) xs → committed_of xs ≡ []
none_committed [] all = refl
none_committed (x ∷ xs) all = ap (λ (b : Bool). cond b (x ∷ committed_of xs) (committed_of xs)) (not_committed x.end all.0) ∙ none_committed xs all.1

pub follow_aborts : (cut : Cut) (fates xs : List Attempt) → AllByRecursion (λ (x : Attempt). is_abort x.end ≡ true) xs → DropsFollow cut fates → DropsFollow cut (fates ++ xs)
follow_aborts cut fates [] all follow = subst (DropsFollow cut) (sym (append-nil fates)) follow
follow_aborts cut fates (x ∷ xs) all follow =
    subst (DropsFollow cut) (append_assoc fates (x ∷ []) xs)
    (follow_aborts cut (fates ++ x ∷ []) xs all.1 (follow_plain cut fates x follow (λ by is. never (sym all.0 ∙ ap is_abort is))))
  where
    never : true ≡ false → ⊥
    never e = cc

pub committed_append : (xs ys : List Attempt) → committed_of (xs ++ ys) ≡ committed_of xs ++ committed_of ys
committed_append xs ys = filter-append (λ (x : Attempt). is_committed x.end) xs ys

pub same_batches : (fates more : List Attempt) → committed_of more ≡ [] → committed_batches (fates ++ more) ≡ committed_batches fates
same_batches fates more none =
    ap (map (λ (a : Attempt). a.spans)) (committed_append fates more ∙ ap (λ (xs : List Attempt). committed_of fates ++ xs) none ∙ append-nil (committed_of fates))

-- ---- what stays where those end that end with the first

module _ (t : Topology) (cut : Cut) (first : Attempt) (some : 0 < cut.partitions) where
  with_partitions : (cut.partitions == 0) ≡ false
  with_partitions = by cut.partitions some
    where
      by : (n : ℕ) → 0 < n → (n == 0) ≡ false
      by zero less = absurd (omega arith)
      by (suc n) less = none n
        where
          none : (m : ℕ) → (suc m == 0) ≡ false
          none m = grind (arith, nat_tests)

  keeps_lower : (ws : List Wait) → AllByRecursion (λ (w : Wait). w.root.txid < first.root.txid) ws → filter (λ (w : Wait). not (ends_with t cut first.root w)) ws ≡ ws
  keeps_lower [] all = refl
  keeps_lower (w ∷ ws) all =
      let off : nat_lt first.root.txid w.root.txid ≡ false = le-ltb first.root.txid w.root.txid (let l = all.0 in omega arith) in
      let none : ends_with t cut first.root w ≡ false = rw (with_partitions, off) refl in
      ap (λ (b : Bool). cond (not b) (w ∷ filter (λ (v : Wait). not (ends_with t cut first.root v)) ws) (filter (λ (v : Wait). not (ends_with t cut first.root v)) ws)) none
      ∙ ap (λ (vs : List Wait). w ∷ vs) (keeps_lower ws all.1)

  drops_higher : (ws : List Wait) → AllByRecursion (λ (w : Wait). first.root.txid < w.root.txid) ws → filter (λ (w : Wait). not (ends_with t cut first.root w)) ws ≡ []
  drops_higher [] all = refl
  drops_higher (w ∷ ws) all =
      let on : nat_lt first.root.txid w.root.txid ≡ true = lt-ltb first.root.txid w.root.txid all.0 in
      let is : ends_with t cut first.root w ≡ true = rw (with_partitions, on) refl in
      ap (λ (b : Bool). cond (not b) (w ∷ filter (λ (v : Wait). not (ends_with t cut first.root v)) ws) (filter (λ (v : Wait). not (ends_with t cut first.root v)) ws)) is
      ∙ drops_higher ws all.1

  pub stay_before_first : (before rest : List Wait) → AllByRecursion (λ (w : Wait). w.root.txid < first.root.txid) before → AllByRecursion (λ (w : Wait). first.root.txid < w.root.txid) rest
      → filter (λ (w : Wait). not (ends_with t cut first.root w)) (before ++ rest) ≡ before
  stay_before_first before rest lower higher =
      filter-append (λ (w : Wait). not (ends_with t cut first.root w)) before rest
      ∙ ap (λ (ws : List Wait). ws ++ filter (λ (w : Wait). not (ends_with t cut first.root w)) rest) (keeps_lower before lower)
      ∙ ap (λ (ws : List Wait). before ++ ws) (drops_higher rest higher) ∙ append-nil before

-- ---- attempts fell, and others are dropped with them

module _ (t : Topology) (cut : Cut) (d : Desk) (fates : List Attempt) (h : Holds t cut d.tick d.committed d.tries d.gone d.pending fates) (follow : DropsFollow cut fates)
    (fronts : 0 < cut.partitions → StayFronts cut.partitions (length cut.gone) (is_gone cut.gone) (batches_taken d fates)) (row : 0 < cut.partitions → AreInRow (d.committed + 1) d.pending)
    (few_before : (txid : ℕ) → drops_of txid fates ≤ near_aborts t.pending txid fates) (goes : (txid : ℕ) → aborts_of txid fates < t.attempts)
    (first : Attempt) (fell : List Attempt) (before behind rest : List Wait) (w : Wait) (split : d.pending ≡ before ++ w ∷ behind) (root : first.root ≡ w.root) (now : first.finish ≡ d.tick)
    (of_rest : (Q : Wait → Type 0) → AllByRecursion Q behind → AllByRecursion Q rest)
    (falls : AllByRecursion (λ (x : Attempt). is_abort x.end ≡ true) (first ∷ fell)) (later : AllByRecursion (λ (x : Attempt). d.committed < x.root.txid) (first ∷ fell))
    (once : (txid : ℕ) → count_in txid (first ∷ fell) ≤ 1)
    (left : Holds t cut d.tick d.committed (counted t cut (first ∷ fell) d.tries) (returned t cut (first ∷ fell) d.gone) (before ++ rest) (fates ++ first ∷ fell))
    (timely : AllByRecursion (IsTimely t.buckets d.tick) (before ++ rest)) where
  abbrev down : List Attempt
  down = drops t cut d.tick first.root (before ++ rest)

  abbrev ended_all : List Attempt
  ended_all = first ∷ fell ++ down

  abbrev tries_after : Tries
  tries_after = counted t cut (first ∷ fell) d.tries

  abbrev stays : List Wait
  stays = filter (λ (v : Wait). not (ends_with t cut first.root v)) (before ++ rest)

  split_holds : Holds t cut d.tick d.committed d.tries d.gone (before ++ w ∷ behind) fates
  split_holds = subst (λ (ws : List Wait). Holds t cut d.tick d.committed d.tries d.gone ws fates) split h

  first_next : first.root.attempt ≡ length (attempt_numbers first.root.txid fates) + 1
  first_next =
      ap (λ r. r.attempt) root ∙ next t cut d.tick d.committed d.tries d.gone fates before behind w split_holds
      ∙ ap (λ r. length (attempt_numbers r.txid fates) + 1) (sym root)

  after : Dropping t cut d.tick d.committed tries_after (returned t cut (first ∷ fell) d.gone) fates first fell stays down
  after =
      all_dropped t cut d.tick d.committed tries_after (returned t cut (first ∷ fell) d.gone) fates first fell h.told follow first_next falls.0 now falls.1 (none_committed fell falls.1)
      (before ++ rest) left (follow_aborts cut fates (first ∷ fell) falls follow)

  joined : (fates ++ first ∷ fell) ++ down ≡ fates ++ ended_all
  joined = append_assoc fates (first ∷ fell) down

  holds_after : Holds t cut d.tick d.committed tries_after (returned t cut ended_all d.gone) stays (fates ++ ended_all)
  holds_after =
      subst (λ x. Holds t cut d.tick d.committed tries_after x stays (fates ++ ended_all)) (sym (returned_append t cut (first ∷ fell) down d.gone))
      (subst (Holds t cut d.tick d.committed tries_after (returned t cut down (returned t cut (first ∷ fell) d.gone)) stays) joined after.holds)

  -- how many attempts of a transaction fell
  aborted_by : (txid : ℕ) → aborts_of txid (fates ++ ended_all) ≡ aborts_of txid fates + count_in txid (first ∷ fell)
  aborted_by txid =
      let a = holds_after.aborted txid in
      let b = counted_aborted t cut (first ∷ fell) d.tries txid in
      let c = h.aborted txid in omega arith

  goes_after : first_some (map (last_try t cut tries_after) (first ∷ fell)) ≡ None → (txid : ℕ) → aborts_of txid (fates ++ ended_all) < t.attempts
  goes_after none txid =
      let each = each-weaker (λ (x : Attempt). last_try t cut tries_after x ≡ None) (λ (x : Attempt). (tried x.root.txid tries_after).aborted < t.attempts) (last_none t cut tries_after) (first ∷ fell)
      (none_first (last_try t cut tries_after) (first ∷ fell) none) in
      let g = goes txid in
      let f = aborted_by txid in
      let a = holds_after.aborted txid in
      elim (few_or_none t cut tries_after (first ∷ fell) txid each) [
        | inl zero_of ↦ omega (arith, g, f, zero_of)
        | inr few ↦ omega (arith, a, few)
      ]

  ran_after : (txid : ℕ) → first_some (map (last_try t cut tries_after) (first ∷ fell)) ≡ Some txid → (aborts_of txid (fates ++ ended_all) ≡ t.attempts) × (d.committed < txid)
  ran_after txid is =
      let one = some_first (λ (x : Attempt). d.committed < x.root.txid) (last_try t cut tries_after) (first ∷ fell) txid later is in
      let last = last_some t cut tries_after one.0 txid one.2 in
      let enough : t.attempts ≤ (tried txid tries_after).aborted = subst (λ (k : ℕ). t.attempts ≤ (tried k tries_after).aborted) last.0 last.1 in
      let a = holds_after.aborted txid in
      let f = aborted_by txid in
      let o = once txid in
      let g = goes txid in
      (omega (arith, enough, a, f, o, g), subst (λ (k : ℕ). d.committed < k) last.0 one.1)

  -- ---- with partitions those stay that were before the first

  module _ (partitions : 0 < cut.partitions) where
    split_row : AreInRow (d.committed + 1) (before ++ w ∷ behind)
    split_row = subst (AreInRow (d.committed + 1)) split (row partitions)

    place : first.root.txid ≡ d.committed + 1 + length before
    place = ap (λ r. r.txid) root ∙ row_at (d.committed + 1) before behind w split_row

    lower : AllByRecursion (λ (v : Wait). v.root.txid < first.root.txid) before
    lower = subst (λ (k : ℕ). AllByRecursion (λ (v : Wait). v.root.txid < k) before) (sym place) (row_most (d.committed + 1) before (row_before (d.committed + 1) before (w ∷ behind) split_row))

    higher : AllByRecursion (λ (v : Wait). first.root.txid < v.root.txid) behind
    higher =
        each-weaker (λ (v : Wait). d.committed + 1 + length before + 1 ≤ v.root.txid) (λ (v : Wait). first.root.txid < v.root.txid) (λ v up. omega (arith, up, place)) behind
        (row_least (d.committed + 1 + length before + 1) behind (row_behind (d.committed + 1) before (w ∷ behind) split_row).1)

    those_before : stays ≡ before
    those_before = stay_before_first t cut first partitions before rest lower (of_rest (λ (v : Wait). first.root.txid < v.root.txid) higher)

    row_after : AreInRow (d.committed + 1) stays
    row_after = subst (AreInRow (d.committed + 1)) (sym those_before) (row_before (d.committed + 1) before (w ∷ behind) split_row)

    batches_after : committed_batches fates ++ map spans_of before ≡ committed_batches (fates ++ ended_all) ++ map spans_of stays
    batches_after =
        ap (λ xs. xs ++ map spans_of before) (sym (same_batches fates ended_all (committed_append (first ∷ fell) down ∙ ap (λ xs. xs ++ committed_of down) (none_committed (first ∷ fell) falls) ∙ after.none)))
        ∙ ap (λ ws. committed_batches (fates ++ ended_all) ++ map spans_of ws) (sym those_before)

    batches_split : batches_taken d fates ≡ (committed_batches fates ++ map spans_of before) ++ map spans_of (w ∷ behind)
    batches_split =
        ap (λ ws. committed_batches fates ++ map spans_of ws) split ∙ ap (λ xs. committed_batches fates ++ xs) (map-append spans_of before (w ∷ behind))
        ∙ sym (append_assoc (committed_batches fates) (map spans_of before) (map spans_of (w ∷ behind)))

    fronts_after : StayFronts cut.partitions (length cut.gone) (is_gone cut.gone) (committed_batches (fates ++ ended_all) ++ map spans_of stays)
    fronts_after =
        subst (StayFronts cut.partitions (length cut.gone) (is_gone cut.gone)) batches_after
        (stay_before cut.partitions (length cut.gone) (is_gone cut.gone) (committed_batches fates ++ map spans_of before) (map spans_of (w ∷ behind))
        (subst (StayFronts cut.partitions (length cut.gone) (is_gone cut.gone)) batches_split (fronts partitions)))

  -- how often one is dropped
  drops_after : (txid : ℕ) → drops_of txid (fates ++ ended_all) ≡ drops_of txid fates + tally txid (filter (ends_with t cut first.root) (before ++ rest))
  drops_after txid =
      let p = λ (a : Attempt). (a.root.txid == txid) && is_dropped a.end in
      let a = count_append p fates ended_all in
      let b = count_append p (first ∷ fell) down in
      let c = aborts_dropped txid (first ∷ fell) falls in
      let e = count_dropped d.tick txid first.root (filter (ends_with t cut first.root) (before ++ rest)) in
      omega (arith, a, b, c, e)

  near_after : (txid : ℕ) → near_aborts t.pending txid fates + cond {A = ℕ} (is_near t.pending txid first.root.txid && is_abort first.end) 1 0 ≤ near_aborts t.pending txid (fates ++ ended_all)
  near_after txid =
      let p = λ (a : Attempt). is_near t.pending txid a.root.txid && is_abort a.end in
      let a = count_append p fates ended_all in
      let b = count_cons p first (fell ++ down) in
      omega (arith, a, b)

  -- those that are dropped are near
  near_ones : (ws : List Wait) → AllByRecursion (IsBegun t cut tries_after d.committed d.tick) ws
      → AllByRecursion (λ (v : Wait). (first.root.txid < v.root.txid) × (v.root.txid < first.root.txid + t.pending)) (filter (ends_with t cut first.root) ws)
  near_ones [] all = tt
  near_ones (v ∷ ws) all = by (ends_with t cut first.root v) refl (near_ones ws all.1)
    where
      by : (b : Bool) → ends_with t cut first.root v ≡ b → AllByRecursion (λ (x : Wait). (first.root.txid < x.root.txid) × (x.root.txid < first.root.txid + t.pending)) (filter (ends_with t cut first.root) ws)
          → AllByRecursion (λ (x : Wait). (first.root.txid < x.root.txid) × (x.root.txid < first.root.txid + t.pending)) (cond b (v ∷ filter (ends_with t cut first.root) ws) (filter (ends_with t cut first.root) ws))
      by true on more =
          let up = (ends_above t cut first v on).1 in
          let near = all.0.near in
          let after_committed = later.0 in
          ((up, omega (arith, near, after_committed)), more)
      by false off more = more

  few_after : (txid : ℕ) → drops_of txid (fates ++ ended_all) ≤ near_aborts t.pending txid (fates ++ ended_all)
  few_after txid =
      let was = few_before txid in
      let now_drops = drops_after txid in
      let now_near = near_after txid in
      elim (tally_has (λ (k : ℕ). (first.root.txid < k) × (k < first.root.txid + t.pending)) txid (filter (ends_with t cut first.root) (before ++ rest)) (near_ones (before ++ rest) left.waits)) [
        | inl none ↦ omega (arith, was, now_drops, now_near, none)
        | inr near ↦
            let one = near_one t.pending txid first falls.0 near.0 near.1 in
            let all_few = filter_tally txid (before ++ rest) in
            let o = left.one txid in
            omega (arith, was, now_drops, now_near, one, all_few, o)
      ]
    where
      filter_tally : (k : ℕ) (ws : List Wait) → tally k (filter (ends_with t cut first.root) ws) ≤ tally k ws
      filter_tally k [] = omega arith
      filter_tally k (v ∷ ws) = by (ends_with t cut first.root v) (filter_tally k ws)
        where
          by : (b : Bool) → tally k (filter (ends_with t cut first.root) ws) ≤ tally k ws → tally k (cond b (v ∷ filter (ends_with t cut first.root) ws) (filter (ends_with t cut first.root) ws)) ≤ own k v.root.txid + tally k ws
          by true fewer = omega (arith, fewer)
          by false fewer = omega (arith, fewer)

  filter_each : (Q : Wait → Type 0) (p : Wait → Bool) (ws : List Wait) → AllByRecursion Q ws → AllByRecursion Q (filter p ws)
  filter_each Q p [] all = tt
  filter_each Q p (v ∷ ws) all = by (p v) (filter_each Q p ws all.1)
    where
      by : (b : Bool) → AllByRecursion Q (filter p ws) → AllByRecursion Q (cond b (v ∷ filter p ws) (filter p ws))
      by true more = (all.0, more)
      by false more = more

  pub going_aborted : IsGoing t cut (aborted t cut (first ∷ fell) (record d { pending = before ++ rest })).desk (fates ++ (aborted t cut (first ∷ fell) (record d { pending = before ++ rest })).ended)
  going_aborted = record {
    holds = holds_after;
    timely = filter_each (IsTimely t.buckets d.tick) (λ (v : Wait). not (ends_with t cut first.root v)) (before ++ rest) timely;
    follow = subst (DropsFollow cut) joined after.follow;
    fronts = fronts_after;
    row = row_after;
    few_drops = few_after;
    most = λ txid. (let f = aborted_by txid in let o = once txid in let g = goes txid in omega (arith, f, o, g));
    goes_on = goes_after;
    ran_out = ran_after;
  }

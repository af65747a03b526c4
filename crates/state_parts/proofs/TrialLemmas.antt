-- What follows of the parts' answers to a commit.
use Rattle.std.proofs.Common.{◌≡◌, ◌+◌, ◌≤◌, ◌<◌, ◌||◌, ◌&&◌, ◌==◌, inl, inr, ⊎_elim, ℕ, zero, suc, Bool, true, false, List, [], ◌∷◌, ◌++◌, length, map, get_or, set, slice_get, take, drop, All, Option, None, Some, Result, Ok, Err, OnOk, OnErr, IsErrOf, ℤ, refl, sym, ap, subst, ◌∙◌, append_assoc, arith}
use Rattle.std.proofs.lemmas.Bool.{cases_eq, eq-eqb, ne_eqb}
use Rattle.std.proofs.lemmas.List.{append-nil, drop_all, drop_more, get_or_at, length-map, length_push, map-append, set_at, take_all}
use Rattle.std.proofs.lemmas.List.Elements.{All-head, All-nil, All-push, All-tail}
use Rattle.std.proofs.lemmas.List.Folds.{list_any-append}
use Rattle.std.proofs.lemmas.Option.{none-some, same_Some}
use Rattle.std.proofs.lemmas.Result.{on_ok_weaker}
use Rattle.std.specs.List.{list_any}
use Rattle.std.specs.Option.{option_or}
use Rattle.tree_model.specs.storm_values.declared.value.Root.{Root}
use Rattle.tree_model.specs.storm_values.Lines.{first_some}
use Rattle.tree_model.specs.storm_values.Counts.{raised}
use Rattle.storm_stores.specs.CellMaps.{CellMap, cell_at}
use Rattle.tree_model.specs.bolt_ops.RowOp.{Custom}
use Rattle.tree_model.specs.Tables.{Folding, folded}
use Rattle.tree_model.specs.topology_plan.declared.parts.Kind.{Kind}
use Rattle.cell_format.specs.Commits.{IsDone, IsPerhapsDone, amounts_at}
use Rattle.cell_format.proofs.CommitLemmas.{perhaps_if_done}
use Rattle.state_cells.specs.Turns.{IsBad, Turns}
use Rattle.tree_model.specs.declared.write.Write.{Write}
use Rattle.state_cells.specs.declared.fault.PartFault.{PartFault}
use Rattle.state_cells.specs.declared.group.GroupedWrites.{GroupedWrites}
use Rattle.state_cells.specs.declared.fault.PartFault.TheVariants as fault
use Rattle.state_parts.specs.declared.answer.CommitFault.{CommitFault}
use Rattle.state_parts.specs.declared.answer.CommitFault.TheVariants.{BadCell}
use Rattle.state_parts.specs.declared.answer.CommitOutcome.{CommitOutcome}
use Rattle.state_parts.specs.declared.answer.CommitOutcome.TheVariants.{Done, Failed}
use Rattle.state_parts.specs.declared.answer.Tally.{Tally}
use Rattle.state_parts.specs.declared.parts.StatePart.{StatePart}
use Rattle.state_parts.specs.Answers.{Tries, noted}
use Rattle.state_parts.specs.Commits.{AreCommitted, ArePerhapsCommitted, AreTried, Committed, CountFollows, CountsFollow, FailOnceAtMost, FailedOnceAtMost, FailureFollows, IsBadAt, IsFailedPart, IsTrial, NoCountFell, Trial, answer_by, answer_of, bad_key, failure_by, failure_of, own_writes, tally_of, wants_memory}
use Rattle.state_parts.specs.Dealt.{AreDealt, IsGrouped}
use Rattle.state_parts.specs.PartPlans.{AreApart, IsOneOf, PartPlan, plan_of, plans_of}
use Rattle.state_parts.proofs.TableLemmas.{zip_at}

-- ---- the first of each kind

pub option_or_assoc : {X : Type 0} (a b c : Option X) → option_or (option_or a b) c ≡ option_or a (option_or b c)
option_or_assoc None b c = refl
option_or_assoc (Some x) b c = refl

option_or_none : {X : Type 0} (a : Option X) → a ≡ option_or a None
option_or_none None = refl
option_or_none (Some x) = refl

or_false : (b : Bool) → b ≡ (b || false)
or_false true = refl
or_false false = refl

or_true : (b : Bool) → true ≡ (b || true)
or_true true = refl
or_true false = refl

pub first_cons : {Y : Type 0} (o : Option Y) (rest : List (Option Y)) → first_some (o ∷ rest) ≡ option_or o (first_some rest)
first_cons None rest = refl
first_cons (Some y) rest = refl

first_push : {X Y : Type 0} (f : X → Option Y) (xs : List X) (x : X) → first_some (map f (xs ++ x ∷ [])) ≡ option_or (first_some (map f xs)) (f x)
first_push f [] x = first_cons (f x) [] ∙ sym (option_or_none (f x))
first_push f (z ∷ xs) x =
    first_cons (f z) (map f (xs ++ x ∷ [])) ∙ ap (option_or (f z)) (first_push f xs x) ∙ sym (option_or_assoc (f z) (first_some (map f xs)) (f x))
    ∙ ap (λ o. option_or o (f x)) (sym (first_cons (f z) (map f xs)))

pub same_tally : (a b : Bool) (k l : Option (List ℕ)) (m n : Option CommitOutcome) → a ≡ b → k ≡ l → m ≡ n
    → ◌≡◌ {A = Tally} (record { no_memory = a; bad = k; failed = m }) (record { no_memory = b; bad = l; failed = n })
same_tally a b k l m n one two three = rw (one, two, three) refl

noted_is : (lacks : Bool) (bad : Option (List ℕ)) (failed : Option CommitOutcome) (answer : Result (Unit {0}) PartFault) (c p b a : ℕ)
    → noted (record { no_memory = lacks; bad = bad; failed = failed }) answer (Failed c p b a)
    ≡ record { no_memory = lacks || wants_memory answer; bad = option_or bad (bad_key answer); failed = option_or failed (failure_by c p b a answer) }
noted_is lacks bad failed (Ok done) c p b a = same_tally lacks (lacks || false) bad (option_or bad None) failed (option_or failed None) (or_false lacks) (option_or_none bad) (option_or_none failed)
noted_is lacks bad failed (Err fault.Store) c p b a = same_tally lacks (lacks || false) bad (option_or bad None) (option_or failed (Some (Failed c p b a))) (option_or failed (Some (Failed c p b a))) (or_false lacks) (option_or_none bad) refl
noted_is lacks bad failed (Err (fault.BadCell key)) c p b a = same_tally lacks (lacks || false) (option_or bad (Some key)) (option_or bad (Some key)) failed (option_or failed None) (or_false lacks) refl (option_or_none failed)
noted_is lacks bad failed (Err fault.Memory) c p b a = same_tally true (lacks || true) bad (option_or bad None) failed (option_or failed None) (or_true lacks) (option_or_none bad) (option_or_none failed)

module _ {S : Type 0} (count : S → ℕ) where
  any_push : (trials : List (Trial S)) (trial : Trial S) → list_any (λ (t : Trial S). wants_memory t.answer) (trials ++ trial ∷ []) ≡ (list_any (λ (t : Trial S). wants_memory t.answer) trials || wants_memory trial.answer)
  any_push trials trial =
      list_any-append (λ (t : Trial S). wants_memory t.answer) trials (trial ∷ [])
      ∙ ap (λ (b : Bool). list_any (λ (t : Trial S). wants_memory t.answer) trials || b) (sym (or_false (wants_memory trial.answer)))

  noted_more : (trials : List (Trial S)) (trial : Trial S)
      → noted (tally_of count trials) trial.answer (Failed trial.old.component trial.old.part (count trial.old.over.store) (count trial.new.over.store)) ≡ tally_of count (trials ++ trial ∷ [])
  noted_more trials trial =
      noted_is (list_any (λ (t : Trial S). wants_memory t.answer) trials) (first_some (map (λ (t : Trial S). bad_key t.answer) trials)) (first_some (map (failure_of count) trials))
      trial.answer trial.old.component trial.old.part (count trial.old.over.store) (count trial.new.over.store)
      ∙ sym (same_tally _ _ _ _ _ _ (any_push trials trial) (first_push (λ (t : Trial S). bad_key t.answer) trials trial) (first_push (failure_of count) trials trial))

-- ---- whether two parts are one

and_false : (b : Bool) → (b && false) ≡ false
and_false true = refl
and_false false = refl

same_numbers : (c p : ℕ) → ((c == c) && (p == p)) ≡ true
same_numbers c p = ap (λ (b : Bool). b && (p == p)) (eq-eqb c c refl) ∙ eq-eqb p p refl

other_numbers : (c p component part : ℕ) → ((c ≡ component) × (p ≡ part) → ⊥) → ((c == component) && (p == part)) ≡ false
other_numbers c p component part other =
    ⊎_elim (λ (one : c ≡ component). ap (λ (b : Bool). (c == component) && b) (ne_eqb p part (λ two. other (one, two))) ∙ and_false (c == component))
    (λ (none : c ≡ component → ⊥). ap (λ (b : Bool). b && (p == part)) (ne_eqb c component none)) (cases_eq c component)

-- of another part than the told one
other_follows : (c p component part b a low high : ℕ) → ((c ≡ component) × (p ≡ part) → ⊥) → FailedOnceAtMost low high → CountFollows (Failed c p b a) component part low high
other_follows c p component part b a low high other once = subst (λ (t : Bool). FailureFollows t b a low high) (sym (other_numbers c p component part other)) once

there_is : {S : Type 0} (xs : List (StatePart S)) (place : ℕ) (was : StatePart S) → slice_get xs place ≡ Some was → IsOneOf (plans_of xs) was.component was.part
there_is {S} [] place was at = absurd (none-some was at)
there_is {S} (x ∷ xs) zero was at =
    let same : x ≡ was = same_Some x was at in
    inl (ap (λ (s : StatePart S). s.component) (sym same), ap (λ (s : StatePart S). s.part) (sym same))
there_is {S} (x ∷ xs) (suc place) was at = inr (there_is xs place was at)

part_there : {S : Type 0} {count : S → ℕ} (xs ys : List (StatePart S)) (c p b a : ℕ) → IsFailedPart count xs ys c p b a → IsOneOf (plans_of xs) c p
part_there xs ys c p b a told =
    subst (λ (k : ℕ). IsOneOf (plans_of xs) k p) told.component_is (subst (λ (k : ℕ). IsOneOf (plans_of xs) told.was.component k) told.part_is (there_is xs told.place told.was told.was_at))

-- ---- the trial of a part

-- The amounts that are written for a key are those of the part's own writes.
module _ {S : Type 0} (tells : S → CellMap → Type 0) (root : Root) (kind : Kind) (by : Folding) (written : List ℕ → List ℤ) (own : List Write) (same : (key : List ℕ) → written key ≡ amounts_at own key) (a b : S) where
  done_own : Turns tells (λ key. IsDone kind by root (written key)) a b → Turns tells (λ key. IsDone kind by root (amounts_at own key)) a b
  done_own turns = record {
    to = λ cells told.
        let x = turns.to cells told in
        (x.0, x.1, λ key. subst (λ (amounts : List ℤ). IsDone kind by root amounts (cell_at cells key) (cell_at x.0 key)) (same key) (x.2 key));
  }

  broken_own : Turns tells (λ key. IsPerhapsDone kind by root (written key)) a b → Turns tells (λ key. IsPerhapsDone kind by root (amounts_at own key)) a b
  broken_own turns = record {
    to = λ cells told.
        let x = turns.to cells told in
        (x.0, x.1, λ key. subst (λ (amounts : List ℤ). IsPerhapsDone kind by root amounts (cell_at cells key) (cell_at x.0 key)) (same key) (x.2 key));
  }

  done_perhaps : Turns tells (λ key. IsDone kind by root (amounts_at own key)) a b → Turns tells (λ key. IsPerhapsDone kind by root (amounts_at own key)) a b
  done_perhaps turns = record {
    to = λ cells told.
        let x = turns.to cells told in
        (x.0, x.1, λ key. perhaps_if_done kind by root (amounts_at own key) (cell_at cells key) (cell_at x.0 key) (x.2 key));
  }

  kept_own : (answer : Result (Unit {0}) PartFault) → OnOk answer (Turns tells (λ key. IsDone kind by root (written key)) a b) → OnErr answer (Turns tells (λ key. IsPerhapsDone kind by root (written key)) a b)
      → Turns tells (λ key. IsPerhapsDone kind by root (amounts_at own key)) a b
  kept_own (Ok done) ok err = done_perhaps (done_own ok)
  kept_own (Err fault) ok err = broken_own err

module _ {S : Type 0} (tells : S → CellMap → Type 0) (custom : Custom) (count : S → ℕ) (root : Root) (written : List ℕ → List ℤ) (own : List Write) (same : (key : List ℕ) → written key ≡ amounts_at own key) (old new : StatePart S) (answer : Result (Unit {0}) PartFault) where
  pub trial_own : plan_of new ≡ plan_of old
      → OnOk answer (Turns tells (λ key. IsDone old.over.kind (folded custom old.over.by) root (written key)) old.over.store new.over.store)
      → OnErr answer (Turns tells (λ key. IsPerhapsDone old.over.kind (folded custom old.over.by) root (written key)) old.over.store new.over.store)
      → (IsErrOf answer fault.Store → count new.over.store ≡ raised (count old.over.store))
      → ((IsErrOf answer fault.Store → ⊥) → count new.over.store ≡ count old.over.store)
      → ((key : List ℕ) → IsErrOf answer (fault.BadCell key) → (cells : CellMap) → tells old.over.store cells → IsBad old.over.kind (cell_at cells key))
      → count old.over.store ≤ count new.over.store → IsTrial tells custom count root own (record { old = old; new = new; answer = answer })
  trial_own plan ok err failed quiet bad up = record {
    plan = plan;
    done = on_ok_weaker answer (λ turns. record { plan = plan; turns = done_own tells root old.over.kind (folded custom old.over.by) written own same old.over.store new.over.store turns }) ok;
    kept = record { plan = plan; turns = kept_own tells root old.over.kind (folded custom old.over.by) written own same old.over.store new.over.store answer ok err };
    failed = failed;
    quiet = quiet;
    bad = bad;
    never_falls = up;
  }

-- the first i parts were tried, and the others are as they were
pub record Trying {S : Type 0} (tells : S → CellMap → Type 0) (custom : Custom) (count : S → ℕ) (root : Root) (writes : List Write) (i : ℕ) (old now : List (StatePart S)) (tally : Tally) : Type 0 where
  pub trials : List (Trial S)
  pub each : All (λ trial. IsTrial tells custom count root (own_writes writes trial.old) trial) trials
  pub many : length trials ≡ i
  pub olds : map (λ (trial : Trial S). trial.old) trials ++ drop i old ≡ old
  pub news : map (λ (trial : Trial S). trial.new) trials ++ drop i old ≡ now
  pub tally_is : tally ≡ tally_of count trials

module _ {S : Type 0} (tells : S → CellMap → Type 0) (custom : Custom) (count : S → ℕ) (root : Root) where
  -- ---- the loop over the parts

  module _ (writes : List Write) where
    pub trying_first : (parts : List (StatePart S)) (tally : Tally) → tally ≡ record { no_memory = false; bad = None; failed = None } → Trying tells custom count root writes 0 parts parts tally
    trying_first parts tally is = record { trials = []; each = All-nil (λ trial. IsTrial tells custom count root (own_writes writes trial.old) trial); many = refl; olds = refl; news = refl; tally_is = is }

    pub trying_more : (i : ℕ) (old now : List (StatePart S)) (dealt : List GroupedWrites) (own : GroupedWrites) (was is : StatePart S) (before after : Tally) → i < length old → was ≡ get_or now i was
        → AreDealt writes old dealt → own ≡ get_or dealt i own → ((ws : List Write) → IsGrouped ws own → Tries tells custom count root ws was is before after) → Trying tells custom count root writes i old now before
        → Trying tells custom count root writes (i + 1) old (set now i is) after
    trying_more i old now dealt own was is before after within read all own_read tried trying =
        let rest : drop i old ≡ get_or old i was ∷ drop (i + 1) old = drop_more old i was within in
        let olds_long : length (map (λ (trial : Trial S). trial.old) trying.trials) ≡ i = length-map trying.trials (λ (trial : Trial S). trial.old) ∙ trying.many in
        let news_long : length (map (λ (trial : Trial S). trial.new) trying.trials) ≡ i = length-map trying.trials (λ (trial : Trial S). trial.new) ∙ trying.many in
        let now_is : now ≡ map (λ (trial : Trial S). trial.new) trying.trials ++ get_or old i was ∷ drop (i + 1) old = sym trying.news ∙ ap (λ xs. map (λ (trial : Trial S). trial.new) trying.trials ++ xs) rest in
        let same : was ≡ get_or old i was = read ∙ ap (λ xs. get_or xs i was) now_is ∙ get_or_at (map (λ (trial : Trial S). trial.new) trying.trials) (get_or old i was) (drop (i + 1) old) was i news_long in
        let there : IsGrouped (own_writes writes (get_or old i was)) (get_or dealt i own) = zip_at (λ (at : StatePart S) (grouped : GroupedWrites). IsGrouped (own_writes writes at) grouped) old dealt i was own all within in
        let grouped : IsGrouped (own_writes writes was) own =
        subst (λ (g : GroupedWrites). IsGrouped (own_writes writes was) g) (sym own_read) (subst (λ (at : StatePart S). IsGrouped (own_writes writes at) (get_or dealt i own)) (sym same) there) in
        let tries : Tries tells custom count root (own_writes writes was) was is before after = tried (own_writes writes was) grouped in
        let here : IsTrial tells custom count root (own_writes writes was) (record { old = was; new = is; answer = tries.answer }) = tries.trial in
        let old_rest : was ∷ drop (i + 1) old ≡ drop i old = ap (λ x. x ∷ drop (i + 1) old) same ∙ sym rest in
        let set_is : set now i is ≡ map (λ (trial : Trial S). trial.new) trying.trials ++ is ∷ drop (i + 1) old =
        ap (λ xs. set xs i is) now_is ∙ set_at (map (λ (trial : Trial S). trial.new) trying.trials) (get_or old i was) (drop (i + 1) old) is i news_long in
        record {
          trials = trying.trials ++ record { old = was; new = is; answer = tries.answer } ∷ [];
          each = All-push (λ trial. IsTrial tells custom count root (own_writes writes trial.old) trial) trying.trials (record { old = was; new = is; answer = tries.answer }) trying.each here;
          many = length_push trying.trials (record { old = was; new = is; answer = tries.answer }) ∙ ap (λ (n : ℕ). n + 1) trying.many;
          olds = ap (λ xs. xs ++ drop (i + 1) old) (map-append (λ (t : Trial S). t.old) trying.trials (record { old = was; new = is; answer = tries.answer } ∷ []))
              ∙ append_assoc (map (λ (t : Trial S). t.old) trying.trials) (was ∷ []) (drop (i + 1) old)
              ∙ ap (λ xs. map (λ (t : Trial S). t.old) trying.trials ++ xs) old_rest ∙ trying.olds;
          news = ap (λ xs. xs ++ drop (i + 1) old) (map-append (λ (t : Trial S). t.new) trying.trials (record { old = was; new = is; answer = tries.answer } ∷ []))
              ∙ append_assoc (map (λ (t : Trial S). t.new) trying.trials) (is ∷ []) (drop (i + 1) old)
              ∙ sym set_is;
          tally_is = tries.notes ∙ ap (λ (t : Tally). noted t tries.answer (Failed was.component was.part (count was.over.store) (count is.over.store))) trying.tally_is
              ∙ noted_more count trying.trials (record { old = was; new = is; answer = tries.answer });
        }

    pub trying_last : (i : ℕ) (old now : List (StatePart S)) (tally : Tally) → length old ≤ i → Trying tells custom count root writes i old now tally → AreTried tells custom count root writes old now tally
    trying_last i old now tally past trying =
        let none : drop i old ≡ [] = drop_all i old past in
        record {
          trials = trying.trials;
          each = trying.each;
          olds = sym (append-nil (map (λ (t : Trial S). t.old) trying.trials)) ∙ ap (λ xs. map (λ (t : Trial S). t.old) trying.trials ++ xs) (sym none) ∙ trying.olds;
          news = sym (append-nil (map (λ (t : Trial S). t.new) trying.trials)) ∙ ap (λ xs. map (λ (t : Trial S). t.new) trying.trials ++ xs) (sym none) ∙ trying.news;
          tally_is = trying.tally_is;
        }

    -- parts that were lent, and what was left of them
    pub tried_lent : (old lent new : List (StatePart S)) (n : ℕ) (tally : Tally) → lent ≡ old → n ≡ length old → length new ≡ length lent → AreTried tells custom count root writes lent new tally
        → AreTried tells custom count root writes old (take n (new ++ drop (length new) old)) tally
    tried_lent old lent new n tally is many long tried =
        let same : length new ≡ length old = long ∙ ap length is in
        let left : take n (new ++ drop (length new) old) ≡ new =
        ap (λ (xs : List (StatePart S)). take n (new ++ xs)) (drop_all (length new) old (omega arith)) ∙ ap (take n) (append-nil new) ∙ take_all n new (omega arith) in
        subst (λ (xs : List (StatePart S)). AreTried tells custom count root writes xs (take n (new ++ drop (length new) old)) tally) is (subst (λ (ys : List (StatePart S)). AreTried tells custom count root writes lent ys tally) (sym left) tried)

    -- ---- what follows of all answers

    abbrev Each : List (Trial S) → Type 0
    Each trials = All (λ trial. IsTrial tells custom count root (own_writes writes trial.old) trial) trials

    head : (trial : Trial S) (trials : List (Trial S)) → Each (trial ∷ trials) → IsTrial tells custom count root (own_writes writes trial.old) trial
    head trial trials each = All-head (λ trial. IsTrial tells custom count root (own_writes writes trial.old) trial) trial trials each

    tail : (trial : Trial S) (trials : List (Trial S)) → Each (trial ∷ trials) → Each trials
    tail trial trials each = All-tail (λ trial. IsTrial tells custom count root (own_writes writes trial.old) trial) trial trials each

    trials_kept : (trials : List (Trial S)) → Each trials → ArePerhapsCommitted tells custom root writes (map (λ (t : Trial S). t.old) trials) (map (λ (t : Trial S). t.new) trials)
    trials_kept [] each = tt
    trials_kept (trial ∷ trials) each = ((head trial trials each).kept, trials_kept trials (tail trial trials each))

    trials_up : (trials : List (Trial S)) → Each trials → NoCountFell count (map (λ (t : Trial S). t.old) trials) (map (λ (t : Trial S). t.new) trials)
    trials_up [] each = tt
    trials_up (trial ∷ trials) each = ((head trial trials each).never_falls, trials_up trials (tail trial trials each))

    trials_plans : (trials : List (Trial S)) → Each trials → plans_of (map (λ (t : Trial S). t.new) trials) ≡ plans_of (map (λ (t : Trial S). t.old) trials)
    trials_plans [] each = refl
    trials_plans (trial ∷ trials) each =
        ap (λ (x : PartPlan). x ∷ plans_of (map (λ (t : Trial S). t.new) trials)) (head trial trials each).plan
        ∙ ap (λ (xs : List PartPlan). plan_of trial.old ∷ xs) (trials_plans trials (tail trial trials each))

    -- every answer is good where the whole is done
    one_done : (P : Type 0) (answer : Result (Unit {0}) PartFault) (c p b a : ℕ) (lacks : Bool) (bads : List (Option (List ℕ))) (faileds : List (Option CommitOutcome)) → OnOk answer P
        → answer_by (wants_memory answer || lacks) (first_some (bad_key answer ∷ bads)) (first_some (failure_by c p b a answer ∷ faileds)) ≡ Ok Done → P × (answer_by lacks (first_some bads) (first_some faileds) ≡ Ok Done)
    one_done P (Ok done) c p b a lacks bads faileds ok is = (ok, is)
    one_done P (Err fault.Store) c p b a lacks bads faileds ok is = absurd (not_done lacks (first_some bads) is)
      where
        not_done : (n : Bool) (k : Option (List ℕ)) → answer_by n k (Some (Failed c p b a)) ≡ Ok Done → ⊥
        not_done true k is = cc
        not_done false (Some key) is = cc
        not_done false None is = cc
    one_done P (Err (fault.BadCell key)) c p b a lacks bads faileds ok is = absurd (not_done lacks is)
      where
        not_done : (n : Bool) → answer_by n (Some key) (first_some faileds) ≡ Ok Done → ⊥
        not_done true is = cc
        not_done false is = cc
    one_done P (Err fault.Memory) c p b a lacks bads faileds ok is = absurd cc

    trials_done : (trials : List (Trial S)) → Each trials → answer_of (tally_of count trials) ≡ Ok Done → AreCommitted tells custom root writes (map (λ (t : Trial S). t.old) trials) (map (λ (t : Trial S). t.new) trials)
    trials_done [] each is = tt
    trials_done (trial ∷ trials) each is =
        let x = one_done (Committed tells custom root (own_writes writes trial.old) trial.old trial.new) trial.answer trial.old.component trial.old.part (count trial.old.over.store) (count trial.new.over.store)
        (list_any (λ (t : Trial S). wants_memory t.answer) trials) (map (λ (t : Trial S). bad_key t.answer) trials) (map (failure_of count) trials) (head trial trials each).done is in
        (x.0, trials_done trials (tail trial trials each) x.1)

    -- the first part that failed is told where no bad cell is, and no memory was wanted
    failed_later : (x y : StatePart S) (xs ys : List (StatePart S)) (c p b a : ℕ) → IsFailedPart count xs ys c p b a → IsFailedPart count (x ∷ xs) (y ∷ ys) c p b a
    failed_later x y xs ys c p b a later = record {
      place = suc later.place;
      was = later.was;
      is = later.is;
      was_at = later.was_at;
      is_at = later.is_at;
      component_is = later.component_is;
      part_is = later.part_is;
      before_is = later.before_is;
      after_is = later.after_is;
      rose = later.rose;
    }

    failed_here : (old new : StatePart S) (xs ys : List (StatePart S)) (c p b a : ℕ) → ◌≡◌ {A = Result CommitOutcome CommitFault} (Ok (Failed old.component old.part (count old.over.store) (count new.over.store))) (Ok (Failed c p b a))
        → count new.over.store ≡ raised (count old.over.store) → IsFailedPart count (old ∷ xs) (new ∷ ys) c p b a
    failed_here old new xs ys c p b a is rose =
        let one : old.component ≡ c = cc in
        let two : old.part ≡ p = cc in
        let three : count old.over.store ≡ b = cc in
        let four : count new.over.store ≡ a = cc in
        record {
          place = 0;
          was = old;
          is = new;
          was_at = refl;
          is_at = refl;
          component_is = one;
          part_is = two;
          before_is = three;
          after_is = four;
          rose = sym four ∙ rose ∙ ap raised three;
        }

    one_failed : (trial : Trial S) (xs ys : List (StatePart S)) (lacks : Bool) (bads : List (Option (List ℕ))) (faileds : List (Option CommitOutcome)) (c p b a : ℕ) → IsTrial tells custom count root (own_writes writes trial.old) trial
        → (answer_by lacks (first_some bads) (first_some faileds) ≡ Ok (Failed c p b a) → IsFailedPart count xs ys c p b a) → (answer : Result (Unit {0}) PartFault) → trial.answer ≡ answer
        → answer_by (wants_memory answer || lacks) (first_some (bad_key answer ∷ bads)) (first_some (failure_by trial.old.component trial.old.part (count trial.old.over.store) (count trial.new.over.store) answer ∷ faileds)) ≡ Ok (Failed c p b a)
        → IsFailedPart count (trial.old ∷ xs) (trial.new ∷ ys) c p b a
    one_failed trial xs ys lacks bads faileds c p b a here later (Ok done) same is = failed_later trial.old trial.new xs ys c p b a (later is)
    one_failed trial xs ys lacks bads faileds c p b a here later (Err fault.Store) same is = told lacks (first_some bads) is
      where
        told : (n : Bool) (k : Option (List ℕ)) → answer_by n k (Some (Failed trial.old.component trial.old.part (count trial.old.over.store) (count trial.new.over.store))) ≡ Ok (Failed c p b a) → IsFailedPart count (trial.old ∷ xs) (trial.new ∷ ys) c p b a
        told true k is = absurd cc
        told false (Some key) is = absurd cc
        told false None is = failed_here trial.old trial.new xs ys c p b a is (here.failed same)
    one_failed trial xs ys lacks bads faileds c p b a here later (Err (fault.BadCell key)) same is = told lacks is
      where
        told : (n : Bool) → answer_by n (Some key) (first_some faileds) ≡ Ok (Failed c p b a) → IsFailedPart count (trial.old ∷ xs) (trial.new ∷ ys) c p b a
        told true is = absurd cc
        told false is = absurd cc
    one_failed trial xs ys lacks bads faileds c p b a here later (Err fault.Memory) same is = absurd cc

    trials_failed : (trials : List (Trial S)) → Each trials → (c p b a : ℕ) → answer_of (tally_of count trials) ≡ Ok (Failed c p b a)
        → IsFailedPart count (map (λ (t : Trial S). t.old) trials) (map (λ (t : Trial S). t.new) trials) c p b a
    trials_failed [] each c p b a is = absurd cc
    trials_failed (trial ∷ trials) each c p b a is =
        one_failed trial (map (λ (t : Trial S). t.old) trials) (map (λ (t : Trial S). t.new) trials) (list_any (λ (t : Trial S). wants_memory t.answer) trials) (map (λ (t : Trial S). bad_key t.answer) trials) (map (failure_of count) trials)
        c p b a (head trial trials each) (trials_failed trials (tail trial trials each) c p b a) trial.answer refl is

    -- ---- how the counts went

    once : (trial : Trial S) → IsTrial tells custom count root (own_writes writes trial.old) trial → (answer : Result (Unit {0}) PartFault) → trial.answer ≡ answer → FailedOnceAtMost (count trial.old.over.store) (count trial.new.over.store)
    once trial is (Ok done) same = inl (is.quiet (λ failed. cc))
    once trial is (Err fault.Store) same = inr (is.failed same)
    once trial is (Err (fault.BadCell key)) same = inl (is.quiet (λ failed. cc))
    once trial is (Err fault.Memory) same = inl (is.quiet (λ failed. cc))

    trials_once : (trials : List (Trial S)) → Each trials → FailOnceAtMost count (map (λ (t : Trial S). t.old) trials) (map (λ (t : Trial S). t.new) trials)
    trials_once [] each = tt
    trials_once (trial ∷ trials) each = (once trial (head trial trials each) trial.answer refl, trials_once trials (tail trial trials each))

    -- the told part is none of these
    others_follow : (trials : List (Trial S)) → Each trials → (c p b a : ℕ) → (IsOneOf (plans_of (map (λ (t : Trial S). t.old) trials)) c p → ⊥)
        → CountsFollow count (Failed c p b a) (map (λ (t : Trial S). t.old) trials) (map (λ (t : Trial S). t.new) trials)
    others_follow [] each c p b a none = tt
    others_follow (trial ∷ trials) each c p b a none = (
      other_follows c p trial.old.component trial.old.part b a (count trial.old.over.store) (count trial.new.over.store) (λ here. none (inl here)) (once trial (head trial trials each) trial.answer refl),
      others_follow trials (tail trial trials each) c p b a (λ later. none (inr later)),
    )

    -- this part did not fail, and the told one is among the others
    quiet_follows : (old new : StatePart S) (olds news : List (StatePart S)) (how : CommitOutcome) → (IsOneOf (plans_of olds) old.component old.part → ⊥) → count new.over.store ≡ count old.over.store
        → ((c p b a : ℕ) → how ≡ Failed c p b a → IsFailedPart count olds news c p b a) → CountFollows how old.component old.part (count old.over.store) (count new.over.store)
    quiet_follows old new olds news Done apart same told = same
    quiet_follows old new olds news (Failed c p b a) apart same told =
        let one : IsOneOf (plans_of olds) c p = part_there olds news c p b a (told c p b a refl) in
        other_follows c p old.component old.part b a (count old.over.store) (count new.over.store)
        (λ here. apart (subst (λ (k : ℕ). IsOneOf (plans_of olds) k old.part) here.0 (subst (λ (k : ℕ). IsOneOf (plans_of olds) c k) here.1 one))) (inl same)

    one_counted : (trial : Trial S) (trials : List (Trial S)) (how : CommitOutcome) → Each (trial ∷ trials) → (IsOneOf (plans_of (map (λ (t : Trial S). t.old) trials)) trial.old.component trial.old.part → ⊥)
        → (answer_of (tally_of count trials) ≡ Ok how → CountsFollow count how (map (λ (t : Trial S). t.old) trials) (map (λ (t : Trial S). t.new) trials)) → (answer : Result (Unit {0}) PartFault) → trial.answer ≡ answer
        → answer_by (wants_memory answer || list_any (λ (t : Trial S). wants_memory t.answer) trials) (first_some (bad_key answer ∷ map (λ (t : Trial S). bad_key t.answer) trials))
        (first_some (failure_by trial.old.component trial.old.part (count trial.old.over.store) (count trial.new.over.store) answer ∷ map (failure_of count) trials)) ≡ Ok how
        → CountsFollow count how (trial.old ∷ map (λ (t : Trial S). t.old) trials) (trial.new ∷ map (λ (t : Trial S). t.new) trials)
    one_counted trial trials how each apart later (Ok done) same is = (
      quiet_follows trial.old trial.new (map (λ (t : Trial S). t.old) trials) (map (λ (t : Trial S). t.new) trials) how apart ((head trial trials each).quiet (λ failed. cc))
          (λ c p b a told. trials_failed trials (tail trial trials each) c p b a (is ∙ ap Ok told)),
      later is,
    )
    one_counted trial trials how each apart later (Err fault.Store) same is = told (list_any (λ (t : Trial S). wants_memory t.answer) trials) (first_some (map (λ (t : Trial S). bad_key t.answer) trials)) is
      where
        low : ℕ
        low = count trial.old.over.store

        high : ℕ
        high = count trial.new.over.store

        own : CountFollows (Failed trial.old.component trial.old.part low high) trial.old.component trial.old.part low high
        own = subst (λ (b : Bool). FailureFollows b low high low high) (sym (same_numbers trial.old.component trial.old.part)) (refl, refl, (head trial trials each).failed same)

        told : (n : Bool) (k : Option (List ℕ)) → answer_by n k (Some (Failed trial.old.component trial.old.part low high)) ≡ Ok how → CountsFollow count how (trial.old ∷ map (λ (t : Trial S). t.old) trials) (trial.new ∷ map (λ (t : Trial S). t.new) trials)
        told true k is = absurd cc
        told false (Some key) is = absurd cc
        told false None is =
            let it : Failed trial.old.component trial.old.part low high ≡ how = cc in
            subst (λ (h : CommitOutcome). CountsFollow count h (trial.old ∷ map (λ (t : Trial S). t.old) trials) (trial.new ∷ map (λ (t : Trial S). t.new) trials)) it
            (own, others_follow trials (tail trial trials each) trial.old.component trial.old.part low high apart)
    one_counted trial trials how each apart later (Err (fault.BadCell key)) same is = told (list_any (λ (t : Trial S). wants_memory t.answer) trials) is
      where
        told : (n : Bool) → answer_by n (Some key) (first_some (map (failure_of count) trials)) ≡ Ok how → CountsFollow count how (trial.old ∷ map (λ (t : Trial S). t.old) trials) (trial.new ∷ map (λ (t : Trial S). t.new) trials)
        told true is = absurd cc
        told false is = absurd cc
    one_counted trial trials how each apart later (Err fault.Memory) same is = absurd cc

    trials_counted : (trials : List (Trial S)) → Each trials → AreApart (plans_of (map (λ (t : Trial S). t.old) trials)) → (how : CommitOutcome) → answer_of (tally_of count trials) ≡ Ok how
        → CountsFollow count how (map (λ (t : Trial S). t.old) trials) (map (λ (t : Trial S). t.new) trials)
    trials_counted [] each apart how is = tt
    trials_counted (trial ∷ trials) each apart how is = one_counted trial trials how each apart.0 (trials_counted trials (tail trial trials each) apart.1 how) trial.answer refl is

    -- the first bad cell is told where no memory was wanted
    bad_later : (x : StatePart S) (xs : List (StatePart S)) (key : List ℕ) → IsBadAt tells xs key → IsBadAt tells (x ∷ xs) key
    bad_later x xs key later = record { place = suc later.place; was = later.was; was_at = later.was_at; bad = later.bad }

    any_failure : (lacks : Bool) (bad : Option (List ℕ)) (f g : Option CommitOutcome) (key : List ℕ) → answer_by lacks bad f ≡ Err (BadCell key) → answer_by lacks bad g ≡ Err (BadCell key)
    any_failure true bad f g key is = is
    any_failure false (Some k) f g key is = is
    any_failure false None f g key is = absurd cc

    one_bad : (trial : Trial S) (xs : List (StatePart S)) (lacks : Bool) (bads : List (Option (List ℕ))) (faileds : List (Option CommitOutcome)) (key : List ℕ) → IsTrial tells custom count root (own_writes writes trial.old) trial
        → (answer_by lacks (first_some bads) (first_some faileds) ≡ Err (BadCell key) → IsBadAt tells xs key) → (answer : Result (Unit {0}) PartFault) → trial.answer ≡ answer
        → answer_by (wants_memory answer || lacks) (first_some (bad_key answer ∷ bads)) (first_some (failure_by trial.old.component trial.old.part (count trial.old.over.store) (count trial.new.over.store) answer ∷ faileds)) ≡ Err (BadCell key)
        → IsBadAt tells (trial.old ∷ xs) key
    one_bad trial xs lacks bads faileds key here later (Ok done) same is = bad_later trial.old xs key (later is)
    one_bad trial xs lacks bads faileds key here later (Err fault.Store) same is =
        bad_later trial.old xs key (later (any_failure lacks (first_some bads) (Some (Failed trial.old.component trial.old.part (count trial.old.over.store) (count trial.new.over.store))) (first_some faileds) key is))
    one_bad trial xs lacks bads faileds key here later (Err (fault.BadCell k)) same is = told lacks is
      where
        told : (n : Bool) → answer_by n (Some k) (first_some faileds) ≡ Err (BadCell key) → IsBadAt tells (trial.old ∷ xs) key
        told true is = absurd cc
        told false is =
            let one : k ≡ key = cc in
            record { place = 0; was = trial.old; was_at = refl; bad = λ cells told. here.bad key (same ∙ ap (λ (x : List ℕ). Err (fault.BadCell x)) one) cells told }
    one_bad trial xs lacks bads faileds key here later (Err fault.Memory) same is = absurd cc

    trials_bad : (trials : List (Trial S)) → Each trials → (key : List ℕ) → answer_of (tally_of count trials) ≡ Err (BadCell key) → IsBadAt tells (map (λ (t : Trial S). t.old) trials) key
    trials_bad [] each key is = absurd cc
    trials_bad (trial ∷ trials) each key is =
        one_bad trial (map (λ (t : Trial S). t.old) trials) (list_any (λ (t : Trial S). wants_memory t.answer) trials) (map (λ (t : Trial S). bad_key t.answer) trials) (map (failure_of count) trials)
        key (head trial trials each) (trials_bad trials (tail trial trials each) key) trial.answer refl is

    -- ---- of all parts

    module _ (old new : List (StatePart S)) (tally : Tally) (tried : AreTried tells custom count root writes old new tally) where
      carried : (P : List (StatePart S) → List (StatePart S) → Type 0) → P (map (λ (t : Trial S). t.old) tried.trials) (map (λ (t : Trial S). t.new) tried.trials) → P old new
      carried P p = subst (λ (xs : List (StatePart S)). P xs new) tried.olds (subst (λ (ys : List (StatePart S)). P (map (λ (t : Trial S). t.old) tried.trials) ys) tried.news p)

      pub tried_kept : ArePerhapsCommitted tells custom root writes old new
      tried_kept = carried (λ xs ys. ArePerhapsCommitted tells custom root writes xs ys) (trials_kept tried.trials tried.each)

      pub tried_up : NoCountFell count old new
      tried_up = carried (λ xs ys. NoCountFell count xs ys) (trials_up tried.trials tried.each)

      pub tried_plans : plans_of new ≡ plans_of old
      tried_plans = carried (λ xs ys. plans_of ys ≡ plans_of xs) (trials_plans tried.trials tried.each)

      pub tried_done : answer_of tally ≡ Ok Done → AreCommitted tells custom root writes old new
      tried_done is = carried (λ xs ys. AreCommitted tells custom root writes xs ys) (trials_done tried.trials tried.each (ap answer_of (sym tried.tally_is) ∙ is))

      pub tried_failed : (c p b a : ℕ) → answer_of tally ≡ Ok (Failed c p b a) → IsFailedPart count old new c p b a
      tried_failed c p b a is = carried (λ xs ys. IsFailedPart count xs ys c p b a) (trials_failed tried.trials tried.each c p b a (ap answer_of (sym tried.tally_is) ∙ is))

      pub tried_counted : AreApart (plans_of old) → (how : CommitOutcome) → answer_of tally ≡ Ok how → CountsFollow count how old new
      tried_counted apart how is = carried (λ xs ys. AreApart (plans_of xs) → CountsFollow count how xs ys) (λ each_apart. trials_counted tried.trials tried.each each_apart how (ap answer_of (sym tried.tally_is) ∙ is)) apart

      pub tried_once : FailOnceAtMost count old new
      tried_once = carried (λ xs ys. FailOnceAtMost count xs ys) (trials_once tried.trials tried.each)

      pub tried_bad : (key : List ℕ) → answer_of tally ≡ Err (BadCell key) → IsBadAt tells old key
      tried_bad key is = carried (λ xs ys. IsBadAt tells xs key) (trials_bad tried.trials tried.each key (ap answer_of (sym tried.tally_is) ∙ is))

    -- where no part was tried
    pub untried_kept : (parts : List (StatePart S)) → ArePerhapsCommitted tells custom root writes parts parts
    untried_kept [] = tt
    untried_kept (at ∷ parts) = (record { plan = refl; turns = record { to = λ cells told. (cells, told, λ key. inl refl) } }, untried_kept parts)

  pub untried_once : (parts : List (StatePart S)) → FailOnceAtMost count parts parts
  untried_once [] = tt
  untried_once (at ∷ parts) = (inl refl, untried_once parts)

  pub untried_up : (parts : List (StatePart S)) → NoCountFell count parts parts
  untried_up [] = tt
  untried_up (at ∷ parts) = (omega arith, untried_up parts)

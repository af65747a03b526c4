-- The answers of parts in front and those of the parts behind them.
use Rattle.std.proofs.Common.{◌≡◌, ℕ, List, [], ◌∷◌, ◌++◌, length, map, Option, Result, Ok, Err, refl, sym, subst, ap, ap₂, ◌∙◌, arith}
use Rattle.std.proofs.lemmas.List.{map-append}
use Rattle.std.proofs.lemmas.List.Elements.{All-append}
use Rattle.std.proofs.lemmas.List.Folds.{list_any-append}
use Rattle.std.specs.Option.{option_or}
use Rattle.tree_model.specs.bolt_ops.RowOp.{Custom}
use Rattle.tree_model.specs.storm_values.declared.value.Root.{Root}
use Rattle.tree_model.specs.storm_values.Lines.{first_some}
use Rattle.storm_stores.specs.CellMaps.{CellMap}
use Rattle.state_cells.specs.declared.group.GroupedWrites.{GroupedWrites}
use Rattle.tree_model.specs.declared.write.Write.{Write}
use Rattle.state_parts.specs.declared.answer.CommitFault.{CommitFault}
use Rattle.state_parts.specs.declared.answer.CommitFault.TheVariants.{BadCell, Memory}
use Rattle.state_parts.specs.declared.answer.CommitOutcome.{CommitOutcome}
use Rattle.state_parts.specs.declared.answer.CommitOutcome.TheVariants.{Done, Failed}
use Rattle.state_parts.specs.declared.answer.Tally.{Tally}
use Rattle.state_parts.specs.declared.parts.StatePart.{StatePart}
use Rattle.state_parts.specs.Answers.{joined}
use Rattle.state_parts.specs.Commits.{AreTried, IsCommit, IsTrial, Trial, answer_of, bad_key, failure_of, own_writes, tally_of, wants_memory}
use Rattle.state_parts.specs.Dealt.{AreDealt}
use Rattle.state_parts.specs.PartPlans.{AreApart, plans_of}
use Rattle.state_parts.proofs.TrialLemmas.{first_cons, option_or_assoc, same_tally, tried_bad, tried_counted, tried_done, tried_failed, tried_kept, tried_once, tried_plans, tried_up, untried_kept, untried_once, untried_up}

first_append : {X Y : Type 0} (f : X → Option Y) (xs ys : List X) → first_some (map f (xs ++ ys)) ≡ option_or (first_some (map f xs)) (first_some (map f ys))
first_append f [] ys = refl
first_append f (x ∷ xs) ys =
    first_cons (f x) (map f (xs ++ ys)) ∙ ap (option_or (f x)) (first_append f xs ys) ∙ sym (option_or_assoc (f x) (first_some (map f xs)) (first_some (map f ys)))
    ∙ ap (λ o. option_or o (first_some (map f ys))) (sym (first_cons (f x) (map f xs)))

tally_joined : {S : Type 0} (count : S → ℕ) (xs ys : List (Trial S)) → joined (tally_of count xs) (tally_of count ys) ≡ tally_of count (xs ++ ys)
tally_joined {S} count xs ys =
    sym (same_tally _ _ _ _ _ _ (list_any-append (λ (t : Trial S). wants_memory t.answer) xs ys) (first_append (λ (t : Trial S). bad_key t.answer) xs ys) (first_append (failure_of count) xs ys))

module _ {S : Type 0} (tells : S → CellMap → Type 0) (custom : Custom) (count : S → ℕ) (root : Root) where
  -- the parts in front have their writes, and so have those behind
  dealt_cut : (writes : List Write) (front back : List (StatePart S)) (first rest : List GroupedWrites) → length first ≡ length front → AreDealt writes (front ++ back) (first ++ rest) → AreDealt writes front first × AreDealt writes back rest
  dealt_cut writes [] back [] rest many all = (tt, all)
  dealt_cut writes [] back (d ∷ first) rest many all = absurd (omega arith)
  dealt_cut writes (x ∷ front) back [] rest many all = absurd (omega arith)
  dealt_cut writes (x ∷ front) back (d ∷ first) rest many all = let later = dealt_cut writes front back first rest (omega arith) all.1 in ((all.0, later.0), later.1)

  -- what a call that tries these parts with these writes comes to
  abbrev pub Tried : List (StatePart S) → List GroupedWrites → List (StatePart S) → Tally → Type 0
  Tried old dealt new tally = (writes : List Write) → AreDealt writes old dealt → AreTried tells custom count root writes old new tally

  -- the same of parts in front and of parts behind
  abbrev pub BothTried : (front back : List (StatePart S)) (first rest : List GroupedWrites) → List (StatePart S) → Tally → Type 0
  BothTried front back first rest new tally = (writes : List Write) → AreDealt writes front first → AreDealt writes back rest → AreTried tells custom count root writes (front ++ back) new tally

  -- parts that were cut in two
  pub tried_cut : (parts front back new : List (StatePart S)) (dealt first rest : List GroupedWrites) (tally : Tally) → parts ≡ front ++ back → dealt ≡ first ++ rest → length first ≡ length front → BothTried front back first rest new tally
      → Tried parts dealt new tally
  tried_cut parts front back new dealt first rest tally cut dealt_is many both = λ writes all.
      let each = dealt_cut writes front back first rest many (subst (λ (ds : List GroupedWrites). AreDealt writes (front ++ back) ds) dealt_is (subst (λ (ps : List (StatePart S)). AreDealt writes ps dealt) cut all)) in
      subst (λ (ps : List (StatePart S)). AreTried tells custom count root writes ps new tally) (sym cut) (both writes each.0 each.1)

  -- parts that were tried in front, and parts that were tried behind
  pub tried_both : (front back ahead behind : List (StatePart S)) (first rest : List GroupedWrites) (one two both : Tally) → both ≡ joined one two → Tried front first ahead one → Tried back rest behind two
      → BothTried front back first rest (ahead ++ behind) both
  tried_both front back ahead behind first rest one two both is before after = λ writes dealt others.
      let x = before writes dealt in
      let y = after writes others in
      record {
        trials = x.trials ++ y.trials;
        each = All-append (λ trial. IsTrial tells custom count root (own_writes writes trial.old) trial) x.trials y.trials x.each y.each;
        olds = map-append (λ (t : Trial S). t.old) x.trials y.trials ∙ ap₂ ◌++◌ x.olds y.olds;
        news = map-append (λ (t : Trial S). t.new) x.trials y.trials ∙ ap₂ ◌++◌ x.news y.news;
        tally_is = is ∙ ap₂ joined x.tally_is y.tally_is ∙ tally_joined count x.trials y.trials;
      }

-- ---- what is said of a commit

module _ {S : Type 0} (tells : S → CellMap → Type 0) (custom : Custom) (count : S → ℕ) (root : Root) (writes : List Write) where
  -- of parts that were tried
  pub told_commit : (old new : List (StatePart S)) (tally : Tally) (result : Result CommitOutcome CommitFault) → result ≡ answer_of tally → AreTried tells custom count root writes old new tally → AreApart (plans_of old) → IsCommit tells custom count root writes old new result
  told_commit old new tally result is tried apart = record {
    plans = tried_plans tells custom count root writes old new tally tried;
    comes = λ memory. record { tally = tally; tried = tried; result_is = is };
    done = λ how. tried_done tells custom count root writes old new tally tried (sym is ∙ how);
    kept = tried_kept tells custom count root writes old new tally tried;
    failed = λ c p b a how. tried_failed tells custom count root writes old new tally tried c p b a (sym is ∙ how);
    bad = λ key how. tried_bad tells custom count root writes old new tally tried key (sym is ∙ how);
    never_falls = tried_up tells custom count root writes old new tally tried;
    counted = λ how told. tried_counted tells custom count root writes old new tally tried apart how (sym is ∙ told);
    at_most_once = tried_once tells custom count root writes old new tally tried;
  }

  -- of parts that were not
  pub untried_commit : (parts : List (StatePart S)) → IsCommit tells custom count root writes parts parts (Err Memory)
  untried_commit parts = record {
    plans = refl;
    comes = λ memory. absurd (memory refl);
    done = λ is. absurd (let e : ◌≡◌ {A = Result CommitOutcome CommitFault} (Err Memory) (Ok Done) = is in cc);
    kept = untried_kept tells custom count root writes parts;
    failed = λ c p b a is. absurd (let e : ◌≡◌ {A = Result CommitOutcome CommitFault} (Err Memory) (Ok (Failed c p b a)) = is in cc);
    bad = λ key is. absurd (let e : ◌≡◌ {A = Result CommitOutcome CommitFault} (Err Memory) (Err (BadCell key)) = is in cc);
    never_falls = untried_up tells custom count root parts;
    counted = λ how is. absurd (let e : ◌≡◌ {A = Result CommitOutcome CommitFault} (Err Memory) (Ok how) = is in cc);
    at_most_once = untried_once tells custom count root parts;
  }

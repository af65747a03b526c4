-- The counts of stores go along the end of the attempt whose commit came to an outcome.
use Rattle.std.proofs.Common.{◌≡◌, ◌≤◌, ◌<◌, ◌-◌, ◌^◌, inl, inr, ⊎_elim, ℕ, List, [], ◌∷◌, Option, None, Some, filter, length, refl, sym, ap, subst, arith}
use Rattle.std.proofs.lemmas.Bool.{cases_lt}
use Rattle.attempt_fates.specs.declared.fates.Attempt.{Attempt}
use Rattle.attempt_fates.specs.declared.fates.End.{End}
use Rattle.attempt_fates.specs.declared.fates.End.TheVariants as end
use Rattle.batch_commits.specs.Standing.{CountStep, FailuresAreCounted, TellsFailedPart, failed_commits}
use Rattle.commit_turns.specs.declared.wait.Wait.{Wait}
use Rattle.commit_turns.specs.Desks.{Desk, ended_at, without}
use Rattle.commit_turns.specs.Outcomes.{IsOutcome}
use Rattle.commit_turns.specs.Turns.{decided, decided_by, drops, end_by, ends_with, next_to_commit}
use Rattle.state_parts.specs.Commits.{CountFollows, CountsFollow, IsFailedPart}
use Rattle.state_parts.specs.declared.answer.CommitOutcome.{CommitOutcome}
use Rattle.state_parts.specs.declared.answer.CommitOutcome.TheVariants.{Done, Failed}
use Rattle.state_parts.specs.declared.parts.StatePart.{StatePart}
use Rattle.state_parts.specs.PartPlans.{AreParts, IsOneOf, PartPlan, plans_of}
use Rattle.tuple_account.specs.storm_values.Counts.{Rose, raised}
use Rattle.tuple_account.specs.topology_plan.Topology.{Topology}
use Rattle.tuple_account.specs.tree_model.declared.messages.AckMsg.{AckMsg}
use Rattle.taken_records.specs.Cuts.{Cut}
use Rattle.tuple_account.specs.Ends.{IsPart}
use Rattle.batch_commits.proofs.Numbers.{one_at, planned_is_part}
use Rattle.batch_commits.proofs.Running.{runs_quiet}
use Rattle.batch_commits.proofs.Turning.{none_dropped}

-- a count that was raised rose
rose_by_one : (before after : ℕ) → after ≡ raised before → Rose before after
rose_by_one before after is =
    ⊎_elim (λ (room : before < 2 ^ 64 - 1). inl (omega arith)) (λ (full : 2 ^ 64 - 1 ≤ before). inr (omega arith))
    (cases_lt before (2 ^ 64 - 1))

-- the end of one attempt, by what its commit came to
step_of : (t : Topology) (cut : Cut) (how : CommitOutcome) (list : Option (List AckMsg)) (component part low high : ℕ)
    → CountFollows how component part low high → CountStep component part (end_by t cut how list) low high
step_of t cut Done None component part low high follows = follows
step_of t cut Done (Some list) component part low high follows = follows
step_of t cut (Failed c p before after) list component part low high follows = follows

module _ {S : Type 0} (count : S → ℕ) where
  module _ (t : Topology) (cut : Cut) where
    -- the others that end with it tell of no failure
    pub ended_counted : (ended : Attempt) (others : List Attempt) (how : CommitOutcome) (list : Option (List AckMsg))
        (old new : List (StatePart S)) → CountsFollow count how old new → ended.end ≡ end_by t cut how list
        → failed_commits others ≡ 0 → FailuresAreCounted count (ended ∷ others) old new
    ended_counted ended others how list [] [] follow is none = tt
    ended_counted ended others how list [] (y ∷ ys) follow is none = absurd follow
    ended_counted ended others how list (x ∷ xs) [] follow is none = absurd follow
    ended_counted ended others how list (x ∷ xs) (y ∷ ys) follow is none = (
      (
        count y.over.store,
        subst (λ (e : End). CountStep x.component x.part e (count x.over.store) (count y.over.store)) (sym is)
            (step_of t cut how list x.component x.part (count x.over.store) (count y.over.store) follow.0),
        runs_quiet x.component x.part (count y.over.store) others none,
      ),
      ended_counted ended others how list xs ys follow.1 is none,
    )

    outcome_counted : (d : Desk) (w : Wait) (how : CommitOutcome) (old new : List (StatePart S)) → CountsFollow count how old new
        → FailuresAreCounted count (decided_by t cut how (Some w) d).ended old new
    outcome_counted d w Done old new follow =
        ended_counted (ended_at d.tick (end_by t cut Done w.settled) w) [] Done w.settled old new follow refl refl
    outcome_counted d w (Failed component part before after) old new follow =
        let left = without w.root d.pending in
        ended_counted (ended_at d.tick (end.CommitFailed component part before after) w) (drops t cut d.tick w.root left)
        (Failed component part before after) w.settled old new follow refl
        (ap length (none_dropped d.tick w.root (filter (ends_with t cut w.root) left)))

    pub decided_counted : (d : Desk) (w : Wait) (how : CommitOutcome) (old new : List (StatePart S)) → next_to_commit t cut d ≡ Some w
        → CountsFollow count how old new → FailuresAreCounted count (decided t cut how d).ended old new
    decided_counted d w how old new next follow =
        subst (λ (o : Option Wait). FailuresAreCounted count (decided_by t cut how o d).ended old new) (sym next)
        (outcome_counted d w how old new follow)

  module _ (t : Topology) (old new : List (StatePart S)) (planned : AreParts t old) where
    outcome_of_part : (c p before after : ℕ) → IsFailedPart count old new c p before after → IsPart t c p × Rose before after
    outcome_of_part c p before after failed =
        let one : IsOneOf (plans_of old) failed.was.component failed.was.part = one_at old failed.place failed.was failed.was_at in
        let here : IsOneOf (plans_of old) c p =
        subst (λ (k : ℕ). IsOneOf (plans_of old) k p) failed.component_is
        (subst (λ (k : ℕ). IsOneOf (plans_of old) failed.was.component k) failed.part_is one) in
        (planned_is_part t c p (subst (λ (ps : List PartPlan). IsOneOf ps c p) planned here), rose_by_one before after failed.rose)

    -- a part at which a commit fails is one of a state
    pub outcome_is : (how : CommitOutcome) → TellsFailedPart count old new how → IsOutcome t how
    outcome_is Done tells = tt
    outcome_is (Failed c p before after) tells = outcome_of_part c p before after (tells c p before after refl)

-- Turns over partitions, worked out by hand.
use Rattle.std.proofs.Common.{◌≡◌, ℕ, true, false, None, Some, List, [], ◌∷◌, refl}
use Rattle.std.specs.Prelude.{Bool}
use Rattle.std.specs.FinMap as fin_map
use Rattle.tuple_account.specs.acker_core.declared.verdict.Verdict.TheVariants.{Fails}
use Rattle.attempt_fates.specs.declared.fates.End.TheVariants as end
use Rattle.commit_turns.specs.declared.wait.Wait.{Wait}
use Rattle.record_spans.specs.declared.span.Span.{Span}
use Rattle.state_parts.specs.declared.answer.CommitOutcome.TheVariants as outcome
use Rattle.tuple_account.specs.storm_values.declared.value.Root.{Root}
use Rattle.tuple_account.specs.topology_plan.Topology.{Topology}
use Rattle.tuple_account.specs.topology_plan.declared.parts.Kind.TheVariants.{Opaque}
use Rattle.record_offers.specs.Offers.{free_records, offered}
use Rattle.taken_records.specs.Taken.{marked, runs_of}
use Rattle.taken_records.specs.Cuts.{Cut, offers_of}
use Rattle.commit_turns.specs.Desks.{Desk}
use Rattle.attempt_fates.specs.declared.fates.Attempt.{Attempt}
use Rattle.attempt_fates.specs.declared.fates.End.{End}
use Rattle.commit_turns.specs.Turns.{decided, heard, is_finished, one_tick}

-- two may be pending, of two attempts each, with 3 buckets
abbrev plan : Topology
plan = record {
  spout_fields = [];
  spout_kind = Opaque;
  batch = 2;
  partitions = 2;
  components = [];
  spout_subs = [];
  component_subs = [];
  ackers = 1;
  pending = 2;
  buckets = 3;
  attempts = 2;
}

-- four records in two partitions, of which a batch has two at most
abbrev four : Cut
four = record {
  records = [] ∷ [] ∷ [] ∷ [] ∷ [];
  size = 2;
  partitions = 2;
  start = 0;
  gone = false ∷ false ∷ false ∷ false ∷ [];
}

abbrev root : ℕ → ℕ → Root
root txid attempt = record { txid = txid; attempt = attempt }

abbrev span : ℕ → ℕ → Span
span first last = record { first = first; last = last }

abbrev odd : List Span
odd = span 1 1 ∷ span 3 3 ∷ []

abbrev even : List Span
even = span 2 2 ∷ span 4 4 ∷ []

abbrev timed : ℕ → ℕ → List Span → Wait
timed txid attempt spans = record { root = root txid attempt; spans = spans; start = 0; settled = None }

abbrev done : ℕ → List Span → Wait
done txid spans = record { root = root txid 1; spans = spans; start = 0; settled = Some [] }

abbrev fate : ℕ → ℕ → List Span → ℕ → End → Attempt
fate txid attempt spans finish how = record { root = root txid attempt; spans = spans; start = 0; finish = finish; end = how }

abbrev desk : ℕ → List Bool → List Wait → Desk
desk committed gone pending = record {
  tick = 2;
  committed = committed;
  tries = fin_map.empty;
  gone = gone;
  pending = pending;
  out = false;
  exhausted = None;
}

abbrev all_gone : List Bool
all_gone = true ∷ true ∷ true ∷ true ∷ []

-- while partition 1 is shut, the records of partition 0 are offered
shut_one : runs_of (offered (offers_of four four.gone) 1 2) ≡ odd
unfolding free_records
shut_one = refl

-- with none shut they are offered in the order of the input
none_shut : runs_of (offered (offers_of four four.gone) 1 0) ≡ span 1 2 ∷ []
unfolding free_records
none_shut = refl

then_others : runs_of (offered (offers_of four (marked true (span 1 2 ∷ []) four.gone)) 2 0) ≡ span 3 4 ∷ []
unfolding free_records
then_others = refl

-- with both shut none is
both_shut : offered (offers_of four four.gone) 1 3 ≡ []
unfolding free_records
both_shut = refl

-- a fail of the first drops the second, and the records of both come back
falls : (heard plan four (Some (Fails (root 1 1) [])) (desk 0 all_gone (timed 1 1 odd ∷ timed 2 1 even ∷ []))).ended
    ≡ fate 1 1 odd 2 (end.Failed []) ∷ fate 2 1 even 2 (end.Dropped (root 1 1)) ∷ []
falls = refl

comes_back : (heard plan four (Some (Fails (root 1 1) [])) (desk 0 all_gone (timed 1 1 odd ∷ timed 2 1 even ∷ []))).desk.gone ≡ false ∷ false ∷ false ∷ false ∷ []
comes_back = refl

-- a fail of the second drops none
second_falls : (heard plan four (Some (Fails (root 2 1) [])) (desk 0 all_gone (timed 1 1 odd ∷ timed 2 1 even ∷ []))).ended ≡ fate 2 1 even 2 (end.Failed []) ∷ []
second_falls = refl

-- both are late at one tick: neither is dropped
both_late : (one_tick plan four (desk 0 all_gone (timed 1 1 odd ∷ timed 2 1 even ∷ []))).ended
    ≡ fate 1 1 odd 3 end.TimedOut ∷ fate 2 1 even 3 end.TimedOut ∷ []
both_late = refl

-- the first is late: the second is dropped, though it was settled
settled_is_dropped : (one_tick plan four (desk 0 all_gone (timed 1 1 odd ∷ done 2 even ∷ []))).ended
    ≡ fate 1 1 odd 3 end.TimedOut ∷ fate 2 1 even 3 (end.Dropped (root 1 1)) ∷ []
settled_is_dropped = refl

-- a commit that fails drops the later ones, and one that is done drops none
commit_fails : (decided plan four (outcome.Failed 0 0 1 2) (desk 0 all_gone (done 1 odd ∷ timed 2 1 even ∷ []))).ended
    ≡ fate 1 1 odd 2 (end.CommitFailed 0 0 1 2) ∷ fate 2 1 even 2 (end.Dropped (root 1 1)) ∷ []
commit_fails = refl

commit_done : (decided plan four outcome.Done (desk 0 all_gone (done 1 odd ∷ timed 2 1 even ∷ []))).ended ≡ fate 1 1 odd 2 (end.Committed []) ∷ []
commit_done = refl

-- pending records are not committed
not_over : is_finished plan four (desk 1 all_gone (timed 2 1 even ∷ [])) ≡ false
not_over = refl

over : is_finished plan four (desk 2 all_gone []) ≡ true
over = refl

-- Where a run goes on.
use Rattle.std.proofs.Common.{◌≡◌, ℕ, zero, suc, ◌+◌, ◌-◌, ◌*◌, ◌^◌, ◌<◌, ◌≤◌, Bool, true, false, cond, List, [], ◌∷◌, All, Option, None, Some, Result, Ok, Err, IfOk, length, min, replicate, take, true≢false, refl, sym, ap, ap₂, subst, ◌∙◌, arith, string_bytes}
use Rattle.std.specs.Prelude.{IsSomeAnd, nat_lt}
use Rattle.std.proofs.lemmas.Bool.Decides.{nat_tests}
use Rattle.std.proofs.lemmas.List.{length-append, length-map}
use Rattle.std.specs.List.{range_with_len}
use Rattle.std.proofs.lemmas.List.FromFn.{length-range_with_len}
use Rattle.event_worlds.proofs.record_offers.BatchLemmas.{least}
use Rattle.event_worlds.proofs.taken_records.Marking.{are_marked}
use Rattle.event_worlds.specs.Accounted.{IsInput}
use Rattle.event_worlds.specs.record_offers.Offers.{AreMarked, OfferState, batch_count, fresh}
use Rattle.std.proofs.lemmas.Option.{none-some}
use Rattle.event_worlds.specs.record_offers.Starts.{IsPossible}
use Rattle.event_worlds.specs.record_spans.Fronts.{AreFronts}
use Rattle.event_worlds.specs.record_spans.Spans.{AreApart, end_of, numbers_of, records_of as numbers_in, stands_in}
use Rattle.event_worlds.specs.record_spans.declared.span.Span.{Span}
use Rattle.event_worlds.specs.storm_values.Limits.{most_lines}
use Rattle.event_worlds.specs.storm_values.Lines.{bad_line, first_some, input_fault, lines_of, records_of, row_of, too_big, too_many}
use Rattle.event_worlds.specs.storm_values.declared.lines.InputFault.{InputFault}
use Rattle.event_worlds.specs.storm_values.declared.lines.InputFault.TheVariants.{TooMany}
use Rattle.event_worlds.specs.storm_values.declared.value.Value.{Value}
use Rattle.event_worlds.specs.storm_values.Rows.{IsRow}
use Rattle.event_worlds.specs.taken_records.Cuts.{IsStart}
use Rattle.event_worlds.specs.taken_records.Taken.{marked}
use Rattle.event_worlds.specs.topology_plan.Topology.{Topology}
use Rattle.event_worlds.specs.topology_plan.Valid.{IsValid}
use Rattle.event_worlds.specs.topology_plan.Wired.{IsWired}
use Rattle.kept_commits.specs.Kept.{WasKept, first_meta}
use Rattle.resume_meta.specs.Keepers.{Held}
use Rattle.resume_meta.specs.Meta.{IsMeta, IsNoText, IsTextOf, meta_text}
use Rattle.resume_meta.specs.declared.meta.Meta.{Meta}
use Rattle.kept_commits.proofs.KeptRuns.{marks_are_cuts}
use Rattle.kept_commits.specs.KeptRuns.{cut_at}
use Rattle.storm_answers.specs.Ends.{HasText}
use Rattle.storm_answers.specs.declared.early_end.EarlyEnd.{EarlyEnd}
use Rattle.storm_answers.specs.declared.early_end.EarlyEnd.TheVariants.{Memory, Told}
use Rattle.storm_answers.specs.declared.status.Status.{Status}
use Rattle.storm_answers.specs.declared.status.Status.TheVariants as status
use Rattle.storm_answers.specs.steps.Stops.{IfTold, Stops}
use Rattle.storm_resume.specs.Keeping.{IsUnchanged, KeeperUse}
use Rattle.storm_resume.specs.Resume.{IsKeptLine, IsOfInput, TellsStart, cut_after, of_input, of_text}
use Rattle.storm_resume.specs.steps.Going.{StartComes}

-- ---- an accepted input has few records

none_of : (a b c : Option InputFault) → first_some (a ∷ b ∷ c ∷ []) ≡ None → c ≡ None
none_of (Some x) b c is = absurd (none-some x (sym is))
none_of None (Some x) c is = absurd (none-some x (sym is))
none_of None None None is = refl
none_of None None (Some x) is = absurd (none-some x (sym is))

few_lines : (most n : ℕ) → cond (nat_lt most n) (Some TooMany) None ≡ None → n ≤ most
few_lines most n is = grind (arith, nat_tests)

pub few_records : (bytes : List ℕ) (want : ℕ) → input_fault bytes want ≡ None → length (records_of bytes) ≤ most_lines
unfolding input_fault records_of
few_records bytes want none =
    let many = none_of (too_big bytes) (bad_line want 1 (take most_lines (lines_of bytes))) (too_many (lines_of bytes)) none in
    let few = few_lines most_lines (length (lines_of bytes)) many in
    let same = length-map (lines_of bytes) row_of in
    omega (arith, few, same)

-- ---- starts

fronts_none : (partitions : ℕ) → AreFronts partitions []
fronts_none partitions = λ i j less same stands. absurd (true≢false (sym stands))

-- nothing is gone at first
pub first_possible : (n size partitions : ℕ) → IsPossible n size partitions 0 []
first_possible n size partitions = record {
  apart = tt;
  within = omega arith;
  batches = λ none. let few : min (0 * size) n ≡ 0 = omega arith in (omega arith, sym (ap (range_with_len 1) few));
  offers = λ some. (omega arith, omega arith, fronts_none partitions);
}

-- a meta by its text
abbrev pub OneMeta : Type 0
OneMeta = (meta other : Meta) → IsMeta meta → IsMeta other → meta_text meta ≡ meta_text other → meta ≡ other

one_meta : OneMeta → (bytes : List ℕ) (a b : Meta) → IsTextOf bytes a → IsTextOf bytes b → a ≡ b
one_meta law bytes a b text_a text_b = law a b text_a.is_meta text_b.is_meta (sym text_a.is_text ∙ text_b.is_text)

-- what was kept says where it goes on
pub one_start : OneMeta → (held : Held) (a b : Meta) (n : ℕ) → WasKept held a → WasKept held b → a.records ≡ n → b.records ≡ n → a ≡ b
one_start law None a b n kept_a kept_b is_a is_b = kept_a ∙ ap first_meta (is_a ∙ sym is_b) ∙ sym kept_b
one_start law (Some bytes) a b n kept_a kept_b is_a is_b = one_meta law bytes a b kept_a kept_b

-- a line that refuses what is kept, where the keeper tells a start
pub never_refused : OneMeta → (plan : Topology) (records : List (List Value)) (keeper : KeeperUse) (text : List ℕ) (start : Meta) → TellsStart plan records keeper start → IsKeptLine plan records keeper text → ⊥
never_refused law plan records keeper text start tells (of_text bad is) = by tells.held tells.was_kept (bad tells.held tells.told)
  where
    by : (held : Held) → WasKept held start → IsSomeAnd held IsNoText → ⊥
    by None kept bad_text = bad_text
    by (Some bytes) kept bad_text = bad_text start kept
never_refused law plan records keeper text start tells (of_input meta read other is) = by tells.held tells.was_kept (read tells.held tells.told)
  where
    by : (held : Held) → WasKept held start → IsSomeAnd held (λ bytes. IsTextOf bytes meta) → ⊥
    by None kept text_of = text_of
    by (Some bytes) kept text_of = other (subst (λ (m : Meta). IsOfInput plan records m) (one_meta law bytes start meta kept text_of) tells.of_input)

-- ---- what is told

pub told_kept : (plan : Topology) (records : List (List Value)) (keeper : KeeperUse) (stop : EarlyEnd) (line : List ℕ) → IfTold stop (λ s text. (s ≡ status.Kept) × (text ≡ line)) → IsUnchanged keeper → IsKeptLine plan records keeper line → Stops (StartComes plan records keeper) stop
told_kept plan records keeper Memory line told same kept = same
told_kept plan records keeper (Told s text) line (is, at) same kept =
    subst (λ (t : Status). HasText t × StartComes plan records keeper t (string_bytes text)) (sym is) (tt, (subst (IsKeptLine plan records keeper) (sym at) kept, same))

-- ---- offers

pub cut_of : {E : Type 0} (r : Result OfferState E) (plan : Topology) (records : List (List Value)) (start : Meta) (size partitions : ℕ) → size ≡ plan.batch → partitions ≡ plan.partitions
    → IfOk r (λ o. o ≡ record { records = records; size = size; partitions = partitions; gone = o.gone; start = start.txid }) → IfOk r (λ o. AreMarked (stands_in start.spans) true (fresh records size partitions).gone o.gone) → IfOk r (λ o. o ≡ cut_after plan records start)
cut_of (Ok o) plan records start size partitions is_size is_partitions same marked =
    same ∙ marks_are_cuts records size partitions start o.gone marked ∙ ap₂ (λ (s p : ℕ). cut_at (fresh records s p) start) is_size is_partitions
cut_of (Err e) plan records start size partitions is_size is_partitions same marked = tt

-- the law of possible starts
abbrev pub PossibleStarts : Type 0
PossibleStarts =
    (records : List (List Value)) (size partitions txid : ℕ) (spans : List Span) (marks : List Bool) → 0 < size → txid + length records < 2 ^ 64 → IsPossible (length records) size partitions txid spans
    → AreMarked (stands_in spans) true (fresh records size partitions).gone marks → IsStart (record { records = records; size = size; partitions = partitions; gone = marks; start = txid })

-- the transactions up to a start took no more than the records that are gone
many_in : (low : ℕ) (spans : List Span) → AreApart low spans → low + length (numbers_in spans) ≤ end_of low spans
many_in low [] apart = omega arith
many_in low (span ∷ spans) apart =
    let a = apart.0 in
    let b = apart.1 in
    let both = length-append (numbers_of span) (numbers_in spans) in
    let own = length-range_with_len span.first (span.last + 1 - span.first) in
    let rest = many_in (span.last + 1) spans apart.2 in
    omega (arith, a, b, both, own, rest)

few_in : (n : ℕ) (spans : List Span) → AreApart 0 spans → end_of 0 spans ≤ n + 1 → length (numbers_in spans) ≤ n
few_in n [] apart within = omega arith
few_in n (span ∷ spans) apart within =
    let a = apart.0 in
    let b = apart.1 in
    let both = length-append (numbers_of span) (numbers_in spans) in
    let own = length-range_with_len span.first (span.last + 1 - span.first) in
    let rest = many_in (span.last + 1) spans apart.2 in
    omega (arith, a, b, both, own, rest, within)

few_batches : (n size : ℕ) → 0 < size → batch_count n size ≤ n
few_batches n size some = least n size n some (times_more n size some)
  where
    times_more : (n size : ℕ) → 0 < size → n ≤ n * size
    times_more zero size some = omega arith
    times_more (suc n) size some =
        let rest = times_more n size some in
        let product : suc n * size ≡ size + n * size = omega arith in
        omega (arith, rest, some, product)

few_txids : (n size partitions txid : ℕ) (spans : List Span) → 0 < size → IsPossible n size partitions txid spans → txid ≤ n
few_txids n size zero txid spans some possible =
    let few = (possible.batches refl).0 in
    let batches = few_batches n size some in
    omega (arith, few, batches)
few_txids n size (suc partitions) txid spans some possible =
    let few = (possible.offers (omega arith)).0 in
    let many = few_in n spans possible.apart possible.within in
    omega (arith, few, many)

pub input_of : {E : Type 0} (r : Result OfferState E) (plan : Topology) (records : List (List Value)) (start : Meta) → PossibleStarts → IsValid plan → IsWired plan → 0 < plan.batch → All (IsRow (length plan.spout_fields)) records → length records ≤ most_lines → IsOfInput plan records start
    → IfOk r (λ o. o ≡ cut_after plan records start) → IfOk r (IsInput plan)
input_of (Err e) plan records start law valid wired some rows few of same = tt
input_of (Ok o) plan records start law valid wired some rows few of same = subst (IsInput plan) (sym same) (record {
  valid = valid;
  wired = wired;
  size = refl;
  partitions = refl;
  start =
      law records plan.batch plan.partitions start.txid start.spans (marked true start.spans (replicate (length records) false)) some
      (let low = few_txids (length records) plan.batch plan.partitions start.txid start.spans some of.possible in omega (arith, low, few))
      of.possible (are_marked start.spans true (replicate (length records) false));
  rows = rows;
})

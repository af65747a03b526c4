-- What is held after a run, from what its follower was told.
use Rattle.std.proofs.Common.{◌≡◌, ◌⊎◌, ℕ, zero, suc, ◌+◌, ◌-◌, ◌<◌, ◌≤◌, ◌||◌, ◌&&◌, inl, inr, Bool, true, false, cond, List, [], ◌∷◌, None, Some, length, map, replicate, slice_index_or, refl, sym, ap, ap₂, subst, ◌∙◌, arith}
use Rattle.std.specs.Prelude.{nat_le}
use Rattle.std.specs.List.{AllByRecursion, AllZip, list_any, range_with_len}
use Rattle.std.proofs.lemmas.Bool.{cases_lt}
use Rattle.std.proofs.lemmas.Bool.Decides.{nat_tests}
use Rattle.std.proofs.lemmas.List.{length-map, length-replicate}
use Rattle.commit_order.proofs.taken_records.Marking.{gone_marked, marked_length, only_marked}
use Rattle.record_spans.proofs.SpanLemmas.{beyond}
use Rattle.commit_order.specs.attempt_fates.declared.fates.Attempt.{Attempt}
use Rattle.commit_order.specs.attempt_fates.Fates.{HasBatch, IsOnce, IsWhole, committed, committed_batches, committed_txids, is_committed}
use Rattle.commit_order.specs.Follows.{AreCommitsOf, IsCommitBy}
use Rattle.commit_order.specs.record_offers.Offers.{AreMarked, fresh, is_gone}
use Rattle.commit_order.specs.record_offers.Starts.{IsPossible}
use Rattle.commit_order.specs.storm_values.declared.value.Value.{Value}
use Rattle.commit_order.specs.taken_records.Cuts.{Cut}
use Rattle.commit_order.specs.taken_records.Taken.{one_if, times_in}
use Rattle.commit_order.specs.tree_model.storm_values.declared.value.Root.{Root}
use Rattle.record_spans.specs.Spans.{AreApart, end_of, stands_in}
use Rattle.record_spans.specs.declared.span.Span.{Span}
use Rattle.resume_meta.specs.Keepers.{Held}
use Rattle.resume_meta.specs.Meta.{AreSeparate}
use Rattle.resume_meta.specs.declared.meta.Meta.{Meta}
use Rattle.state_parts.specs.declared.answer.Commit.{Commit}
use Rattle.kept_commits.specs.Kept.{IsHeldAfter, Keeps, first_meta, start_of, txid_after}
use Rattle.kept_commits.specs.KeptRuns.{IsHeldAfterRun, IsMetaAfter, KeepsRun, all_spans, cut_at}
use Rattle.kept_commits.proofs.Unique.{one_list}

-- ---- transactions in a row

abbrev pub last_of : ℕ → List ℕ → ℕ
last_of txid [] = txid
last_of txid (n ∷ ns) = last_of n ns

last_in_row : (txid count : ℕ) → last_of txid (range_with_len (txid + 1) count) ≡ txid + count
last_in_row txid zero = omega arith
last_in_row txid (suc count) =
    let rest = last_in_row (txid + 1) count in
    omega (arith, rest)

-- the transactions of the commits of a run follow that of the start
pub last_committed : (cut : Cut) (txid ticks : ℕ) (fates : List Attempt) → cut.start ≡ txid → IsOnce cut ticks fates → last_of txid (committed_txids fates) ≡ txid + length (committed fates)
last_committed cut txid ticks fates start once =
    ap (last_of txid) (once.in_order ∙ ap (λ (n : ℕ). range_with_len (n + 1) (length (committed_txids fates))) start)
    ∙ last_in_row txid (length (committed_txids fates))
    ∙ ap (λ (n : ℕ). txid + n) (length-map (committed fates) (λ (a : Attempt). a.root.txid))

-- ---- what was told of them

told_txids : (txid : ℕ) (as_ : List Attempt) (commits : List Commit) → AllZip IsCommitBy as_ commits → txid_after txid commits ≡ last_of txid (map (λ (a : Attempt). a.root.txid) as_)
told_txids txid [] [] are = refl
told_txids txid [] (c ∷ commits) are = absurd are
told_txids txid (a ∷ as_) [] are = absurd are
told_txids txid (a ∷ as_) (c ∷ commits) (is, are) =
    ap (λ (r : Root). txid_after r.txid commits) is.root ∙ told_txids a.root.txid as_ commits are

told_spans : (as_ : List Attempt) (commits : List Commit) → AllZip IsCommitBy as_ commits → (n : ℕ)
    → list_any (λ (c : Commit). stands_in c.spans n) commits ≡ list_any (λ (spans : List Span). stands_in spans n) (map (λ (a : Attempt). a.spans) as_)
told_spans [] [] are n = refl
told_spans [] (c ∷ commits) are n = absurd are
told_spans (a ∷ as_) [] are n = absurd are
told_spans (a ∷ as_) (c ∷ commits) (is, are) n =
    ap₂ (λ (x y : Bool). x || y) (ap (λ (ss : List Span). stands_in ss n) is.spans) (told_spans as_ commits are n)

-- ---- what is held

head_spans : List Commit → List Span
head_spans [] = []
head_spans (c ∷ commits) = c.spans

head_txid : List Commit → ℕ
head_txid [] = 0
head_txid (c ∷ commits) = c.root.txid

rest_of : List Commit → List Commit
rest_of [] = []
rest_of (c ∷ commits) = commits

none_told : (as_ : List Attempt) (commits : List Commit) → commits ≡ [] → AllZip IsCommitBy as_ commits → as_ ≡ []
none_told [] commits none are = refl
none_told (a ∷ as_) commits none are = absurd (subst (λ (cs : List Commit). AllZip IsCommitBy (a ∷ as_) cs) none are)

first_of : (start : Meta) (commits : List Commit) → start_of start ∷ commits ≡ start_of (first_meta start.records) ∷ [] → start ≡ first_meta start.records
unfolding head_spans head_txid
first_of start commits is = ap₂ (λ (t : ℕ) (ss : List Span). record { txid = t; records = start.records; spans = ss }) (ap head_txid is) (ap head_spans is)

module _ {P : Type 0} (holds : P → Held → Type 0) where
  pub followers_keep_runs : (start : Meta) (cut : Cut) (ticks : ℕ) (fates : List Attempt) (commits : List Commit) (keeper : P) → cut.start ≡ start.txid → IsOnce cut ticks fates → AreCommitsOf fates commits → Keeps holds keeper (start_of start ∷ commits) → KeepsRun holds keeper start fates
  unfolding rest_of
  followers_keep_runs start cut ticks fates commits keeper at once are keeps =
      record { held = keeps.held; is_held = keeps.is_held; after = by keeps.held keeps.after }
    where
      by : (held : Held) → IsHeldAfter (start_of start ∷ commits) held → IsHeldAfterRun start fates held
      by None is = (first_of start commits is, none_told (committed fates) commits (ap rest_of is) are)
      by (Some bytes) kept = (
        kept.meta,
        kept.text,
        record {
          txid = kept.of.txid ∙ told_txids start.txid (committed fates) commits are ∙ last_committed cut start.txid ticks fates at once;
          input = kept.of.input;
          gone = λ n. kept.of.gone n ∙ ap (λ (b : Bool). stands_in start.spans n || b) (told_spans (committed fates) commits are n);
        },
      )

-- ---- all records

-- a mark of a cut
pub gone_at : (records : List (List Value)) (size partitions : ℕ) (start : Meta) (n : ℕ) → 1 ≤ n → n ≤ length records → is_gone (cut_at (fresh records size partitions) start).gone n ≡ stands_in start.spans n
gone_at records size partitions start n first last =
    let many = length-replicate (length records) false in
    gone_marked start.spans true (replicate (length records) false) n first (omega (arith, last, many))
    ∙ ap (λ (b : Bool). cond (stands_in start.spans n) true b) (none_gone (length records) (n - 1) (omega (arith, first, last)))
    ∙ or_self (stands_in start.spans n)
  where
    none_gone : (m i : ℕ) → i < m → slice_index_or (replicate m false) i true ≡ false
    none_gone zero i within = absurd (omega arith)
    none_gone (suc m) zero within = refl
    none_gone (suc m) (suc i) within = none_gone m i (omega arith)

    or_self : (b : Bool) → cond b true false ≡ b
    or_self true = refl
    or_self false = refl

pub marks_len : (records : List (List Value)) (size partitions : ℕ) (start : Meta) → length (cut_at (fresh records size partitions) start).gone ≡ length records
marks_len records size partitions start = marked_length true start.spans 1 (replicate (length records) false) ∙ length-replicate (length records) false

-- a record that is in no batch stands in none, and one that is in one stands in one
in_none : (batches : List (List Span)) (n : ℕ) → times_in batches n ≡ 0 → list_any (λ (spans : List Span). stands_in spans n) batches ≡ false
in_none [] n none = refl
in_none (spans ∷ batches) n none = by (stands_in spans n) refl (in_none batches n)
  where
    by : (b : Bool) → stands_in spans n ≡ b → (times_in batches n ≡ 0 → list_any (λ (ss : List Span). stands_in ss n) batches ≡ false) → (stands_in spans n || list_any (λ (ss : List Span). stands_in ss n) batches) ≡ false
    by true is rest = let one = ap one_if is in absurd (omega (arith, none, one))
    by false is rest = rw is (rest (omega (arith, none)))

in_some : (batches : List (List Span)) (n : ℕ) → 1 ≤ times_in batches n → list_any (λ (spans : List Span). stands_in spans n) batches ≡ true
in_some [] n some = absurd (omega (arith, some))
in_some (spans ∷ batches) n some = by (stands_in spans n) refl (in_some batches n)
  where
    by : (b : Bool) → stands_in spans n ≡ b → (1 ≤ times_in batches n → list_any (λ (ss : List Span). stands_in ss n) batches ≡ true) → (stands_in spans n || list_any (λ (ss : List Span). stands_in ss n) batches) ≡ true
    by true is rest = rw is refl
    by false is rest = let one = ap one_if is in rw is (rest (omega (arith, some, one)))

-- a number that is no record stands in no spans of records
past : (low : ℕ) (spans : List Span) → AreApart low spans → low ≤ end_of low spans
past low [] apart = omega arith
past low (span ∷ spans) apart =
    let a = apart.0 in
    let b = apart.1 in
    let c = past (span.last + 1) spans apart.2 in
    omega (arith, a, b, c)

above_end : (low : ℕ) (spans : List Span) (n : ℕ) → AreApart low spans → end_of low spans ≤ n → stands_in spans n ≡ false
above_end low [] n apart above = refl
above_end low (span ∷ spans) n apart above =
    let more = past (span.last + 1) spans apart.2 in
    let off : (nat_le span.first n && nat_le n span.last) ≡ false = grind (arith, nat_tests, more, above) in
    let rest = above_end (span.last + 1) spans n apart.2 above in
    rw (off, rest) refl

no_record : (records : ℕ) (spans : List Span) (n : ℕ) → AreApart 0 spans → end_of 0 spans ≤ records + 1 → (1 ≤ n → records < n) → stands_in spans n ≡ false
no_record records spans zero apart within outside = beyond 0 spans 0 apart (omega arith)
no_record records spans (suc n) apart within outside =
    let far = outside (omega arith) in
    above_end 0 spans (suc n) apart (omega (arith, within, far))

-- what stands in batches are records
pub within_batches : (cut : Cut) (as_ : List Attempt) (n : ℕ) → AllByRecursion (λ (a : Attempt). HasBatch cut a.root.txid a.spans) as_ → (1 ≤ n → length cut.gone < n) → list_any (λ (spans : List Span). stands_in spans n) (map (λ (a : Attempt). a.spans) as_) ≡ false
within_batches cut [] n all outside = refl
within_batches cut (a ∷ as_) n (here, all) outside =
    ap₂ (λ (x y : Bool). x || y) (no_record (length cut.gone) a.spans n here.batch.apart here.batch.within outside) (within_batches cut as_ n all outside)

some_of : (P : Attempt → Type 0) (fates : List Attempt) → AllByRecursion P fates → AllByRecursion P (committed fates)
some_of P [] all = tt
some_of P (a ∷ fates) all = by (is_committed a.end) (some_of P fates all.1)
  where
    by : (b : Bool) → AllByRecursion P (committed fates) → AllByRecursion P (cond b (a ∷ committed fates) (committed fates))
    by true rest = (all.0, rest)
    by false rest = rest

all_separate : (n : ℕ) → AreSeparate (all_spans n)
all_separate zero = tt
all_separate (suc n) = (omega arith, tt)

all_inside : (n m : ℕ) → 1 ≤ m → m ≤ n → stands_in (all_spans n) m ≡ true
all_inside zero m first last = absurd (omega (arith, first, last))
all_inside (suc n) m first last =
    let on : (nat_le 1 m && nat_le m (suc n)) ≡ true = grind (arith, nat_tests, first, last) in
    rw on refl

all_outside : (n m : ℕ) → (1 ≤ m → n < m) → stands_in (all_spans n) m ≡ false
all_outside zero m outside = refl
all_outside (suc n) zero outside = refl
all_outside (suc n) (suc m) outside =
    let far = outside (omega arith) in
    let off : (nat_le 1 (suc m) && nat_le (suc m) (suc n)) ≡ false = grind (arith, nat_tests, far) in
    rw off refl

module _ (records : List (List Value)) (size partitions : ℕ) (start : Meta) (ticks : ℕ) (fates : List Attempt) (meta : Meta) (possible : IsPossible (length records) size partitions start.txid start.spans)
    (whole : IsWhole (cut_at (fresh records size partitions) start) ticks fates) (after : IsMetaAfter start fates meta) (separate : AreSeparate meta.spans) where
  inside : (n : ℕ) → 1 ≤ n → n ≤ length records → stands_in meta.spans n ≡ true
  inside n first last = after.gone n ∙ by (stands_in start.spans n) refl
    where
      by : (b : Bool) → stands_in start.spans n ≡ b → (stands_in start.spans n || list_any (λ (ss : List Span). stands_in ss n) (committed_batches fates)) ≡ true
      by true is = rw is refl
      by false is =
          let len = marks_len records size partitions start in
          let one = whole.all_records n first (omega (arith, last, len)) in
          let left = ap one_if (gone_at records size partitions start n first last ∙ is) in
          rw is (in_some (committed_batches fates) n (omega (arith, one, left)))

  outside : (n : ℕ) → (1 ≤ n → length records < n) → stands_in meta.spans n ≡ false
  outside n far = after.gone n ∙ ap₂ (λ (x y : Bool). x || y) (no_record (length records) start.spans n possible.apart possible.within far) batches
    where
      batches : list_any (λ (ss : List Span). stands_in ss n) (committed_batches fates) ≡ false
      batches =
          within_batches (cut_at (fresh records size partitions) start) (committed fates) n
          (some_of (λ (a : Attempt). HasBatch (cut_at (fresh records size partitions) start) a.root.txid a.spans) fates whole.once.batches)
          (λ first. let len = marks_len records size partitions start in let beyond_ = far first in omega (arith, len, beyond_))

  same : (n : ℕ) → stands_in meta.spans n ≡ stands_in (all_spans (length records)) n
  same n = by (cases_lt n 1) (cases_lt (length records) n)
    where
      by : (n < 1) ⊎ (1 ≤ n) → (length records < n) ⊎ (n ≤ length records) → stands_in meta.spans n ≡ stands_in (all_spans (length records)) n
      by (inr first) (inr last) = inside n first last ∙ sym (all_inside (length records) n first last)
      by (inl none) last = outside n (λ first. absurd (omega (arith, none, first))) ∙ sym (all_outside (length records) n (λ first. absurd (omega (arith, none, first))))
      by first (inl far) = outside n (λ some. far) ∙ sym (all_outside (length records) n (λ some. far))

  -- once all is committed, the spans are those of all records
  pub whole_runs_are_kept : meta.spans ≡ all_spans (length records)
  whole_runs_are_kept = one_list meta.spans (all_spans (length records)) separate (all_separate (length records)) same

-- ---- the offers of a start

pub marks_are_cuts : (records : List (List Value)) (size partitions : ℕ) (start : Meta) (marks : List Bool) → AreMarked (stands_in start.spans) true (fresh records size partitions).gone marks
    → record { records = records; size = size; partitions = partitions; gone = marks; start = start.txid } ≡ cut_at (fresh records size partitions) start
marks_are_cuts records size partitions start marks are =
    ap (λ (gone : List Bool). record { records = records; size = size; partitions = partitions; gone = gone; start = start.txid }) (only_marked start.spans true (replicate (length records) false) marks are)

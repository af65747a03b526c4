-- What is held after a run, by what its fates say was committed. This project's own.
use Rattle.std.specs.Prelude.{◌≡◌, ℕ, zero, suc, ◌+◌, ◌||◌, true, false, List, [], ◌∷◌, None, Some, length, replicate}
use Rattle.std.specs.List.{list_any}
use Rattle.commit_order.specs.attempt_fates.declared.fates.Attempt.{Attempt}
use Rattle.commit_order.specs.attempt_fates.Fates.{committed, committed_batches}
use Rattle.commit_order.specs.taken_records.Cuts.{Cut}
use Rattle.commit_order.specs.taken_records.Taken.{marked}
use Rattle.record_spans.specs.declared.span.Span.{Span}
use Rattle.record_spans.specs.Spans.{stands_in}
use Rattle.resume_meta.specs.Keepers.{Held}
use Rattle.resume_meta.specs.Meta.{IsTextOf}
use Rattle.resume_meta.specs.declared.meta.Meta.{Meta}
use Rattle.kept_commits.specs.Kept.{first_meta}

-- ---- what is held

-- the meta after a start and what some fates say was committed
pub record IsMetaAfter (start : Meta) (fates : List Attempt) (meta : Meta) : Type 0 where
  pub txid : meta.txid ≡ start.txid + length (committed fates)
  pub input : meta.records ≡ start.records
  pub gone : (n : ℕ) → stands_in meta.spans n
      ≡ (stands_in start.spans n
      || list_any (λ (spans : List Span). stands_in spans n) (committed_batches fates))

-- it is held as its text; or nothing is, where nothing was and nothing was committed
abbrev pub IsHeldAfterRun : Meta → List Attempt → Held → Type 0
IsHeldAfterRun start fates None = (start ≡ first_meta start.records) × (committed fates ≡ [])
IsHeldAfterRun start fates (Some bytes) =
    (meta : Meta) × IsTextOf bytes meta × IsMetaAfter start fates meta

-- a keeper tells that it holds what is held after a run
pub record KeepsRun {P : Type 0} (holds : P → Held → Type 0) (keeper : P) (start : Meta)
    (fates : List Attempt) : Type 0 where
  pub held : Held
  pub is_held : holds keeper held
  pub after : IsHeldAfterRun start fates held

-- ---- where a run begins

-- the offers of a run that begins after a meta, whose records are gone
abbrev pub cut_at : Cut → Meta → Cut
cut_at cut meta = record {
  records = cut.records;
  size = cut.size;
  partitions = cut.partitions;
  gone = marked true meta.spans (replicate (length cut.records) false);
  start = meta.txid;
}

-- the span of the records 1 to n
abbrev pub all_spans : ℕ → List Span
all_spans zero = []
all_spans (suc n) = record { first = 1; last = suc n } ∷ []

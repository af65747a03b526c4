-- What one commit more adds to a meta. This project's own.
use Rattle.std.specs.Prelude.{◌≡◌, ◌<◌, ◌^◌, ◌||◌, ℕ, Bool, true, List, [], ◌∷◌, Result, Ok, Err}
use Rattle.std.specs.List.{AllByRecursion}
use Rattle.record_spans.specs.declared.span.Span.{Span}
use Rattle.record_spans.specs.Spans.{stands_in}
use Rattle.report_grammar.specs.WellFormed.{IsSpan}
use Rattle.resume_meta.specs.Meta.{AreSeparate}
use Rattle.resume_meta.specs.declared.meta.Meta.{Meta}
use Rattle.storm_stores.specs.declared.fault.StoreFault.{StoreFault}
use Rattle.storm_stores.specs.declared.fault.StoreFault.TheVariants as fault
use Rattle.state_parts.specs.declared.answer.Commit.{Commit}

-- the first number of the last of some spans, or the number given where there are none
abbrev pub begin_of : ℕ → List Span → ℕ
begin_of low [] = low
begin_of low (span ∷ spans) = begin_of span.first spans

-- a meta is the one after one commit more
pub record IsNext (meta : Meta) (commit : Commit) (made : Meta) : Type 0 where
  pub txid : made.txid ≡ commit.root.txid
  pub records : made.records ≡ meta.records
  pub txid_fits : made.txid < 2 ^ 64
  pub records_fit : made.records < 2 ^ 64
  pub separate : AreSeparate made.spans
  pub numbers : (n : ℕ)
      → stands_in made.spans n ≡ (stands_in meta.spans n || stands_in commit.spans n)
  pub fit : AllByRecursion IsSpan made.spans

-- whether no further commit is taken after this answer
abbrev pub is_broken_by : Result (Unit {0}) StoreFault → Bool → Bool
is_broken_by (Err fault.Failed) broken = true
is_broken_by (Err fault.Memory) broken = broken
is_broken_by (Ok done) broken = broken

use Rattle.std.proofs.Common.{ℕ, ◌≡◌, ◌≤◌, ◌<◌, length, get_or, take}
use Rattle.std.specs.List.{AllByRecursion}
use Rattle.record_spans.specs.Spans.{stands_in}
use Rattle.report_grammar.specs.WellFormed.{IsSpan}
use Rattle.resume_meta.specs.Meta.{AreSeparate}
use Rattle.kept_commits.specs.Steps.{begin_of}
use Rattle.kept_commits.proofs.joining.runs_of.Given as goal

abbrev pub invariant-loop-span : goal.invariant-loop-span
invariant-loop-span l = record {
  separate : AreSeparate l.runs.items;
  behind : (k : ℕ) → l.span-index ≤ k → k < length l.spans → begin_of 0 l.runs.items ≤ (get_or l.spans k (record { first = 0; last = 0 })).first;
  numbers : (n : ℕ) → stands_in l.runs.items n ≡ stands_in (take l.span-index l.spans) n;
  fit : AllByRecursion IsSpan l.runs.items;
}

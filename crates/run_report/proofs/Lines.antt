-- The lines of fates.
use Rattle.std.proofs.Common.{◌≡◌, ◌<◌, ℕ, zero, suc, ◌+◌, ◌%◌, List, [], ◌∷◌, ◌++◌, take, length, get_or, map, codes, refl, sym, ap, ap₂, ◌∙◌, append_assoc, append-nil, subst, arith, Result, OnOk}
use Rattle.std.proofs.lemmas.List.{map-append}
use Rattle.std.proofs.lemmas.Result.{on_ok_weaker}
use Rattle.std.specs.List.{flat_map}
use Rattle.std.specs.List.Sorted.{IsStrictlySortedBy}
use Rattle.std.proofs.lemmas.Grind.{flat_map-append}
use Rattle.tree_model.specs.storm_values.declared.value.Root.{Root}
use Rattle.tree_model.specs.topology_plan.Topology.{Topology}
use Rattle.tree_model.specs.declared.messages.AckMsg.{AckMsg}
use Rattle.tree_model.specs.declared.write.Table.{Table}
use Rattle.tree_model.specs.Lists.{occurrences, IsClosed}
use Rattle.tree_model.specs.tuple_tickets.declared.edge.Edge.{Edge}
use Rattle.tree_model.specs.tuple_tickets.Edges.{times}
use Rattle.acker_core.specs.Edges.{AreLeft}
use Rattle.attempt_fates.specs.declared.fates.Attempt.{Attempt}
use Rattle.attempt_fates.specs.declared.fates.End.{End}
use Rattle.attempt_fates.specs.declared.fates.End.TheVariants as ends
use Rattle.report_lines.specs.declared.report.{AttemptLine.AttemptLine, Report.Report, Tail.Tail}
use Rattle.report_lines.specs.Told.{attempt_told, cell_told, edge_told, tail_told, told}
use Rattle.run_report.specs.Cells.{cells_of}
use Rattle.run_report.specs.Fated.{name_at, AreOpenOf, IsEndOf, line_with, IsLineOf, AreLinesOf, IsReportText}
use Rattle.report_grammar.specs.Report.{EdgeText, EndText, failed, coincided, commit_failed, dropped, end_text, AttemptText, attempt_text, cell_text, tail_text, report_text}
use Rattle.run_report.specs.Steps.{heading_of, AddsOpen, AddsCoincided, AddsEnd, AddsLine, AddsLines}
use Rattle.run_report.proofs.Left.{left_is_one}

-- ---- one list of lines

open_are_one : (list : List AckMsg) (told other : List EdgeText) → AreOpenOf list told → AreOpenOf list other → told ≡ other
open_are_one list told other first second =
    first.are_told ∙ (ap (map edge_told) (left_is_one (occurrences list) first.edges second.edges first.are_left second.are_left) ∙ sym second.are_told)

end_is_one : (plan : Topology) (end : End) (told other : EndText) → IsEndOf plan end told → IsEndOf plan end other → told ≡ other
end_is_one plan (ends.Committed list) told other first second = first ∙ sym second
end_is_one plan (ends.Failed path) told other first second = first ∙ sym second
end_is_one plan ends.TimedOut told other first second = first ∙ sym second
end_is_one plan (ends.Coincided list) told other first second =
    first.2 ∙ (ap coincided (open_are_one list first.0 second.0 first.1 second.1) ∙ sym second.2)
end_is_one plan (ends.CommitFailed component part before after) told other first second = first ∙ sym second
end_is_one plan (ends.Dropped by) told other first second = first ∙ sym second

line_is_one : (plan : Topology) (a : Attempt) (line other : AttemptText) → IsLineOf plan a line → IsLineOf plan a other → line ≡ other
line_is_one plan a line other first second =
    first.is_line ∙ (ap (line_with a) (end_is_one plan a.end first.told second.told first.is_end second.is_end) ∙ sym second.is_line)

pub lines_one : (plan : Topology) (fates : List Attempt) (lines others : List AttemptText) → AreLinesOf plan fates lines → AreLinesOf plan fates others → lines ≡ others
lines_one plan [] [] [] first second = refl
lines_one plan [] [] (o ∷ os) first second = absurd second
lines_one plan [] (l ∷ ls) others first second = absurd first
lines_one plan (a ∷ as_) [] others first second = absurd first
lines_one plan (a ∷ as_) (l ∷ ls) [] first second = absurd second
lines_one plan (a ∷ as_) (l ∷ ls) (o ∷ os) first second =
    ap₂ (λ x xs. x ∷ xs) (line_is_one plan a l o first.0 second.0) (lines_one plan as_ ls os first.1 second.1)

-- ---- edges and ends that are added

pub nothing_left : (all : List Edge) → ((e : Edge) → times e all % 2 ≡ 0) → AreLeft all []
unfolding IsStrictlySortedBy
nothing_left all closed = record { odd = λ e. sym (closed e); ordered = tt }

pub none_open : (list : List AckMsg) (told : List EdgeText) → told ≡ [] → IsClosed list → AreOpenOf list told
none_open list told is closed = record { edges = []; are_left = nothing_left (occurrences list) closed; are_told = is }

pub adds_nothing : (list : List AckMsg) (text : List ℕ) → IsClosed list → AddsOpen list text text
adds_nothing list text closed = record {
  edges = [];
  are_open = record { edges = []; are_left = nothing_left (occurrences list) closed; are_told = refl };
  added = sym (append-nil text);
}

module _ (plan : Topology) (end : End) where
  pub failed_adds : {T E : Type 0} (path old new : List ℕ) (r : Result T E) → end ≡ ends.Failed path → OnOk r (new ≡ old ++ end_text (failed path)) → OnOk r (AddsEnd plan end old new)
  failed_adds path old new r is adds =
      on_ok_weaker r (λ added. rw is (record { told = failed path; is_end = refl; added = added })) adds

  pub coincided_adds : {T E : Type 0} (list : List AckMsg) (old new : List ℕ) (r : Result T E) → end ≡ ends.Coincided list → OnOk r (AddsCoincided list old new) → OnOk r (AddsEnd plan end old new)
  coincided_adds list old new r is adds =
      on_ok_weaker r (λ open_. rw is (record { told = coincided open_.edges; is_end = (open_.edges, open_.are_open, refl); added = open_.added })) adds

  pub commit_failed_adds : {T E : Type 0} (component part before after : ℕ) (name old new : List ℕ) (r : Result T E) → end ≡ ends.CommitFailed component part before after → name ≡ name_at plan component → OnOk r (new ≡ old ++ end_text (commit_failed name part)) → OnOk r (AddsEnd plan end old new)
  commit_failed_adds component part before after name old new r is named adds =
      on_ok_weaker r (λ added. rw is (record { told = commit_failed name part; is_end = ap (λ state. commit_failed state part) named; added = added })) adds

  pub dropped_adds : {T E : Type 0} (by : Root) (old new : List ℕ) (r : Result T E) → end ≡ ends.Dropped by
      → OnOk r (new ≡ old ++ end_text (dropped by)) → OnOk r (AddsEnd plan end old new)
  dropped_adds by old new r is adds =
      on_ok_weaker r (λ added. rw is (record { told = dropped by; is_end = refl; added = added })) adds

-- ---- lines that are added

-- one line more
zip_more : (plan : Topology) (fates : List Attempt) (i : ℕ) (a : Attempt) (lines : List AttemptText) (line : AttemptText) → i < length fates → a ≡ get_or fates i a → AreLinesOf plan (take i fates) lines → IsLineOf plan a line → AreLinesOf plan (take (i + 1) fates) (lines ++ line ∷ [])
zip_more plan [] i a lines line there is are more = absurd (omega arith)
zip_more plan (f ∷ fates) zero a [] line there is are more = (subst (λ x. IsLineOf plan x line) is more, tt)
zip_more plan (f ∷ fates) zero a (l ∷ lines) line there is are more = absurd are
zip_more plan (f ∷ fates) (suc i) a [] line there is are more = absurd are
zip_more plan (f ∷ fates) (suc i) a (l ∷ lines) line there is are more =
    let next : suc (i + 1) ≡ suc i + 1 = omega arith in
    subst (λ k. AreLinesOf plan (take k (f ∷ fates)) (l ∷ (lines ++ line ∷ []))) next (are.0, zip_more plan fates i a lines line (omega arith) is are.1 more)

pub adds_more : (plan : Topology) (fates : List Attempt) (i : ℕ) (a : Attempt) (old mid new : List ℕ) → i < length fates → a ≡ get_or fates i a → AddsLines plan (take i fates) old mid → AddsLine plan a mid new → AddsLines plan (take (i + 1) fates) old new
adds_more plan fates i a old mid new there is adds more = record {
  lines = adds.lines ++ more.line ∷ [];
  are_lines = zip_more plan fates i a adds.lines more.line there is adds.are_lines more.is_line;
  added =
      more.added ∙ (ap (λ text. text ++ attempt_text more.line) adds.added
      ∙ (append_assoc old (flat_map attempt_text adds.lines) (attempt_text more.line)
      ∙ ap (λ text. old ++ text) (sym (flat_map-append attempt_text adds.lines (more.line ∷ []) ∙ ap (λ text. flat_map attempt_text adds.lines ++ text) (append-nil (attempt_text more.line))))));
}

-- the line of a value more
pub told_more : (plan : Topology) (fates : List Attempt) (i : ℕ) (a : Attempt) (old new : List AttemptLine) (line : AttemptLine) → i < length fates → a ≡ get_or fates i a → AreLinesOf plan (take i fates) (map attempt_told old) → IsLineOf plan a (attempt_told line) → new ≡ old ++ line ∷ [] → AreLinesOf plan (take (i + 1) fates) (map attempt_told new)
told_more plan fates i a old new line there is are more all =
    subst (λ lines. AreLinesOf plan (take (i + 1) fates) lines) (sym (ap (map attempt_told) all ∙ map-append attempt_told old (line ∷ []))) (zip_more plan fates i a (map attempt_told old) (attempt_told line) there is are more)

-- a heading, an end and a line end are a line
pub adds_line : (plan : Topology) (a : Attempt) (old headed ended new : List ℕ) → headed ≡ old ++ heading_of a → AddsEnd plan a.end headed ended → new ≡ ended ++ codes "\n" → AddsLine plan a old new
unfolding heading_of
adds_line plan a old headed ended new headed_is adds new_is = record {
  line = line_with a adds.told;
  is_line = record { told = adds.told; is_end = adds.is_end; is_line = refl };
  added = rw (new_is, adds.added, headed_is) (simp append_assoc);
}

-- ---- a report

pub report_made : (plan : Topology) (fates : List Attempt) (tables : List Table) (tail : Tail) (none lined celled text : List ℕ) → none ≡ [] → AddsLines plan fates none lined → celled ≡ lined ++ flat_map cell_text (cells_of tables) → text ≡ celled ++ tail_text (tail_told tail) → IsReportText plan fates tables tail text
unfolding report_text
report_made plan fates tables tail none lined celled text empty adds cells tailed = record {
  lines = adds.lines;
  are_lines = adds.are_lines;
  printed =
      tailed ∙ ap (λ t. t ++ tail_text (tail_told tail)) (cells ∙ ap (λ t. t ++ flat_map cell_text (cells_of tables)) (adds.added ∙ ap (λ t. t ++ flat_map attempt_text adds.lines) empty));
}

pub value_made : (plan : Topology) (fates : List Attempt) (tables : List Table) (tail : Tail) (report : Report) → AreLinesOf plan fates (map attempt_told report.lines) → map cell_told report.cells ≡ cells_of tables → report.tail ≡ tail → IsReportText plan fates tables tail (report_text (told report))
value_made plan fates tables tail report are cells ends = record {
  lines = map attempt_told report.lines;
  are_lines = are;
  printed = λ i. report_text (record { attempts = map attempt_told report.lines; cells = cells i; tail = tail_told (ends i) });
}

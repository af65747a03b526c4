use Rattle.std.proofs.Common.{Some, [], ◌∷◌, map, option_map, ap, sym, ◌∙◌}
use Rattle.std.proofs.lemmas.List.{map-append}
use Rattle.report_lines.specs.Told.{attempt_told, cell_told, tail_told}
use Rattle.report_lines.specs.steps.Gathered.{gathered_told}
use Rattle.report_grammar.specs.steps.Gathered.{Gathered}
use Rattle.report_lines.proofs.GatheredLemmas.{first_attempts, made_of, no_attempt}
use Rattle.report_lines.proofs.gathered.Gathered.add_attempt.Goals as goal

pub returns-then-not-is_empty : goal.returns-then-not-is_empty
returns-then-not-is_empty c =
    no_attempt (gathered_told c.args.self.now) (attempt_told c.args.attempt) c.args.self.now.cells c.is_empty.result c.is_empty.ensures c.if-not-is_empty.true

pub returns : goal.returns
returns c =
    let g = c.args.self.now in
    let pushed = ap (map attempt_told) c.in_ok-push.ensures.ok ∙ map-append attempt_told g.attempts (c.args.attempt ∷ []) in
    first_attempts (gathered_told g) (attempt_told c.args.attempt) g.cells c.is_empty.result c.is_empty.ensures c.if-not-is_empty.false
    ∙ ap (λ xs. Some (made_of xs (map cell_told g.cells) (option_map tail_told g.tail))) (sym pushed)

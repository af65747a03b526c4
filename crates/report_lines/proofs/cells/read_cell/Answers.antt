use Rattle.std.proofs.Common.{◌≡◌, Some, ap, sym, ◌∙◌, rules}
use Rattle.std.proofs.lemmas.Option.{none-some, same_Some}
use Rattle.report_grammar.specs.steps.Parsed.{Cell, text_in}
use Rattle.report_grammar.proofs.LinesBack.{parts_there}
use Rattle.report_grammar.proofs.LinesRead.{cell_parts, key_reads, state_reads}
use Rattle.report_lines.specs.steps.Cells.{parts_told}
use Rattle.report_lines.proofs.CellLemmas.{cell_made}
use Rattle.report_lines.proofs.cells.read_cell.Goals as goal

pub returns-in_default : goal.returns-in_default
returns-in_default c = λ cell is cut.
    absurd (none-some (cell_parts cell) (c.in_default.ensures ∙ parts_there c.args.text.now cell is cut))

pub returns-in_default-value_of : goal.returns-in_default-value_of
returns-in_default-value_of c = λ cell is cut.
    let same : parts_told c.in-Some.parts ≡ cell_parts cell = same_Some _ _ (c.in-Some.ensures ∙ parts_there c.args.text.now cell is cut) in
    absurd (none-some cell.value (c.in_default-value_of.ensures cell.value is.value (ap (λ (p : Cell). p.digits) same)))

pub returns-in_default-2 : goal.returns-in_default-2
returns-in_default-2 c = λ cell is cut.
    let same : parts_told c.in-Some.parts ≡ cell_parts cell = same_Some _ _ (c.in-Some.ensures ∙ parts_there c.args.text.now cell is cut) in
    absurd (none-some cell.state (sym c.in_default-2.is ∙ (c.in_ok-state.ensures ∙ (ap (λ (p : Cell). text_in p.state) same ∙ state_reads cell is))))

pub returns-in_default-3 : goal.returns-in_default-3
returns-in_default-3 c = λ cell is cut.
    let same : parts_told c.in-Some.parts ≡ cell_parts cell = same_Some _ _ (c.in-Some.ensures ∙ parts_there c.args.text.now cell is cut) in
    absurd (none-some cell.key (sym c.in_default-3.is ∙ (c.in_ok-key.ensures ∙ (ap (λ (p : Cell). text_in p.key) same ∙ key_reads cell is))))

pub returns : goal.returns
returns c = λ cell is cut.
    let same : parts_told c.in-Some.parts ≡ cell_parts cell = same_Some _ _ (c.in-Some.ensures ∙ parts_there c.args.text.now cell is cut) in
    let state : c.in-Some-2.state ≡ cell.state = same_Some _ _ (sym c.in-Some-2.is ∙ (c.in_ok-state.ensures ∙ (ap (λ (p : Cell). text_in p.state) same ∙ state_reads cell is))) in
    let key : c.in-Some-3.key ≡ cell.key = same_Some _ _ (sym c.in-Some-3.is ∙ (c.in_ok-key.ensures ∙ (ap (λ (p : Cell). text_in p.key) same ∙ key_reads cell is))) in
    let value : c.in-Some-value_of.value ≡ cell.value = same_Some _ _ (c.in-Some-value_of.ensures cell.value is.value (ap (λ (p : Cell). p.digits) same)) in
    cell_made cell _ _ _ state key (search (rules, value))

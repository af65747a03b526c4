use Rattle.std.proofs.Common.{sym, ◌∙◌, true≢false}
use Rattle.state_cells.proofs.MigrateLemmas.{bad_text}
use Rattle.state_cells.proofs.migrate.row_cell.Goals as goal

pub returns-else-is_row_at : goal.returns-else-is_row_at
returns-else-is_row_at c = bad_text c.args.kind c.args.key.now c.args.bytes.now c.in-Some.cell c.in-Some.ensures (c.is_row_at.ensures.not (λ is. true≢false (sym is ∙ c.if-is_row_at.false)))

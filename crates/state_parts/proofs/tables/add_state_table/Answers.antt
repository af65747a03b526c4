use Rattle.std.proofs.Common.{ℕ, refl, sym, ap, ◌∙◌}
use Rattle.state_parts.specs.Gathered.{pairs_of}
use Rattle.state_parts.specs.PartTables.{components_of, value_among}
use Rattle.state_parts.proofs.TableLemmas.{table_of_map}
use Rattle.state_parts.proofs.tables.add_state_table.Goals as goal

pub returns-clause-added : goal.returns-clause-added
returns-clause-added g c = λ state number name. (
  record { name = c.args.component.now.name; pairs = pairs_of c.in-Ok.values },
  c.in-Ok-push_table.ensures,
  table_of_map g.C.CellStore.tells c.args.parts.now.items state c.in-Ok.values (record { name = c.args.component.now.name; pairs = pairs_of c.in-Ok.values }) (sym name) refl c.in-Ok.ensures.ordered
      (λ maps told key. c.in-Ok.ensures.values maps told key ∙ ap (λ (n : ℕ). value_among n (components_of c.args.parts.now.items) maps key) (sym number)),
)

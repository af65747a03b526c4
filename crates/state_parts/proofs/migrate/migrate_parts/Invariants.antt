use Rattle.state_parts.proofs.MigrateLemmas.{Migrating}
use Rattle.state_parts.proofs.migrate.migrate_parts.Given as goal

abbrev pub invariant-loop-i : goal.invariant-loop-i
invariant-loop-i g l = record {
  migrating : Migrating g.C.CellStore.tells g.C.CellStore.fault_count l.i l.total l.fn.parts.items l.parts.items;
}

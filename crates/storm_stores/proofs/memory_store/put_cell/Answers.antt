use Rattle.std.proofs.Common.{◌≡◌, Some, IsSome, is_some, rules, sym, ap, ◌∙◌}
use Rattle.std.specs.Option.{option_copied_mut}
use Rattle.storm_stores.specs.CellMaps.{cell_at, with_cell}
use Rattle.storm_stores.specs.MemoryStore.{cells_of}
use Rattle.storm_stores.proofs.TableCells.{cells_of-insert, cells_of-set, keys_of-cells_of, InKeyOrder-cells_of}
use Rattle.storm_stores.proofs.memory_store.put_cell.Goals as goal

-- the key was found last
pub returns-then-is_key_at-clause-ordered : goal.returns-then-is_key_at-clause-ordered
returns-then-is_key_at-clause-ordered c = InKeyOrder-cells_of c.set_cell.new.cells.entries

pub returns-then-is_key_at-clause-ordered_before : goal.returns-then-is_key_at-clause-ordered_before
returns-then-is_key_at-clause-ordered_before c = InKeyOrder-cells_of c.args.cells.now.entries

-- the key is there, and the cell is written through what was found
pub returns-in-Some-clause-ok : goal.returns-in-Some-clause-ok
returns-in-Some-clause-ok c =
    let found : cell_at c.args.cells.now.entries c.args.key.now ≡ Some c.in-Some.old.now = sym c.get_mut.ensures.value ∙ ap option_copied_mut c.in-Some.is in
    let there : IsSome (cell_at c.args.cells.now.entries c.args.key.now) = ap is_some found in
    let through = c.get_mut.follows.holds c.in_ok-cell.cell in
    ap cells_of through.0 ∙ cells_of-set c.args.cells.now.entries c.args.key.now c.in_ok-cell.cell there ∙ ap (with_cell (cells_of c.args.cells.now.entries) c.args.key.now) c.in_ok-cell.ensures

pub returns-in-Some-clause-known : goal.returns-in-Some-clause-known
returns-in-Some-clause-known c = λ known. keys_of-cells_of c.args.cells.now.entries (c.get_mut.follows.lender c.in_ok-cell.cell).entries (c.get_mut.follows.holds c.in_ok-cell.cell).1

pub returns-in-Some-clause-ordered : goal.returns-in-Some-clause-ordered
returns-in-Some-clause-ordered c = InKeyOrder-cells_of (c.get_mut.follows.lender c.in_ok-cell.cell).entries

pub returns-in-Some-clause-ordered_before : goal.returns-in-Some-clause-ordered_before
returns-in-Some-clause-ordered_before c = InKeyOrder-cells_of c.args.cells.now.entries

-- the key is new
pub returns-in_ok-insert-in-None-clause-ok : goal.returns-in_ok-insert-in-None-clause-ok
returns-in_ok-insert-in-None-clause-ok c =
    let stays : c.get_mut.follows.lender-at-none ≡ c.args.cells.now = c.get_mut.follows.holds-at-none in
    let key : c.in_ok-from_slice-in-None.field-0 ≡ c.args.key.now = search rules in
    ap cells_of c.in_ok-insert-in-None.ensures.entries
    ∙ cells_of-insert c.get_mut.follows.lender-at-none.entries c.in_ok-from_slice-in-None.field-0 c.in_ok-cell.cell
    ∙ (λ i. with_cell (cells_of (stays i).entries) (key i) (c.in_ok-cell.ensures i))

pub returns-in_ok-insert-in-None-clause-ordered : goal.returns-in_ok-insert-in-None-clause-ordered
returns-in_ok-insert-in-None-clause-ordered c = InKeyOrder-cells_of c.insert.new.self.entries

pub returns-in_ok-insert-in-None-clause-ordered_before : goal.returns-in_ok-insert-in-None-clause-ordered_before
returns-in_ok-insert-in-None-clause-ordered_before c = InKeyOrder-cells_of c.args.cells.now.entries

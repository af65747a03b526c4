use Rattle.std.proofs.Common.{◌≡◌, ◌∙◌, sym, ap, subst, rules, ℕ, List, Option, Some, None, length, slice_get}
use Rattle.std.specs.Map.{keys_of}
use Rattle.storm_stores.specs.CellMaps.{cell_at, with_cell}
use Rattle.cell_format.specs.Layout.{bytes_of}
use Rattle.state_cells.specs.Migrate.{IsRowCell}
use Rattle.state_cells.proofs.MigrateLemmas.{held_at, kept_at, or_else, put_at}
use Rattle.state_cells.proofs.migrate.migrate_key.Goals as goal

pub returns-in_default-2-clause-ok : goal.returns-in_default-2-clause-ok
returns-in_default-2-clause-ok g c = λ cells told within.
    let key = c.in_ok-key.ensures.key cells told in
    let at : slice_get (keys_of cells) c.args.i ≡ Some c.as_slice.result.now = search (rules, key) in
    let found = c.in_ok-bytes.ensures.found cells (c.key_at.ensures.same cells told) in
    let held = held_at cells c.args.i c.as_slice.result.now (g.met.C.CellStore.in_order c.args.store.now cells told) at in
    let none : c.in_ok-bytes.field-0 ≡ None = search rules in
    absurd cc

pub returns-then-as_slice-eq-CELL_BYTES-clause-ok : goal.returns-then-as_slice-eq-CELL_BYTES-clause-ok
returns-then-as_slice-eq-CELL_BYTES-clause-ok g c = λ cells told within.
    let key = c.in_ok-key.ensures.key cells told in
    let at : slice_get (keys_of cells) c.args.i ≡ Some c.as_slice.result.now = search (rules, key) in
    let found = c.in_ok-bytes.ensures.found cells (c.key_at.ensures.same cells told) in
    let here : Some c.as_slice-3.result.now ≡ cell_at cells c.as_slice.result.now = search (rules, found) in
    let same : c.as_slice-2.result.now ≡ c.as_slice.result.now = c.as_slice-2.ensures ∙ sym c.as_slice.ensures in
    let row = subst (λ (k : List ℕ). IsRowCell c.args.kind k c.as_slice-3.result.now c.in-Some-row_cell.cell) same c.in-Some-row_cell.ensures in
    let ordered = g.met.C.CellStore.in_order c.args.store.now cells told in
    let long : length c.as_slice-3.result.now ≡ 46 = ap length (c.as_slice-3.ensures ∙ sym c.as_slice-4.ensures) ∙ c.if-as_slice-eq-CELL_BYTES.true in
    kept_at g.C.CellStore.tells c.args.kind c.args.i cells c.as_slice.result.now c.as_slice-3.result.now c.in-Some-row_cell.cell c.get.new.self ordered at here row long
    (c.get.ensures.same cells (c.key_at.ensures.same cells told))

pub returns-in-Ok-clause-ok : goal.returns-in-Ok-clause-ok
returns-in-Ok-clause-ok g c = λ cells told within.
    let key = c.in_ok-key.ensures.key cells told in
    let at : slice_get (keys_of cells) c.args.i ≡ Some c.as_slice.result.now = search (rules, key) in
    let found = c.in_ok-bytes.ensures.found cells (c.key_at.ensures.same cells told) in
    let here : Some c.as_slice-3.result.now ≡ cell_at cells c.as_slice.result.now = search (rules, found) in
    let same : c.as_slice-2.result.now ≡ c.as_slice.result.now = c.as_slice-2.ensures ∙ sym c.as_slice.ensures in
    let row = subst (λ (k : List ℕ). IsRowCell c.args.kind k c.as_slice-3.result.now c.in-Some-row_cell.cell) same c.in-Some-row_cell.ensures in
    let ordered = g.met.C.CellStore.in_order c.args.store.now cells told in
    let other : length c.as_slice-3.result.now ≡ 46 → ⊥ = λ is. c.if-as_slice-eq-CELL_BYTES.false (ap length (c.as_slice-4.ensures ∙ sym c.as_slice-3.ensures) ∙ is) in
    let put : c.as_slice-5.result.now ≡ c.as_slice.result.now = c.as_slice-5.ensures ∙ sym c.as_slice.ensures in
    let seen = c.get.ensures.same cells (c.key_at.ensures.same cells told) in
    put_at g.C.CellStore.tells c.args.kind c.args.i cells c.as_slice.result.now c.as_slice-3.result.now c.in-Some-row_cell.cell c.put_cell.new.store ordered at here row other
    (subst (λ (k : List ℕ). g.C.CellStore.tells c.put_cell.new.store (with_cell cells k (bytes_of c.in-Some-row_cell.cell))) put (c.in-Ok.ensures.done cells seen))

pub returns-clause-err : goal.returns-clause-err
returns-clause-err g c = λ cells told.
    let key = c.in_ok-key.ensures.key cells told in
    let at : slice_get (keys_of cells) c.args.i ≡ Some c.as_slice.result.now = search (rules, key) in
    let found = c.in_ok-bytes.ensures.found cells (c.key_at.ensures.same cells told) in
    let here : Some c.as_slice-3.result.now ≡ cell_at cells c.as_slice.result.now = search (rules, found) in
    let same : c.as_slice-2.result.now ≡ c.as_slice.result.now = c.as_slice-2.ensures ∙ sym c.as_slice.ensures in
    let row = subst (λ (k : List ℕ). IsRowCell c.args.kind k c.as_slice-3.result.now c.in-Some-row_cell.cell) same c.in-Some-row_cell.ensures in
    let ordered = g.met.C.CellStore.in_order c.args.store.now cells told in
    let other : length c.as_slice-3.result.now ≡ 46 → ⊥ = λ is. c.if-as_slice-eq-CELL_BYTES.false (ap length (c.as_slice-4.ensures ∙ sym c.as_slice-3.ensures) ∙ is) in
    let put : c.as_slice-5.result.now ≡ c.as_slice.result.now = c.as_slice-5.ensures ∙ sym c.as_slice.ensures in
    let seen = c.get.ensures.same cells (c.key_at.ensures.same cells told) in
    or_else (c.in-Err.ensures.broken cells seen) (λ now.
    put_at g.C.CellStore.tells c.args.kind c.args.i cells c.as_slice.result.now c.as_slice-3.result.now c.in-Some-row_cell.cell c.put_cell.new.store ordered at here row other
    (subst (λ (k : List ℕ). g.C.CellStore.tells c.put_cell.new.store (with_cell cells k (bytes_of c.in-Some-row_cell.cell))) put now))

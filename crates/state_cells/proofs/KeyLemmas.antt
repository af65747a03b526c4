-- What one get and one put do.
use Rattle.std.proofs.Common.{◌≡◌, ◌≢◌, ◌⊎◌, inl, inr, ℕ, ℤ, List, [], ◌∷◌, Option, Some, None, refl, sym, subst, ◌∙◌}
use Rattle.std.proofs.lemmas.Option.{none-some}
use Rattle.tree_model.specs.Tables.{Folding}
use Rattle.tree_model.specs.storm_values.declared.value.Root.{Root}
use Rattle.tree_model.specs.topology_plan.declared.parts.Kind.{Kind}
use Rattle.tree_model.specs.topology_plan.declared.parts.Kind.TheVariants.{Transactional, Opaque}
use Rattle.storm_stores.specs.CellMaps.{CellMap, cell_at, with_cell}
use Rattle.storm_stores.proofs.CellMapLemmas.{cell_at-with_cell, cell_at-with_cell_other}
use Rattle.cell_format.specs.Commits.{Commits, Holds, IsCellOf, IsHeld, IsLeftAlone, IsPerhapsDone, after}
use Rattle.cell_format.specs.Layout.{bytes_of}
use Rattle.cell_format.specs.declared.cell.Cell.{Cell}
use Rattle.state_cells.specs.Turns.{OnlyAt, Turns}

-- where nothing is written, a transactional part gets no cell
abbrev pub IsWritten : Kind → List ℤ → Type 0
IsWritten Transactional amounts = amounts ≢ []
IsWritten Opaque amounts = Unit {0}

left_alone : (kind : Kind) (amounts : List ℤ) (old new : Option (List ℕ)) → IsWritten kind amounts → IsLeftAlone kind amounts old new
left_alone Transactional [] old new written = absurd (written refl)
left_alone Transactional (a ∷ rest) old new written = tt
left_alone Opaque amounts old new written = tt

left_same : (kind : Kind) (amounts : List ℤ) (old : Option (List ℕ)) → IsLeftAlone kind amounts old old
left_same Transactional [] old = refl
left_same Transactional (a ∷ rest) old = tt
left_same Opaque amounts old = tt

-- where something is put, something is written, or the part is opaque
pub written_if_put : (kind : Kind) (amounts : List ℤ) (put : Option Cell) (new : Cell) → (kind ≡ Transactional → amounts ≡ [] → put ≡ None) → put ≡ Some new → IsWritten kind amounts
written_if_put Transactional amounts put new left is = λ none. none-some new (sym (left refl none) ∙ is)
written_if_put Opaque amounts put new left is = tt

module _ {S : Type 0} (tells : S → CellMap → Type 0) (kind : Kind) (by : Folding) (root : Root) (amounts : List ℤ) (key : List ℕ) (cell : Option Cell) where
  -- a put of the cell that the commit makes
  put_here : (new : Cell) (m : CellMap) → Holds kind (cell_at m key) cell → after kind by root amounts cell ≡ Some new → IsCellOf kind new → IsWritten kind amounts
      → (k : List ℕ) → OnlyAt key (Commits kind by root amounts) k (cell_at m k) (cell_at (with_cell m key (bytes_of new)) k)
  put_here new m holds made good written k =
      let there : cell_at (with_cell m key (bytes_of new)) key ≡ Some (bytes_of new) = cell_at-with_cell m key (bytes_of new) in
      let commits : Commits kind by root amounts (cell_at m key) (cell_at (with_cell m key (bytes_of new)) key) = record {
        cell = cell;
        was = holds;
        is = subst (Holds kind (cell_at (with_cell m key (bytes_of new)) key)) (sym made) (record { bytes = subst (λ (held : Option (List ℕ)). IsHeld held (Some new)) (sym there) (inl refl); good = good });
        left = left_alone kind amounts (cell_at m key) (cell_at (with_cell m key (bytes_of new)) key) written;
      } in (
        λ same. subst (λ (x : List ℕ). Commits kind by root amounts (cell_at m x) (cell_at (with_cell m key (bytes_of new)) x)) (sym same) commits,
        λ differ. cell_at-with_cell_other m key (bytes_of new) k differ,
      )

  -- a key that the commit leaves
  leave_here : (m : CellMap) → Holds kind (cell_at m key) cell → after kind by root amounts cell ≡ cell → (k : List ℕ) → OnlyAt key (Commits kind by root amounts) k (cell_at m k) (cell_at m k)
  leave_here m holds same k =
      let commits : Commits kind by root amounts (cell_at m key) (cell_at m key) = record { cell = cell; was = holds; is = subst (Holds kind (cell_at m key)) (sym same) holds; left = left_same kind amounts (cell_at m key) } in
      (λ is. subst (λ (x : List ℕ). Commits kind by root amounts (cell_at m x) (cell_at m x)) (sym is) commits, λ _. refl)

  pub perhaps_at : (k : List ℕ) (old new : Option (List ℕ)) → OnlyAt key (Commits kind by root amounts) k old new → OnlyAt key (IsPerhapsDone kind by root amounts) k old new
  perhaps_at k old new only = (λ is. inr (only.0 is), only.1)

  abbrev Found : S → S → Type 0
  Found a b = ((m : CellMap) → tells a m → Holds kind (cell_at m key) cell) × ((m : CellMap) → tells a m → tells b m)

  pub left : (a b : S) → Found a b → after kind by root amounts cell ≡ cell → Turns tells (OnlyAt key (Commits kind by root amounts)) a b
  left a b found same = record { to = λ m told. (m, found.1 m told, leave_here m (found.0 m told) same) }

  pub put_done : (a b c : S) (new : Cell) → Found a b → after kind by root amounts cell ≡ Some new → IsCellOf kind new → IsWritten kind amounts
      → ((m : CellMap) → tells b m → tells c (with_cell m key (bytes_of new))) → Turns tells (OnlyAt key (Commits kind by root amounts)) a c
  put_done a b c new found made good written put = record { to = λ m told. (with_cell m key (bytes_of new), put m (found.1 m told), put_here new m (found.0 m told) made good written) }

  pub put_broken : (a b c : S) (new : Cell) → Found a b → after kind by root amounts cell ≡ Some new → IsCellOf kind new → IsWritten kind amounts
      → ((m : CellMap) → tells b m → tells c m ⊎ tells c (with_cell m key (bytes_of new))) → Turns tells (OnlyAt key (IsPerhapsDone kind by root amounts)) a c
  put_broken a b c new found made good written put = record {
    to = λ m told. elim (put m (found.1 m told)) [
      | inl stayed ↦ (m, stayed, λ k. (λ _. inl refl, λ _. refl))
      | inr went ↦ (with_cell m key (bytes_of new), went, λ k. perhaps_at k (cell_at m k) (cell_at (with_cell m key (bytes_of new)) k) (put_here new m (found.0 m told) made good written k))
    ];
  }

-- a call that changed nothing
pub perhaps_not : {S : Type 0} (tells : S → CellMap → Type 0) (kind : Kind) (by : Folding) (root : Root) (amounts : List ℤ) (key : List ℕ) (a b : S) → ((m : CellMap) → tells a m → tells b m)
    → Turns tells (OnlyAt key (IsPerhapsDone kind by root amounts)) a b
perhaps_not tells kind by root amounts key a b same = record { to = λ m told. (m, same m told, λ k. (λ _. inl refl, λ _. refl)) }

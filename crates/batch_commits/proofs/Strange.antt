-- Cells that no part takes are not made by commits.
use Rattle.std.proofs.Common.{◌≡◌, ℕ, zero, suc, Bool, true, false, cond, ℤ, List, [], ◌∷◌, All, IsSome, Option, None, Some, map, filter, refl, sym, ap, subst, inl, inr, rules}
use Rattle.std.specs.Prelude.{slice_get}
use Rattle.std.proofs.lemmas.List.Elements.{All-head, All-tail}
use Rattle.std.specs.Cmp.Lexicographic.{bytes_decides}
use Rattle.std.specs.Str.{IsUtf8, bytes_eq}
use Rattle.batch_commits.specs.Standing.{HasStrangeAt, HasTextKey, IsStrange}
use Rattle.cell_format.specs.Commits.{Commits, Holds, IsPerhapsDone, after, amounts_at}
use Rattle.cell_format.specs.declared.cell.Cell.{Cell}
use Rattle.state_cells.specs.Rows.{IsBadRow}
use Rattle.state_cells.specs.Turns.{IsBad}
use Rattle.state_parts.specs.Commits.{ArePerhapsCommitted, IsBadAt, PerhapsCommitted, is_for_part, own_writes}
use Rattle.state_parts.specs.declared.parts.StatePart.{StatePart}
use Rattle.state_parts.specs.PartPlans.{PartPlan}
use Rattle.state_parts.specs.PartTables.{IsBadRowAt}
use Rattle.storm_stores.specs.CellMaps.{CellMap, cell_at}
use Rattle.tuple_account.specs.storm_values.declared.value.Root.{Root}
use Rattle.tuple_account.specs.bolt_ops.RowOp.{Custom}
use Rattle.tuple_account.specs.tree_model.Tables.{Folding, folded}
use Rattle.tuple_account.specs.topology_plan.declared.parts.Kind.{Kind}
use Rattle.tuple_account.specs.tree_model.declared.write.Write.{Write}

-- no write has a key that is no text
none_at : (c p : ℕ) (made : List Write) → All HasTextKey made → (key : List ℕ) → (IsUtf8 key → ⊥) → amounts_at (filter (is_for_part c p) made) key ≡ []
none_at c p [] texts key strange = refl
none_at c p (w ∷ ws) texts key strange = own (none_at c p ws (All-tail HasTextKey w ws texts) key strange) (is_for_part c p w)
  where
    at : amounts_at (filter (is_for_part c p) ws) key ≡ [] → (b : Bool) → bytes_eq key w.key ≡ b
        → map (λ (x : Write). x.amount) (cond b (w ∷ filter (λ (x : Write). bytes_eq key x.key) (filter (is_for_part c p) ws)) (filter (λ (x : Write). bytes_eq key x.key) (filter (is_for_part c p) ws))) ≡ []
    at rest true is = absurd (strange (subst IsUtf8 (sym ((bytes_decides key w.key).0 is)) (All-head HasTextKey w ws texts)))
    at rest false is = rest

    own : amounts_at (filter (is_for_part c p) ws) key ≡ [] → (b : Bool) → amounts_at (cond b (w ∷ filter (is_for_part c p) ws) (filter (is_for_part c p) ws)) key ≡ []
    own rest true = at rest (bytes_eq key w.key) refl
    own rest false = rest

-- bytes that are some cell's are not refused
not_bad : (kind : Kind) (held : Option (List ℕ)) (cell : Option Cell) → Holds kind held cell → IsBad kind held → ⊥
not_bad kind None cell holds bad = bad
not_bad kind (Some bytes) None holds bad = holds.bytes
not_bad kind (Some bytes) (Some cell) holds bad = bad cell holds.good holds.bytes

-- a key with a cell has bytes
has_some : (kind : Kind) (held : Option (List ℕ)) (cell : Cell) → Holds kind held (Some cell) → IsSome held
has_some kind None cell holds = absurd holds.bytes
has_some kind (Some bytes) cell holds = search rules

-- a key without a cell has none
has_none : (kind : Kind) (held : Option (List ℕ)) → Holds kind held None → IsSome held → ⊥
has_none kind None holds some = search rules
has_none kind (Some bytes) holds some = holds.bytes

-- where nothing is written, only a key that had a cell has one
had_some : (kind : Kind) (by : Folding) (root : Root) (old new : Option (List ℕ)) → Commits kind by root [] old new → IsSome new → IsSome old
had_some kind by root old new done some = cases done.cell done.was done.is
  where
    cases : (cell : Option Cell) → Holds kind old cell → Holds kind new (after kind by root [] cell) → IsSome old
    cases None was is = absurd (has_none kind new is some)
    cases (Some cell) was is = has_some kind old cell was

-- a commit makes no strange cell
commit_strange : (kind : Kind) (by : Folding) (root : Root) (amounts : List ℤ) (key : List ℕ) (old new : Option (List ℕ)) → ((IsUtf8 key → ⊥) → amounts ≡ []) → IsPerhapsDone kind by root amounts old new → IsStrange kind key new → IsStrange kind key old
commit_strange kind by root amounts key old new none (inl same) strange = subst (IsStrange kind key) same strange
commit_strange kind by root amounts key old new none (inr done) (inl bad) = absurd (not_bad kind new _ done.is bad)
commit_strange kind by root amounts key old new none (inr done) (inr strange) =
    inr (had_some kind by root old new (subst (λ (xs : List ℤ). Commits kind by root xs old new) (none strange.1) done) strange.0, strange.1)

-- nor a bad one
commit_bad : (kind : Kind) (by : Folding) (root : Root) (amounts : List ℤ) (old new : Option (List ℕ)) → IsPerhapsDone kind by root amounts old new → IsBad kind new → IsBad kind old
commit_bad kind by root amounts old new (inl same) bad = subst (IsBad kind) same bad
commit_bad kind by root amounts old new (inr done) bad = absurd (not_bad kind new _ done.is bad)

module _ {S : Type 0} (tells : S → CellMap → Type 0) where
  -- what a part's cells have at a key
  abbrev HasAt : (Kind → List ℕ → Option (List ℕ) → Type 0) → StatePart S → List ℕ → Type 0
  HasAt What at key = (cells : CellMap) → tells at.over.store cells → What at.over.kind key (cell_at cells key)

  part_before : (What : Kind → List ℕ → Option (List ℕ) → Type 0) (custom : Custom) (root : Root) (made : List Write) (old new : StatePart S) (key : List ℕ)
      → ((was is : Option (List ℕ)) → IsPerhapsDone old.over.kind (folded custom old.over.by) root (amounts_at (own_writes made old) key) was is → What old.over.kind key is → What old.over.kind key was)
      → PerhapsCommitted tells custom root (own_writes made old) old new → HasAt What new key → HasAt What old key
  part_before What custom root made old new key back done found = λ cells told.
      let went = done.turns.to cells told in
      let kind : new.over.kind ≡ old.over.kind = ap (λ (p : PartPlan). p.kind) done.plan in
      back (cell_at cells key) (cell_at went.0 key) (went.2 key) (subst (λ (k : Kind). What k key (cell_at went.0 key)) kind (found went.0 went.1))

  found_before : (What : Kind → List ℕ → Option (List ℕ) → Type 0) (custom : Custom) (root : Root) (made : List Write) (key : List ℕ)
      → ((x : StatePart S) (was is : Option (List ℕ)) → IsPerhapsDone x.over.kind (folded custom x.over.by) root (amounts_at (own_writes made x) key) was is → What x.over.kind key is → What x.over.kind key was)
      → (place : ℕ) (old new : List (StatePart S)) → ArePerhapsCommitted tells custom root made old new → (at : StatePart S) → slice_get new place ≡ Some at → HasAt What at key
      → (was : StatePart S) × (slice_get old place ≡ Some was) × HasAt What was key
  found_before What custom root made key back place old [] done at is found = absurd (let e : None ≡ Some at = is in cc)
  found_before What custom root made key back place [] (y ∷ ys) done at is found = absurd done
  found_before What custom root made key back zero (x ∷ xs) (y ∷ ys) done at is found =
      let same : at ≡ y = (let e : Some y ≡ Some at = is in cc) in (x, refl, part_before What custom root made x y key (back x) done.0 (subst (λ (z : StatePart S). HasAt What z key) same found))
  found_before What custom root made key back (suc place) (x ∷ xs) (y ∷ ys) done at is found = found_before What custom root made key back place xs ys done.1 at is found

  pub strange_before : (custom : Custom) (root : Root) (made : List Write) (old new : List (StatePart S)) (key : List ℕ) → All HasTextKey made → ArePerhapsCommitted tells custom root made old new → HasStrangeAt tells new key → HasStrangeAt tells old key
  strange_before custom root made old new key texts done strange =
      let found =
      found_before IsStrange custom root made key (λ x was is done bad. commit_strange x.over.kind (folded custom x.over.by) root (amounts_at (own_writes made x) key) key was is (λ odd. none_at x.component x.part made texts key odd) done bad) strange.place old new done strange.at strange.is_at
      strange.strange in
      record { place = strange.place; at = found.0; is_at = found.1; strange = found.2 }

  pub bad_before : (custom : Custom) (root : Root) (made : List Write) (old new : List (StatePart S)) (key : List ℕ) → ArePerhapsCommitted tells custom root made old new → IsBadAt tells new key → IsBadAt tells old key
  bad_before custom root made old new key done bad =
      let found = found_before (λ kind k held. IsBad kind held) custom root made key (λ x was is done bad. commit_bad x.over.kind (folded custom x.over.by) root (amounts_at (own_writes made x) key) was is done bad) bad.place old new done bad.was bad.was_at bad.bad in
      record { place = bad.place; was = found.0; was_at = found.1; bad = found.2 }

  pub strange_cell : (parts : List (StatePart S)) (key : List ℕ) → IsBadAt tells parts key → HasStrangeAt tells parts key
  strange_cell parts key bad = record { place = bad.place; at = bad.was; is_at = bad.was_at; strange = λ cells told. inl (bad.bad cells told) }

  row_strange : (kind : Kind) (key : List ℕ) (held : Option (List ℕ)) → IsBadRow kind key held → IsStrange kind key held
  row_strange kind key held (inl bad) = inl bad
  row_strange kind key None (inr odd) = absurd (let e = odd.0 in search rules)
  row_strange kind key (Some bytes) (inr odd) = inr (search rules, odd.1)

  pub strange_row : (parts : List (StatePart S)) (key : List ℕ) → IsBadRowAt tells parts key → HasStrangeAt tells parts key
  strange_row parts key bad = record { place = bad.place; at = bad.was; is_at = bad.was_at; strange = λ cells told. row_strange bad.was.over.kind key (cell_at cells key) (bad.bad cells told) }

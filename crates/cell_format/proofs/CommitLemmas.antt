-- A commit moves a part that stands at t to t + 1, and one that was broken off leaves it at t.
use Rattle.std.proofs.Common.{◌≡◌, ◌≢◌, ◌≤◌, ◌⊎◌, inl, inr, ℕ, ◌+◌, ◌==◌, ℤ, Bool, true, false, cond, true≢false, List, [], ◌∷◌, ◌++◌, Option, None, Some, IsSome, map, filter, refl, sym, ap, subst, ◌∙◌, eqb-true, eq-eqb, arith}
use Rattle.std.specs.Str.{bytes_eq}
use Rattle.std.proofs.lemmas.List.Sums.{fold-append}
use Rattle.std.proofs.lemmas.Option.{none-some, same_Some}
use Rattle.tree_model.specs.topology_plan.declared.parts.Kind.{Kind}
use Rattle.tree_model.specs.topology_plan.declared.parts.Kind.TheVariants.{Transactional, Opaque}
use Rattle.tree_model.specs.Tables.{Folding}
use Rattle.tree_model.specs.storm_values.declared.value.Root.{Root}
use Rattle.tree_model.specs.declared.write.Write.{Write}
use Rattle.cell_format.specs.declared.cell.Cell.{Cell}
use Rattle.cell_format.specs.Commits.{Commits, Holds, IsDone, IsHeld, IsPerhapsDone, after, again, amounts_at, anew, value_after, value_of}
use Rattle.cell_format.specs.Standing.{AreOwn, CellStands, IsKeyOf, IsNext, IsWithin, KeyStands, Stands}
use Rattle.cell_format.proofs.LayoutLemmas.{bytes_of-apart}

-- ---- one cell

module _ (by : Folding) where
  pub value_after-append : (xs ys : List ℤ) (value : Option ℤ) → value_after by (xs ++ ys) value ≡ value_after by ys (value_after by xs value)
  value_after-append xs ys value = fold-append (λ old amount. Some (by old amount)) value xs ys

  abbrev CellWithin : ℕ → Option Cell → Type 0
  CellWithin t None = Unit {0}
  CellWithin t (Some cell) = cell.txid ≤ t

  abbrev Moved : Kind → ℕ → Option ℤ → List ℤ → List ℤ → Option Cell → Type 0
  Moved kind t base next more cell = CellStands kind by (t + 1) (value_after by next base) more cell × CellWithin (t + 1) cell

  -- the transaction that comes next
  module _ (root : Root) (t : ℕ) (next_is : root.txid ≡ t + 1) where
    anew_moved : (kind : Kind) (base : Option ℤ) (next more : List ℤ) (cell : Option Cell) → value_of cell ≡ base → CellStands kind by (t + 1) base more cell → CellWithin (t + 1) cell
        → Moved kind t base next more (anew kind by root next cell)
    anew_moved kind base [] more cell value stands within = (stands, within)
    anew_moved kind base (a ∷ rest) more cell value stands within = (inl (omega (arith, next_is), ap (value_after by (a ∷ rest)) value), omega (arith, next_is))

    pub moved : (kind : Kind) (base : Option ℤ) (next more : List ℤ) (cell : Option Cell) → CellStands kind by t base next cell → Moved kind t base next more (after kind by root next cell)
    moved kind base next more None stands = anew_moved kind base next more None (sym stands) stands tt
    moved kind base next more (Some c) stands = cases (c.txid == root.txid) refl stands
      where
        same : (k : Kind) → c.txid ≡ t + 1 → IsNext k by base next c → Moved k t base next more (Some (again k by root.attempt next c))
        same Transactional at is = (inl (omega arith, is), omega arith)
        same Opaque at is = (inl (omega arith, ap (value_after by next) is), omega arith)

        cases : (b : Bool) → (c.txid == root.txid) ≡ b → ((c.txid ≤ t) × (c.value ≡ base)) ⊎ ((c.txid ≡ t + 1) × IsNext kind by base next c)
            → Moved kind t base next more (cond b (Some (again kind by root.attempt next c)) (anew kind by root next (Some c)))
        cases true is (inl old) = absurd (let at = eqb-true c.txid root.txid is in let o = old.0 in omega (arith, next_is))
        cases true is (inr new) = same kind new.0 new.1
        cases false is (inl old) = anew_moved kind base next more (Some c) old.1 (inl ((let o = old.0 in omega arith), old.1)) (let o = old.0 in omega arith)
        cases false is (inr new) = absurd (true≢false (sym (eq-eqb c.txid root.txid (new.0 ∙ sym next_is)) ∙ is))

    anew_stays : (kind : Kind) (base : Option ℤ) (next : List ℤ) (cell : Option Cell) → value_of cell ≡ base → CellStands kind by t base next cell → CellStands kind by t base next (anew kind by root next cell)
    anew_stays kind base [] cell value stands = stands
    anew_stays Transactional base (a ∷ rest) cell value stands = inr (next_is, ap (value_after by (a ∷ rest)) value)
    anew_stays Opaque base (a ∷ rest) cell value stands = inr (next_is, value)

    pub stays : (kind : Kind) (base : Option ℤ) (next : List ℤ) (cell : Option Cell) → CellStands kind by t base next cell → CellStands kind by t base next (after kind by root next cell)
    stays kind base next None stands = anew_stays kind base next None (sym stands) stands
    stays kind base next (Some c) stands = cases (c.txid == root.txid) refl stands
      where
        same : (k : Kind) → c.txid ≡ t + 1 → IsNext k by base next c → CellStands k by t base next (Some (again k by root.attempt next c))
        same Transactional at is = inr (at, is)
        same Opaque at is = inr (at, is)

        cases : (b : Bool) → (c.txid == root.txid) ≡ b → ((c.txid ≤ t) × (c.value ≡ base)) ⊎ ((c.txid ≡ t + 1) × IsNext kind by base next c)
            → CellStands kind by t base next (cond b (Some (again kind by root.attempt next c)) (anew kind by root next (Some c)))
        cases true is (inl old) = absurd (let at = eqb-true c.txid root.txid is in let o = old.0 in omega (arith, next_is))
        cases true is (inr new) = same kind new.0 new.1
        cases false is (inl old) = anew_stays kind base next (Some c) old.1 stands
        cases false is (inr new) = absurd (true≢false (sym (eq-eqb c.txid root.txid (new.0 ∙ sym next_is)) ∙ is))

-- ---- what a store has at a key

-- a key has one cell
pub Holds-one : (kind : Kind) (held : Option (List ℕ)) (a b : Option Cell) → Holds kind held a → Holds kind held b → a ≡ b
Holds-one kind None None None is_a is_b = refl
Holds-one kind None None (Some b) is_a is_b = absurd is_b.bytes
Holds-one kind None (Some a) b is_a is_b = absurd is_a.bytes
Holds-one kind (Some bytes) None b is_a is_b = absurd is_a.bytes
Holds-one kind (Some bytes) (Some a) None is_a is_b = absurd is_b.bytes
Holds-one kind (Some bytes) (Some a) (Some b) is_a is_b = ap Some (bytes_of-apart a b bytes is_a.good.is is_b.good.is is_a.bytes is_b.bytes)

pub perhaps_if_done : (kind : Kind) (by : Folding) (root : Root) (amounts : List ℤ) (old new : Option (List ℕ)) → IsDone kind by root amounts old new → IsPerhapsDone kind by root amounts old new
perhaps_if_done Transactional by root [] old new done = inl done
perhaps_if_done Transactional by root (a ∷ rest) old new done = inr done
perhaps_if_done Opaque by root amounts old new done = inr done

-- an opaque cell that is of the transaction after a commit is of its attempt
pub attempt_is : (by : Folding) (root : Root) (amounts : List ℤ) (old new : Option (List ℕ)) (cell : Cell) → IsDone Opaque by root amounts old new → Holds Opaque new (Some cell) → cell.txid ≡ root.txid → cell.attempt ≡ root.attempt
attempt_is by root amounts old new cell done holds of_root = made done.cell (Holds-one Opaque new (after Opaque by root amounts done.cell) (Some cell) done.is holds)
  where
    made_anew : (xs : List ℤ) (before : Option Cell) → ((c : Cell) → before ≡ Some c → c.txid ≡ root.txid → ⊥) → anew Opaque by root xs before ≡ Some cell → cell.attempt ≡ root.attempt
    made_anew [] before other is = absurd (other cell is of_root)
    made_anew (x ∷ xs) before other is = sym (ap (λ (c : Cell). c.attempt) (same_Some _ _ is))

    made : (before : Option Cell) → after Opaque by root amounts before ≡ Some cell → cell.attempt ≡ root.attempt
    made None is = made_anew amounts None (λ c none. absurd (none-some c none)) is
    made (Some c) is = cases (c.txid == root.txid) refl is
      where
        cases : (b : Bool) → (c.txid == root.txid) ≡ b → cond b (Some (again Opaque by root.attempt amounts c)) (anew Opaque by root amounts (Some c)) ≡ Some cell → cell.attempt ≡ root.attempt
        cases true at same = sym (ap (λ (d : Cell). d.attempt) (same_Some _ _ same))
        cases false at same = made_anew amounts (Some c) (λ d one is_of. true≢false (sym (eq-eqb c.txid root.txid (ap (λ (e : Cell). e.txid) (same_Some _ _ one) ∙ is_of)) ∙ at)) same

module _ (root : Root) (t : ℕ) (next_is : root.txid ≡ t + 1) where
  key_stays : (kind : Kind) (by : Folding) (base : Option ℤ) (next : List ℤ) (old new : Option (List ℕ)) → KeyStands kind by t base next old → IsPerhapsDone kind by root next old new → KeyStands kind by t base next new
  key_stays kind by base next old new stands (inl same) = subst (KeyStands kind by t base next) (sym same) stands
  key_stays kind by base next old new stands (inr commits) =
      let one = Holds-one kind old commits.cell stands.cell commits.was stands.is in
      record {
        cell = after kind by root next commits.cell;
        is = commits.is;
        stands = stays by root t next_is kind base next commits.cell (subst (CellStands kind by t base next) (sym one) stands.stands);
      }

  abbrev KeyMoved : Kind → Folding → Option ℤ → List ℤ → List ℤ → Option (List ℕ) → Type 0
  KeyMoved kind by base next more new = KeyStands kind by (t + 1) (value_after by next base) more new × ((cell : Cell) → Holds kind new (Some cell) → cell.txid ≤ t + 1)

  moved_to : (kind : Kind) (by : Folding) (base : Option ℤ) (next more : List ℤ) (new : Option (List ℕ)) (cell : Option Cell) → Holds kind new cell → Moved by kind t base next more cell → KeyMoved kind by base next more new
  moved_to kind by base next more new cell is moved =
      (record { cell = cell; is = is; stands = moved.0 }, λ c holds. within c (Holds-one kind new cell (Some c) is holds) moved.1)
    where
      within : (c : Cell) → cell ≡ Some c → CellWithin by (t + 1) cell → c.txid ≤ t + 1
      within c same bound = subst (CellWithin by (t + 1)) same bound

  key_moves : (kind : Kind) (by : Folding) (base : Option ℤ) (next more : List ℤ) (old new : Option (List ℕ)) → KeyStands kind by t base next old → IsDone kind by root next old new → KeyMoved kind by base next more new
  key_moves kind by base next more old new stands done = cases kind next stands done
    where
      through : (k : Kind) (amounts : List ℤ) → KeyStands k by t base amounts old → Commits k by root amounts old new → KeyMoved k by base amounts more new
      through k amounts is commits =
          let one = Holds-one k old commits.cell is.cell commits.was is.is in
          moved_to k by base amounts more new (after k by root amounts commits.cell) commits.is
          (moved by root t next_is k base amounts more commits.cell (subst (CellStands k by t base amounts) (sym one) is.stands))

      untouched : (cell : Option Cell) → CellStands Transactional by t base [] cell → Moved by Transactional t base [] more cell
      untouched None is = (is, tt)
      untouched (Some c) (inl is) = (inl ((let o = is.0 in omega arith), is.1), (let o = is.0 in omega arith))
      untouched (Some c) (inr is) = (inl ((let o = is.0 in omega arith), is.1), (let o = is.0 in omega arith))

      cases : (k : Kind) (amounts : List ℤ) → KeyStands k by t base amounts old → IsDone k by root amounts old new → KeyMoved k by base amounts more new
      cases Transactional [] is same =
          moved_to Transactional by base [] more new is.cell (subst (λ (held : Option (List ℕ)). Holds Transactional held is.cell) (sym same) is.is) (untouched is.cell is.stands)
      cases Transactional (a ∷ rest) is commits = through Transactional (a ∷ rest) is commits
      cases Opaque amounts is commits = through Opaque amounts is commits

-- a key that has something after a commit had something before, or is written
key_own : (K : Type 0) (kind : Kind) (by : Folding) (root : Root) (amounts : List ℤ) (old new : Option (List ℕ)) → (IsSome old → K) → (amounts ≢ [] → K) → IsPerhapsDone kind by root amounts old new → IsSome new → K
key_own K kind by root amounts old new before written (inl same) some = before (subst IsSome same some)
key_own K kind by root (a ∷ rest) old new before written (inr commits) some = written (λ none. cc)
key_own K kind by root [] (Some bytes) new before written (inr commits) some = before refl
key_own K kind by root [] None None before written (inr commits) some = absurd (true≢false (sym some))
key_own K kind by root [] None (Some bytes) before written (inr commits) some = empty commits.cell commits.was.bytes commits.is.bytes
  where
    empty : (cell : Option Cell) → IsHeld None cell → IsHeld (Some bytes) (after kind by root [] cell) → K
    empty None was is = absurd is
    empty (Some c) was is = absurd was

-- ---- a part

filter-append : (p : Write → Bool) (xs ys : List Write) → filter p (xs ++ ys) ≡ filter p xs ++ filter p ys
filter-append p [] ys = refl
filter-append p (x ∷ xs) ys = cases (p x) (filter-append p xs ys)
  where
    cases : (b : Bool) → filter p (xs ++ ys) ≡ filter p xs ++ filter p ys → cond b (x ∷ filter p (xs ++ ys)) (filter p (xs ++ ys)) ≡ cond b (x ∷ filter p xs) (filter p xs) ++ filter p ys
    cases true later = ap (λ zs. x ∷ zs) later
    cases false later = later

map_append : (xs ys : List Write) → map (λ (write : Write). write.amount) (xs ++ ys) ≡ map (λ (write : Write). write.amount) xs ++ map (λ (write : Write). write.amount) ys
map_append [] ys = refl
map_append (x ∷ xs) ys = ap (λ zs. x.amount ∷ zs) (map_append xs ys)

pub amounts_at-append : (xs ys : List Write) (key : List ℕ) → amounts_at (xs ++ ys) key ≡ amounts_at xs key ++ amounts_at ys key
amounts_at-append xs ys key =
    ap (map (λ (write : Write). write.amount)) (filter-append (λ (write : Write). bytes_eq key write.key) xs ys) ∙ map_append (filter (λ (write : Write). bytes_eq key write.key) xs) (filter (λ (write : Write). bytes_eq key write.key) ys)

pub Stands-none : (kind : Kind) (by : Folding) (parts part : ℕ) (next : List Write) → Stands kind by parts part 0 [] next (λ _. None)
Stands-none kind by parts part next = record {
  keys = λ key. record { cell = None; is = record { bytes = tt; good = tt }; stands = refl };
  own = λ key some. absurd (true≢false (sym some));
}

module _ (kind : Kind) (by : Folding) (parts part t : ℕ) (root : Root) (next_is : root.txid ≡ t + 1) (done next : List Write) (old new : List ℕ → Option (List ℕ)) where
  pub Stands-begun : Stands kind by parts part t done next old → AreOwn parts part next → ((key : List ℕ) → IsPerhapsDone kind by root (amounts_at next key) (old key) (new key)) → Stands kind by parts part t done next new
  Stands-begun stands own each = record {
    keys = λ key. key_stays root t next_is kind by _ (amounts_at next key) (old key) (new key) (stands.keys key) (each key);
    own = λ key some. key_own (IsKeyOf parts part key) kind by root (amounts_at next key) (old key) (new key) (stands.own key) (own key) (each key) some;
  }

  pub Stands-moved : (more : List Write) → Stands kind by parts part t done next old → AreOwn parts part next → ((key : List ℕ) → IsDone kind by root (amounts_at next key) (old key) (new key))
      → Stands kind by parts part (t + 1) (done ++ next) more new × IsWithin kind (t + 1) new
  Stands-moved more stands own each =
      let moves : (key : List ℕ) → KeyMoved root t next_is kind by (value_after by (amounts_at done key) None) (amounts_at next key) (amounts_at more key) (new key) =
      λ key. key_moves root t next_is kind by _ (amounts_at next key) (amounts_at more key) (old key) (new key) (stands.keys key) (each key) in
      let base : (key : List ℕ) → value_after by (amounts_at (done ++ next) key) None ≡ value_after by (amounts_at next key) (value_after by (amounts_at done key) None) =
      λ key. ap (λ amounts. value_after by amounts None) (amounts_at-append done next key) ∙ value_after-append by (amounts_at done key) (amounts_at next key) None in (
        record {
          keys = λ key. subst (λ (b : Option ℤ). KeyStands kind by (t + 1) b (amounts_at more key) (new key)) (sym (base key)) ((moves key).0);
          own = λ key some. key_own (IsKeyOf parts part key) kind by root (amounts_at next key) (old key) (new key) (stands.own key) (own key) (perhaps_if_done kind by root (amounts_at next key) (old key) (new key) (each key)) some;
        },
        λ key cell holds. (moves key).1 cell holds,
      )

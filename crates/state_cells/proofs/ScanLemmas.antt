-- The keys that were looked at so far.
use Rattle.std.proofs.Common.{◌≡◌, ◌==◌, ◌<◌, ◌+◌, ℕ, zero, suc, nat_lt, Bool, true, false, cond, List, [], ◌∷◌, ◌++◌, length, take, filter, Option, None, Some, refl, sym, ap, subst, ◌∙◌, arith}
use Rattle.std.specs.List.{slice_get}
use Rattle.std.specs.Map.{keys_of}
use Rattle.std.specs.Str.{bytes_eq}
use Rattle.std.proofs.lemmas.Bool.Decides.{nat_tests}
use Rattle.std.proofs.lemmas.List.{take_all}
use Rattle.std.proofs.lemmas.Map.Entries.{length-keys_of, place_from_lookup}
use Rattle.std.proofs.lemmas.Slice.Eq.{bytes_eq-Decides}
use Rattle.cell_format.proofs.LayoutLemmas.{read_of-bytes}
use Rattle.tree_model.specs.topology_plan.declared.parts.Kind.{Kind}
use Rattle.storm_stores.specs.CellMaps.{CellMap, cell_at}
use Rattle.cell_format.specs.Commits.{Holds, IsHeld}
use Rattle.cell_format.specs.declared.cell.Cell.{Cell}
use Rattle.state_cells.specs.Scans.{IsNotLater, Scans, carriers, carries_of, is_carrier}

pub record Scanned (kind : Kind) (txid : ℕ) (cells : CellMap) (n : ℕ) (keys : List (List ℕ)) (newest : Bool) : Type 0 where
  pub noted : keys ≡ filter (λ key. is_carrier txid (cell_at cells key)) (take n (keys_of cells))
  pub good : (j : ℕ) (key : List ℕ) → j < n → slice_get (keys_of cells) j ≡ Some key → (cell : Option Cell) × Holds kind (cell_at cells key) cell × (newest ≡ true → IsNotLater txid cell)

-- the bytes tell the transaction of the cell
pub carrier_is : (kind : Kind) (txid : ℕ) (held : Option (List ℕ)) (cell : Option Cell) → Holds kind held cell → is_carrier txid held ≡ carries_of txid cell
carrier_is kind txid None None is = refl
carrier_is kind txid None (Some c) is = absurd is.bytes
carrier_is kind txid (Some bytes) None is = absurd is.bytes
carrier_is kind txid (Some bytes) (Some c) is = ap (λ (d : Cell). d.txid == txid) (read_of-bytes c bytes is.good.is is.bytes)

pub taken_more : (xs : List (List ℕ)) (i : ℕ) (x : List ℕ) → slice_get xs i ≡ Some x → take (suc i) xs ≡ take i xs ++ x ∷ []
taken_more [] i x at = absurd (let e : ◌≡◌ {A = Option (List ℕ)} None (Some x) = at in cc)
taken_more (y ∷ ys) zero x at = let same : y ≡ x = cc in rw same refl
taken_more (y ∷ ys) (suc i) x at = ap (λ zs. y ∷ zs) (taken_more ys i x at)

filter_more : (p : List ℕ → Bool) (xs : List (List ℕ)) (x : List ℕ) → filter p (xs ++ x ∷ []) ≡ cond (p x) (filter p xs ++ x ∷ []) (filter p xs)
filter_more p [] x = cases (p x)
  where
    cases : (b : Bool) → cond b (x ∷ []) [] ≡ cond b (x ∷ []) []
    cases b = refl
filter_more p (y ∷ ys) x = cases (p y) (p x) (filter_more p ys x)
  where
    cases : (b e : Bool) → filter p (ys ++ x ∷ []) ≡ cond e (filter p ys ++ x ∷ []) (filter p ys)
        → cond b (y ∷ filter p (ys ++ x ∷ [])) (filter p (ys ++ x ∷ [])) ≡ cond e (cond b (y ∷ filter p ys) (filter p ys) ++ x ∷ []) (cond b (y ∷ filter p ys) (filter p ys))
    cases true true later = ap (λ zs. y ∷ zs) later
    cases true false later = ap (λ zs. y ∷ zs) later
    cases false true later = later
    cases false false later = later

pub Scanned-none : (kind : Kind) (txid : ℕ) (cells : CellMap) (newest : Bool) → Scanned kind txid cells 0 [] newest
Scanned-none kind txid cells newest = record { noted = refl; good = λ j key below at. absurd (omega arith) }

pub Scanned-more : (kind : Kind) (txid : ℕ) (cells : CellMap) (i : ℕ) (old new : List (List ℕ)) (was is : Bool) → Scanned kind txid cells i old was → Scans kind txid cells i old new was is → Scanned kind txid cells (i + 1) new is
Scanned-more kind txid cells i old new was now seen scans =
    let p : List ℕ → Bool = λ key. is_carrier txid (cell_at cells key) in
    let next : i + 1 ≡ suc i = omega arith in
    let is : p scans.key ≡ carries_of txid scans.cell = carrier_is kind txid (cell_at cells scans.key) scans.cell scans.holds in
    let all : filter p (take (i + 1) (keys_of cells)) ≡ cond (carries_of txid scans.cell) (filter p (take i (keys_of cells)) ++ scans.key ∷ []) (filter p (take i (keys_of cells))) =
    ap (λ n. filter p (take n (keys_of cells))) next ∙ ap (filter p) (taken_more (keys_of cells) i scans.key scans.at) ∙ filter_more p (take i (keys_of cells)) scans.key
    ∙ ap (λ b. cond b (filter p (take i (keys_of cells)) ++ scans.key ∷ []) (filter p (take i (keys_of cells)))) is in
    record {
      noted = scans.notes.noted ∙ ap (λ (xs : List (List ℕ)). cond (carries_of txid scans.cell) (xs ++ scans.key ∷ []) xs) seen.noted ∙ sym all;
      good = λ j key below at. cases j key (nat_lt j i) refl below at;
    }
  where
    cases : (j : ℕ) (key : List ℕ) (b : Bool) → nat_lt j i ≡ b → j < i + 1 → slice_get (keys_of cells) j ≡ Some key → (cell : Option Cell) × Holds kind (cell_at cells key) cell × (now ≡ true → IsNotLater txid cell)
    cases j key true here below at =
        let x = seen.good j key (grind (arith, nat_tests)) at in
        (x.0, x.1, λ is. x.2 (scans.notes.newest is).0)
    cases j key false here below at =
        let last : j ≡ i = grind (arith, nat_tests) in
        let both : ◌≡◌ {A = Option (List ℕ)} (Some scans.key) (Some key) = sym scans.at ∙ ap (slice_get (keys_of cells)) (sym last) ∙ at in
        let same : scans.key ≡ key = cc in
        (scans.cell, subst (λ (k : List ℕ). Holds kind (cell_at cells k) scans.cell) same scans.holds, λ is. (scans.notes.newest is).1)

key_of_place : (cells : CellMap) (i : ℕ) (k bytes : List ℕ) → slice_get cells i ≡ Some (k, bytes) → (slice_get (keys_of cells) i ≡ Some k) × (i < length cells)
key_of_place [] i k bytes at = absurd (let e : ◌≡◌ {A = Option (List ℕ × List ℕ)} None (Some (k, bytes)) = at in cc)
key_of_place (e ∷ es) zero k bytes at = (let same : e ≡ (k, bytes) = cc in ap (λ (x : List ℕ × List ℕ). Some x.0) same, omega arith)
key_of_place (e ∷ es) (suc i) k bytes at = let later = key_of_place es i k bytes at in (later.0, omega (arith, later.1))

pub Scanned-end : (kind : Kind) (txid : ℕ) (cells : CellMap) (n : ℕ) (keys : List (List ℕ)) (newest : Bool) → n ≡ length cells → Scanned kind txid cells n keys newest
    → (keys ≡ carriers txid cells) × ((key : List ℕ) → (cell : Option Cell) × Holds kind (cell_at cells key) cell × (newest ≡ true → IsNotLater txid cell))
Scanned-end kind txid cells n keys newest all seen =
    let p : List ℕ → Bool = λ key. is_carrier txid (cell_at cells key) in
    (seen.noted ∙ ap (filter p) (take_all n (keys_of cells) (omega (arith, length-keys_of cells, all))), λ key. cases key (cell_at cells key) refl)
  where
    cases : (key : List ℕ) (held : Option (List ℕ)) → cell_at cells key ≡ held → (cell : Option Cell) × Holds kind (cell_at cells key) cell × (newest ≡ true → IsNotLater txid cell)
    cases key None is = (None, record { bytes = subst (λ (held : Option (List ℕ)). IsHeld held None) (sym is) tt; good = tt }, λ _. tt)
    cases key (Some bytes) is =
        let place = place_from_lookup (bytes_eq key) cells bytes is in
        let at = key_of_place cells place.0 place.1 bytes place.2 in
        let same : key ≡ place.1 = (bytes_eq-Decides key place.1).0 place.3 in
        let found = seen.good place.0 place.1 (omega (arith, at.1, all)) at.0 in
        (found.0, subst (λ (k : List ℕ). Holds kind (cell_at cells k) found.0) (sym same) found.1, found.2)

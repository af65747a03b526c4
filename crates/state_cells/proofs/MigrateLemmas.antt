-- Cells that are brought to format 2 are the same cells.
use Rattle.std.proofs.Common.{◌≡◌, ◌≤◌, ◌<◌, ◌+◌, ◌==◌, ◌⊎◌, inl, inr, ℕ, ℤ, zero, suc, Bool, true, false, true≢false, cond, List, [], ◌∷◌, ◌++◌, map, filter, length, take, drop, Option, None, Some, IsSome, IfSome, is_some, refl, sym, ap, subst, ◌∙◌, nat_cmp, arith}
use Rattle.std.specs.Cmp.Lexicographic.{slice_cmp}
use Rattle.std.specs.Int.{from_bool}
use Rattle.std.specs.List.{AllByRecursion, filter_map, slice_get}
use Rattle.std.specs.List.Sorted.{IsStrictlySortedBy}
use Rattle.std.specs.Map.{keys_of}
use Rattle.std.specs.Ordering.{is_eq, ordering_reverse}
use Rattle.std.specs.declared.cmp.Ordering.{Ordering}
use Rattle.std.specs.declared.cmp.Ordering.TheVariants.{Less, Equal, Greater}
use Rattle.std.specs.Str.{IsUtf8, bytes_eq}
use Rattle.std.proofs.lemmas.Cmp.{nat_list_cmp_total}
use Rattle.std.proofs.lemmas.List.{take_all}
use Rattle.std.proofs.lemmas.List.Filters.{length-filter_more}
use Rattle.std.proofs.lemmas.Option.{get_or_from_slice_get, slice_get_within}
use Rattle.std.proofs.lemmas.Map.Text.{is_eq-slice_cmp}
use Rattle.std.proofs.lemmas.Slice.Eq.{bytes_eq-Decides}
use Rattle.tree_model.specs.topology_plan.declared.parts.Kind.{Kind}
use Rattle.storm_stores.specs.CellMaps.{CellMap, InKeyOrder, cell_at, with_cell}
use Rattle.storm_stores.proofs.CellMapLemmas.{cell_at-any, same_cells, InKeyOrder-with_cell}
use Rattle.cell_format.specs.Commits.{Holds, IsCellOf, IsHeld}
use Rattle.cell_format.specs.Layout.{AreBytesOf, IsCell, bytes_of, read_of}
use Rattle.cell_format.specs.declared.cell.Cell.{Cell}
use Rattle.cell_format.proofs.LayoutLemmas.{bytes_of-apart, length-bytes_by, read_of-bytes}
use Rattle.tree_model.specs.topology_plan.declared.parts.Kind.TheVariants.{Opaque}
use Rattle.state_cells.specs.Known.{IsSo, Knows}
use Rattle.state_cells.specs.declared.known.Known.{Known}
use Rattle.state_cells.specs.Migrate.{IsBadKey, IsRow, IsRowCell, IsSameCell, Migrates, MigratesAt, MigratesBefore, MigratesSome, all_migrated, first_migrated, is_old, migrated, old_count}
use Rattle.state_cells.specs.Rows.{IsBadRow, row_by, rows_of, value_in}
use Rattle.state_cells.specs.Scans.{AreGood}
use Rattle.state_cells.specs.Turns.{IsBad, Turns}

-- ---- the bytes of one cell

pub migrated_bytes : (cell : Cell) (bytes : List ℕ) → IsCell cell → AreBytesOf cell bytes → migrated bytes ≡ bytes_of cell
migrated_bytes cell bytes is (inl new) =
    let long : length bytes ≡ 46 = ap length new ∙ length-bytes_by true cell in
    let other : is_old bytes ≡ false = ap (λ n. n == 42) long in
    rw other new
migrated_bytes cell bytes is (inr old) =
    let long : length bytes ≡ 42 = ap length old.0 ∙ length-bytes_by false cell in
    let here : is_old bytes ≡ true = ap (λ n. n == 42) long in
    rw here (ap bytes_of (read_of-bytes cell bytes is (inr old)))

-- bytes of format 2 are not of format 1
pub migrated_new : (bytes : List ℕ) → is_old (migrated bytes) ≡ false
migrated_new bytes = cases (is_old bytes) refl
  where
    cases : (b : Bool) → is_old bytes ≡ b → is_old (cond b (bytes_of (read_of bytes)) bytes) ≡ false
    cases true is = ap (λ n. n == 42) (length-bytes_by true (read_of bytes))
    cases false is = is

pub migrated_kept : (bytes : List ℕ) → is_old bytes ≡ false → migrated bytes ≡ bytes
migrated_kept bytes other = rw other refl

-- ---- what a key has

-- a key has what it had, or its cell in format 2
abbrev MayMigrate : Kind → Option (List ℕ) → Option (List ℕ) → Type 0
MayMigrate kind old new = (new ≡ old) ⊎ ((entry : List ℕ × List ℕ) × IsRow kind entry × (old ≡ Some entry.1) × (new ≡ Some (migrated entry.1)))

-- a cell is read from bytes of both formats
same_bytes : (kind : Kind) (key bytes : List ℕ) (row cell : Cell) → IsRowCell kind key bytes row → IsCell cell → AreBytesOf cell (migrated bytes) → AreBytesOf cell bytes
same_bytes kind key bytes row cell is good are =
    let same : row ≡ cell = bytes_of-apart row cell (migrated bytes) is.good.is good (inl (migrated_bytes row bytes is.good.is is.are)) are in
    subst (λ (c : Cell). AreBytesOf c bytes) same is.are

holds_new : (k : Kind) (bytes : List ℕ) (cell : Option Cell) → Holds k (Some bytes) cell → Holds k (Some (migrated bytes)) cell
holds_new k bytes None is = absurd is.bytes
holds_new k bytes (Some c) is = record { bytes = inl (migrated_bytes c bytes is.good.is is.bytes); good = is.good }

holds_old : (kind k : Kind) (key bytes : List ℕ) (row : Cell) (cell : Option Cell) → IsRowCell kind key bytes row → Holds k (Some (migrated bytes)) cell → Holds k (Some bytes) cell
holds_old kind k key bytes row None has is = absurd is.bytes
holds_old kind k key bytes row (Some c) has is = record { bytes = same_bytes kind key bytes row c has is.good.is is.bytes; good = is.good }

pub same_cell : (kind : Kind) (key : List ℕ) (old new : Option (List ℕ)) → MayMigrate kind old new → IsSameCell key old new
same_cell kind key old new (inl same) = λ k cell. (
  λ is. subst (λ (held : Option (List ℕ)). Holds k held cell) (sym same) is,
  λ is. subst (λ (held : Option (List ℕ)). Holds k held cell) same is,
)
same_cell kind key old new (inr (entry, row, was, now)) = λ k cell. (
  λ is. subst (λ (held : Option (List ℕ)). Holds k held cell) (sym now) (holds_new k entry.1 cell (subst (λ (held : Option (List ℕ)). Holds k held cell) was is)),
  λ is. subst (λ (held : Option (List ℕ)). Holds k held cell) (sym was) (holds_old kind k entry.0 entry.1 row.0 cell row.1 (subst (λ (held : Option (List ℕ)). Holds k held cell) now is)),
)

same_value : (kind : Kind) (old new : Option (List ℕ)) → MayMigrate kind old new → value_in new ≡ value_in old
same_value kind old new (inl same) = ap value_in same
same_value kind old new (inr (entry, row, was, now)) =
    let moved = migrated_bytes row.0 entry.1 row.1.good.is row.1.are in
    let one : read_of (migrated entry.1) ≡ row.0 = read_of-bytes row.0 (migrated entry.1) row.1.good.is (inl moved) in
    let other : read_of entry.1 ≡ row.0 = read_of-bytes row.0 entry.1 row.1.good.is row.1.are in
    ap value_in now ∙ ap (λ (c : Cell). c.value) one ∙ sym (ap (λ (c : Cell). c.value) other) ∙ sym (ap value_in was)

-- a key whose cell is bad now had this bad cell
bad_still : (kind : Kind) (key : List ℕ) (old new : Option (List ℕ)) → MayMigrate kind old new → IsBadRow kind key new → IsBadRow kind key old
bad_still kind key old new may (inr none) = inr (subst (λ (o : Option ℤ). IsSome o) (same_value kind old new may) none.0, none.1)
bad_still kind key old new (inl same) (inl bad) = inl (subst (IsBad kind) same bad)
bad_still kind key old new (inr (entry, row, was, now)) (inl bad) =
    let refused = subst (IsBad kind) now bad in
    absurd (refused row.0 row.1.good (inl (migrated_bytes row.0 entry.1 row.1.good.is row.1.are)))

-- ---- the cells of the first keys

pub keys-first_migrated : (n : ℕ) (cells : CellMap) → keys_of (first_migrated n cells) ≡ keys_of cells
keys-first_migrated zero cells = refl
keys-first_migrated (suc n) [] = refl
keys-first_migrated (suc n) (e ∷ es) = ap (λ keys. e.0 ∷ keys) (keys-first_migrated n es)

pub may_migrate : (kind : Kind) (n : ℕ) (cells : CellMap) (key : List ℕ) → AllByRecursion (IsRow kind) (take n cells) → MayMigrate kind (cell_at cells key) (cell_at (first_migrated n cells) key)
may_migrate kind zero cells key rows = inl refl
may_migrate kind (suc n) [] key rows = inl refl
may_migrate kind (suc n) (e ∷ es) key rows = cases (bytes_eq key e.0) (may_migrate kind n es key rows.1)
  where
    cases : (b : Bool) → MayMigrate kind (cell_at es key) (cell_at (first_migrated n es) key) → MayMigrate kind (cond b (Some e.1) (cell_at es key)) (cond b (Some (migrated e.1)) (cell_at (first_migrated n es) key))
    cases true later = inr (e, rows.0, refl, refl)
    cases false later = later

pub rows-first_migrated : (kind : Kind) (n : ℕ) (cells : CellMap) → AllByRecursion (IsRow kind) (take n cells) → rows_of (first_migrated n cells) ≡ rows_of cells
rows-first_migrated kind n cells rows =
    let same : (λ (key : List ℕ). row_by key (value_in (cell_at (first_migrated n cells) key))) ≡ (λ (key : List ℕ). row_by key (value_in (cell_at cells key))) =
    λ i. λ key. row_by key (same_value kind (cell_at cells key) (cell_at (first_migrated n cells) key) (may_migrate kind n cells key rows) i) in
    ap (filter_map (λ (key : List ℕ). row_by key (value_in (cell_at (first_migrated n cells) key)))) (keys-first_migrated n cells)
    ∙ ap (λ f. filter_map f (keys_of cells)) same

pub length-first_migrated : (n : ℕ) (cells : CellMap) → length (first_migrated n cells) ≡ length cells
length-first_migrated zero cells = refl
length-first_migrated (suc n) [] = refl
length-first_migrated (suc n) (e ∷ es) = ap (λ k. suc k) (length-first_migrated n es)

next-first_migrated : (n : ℕ) (cells : CellMap) → slice_get (first_migrated n cells) n ≡ slice_get cells n
next-first_migrated zero cells = refl
next-first_migrated (suc n) [] = refl
next-first_migrated (suc n) (e ∷ es) = next-first_migrated n es

-- a later key is greater
greater : (x : List ℕ) (cells : CellMap) (n : ℕ) (key bytes : List ℕ) → AllByRecursion (λ k. slice_cmp nat_cmp x k ≡ Less) (keys_of cells) → slice_get cells n ≡ Some (key, bytes) → slice_cmp nat_cmp key x ≡ Greater
greater x [] n key bytes less at = absurd (let e : ◌≡◌ {A = Option (List ℕ × List ℕ)} None (Some (key, bytes)) = at in cc)
greater x (e ∷ es) zero key bytes less at =
    let same : e ≡ (key, bytes) = cc in
    nat_list_cmp_total.antisymm key x ∙ ap (λ (k : List ℕ). ordering_reverse (slice_cmp nat_cmp x k)) (sym (ap (λ (p : List ℕ × List ℕ). p.0) same)) ∙ ap ordering_reverse less.0
greater x (e ∷ es) (suc n) key bytes less at = greater x es n key bytes less.1 at

self_equal : (o : Ordering) → o ≡ ordering_reverse o → o ≡ Equal
self_equal Less is = absurd cc
self_equal Equal is = refl
self_equal Greater is = absurd cc

-- one more cell is done
more : (n : ℕ) (cells : CellMap) (key bytes : List ℕ) → InKeyOrder cells → slice_get cells n ≡ Some (key, bytes) → with_cell (first_migrated n cells) key (migrated bytes) ≡ first_migrated (suc n) cells
unfolding IsStrictlySortedBy
more n [] key bytes ordered at = absurd (let e : ◌≡◌ {A = Option (List ℕ × List ℕ)} None (Some (key, bytes)) = at in cc)
more zero (e ∷ es) key bytes ordered at =
    let same : e ≡ (key, bytes) = cc in
    let equal : slice_cmp nat_cmp key e.0 ≡ Equal = subst (λ (k : List ℕ). slice_cmp nat_cmp k e.0 ≡ Equal) (ap (λ (p : List ℕ × List ℕ). p.0) same) (self_equal (slice_cmp nat_cmp e.0 e.0) (nat_list_cmp_total.antisymm e.0 e.0)) in
    rw equal (ap (λ (p : List ℕ × List ℕ). (e.0, migrated p.1) ∷ es) (sym same))
more (suc n) (e ∷ es) key bytes ordered at =
    let past : slice_cmp nat_cmp key e.0 ≡ Greater = greater e.0 es n key bytes ordered.0 at in
    rw past (ap (λ (rest : CellMap). (e.0, migrated e.1) ∷ rest) (more n es key bytes ordered.1 at))

rows_more : (kind : Kind) (n : ℕ) (cells : CellMap) (entry : List ℕ × List ℕ) → slice_get cells n ≡ Some entry → AllByRecursion (IsRow kind) (take n cells) → IsRow kind entry → AllByRecursion (IsRow kind) (take (suc n) cells)
rows_more kind n [] entry at rows row = absurd (let e : ◌≡◌ {A = Option (List ℕ × List ℕ)} None (Some entry) = at in cc)
rows_more kind zero (e ∷ es) entry at rows row = let same : entry ≡ e = cc in (subst (IsRow kind) same row, tt)
rows_more kind (suc n) (e ∷ es) entry at rows row = (rows.0, rows_more kind n es entry at rows.1 row)

-- ---- the key of a number

-- it has a cell
pub held_at : (cells : CellMap) (i : ℕ) (key : List ℕ) → InKeyOrder cells → slice_get (keys_of cells) i ≡ Some key → (bytes : List ℕ) × (slice_get cells i ≡ Some (key, bytes)) × (cell_at cells key ≡ Some bytes)
unfolding IsStrictlySortedBy
held_at [] i key ordered at = absurd (let e : ◌≡◌ {A = Option (List ℕ)} None (Some key) = at in cc)
held_at (e ∷ es) zero key ordered at =
    let same : e.0 ≡ key = cc in
    let found : bytes_eq key e.0 ≡ true = (bytes_eq-Decides key e.0).1 (sym same) in
    (e.1, ap (λ (k : List ℕ). Some (k, e.1)) same, rw found refl)
held_at (e ∷ es) (suc i) key ordered at =
    let later = held_at es i key ordered.1 at in
    let past : slice_cmp nat_cmp key e.0 ≡ Greater = greater e.0 es i key later.0 ordered.0 later.1 in
    let apart : bytes_eq key e.0 ≡ false = sym (is_eq-slice_cmp key e.0) ∙ ap is_eq past in
    (later.0, later.1, rw apart later.2)

-- its cell written once more
written_again : (cells : CellMap) (key bytes : List ℕ) → InKeyOrder cells → cell_at cells key ≡ Some bytes → with_cell cells key bytes ≡ cells
written_again cells key bytes ordered here =
    same_cells (with_cell cells key bytes) cells (InKeyOrder-with_cell cells key bytes ordered) ordered (λ at. cell_at-any cells key bytes at ∙ cases at (bytes_eq at key) refl)
  where
    cases : (at : List ℕ) (b : Bool) → bytes_eq at key ≡ b → cond b (Some bytes) (cell_at cells at) ≡ cell_at cells at
    cases at true is = sym here ∙ ap (cell_at cells) (sym ((bytes_eq-Decides at key).0 is))
    cases at false is = refl

pub bad_text : (kind : Kind) (key bytes : List ℕ) (cell : Cell) → IsCellOf kind cell × AreBytesOf cell bytes → IsSome cell.value × (¬ IsUtf8 key) → IsBadRow kind key (Some bytes)
bad_text kind key bytes cell is none =
    let read : read_of bytes ≡ cell = read_of-bytes cell bytes is.0.is is.1 in
    inr (subst (λ (c : Cell). IsSome c.value) (sym read) none.0, none.1)

module _ {S : Type 0} (tells : S → CellMap → Type 0) where
  -- bytes of format 2 stay
  pub kept_at : (kind : Kind) (i : ℕ) (cells : CellMap) (key bytes : List ℕ) (cell : Cell) (new : S) → InKeyOrder cells → slice_get (keys_of cells) i ≡ Some key → Some bytes ≡ cell_at cells key
      → IsRowCell kind key bytes cell → length bytes ≡ 46 → tells new cells → MigratesAt tells kind i false cells new
  kept_at kind i cells key bytes cell new ordered at here row long told =
      let held = held_at cells i key ordered at in
      let both : ◌≡◌ {A = Option (List ℕ)} (Some held.0) (Some bytes) = sym held.2 ∙ sym here in
      let same : held.0 ≡ bytes = cc in
      let young : is_old bytes ≡ false = ap (λ n. n == 42) long in
      let stays : migrated bytes ≡ bytes = rw young refl in
      record {
        key = key;
        bytes = bytes;
        at = held.1 ∙ ap (λ (b : List ℕ). Some (key, b)) same;
        row = (cell, row);
        was = sym young;
        told = subst (tells new) (sym (ap (with_cell cells key) stays ∙ written_again cells key bytes ordered (sym here))) told;
      }

  -- bytes of format 1 are written anew
  pub put_at : (kind : Kind) (i : ℕ) (cells : CellMap) (key bytes : List ℕ) (cell : Cell) (new : S) → InKeyOrder cells → slice_get (keys_of cells) i ≡ Some key → Some bytes ≡ cell_at cells key
      → IsRowCell kind key bytes cell → (length bytes ≡ 46 → ⊥) → tells new (with_cell cells key (bytes_of cell)) → MigratesAt tells kind i true cells new
  put_at kind i cells key bytes cell new ordered at here row other told =
      let held = held_at cells i key ordered at in
      let both : ◌≡◌ {A = Option (List ℕ)} (Some held.0) (Some bytes) = sym held.2 ∙ sym here in
      let same : held.0 ≡ bytes = cc in
      record {
        key = key;
        bytes = bytes;
        at = held.1 ∙ ap (λ (b : List ℕ). Some (key, b)) same;
        row = (cell, row);
        was = sym (ap (λ n. n == 42) (short row.are));
        told = subst (λ (b : List ℕ). tells new (with_cell cells key b)) (sym (migrated_bytes cell bytes row.good.is row.are)) told;
      }
    where
      short : AreBytesOf cell bytes → length bytes ≡ 42
      short (inl long) = absurd (other (ap length long ∙ length-bytes_by true cell))
      short (inr old) = ap length old.0 ∙ length-bytes_by false cell

pub or_else : {A B C : Type 0} → A ⊎ B → (B → C) → A ⊎ C
or_else (inl a) f = inl a
or_else (inr b) f = inr (f b)

pub from_bool-le : (b : Bool) → from_bool b ≤ 1
from_bool-le true = omega arith
from_bool-le false = omega arith

counts : (b : Bool) → cond b 1 0 ≡ from_bool b
counts true = refl
counts false = refl

-- ---- how far it came

module _ {S : Type 0} (tells : S → CellMap → Type 0) where
  pub Migrates-none : (kind : Kind) (cells : CellMap) (new : S) → tells new cells → Migrates tells kind 0 cells new
  Migrates-none kind cells new told = record { within = omega arith; rows = tt; told = told }

  pub Migrates-more : (kind : Kind) (i : ℕ) (was : Bool) (cells : CellMap) (mid new : S) → InKeyOrder cells → Migrates tells kind i cells mid → MigratesAt tells kind i was (first_migrated i cells) new
      → Migrates tells kind (i + 1) cells new × (old_count (take (i + 1) cells) ≡ old_count (take i cells) + from_bool was)
  Migrates-more kind i was cells mid new ordered done at =
      let here : slice_get cells i ≡ Some (at.key, at.bytes) = sym (next-first_migrated i cells) ∙ at.at in
      let within = slice_get_within cells i (at.key, at.bytes) here in
      let next : suc i ≡ i + 1 = omega arith in
      let item = get_or_from_slice_get cells i (at.key, at.bytes) (at.key, at.bytes) here in (
        subst (λ (n : ℕ). Migrates tells kind n cells new) next (record {
          within = omega (arith, within);
          rows = rows_more kind i cells (at.key, at.bytes) here done.rows at.row;
          told = subst (tells new) (more i cells at.key at.bytes ordered here) at.told;
        }),
        length-filter_more (λ (entry : List ℕ × List ℕ). is_old entry.1) cells i (at.key, at.bytes) within
            ∙ ap (λ (entry : List ℕ × List ℕ). old_count (take i cells) + cond (is_old entry.1) 1 0) item
            ∙ ap (λ (b : Bool). old_count (take i cells) + cond b 1 0) (sym at.was)
            ∙ ap (λ (n : ℕ). old_count (take i cells) + n) (counts was),
      )

  -- the next key failed
  pub Migrates-some : (kind : Kind) (i : ℕ) (cells : CellMap) (mid new : S) → InKeyOrder cells → Migrates tells kind i cells mid
      → tells new (first_migrated i cells) ⊎ MigratesAt tells kind i true (first_migrated i cells) new → MigratesSome tells kind cells new
  Migrates-some kind i cells mid new ordered done (inl told) = (i, record { within = done.within; rows = done.rows; told = told })
  Migrates-some kind i cells mid new ordered done (inr at) = (i + 1, (Migrates-more kind i true cells mid new ordered done at).0)

  -- the next key is bad
  pub Migrates-before : (kind : Kind) (i : ℕ) (k : List ℕ) (cells : CellMap) (mid new : S) → Migrates tells kind i cells mid → IsBadKey kind i k (first_migrated i cells) → tells new (first_migrated i cells)
      → MigratesBefore tells kind k cells new
  Migrates-before kind i k cells mid new done bad told = (
    i,
    ap (λ (keys : List (List ℕ)). slice_get keys i) (sym (keys-first_migrated i cells)) ∙ bad.0,
    record { within = done.within; rows = done.rows; told = told },
  )

  pub Migrates-bad : (kind : Kind) (i : ℕ) (k : List ℕ) (cells : CellMap) (mid : S) → Migrates tells kind i cells mid → IsBadKey kind i k (first_migrated i cells) → IsBadRow kind k (cell_at cells k)
  Migrates-bad kind i k cells mid done bad = bad_still kind k (cell_at cells k) (cell_at (first_migrated i cells) k) (may_migrate kind i cells k done.rows) bad.1

  -- all keys are done
  pub Migrates-end : (kind : Kind) (n : ℕ) (cells : CellMap) (new : S) → n ≡ length cells → Migrates tells kind n cells new → Migrates tells kind (length cells) cells new
  Migrates-end kind n cells new all done = subst (λ (m : ℕ). Migrates tells kind m cells new) all done

-- ---- a whole part

all_rows : {S : Type 0} (tells : S → CellMap → Type 0) (kind : Kind) (cells : CellMap) (new : S) → Migrates tells kind (length cells) cells new → AllByRecursion (IsRow kind) cells
all_rows tells kind cells new done = subst (AllByRecursion (IsRow kind)) (take_all (length cells) cells (omega arith)) done.rows

all_of_first : (cells : CellMap) → first_migrated (length cells) cells ≡ all_migrated cells
all_of_first [] = refl
all_of_first (e ∷ es) = ap (λ (rest : CellMap). (e.0, migrated e.1) ∷ rest) (all_of_first es)

none_old : (cells : CellMap) → old_count (all_migrated cells) ≡ 0
none_old [] = refl
none_old (e ∷ es) = let young : is_old (migrated e.1) ≡ false = migrated_new e.1 in rw young (none_old es)

none-is_some : (o : Option ℤ) → o ≡ None → IsSome o → ⊥
none-is_some o none is = true≢false (sym is ∙ ap is_some none)

row_at : (kind : Kind) (cells : CellMap) (key : List ℕ) → AllByRecursion (IsRow kind) cells → (cell_at cells key ≡ None) ⊎ ((bytes : List ℕ) × (cell_at cells key ≡ Some bytes) × IsRow kind (key, bytes))
row_at kind [] key rows = inl refl
row_at kind (e ∷ es) key rows = cases (bytes_eq key e.0) refl (row_at kind es key rows.1)
  where
    cases : (b : Bool) → bytes_eq key e.0 ≡ b → (cell_at es key ≡ None) ⊎ ((bytes : List ℕ) × (cell_at es key ≡ Some bytes) × IsRow kind (key, bytes))
        → (cond b (Some e.1) (cell_at es key) ≡ None) ⊎ ((bytes : List ℕ) × (cond b (Some e.1) (cell_at es key) ≡ Some bytes) × IsRow kind (key, bytes))
    cases true is later = inr (e.1, refl, subst (λ (k : List ℕ). (cell : Cell) × IsRowCell kind k e.1 cell) (sym ((bytes_eq-Decides key e.0).0 is)) rows.0)
    cases false is later = later

module _ {S : Type 0} (tells : S → CellMap → Type 0) where
  pub part_done : (kind : Kind) (cells : CellMap) (new : S) → Migrates tells kind (length cells) cells new → tells new (all_migrated cells)
  part_done kind cells new done = subst (tells new) (all_of_first cells) done.told

  pub part_none_left : (one_map : (s : S) (a b : CellMap) → tells s a → tells s b → a ≡ b) (kind : Kind) (before cells : CellMap) (new : S) → Migrates tells kind (length before) before new → tells new cells
      → old_count cells ≡ 0
  part_none_left one_map kind before cells new done told = ap old_count (one_map new cells (all_migrated before) told (part_done kind before new done)) ∙ none_old before

  pub part_good : (kind : Kind) (cells : CellMap) (new : S) → Migrates tells kind (length cells) cells new → AreGood kind cells
  part_good kind cells new done = λ key. cases key (row_at kind cells key (all_rows tells kind cells new done))
    where
      cases : (key : List ℕ) → (cell_at cells key ≡ None) ⊎ ((bytes : List ℕ) × (cell_at cells key ≡ Some bytes) × IsRow kind (key, bytes)) → (cell : Option Cell) × Holds kind (cell_at cells key) cell
      cases key (inl none) = (None, subst (λ (held : Option (List ℕ)). Holds kind held None) (sym none) (record { bytes = tt; good = tt }))
      cases key (inr (bytes, is, row)) = (Some row.0, subst (λ (held : Option (List ℕ)). Holds kind held (Some row.0)) (sym is) (record { bytes = row.1.are; good = row.1.good }))

  pub part_none_bad : (kind : Kind) (cells : CellMap) (new : S) → Migrates tells kind (length cells) cells new → (k : List ℕ) → IsBadRow kind k (cell_at cells k) → ⊥
  part_none_bad kind cells new done = λ k. cases k (row_at kind cells k (all_rows tells kind cells new done))
    where
      cases : (k : List ℕ) → (cell_at cells k ≡ None) ⊎ ((bytes : List ℕ) × (cell_at cells k ≡ Some bytes) × IsRow kind (k, bytes)) → IsBadRow kind k (cell_at cells k) → ⊥
      cases k (inl none) (inl bad) = subst (IsBad kind) none bad
      cases k (inl none) (inr (some, no_text)) = none-is_some (value_in (cell_at cells k)) (ap value_in none) some
      cases k (inr (bytes, is, row)) (inl bad) = subst (IsBad kind) is bad row.0 row.1.good row.1.are
      cases k (inr (bytes, is, row)) (inr (some, no_text)) =
          let read : read_of bytes ≡ row.0 = read_of-bytes row.0 bytes row.1.good.is row.1.are in
          no_text (row.1.text (subst (λ (c : Cell). IsSome c.value) read (subst (λ (held : Option (List ℕ)). IsSome (value_in held)) is some)))

  pub part_same : (kind : Kind) (old new : S) → ((cells : CellMap) → tells old cells → MigratesSome tells kind cells new) → Turns tells IsSameCell old new
  part_same kind old new reached = record {
    to = λ cells told.
        let x = reached cells told in
        (first_migrated x.0 cells, x.1.told, λ key. same_cell kind key (cell_at cells key) (cell_at (first_migrated x.0 cells) key) (may_migrate kind x.0 cells key x.1.rows));
  }

  pub part_rows : (one_map : (s : S) (a b : CellMap) → tells s a → tells s b → a ≡ b) (kind : Kind) (old new : S) → ((cells : CellMap) → tells old cells → MigratesSome tells kind cells new)
      → (before after : CellMap) → tells old before → tells new after → rows_of after ≡ rows_of before
  part_rows one_map kind old new reached before after was is =
      let x = reached before was in
      ap rows_of (one_map new after (first_migrated x.0 before) is x.1.told) ∙ rows-first_migrated kind x.0 before x.1.rows

  -- what is known of the store's cells is so of the same cells
  pub part_known : (one_map : (s : S) (a b : CellMap) → tells s a → tells s b → a ≡ b) (kind : Kind) (old new : S) (known : Option Known) → ((cells : CellMap) → tells old cells → MigratesSome tells kind cells new)
      → ((cells : CellMap) → tells new cells → (before : CellMap) × tells old before) → IfSome known (Knows tells old) → IfSome known (Knows tells new)
  part_known one_map kind old new None reached before knows = tt
  part_known one_map kind old new (Some known) reached before knows = λ cells told.
      let was = before cells told in
      let x = reached was.0 was.1 in
      let same = one_map new cells (first_migrated x.0 was.0) told x.1.told in
      let so = knows was.0 was.1 in
      subst (λ (map : CellMap). IsSo known map) (sym same) (record {
        once = so.once;
        at = λ key. let k = so.at key in record {
          cell = k.cell;
          holds = (same_cell kind key (cell_at was.0 key) (cell_at (first_migrated x.0 was.0) key) (may_migrate kind x.0 was.0 key x.1.rows) Opaque k.cell).0 k.holds;
          listed = k.listed;
          within = k.within;
        };
      })

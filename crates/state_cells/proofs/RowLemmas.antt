-- The rows that were read so far.
use Rattle.std.proofs.Common.{◌≡◌, ◌+◌, ℕ, ℤ, inr, IsSome, suc, false, true≢false, List, [], ◌∷◌, ◌++◌, length, take, Option, None, Some, refl, sym, ap, subst, ◌∙◌, arith}
use Rattle.std.specs.List.{filter_map}
use Rattle.std.specs.Map.{keys_of}
use Rattle.std.specs.Option.{option_to_list}
use Rattle.std.specs.Str.{IsUtf8}
use Rattle.std.proofs.lemmas.List.{take_all}
use Rattle.std.proofs.lemmas.List.Elements.{filter_map-append}
use Rattle.std.proofs.lemmas.Map.Entries.{length-keys_of}
use Rattle.tree_model.specs.topology_plan.declared.parts.Kind.{Kind}
use Rattle.tree_model.specs.declared.write.Pair.{Pair}
use Rattle.storm_stores.specs.CellMaps.{CellMap, cell_at}
use Rattle.cell_format.specs.Commits.{Holds, value_of}
use Rattle.cell_format.specs.declared.cell.Cell.{Cell}
use Rattle.cell_format.proofs.LayoutLemmas.{read_of-bytes}
use Rattle.state_cells.specs.Rows.{IsBadRow, Reads, row_by, rows_of, value_in}
use Rattle.state_cells.specs.Scans.{AreGood}
use Rattle.state_cells.proofs.ScanLemmas.{Scanned, Scanned-end, Scanned-more, Scanned-none, taken_more}

-- the rows of the first keys; the keys of some transaction tell of each cell that it is good
pub record Tabled (kind : Kind) (cells : CellMap) (n : ℕ) (pairs : List Pair) : Type 0 where
  pub rows : pairs ≡ filter_map (λ key. row_by key (value_in (cell_at cells key))) (take n (keys_of cells))
  pub seen : (keys : List (List ℕ)) × Scanned kind 0 cells n keys false

value_is : (kind : Kind) (held : Option (List ℕ)) (cell : Option Cell) → Holds kind held cell → value_in held ≡ value_of cell
value_is kind None None is = refl
value_is kind None (Some c) is = absurd is.bytes
value_is kind (Some bytes) None is = absurd is.bytes
value_is kind (Some bytes) (Some c) is = ap (λ (d : Cell). d.value) (read_of-bytes c bytes is.good.is is.bytes)

pub Tabled-none : (kind : Kind) (cells : CellMap) → Tabled kind cells 0 []
Tabled-none kind cells = record { rows = refl; seen = ([], Scanned-none kind 0 cells false) }

pub Tabled-more : (kind : Kind) (cells : CellMap) (i : ℕ) (old new : List Pair) → Tabled kind cells i old → Reads kind cells i old new → Tabled kind cells (i + 1) new
Tabled-more kind cells i old new seen reads =
    let next : i + 1 ≡ suc i = omega arith in
    let row : row_by reads.key (value_in (cell_at cells reads.key)) ≡ row_by reads.key (value_of reads.cell) = ap (row_by reads.key) (value_is kind (cell_at cells reads.key) reads.cell reads.holds) in
    record {
      rows = reads.added ∙ ap (λ xs. xs ++ option_to_list (row_by reads.key (value_of reads.cell))) seen.rows
          ∙ ap (λ o. filter_map (λ key. row_by key (value_in (cell_at cells key))) (take i (keys_of cells)) ++ option_to_list o) (sym row)
          ∙ sym (ap (λ n. filter_map (λ key. row_by key (value_in (cell_at cells key))) (take n (keys_of cells))) next ∙ ap (filter_map (λ key. row_by key (value_in (cell_at cells key)))) (taken_more (keys_of cells) i reads.key reads.at)
          ∙ mapped_more (λ key. row_by key (value_in (cell_at cells key))) (take i (keys_of cells)) reads.key);
      seen = (
        _,
        Scanned-more kind 0 cells i seen.seen.0 _ false false seen.seen.1 (record {
          key = reads.key;
          at = reads.at;
          cell = reads.cell;
          holds = reads.holds;
          notes = record { noted = refl; newest = λ is. absurd (true≢false (sym is)) };
        }),
      );
    }
  where
    mapped_more : (f : List ℕ → Option Pair) (xs : List (List ℕ)) (x : List ℕ) → filter_map f (xs ++ x ∷ []) ≡ filter_map f xs ++ option_to_list (f x)
    mapped_more f xs x = filter_map-append f xs (x ∷ []) ∙ ap (λ ys. filter_map f xs ++ ys) (alone (f x) refl)
      where
        alone : (o : Option Pair) → f x ≡ o → filter_map f (x ∷ []) ≡ option_to_list (f x)
        alone None is = rw is refl
        alone (Some p) is = rw is refl

pub Tabled-end : (kind : Kind) (cells : CellMap) (n : ℕ) (pairs : List Pair) → n ≡ length cells → Tabled kind cells n pairs → (pairs ≡ rows_of cells) × AreGood kind cells
Tabled-end kind cells n pairs all seen = (
  seen.rows ∙ ap (filter_map (λ key. row_by key (value_in (cell_at cells key)))) (take_all n (keys_of cells) (omega (arith, length-keys_of cells, all))),
  λ key. let x = (Scanned-end kind 0 cells n seen.seen.0 false all seen.seen.1).1 key in (x.0, x.1),
)

-- a value at a key that is no text
pub bad_row : (kind : Kind) (cells : CellMap) (k key : List ℕ) (cell : Option Cell) (number : ℤ) → k ≡ key → Holds kind (cell_at cells key) cell → value_of cell ≡ Some number → ¬ IsUtf8 key → IsBadRow kind k (cell_at cells k)
bad_row kind cells k key cell number same holds is no_text =
    let there : value_in (cell_at cells key) ≡ Some number = value_is kind (cell_at cells key) cell holds ∙ is in
    let some : IsSome (value_in (cell_at cells key)) = subst (λ (o : Option ℤ). IsSome o) (sym there) refl in
    subst (λ (x : List ℕ). IsBadRow kind x (cell_at cells x)) (sym same) (inr (some, no_text))

-- The tree of a batch has no more nodes than that of all records, and those of different batches together have no more.
use Rattle.std.proofs.Common.{◌≡◌, ◌≤◌, ℕ, zero, suc, ◌+◌, ◌-◌, ◌*◌, List, [], ◌∷◌, ◌++◌, length, take, drop, flat_map, sym, ap, ap₂, ◌∙◌, arith, refl}
use Rattle.std.specs.Prelude.{min}
use Rattle.std.specs.List.{range_with_len}
use Rattle.std.proofs.Math.Seq.{take-add}
use Rattle.std.proofs.lemmas.Grind.{flat_map-append}
use Rattle.std.proofs.lemmas.List.{drop-drop, take-append-drop}
use Rattle.commit_order.specs.attempt_fates.Fates.{record_at, records_in}
use Rattle.commit_order.specs.bolt_ops.RowOp.{Custom}
use Rattle.commit_order.specs.counted_items.Weights.{weigh}
use Rattle.commit_order.specs.record_offers.Offers.{batch_numbers}
use Rattle.commit_order.specs.record_spans.declared.span.Span.{Span}
use Rattle.commit_order.specs.record_spans.Spans.{AreApart, numbers_of, records_of}
use Rattle.commit_order.specs.storm_values.declared.value.Value.{Value}
use Rattle.commit_order.specs.taken_records.Taken.{batch_spans}
use Rattle.commit_order.proofs.taken_records.Running.{batch_rises, runs_records}
use Rattle.commit_order.specs.topology_plan.Topology.{Topology}
use Rattle.commit_order.specs.tree_model.Trees.{node_count}

-- joined rows have as many nodes as the rows of each
abbrev pub NodesAdd : Topology → Custom → Type 0
NodesAdd t custom = (xs ys : List (List Value)) → node_count t custom (xs ++ ys) ≡ node_count t custom xs + node_count t custom ys

-- the records of so many numbers from one on
pub records_from : {R : Type 0} (records : List R) (j m : ℕ) → flat_map (record_at records) (range_with_len (j + 1) m) ≡ take m (drop j records)
records_from records j zero = refl
records_from records j (suc m) =
    let at : j + 1 - 1 ≡ j = omega arith in
    let here : record_at records (j + 1) ≡ take 1 (drop j records) = ap (λ k. take 1 (drop k records)) at in
    let rest : flat_map (record_at records) (range_with_len (j + 1 + 1) m) ≡ take m (drop (j + 1) records) = records_from records (j + 1) m in
    let next : drop (j + 1) records ≡ drop 1 (drop j records) = sym (drop-drop 1 j records) in
    let more : suc m ≡ 1 + m = omega arith in
    ap₂ (λ xs ys. xs ++ ys) here (rest ∙ ap (take m) next)
    ∙ sym (ap (λ k. take k (drop j records)) more ∙ take-add 1 m (drop j records))

module _ (t : Topology) (custom : Custom) (adds : NodesAdd t custom) (rows : List (List Value)) where
  abbrev nodes : List (List Value) → ℕ
  nodes rs = node_count t custom rs

  -- what comes first, and what lies behind
  parted : (n : ℕ) (rs : List (List Value)) → nodes (take n rs) + nodes (drop n rs) ≡ nodes rs
  parted n rs = sym (adds (take n rs) (drop n rs)) ∙ ap nodes (take-append-drop n rs)

  behind_by : (n i j : ℕ) → j ≡ i + n → nodes (drop j rows) ≤ nodes (drop i rows)
  behind_by n i j is =
      let p = parted n (drop i rows) in
      let e : nodes (drop n (drop i rows)) ≡ nodes (drop j rows) = ap nodes (drop-drop n i rows ∙ ap (λ (k : ℕ). drop k rows) (sym is)) in omega arith

  behind : (i j : ℕ) → i ≤ j → nodes (drop j rows) ≤ nodes (drop i rows)
  behind i j below = behind_by (j - i) i j (omega arith)

  -- spans that are apart, from a record on
  apart_nodes : (low : ℕ) (spans : List Span) → AreApart low spans → nodes (records_in rows spans) ≤ nodes (drop low rows)
  apart_nodes low [] apart = let none = adds [] [] in omega arith
  apart_nodes low (span ∷ spans) apart =
      let above = apart.0 in
      let some = apart.1 in
      let count : ℕ = span.last + 1 - span.first in
      let from : ℕ = span.first - 1 in
      let both : nodes (records_in rows (span ∷ spans)) ≡ nodes (flat_map (record_at rows) (numbers_of span)) + nodes (records_in rows spans) =
      ap nodes (flat_map-append (record_at rows) (numbers_of span) (records_of spans))
      ∙ adds (flat_map (record_at rows) (numbers_of span)) (records_in rows spans) in
      let own : flat_map (record_at rows) (numbers_of span) ≡ take count (drop from rows) =
      ap (λ (k : ℕ). flat_map (record_at rows) (range_with_len k count)) (let e : span.first ≡ from + 1 = omega arith in e) ∙ records_from rows from count in
      let first = ap nodes own in
      let rest = apart_nodes (span.last + 1) spans apart.2 in
      let split = parted count (drop from rows) in
      let end : nodes (drop count (drop from rows)) ≡ nodes (drop span.last rows) =
      ap nodes (drop-drop count from rows ∙ ap (λ (k : ℕ). drop k rows) (let e : from + count ≡ span.last = omega arith in e)) in
      let later = behind span.last (span.last + 1) (omega arith) in
      let start = behind low from (omega arith) in omega arith

  -- the tree of a batch has no more nodes than that of all records
  pub batch-nodes : (spans : List Span) → AreApart 0 spans → nodes (records_in rows spans) ≤ nodes rows
  batch-nodes spans apart = apart_nodes 0 spans apart

  -- the batches of a spout without partitions have no more nodes than the records from the first of them on
  pub batches-nodes : (size start count : ℕ)
      → weigh (λ (txid : ℕ). nodes (records_in rows (batch_spans (length rows) size txid))) (range_with_len (start + 1) count) ≤ nodes
      (drop (start * size) rows)
  batches-nodes size start zero = omega arith
  batches-nodes size start (suc count) =
      let own = one_batch (start * size) ((start + 1) * size) (start + 1) (let e : start + 1 - 1 ≡ start = omega arith in ap (λ (k : ℕ). k * size) e) refl in
      let next : (start + 1) * size ≡ start * size + size = omega arith in
      let rest = batches-nodes size (start + 1) count in
      let later = behind (start * size + own.0) ((start + 1) * size) (let few = own.2 in omega arith) in omega (arith, own.1)
    where
      one_batch : (before end txid : ℕ) → (txid - 1) * size ≡ before → txid * size ≡ end
          → (many : ℕ) × (nodes (records_in rows (batch_spans (length rows) size txid)) + nodes (drop (before + many) rows) ≡ nodes (drop before rows)) ×
          (many ≤ end - before)
      one_batch before end txid first last =
          let many : ℕ = min end (length rows) + 1 - (before + 1) in
          let numbers : batch_numbers (length rows) size txid ≡ range_with_len (before + 1) many =
          (λ i. range_with_len (first i + 1) (min (last i) (length rows) + 1 - (first i + 1))) in
          let same : records_in rows (batch_spans (length rows) size txid) ≡ take many (drop before rows) =
          ap (flat_map (record_at rows)) (runs_records 0 (batch_numbers (length rows) size txid) (batch_rises (length rows) size txid) ∙ numbers)
          ∙ records_from rows before many in
          let split = parted many (drop before rows) in
          let own = ap nodes same in
          let rest : nodes (drop many (drop before rows)) ≡ nodes (drop (before + many) rows) = ap nodes (drop-drop many before rows) in
          (many, omega arith, omega arith)

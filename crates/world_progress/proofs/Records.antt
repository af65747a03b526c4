-- Batches that share no record have no more nodes together than all records.
use Rattle.std.proofs.Common.{◌≡◌, ◌<◌, ◌≤◌, inl, inr, ℕ, zero, suc, ◌+◌, ◌-◌, ◌*◌, ◌==◌, ◌&&◌, ◌||◌, Bool, true, false, cond, List, [], ◌∷◌, ◌++◌, length, flat_map, refl, sym, ap, ◌∙◌, arith, eq-eqb, eqb-true}
use Rattle.std.specs.Prelude.{nat_le}
use Rattle.std.specs.List.{AllByRecursion, range_with_len}
use Rattle.std.proofs.Math.Nat.{mul-le-mul_left}
use Rattle.std.proofs.lemmas.Bool.{cases_eq, leb-false, leb-true}
use Rattle.std.proofs.lemmas.List.{take_all}
use Rattle.event_worlds.specs.attempt_fates.Fates.{record_at, records_in}
use Rattle.event_worlds.specs.bolt_ops.RowOp.{Custom}
use Rattle.event_worlds.specs.counted_items.Weights.{weigh}
use Rattle.event_worlds.proofs.counted_items.Each.{each-append}
use Rattle.event_worlds.proofs.counted_items.Weighing.{weigh-append, weigh-flat_map, weigh-le_each, weigh-same, weigh-swap}
use Rattle.event_worlds.specs.record_offers.Offers.{is_gone}
use Rattle.event_worlds.specs.record_spans.declared.span.Span.{Span}
use Rattle.event_worlds.specs.record_spans.Spans.{AreApart, end_of, numbers_of, records_of, stands_in}
use Rattle.event_worlds.proofs.record_spans.SpanLemmas.{beyond}
use Rattle.event_worlds.specs.storm_values.declared.value.Value.{Value}
use Rattle.event_worlds.specs.taken_records.Taken.{AreTaken, IsBatch, one_if, times_in}
use Rattle.event_worlds.specs.topology_plan.Topology.{Topology}
use Rattle.event_worlds.specs.tree_model.Trees.{node_count}
use Rattle.event_worlds.proofs.Nodes.{NodesAdd, records_from}
use Rattle.world_progress.proofs.Lists.{in-range, range-inside}
use Rattle.world_progress.proofs.Tallying.{cond-times, weigh-times}

-- ---- how often a number stands in a list

abbrev is_number : ℕ → ℕ → ℕ
is_number n x = cond {A = ℕ} (x == n) 1 0

at_most_one : (b : Bool) → cond {A = ℕ} b 1 0 ≤ 1
at_most_one true = omega arith
at_most_one false = omega arith

other_number : (n x : ℕ) → (x ≡ n → ⊥) → is_number n x ≡ 0
other_number n x differ = by (x == n) refl
  where
    by : (b : Bool) → (x == n) ≡ b → cond {A = ℕ} b 1 0 ≡ 0
    by true same = absurd (differ (eqb-true x n same))
    by false other = refl

range_above : (n a count : ℕ) → n < a → weigh (is_number n) (range_with_len a count) ≡ 0
range_above n a zero low = refl
range_above n a (suc count) low =
    let z = other_number n a (λ e. omega arith) in
    let rest = range_above n (a + 1) count (omega arith) in omega arith

range_under : (n a count : ℕ) → a + count ≤ n → weigh (is_number n) (range_with_len a count) ≡ 0
range_under n a zero high = refl
range_under n a (suc count) high =
    let z = other_number n a (λ e. omega arith) in
    let rest = range_under n (a + 1) count (omega arith) in omega arith

range_once : (n a count : ℕ) → weigh (is_number n) (range_with_len a count) ≤ 1
range_once n a zero = omega arith
range_once n a (suc count) =
    elim (cases_eq a n) [
      | inl same ↦ (let z = range_above n (a + 1) count (omega arith) in let o = at_most_one (a == n) in omega arith)
      | inr differ ↦ (let z = other_number n a differ in let rest = range_once n (a + 1) count in omega arith)
    ]

-- numbers up to one, of which none stands twice, weigh no more than all
once_weighs : (g : ℕ → ℕ) (most : ℕ) (numbers : List ℕ) → AllByRecursion (λ (n : ℕ). (1 ≤ n) × (n ≤ most)) numbers
    → ((n : ℕ) → 1 ≤ n → n ≤ most → weigh (is_number n) numbers ≤ 1) → weigh g numbers ≤ weigh g (range_with_len 1 most)
once_weighs g most numbers inside once =
    let l = weigh-le_each g (λ (x : ℕ). weigh (λ (n : ℕ). cond (x == n) (g n) 0) (range_with_len 1 most)) (λ (x : ℕ). (1 ≤ x) × (x ≤ most)) pick numbers
    inside in
    let s = weigh-swap (λ (n x : ℕ). cond (x == n) (g n) 0) (range_with_len 1 most) numbers in
    let m = weigh-le_each (λ (n : ℕ). weigh (λ (x : ℕ). cond (x == n) (g n) 0) numbers) g (λ (n : ℕ). (1 ≤ n) × (n ≤ most)) few (range_with_len 1 most)
    (range-inside most 1 most (omega arith) (omega arith)) in omega arith
  where
    pick : (x : ℕ) → (1 ≤ x) × (x ≤ most) → g x ≤ weigh (λ (n : ℕ). cond (x == n) (g n) 0) (range_with_len 1 most)
    pick x is =
        let low = is.0 in
        let high = is.1 in
        let r = in-range (λ (n : ℕ). cond (x == n) (g n) 0) 1 most x low (omega arith) in
        let e : cond (x == x) (g x) 0 ≡ g x = ap (λ (b : Bool). cond b (g x) 0) (eq-eqb x x refl) in omega arith

    few : (n : ℕ) → (1 ≤ n) × (n ≤ most) → weigh (λ (x : ℕ). cond (x == n) (g n) 0) numbers ≤ g n
    few n is =
        let a = weigh-same (λ (x : ℕ). cond (x == n) (g n) 0) (λ (x : ℕ). g n * is_number n x) (λ x. cond-times (x == n) (g n)) numbers in
        let b = weigh-times (g n) (is_number n) numbers in
        let d = mul-le-mul_left (g n) (once n is.0 is.1) in omega arith

-- ---- the numbers of batches

stands_once : (low : ℕ) (spans : List Span) (n : ℕ) → AreApart low spans → weigh (is_number n) (records_of spans) ≤ one_if (stands_in spans n)
stands_once low [] n apart = omega arith
stands_once low (span ∷ spans) n apart = by (nat_le span.first n) (nat_le n span.last) refl refl (stands_once (span.last + 1) spans n apart.2)
  where
    by : (x y : Bool) → nat_le span.first n ≡ x → nat_le n span.last ≡ y → weigh (is_number n) (records_of spans) ≤ one_if (stands_in spans n)
        → weigh (is_number n) (numbers_of span ++ records_of spans) ≤ one_if ((x && y) || stands_in spans n)
    by true true first last rest =
        let a = weigh-append (is_number n) (numbers_of span) (records_of spans) in
        let o = range_once n span.first (span.last + 1 - span.first) in
        let l = leb-true n span.last last in
        let z = ap one_if (beyond (span.last + 1) spans n apart.2 (omega arith)) in omega arith
    by true false first last rest =
        let a = weigh-append (is_number n) (numbers_of span) (records_of spans) in
        let l = leb-false n span.last last in
        let some = apart.1 in
        let z = range_under n span.first (span.last + 1 - span.first) (omega arith) in omega arith
    by false y first last rest =
        let a = weigh-append (is_number n) (numbers_of span) (records_of spans) in
        let l = leb-false span.first n first in
        let z = range_above n span.first (span.last + 1 - span.first) (omega arith) in omega arith

ends_above : (low : ℕ) (spans : List Span) → AreApart low spans → low ≤ end_of low spans
ends_above low [] apart = omega arith
ends_above low (span ∷ spans) apart = let a = apart.0 in let b = apart.1 in let rest = ends_above (span.last + 1) spans apart.2 in omega arith

spans_inside : (most low : ℕ) (spans : List Span) → AreApart low spans → end_of low spans ≤ most + 1
    → AllByRecursion (λ (n : ℕ). (1 ≤ n) × (n ≤ most)) (records_of spans)
spans_inside most low [] apart end = tt
spans_inside most low (span ∷ spans) apart end =
    let a = apart.0 in
    let b = apart.1 in
    let far = ends_above (span.last + 1) spans apart.2 in
    each-append (λ (n : ℕ). (1 ≤ n) × (n ≤ most)) (numbers_of span) (records_of spans)
    (range-inside most span.first (span.last + 1 - span.first) (omega arith) (omega arith)) (spans_inside most (span.last + 1) spans apart.2 end)

batches_inside : (records size : ℕ) (taken : List (List Span)) → AllByRecursion (IsBatch records size) taken
    → AllByRecursion (λ (n : ℕ). (1 ≤ n) × (n ≤ records)) (flat_map records_of taken)
batches_inside records size [] all = tt
batches_inside records size (spans ∷ taken) all =
    let batch = all.0 in
    each-append (λ (n : ℕ). (1 ≤ n) × (n ≤ records)) (records_of spans) (flat_map records_of taken) (spans_inside records 0 spans batch.apart batch.within)
    (batches_inside records size taken all.1)

batches_once : (records size : ℕ) (taken : List (List Span)) (n : ℕ) → AllByRecursion (IsBatch records size) taken
    → weigh (is_number n) (flat_map records_of taken) ≤ times_in taken n
batches_once records size [] n all = omega arith
batches_once records size (spans ∷ taken) n all =
    let batch = all.0 in
    let a = weigh-append (is_number n) (records_of spans) (flat_map records_of taken) in
    let here = stands_once 0 spans n batch.apart in
    let rest = batches_once records size taken n all.1 in omega arith

-- ---- their nodes

module _ (t : Topology) (custom : Custom) (adds : NodesAdd t custom) (rows : List (List Value)) where
  abbrev nodes_at : ℕ → ℕ
  nodes_at n = node_count t custom (record_at rows n)

  numbers_nodes : (numbers : List ℕ) → node_count t custom (flat_map (record_at rows) numbers) ≡ weigh nodes_at numbers
  numbers_nodes [] = let none = adds [] [] in omega arith
  numbers_nodes (n ∷ numbers) =
      let a = adds (record_at rows n) (flat_map (record_at rows) numbers) in let rest = numbers_nodes numbers in omega arith

  all_nodes : weigh nodes_at (range_with_len 1 (length rows)) ≡ node_count t custom rows
  all_nodes = sym (numbers_nodes (range_with_len 1 (length rows)))
      ∙ ap (node_count t custom) (records_from rows 0 (length rows) ∙ take_all (length rows) rows (omega arith))

  -- batches that were taken have no more nodes than all records
  pub taken-nodes : (began gone : List Bool) (size : ℕ) (taken : List (List Span)) → length began ≡ length rows → AreTaken began gone size taken
      → weigh (λ (spans : List Span). node_count t custom (records_in rows spans)) taken ≤ node_count t custom rows
  taken-nodes began gone size taken marks are =
      let same = weigh-same (λ (spans : List Span). node_count t custom (records_in rows spans)) (λ (spans : List Span). weigh nodes_at (records_of spans))
      (λ spans. numbers_nodes (records_of spans)) taken in
      let flat = weigh-flat_map nodes_at records_of taken in
      let once = once_weighs nodes_at (length began) (flat_map records_of taken) (batches_inside (length began) size taken are.batches)
      (λ n low high.
      let b = batches_once (length began) size taken n are.batches in
      let e = are.once n low high in
      let m = at_most_one (is_gone gone n) in omega arith) in
      let r = ap (λ (k : ℕ). weigh nodes_at (range_with_len 1 k)) marks in
      let w = all_nodes in omega arith

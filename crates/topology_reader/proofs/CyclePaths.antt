-- A cycle is told exactly where there is a path from a bolt to itself.
use Rattle.std.proofs.Common.{◌≡◌, ◌↔◌, ℕ, zero, suc, ◌+◌, ◌<◌, ◌≤◌, Bool, true, false, length, Some, None, option_map, inl, inr, sym, ◌∙◌, ap, arith}
use Rattle.std.specs.List.{find}
use Rattle.topology_reader.proofs.Common.{range_with_len, FileParts, TopoFault, Cycle, cases_Bool, cases_order, both_ways, cond-true, cond-false, none-some, same_Some, name_at, reaches, cycle_fault, IsPath}
use Rattle.topology_reader.proofs.Ranks.{reaches_by_path, no_cycle}
use Rattle.topology_reader.proofs.Distinct.{some_mapped}
use Rattle.topology_reader.proofs.Listed.{find_none, in_range}

-- the first number that passes is found
pub found_first : (test : ℕ → Bool) (first n c : ℕ) → find test (range_with_len first n) ≡ Some c → (c < first + n) × (test c ≡ true) × ((b : ℕ) → first ≤ b → b < c → test b ≡ false)
found_first test first zero c is = absurd (none-some c is)
found_first test first (suc n) c is =
    elim (cases_Bool (test first)) [
      | inl passes ↦
          let same : first ≡ c = same_Some first c (sym (cond-true (test first) (Some first) (find test (range_with_len (first + 1) n)) passes) ∙ is) in
          (omega arith, sym (ap test same) ∙ passes, λ b from to. absurd (omega arith))
      | inr fails ↦
          let later = found_first test (first + 1) n c (sym (cond-false (test first) (Some first) (find test (range_with_len (first + 1) n)) fails) ∙ is) in (
            omega (arith, later.0),
            later.1,
            λ b from to. elim (cases_order first b) [ inl same ↦ sym (ap test same) ∙ fails | inr other ↦ later.2 b (omega arith) to ],
          )
    ]

pub no_path_back : (p : FileParts) (c : ℕ) → reaches p c c ≡ false → IsPath p c c → ⊥
no_path_back p c never path = both_ways (reaches p c c) never ((reaches_by_path p c c).1 path)

-- no cycle is told exactly where no bolt has a path to itself
pub no_cycle_by_paths : (p : FileParts) → (cycle_fault p ≡ None) ↔ ((c : ℕ) → c < length p.bolts → IsPath p c c → ⊥)
no_cycle_by_paths p = (
  λ none c below. no_path_back p c (no_cycle p c none below),
  λ never.
      ap (option_map (λ c. Cycle (name_at p c)))
      (find_none (λ c. reaches p c c) (range_with_len 0 (length p.bolts))
      (λ c at. elim (cases_Bool (reaches p c c)) [
        | inl back ↦ absurd (never c (omega (arith, (in_range 0 (length p.bolts) c at).1)) ((reaches_by_path p c c).0 back))
        | inr fails ↦ fails
      ])),
)

-- the bolt of a cycle that is told is the first that has a path to itself
pub first_cycle : (p : FileParts) (fault : TopoFault) → cycle_fault p ≡ Some fault
    → (c : ℕ) × (c < length p.bolts) × (fault ≡ Cycle (name_at p c)) × IsPath p c c × ((b : ℕ) → b < c → IsPath p b b → ⊥)
first_cycle p fault told =
    let found = some_mapped (λ c. Cycle (name_at p c)) (find (λ c. reaches p c c) (range_with_len 0 (length p.bolts))) fault told in
    let c = found.0 in
    let first = found_first (λ c. reaches p c c) 0 (length p.bolts) c found.1 in (
      c,
      omega (arith, first.0),
      sym found.2,
      (reaches_by_path p c c).0 first.1,
      λ b before. no_path_back p b (first.2 b (omega arith) before),
    )

-- A shuffle gives any two tasks numbers of tuples that differ by at most one.
use Rattle.std.proofs.Common.{◌≡◌, ◌≢◌, ℕ, zero, suc, ◌+◌, ◌-◌, ◌%◌, ◌<◌, ◌≤◌, ◌==◌, Bool, true, false, cond, nat_lt, List, [], ◌∷◌, ◌++◌, ◌⊎◌, inl, inr, count_by, refl, ap, ◌∙◌, eq-eqb, arith}
use Rattle.std.specs.List.{flat_map}
use Rattle.std.proofs.lemmas.Bool.{ne_eqb}
use Rattle.std.proofs.lemmas.List.Sums.{sum_by-cons}
use Rattle.std.proofs.lemmas.Bool.Decides.{nat_tests}
use Rattle.std.proofs.Math.Nat.{mod-eq_of_lt, mod_self, mod-lt}
use Rattle.storm_values.specs.declared.value.Value.{Value}
use Rattle.topology_plan.specs.declared.parts.Grouping.{Grouping}
use Rattle.topology_plan.specs.declared.parts.Grouping.TheVariants as grouping
use Rattle.groupings.specs.declared.lane.Lane.{Lane}
use Rattle.groupings.specs.Routing.{targets_by, turn_after}
use Rattle.groupings.specs.Allowed.{IsLane, IsEven, told, routed}

-- the tasks of a shuffle from a turn on, one for each of some rows
shuffled : ℕ → ℕ → ℕ → List (List Value) → List ℕ
shuffled first n turn [] = []
shuffled first n turn (row ∷ rows) = (first + turn) ∷ shuffled first n ((turn + 1) % n) rows

routed_shuffled : (first n turn : ℕ) (by : Grouping) (rows : List (List Value)) → by ≡ grouping.Shuffle
    → flat_map told (routed (record { first = first; tasks = n; by = by; turn = turn }) rows) ≡ shuffled first n turn rows
unfolding shuffled
routed_shuffled first n turn by [] is = refl
routed_shuffled first n turn by (row ∷ rows) is =
    let here : told (targets_by first n turn by row) ≡ (first + turn) ∷ [] = ap (λ g. told (targets_by first n turn g row)) is in
    let next : turn_after by turn n ≡ (turn + 1) % n = ap (λ g. turn_after g turn n) is in
    let later = routed_shuffled first n (turn_after by turn n) by rows is ∙ ap (λ t. shuffled first n t rows) next in
    (λ i. here i ++ later i)

-- in how many calls from a turn on the task a is next, counted from 0
record IsAhead (n turn a x : ℕ) : Type 0 where
  below : x < n
  meets : (turn + x ≡ a) ⊎ (turn + x ≡ a + n)

-- the next turn
next_turn : (n turn : ℕ) → turn < n → ((turn + 1) % n ≡ turn + 1 × turn + 1 < n) ⊎ ((turn + 1) % n ≡ 0 × turn + 1 ≡ n)
next_turn n turn below = by_test (nat_lt (turn + 1) n) refl
  where
    by_test : (b : Bool) → nat_lt (turn + 1) n ≡ b → ((turn + 1) % n ≡ turn + 1 × turn + 1 < n) ⊎ ((turn + 1) % n ≡ 0 × turn + 1 ≡ n)
    by_test true is = let less : turn + 1 < n = grind (arith, nat_tests) in inl (mod-eq_of_lt less, less)
    by_test false is =
        let whole : turn + 1 ≡ n = grind (arith, nat_tests) in
        let round : (turn + 1) % n ≡ 0 = ap (λ m. m % n) whole ∙ mod_self n in
        inr (round, whole)

-- where it is this task's turn, it is next again after all others
ahead-now : (n turn a : ℕ) → turn < n → a < n → IsAhead n turn a 0 → (turn ≡ a) × IsAhead n ((turn + 1) % n) a (n - 1)
ahead-now n turn a below within ahead =
    let same : turn ≡ a = elim ahead.meets as (λ _. turn ≡ a) [ inl e ↦ omega arith | inr e ↦ absurd (omega arith) ] in (
      same,
      elim (next_turn n turn below) as (λ _. IsAhead n ((turn + 1) % n) a (n - 1)) [
        | inl more ↦ record { below = omega arith; meets = inr (rw more.0 (omega arith)) }
        | inr round ↦ record { below = omega arith; meets = inl (rw round.0 (omega arith)) }
      ],
    )

-- where it is not, it is one call nearer after this one
ahead-later : (n turn a x : ℕ) → turn < n → a < n → IsAhead n turn a (suc x) → (turn ≢ a) × IsAhead n ((turn + 1) % n) a x
ahead-later n turn a x below within ahead = (λ same. elim ahead.meets as (λ _. ⊥) [ inl e ↦ omega arith | inr e ↦ omega (arith, ahead.below) ], nearer ahead.meets)
  where
    nearer : ((turn + suc x ≡ a) ⊎ (turn + suc x ≡ a + n)) → IsAhead n ((turn + 1) % n) a x
    nearer (inl e) =
        elim (next_turn n turn below) as (λ _. IsAhead n ((turn + 1) % n) a x) [
          | inl more ↦ record { below = omega (arith, ahead.below); meets = inl (rw more.0 (omega arith)) }
          | inr round ↦ absurd (omega arith)
        ]
    nearer (inr e) =
        elim (next_turn n turn below) as (λ _. IsAhead n ((turn + 1) % n) a x) [
          | inl more ↦ record { below = omega (arith, ahead.below); meets = inr (rw more.0 (omega arith)) }
          | inr round ↦ record { below = omega (arith, ahead.below); meets = inl (rw round.0 (omega arith)) }
        ]

-- how often the task a of those from the first on is given
abbrev given : ℕ → ℕ → List ℕ → ℕ
given first a tasks = count_by (λ task. task == first + a) tasks

hit : (first turn a : ℕ) (rest : List ℕ) → turn ≡ a → given first a ((first + turn) ∷ rest) ≡ given first a rest + 1
hit first turn a rest same =
    let is : ((first + turn) == first + a) ≡ true = eq-eqb (first + turn) (first + a) (ap (λ t. first + t) same) in
    rw (sum_by-cons (λ task. cond (task == first + a) 1 0) (first + turn) rest, is) (omega arith)

miss : (first turn a : ℕ) (rest : List ℕ) → turn ≢ a → given first a ((first + turn) ∷ rest) ≡ given first a rest
miss first turn a rest differs =
    let is : ((first + turn) == first + a) ≡ false = ne_eqb (first + turn) (first + a) (λ same. differs (omega arith)) in
    rw (sum_by-cons (λ task. cond (task == first + a) 1 0) (first + turn) rest, is) (omega arith)

-- the task that comes first was given no less, and the other at most one less
nearly : (first n turn a b x y : ℕ) (rows : List (List Value)) → turn < n → a < n → b < n → IsAhead n turn a x → IsAhead n turn b y
    → (given first a (shuffled first n turn rows) ≤ given first b (shuffled first n turn rows) + 1) × (y ≤ x → given first a (shuffled first n turn rows) ≤ given first b (shuffled first n turn rows))
unfolding shuffled
nearly first n turn a b x y [] below inside within one other = (omega arith, λ _. omega arith)
nearly first n turn a b zero zero (row ∷ rows) below inside within one other =
    let now = ahead-now n turn a below inside one in
    let then = ahead-now n turn b below within other in
    let next = mod-lt (turn + 1) {m = n} (omega arith) in
    let later = nearly first n ((turn + 1) % n) a b (n - 1) (n - 1) rows next inside within now.1 then.1 in
    let rest = shuffled first n ((turn + 1) % n) rows in
    (omega (arith, hit first turn a rest now.0, hit first turn b rest then.0, later.0), λ _. omega (arith, hit first turn a rest now.0, hit first turn b rest then.0, later.1 (omega arith)))
nearly first n turn a b zero (suc y) (row ∷ rows) below inside within one other =
    let now = ahead-now n turn a below inside one in
    let then = ahead-later n turn b y below within other in
    let next = mod-lt (turn + 1) {m = n} (omega arith) in
    let later = nearly first n ((turn + 1) % n) a b (n - 1) y rows next inside within now.1 then.1 in
    let rest = shuffled first n ((turn + 1) % n) rows in
    let near = later.1 (omega (arith, other.below)) in
    (omega (arith, hit first turn a rest now.0, miss first turn b rest then.0, near), λ le. absurd (omega arith))
nearly first n turn a b (suc x) zero (row ∷ rows) below inside within one other =
    let now = ahead-later n turn a x below inside one in
    let then = ahead-now n turn b below within other in
    let next = mod-lt (turn + 1) {m = n} (omega arith) in
    let later = nearly first n ((turn + 1) % n) a b x (n - 1) rows next inside within now.1 then.1 in
    let rest = shuffled first n ((turn + 1) % n) rows in
    (omega (arith, miss first turn a rest now.0, hit first turn b rest then.0, later.0), λ _. omega (arith, miss first turn a rest now.0, hit first turn b rest then.0, later.0))
nearly first n turn a b (suc x) (suc y) (row ∷ rows) below inside within one other =
    let now = ahead-later n turn a x below inside one in
    let then = ahead-later n turn b y below within other in
    let next = mod-lt (turn + 1) {m = n} (omega arith) in
    let later = nearly first n ((turn + 1) % n) a b x y rows next inside within now.1 then.1 in
    let rest = shuffled first n ((turn + 1) % n) rows in
    (omega (arith, miss first turn a rest now.0, miss first turn b rest then.0, later.0), λ le. omega (arith, miss first turn a rest now.0, miss first turn b rest then.0, later.1 (omega arith)))

ahead_of : (n turn a : ℕ) → turn < n → a < n → (x : ℕ) × IsAhead n turn a x
ahead_of n turn a below within = by_test (nat_lt a turn) refl
  where
    by_test : (b : Bool) → nat_lt a turn ≡ b → (x : ℕ) × IsAhead n turn a x
    by_test true is = let less : a < turn = grind (arith, nat_tests) in (a + n - turn, record { below = omega arith; meets = inr (omega arith) })
    by_test false is = let le : turn ≤ a = grind (arith, nat_tests) in (a - turn, record { below = omega arith; meets = inl (omega arith) })

pub even : (lane : Lane) (rows : List (List Value)) → IsLane lane → lane.by ≡ grouping.Shuffle → IsEven lane.first lane.tasks (flat_map told (routed lane rows))
even lane rows is shuffle = λ a b inside within.
    let one = ahead_of lane.tasks lane.turn a is.turn inside in
    let other = ahead_of lane.tasks lane.turn b is.turn within in
    rw (routed_shuffled lane.first lane.tasks lane.turn lane.by rows shuffle) ((nearly lane.first lane.tasks lane.turn a b one.0 other.0 rows is.turn inside within one.1 other.1).0)

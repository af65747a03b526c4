-- What is reached is that to which there is a path, and without cycles the bolts before a component grow in number along it.
use Rattle.std.proofs.Common.{◌≡◌, ◌↔◌, ℕ, zero, suc, ◌+◌, ◌<◌, ◌≤◌, Bool, true, false, ◌&&◌, cond, List, [], ◌∷◌, ◌++◌, length, None, ◌⊎◌, inl, inr, refl, ◌∙◌, ap, arith}
use Rattle.std.specs.List.{find}
use Rattle.topology_reader.proofs.Common.{count_by, range_with_len, FileParts, Cycle, and_parts, and_from, or_cases, or_left, or_right, cases_order, length-range_with_len, sum_by-cons, count_by-le-length, sum_by-le-sum_by, name_at, feeds, reaches_over, reaches, cycle_fault, IsPathThrough, IsPath}
use Rattle.topology_reader.proofs.Listed.{none_mapped, to_range, none_found}

-- how many bolts there are before a component, on any path to it
unfoldable pub rank : FileParts → ℕ → ℕ
rank p c = count_by (λ a. reaches p a c) (range_with_len 0 (length p.bolts))

-- ---- paths over the first bolts

-- what a path over the first n + 1 bolts is: one over the first n, or two of them that meet at n
over_more : (n : ℕ) (p : FileParts) (a b : ℕ) → reaches_over (suc n) p a b ≡ true → (reaches_over n p a b ≡ true) ⊎ ((reaches_over n p a n ≡ true) × (reaches_over n p n b ≡ true))
over_more n p a b path =
    elim (or_cases (reaches_over n p a b) (reaches_over n p a n && reaches_over n p n b) path) [
      | inl direct ↦ inl direct
      | inr through ↦ inr (and_parts (reaches_over n p a n) (reaches_over n p n b) through)
    ]

over_same : (n : ℕ) (p : FileParts) (a b : ℕ) → reaches_over n p a b ≡ true → reaches_over (suc n) p a b ≡ true
over_same n p a b path = or_left (reaches_over n p a b) (reaches_over n p a n && reaches_over n p n b) path

over_meeting : (n : ℕ) (p : FileParts) (a b : ℕ) → reaches_over n p a n ≡ true → reaches_over n p n b ≡ true → reaches_over (suc n) p a b ≡ true
over_meeting n p a b first second =
    or_right (reaches_over n p a b) (reaches_over n p a n && reaches_over n p n b) (and_from (reaches_over n p a n) (reaches_over n p n b) first second)

-- a path to the new bolt, and one from it, needs it in between no more
over_to_last : (n : ℕ) (p : FileParts) (a : ℕ) → reaches_over (suc n) p a n ≡ true → reaches_over n p a n ≡ true
over_to_last n p a path = elim (over_more n p a n path) [ inl direct ↦ direct | inr through ↦ through.0 ]

over_from_last : (n : ℕ) (p : FileParts) (b : ℕ) → reaches_over (suc n) p n b ≡ true → reaches_over n p n b ≡ true
over_from_last n p b path = elim (over_more n p n b path) [ inl direct ↦ direct | inr through ↦ through.1 ]

-- one subscription is a path
pub over_from_feeds : (n : ℕ) (p : FileParts) (a b : ℕ) → feeds p a b ≡ true → reaches_over n p a b ≡ true
over_from_feeds zero p a b grouping = grouping
over_from_feeds (suc n) p a b path = over_same n p a b (over_from_feeds n p a b path)

-- two paths that meet at one of the first n bolts are a path over these
pub over_joined : (n : ℕ) (p : FileParts) (a m b : ℕ) → m < n → reaches_over n p a m ≡ true → reaches_over n p m b ≡ true → reaches_over n p a b ≡ true
over_joined zero p a m b below first second = absurd (omega arith)
over_joined (suc n) p a m b below first second =
    elim (cases_order m n) [
      | inl same ↦ over_meeting n p a b (over_to_last n p a (rw same at first)) (over_from_last n p b (rw same at second))
      | inr other ↦
          let under : m < n = omega arith in
          elim (over_more n p a m first) [
            | inl direct ↦
                elim (over_more n p m b second) [
                  | inl on ↦ over_same n p a b (over_joined n p a m b under direct on)
                  | inr through ↦ over_meeting n p a b (over_joined n p a m n under direct through.0) through.1
                ]
            | inr to ↦
                elim (over_more n p m b second) [
                  | inl on ↦ over_meeting n p a b to.0 (over_joined n p n m b under to.1 on)
                  | inr through ↦ over_meeting n p a b to.0 through.1
                ]
          ]
    ]

-- ---- any paths

pub reaches_from_feeds : (p : FileParts) (a b : ℕ) → feeds p a b ≡ true → reaches p a b ≡ true
unfolding reaches
reaches_from_feeds p a b path = over_from_feeds (length p.bolts) p a b path

pub reaches_joined : (p : FileParts) (a m b : ℕ) → m < length p.bolts → reaches p a m ≡ true → reaches p m b ≡ true → reaches p a b ≡ true
unfolding reaches
reaches_joined p a m b below first second = over_joined (length p.bolts) p a m b below first second

-- a path goes on along a feeding
pub reaches_on : (p : FileParts) (a b c : ℕ) → b < length p.bolts → reaches p a b ≡ true → feeds p b c ≡ true → reaches p a c ≡ true
reaches_on p a b c below path fed = reaches_joined p a b c below path (reaches_from_feeds p b c fed)

-- ---- paths, bolt by bolt

through_both : (p : FileParts) (a m b : ℕ) (first second : List ℕ) → m < length p.bolts → IsPathThrough p a first m → IsPathThrough p m second b → IsPathThrough p a (first ++ m ∷ second) b
through_both p a m b [] second below to on = (below, to, on)
through_both p a m b (next ∷ first) second below to on = (to.0, to.1, through_both p next m b first second below to.2 on)

path_from_over : (n : ℕ) (p : FileParts) (a b : ℕ) → n ≤ length p.bolts → reaches_over n p a b ≡ true → IsPath p a b
path_from_over zero p a b below path = ([], path)
path_from_over (suc n) p a b below path =
    elim (over_more n p a b path) [
      | inl direct ↦ path_from_over n p a b (omega arith) direct
      | inr through ↦
          let to = path_from_over n p a n (omega arith) through.0 in
          let on = path_from_over n p n b (omega arith) through.1 in
          (to.0 ++ n ∷ on.0, through_both p a n b to.0 on.0 (omega arith) to.1 on.1)
    ]

reaches_through : (p : FileParts) (a b : ℕ) (bolts : List ℕ) → IsPathThrough p a bolts b → reaches p a b ≡ true
reaches_through p a b [] fed = reaches_from_feeds p a b fed
reaches_through p a b (next ∷ bolts) through = reaches_joined p a next b through.0 (reaches_from_feeds p a next through.1) (reaches_through p next b bolts through.2)

path_from_reaches : (p : FileParts) (a b : ℕ) → reaches p a b ≡ true → IsPath p a b
unfolding reaches
path_from_reaches p a b path = path_from_over (length p.bolts) p a b (omega arith) path

-- what is reached is that to which there is a path
pub reaches_by_path : (p : FileParts) (a b : ℕ) → (reaches p a b ≡ true) ↔ IsPath p a b
reaches_by_path p a b = (path_from_reaches p a b, λ path. reaches_through p a b path.0 path.1)

-- ---- counting

one_le : (x y : Bool) → (x ≡ true → y ≡ true) → cond x 1 0 ≤ cond y 1 0
one_le true y onward = rw (onward refl) (omega arith)
one_le false y onward = omega arith

one_lt : (x y : Bool) → x ≡ false → y ≡ true → cond x 1 0 < cond y 1 0
one_lt x y fails passes = rw (fails, passes) (omega arith)

-- what only the second test has makes it pass more
count_lt : (f g : ℕ → Bool) (first n c : ℕ) → ((a : ℕ) → f a ≡ true → g a ≡ true) → first ≤ c → c < first + n → f c ≡ false → g c ≡ true → count_by f (range_with_len first n) < count_by g (range_with_len first n)
count_lt f g first zero c onward from to fails passes = absurd (omega arith)
count_lt f g first (suc n) c onward from to fails passes =
    rw (sum_by-cons (λ a. cond (f a) 1 0) first (range_with_len (first + 1) n), sum_by-cons (λ a. cond (g a) 1 0) first (range_with_len (first + 1) n))
    (elim (cases_order first c) [
      | inl same ↦
          let here : cond (f first) 1 0 < cond (g first) 1 0 = one_lt (f first) (g first) (ap f same ∙ fails) (ap g same ∙ passes) in
          let rest : count_by f (range_with_len (first + 1) n) ≤ count_by g (range_with_len (first + 1) n) =
          sum_by-le-sum_by (λ a. cond (f a) 1 0) (λ a. cond (g a) 1 0) (range_with_len (first + 1) n) (λ a. one_le (f a) (g a) (onward a))
          in
          omega arith
      | inr other ↦
          let here : cond (f first) 1 0 ≤ cond (g first) 1 0 = one_le (f first) (g first) (onward first) in
          let rest : count_by f (range_with_len (first + 1) n) < count_by g (range_with_len (first + 1) n) = count_lt f g (first + 1) n c onward (omega arith) (omega arith) fails passes in
          omega arith
    ])

-- ---- ranks

pub rank-le : (p : FileParts) (c : ℕ) → rank p c ≤ length p.bolts
unfolding rank
rank-le p c = omega (arith, count_by-le-length (λ a. reaches p a c) (range_with_len 0 (length p.bolts)), length-range_with_len 0 (length p.bolts))

-- where no fault is told, no bolt is reached from itself
pub no_cycle : (p : FileParts) (c : ℕ) → cycle_fault p ≡ None → c < length p.bolts → reaches p c c ≡ false
no_cycle p c none below =
    none_found (λ a. reaches p a a) (range_with_len 0 (length p.bolts)) (none_mapped (λ a. Cycle (name_at p a)) (find (λ a. reaches p a a) (range_with_len 0 (length p.bolts))) none) c (to_range 0 (length p.bolts) c (omega arith) (omega arith))

-- a fed component has more bolts before it than the bolt that feeds it
pub rank_grows : (p : FileParts) (c d : ℕ) → cycle_fault p ≡ None → c < length p.bolts → feeds p c d ≡ true → rank p c < rank p d
unfolding rank
rank_grows p c d none below fed =
    count_lt (λ a. reaches p a c) (λ a. reaches p a d) 0 (length p.bolts) c
    (λ a path. reaches_on p a c d below path fed)
    (omega arith) (omega arith) (no_cycle p c none below) (reaches_from_feeds p c d fed)

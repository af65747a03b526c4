-- What components have by what their sources have: no more steps lead further where depths are settled, and what is found on
-- the way is right.
use Rattle.std.proofs.Common.{◌≡◌, ℕ, zero, suc, ◌+◌, ◌<◌, ◌≤◌, List, [], ◌∷◌, length, map, set, replicate, min, Option, Some, None, true, is_some, ◌⊎◌, inl, inr, refl, sym, ap, subst, ◌∙◌, arith, ◌≢◌, ◌^◌, unwrap_or, slice_get, slice_index_or}
use Rattle.std.specs.List.{range_with_len}
use Rattle.std.proofs.lemmas.Bool.{cases_eq, cases_lt, false≢true}
use Rattle.std.proofs.lemmas.Grind.{get_or-set_at}
use Rattle.std.proofs.lemmas.List.{get_or-set_other, length-set, length-replicate}
use Rattle.std.proofs.lemmas.Simd.{map-map}
use Rattle.std.proofs.lemmas.Option.{get_or_from_slice_get, slice_get-get_or, slice_get_within}
use Rattle.topology_plan.specs.declared.parts.Origin.{Origin}
use Rattle.topology_plan.specs.declared.parts.Origin.TheVariants as origin
use Rattle.topology_plan.specs.Topology.{greatest, weight_end}
use Rattle.topology_graph.specs.declared.values.Feed.{Feed}
use Rattle.topology_graph.specs.Graph.{Rule, fed, value_in, value_of, values_of, feeds_at, IsThere, IsClosed, IsRanked, depth_rule, IsSettled, read, fed_by, IsKnown, AreRight, IsFound}

-- ---- lists

pub within_greatest : {A : Type 0} (f : A → ℕ) (xs : List A) (k : ℕ) (x : A) → slice_get xs k ≡ Some x → f x ≤ greatest (map f xs)
within_greatest f [] k x is = absurd (cc)
within_greatest f (y ∷ ys) zero x is = let same : y ≡ x = cc in omega (arith, ap f same)
within_greatest f (y ∷ ys) (suc k) x is = omega (arith, within_greatest f ys k x is)

pub greatest_within : {A : Type 0} (f : A → ℕ) (xs : List A) (most : ℕ) → ((x : A) → f x ≤ most) → greatest (map f xs) ≤ most
greatest_within f [] most each = omega arith
greatest_within f (x ∷ xs) most each = omega (arith, each x, greatest_within f xs most each)

-- two functions that agree on the source of each of some subscriptions
map_fed : {V : Type 0} (f g : Origin → V) (feeds : List Feed) → ((k : ℕ) (feed : Feed) → slice_get feeds k ≡ Some feed → f feed.from ≡ g feed.from) → fed f feeds ≡ fed g feeds
map_fed f g [] same = refl
map_fed {V} f g (feed ∷ feeds) same =
    let here : f feed.from ≡ g feed.from = same 0 feed refl in
    let rest : fed f feeds ≡ fed g feeds = map_fed f g feeds (λ k other at. same (suc k) other at) in
    cc

-- ---- depths

abbrev pub depth_at : List (List Feed) → Origin → ℕ
depth_at graph from = value_of depth_rule graph from

depth_over : (f : Origin → ℕ) (feeds : List Feed) → greatest (map (λ (one : Feed × ℕ). one.1) (fed f feeds)) ≡ greatest (map (λ (feed : Feed). f feed.from) feeds)
depth_over f feeds = ap greatest (map-map {B = Feed × ℕ} (λ one. one.1) (λ (feed : Feed). (feed, f feed.from)) feeds)

pub depth_in_within : (n : ℕ) (graph : List (List Feed)) (from : Origin) → value_in n depth_rule graph from ≤ n
depth_in_within n graph origin.Spout = omega arith
depth_in_within zero graph (origin.Component c) = omega arith
depth_in_within (suc n) graph (origin.Component c) =
    omega (arith, depth_over (value_in n depth_rule graph) (feeds_at graph c), greatest_within (λ (feed : Feed). value_in n depth_rule graph feed.from) (feeds_at graph c) n (λ feed. depth_in_within n graph feed.from))

pub depth_at_within : (graph : List (List Feed)) (from : Origin) → depth_at graph from ≤ length graph
unfolding value_of
depth_at_within graph from = depth_in_within (length graph) graph from

-- a source is less deep
pub less_deep : (graph : List (List Feed)) (c k : ℕ) (feed : Feed) → IsSettled graph → c < length graph → slice_get (feeds_at graph c) k ≡ Some feed → depth_at graph feed.from < depth_at graph (origin.Component c)
less_deep graph c k feed settled there is =
    omega (arith, settled c there, within_greatest (λ (feed : Feed). depth_at graph feed.from) (feeds_at graph c) k feed is)

-- ---- where depths are settled

module _ {V : Type 0} (rule : Rule V) (graph : List (List Feed)) (closed : IsClosed graph) (settled : IsSettled graph) where
  stable : (n m : ℕ) (from : Origin) → IsThere (length graph) from → depth_at graph from ≤ n → depth_at graph from ≤ m → value_in n rule graph from ≡ value_in m rule graph from
  stable n m origin.Spout there below under = refl
  stable zero m (origin.Component c) there below under = absurd (omega (arith, settled c there))
  stable (suc n) zero (origin.Component c) there below under = absurd (omega (arith, settled c there))
  stable (suc n) (suc m) (origin.Component c) there below under =
      ap (λ fed. rule.over c fed)
      (map_fed (value_in n rule graph) (value_in m rule graph) (feeds_at graph c)
      (λ k feed at. let less = less_deep graph c k feed settled there at in stable n m feed.from (closed c k feed at) (omega arith) (omega arith)))

  -- a component has what the rule makes of what its sources have
  pub value_settled : (c : ℕ) → c < length graph → value_of rule graph (origin.Component c) ≡ rule.over c (fed (value_of rule graph) (feeds_at graph c))
  unfolding value_of
  value_settled c there =
      let within = depth_at_within graph (origin.Component c) in
      stable (length graph) (suc (length graph)) (origin.Component c) there within (omega arith)

  -- ---- what is known

  read_one : (o : Option V) (value : V) → is_some o ≡ true → ((v : V) → o ≡ Some v → v ≡ value) → unwrap_or o rule.nothing ≡ value
  read_one None value some right = absurd (false≢true some)
  read_one (Some v) value some right = right v refl

  pub read_right : (known : List (Option V)) (from : Origin) → AreRight rule graph known → IsKnown known from → read rule.spout rule.nothing known from ≡ value_of rule graph from
  unfolding value_of
  read_right known origin.Spout right is = refl
  read_right known (origin.Component c) right is = read_one (slice_index_or known c None) (value_of rule graph (origin.Component c)) is (right.each c)

  pub found_right : (known : List (Option V)) (c : ℕ) (feeds : List Feed) (value : V) → AreRight rule graph known → c < length graph → feeds ≡ feeds_at graph c
      → ((k : ℕ) (feed : Feed) → slice_get feeds k ≡ Some feed → IsKnown known feed.from) → value ≡ rule.over c (fed_by rule known feeds) → value ≡ value_of rule graph (origin.Component c)
  found_right known c feeds value right there is all made =
      made
      ∙ ap (λ fed. rule.over c fed) (map_fed (read rule.spout rule.nothing known) (value_of rule graph) feeds (λ k feed at. read_right known feed.from right (all k feed at)))
      ∙ ap (λ fs. rule.over c (fed (value_of rule graph) fs)) is
      ∙ sym (value_settled c there)

  set_each : (known : List (Option V)) (c : ℕ) (value : V) → AreRight rule graph known → c < length known → value ≡ value_of rule graph (origin.Component c)
      → (k : ℕ) (other : V) → (k ≡ c) ⊎ (k ≢ c) → slice_index_or (set known c (Some value)) k None ≡ Some other → other ≡ value_of rule graph (origin.Component k)
  set_each known c value right there is k other (inl same) found =
      let made : Some value ≡ Some other = sym (get_or-set_at known c k (Some value) None same there) ∙ found in
      let equal : value ≡ other = cc in
      sym equal ∙ is ∙ ap (λ n. value_of rule graph (origin.Component n)) (sym same)
  set_each known c value right there is k other (inr differ) found = right.each k other (sym (get_or-set_other known c k (Some value) None differ) ∙ found)

  pub right_set : (known : List (Option V)) (c : ℕ) (value : V) → AreRight rule graph known → c < length known → value ≡ value_of rule graph (origin.Component c) → AreRight rule graph (set known c (Some value))
  right_set known c value right there is = record {
    count = length-set known c (Some value) ∙ right.count;
    each = λ k other found. set_each known c value right there is k other (cases_eq k c) found;
  }

-- ---- a table in which one more is known

known_at : {V : Type 0} (known : List (Option V)) (c : ℕ) (value : V) → c < length known → IsKnown (set known c (Some value)) (origin.Component c)
known_at known c value there = ap is_some (get_or-set_at known c c (Some value) None refl there)

kept_set : {V : Type 0} (known : List (Option V)) (c : ℕ) (value : V) → c < length known → (other : Origin) → IsKnown known other → IsKnown (set known c (Some value)) other
kept_set known c value there origin.Spout is = tt
kept_set known c value there (origin.Component k) is =
    elim (cases_eq k c) [
      | inl same ↦ ap is_some (get_or-set_at known c k (Some value) None same there)
      | inr differ ↦ ap is_some (get_or-set_other known c k (Some value) None differ) ∙ is
    ]

pub found_set : {V : Type 0} (rule : Rule V) (graph : List (List Feed)) → IsClosed graph → IsSettled graph → (old known : List (Option V)) (c : ℕ) (value : V) → AreRight rule graph known
    → ((other : Origin) → IsKnown old other → IsKnown known other) → c < length known → value ≡ value_of rule graph (origin.Component c) → IsFound rule graph old (set known c (Some value)) (origin.Component c)
found_set rule graph closed settled old known c value right kept there is = record {
  right = right_set rule graph closed settled known c value right there is;
  kept = λ other was. kept_set known c value there other (kept other was);
  known = known_at known c value there;
}

-- nothing is known at first
pub nothing_right : {V : Type 0} (rule : Rule V) (graph : List (List Feed)) (known : List (Option V)) → known ≡ replicate (length graph) None → AreRight rule graph known
nothing_right {V} rule graph known is = record {
  count = ap length is ∙ length-replicate (length graph) None;
  each = λ c value found. absurd (never (length graph) c value (sym (ap (λ ks. slice_index_or ks c None) is) ∙ found));
}
  where
    never : (n c : ℕ) (value : V) → slice_index_or (replicate {A = Option V} n None) c None ≡ Some value → ⊥
    never zero c value is = cc
    never (suc n) zero value is = cc
    never (suc n) (suc c) value is = never n c value is

-- a table in which all are known
whole_table : {V : Type 0} (f : ℕ → V) (known : List (Option V)) (first n : ℕ) → length known ≡ n → ((k : ℕ) → k < n → slice_index_or known k None ≡ Some (f (first + k)))
    → known ≡ map (λ c. Some (f c)) (range_with_len first n)
whole_table f [] first zero count each = refl
whole_table f [] first (suc n) count each = absurd (omega (arith, count))
whole_table f (one ∷ known) first zero count each = absurd (omega (arith, count))
whole_table f (one ∷ known) first (suc n) count each =
    let here : one ≡ Some (f first) = each 0 (omega arith) ∙ ap (λ k. Some (f k)) (omega arith) in
    let rest : known ≡ map (λ c. Some (f c)) (range_with_len (first + 1) n) =
    whole_table f known (first + 1) n (omega (arith, count)) (λ k below. each (suc k) (omega arith) ∙ ap (λ m. Some (f m)) (omega arith))
    in
    ap (λ o. o ∷ known) here ∙ ap (λ ks. Some (f first) ∷ ks) rest

some_of : {V : Type 0} (o : Option V) (value : V) → is_some o ≡ true → ((v : V) → o ≡ Some v → v ≡ value) → o ≡ Some value
some_of None value some right = absurd (false≢true some)
some_of (Some v) value some right = ap Some (right v refl)

pub all_known : {V : Type 0} (rule : Rule V) (graph : List (List Feed)) (known : List (Option V)) → AreRight rule graph known → ((c : ℕ) → c < length graph → IsKnown known (origin.Component c))
    → known ≡ map Some (values_of rule graph)
all_known rule graph known right all =
    whole_table (λ c. value_of rule graph (origin.Component c)) known 0 (length graph) right.count
    (λ k below. some_of (slice_index_or known k None) (value_of rule graph (origin.Component k)) (all k below) (right.each k) ∙ ap (λ n. Some (value_of rule graph (origin.Component n))) (omega arith))
    ∙ sym (map-map Some (λ c. value_of rule graph (origin.Component c)) (range_with_len 0 (length graph)))

-- ---- ranks

-- more steps than the rank lead no further
enough : (graph : List (List Feed)) (rank : ℕ → ℕ) → IsRanked graph rank → (n : ℕ) (from : Origin) → ((c : ℕ) → from ≡ origin.Component c → rank c < n) → value_in n depth_rule graph from ≡ value_in (suc n) depth_rule graph from
enough graph rank ranked n origin.Spout less = refl
enough graph rank ranked zero (origin.Component c) less = absurd (let none = less c refl in omega arith)
enough graph rank ranked (suc n) (origin.Component c) less =
    ap (λ fed. min (greatest (map (λ (one : Feed × ℕ). one.1) fed) + 1) weight_end)
    (map_fed (value_in n depth_rule graph) (value_in (suc n) depth_rule graph) (feeds_at graph c)
    (λ k feed at. enough graph rank ranked n feed.from (λ b is. let below = less c refl in let grows = ranked.grows b c k feed at is in omega arith)))

pub settled_by_rank : (graph : List (List Feed)) (rank : ℕ → ℕ) → length graph < 2 ^ 32 → IsRanked graph rank → IsSettled graph
unfolding value_of
settled_by_rank graph rank small ranked c there =
    let within = greatest_within (λ (feed : Feed). value_in (length graph) depth_rule graph feed.from) (feeds_at graph c) (length graph) (λ feed. depth_in_within (length graph) graph feed.from) in
    enough graph rank ranked (length graph) (origin.Component c) (λ b is. let same : c ≡ b = cc in rw (← same) (ranked.below c there))
    ∙ omega (arith, within, small, depth_over (value_in (length graph) depth_rule graph) (feeds_at graph c))

-- ---- one subscription more

pub feeds_are : (graph : List (List Feed)) (c : ℕ) (at items : List Feed) → slice_get graph c ≡ Some at → items ≡ at → items ≡ feeds_at graph c
feeds_are graph c at items got is = is ∙ sym (get_or_from_slice_get graph c at [] got)

pub next_at : (graph : List (List Feed)) (c k : ℕ) (items : List Feed) (default : Feed) → items ≡ feeds_at graph c → k < length items → slice_get (feeds_at graph c) k ≡ Some (slice_index_or items k default)
next_at graph c k items default is within = ap (λ fs. slice_get fs k) (sym is) ∙ slice_get-get_or items k default within

-- all sources so far are known, and the next
pub known_more : {V : Type 0} (old new : List (Option V)) (items : List Feed) (i : ℕ) (default : Feed) → i < length items
    → ((k : ℕ) (feed : Feed) → k < i → slice_get items k ≡ Some feed → IsKnown old feed.from) → ((other : Origin) → IsKnown old other → IsKnown new other) → IsKnown new (slice_index_or items i default).from
    → (k : ℕ) (feed : Feed) → k < i + 1 → slice_get items k ≡ Some feed → IsKnown new feed.from
known_more old new items i default within found kept next k feed below at =
    elim (cases_lt k i) [
      | inl earlier ↦ kept feed.from (found k feed earlier at)
      | inr last ↦
          let same : k ≡ i = omega arith in
          let here : Some feed ≡ Some (slice_index_or items i default) = sym at ∙ ap (slice_get items) same ∙ slice_get-get_or items i default within in
          let one : feed ≡ slice_index_or items i default = cc in
          subst (λ (f : Feed). IsKnown new f.from) (sym one) next
    ]

pub all_found : {V : Type 0} (known : List (Option V)) (items feeds : List Feed) (i : ℕ) → length items ≤ i → items ≡ feeds
    → ((k : ℕ) (feed : Feed) → k < i → slice_get items k ≡ Some feed → IsKnown known feed.from) → (k : ℕ) (feed : Feed) → slice_get feeds k ≡ Some feed → IsKnown known feed.from
all_found known items feeds i past is found k feed at =
    let here : slice_get items k ≡ Some feed = ap (λ fs. slice_get fs k) is ∙ at in
    found k feed (omega (arith, slice_get_within items k feed here)) here

-- one component more
pub known_on : {V : Type 0} (old new : List (Option V)) (n : ℕ) → ((k : ℕ) → k < n → IsKnown old (origin.Component k)) → ((other : Origin) → IsKnown old other → IsKnown new other) → IsKnown new (origin.Component n)
    → (k : ℕ) → k < n + 1 → IsKnown new (origin.Component k)
known_on old new n found kept next k below =
    elim (cases_lt k n) [
      | inl earlier ↦ kept (origin.Component k) (found k earlier)
      | inr last ↦ let same : k ≡ n = omega arith in subst (λ m. IsKnown new (origin.Component m)) (sym same) next
    ]

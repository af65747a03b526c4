-- What stands at the number of a component in the lists that go over all components.
use Rattle.std.proofs.Common.{◌≡◌, ℕ, zero, suc, ◌+◌, ◌-◌, ◌<◌, ◌≤◌, true, false, List, [], ◌∷◌, ◌++◌, length, map, take, drop, Some, option_map, slice_get, inl, inr, refl, sym, ◌∙◌, ap, subst, arith, length-append}
use Rattle.topology_reader.proofs.Common.{enumerate_from, FileParts, ComponentPart, BodyPart, Bolt, State, Operation, IsInRange, IsComponentInRange, components_of, component_count, component_at, is_bolt, none-some, cases_lt, false≢true, slice_get-map, get_or_from_slice_get, inputs_by_component, inputs_at, planned_component, plan_of}
use Rattle.topology_reader.proofs.Listed.{All-at_in, in_place}

-- ---- places in lists

pub place_left : {X : Type 0} (xs ys : List X) (k : ℕ) (x : X) → slice_get xs k ≡ Some x → slice_get (xs ++ ys) k ≡ Some x
place_left [] ys k x is = absurd (none-some x is)
place_left (z ∷ xs) ys zero x is = is
place_left (z ∷ xs) ys (suc k) x is = place_left xs ys k x is

pub place_right : {X : Type 0} (xs ys : List X) (n k : ℕ) → n ≡ length xs + k → slice_get (xs ++ ys) n ≡ slice_get ys k
place_right [] ys n k is = let same : n ≡ k = omega arith in ap (slice_get ys) same
place_right (x ∷ xs) ys zero k is = absurd (omega arith)
place_right (x ∷ xs) ys (suc n) k is = place_right xs ys n k (omega arith)

pub place_mapped : {X Y : Type 0} (f : X → Y) (xs : List X) (k : ℕ) (x : X) → slice_get xs k ≡ Some x → slice_get (map f xs) k ≡ Some (f x)
place_mapped f xs k x is = slice_get-map f xs k ∙ ap (option_map f) is

pub place_enumerated : {X : Type 0} (n : ℕ) (xs : List X) (k c : ℕ) (x : X) → c ≡ n + k → slice_get xs k ≡ Some x → slice_get (enumerate_from n xs) k ≡ Some (c, x)
place_enumerated n [] k c x number is = absurd (none-some x is)
place_enumerated n (y ∷ ys) zero c x number is =
    let first : n ≡ c = omega arith in
    let same : Some y ≡ Some x = is in
    cc
place_enumerated n (y ∷ ys) (suc k) c x number is = place_enumerated (n + 1) ys k c x (omega arith) is

pub map_enumerated : {X Y : Type 0} (f : ℕ × X → Y) (g : X → Y) → ((n : ℕ) (x : X) → f (n, x) ≡ g x) → (n : ℕ) (xs : List X) → map f (enumerate_from n xs) ≡ map g xs
map_enumerated f g same n [] = refl
map_enumerated f g same n (x ∷ xs) = let here : f (n, x) ≡ g x = same n x in let rest : map f (enumerate_from (n + 1) xs) ≡ map g xs = map_enumerated f g same (n + 1) xs in cc

pub some_there : {X : Type 0} (xs : List X) (k : ℕ) → k < length xs → (x : X) × (slice_get xs k ≡ Some x)
some_there [] k within = absurd (omega arith)
some_there (x ∷ xs) zero within = (x, refl)
some_there (x ∷ xs) (suc k) within = some_there xs k (omega arith)

pub drop_at : {X : Type 0} (xs : List X) (k : ℕ) (x : X) → slice_get xs k ≡ Some x → drop k xs ≡ x ∷ drop (k + 1) xs
drop_at [] k x is = absurd (none-some x is)
drop_at (y ∷ ys) zero x is = let same : Some y ≡ Some x = is in cc
drop_at (y ∷ ys) (suc k) x is = let next : suc k + 1 ≡ suc (k + 1) = omega arith in rw next (drop_at ys k x is)

pub take_at : {X : Type 0} (xs : List X) (k : ℕ) (x : X) → slice_get xs k ≡ Some x → take (k + 1) xs ≡ take k xs ++ x ∷ []
take_at [] k x is = absurd (none-some x is)
take_at (y ∷ ys) zero x is = let same : Some y ≡ Some x = is in cc
take_at (y ∷ ys) (suc k) x is = let next : suc k + 1 ≡ suc (k + 1) = omega arith in rw next (ap (λ zs. y ∷ zs) (take_at ys k x is))

-- ---- components

abbrev pub IsAt : FileParts → ℕ → ComponentPart → Type 0
IsAt p c part = component_at p c ≡ Some part

pub count_parts : (p : FileParts) → component_count p ≡ length p.bolts + length p.states
count_parts p = length-append p.bolts p.states

pub part_there : (p : FileParts) (c : ℕ) → c < component_count p → (part : ComponentPart) × IsAt p c part
part_there p c within = some_there (components_of p) c within

pub inputs_at_part : (p : FileParts) (c : ℕ) (part : ComponentPart) → IsAt p c part → slice_get (inputs_by_component p) c ≡ Some part.inputs
inputs_at_part p c part is = place_mapped (λ (part : ComponentPart). part.inputs) (components_of p) c part is

pub inputs_are : (p : FileParts) (c : ℕ) (part : ComponentPart) → IsAt p c part → inputs_at p c ≡ part.inputs
inputs_are p c part is = get_or_from_slice_get (inputs_by_component p) c part.inputs [] (inputs_at_part p c part is)

-- what is planned of a component
pub planned_at : (p : FileParts) (c : ℕ) (part : ComponentPart) → IsAt p c part → slice_get (plan_of p).components c ≡ Some (planned_component p (c, part))
unfolding plan_of
planned_at p c part is =
    place_mapped (planned_component p) (enumerate_from 0 (components_of p)) c (c, part) (place_enumerated 0 (components_of p) c c part (omega arith) is)

-- ---- bolts and states

pub range_at : (p : FileParts) (c : ℕ) (part : ComponentPart) → IsInRange p → IsAt p c part → IsComponentInRange part
range_at p c part range is = All-at_in IsComponentInRange (components_of p) range.each part (in_place (components_of p) c part is)

pub is_bolt_at : (p : FileParts) (c : ℕ) (part : ComponentPart) → IsInRange p → IsAt p c part → c < length p.bolts → is_bolt part.body ≡ true
is_bolt_at p c part range is within =
    let bolt = some_there p.bolts c within in
    let same : Some bolt.0 ≡ Some part = sym (place_left p.bolts p.states c bolt.0 bolt.1) ∙ is in
    let one : bolt.0 ≡ part = cc in
    subst (λ (part : ComponentPart). is_bolt part.body ≡ true) one (All-at_in (λ (part : ComponentPart). is_bolt part.body ≡ true) p.bolts range.are_bolts bolt.0 (in_place p.bolts c bolt.0 bolt.1))

pub is_state_at : (p : FileParts) (c : ℕ) (part : ComponentPart) → IsInRange p → IsAt p c part → length p.bolts ≤ c → is_bolt part.body ≡ false
is_state_at p c part range is past =
    let place : c ≡ length p.bolts + (c - length p.bolts) = omega arith in
    All-at_in (λ (part : ComponentPart). is_bolt part.body ≡ false) p.states range.are_states part
    (in_place p.states (c - length p.bolts) part (sym (place_right p.bolts p.states c (c - length p.bolts) place) ∙ is))

pub the_operation : (body : BodyPart) → is_bolt body ≡ true → (operation : Operation) × (body ≡ Bolt operation)
the_operation (Bolt operation) is = (operation, refl)
the_operation (State state) is = absurd (false≢true is)

pub bolt_below : (p : FileParts) (c : ℕ) (part : ComponentPart) → IsInRange p → IsAt p c part → is_bolt part.body ≡ true → c < length p.bolts
bolt_below p c part range at is =
    elim (cases_lt c (length p.bolts)) [ inl within ↦ within | inr past ↦ absurd (false≢true (sym (is_state_at p c part range at past) ∙ is)) ]

pub state_past : (p : FileParts) (c : ℕ) (part : ComponentPart) → IsInRange p → IsAt p c part → is_bolt part.body ≡ false → length p.bolts ≤ c
state_past p c part range at is =
    elim (cases_lt c (length p.bolts)) [ inl within ↦ absurd (false≢true (sym is ∙ is_bolt_at p c part range at within)) | inr past ↦ past ]

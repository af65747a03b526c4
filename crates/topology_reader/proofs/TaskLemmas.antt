-- Components planned one after another, and the numbers of their tasks.
use Rattle.std.proofs.Common.{◌≡◌, ℕ, ◌+◌, ◌≤◌, List, [], ◌∷◌, ◌++◌, length, map, take, sum_by, All, sym, ap, ◌∙◌, arith, Some, slice_get}
use Rattle.topology_reader.proofs.Common.{length-take-le, map-append, All-weaker, sum_by-le, sum_by-take-le, sum_by_more, enumerate_from, ComponentPart, components_of, FileParts, IsInRange, IsComponentInRange, first_task_of, slice_get_within, get_or_from_slice_get}
use Rattle.topology_reader.proofs.PartLemmas.{enumerate_append}
use Rattle.topology_reader.proofs.Numbered.{IsAt, count_parts, take_at}

-- ---- one more of some numbered items

map-enumerate_push : {X Y : Type 0} (f : ℕ × X → Y) (n : ℕ) (xs : List X) (x : X) → map f (enumerate_from n (xs ++ x ∷ [])) ≡ map f (enumerate_from n xs) ++ f (n + length xs, x) ∷ []
map-enumerate_push f n xs x = ap (map f) (enumerate_append n xs (x ∷ [])) ∙ map-append f (enumerate_from n xs) ((n + length xs, x) ∷ [])

pub numbered_next : {X Y : Type 0} (f : ℕ × X → Y) (xs : List X) (c : ℕ) (x : X) (old new : List Y) (y : Y) → slice_get xs c ≡ Some x → new ≡ old ++ y ∷ [] → old ≡ map f (enumerate_from 0 (take c xs)) → y ≡ f (c, x) → new ≡ map f (enumerate_from 0 (take (c + 1) xs))
numbered_next f xs c x old new y is added so_far made =
    let count : c ≡ 0 + length (take c xs) = omega (arith, length-take-le c xs (omega (arith, slice_get_within xs c x is))) in
    added
    ∙ ap (λ ys. ys ++ y ∷ []) so_far
    ∙ ap (λ z. map f (enumerate_from 0 (take c xs)) ++ z ∷ []) (made ∙ ap (λ k. f (k, x)) count)
    ∙ sym (map-enumerate_push f 0 (take c xs) x)
    ∙ ap (λ zs. map f (enumerate_from 0 zs)) (sym (take_at xs c x is))

-- ---- tasks

-- the task after those of a component
pub next_task : (p : FileParts) (c : ℕ) (part : ComponentPart) → IsAt p c part → first_task_of p (c + 1) ≡ first_task_of p c + part.tasks
next_task p c part at =
    sum_by_more (λ (one : ComponentPart). one.tasks) (components_of p) c part (slice_get_within (components_of p) c part at)
    ∙ ap (λ (one : ComponentPart). first_task_of p c + one.tasks) (get_or_from_slice_get (components_of p) c part part at)

pub tasks_in_all-le : (p : FileParts) → IsInRange p → sum_by (λ (part : ComponentPart). part.tasks) (components_of p) ≤ 2560
tasks_in_all-le p range =
    let small : All (λ (part : ComponentPart). part.tasks ≤ 64) (components_of p) = All-weaker IsComponentInRange (λ part. part.tasks ≤ 64) (λ part of. of.tasks.1) (components_of p) range.each in
    omega (arith, sum_by-le (λ (part : ComponentPart). part.tasks) 64 (components_of p) small, count_parts p, range.bolts, range.states.1)

pub first_task-le : (p : FileParts) (c : ℕ) → IsInRange p → first_task_of p c ≤ 2560
first_task-le p c range = omega (arith, sum_by-take-le (λ (part : ComponentPart). part.tasks) (components_of p) c, tasks_in_all-le p range)

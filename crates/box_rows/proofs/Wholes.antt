-- One row whose passes have all numbers, and rows whose passes keep theirs.
use Rattle.std.proofs.Common.{◌≡◌, ◌<◌, ℕ, zero, suc, List, [], ◌∷◌, length, map, get_or, refl, ap, sym, ◌∙◌, arith}
use Rattle.std.specs.List.{AllByRecursion}
use Rattle.std.proofs.lemmas.List.{length-map}
use Rattle.pass_numbers.proofs.Numbering.{numbered_as, one_numbered, one_whole}
use Rattle.event_worlds.specs.counted_items.Weights.{weigh}
use Rattle.pass_numbers.specs.declared.Number.{Number}
use Rattle.pass_numbers.specs.Numbers.{IsWhole}
use Rattle.box_rows.specs.declared.mail.Mail.{Mail}
use Rattle.box_rows.specs.AllRows.{AreAll, Row, numbers_by, views_in}
use Rattle.box_rows.specs.FitRows.{AreWhole, IsFitRow, IsFitView}
use Rattle.box_rows.specs.Rows.{numbers_at}
use Rattle.box_rows.specs.Splitting.{numbers_in_box}
use Rattle.task_queues.specs.Books.{numbers_of}
use Rattle.task_queues.specs.declared.pass.Mailbox.{Mailbox}
use Rattle.task_queues.specs.declared.pass.Pass.{Pass}
use Rattle.task_queues.specs.declared.rule.View.{View}
use Rattle.task_queues.specs.Passes.{view_of}
use Rattle.event_worlds.specs.topology_plan.Topology.{Topology}

abbrev HasAll : View Mail → Type 0
HasAll v = IsWhole (numbers_of v)

one-of-all : (vs : List (View Mail)) (n : ℕ) → AllByRecursion HasAll vs → n < length vs → IsWhole (numbers_in_box n vs)
one-of-all [] n all below = absurd (omega arith)
one-of-all (v ∷ vs) zero all below = all.0
one-of-all (v ∷ vs) (suc n) all below = one-of-all vs n all.1 (omega arith)

all-of-each : (vs : List (View Mail)) → ((n : ℕ) → n < length vs → IsWhole (numbers_in_box n vs)) → AllByRecursion HasAll vs
all-of-each [] each = tt
all-of-each (v ∷ vs) each = (each 0 (omega arith), all-of-each vs (λ n below. each (suc n) (omega arith)))

pub whole-first : (row : List (Pass Mail)) → AreWhole row → (n : ℕ) → n < length row → AreAll n row []
whole-first row whole n below =
    one_numbered (numbers_in_box n) (map view_of row) (one-of-all (map view_of row) n whole (let l = length-map row view_of in omega arith))

pub whole-last : (row : List (Pass Mail)) → ((n : ℕ) → n < length row → AreAll n row []) → AreWhole row
whole-last row each =
    all-of-each (map view_of row) (λ n below. one_whole (numbers_in_box n) (map view_of row) (each n (let l = length-map row view_of in omega arith)))

fit-whole : (vs : List (View Mail)) → AllByRecursion IsFitView vs → AllByRecursion HasAll vs
fit-whole [] all = tt
fit-whole (v ∷ vs) all = (all.0.whole, fit-whole vs all.1)

pub whole-fit : (t : Topology) (boxes : List (Mailbox Mail)) (row : List (Pass Mail)) → IsFitRow t boxes row → AreWhole row
whole-fit t boxes row fit = fit-whole (map view_of row) fit.fit

-- ---- passes that keep their numbers

abbrev numbers_from : ℕ → List (List Number) → List Number
numbers_from n numbers = get_or numbers n []

box-numbers : (n : ℕ) (row : List (Pass Mail)) → numbers_in_box n (map view_of row) ≡ numbers_from n (map numbers_at row)
box-numbers n [] = refl
box-numbers zero (p ∷ row) = refl
box-numbers (suc n) (p ∷ row) = box-numbers n row

rows-weigh : (n : ℕ) (f : Number → ℕ) (rows : List Row) → weigh (λ (vs : List (View Mail)). weigh f (numbers_in_box n vs)) (map views_in rows) ≡ weigh (λ (ns : List (List Number)). weigh f (numbers_from n ns)) (numbers_by rows)
rows-weigh n f [] = refl
rows-weigh n f (r ∷ rows) = let rest = rows-weigh n f rows in let one = ap (weigh f) (box-numbers n r.items) in omega arith

pub still-all : (n : ℕ) (old new : List (Pass Mail)) (olds news : List Row) → map numbers_at new ≡ map numbers_at old → numbers_by news ≡ numbers_by olds → AreAll n old olds → AreAll n new news
still-all n old new olds news same others =
    numbered_as (numbers_in_box n) (numbers_in_box n) (map view_of old ∷ map views_in olds) (map view_of new ∷ map views_in news)
    (λ f.
    let a = ap (weigh f) (box-numbers n new ∙ ap (numbers_from n) same ∙ sym (box-numbers n old)) in
    let b = rows-weigh n f olds in let c = rows-weigh n f news in
    let d = ap (weigh (λ (ns : List (List Number)). weigh f (numbers_from n ns))) others in omega arith)

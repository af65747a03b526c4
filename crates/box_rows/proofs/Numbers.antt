-- The books and the numbers of rows.
use Rattle.std.proofs.Common.{◌≡◌, ◌≢◌, ◌≤◌, ℕ, zero, suc, ◌+◌, List, [], ◌∷◌, ◌++◌, length, map, sym, refl, append-nil, arith}
use Rattle.event_worlds.specs.counted_items.Weights.{weigh}
use Rattle.pass_numbers.proofs.Lists.{map-append}
use Rattle.pass_numbers.proofs.Numbering.{join_beside, split_beside}
use Rattle.pass_numbers.specs.Numbers.{Numbered, cut_numbers, kept_numbers}
use Rattle.box_rows.specs.declared.mail.Mail.{Mail}
use Rattle.box_rows.specs.Rows.{weigh_sent, weigh_taken}
use Rattle.box_rows.specs.Splitting.{joined_views, numbers_in_box}
use Rattle.box_rows.proofs.Weighing.{view_cuts, view_joins, view_keeps}
use Rattle.task_queues.specs.Books.{cut_first, cut_of, kept_first, kept_of, numbers_in}
use Rattle.task_queues.specs.declared.rule.Book.{Book}
use Rattle.task_queues.specs.declared.rule.View.{View}
use Rattle.event_worlds.specs.tuple_account.Histories.{Packet}

module _ (f : Packet → ℕ) where
  pub kept-sent : (vs : List (View Mail)) → (weigh (weigh_sent f) (map kept_of vs) ≡ weigh (weigh_sent f) vs) × (weigh (weigh_taken f) (map kept_of vs) ≡ weigh (weigh_taken f) vs)
  kept-sent [] = (refl, refl)
  kept-sent (v ∷ vs) = let rest = kept-sent vs in let k = view_keeps f v in ((let a = rest.0 in let b = k.0 in omega arith), (let a = rest.1 in let b = k.1 in omega arith))

  pub cut-sent : (vs : List (View Mail)) → (weigh (weigh_sent f) (map cut_of vs) ≡ 0) × (weigh (weigh_taken f) (map cut_of vs) ≡ 0)
  cut-sent [] = (refl, refl)
  cut-sent (v ∷ vs) = let rest = cut-sent vs in let k = view_cuts f v in ((let a = rest.0 in let b = k.0 in omega arith), (let a = rest.1 in let b = k.1 in omega arith))

  pub joined-sent : (vs us : List (View Mail)) → length us ≤ length vs → (weigh (weigh_sent f) (joined_views vs us) ≡ weigh (weigh_sent f) vs + weigh (weigh_sent f) us) × (weigh (weigh_taken f) (joined_views vs us) ≡ weigh (weigh_taken f) vs + weigh (weigh_taken f) us)
  joined-sent [] [] few = (refl, refl)
  joined-sent [] (u ∷ us) few = absurd (omega arith)
  joined-sent (v ∷ vs) [] few = ((omega arith), (omega arith))
  joined-sent (v ∷ vs) (u ∷ us) few = let rest = joined-sent vs us (omega arith) in let k = view_joins f v u in ((let a = rest.0 in let b = k.0 in omega arith), (let a = rest.1 in let b = k.1 in omega arith))

kept-numbers : (bs : List (Book Mail)) → numbers_in (kept_first bs) ≡ kept_numbers (numbers_in bs)
kept-numbers [] = refl
kept-numbers (b ∷ bs) = refl

cut-numbers : (bs : List (Book Mail)) → numbers_in (cut_first bs) ≡ cut_numbers (numbers_in bs)
cut-numbers [] = refl
cut-numbers (b ∷ bs) = refl

kept-in : (n : ℕ) (vs : List (View Mail)) → numbers_in_box n (map kept_of vs) ≡ kept_numbers (numbers_in_box n vs)
kept-in n [] = refl
kept-in zero (v ∷ vs) = kept-numbers v.books
kept-in (suc n) (v ∷ vs) = kept-in n vs

cut-in : (n : ℕ) (vs : List (View Mail)) → numbers_in_box n (map cut_of vs) ≡ cut_numbers (numbers_in_box n vs)
cut-in n [] = refl
cut-in zero (v ∷ vs) = cut-numbers v.books
cut-in (suc n) (v ∷ vs) = cut-in n vs

joined-in : (n : ℕ) (vs us : List (View Mail)) → length us ≤ length vs → numbers_in_box n (joined_views vs us) ≡ numbers_in_box n vs ++ numbers_in_box n us
joined-in n [] [] few = refl
joined-in n [] (u ∷ us) few = absurd (omega arith)
joined-in n (v ∷ vs) [] few = sym (append-nil (numbers_in_box n (v ∷ vs)))
joined-in zero (v ∷ vs) (u ∷ us) few = map-append (λ (b : Book Mail). b.number) v.books u.books
joined-in (suc n) (v ∷ vs) (u ∷ us) few = joined-in n vs us (omega arith)

pub split-numbered : (n : ℕ) (vs : List (View Mail)) (others : List (List (View Mail))) → numbers_in_box n vs ≢ [] → Numbered (numbers_in_box n) (vs ∷ others) → Numbered (numbers_in_box n) (map kept_of vs ∷ map cut_of vs ∷ others)
split-numbered n vs others some = split_beside (numbers_in_box n) [] refl vs (map kept_of vs) (map cut_of vs) others some (kept-in n vs) (cut-in n vs)

pub join-numbered : (n : ℕ) (vs us : List (View Mail)) (others : List (List (View Mail))) → length us ≤ length vs → Numbered (numbers_in_box n) (vs ∷ us ∷ others) → Numbered (numbers_in_box n) (joined_views vs us ∷ others)
join-numbered n vs us others few = join_beside (numbers_in_box n) vs us (joined_views vs us) others (joined-in n vs us few)

-- What a ledger's words and a check say of messages that a book holds.
use Rattle.std.proofs.Common.{◌≡◌, ◌≢◌, ◌↔◌, ◌≤◌, ℕ, zero, suc, Bool, true, false, true≢false, List, [], sym, ap, refl, ◌∙◌, arith}
use Rattle.shared_ledger.specs.declared.rule.Book.{Book}
use Rattle.shared_ledger.specs.Books.{word_of, fails_of}
use Rattle.tree_model.specs.counted_items.Weights.{weigh}
use Rattle.tree_model.specs.tuple_tickets.declared.edge.Edge.{Edge}
use Rattle.tree_model.specs.declared.messages.AckMsg.{AckMsg}
use Rattle.tree_model.specs.Lists.{all_said, word, is_failed, IsClosed, AreOpen}
use Rattle.tree_model.proofs.tuple_tickets.Words.{closed_empty}
use Rattle.track_window.specs.Noted.{IsJudged}

pub closed_yes : (list : List AckMsg) → IsClosed list → true ≡ true ↔ IsClosed list
closed_yes list closed = (λ same. closed, λ again. refl)

pub closed_no : (list : List AckMsg) (edges : List Edge) → AreOpen list edges → edges ≢ [] → false ≡ true ↔ IsClosed list
closed_no list edges are some = (λ same. absurd (true≢false (sym same)), λ closed. absurd (some ((closed_empty (all_said list) edges are).0 closed)))

module _ (number : ℕ) (book : Book) (list : List AckMsg) (words : word_of number book ≡ word list) (fails : fails_of number book ≡ weigh is_failed list) (w : ℕ) (word_is : w ≡ word_of number book) (failed : Bool) (failed_is : failed ≡ true ↔ 1 ≤ fails_of number book) where
  pub judged_word : w ≢ 0 → IsJudged list false
  judged_word some = (λ same. absurd (true≢false (sym same)), λ all. absurd (some (word_is ∙ words ∙ all.0)))

  pub judged_failed : failed ≡ true → IsJudged list false
  judged_failed is = (λ same. absurd (true≢false (sym same)), λ all. let some = failed_is.0 is in let same = fails in let none = all.1 in absurd (omega (arith, some, same, none)))

  pub judged_closed : w ≡ 0 → failed ≡ false → (closed : Bool) → closed ≡ true ↔ IsClosed list → IsJudged list closed
  judged_closed none_left is closed checked = (
    (λ yes_it_is. (sym (words) ∙ sym word_is ∙ none_left, sym (fails) ∙ none, checked.0 yes_it_is)),
    λ all. checked.1 all.2,
  )
    where
      none : fails_of number book ≡ 0
      none = by (fails_of number book) (λ some. true≢false (sym (failed_is.1 some) ∙ is))
        where
          by : (n : ℕ) → (1 ≤ n → ⊥) → n ≡ 0
          by zero never = refl
          by (suc n) never = absurd (never (omega arith))

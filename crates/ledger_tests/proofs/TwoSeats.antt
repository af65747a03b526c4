-- Two seats that were split, used and joined again.
use Rattle.std.proofs.Common.{◌≡◌, ℕ, bit_xor, eq-eqb, List, [], ◌∷◌, ◌++◌, refl, ap, ◌∙◌}
use Rattle.pass_numbers.specs.Numbers.{Numbered}
use Rattle.pass_numbers.proofs.Numbering.{swap_beside, same_beside}
use Rattle.shared_ledger.specs.declared.rule.Book.{Book}
use Rattle.shared_ledger.specs.declared.rule.Call.{Call}
use Rattle.shared_ledger.specs.Books.{ack_of, numbers_in, word_at}
use Rattle.shared_ledger.specs.Xors.{xor_by}
use Rattle.shared_ledger.proofs.Xored.{xor-push}

-- two seats that keep their numbers
pub two_same : (v w u x : Book) → numbers_in w ≡ numbers_in v → numbers_in x ≡ numbers_in u → Numbered numbers_in (v ∷ u ∷ []) → Numbered numbers_in (w ∷ x ∷ [])
two_same v w u x one other numbered =
    swap_beside numbers_in x w [] (same_beside numbers_in u x (w ∷ []) other (swap_beside numbers_in w u [] (same_beside numbers_in v w (u ∷ []) one numbered)))

acked_word : (root word : ℕ) → word_at root (ack_of root word) ≡ word
acked_word root word = rw (eq-eqb root root refl) refl

-- the word that calls have for a root after two acks more
pub acked_twice : (root first second : ℕ) (calls : List Call)
    → xor_by (word_at root) ((calls ++ ack_of root first ∷ []) ++ ack_of root second ∷ []) ≡ bit_xor (bit_xor (xor_by (word_at root) calls) first) second
acked_twice root first second calls =
    xor-push (word_at root) (calls ++ ack_of root first ∷ []) (ack_of root second)
    ∙ ap (λ (n : ℕ). bit_xor n (word_at root (ack_of root second))) (xor-push (word_at root) calls (ack_of root first) ∙ ap (bit_xor (xor_by (word_at root) calls)) (acked_word root first))
    ∙ ap (bit_xor (bit_xor (xor_by (word_at root) calls) first)) (acked_word root second)

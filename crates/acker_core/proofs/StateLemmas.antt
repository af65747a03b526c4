-- The state of a list, one message at a time.
use Rattle.std.proofs.Common.{◌≡◌, ℕ, ◌||◌, bit_xor, List, [], ◌∷◌, ◌++◌, refl, sym, ap, ◌∙◌}
use Rattle.std.specs.Prelude.{is_some}
use Rattle.std.specs.Int.Bits.{xor_assoc, xor_zero_l, xor_zero_r}
use Rattle.rotating_ledger.specs.Told.{merged}
use Rattle.tree_model.specs.tuple_tickets.declared.edge.Edge.{Edge}
use Rattle.tree_model.specs.tuple_tickets.Edges.{xor_ids}
use Rattle.tree_model.proofs.tuple_tickets.Toggles.{xor-append}
use Rattle.tree_model.specs.declared.messages.AckMsg.{AckMsg}
use Rattle.tree_model.specs.declared.messages.AckMsg.TheVariants.{Init, Done, Failed}
use Rattle.tree_model.specs.Lists.{occurrences, occurrences_in, word}
use Rattle.acker_core.specs.Entries.{has_init, first_failed}
use Rattle.acker_core.specs.States.{state_of, state_in}

word_in : (m : AckMsg) → xor_ids (occurrences_in m) ≡ (state_in m).word
word_in (Init m) = refl
word_in (Done m) = refl
word_in (Failed m) = refl

init_in : (m : AckMsg) → has_init (m ∷ []) ≡ (state_in m).init
init_in (Init m) = refl
init_in (Done m) = refl
init_in (Failed m) = refl

failed_in : (m : AckMsg) → is_some (first_failed (m ∷ [])) ≡ (state_in m).failed
failed_in (Init m) = refl
failed_in (Done m) = refl
failed_in (Failed m) = refl

word-push : (list : List AckMsg) (m : AckMsg) → word (list ++ m ∷ []) ≡ bit_xor (word list) (state_in m).word
word-push [] m = xor-append (occurrences_in m) [] ∙ xor_zero_r (xor_ids (occurrences_in m)) ∙ word_in m ∙ sym (xor_zero_l (state_in m).word)
word-push (n ∷ list) m =
    xor-append (occurrences_in n) (occurrences (list ++ m ∷ []))
    ∙ ap (bit_xor (xor_ids (occurrences_in n))) (word-push list m)
    ∙ sym (xor_assoc (xor_ids (occurrences_in n)) (word list) (state_in m).word)
    ∙ ap (λ (w : ℕ). bit_xor w (state_in m).word) (sym (xor-append (occurrences_in n) (occurrences list)))

init-push : (list : List AckMsg) (m : AckMsg) → has_init (list ++ m ∷ []) ≡ (has_init list || (state_in m).init)
init-push [] m = init_in m
init-push (Init n ∷ list) m = refl
init-push (Done n ∷ list) m = init-push list m
init-push (Failed n ∷ list) m = init-push list m

failed-push : (list : List AckMsg) (m : AckMsg) → is_some (first_failed (list ++ m ∷ [])) ≡ (is_some (first_failed list) || (state_in m).failed)
failed-push [] m = failed_in m
failed-push (Init n ∷ list) m = failed-push list m
failed-push (Done n ∷ list) m = failed-push list m
failed-push (Failed n ∷ list) m = refl

-- one more message is merged
pub state-push : (list : List AckMsg) (m : AckMsg) → state_of (list ++ m ∷ []) ≡ merged (state_of list) (state_in m)
state-push list m = λ i. record { word = word-push list m i; init = init-push list m i; failed = failed-push list m i }

-- the first message is a state of its own
pub state-first : (m : AckMsg) → state_of (m ∷ []) ≡ state_in m
state-first m = λ i. record {
  word = (xor-append (occurrences_in m) [] ∙ xor_zero_r (xor_ids (occurrences_in m)) ∙ word_in m) i;
  init = init_in m i;
  failed = failed_in m i;
}

-- The calls that stand for messages have their word, and as many inits and fails.
use Rattle.std.proofs.Common.{◌≡◌, ℕ, ◌+◌, ◌==◌, Bool, true, false, cond, eq-eqb, bit_xor, List, [], ◌∷◌, filter, sym, refl, ap, ◌∙◌, arith}
use Rattle.std.specs.Int.Bits.{xor_zero_l}
use Rattle.tree_model.specs.counted_items.Weights.{weigh}
use Rattle.tree_model.specs.tuple_tickets.Edges.{xor_ids}
use Rattle.tree_model.proofs.tuple_tickets.Toggles.{xor-append}
use Rattle.tree_model.specs.declared.messages.AckMsg.{AckMsg}
use Rattle.tree_model.specs.declared.messages.AckMsg.TheVariants as msg
use Rattle.tree_model.specs.Lists.{word, occurrences, occurrences_in, is_init, is_failed}
use Rattle.shared_ledger.specs.declared.rule.Call.{Call}
use Rattle.shared_ledger.specs.declared.rule.Book.{Book}
use Rattle.shared_ledger.specs.Books.{word_at, fail_at, init_at, toggles, fail_weight, init_weight, word_of, fails_of, inits_of}
use Rattle.shared_ledger.specs.Xors.{xor_by}
use Rattle.ledger_words.specs.Notes.{call_at, calls_at, HoldsNotes}

-- the calls on a root
abbrev calls_on : ℕ → List Call → List Call
calls_on root calls = filter (λ (c : Call). c.root == root) calls

-- calls on other roots say nothing
pub words_filter : (root : ℕ) (calls : List Call) → xor_by (word_at root) calls ≡ xor_by (word_at root) (calls_on root calls)
words_filter root [] = refl
words_filter root (c ∷ calls) = by_case (c.root == root) refl (words_filter root calls)
  where
    by_case : (t : Bool) → (c.root == root) ≡ t → xor_by (word_at root) calls ≡ xor_by (word_at root) (calls_on root calls)
        → bit_xor (cond t (toggles c.kind c.word) 0) (xor_by (word_at root) calls) ≡ xor_by (word_at root) (cond t (c ∷ calls_on root calls) (calls_on root calls))
    by_case true is later = ap (bit_xor (toggles c.kind c.word)) later ∙ ap (λ (b : Bool). bit_xor (cond b (toggles c.kind c.word) 0) (xor_by (word_at root) (calls_on root calls))) (sym is)
    by_case false is later = xor_zero_l (xor_by (word_at root) calls) ∙ later

-- a weight that calls on other roots do not have
abbrev weight_on : ℕ → (Call → ℕ) → Call → ℕ
weight_on root g c = cond (c.root == root) (g c) 0

filter_weight : (root : ℕ) (g : Call → ℕ) (calls : List Call) → weigh (weight_on root g) calls ≡ weigh (weight_on root g) (calls_on root calls)
filter_weight root g [] = refl
filter_weight root g (c ∷ calls) = by_case (c.root == root) refl (filter_weight root g calls)
  where
    by_case : (t : Bool) → (c.root == root) ≡ t → weigh (weight_on root g) calls ≡ weigh (weight_on root g) (calls_on root calls)
        → cond t (g c) 0 + weigh (weight_on root g) calls ≡ weigh (weight_on root g) (cond t (c ∷ calls_on root calls) (calls_on root calls))
    by_case true is later = let e : cond (c.root == root) (g c) 0 ≡ g c = rw is refl in omega arith
    by_case false is later = omega arith

pub fails_filter : (root : ℕ) (calls : List Call) → weigh (fail_at root) calls ≡ weigh (fail_at root) (calls_on root calls)
fails_filter root = filter_weight root (λ c. fail_weight c.kind)

pub inits_filter : (root : ℕ) (calls : List Call) → weigh (init_at root) calls ≡ weigh (init_at root) (calls_on root calls)
inits_filter root = filter_weight root (λ c. init_weight c.kind)

-- ---- the calls of messages

same_root : (root : ℕ) → (root == root) ≡ true
same_root root = eq-eqb root root refl

one_word : (root : ℕ) (m : AckMsg) → word_at root (call_at root m) ≡ xor_ids (occurrences_in m)
one_word root (msg.Init m) = rw (same_root root) refl
one_word root (msg.Done m) = rw (same_root root) refl
one_word root (msg.Failed m) = rw (same_root root) refl

pub words_calls : (root : ℕ) (list : List AckMsg) → xor_by (word_at root) (calls_at root list) ≡ word list
words_calls root [] = refl
words_calls root (m ∷ list) =
    ap (λ (n : ℕ). bit_xor n (xor_by (word_at root) (calls_at root list))) (one_word root m) ∙ ap (bit_xor (xor_ids (occurrences_in m))) (words_calls root list)
    ∙ sym (xor-append (occurrences_in m) (occurrences list))

one_fail : (root : ℕ) (m : AckMsg) → fail_at root (call_at root m) ≡ is_failed m
one_fail root (msg.Init m) = rw (same_root root) refl
one_fail root (msg.Done m) = rw (same_root root) refl
one_fail root (msg.Failed m) = rw (same_root root) refl

pub fails_calls : (root : ℕ) (list : List AckMsg) → weigh (fail_at root) (calls_at root list) ≡ weigh is_failed list
fails_calls root [] = refl
fails_calls root (m ∷ list) = let e = one_fail root m in let l = fails_calls root list in omega arith

one_init : (root : ℕ) (m : AckMsg) → init_at root (call_at root m) ≡ is_init m
one_init root (msg.Init m) = rw (same_root root) refl
one_init root (msg.Done m) = rw (same_root root) refl
one_init root (msg.Failed m) = rw (same_root root) refl

pub inits_calls : (root : ℕ) (list : List AckMsg) → weigh (init_at root) (calls_at root list) ≡ weigh is_init list
inits_calls root [] = refl
inits_calls root (m ∷ list) = let e = one_init root m in let l = inits_calls root list in omega arith

-- ---- a book that holds a list

pub words_held : (root : ℕ) (book : Book) (list : List AckMsg) → HoldsNotes root book list → word_of root book ≡ word list
words_held root book list holds = words_filter root book.calls ∙ ap (xor_by (word_at root)) holds ∙ words_calls root list

pub fails_held : (root : ℕ) (book : Book) (list : List AckMsg) → HoldsNotes root book list → fails_of root book ≡ weigh is_failed list
fails_held root book list holds = fails_filter root book.calls ∙ ap (weigh (fail_at root)) holds ∙ fails_calls root list

pub inits_held : (root : ℕ) (book : Book) (list : List AckMsg) → HoldsNotes root book list → inits_of root book ≡ weigh is_init list
inits_held root book list holds = inits_filter root book.calls ∙ ap (weigh (init_at root)) holds ∙ inits_calls root list

-- One record more, and one word more.
use Rattle.std.proofs.Common.{◌≡◌, ◌<◌, ◌≤◌, ◌-◌, ◌+◌, ℕ, zero, suc, List, [], ◌∷◌, ◌++◌, codes, sym, ap, ◌∙◌, arith, append_assoc}
use Rattle.std.proofs.lemmas.List.{append-nil}
use Rattle.storm_values.specs.declared.value.Value.{Value}
use Rattle.storm_values.specs.declared.value.Value.TheVariants.{Text}
use Rattle.load_source.specs.Records.{more_words, next_number, number_after, records_after, sentence_after, word_of}

pub one_record : (c k x : ℕ) (rows : List (List Value)) → k < c
    → rows ++ records_after (c - k) x ≡ (rows ++ (Text (sentence_after x) ∷ []) ∷ []) ++ records_after (c - (k + 1)) (number_after 6 x)
unfolding records_after
one_record c k x rows h =
    let e : c - k ≡ suc (c - (k + 1)) = omega arith in
    ap (λ n. rows ++ records_after n x) e ∙ sym (append_assoc rows ((Text (sentence_after x) ∷ []) ∷ []) (records_after (c - (k + 1)) (number_after 6 x)))

pub no_record : (c k x : ℕ) (rows : List (List Value)) → c ≤ k → rows ≡ rows ++ records_after (c - k) x
unfolding records_after
no_record c k x rows h =
    let e : c - k ≡ zero = omega arith in
    sym (ap (λ n. rows ++ records_after n x) e ∙ append-nil rows)

pub one_word : (c k x : ℕ) (text : List ℕ) → k < c
    → text ++ more_words (c - k) x ≡ ((text ++ codes " ") ++ word_of (next_number x)) ++ more_words (c - (k + 1)) (next_number x)
one_word c k x text h =
    let e : c - k ≡ suc (c - (k + 1)) = omega arith in
    let rest : List ℕ = more_words (c - (k + 1)) (next_number x) in
    ap (λ n. text ++ more_words n x) e
    ∙ sym (append_assoc (text ++ codes " ") (word_of (next_number x)) rest ∙ append_assoc text (codes " ") (word_of (next_number x) ++ rest))

pub no_word : (c k x : ℕ) (text : List ℕ) → c ≤ k → text ≡ text ++ more_words (c - k) x
no_word c k x text h =
    let e : c - k ≡ zero = omega arith in
    sym (ap (λ n. text ++ more_words n x) e ∙ append-nil text)

pub one_number : (c k x : ℕ) → k < c → number_after (c - k) x ≡ number_after (c - (k + 1)) (next_number x)
one_number c k x h =
    let e : c - k ≡ suc (c - (k + 1)) = omega arith in ap (λ n. number_after n x) e

pub no_number : (c k x : ℕ) → c ≤ k → x ≡ number_after (c - k) x
no_number c k x h = let e : c - k ≡ zero = omega arith in sym (ap (λ n. number_after n x) e)

-- One piece more of a text.
use Rattle.std.proofs.Common.{◌≡◌, ℕ, suc, ◌+◌, ◌==◌, Bool, true, false, not, cond, List, [], ◌∷◌, ◌++◌, take, drop, Option, Some, None, option_map, refl, ap, sym, subst, ◌∙◌, arith}
use Rattle.std.specs.List.{prefix_len, onto_first}
use Rattle.std.specs.Prelude.{option_and_then}
use Rattle.std.proofs.lemmas.List.{append_assoc}
use Rattle.report_grammar.specs.steps.Lists.{behind, each, pieces, pieces_left}

abbrev pub before : ℕ → List ℕ → ℕ
before byte text = prefix_len (λ b. not (b == byte)) text

pub one_piece : (byte : ℕ) (text : List ℕ) → pieces byte text ≡ take (before byte text) text ∷ pieces_left byte (behind (drop (before byte text) text))
one_piece byte [] = refl
one_piece byte (x ∷ xs) = go (x == byte) (one_piece byte xs)
  where
    go : (b : Bool) → pieces byte xs ≡ take (before byte xs) xs ∷ pieces_left byte (behind (drop (before byte xs) xs))
        → cond b ([] ∷ pieces byte xs) (onto_first x (pieces byte xs))
        ≡ take (cond (not b) (1 + before byte xs) 0) (x ∷ xs) ∷ pieces_left byte (behind (drop (cond (not b) (1 + before byte xs) 0) (x ∷ xs)))
    go true h = refl
    go false h =
        let e : 1 + before byte xs ≡ suc (before byte xs) = omega arith in
        subst (λ n. onto_first x (pieces byte xs) ≡ take n (x ∷ xs) ∷ pieces_left byte (behind (drop n (x ∷ xs)))) (sym e) (ap (onto_first x) h)

-- what is read of a front, and then of the rest
abbrev pub after : {B : Type 0} → List B → Option (List B) → Option (List B)
after front None = None
after front (Some more) = Some (front ++ more)

pub one_more : {A B : Type 0} (read : A → Option B) (front : List B) (x : A) (xs : List A) (y : B) → read x ≡ Some y
    → after front (each read (x ∷ xs)) ≡ after (front ++ y ∷ []) (each read xs)
one_more read front x xs y is =
    ap (λ r. after front (option_and_then (λ z. option_map (λ ys. z ∷ ys) (each read xs)) r)) is ∙ go (each read xs)
  where
    go : (rest : _) → after front (option_map (λ ys. y ∷ ys) rest) ≡ after (front ++ y ∷ []) rest
    go None = refl
    go (Some more) = ap Some (sym (append_assoc front (y ∷ []) more))

pub none_there : {A B : Type 0} (read : A → Option B) (front : List B) (x : A) (xs : List A) → read x ≡ None → after front (each read (x ∷ xs)) ≡ None
none_there read front x xs is =
    ap (λ r. after front (option_and_then (λ z. option_map (λ ys. z ∷ ys) (each read xs)) r)) is

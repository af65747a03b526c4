-- What stands before what is added stays as it is.
use Rattle.std.proofs.Common.{◌≡◌, ◌<◌, ◌≤◌, ℕ, zero, suc, ◌+◌, List, [], ◌∷◌, ◌++◌, length, take, get_or, refl, ap, ◌∙◌, arith, length-append}
use Rattle.message_lists.specs.Packed.{Grows, piece}

pub grown_length : {X : Type 0} (xs ys : List X) → Grows xs ys → length xs ≤ length ys
grown_length xs ys (more, is) = let e = ap length is ∙ length-append xs more in omega arith

-- ---- items and pieces

take-within : {X : Type 0} (n : ℕ) (xs ys : List X) → n ≤ length xs → take n (xs ++ ys) ≡ take n xs
take-within zero xs ys low = refl
take-within (suc n) [] ys low = absurd (omega arith)
take-within (suc n) (x ∷ xs) ys low = ap (λ zs. x ∷ zs) (take-within n xs ys (omega arith))

piece-within : {X : Type 0} (at len : ℕ) (xs ys : List X) → at + len ≤ length xs
    → piece (xs ++ ys) at len ≡ piece xs at len
piece-within zero len xs ys low = take-within len xs ys (omega (arith, low))
piece-within (suc at) len [] ys low = absurd (omega (arith, low))
piece-within (suc at) len (x ∷ xs) ys low = piece-within at len xs ys (omega (arith, low))

pub grown_piece : {X : Type 0} (xs ys : List X) (at len : ℕ) → Grows xs ys → at + len ≤ length xs
    → piece ys at len ≡ piece xs at len
grown_piece xs ys at len (more, is) low = ap (λ zs. piece zs at len) is ∙ piece-within at len xs more low

item-within : {X : Type 0} (n : ℕ) (xs ys : List X) (d : X) → n < length xs
    → get_or (xs ++ ys) n d ≡ get_or xs n d
item-within n [] ys d low = absurd (omega arith)
item-within zero (x ∷ xs) ys d low = refl
item-within (suc n) (x ∷ xs) ys d low = item-within n xs ys d (omega arith)

pub grown_item : {X : Type 0} (xs ys : List X) (n : ℕ) (d : X) → Grows xs ys → n < length xs
    → get_or ys n d ≡ get_or xs n d
grown_item xs ys n d (more, is) low = ap (λ zs. get_or zs n d) is ∙ item-within n xs more d low

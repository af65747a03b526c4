-- A text is what comes before a match, the match, and what comes after it.
use Rattle.std.proofs.Common.{ℕ, ◌≡◌, List, ◌++◌, take, drop, sym, take-append-drop}
use Rattle.std.specs.Str.Pattern.{HasTextAt}

pub around : (n s front rest : List ℕ) (i j : ℕ) → HasTextAt n s i j → front ≡ take i s → rest ≡ drop j s
    → s ≡ front ++ (n ++ rest)
around n s front rest i j at is_front is_rest = rw (is_front, is_rest, sym at.split) (sym (take-append-drop i s))

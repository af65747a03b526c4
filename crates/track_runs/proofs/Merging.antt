-- Ends of records that are merged, place by place.
use Rattle.std.proofs.Common.{◌≡◌, ◌∙◌, ◌+◌, ℕ, zero, suc, Bool, false, List, [], ◌∷◌, ◌++◌, drop, refl, sym, ap, arith}
use Rattle.std.proofs.lemmas.List.{append_assoc}
use Rattle.track_report.specs.declared.ending.RecordEnd.{RecordEnd}
use Rattle.track_runs.specs.Steps.{merged, next_end}

-- one item less of what is left
one_less : {X : Type 0} (xs : List X) (k : ℕ) → drop 1 (drop k xs) ≡ drop (k + 1) xs
one_less xs zero = refl
one_less [] (suc k) = let next : suc k + 1 ≡ suc (k + 1) = omega arith in rw next refl
one_less (x ∷ xs) (suc k) = let next : suc k + 1 ≡ suc (k + 1) = omega arith in rw next (one_less xs k)

module _ (attempt : ℕ) (acked : List Bool) (later : List RecordEnd) (place : ℕ) (ends new : List RecordEnd) where
  pub merged_later : (b : Bool) → b ≡ false → new ≡ ends ++ next_end attempt (drop place later) ∷ [] → new ++ merged attempt acked (drop (place + 1) later) ≡ ends ++ merged attempt (b ∷ acked) (drop place later)
  merged_later b is more =
      ap (λ es. es ++ merged attempt acked (drop (place + 1) later)) more
      ∙ append_assoc ends (next_end attempt (drop place later) ∷ []) (merged attempt acked (drop (place + 1) later))
      ∙ ap (λ es. ends ++ next_end attempt (drop place later) ∷ merged attempt acked es) (sym (one_less later place))
      ∙ ap (λ c. ends ++ merged attempt (c ∷ acked) (drop place later)) (sym is)

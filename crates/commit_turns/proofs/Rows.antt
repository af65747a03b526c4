-- Pending attempts of transactions in a row.
use Rattle.std.proofs.Common.{◌≡◌, ℕ, ◌+◌, ◌<◌, ◌≤◌, inl, inr, List, [], ◌∷◌, ◌++◌, length, subst, ◌∙◌, arith}
use Rattle.std.specs.List.{AllByRecursion}
use Rattle.std.proofs.lemmas.Bool.{cases_eq}
use Rattle.commit_turns.specs.declared.wait.Wait.{Wait}
use Rattle.commit_turns.specs.Kept.{AreInRow}
use Rattle.commit_turns.proofs.Tallies.{own-itself, tally}

-- those before one, and those behind it
pub row_before : (next : ℕ) (before behind : List Wait) → AreInRow next (before ++ behind) → AreInRow next before
row_before next [] behind row = tt
row_before next (w ∷ before) behind row = (row.0, row_before (next + 1) before behind row.1)

pub row_at : (next : ℕ) (before behind : List Wait) (w : Wait) → AreInRow next (before ++ w ∷ behind) → w.root.txid ≡ next + length before
row_at next [] behind w row = let e = row.0 in omega arith
row_at next (x ∷ before) behind w row = let e = row_at (next + 1) before behind w row.1 in omega arith

pub row_behind : (next : ℕ) (before behind : List Wait) → AreInRow next (before ++ behind) → AreInRow (next + length before) behind
row_behind next [] behind row = subst (λ (n : ℕ). AreInRow n behind) (omega arith) row
row_behind next (x ∷ before) behind row = subst (λ (n : ℕ). AreInRow n behind) (omega arith) (row_behind (next + 1) before behind row.1)

pub row_least : (next : ℕ) (ws : List Wait) → AreInRow next ws → AllByRecursion (λ (w : Wait). next ≤ w.root.txid) ws
row_least next ws row = from next next ws (omega arith) row
  where
    from : (least next : ℕ) (ws : List Wait) → least ≤ next → AreInRow next ws → AllByRecursion (λ (w : Wait). least ≤ w.root.txid) ws
    from least next [] low row = tt
    from least next (w ∷ ws) low row = ((let e = row.0 in omega arith), from least (next + 1) ws (omega arith) row.1)

pub row_most : (next : ℕ) (ws : List Wait) → AreInRow next ws → AllByRecursion (λ (w : Wait). w.root.txid < next + length ws) ws
row_most next ws row = to (next + length ws) next ws (omega arith) row
  where
    to : (most next : ℕ) (ws : List Wait) → next + length ws ≤ most → AreInRow next ws → AllByRecursion (λ (w : Wait). w.root.txid < most) ws
    to most next [] high row = tt
    to most next (w ∷ ws) high row = ((let e = row.0 in omega arith), to most (next + 1) ws (omega arith) row.1)

pub row_push : (next : ℕ) (ws : List Wait) (w : Wait) → AreInRow next ws → w.root.txid ≡ next + length ws → AreInRow next (ws ++ w ∷ [])
row_push next [] w row is = (omega arith, tt)
row_push next (x ∷ ws) w row is = (row.0, row_push (next + 1) ws w row.1 (omega arith))

-- each transaction up to the last has one
pub row_tally : (next k : ℕ) (ws : List Wait) → AreInRow next ws → next ≤ k → k < next + length ws → 1 ≤ tally k ws
row_tally next k [] row low high = absurd (omega arith)
row_tally next k (w ∷ ws) row low high =
    let e = row.0 in
    elim (cases_eq next k) [
      | inl on ↦ let o = own-itself k w.root.txid (e ∙ on) in omega arith
      | inr off ↦ let r = row_tally (next + 1) k ws row.1 (omega arith) (omega arith) in omega arith
    ]

-- The coordinator's account fits at first.
use Rattle.std.proofs.Common.{◌≡◌, ℕ, ◌+◌, ◌&&◌, nat_lt, Bool, true, false, cond, [], refl, ltb-true, arith}
use Rattle.tree_model.specs.topology_plan.Topology.{Topology}
use Rattle.tuple_account.specs.Ends.{first_desk}
use Rattle.tuple_account.specs.Fits.{Fits}
use Rattle.tuple_account.specs.Histories.{nothing}

none_between : (start n : ℕ) → ◌≡◌ {A = ℕ} 0 (cond (nat_lt start n && nat_lt n (start + 1)) 1 0)
none_between start n = cases (nat_lt start n) (nat_lt n (start + 1)) refl refl
  where
    cases : (b c : Bool) → nat_lt start n ≡ b → nat_lt n (start + 1) ≡ c → ◌≡◌ {A = ℕ} 0 (cond (b && c) 1 0)
    cases true true above below = let x = ltb-true start n above in let y = ltb-true n (start + 1) below in absurd (omega arith)
    cases true false above below = refl
    cases false c above below = refl

pub fits_first : (t : Topology) (start : ℕ) → Fits t (first_desk start) [] nothing
fits_first t start = record {
  begun = λ f. omega arith;
  numbered = λ root. none_between 0 root.attempt;
  heard = λ f. omega arith;
  unheard = tt;
  ends = tt;
  waits = tt;
  few = omega arith;
  once = none_between start;
}

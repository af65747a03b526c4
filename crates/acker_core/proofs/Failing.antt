-- The first failure of a list, from a place on.
use Rattle.std.proofs.Common.{◌≡◌, ◌≤◌, ℕ, zero, suc, ◌+◌, true, false, List, [], ◌∷◌, Some, length, drop, refl, ap, ◌∙◌, arith}
use Rattle.std.specs.Prelude.{slice_get}
use Rattle.tree_model.specs.declared.messages.AckMsg.{AckMsg}
use Rattle.tree_model.specs.declared.messages.AckMsg.TheVariants as msg
use Rattle.message_lists.specs.Packed.{failure_at}
use Rattle.acker_core.specs.Entries.{first_failed}
use Rattle.acker_core.specs.Failures.{fails, path_in}

pub not_there : (list : List AckMsg) (at : ℕ) (m : AckMsg) → slice_get list at ≡ Some m → fails m ≡ false
    → first_failed (drop (at + 1) list) ≡ first_failed (drop at list)
not_there list at m is isnt = let next : at + 1 ≡ suc at = omega arith in ap (λ n. first_failed (drop n list)) next ∙ by list at is
  where
    skips : (n : AckMsg) (rest : List AckMsg) → n ≡ m → first_failed rest ≡ first_failed (n ∷ rest)
    skips (msg.Init i) rest same = refl
    skips (msg.Done d) rest same = refl
    skips (msg.Failed f) rest same = let wrong : true ≡ false = ap fails same ∙ isnt in cc

    by : (all : List AckMsg) (k : ℕ) → slice_get all k ≡ Some m → first_failed (drop (suc k) all) ≡ first_failed (drop k all)
    by [] k here = cc
    by (n ∷ all) zero here = skips n all cc
    by (n ∷ all) (suc k) here = by all k here

pub is_there : (list : List AckMsg) (at : ℕ) (m : AckMsg) → slice_get list at ≡ Some m → fails m ≡ true
    → first_failed (drop at list) ≡ path_in (failure_at list at)
is_there list at m is ends_it = by list at is
  where
    ends : (n : AckMsg) (rest : List AckMsg) → n ≡ m → first_failed (n ∷ rest) ≡ path_in (failure_at (n ∷ rest) 0)
    ends (msg.Init i) rest same = let wrong : false ≡ true = ap fails same ∙ ends_it in cc
    ends (msg.Done d) rest same = let wrong : false ≡ true = ap fails same ∙ ends_it in cc
    ends (msg.Failed f) rest same = refl

    by : (all : List AckMsg) (k : ℕ) → slice_get all k ≡ Some m → first_failed (drop k all) ≡ path_in (failure_at all k)
    by [] k here = cc
    by (n ∷ all) zero here = ends n all cc
    by (n ∷ all) (suc k) here = by all k here

pub none_behind : (list : List AckMsg) (at : ℕ) → length list ≤ at → first_failed (drop at list) ≡ first_failed []
none_behind [] zero past = refl
none_behind [] (suc at) past = refl
none_behind (m ∷ list) zero past = absurd (omega arith)
none_behind (m ∷ list) (suc at) past = none_behind list at (omega arith)

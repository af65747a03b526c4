-- An attempt is committed, or aborts, or is dropped.
use Rattle.std.proofs.Common.{◌≡◌, ℕ, ◌+◌, ◌&&◌, Bool, true, false, cond, refl}
use Rattle.attempt_fates.specs.declared.fates.End.{End}
use Rattle.attempt_fates.specs.declared.fates.End.TheVariants.{Committed, Failed, TimedOut, Coincided, CommitFailed, Dropped}
use Rattle.attempt_fates.specs.Fates.{is_abort, is_committed, is_dropped}

false_true : false ≡ true → ⊥
false_true e = cc

true_false : true ≡ false → ⊥
true_false e = cc

pub not_committed : (e : End) → is_abort e ≡ true → is_committed e ≡ false
not_committed (Committed list) is = absurd (false_true is)
not_committed (Failed path) is = refl
not_committed TimedOut is = refl
not_committed (Coincided list) is = refl
not_committed (CommitFailed component part before after) is = refl
not_committed (Dropped by) is = refl

pub not_dropped : (e : End) → is_abort e ≡ true → is_dropped e ≡ false
not_dropped (Committed list) is = refl
not_dropped (Failed path) is = refl
not_dropped TimedOut is = refl
not_dropped (Coincided list) is = refl
not_dropped (CommitFailed component part before after) is = refl
not_dropped (Dropped by) is = absurd (false_true is)

pub no_abort : (e : End) → is_committed e ≡ true → is_abort e ≡ false
no_abort (Committed list) is = refl
no_abort (Failed path) is = absurd (false_true is)
no_abort TimedOut is = absurd (false_true is)
no_abort (Coincided list) is = absurd (false_true is)
no_abort (CommitFailed component part before after) is = absurd (false_true is)
no_abort (Dropped by) is = refl

pub no_drop : (e : End) → is_committed e ≡ true → is_dropped e ≡ false
no_drop (Committed list) is = refl
no_drop (Failed path) is = refl
no_drop TimedOut is = refl
no_drop (Coincided list) is = refl
no_drop (CommitFailed component part before after) is = refl
no_drop (Dropped by) is = absurd (false_true is)

-- one that is not committed aborts or is dropped
pub one_way : (e : End) (b : Bool) → is_committed e ≡ false → cond {A = ℕ} b 1 0 ≡ cond {A = ℕ} (b && is_abort e) 1 0 + cond {A = ℕ} (b && is_dropped e) 1 0
one_way e false is = refl
one_way (Committed list) true is = absurd (true_false is)
one_way (Failed path) true is = refl
one_way TimedOut true is = refl
one_way (Coincided list) true is = refl
one_way (CommitFailed component part before after) true is = refl
one_way (Dropped by) true is = refl

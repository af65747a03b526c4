-- How many attempts of a transaction were begun, and fell.
use Rattle.std.proofs.Common.{◌≡◌, ◌≢◌, ℕ, ◌+◌, ◌==◌, Bool, true, false, cond, refl, ap, ◌∙◌, eqb-true, eq-eqb, arith}
use Rattle.std.specs.Cmp.{nat_eq_equiv}
use Rattle.std.specs.FinMap as fin_map
use Rattle.replay_pending.proofs.Counting as flight
use Rattle.std.proofs.lemmas.Bool.{false_from_ne_true}
use Rattle.replay_pending.specs.InFlight.{Tries, tried, with_begun, with_aborted}
use Rattle.replay_pending.specs.declared.attempts.Tried.{Tried}

tried-insert : (tries : Tries) (k txid : ℕ) (x : Tried) → tried txid (fin_map.insert tries k x) ≡ cond (k == txid) x (tried txid tries)
tried-insert tries k txid x = flight.tried-insert tries k x txid ∙ ap (λ (b : Bool). cond b x (tried txid tries)) (nat_eq_equiv.symm txid k)

pub tried-own : (tries : Tries) (k txid : ℕ) (x : Tried) → k ≡ txid → tried txid (fin_map.insert tries k x) ≡ x
tried-own tries k txid x same = tried-insert tries k txid x ∙ ap (λ (b : Bool). cond b x (tried txid tries)) (eq-eqb k txid same)

pub tried-other : (tries : Tries) (k txid : ℕ) (x : Tried) → k ≢ txid → tried txid (fin_map.insert tries k x) ≡ tried txid tries
tried-other tries k txid x differ =
    tried-insert tries k txid x ∙ ap (λ (b : Bool). cond b x (tried txid tries)) (false_from_ne_true (k == txid) (λ on. differ (eqb-true k txid on)))

-- a fall leaves how many were begun
pub begun-aborted : (tries : Tries) (k txid : ℕ) → (tried txid (with_aborted k tries)).begun ≡ (tried txid tries).begun
begun-aborted tries k txid = ap (λ (x : Tried). x.begun) (tried-insert tries k txid _) ∙ by (k == txid) refl
  where
    by : (b : Bool) → (k == txid) ≡ b → (cond b (record { begun = (tried k tries).begun; aborted = (tried k tries).aborted + 1 }) (tried txid tries)).begun ≡ (tried txid tries).begun
    by true on = ap (λ (j : ℕ). (tried j tries).begun) (eqb-true k txid on)
    by false off = refl

-- and counts one of its transaction
pub aborted-aborted : (tries : Tries) (k txid : ℕ) → (tried txid (with_aborted k tries)).aborted ≡ (tried txid tries).aborted + cond (k == txid) 1 0
aborted-aborted tries k txid = ap (λ (x : Tried). x.aborted) (tried-insert tries k txid _) ∙ by (k == txid) refl
  where
    by : (b : Bool) → (k == txid) ≡ b → (cond b (record { begun = (tried k tries).begun; aborted = (tried k tries).aborted + 1 }) (tried txid tries)).aborted ≡ (tried txid tries).aborted + cond b 1 0
    by true on = ap (λ (j : ℕ). (tried j tries).aborted + 1) (eqb-true k txid on)
    by false off = omega arith

-- a begin leaves how many fell
pub aborted-begun : (tries : Tries) (k n txid : ℕ) → (tried txid (with_begun k n tries)).aborted ≡ (tried txid tries).aborted
aborted-begun tries k n txid = ap (λ (x : Tried). x.aborted) (tried-insert tries k txid _) ∙ by (k == txid) refl
  where
    by : (b : Bool) → (k == txid) ≡ b → (cond b (record { begun = n; aborted = (tried k tries).aborted }) (tried txid tries)).aborted ≡ (tried txid tries).aborted
    by true on = ap (λ (j : ℕ). (tried j tries).aborted) (eqb-true k txid on)
    by false off = refl

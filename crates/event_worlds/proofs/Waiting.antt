-- What waits in changed boxes and outboxes.
use Rattle.std.proofs.Common.{◌≡◌, ◌≢◌, ◌<◌, ℕ, zero, suc, ◌+◌, ◌==◌, Bool, true, false, cond, List, [], ◌∷◌, length, get_or, set, slice_get, drop, refl, ap, eqb-true, eq-eqb, arith}
use Rattle.std.specs.List.{AllByRecursion}
use Rattle.std.specs.Option.{option_to_list}
use Rattle.commit_order.specs.acker_core.declared.verdict.Verdict.{Verdict}
use Rattle.commit_order.specs.counted_items.Weights.{weigh}
use Rattle.event_worlds.specs.Accounted.{weigh_ackers, weigh_tasks}
use Rattle.event_worlds.specs.Worlds.{AckerSide, TaskSide, drew}
use Rattle.commit_order.specs.tree_model.declared.messages.AckMsg.{AckMsg}
use Rattle.commit_order.specs.tree_model.declared.messages.Parcel.TheVariants.{ToTask, ToAcker}
use Rattle.commit_order.specs.tree_model.declared.messages.Tuple.{Tuple}
use Rattle.commit_order.specs.tuple_account.Histories.{Packet, of_parcel, of_verdict, weigh_parcels}

-- ---- lists with a changed item

module _ {X : Type 0} where
  pub weigh-set : (f : X → ℕ) (xs : List X) (i : ℕ) (y d : X) → i < length xs → weigh f (set xs i y) + f (get_or xs i d) ≡ weigh f xs + f y
  weigh-set f [] i y d below = absurd (omega arith)
  weigh-set f (x ∷ xs) zero y d below = omega arith
  weigh-set f (x ∷ xs) (suc i) y d below = let rest = weigh-set f xs i y d (omega arith) in omega arith

  pub each-set : (P : X → Type 0) (xs : List X) (i : ℕ) (y : X) → AllByRecursion P xs → P y → AllByRecursion P (set xs i y)
  each-set P [] i y all here = tt
  each-set P (x ∷ xs) zero y all here = (here, all.1)
  each-set P (x ∷ xs) (suc i) y all here = (all.0, each-set P xs i y all.1 here)

  pub each-at : (P : X → Type 0) (xs : List X) (i : ℕ) (d : X) → AllByRecursion P xs → P d → P (get_or xs i d)
  each-at P [] i d all none = none
  each-at P (x ∷ xs) zero d all none = all.0
  each-at P (x ∷ xs) (suc i) d all none = each-at P xs i d all.1 none

  -- the front, and the rest
  pub weigh-front : (f : X → ℕ) (xs : List X) → weigh f (option_to_list (slice_get xs 0)) + weigh f (drop 1 xs) ≡ weigh f xs
  weigh-front f [] = refl
  weigh-front f (x ∷ xs) = omega arith

-- ---- sides

-- what waits for a task, and in its outbox
abbrev pub weigh_task : (Packet → ℕ) → ℕ → TaskSide → ℕ
weigh_task f n side = weigh (λ (tuple : Tuple). f (of_parcel (ToTask n tuple))) side.inbox + weigh_parcels f side.outbox

-- the same of an acker
abbrev pub weigh_acker : (Packet → ℕ) → ℕ → AckerSide → ℕ
weigh_acker f n side = weigh (λ (m : AckMsg). f (of_parcel (ToAcker n m))) side.inbox + weigh (λ (v : Verdict). f (of_verdict v)) side.outbox

tasks-from : (f : Packet → ℕ) (a : ℕ) (sides : List TaskSide) (i n : ℕ) (y d : TaskSide) → i < length sides → n ≡ a + i
    → weigh_tasks f a (set sides i y) + weigh_task f n (get_or sides i d) ≡ weigh_tasks f a sides + weigh_task f n y
tasks-from f a [] i n y d below at = absurd (omega arith)
tasks-from f a (x ∷ xs) zero n y d below at = let e : n ≡ a = omega arith in rw e (omega arith)
tasks-from f a (x ∷ xs) (suc i) n y d below at = let rest = tasks-from f (a + 1) xs i n y d (omega arith) (omega arith) in omega arith

ackers-from : (f : Packet → ℕ) (a : ℕ) (sides : List AckerSide) (i n : ℕ) (y d : AckerSide) → i < length sides → n ≡ a + i
    → weigh_ackers f a (set sides i y) + weigh_acker f n (get_or sides i d) ≡ weigh_ackers f a sides + weigh_acker f n y
ackers-from f a [] i n y d below at = absurd (omega arith)
ackers-from f a (x ∷ xs) zero n y d below at = let e : n ≡ a = omega arith in rw e (omega arith)
ackers-from f a (x ∷ xs) (suc i) n y d below at = let rest = ackers-from f (a + 1) xs i n y d (omega arith) (omega arith) in omega arith

-- a task has changed
pub tasks-set : (f : Packet → ℕ) (sides : List TaskSide) (n : ℕ) (y d : TaskSide) → n < length sides
    → weigh_tasks f 0 (set sides n y) + weigh_task f n (get_or sides n d) ≡ weigh_tasks f 0 sides + weigh_task f n y
tasks-set f sides n y d below = tasks-from f 0 sides n n y d below (omega arith)

-- an acker has
pub ackers-set : (f : Packet → ℕ) (sides : List AckerSide) (n : ℕ) (y d : AckerSide) → n < length sides
    → weigh_ackers f 0 (set sides n y) + weigh_acker f n (get_or sides n d) ≡ weigh_ackers f 0 sides + weigh_acker f n y
ackers-set f sides n y d below = ackers-from f 0 sides n n y d below (omega arith)

-- ---- counts of words

pub drew-none : (counts : ℕ → ℕ) (n count s : ℕ) → count ≡ 0 → drew n count counts s ≡ counts s
drew-none counts n count s none = cases (s == n)
  where
    cases : (b : Bool) → cond b (counts s + count) (counts s) ≡ counts s
    cases true = omega arith
    cases false = refl

pub drew-other : (counts : ℕ → ℕ) (n count s : ℕ) → s ≢ n → drew n count counts s ≡ counts s
drew-other counts n count s other = cases (s == n) refl
  where
    cases : (b : Bool) → (s == n) ≡ b → cond b (counts s + count) (counts s) ≡ counts s
    cases true is = absurd (other (eqb-true s n is))
    cases false is = refl

pub drew-here : (counts : ℕ → ℕ) (n count : ℕ) → drew n count counts n ≡ counts n + count
drew-here counts n count = let e : (n == n) ≡ true = eq-eqb n n refl in ap (λ (b : Bool). cond b (counts n + count) (counts n)) e

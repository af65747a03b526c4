-- Where nobody did anything, nothing waits.
use Rattle.std.proofs.Common.{◌≡◌, ◌<◌, ◌≤◌, ◌+◌, ◌⊎◌, inl, inr, ℕ, zero, suc, [], refl, ap, arith}
use Rattle.event_worlds.specs.Worlds.{World, acker_at, task_at}
use Rattle.stretch_worlds.specs.Holding.{GoesOn, IsBlocked, IsHeldUp, for_acker, for_task}
use Rattle.event_worlds.specs.topology_plan.Topology.{Topology, component_of, tasks_in_all}
use Rattle.event_worlds.specs.tree_model.declared.messages.Parcel.{Parcel}
use Rattle.event_worlds.specs.tree_model.declared.messages.Parcel.TheVariants.{ToTask, ToAcker}
use Rattle.event_worlds.specs.tuple_account.Histories.{Packet}

-- more than each of the first so many
abbrev most : (ℕ → ℕ) → ℕ → ℕ
most f zero = 0
most f (suc n) = most f n + (f n + 1)

below_most : (f : ℕ → ℕ) (n k : ℕ) → k < n → f k < most f n
below_most f zero k less = absurd (omega arith)
below_most f (suc n) k less = by (last_or n k less) (λ under. below_most f n k under)
  where
    last_or : (m i : ℕ) → i < suc m → (i < m) ⊎ (i ≡ m)
    last_or zero zero under = inr refl
    last_or zero (suc i) under = absurd (omega arith)
    last_or (suc m) zero under = inl (omega arith)
    last_or (suc m) (suc i) under = elim (last_or m i (omega arith)) [ inl less ↦ inl (omega arith) | inr same ↦ inr (ap suc same) ]

    by : ((k < n) ⊎ (k ≡ n)) → (k < n → f k < most f n) → f k < most f (suc n)
    by (inl under) later = let rest = later under in let d : most f (suc n) ≡ most f n + (f n + 1) = refl in omega arith
    by (inr same) later = let e = ap f same in let d : most f (suc n) ≡ most f n + (f n + 1) = refl in omega arith

module _ (t : Topology) (rank : ℕ → ℕ) (held : (Packet → ℕ) → ℕ) (w : World) (up : IsHeldUp t rank held w) where
  pub acker_idle : (n : ℕ) → n < t.ackers → ((acker_at n w).outbox ≡ []) × (held (for_acker n) ≡ 0)
  acker_idle n there = elim (up.ackers n there).is [
    | inl idle ↦ idle
    | inr waits ↦ absurd (waits up.verdicts)
  ]

  abbrev rank_at : ℕ → ℕ
  rank_at n = rank (component_of t n)

  abbrev top : ℕ
  top = most rank_at (tasks_in_all t)

  -- those of great ranks first
  idle_above : (k n : ℕ) → n < tasks_in_all t → top ≤ rank_at n + k → ((task_at t n w).outbox ≡ []) × (held (for_task n) ≡ 0)
  idle_above zero n there high = absurd (let b = below_most rank_at (tasks_in_all t) n there in omega arith)
  idle_above (suc k) n there high = elim (up.tasks n there).is [
    | inl idle ↦ idle
    | inr back ↦ absurd (blocked back.0 back.1 back.2 (λ m less deeper. (idle_above k m less (omega arith)).1))
  ]
    where
      blocked : (parcel : Parcel) → GoesOn t rank n parcel → IsBlocked held parcel → ((m : ℕ) → m < tasks_in_all t → rank_at n < rank_at m → held (for_task m) ≡ 0) → ⊥
      blocked (ToTask m tuple) goes full empty = full (empty m goes.0 goes.1)
      blocked (ToAcker a m) goes full empty = full (acker_idle a goes).1

  pub task_idle : (n : ℕ) → n < tasks_in_all t → ((task_at t n w).outbox ≡ []) × (held (for_task n) ≡ 0)
  task_idle n there = idle_above top n there (omega arith)

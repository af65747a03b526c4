-- Entries that rotate: after as many rotations as there are buckets nothing is left.
use Rattle.std.proofs.Common.{◌≡◌, ◌≤◌, ◌<◌, ℕ, zero, suc, ◌+◌, ◌-◌, Bool, true, false, cond, nat_lt, List, [], ◌∷◌, sym, refl, ap, ◌∙◌, arith}
use Rattle.std.specs.Prelude.{min}
use Rattle.std.specs.List.{AllByRecursion}
use Rattle.std.proofs.lemmas.Bool.Decides.{nat_tests}
use Rattle.event_worlds.specs.Worlds.{AckerSide, aged, counted_up}
use Rattle.event_worlds.specs.rotating_ledger.Held.{Held, rotated}
use Rattle.event_worlds.specs.tree_model.declared.messages.AckMsg.{AckMsg}

-- an entry was there for so many rotations at least, and is still within its buckets
record HasAged (buckets n : ℕ) (h : Held (List AckMsg)) : Type 0 where
  least : n ≤ h.age
  within : 1 ≤ n → h.age < buckets

one_more : (buckets n : ℕ) (hs : List (Held (List AckMsg))) → AllByRecursion (HasAged buckets n) hs → AllByRecursion (HasAged buckets (suc n)) (rotated buckets hs)
one_more buckets n [] all = tt
one_more buckets n (h ∷ hs) all = by (nat_lt (h.age + 1) buckets) refl (one_more buckets n hs all.1)
  where
    by : (b : Bool) → nat_lt (h.age + 1) buckets ≡ b → AllByRecursion (HasAged buckets (suc n)) (rotated buckets hs)
        → AllByRecursion (HasAged buckets (suc n)) (cond b (record h { age = h.age + 1 } ∷ rotated buckets hs) (rotated buckets hs))
    by true is rest = (record { least = let old = all.0.least in omega arith; within = λ some. let e : h.age + 1 < buckets = grind (arith, nat_tests) in e }, rest)
    by false is rest = rest

any : (buckets : ℕ) (hs : List (Held (List AckMsg))) → AllByRecursion (HasAged buckets 0) hs
any buckets [] = tt
any buckets (h ∷ hs) = (record { least = omega arith; within = λ some. absurd (omega arith) }, any buckets hs)

have_aged : (buckets n : ℕ) (hs : List (Held (List AckMsg))) → AllByRecursion (HasAged buckets n) (aged buckets n hs)
have_aged buckets zero hs = any buckets hs
have_aged buckets (suc n) hs = one_more buckets n (aged buckets n hs) (have_aged buckets n hs)

none_left : (buckets : ℕ) (hs : List (Held (List AckMsg))) → 1 ≤ buckets → AllByRecursion (HasAged buckets buckets) hs → hs ≡ []
none_left buckets [] some all = refl
none_left buckets (h ∷ hs) some all = absurd (let least = all.0.least in let within = all.0.within some in omega arith)

-- nothing comes of nothing
stays_none : (buckets k : ℕ) (hs : List (Held (List AckMsg))) → aged buckets buckets hs ≡ [] → aged buckets (k + buckets) hs ≡ []
stays_none buckets zero hs none = ap (λ (n : ℕ). aged buckets n hs) (let e : 0 + buckets ≡ buckets = omega arith in e) ∙ none
stays_none buckets (suc k) hs none =
    ap (λ (n : ℕ). aged buckets n hs) (let e : suc k + buckets ≡ suc (k + buckets) = omega arith in e) ∙ ap (rotated buckets) (stays_none buckets k hs none)

-- so more rotations than buckets are as many as buckets
pub aged_at_most : (buckets n : ℕ) (hs : List (Held (List AckMsg))) → 1 ≤ buckets → aged buckets (min n buckets) hs ≡ aged buckets n hs
aged_at_most buckets n hs some = by (nat_lt buckets n) refl
  where
    by : (b : Bool) → nat_lt buckets n ≡ b → aged buckets (min n buckets) hs ≡ aged buckets n hs
    by true is =
        let more : buckets < n = grind (arith, nat_tests) in
        let none = none_left buckets (aged buckets buckets hs) some (have_aged buckets buckets hs) in
        ap (λ (k : ℕ). aged buckets k hs) (let e : min n buckets ≡ buckets = omega arith in e)
        ∙ none
        ∙ sym (ap (λ (k : ℕ). aged buckets k hs) (let e : n ≡ n - buckets + buckets = omega arith in e) ∙ stays_none buckets (n - buckets) hs none)
    by false is =
        let few : n ≤ buckets = grind (arith, nat_tests) in
        ap (λ (k : ℕ). aged buckets k hs) (let e : min n buckets ≡ n = omega arith in e)

-- an acker that rotated so often has counted the ticks
pub counted_by : (buckets tick ticks : ℕ) (old now : AckerSide) → now ≡ record old { entries = aged buckets ticks old.entries } → ticks ≡ min (tick - old.counted) buckets → 1 ≤ buckets
    → record now { counted = tick } ≡ counted_up buckets tick old
counted_by buckets tick ticks old now is many some =
    ap (λ (s : AckerSide). record s { counted = tick }) is
    ∙ ap (λ hs. record old { entries = hs; counted = tick }) (ap (λ (k : ℕ). aged buckets k old.entries) many ∙ aged_at_most buckets (tick - old.counted) old.entries some)

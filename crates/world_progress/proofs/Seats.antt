-- Ackers' entries while none is dropped: one a root, at the root's acker, and young.
use Rattle.std.proofs.Common.{◌≡◌, ◌<◌, ◌≤◌, ℕ, zero, suc, ◌+◌, nat_lt, Bool, true, false, cond, List, [], ◌∷◌, ◌++◌, Option, None, Some, refl, sym, ap, ◌∙◌, arith}
use Rattle.std.specs.Prelude.{is_some}
use Rattle.std.specs.List.{AllByRecursion}
use Rattle.std.proofs.lemmas.Bool.{lt-ltb}
use Rattle.event_worlds.specs.acker_core.Entries.{list_with, met, told_of}
use Rattle.event_worlds.specs.counted_items.Weights.{weigh}
use Rattle.event_worlds.proofs.counted_items.Each.{each-append, each-weaker}
use Rattle.event_worlds.proofs.counted_items.Weighing.{weigh-append}
use Rattle.event_worlds.specs.Added.{lost}
use Rattle.event_worlds.specs.Worlds.{aged}
use Rattle.event_worlds.specs.rotating_ledger.Held.{Held, dropped, entered, held_at, rotated, settled, value_of, with_value, without}
use Rattle.event_worlds.specs.storm_values.declared.value.Root.{Root}
use Rattle.event_worlds.specs.topology_plan.Topology.{Topology}
use Rattle.event_worlds.specs.tree_model.declared.messages.AckMsg.{AckMsg}
use Rattle.event_worlds.specs.tree_model.Lists.{root_of}
use Rattle.event_worlds.specs.tuple_account.Histories.{acker_of}
use Rattle.event_worlds.specs.tuple_account.Stuck.{holds}
use Rattle.event_worlds.specs.tuple_tickets.Roots.{root_eq}
use Rattle.event_worlds.proofs.tuple_tickets.Roots.{root_itself, same_root}
use Rattle.world_progress.specs.Young.{AreYoung, IsYoung}

module _ (t : Topology) (n : ℕ) where
  -- ---- rotations

  module _ (a b : ℕ) (later : a < b) (short : b < t.buckets) where
    kept_all : (es : List (Held (List AckMsg))) → AllByRecursion (IsYoung t n a) es
        → AllByRecursion (IsYoung t n b) (rotated t.buckets es) × (dropped t.buckets es ≡ []) × ((root : Root) → weigh (holds root) (rotated t.buckets es) ≡ weigh (holds root) es)
    kept_all [] all = (tt, refl, λ root. refl)
    kept_all (e ∷ es) all = by (nat_lt (e.age + 1) t.buckets) (let y = all.0.0 in lt-ltb (e.age + 1) t.buckets (omega arith)) (kept_all es all.1)
      where
        by : (c : Bool) → c ≡ true → AllByRecursion (IsYoung t n b) (rotated t.buckets es) × (dropped t.buckets es ≡ []) × ((root : Root) → weigh (holds root) (rotated t.buckets es) ≡ weigh (holds root) es)
            → AllByRecursion (IsYoung t n b) (cond c (record e { age = e.age + 1 } ∷ rotated t.buckets es) (rotated t.buckets es))
            × (cond c (dropped t.buckets es) ((e.root, e.value) ∷ dropped t.buckets es) ≡ [])
            × ((root : Root) → weigh (holds root) (cond c (record e { age = e.age + 1 } ∷ rotated t.buckets es) (rotated t.buckets es)) ≡ weigh (holds root) (e ∷ es))
        by true is rest = (((let y = all.0.0 in omega arith, all.0.1), rest.0), rest.1, λ root. ap (λ (k : ℕ). holds root e + k) (rest.2 root))
        by false is rest = absurd (never is)
          where
            never : false ≡ true → ⊥
            never e = cc

    pub young-rotated : (es : List (Held (List AckMsg))) → AreYoung t n a es → AreYoung t n b (rotated t.buckets es) × (dropped t.buckets es ≡ [])
    young-rotated es young =
        let k = kept_all es young.each in (record { each = k.0; once = λ root. let w = k.2 root in let o = young.once root in omega arith }, k.1)

  pub young-more : (a b : ℕ) → a ≤ b → (es : List (Held (List AckMsg))) → AreYoung t n a es → AreYoung t n b es
  young-more a b more es young = record { each = each-weaker (IsYoung t n a) (IsYoung t n b) (λ e is. (let y = is.0 in omega arith, is.1)) es young.each; once = young.once }

  -- rotations before an entry is too old
  pub young-aged : (a k b : ℕ) → a + k ≤ b → b < t.buckets → (es : List (Held (List AckMsg))) → AreYoung t n a es → AreYoung t n b (aged t.buckets k es) × (lost t.buckets k es ≡ [])
  young-aged a zero b few short es young = (young-more a b (omega arith) es young, refl)
  young-aged a (suc k) b few short es young =
      let before = young-aged a k (a + k) (omega arith) (omega arith) es young in
      let now = young-rotated (a + k) b (omega arith) short (aged t.buckets k es) before.0 in
      (now.0, ap (λ (xs : List (Root × List AckMsg)). xs ++ dropped t.buckets (aged t.buckets k es)) before.1 ∙ now.1)

  -- ---- a message

  module _ (most : ℕ) (r : Root) (here : acker_of t r ≡ n) where
    -- with another value of a root
    with_young : (value : List AckMsg) (es : List (Held (List AckMsg))) → AllByRecursion (IsYoung t n most) es
        → AllByRecursion (IsYoung t n most) (with_value r es value) × ((root : Root) → weigh (holds root) (with_value r es value) ≡ weigh (holds root) es)
    with_young value [] all = (tt, λ root. refl)
    with_young value (e ∷ es) all = by (root_eq r e.root) (with_young value es all.1)
      where
        by : (c : Bool) → AllByRecursion (IsYoung t n most) (with_value r es value) × ((root : Root) → weigh (holds root) (with_value r es value) ≡ weigh (holds root) es)
            → AllByRecursion (IsYoung t n most) (cond c (record e { value = value } ∷ es) (e ∷ with_value r es value))
            × ((root : Root) → weigh (holds root) (cond c (record e { value = value } ∷ es) (e ∷ with_value r es value)) ≡ weigh (holds root) (e ∷ es))
        by true rest = ((all.0, all.1), λ root. refl)
        by false rest = ((all.0, rest.0), λ root. ap (λ (k : ℕ). holds root e + k) (rest.1 root))

    -- without a root
    without_young : (es : List (Held (List AckMsg))) → AllByRecursion (IsYoung t n most) es
        → AllByRecursion (IsYoung t n most) (without r es) × ((root : Root) → weigh (holds root) (without r es) ≤ weigh (holds root) es)
    without_young [] all = (tt, λ root. omega arith)
    without_young (e ∷ es) all = by (root_eq r e.root) (without_young es all.1)
      where
        by : (c : Bool) → AllByRecursion (IsYoung t n most) (without r es) × ((root : Root) → weigh (holds root) (without r es) ≤ weigh (holds root) es)
            → AllByRecursion (IsYoung t n most) (cond c es (e ∷ without r es)) × ((root : Root) → weigh (holds root) (cond c es (e ∷ without r es)) ≤ weigh (holds root) (e ∷ es))
        by true rest = (all.1, λ root. omega arith)
        by false rest = ((all.0, rest.0), λ root. let l = rest.1 root in omega arith)

    -- a root that has no entry
    none_held : (es : List (Held (List AckMsg))) → value_of r es ≡ None → (root : Root) → root ≡ r → weigh (holds root) es ≡ 0
    none_held [] none root same = refl
    none_held (e ∷ es) none root same = by (root_eq r e.root) refl none (λ later. none_held es later root same)
      where
        never : {X : Type 0} (x : X) → Some x ≡ None → ⊥
        never x e = cc

        off_on : false ≡ true → ⊥
        off_on e = cc

        turned : (c : Bool) → root_eq e.root root ≡ c → root_eq r e.root ≡ false → c ≡ false
        turned false is off = refl
        turned true is off = absurd (off_on (sym off ∙ root_itself r e.root (sym same ∙ sym (same_root e.root root is))))

        by : (c : Bool) → root_eq r e.root ≡ c → cond c (Some e.value) (value_of r es) ≡ None → (value_of r es ≡ None → weigh (holds root) es ≡ 0) → weigh (holds root) (e ∷ es) ≡ 0
        by true is found later = absurd (never e.value found)
        by false is found later =
            let rest = later found in let z : holds root e ≡ 0 = ap (λ (b : Bool). cond {A = ℕ} b 1 0) (turned (root_eq e.root root) refl is) in omega arith

    entered_young : (value : List AckMsg) (es : List (Held (List AckMsg))) (o : Option (List AckMsg)) → value_of r es ≡ o → AreYoung t n most es → AreYoung t n most (entered r o value es)
    entered_young value es None none young = record {
      each = each-append (IsYoung t n most) es (held_at 0 r value ∷ []) young.each ((omega arith, here), tt);
      once = λ root. by root (root_eq r root) refl;
    }
      where
        by : (root : Root) (c : Bool) → root_eq r root ≡ c → weigh (holds root) (es ++ held_at 0 r value ∷ []) ≤ 1
        by root true is =
            let a = weigh-append (holds root) es (held_at 0 r value ∷ []) in
            let z = none_held es none root (sym (same_root r root is)) in
            let one : holds root (held_at 0 r value) ≡ 1 = ap (λ (b : Bool). cond {A = ℕ} b 1 0) is in omega arith
        by root false is =
            let a = weigh-append (holds root) es (held_at 0 r value ∷ []) in
            let o = young.once root in
            let zero_here : holds root (held_at 0 r value) ≡ 0 = ap (λ (b : Bool). cond {A = ℕ} b 1 0) is in omega arith
    entered_young value es (Some old) some young =
        let w = with_young value es young.each in record { each = w.0; once = λ root. let e = w.1 root in let o = young.once root in omega arith }

    settled_young : (value : List AckMsg) (es : List (Held (List AckMsg))) (told : Bool) → AreYoung t n most es → AreYoung t n most (settled r (value_of r es) value es told)
    settled_young value es false young = entered_young value es (value_of r es) refl young
    settled_young value es true young =
        let w = without_young es young.each in record { each = w.0; once = λ root. let e = w.1 root in let o = young.once root in omega arith }

  pub young-met : (most : ℕ) (m : AckMsg) (es : List (Held (List AckMsg))) → acker_of t (root_of m) ≡ n → AreYoung t n most es → AreYoung t n most (met m es)
  young-met most m es here young = settled_young most (root_of m) here (list_with m es) es (is_some (told_of m es)) young

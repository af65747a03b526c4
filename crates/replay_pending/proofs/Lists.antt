-- Tests over lists of attempts in flight.
use Rattle.std.proofs.Common.{◌≡◌, ℕ, suc, ◌==◌, ◌≤◌, ◌<◌, Bool, true, false, cond, ◌&&◌, ◌||◌, Some, List, [], ◌∷◌, ◌++◌, length, length-append, filter, refl, ap, ◌∙◌, arith}
use Rattle.std.specs.List.{list_any}
use Rattle.std.proofs.lemmas.List.{length-map}
use Rattle.record_spans.specs.declared.span.Span.{Span}
use Rattle.storm_values.specs.declared.value.Root.{Root}
use Rattle.rotating_ledger.specs.Held.{root_eq}
use Rattle.rotating_ledger.proofs.RootLemmas.{root_eq-turned}
use Rattle.replay_pending.specs.declared.entry.Entry.{Entry}
use Rattle.replay_pending.specs.InFlight.{AreDistinct, AreFew, fresh, has_txid, is_of_root, is_pending, settle_with, settled}

pub true_false : true ≡ false → ⊥
true_false e = cc

pub either_false : (a b : Bool) → (a || b) ≡ false → (a ≡ false) × (b ≡ false)
either_false false b none = (refl, none)
either_false true b none = absurd (true_false none)

pub and_false : (b : Bool) → (b && false) ≡ false
and_false true = refl
and_false false = refl

pub none-filter : {X : Type 0} (P Q : X → Bool) (xs : List X) → list_any P xs ≡ false → list_any P (filter Q xs) ≡ false
none-filter P Q [] none = refl
none-filter P Q (x ∷ xs) none =
    let both = either_false (P x) (list_any P xs) none in
    cases (Q x) both.0 (none-filter P Q xs both.1)
  where
    cases : (b : Bool) → P x ≡ false → list_any P (filter Q xs) ≡ false → list_any P (cond b (x ∷ filter Q xs) (filter Q xs)) ≡ false
    cases true other rest = ap (λ c. c || list_any P (filter Q xs)) other ∙ rest
    cases false other rest = rest

length-filter : {X : Type 0} (P : X → Bool) (xs : List X) → length (filter P xs) ≤ length xs
length-filter P [] = omega arith
length-filter P (x ∷ xs) = cases (P x) (length-filter P xs)
  where
    cases : (b : Bool) → length (filter P xs) ≤ length xs → length (cond b (x ∷ filter P xs) (filter P xs)) ≤ suc (length xs)
    cases true less = omega arith
    cases false less = omega arith

module _ {L : Type 0} where
  -- ---- no root is pending twice

  pending-push : (q : Root) (es : List (Entry L)) (v : Entry L) → is_pending q es ≡ false → root_eq q v.root ≡ false
      → is_pending q (es ++ v ∷ []) ≡ false
  pending-push q [] v none other = ap (λ b. b || false) other
  pending-push q (e ∷ es) v none other =
      let both = either_false (root_eq q e.root) (is_pending q es) none in
      ap (λ b. b || is_pending q (es ++ v ∷ [])) both.0 ∙ pending-push q es v both.1 other

  distinct-push : (es : List (Entry L)) (v : Entry L) → AreDistinct es → is_pending v.root es ≡ false → AreDistinct (es ++ v ∷ [])
  distinct-push [] v are none = (refl, tt)
  distinct-push (e ∷ es) v are none =
      let both = either_false (root_eq v.root e.root) (is_pending v.root es) none in
      (pending-push e.root es v are.0 (root_eq-turned v.root e.root both.0), distinct-push es v are.1 both.1)

  distinct-filter : (P : Entry L → Bool) (es : List (Entry L)) → AreDistinct es → AreDistinct (filter P es)
  distinct-filter P [] are = tt
  distinct-filter P (e ∷ es) are = cases (P e) (none-filter (is_of_root e.root) P es are.0) (distinct-filter P es are.1)
    where
      cases : (b : Bool) → is_pending e.root (filter P es) ≡ false → AreDistinct (filter P es) → AreDistinct (cond b (e ∷ filter P es) (filter P es))
      cases true none rest = (none, rest)
      cases false none rest = rest

  -- a settled attempt has its root still
  pub settled-root : (root : Root) (list : L) (e : Entry L) → (settle_with root list e).root ≡ e.root
  settled-root root list e = by (root_eq root e.root)
    where
      by : (b : Bool) → (cond b (record e { settled = Some list }) e).root ≡ e.root
      by true = refl
      by false = refl

  pub pending-settled : (q root : Root) (list : L) (es : List (Entry L)) → is_pending q (settled root list es) ≡ is_pending q es
  pending-settled q root list [] = refl
  pending-settled q root list (e ∷ es) =
      ap (λ r. root_eq q r || is_pending q (settled root list es)) (settled-root root list e)
      ∙ ap (λ b. root_eq q e.root || b) (pending-settled q root list es)

  distinct-settled : (root : Root) (list : L) (es : List (Entry L)) → AreDistinct es → AreDistinct (settled root list es)
  distinct-settled root list [] are = tt
  distinct-settled root list (e ∷ es) are = (
    ap (λ r. is_pending r (settled root list es)) (settled-root root list e) ∙ pending-settled e.root root list es ∙ are.0,
    distinct-settled root list es are.1,
  )

  -- a root is not pending where its transaction is not
  fresh-pending : (root : Root) (es : List (Entry L)) → has_txid root.txid es ≡ false → is_pending root es ≡ false
  fresh-pending root [] none = refl
  fresh-pending root (e ∷ es) none =
      let both = either_false (root.txid == e.root.txid) (has_txid root.txid es) none in
      ap (λ b. (b && (root.attempt == e.root.attempt)) || is_pending root es) both.0 ∙ fresh-pending root es both.1

  -- ---- they stay few

  pub few-begun : (cap : ℕ) (es : List (Entry L)) (root : Root) (spans : List Span) (start : ℕ) → AreFew cap es → length es < cap → has_txid root.txid es ≡ false
      → AreFew cap (es ++ fresh root spans start ∷ [])
  few-begun cap es root spans start few room none = record {
    most = (let one : Entry L = fresh root spans start in let more = length-append es (one ∷ []) in omega arith);
    once = distinct-push es (fresh root spans start) few.once (fresh-pending root es none);
  }

  pub few-settled : (cap : ℕ) (es : List (Entry L)) (root : Root) (list : L) → AreFew cap es → AreFew cap (settled root list es)
  few-settled cap es root list few = record {
    most = (let same = length-map es (settle_with root list) in let most = few.most in omega arith);
    once = distinct-settled root list es few.once;
  }

  pub few-filter : (cap : ℕ) (es : List (Entry L)) (P : Entry L → Bool) → AreFew cap es → AreFew cap (filter P es)
  few-filter cap es P few = record {
    most = (let less = length-filter P es in let most = few.most in omega arith);
    once = distinct-filter P es few.once;
  }

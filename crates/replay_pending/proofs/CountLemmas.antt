-- The map of counts, by what the hashed map finds.
use Rattle.std.proofs.Common.{◌≡◌, ℕ, ◌+◌, ◌<◌, cond, Option, Some, None, List, [], ◌∷◌, refl, sym, ap, ◌∙◌, arith}
use Rattle.std.specs.Cmp.{nat_cmp_total, nat_eq_equiv, unsigned_tied}
use Rattle.std.specs.FinMap.{find, from_entries, get, get-from_entries, get-insert, insert, nat_cmp-IsAntisymmetric, same_map}
use Rattle.std.specs.Map.{lookup}
use Rattle.std.specs.Ordering.{nat_cmp, eq_by_cmp}
use Rattle.std.specs.Prelude.{nat_eq, unwrap_or}
use Rattle.replay_pending.specs.declared.attempts.Tried.{Tried}
use Rattle.replay_pending.specs.InFlight.{tried, with_aborted}

swapped : (k q : ℕ) → nat_eq k q ≡ eq_by_cmp nat_cmp q k
swapped k q = nat_eq_equiv.symm k q ∙ sym (unsigned_tied q k)

module _ {X : Type 0} where
  find-lookup : (q : ℕ) (es : List (ℕ × X)) → find nat_cmp q es ≡ lookup (nat_eq q) es
  find-lookup q [] = refl
  find-lookup q (e ∷ es) =
      ap (λ b. cond b (Some e.1) (find nat_cmp q es)) (unsigned_tied q e.0)
      ∙ ap (cond (nat_eq q e.0) (Some e.1)) (find-lookup q es)

  -- what the counts have at a key
  pub get-counts : (es : List (ℕ × X)) (q : ℕ) → get (from_entries {R = nat_cmp} es) q ≡ lookup (nat_eq q) es
  get-counts es q = get-from_entries nat_cmp_total es q ∙ find-lookup q es

  -- a hashed map that changed at a key alone
  pub counts-insert : (old new : List (ℕ × X)) (k : ℕ) (v : X)
      → ((q : ℕ) → lookup (nat_eq q) new ≡ cond (nat_eq k q) (Some v) (lookup (nat_eq q) old))
      → from_entries {R = nat_cmp} new ≡ insert (from_entries old) k v
  counts-insert old new k v is =
      same_map nat_cmp_total nat_cmp-IsAntisymmetric _ _
      (λ q. get-counts new q ∙ is q ∙ ap (λ b. cond b (Some v) (lookup (nat_eq q) old)) (swapped k q)
      ∙ ap (cond (eq_by_cmp nat_cmp q k) (Some v)) (sym (get-counts old q))
      ∙ sym (get-insert nat_cmp_total (from_entries old) k v q))

-- what the hashed map has at a transaction
pub stands : (es : List (ℕ × Tried)) (txid : ℕ) (o : Option Tried) → lookup (nat_eq txid) es ≡ o
    → tried txid (from_entries es) ≡ unwrap_or o (record { begun = 0; aborted = 0 })
stands es txid o is = ap (λ v. unwrap_or v (record { begun = 0; aborted = 0 })) (get-counts es txid ∙ is)

-- one without an attempt does not abort
pub stands_not : (es : List (ℕ × Tried)) (txid : ℕ) → lookup (nat_eq txid) es ≡ None
    → (tried txid (from_entries es)).aborted < (tried txid (from_entries es)).begun → ⊥
stands_not es txid is less =
    let begins : (tried txid (from_entries es)).begun ≡ 0 = ap (λ (t : Tried). t.begun) (stands es txid None is) in omega arith

-- what was found is written back, with one more that aborted
pub aborted_through : (old new : List (ℕ × Tried)) (txid : ℕ) (t more : Tried) → more ≡ record t { aborted = t.aborted + 1 }
    → lookup (nat_eq txid) old ≡ Some t
    → ((q : ℕ) → lookup (nat_eq q) new ≡ cond (nat_eq txid q) (Some more) (lookup (nat_eq q) old))
    → from_entries {R = nat_cmp} new ≡ with_aborted txid (from_entries old)
aborted_through old new txid t more same found is =
    counts-insert old new txid more is
    ∙ ap (insert (from_entries old) txid) same
    ∙ ap (λ (v : Tried). insert (from_entries old) txid (record { begun = v.begun; aborted = v.aborted + 1 })) (sym (stands old txid (Some t) found))

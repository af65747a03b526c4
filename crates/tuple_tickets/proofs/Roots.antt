-- Roots told apart.
use Rattle.std.proofs.Common.{◌≡◌, true, ◌==◌, refl, ap, eqb-true, eq-eqb}
use Rattle.storm_values.specs.declared.value.Root.{Root}
use Rattle.counted_items.proofs.Equality.{and-true}
use Rattle.tuple_tickets.specs.Roots.{root_eq}

pub same_root : (a b : Root) → root_eq a b ≡ true → a ≡ b
same_root a b e =
    let both = and-true (a.txid == b.txid) (a.attempt == b.attempt) e in
    let t = eqb-true a.txid b.txid both.0 in
    let n = eqb-true a.attempt b.attempt both.1 in λ i. record { txid = t i; attempt = n i }

pub root_itself : (a b : Root) → a ≡ b → root_eq a b ≡ true
root_itself a b same = rw (eq-eqb a.txid b.txid (ap (λ (r : Root). r.txid) same), eq-eqb a.attempt b.attempt (ap (λ (r : Root). r.attempt) same)) refl

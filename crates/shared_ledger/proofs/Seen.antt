-- What a seat has seen.
use Rattle.std.proofs.Common.{◌≡◌, ℕ, ◌==◌, ◌||◌, Bool, true, false, List, [], ◌∷◌, ◌++◌, sym, refl, ap, ◌∙◌}
use Rattle.shared_ledger.specs.declared.rule.Book.{Book}
use Rattle.shared_ledger.specs.Books.{is_among, has_seen, both_of}
use Rattle.shared_ledger.specs.Marking.{is_marked}

or_assoc : (a b c : Bool) → (a || (b || c)) ≡ ((a || b) || c)
or_assoc true b c = refl
or_assoc false b c = refl

among-append : (root : ℕ) (rs ss : List ℕ) → is_among root (rs ++ ss) ≡ (is_among root rs || is_among root ss)
among-append root [] ss = refl
among-append root (r ∷ rs) ss = ap (λ (t : Bool). (r == root) || t) (among-append root rs ss) ∙ or_assoc (r == root) (is_among root rs) (is_among root ss)

-- the marks of a joined seat
pub both_marked : (r : ℕ) (marks ms ns : List ℕ) (v u w : Book) → is_marked marks r ≡ (is_marked ms r || is_marked ns r)
    → is_marked ms r ≡ has_seen r v → is_marked ns r ≡ has_seen r u → w ≡ both_of v u → is_marked marks r ≡ has_seen r w
both_marked r marks ms ns v u w both first second is =
    both ∙ ap (λ (t : Bool). t || is_marked ns r) first ∙ ap (λ (t : Bool). has_seen r v || t) second
    ∙ sym (among-append r v.seen u.seen) ∙ sym (ap (has_seen r) is)

-- a root that a joined seat has seen one of the two has seen
pub seen_both : {P : Type 0} (root : ℕ) (v u : Book) → is_among root (v.seen ++ u.seen) ≡ true → (has_seen root v ≡ true → P) → (has_seen root u ≡ true → P) → P
seen_both {P} root v u is first second = by_case (has_seen root v) (has_seen root u) (sym (among-append root v.seen u.seen) ∙ is) first second
  where
    by_case : (a b : Bool) → (a || b) ≡ true → (a ≡ true → P) → (b ≡ true → P) → P
    by_case true b or first second = first refl
    by_case false b or first second = second or

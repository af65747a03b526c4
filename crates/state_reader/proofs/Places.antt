-- The totals of the states, with some of them changed.
use Rattle.std.proofs.Common.{◌≡◌, ◌<◌, ℕ, zero, suc, List, [], ◌∷◌, ◌++◌, map, length, set, get_or, ◌==◌, ◌&&◌, ◌≢◌, ◌⊎◌, inl, inr, Bool, true, false, cond, Option, Some, sym, refl, ap, ◌∙◌, arith}
use Rattle.std.proofs.lemmas.Bool.{cases_eq, eq-eqb, eqb-true, ne_eqb}
use Rattle.std.proofs.lemmas.List.{get_or-set_same, get_or-set_other, map-set, length-map}
use Rattle.std.proofs.lemmas.Option.{none-some}
use Rattle.std.specs.Cmp.Lexicographic.{bytes_decides, nat_list_eq_equiv}
use Rattle.std.specs.Map.{lookup, set_value}
use Rattle.std.specs.Option.{option_map}
use Rattle.std.specs.Str.{bytes_eq}
use Rattle.tree_model.specs.declared.write.Write.{Write}
use Rattle.state_reader.specs.declared.totals.Keys.{Keys}
use Rattle.state_reader.specs.declared.totals.Total.{Total}
use Rattle.state_reader.specs.declared.totals.Totals.{Totals}
use Rattle.state_reader.specs.Totals.{entries_at, grown, total_by}
use Rattle.state_reader.specs.Kept.{AreTotals, AreAlike, total_at}
use Rattle.state_reader.proofs.Folding.{value-push}

-- two tests of one key that stand beside each other
met : {X : Type 0} (b : Bool) (w old : X) (rest : Option X) → cond b (Some w) rest ≡ cond b (Some w) (cond b (Some old) rest)
met true w old rest = refl
met false w old rest = refl

module _ {X : Type 0} (key : List ℕ) (w : X) (at : List ℕ) where
  step : (held : List ℕ) (value : X) (es sets : List (List ℕ × X)) (b : Bool) → bytes_eq key held ≡ b
      → (b ≡ false → lookup (bytes_eq at) sets ≡ cond (bytes_eq key at) (Some w) (lookup (bytes_eq at) es))
      → lookup (bytes_eq at) (cond b ((held, w) ∷ es) ((held, value) ∷ sets)) ≡ cond (bytes_eq key at) (Some w) (cond (bytes_eq at held) (Some value) (lookup (bytes_eq at) es))
  step held value es sets true is more =
      ap (λ b. cond b (Some w) (lookup (bytes_eq at) es)) turned ∙ met (bytes_eq key at) w value (lookup (bytes_eq at) es)
      ∙ ap (λ b. cond (bytes_eq key at) (Some w) (cond b (Some value) (lookup (bytes_eq at) es))) (sym turned)
    where
      turned : bytes_eq at held ≡ bytes_eq key at
      turned = nat_list_eq_equiv.symm at held ∙ ap (λ bytes. bytes_eq bytes at) (sym ((bytes_decides key held).0 is))
  step held value es sets false is more =
      ap (cond (bytes_eq at held) (Some value)) (more refl) ∙ passed (bytes_eq key at) refl
    where
      passed : (b : Bool) → bytes_eq key at ≡ b → cond (bytes_eq at held) (Some value) (cond b (Some w) (lookup (bytes_eq at) es)) ≡ cond b (Some w) (cond (bytes_eq at held) (Some value) (lookup (bytes_eq at) es))
      passed true here = ap (λ b. cond b (Some value) (Some w)) (ap (λ bytes. bytes_eq bytes held) (sym ((bytes_decides key at).0 here)) ∙ is)
      passed false apart = refl

  -- a value that is written where the key is found
  pub lookup-set : (old : X) (es : List (List ℕ × X)) → lookup (bytes_eq key) es ≡ Some old → lookup (bytes_eq at) (set_value (bytes_eq key) es w) ≡ cond (bytes_eq key at) (Some w) (lookup (bytes_eq at) es)
  lookup-set old [] found = absurd (none-some old found)
  lookup-set old (e ∷ es) found = step e.0 e.1 es (set_value (bytes_eq key) es w) (bytes_eq key e.0) refl (λ apart. lookup-set old es (sym (ap (λ b. cond b (Some e.1) (lookup (bytes_eq key) es)) apart) ∙ found))

-- ---- the entries of a state

-- a new state has none
pub entries_at-push : (states : List Keys) (keys : Keys) → keys.totals.entries ≡ [] → (n : ℕ) → entries_at (states ++ keys ∷ []) n ≡ entries_at states n
entries_at-push [] keys none zero = none
entries_at-push [] keys none (suc n) = refl
entries_at-push (k ∷ states) keys none zero = refl
entries_at-push (k ∷ states) keys none (suc n) = entries_at-push states keys none n

pub entries_at-set : (states : List Keys) (at : ℕ) (keys : Keys) (n : ℕ) → at < length states → entries_at (set states at keys) n ≡ cond (at == n) keys.totals.entries (entries_at states n)
entries_at-set states at keys n within =
    ap (λ (all : List (List (List ℕ × Total))). get_or all n []) (map-set entries_in states at keys) ∙ on (cases_eq at n)
  where
    entries_in : Keys → List (List ℕ × Total)
    entries_in k = k.totals.entries

    all : List (List (List ℕ × Total))
    all = map entries_in states

    on : (at ≡ n) ⊎ (at ≢ n) → get_or (set all at keys.totals.entries) n [] ≡ cond (at == n) keys.totals.entries (get_or all n [])
    on (inl same) = rw (← same, eq-eqb at at refl) (get_or-set_same all at keys.totals.entries [] (rw length-map within))
    on (inr apart) = rw (ne_eqb at n apart) (get_or-set_other all at n keys.totals.entries [] (λ e. apart (sym e)))

pub entries_at-is : (states : List Keys) (at : ℕ) (keys : Keys) → at < length states → keys ≡ get_or states at keys → entries_at states at ≡ keys.totals.entries
entries_at-is [] at keys within is = absurd (omega arith)
entries_at-is (k ∷ states) zero keys within is = ap (λ (k : Keys). k.totals.entries) (sym is)
entries_at-is (k ∷ states) (suc at) keys within is = entries_at-is states at keys (omega arith) is

-- one more write
module _ (before : List Write) (write : Write) (old middle new : Totals) (place keys : Keys) (alike : AreAlike old middle) (within : write.state < length middle.states.items) (there : place ≡ get_or middle.states.items write.state place)
    (sets : new.states.items ≡ set middle.states.items write.state keys)
    (puts : (at : List ℕ) → lookup (bytes_eq at) keys.totals.entries ≡ cond (bytes_eq write.key at) (Some (grown (lookup (bytes_eq write.key) place.totals.entries) write.amount)) (lookup (bytes_eq at) place.totals.entries)) (are : AreTotals before old) where
  was : entries_at old.states.items write.state ≡ place.totals.entries
  was = sym (alike write.state) ∙ entries_at-is middle.states.items write.state place within there

  here : (state : ℕ) (key : List ℕ) → total_at new state key ≡ cond ((write.state == state) && bytes_eq write.key key) (Some (grown (total_at old write.state write.key) write.amount)) (total_at old state key)
  here state key =
      ap (λ states. lookup (bytes_eq key) (entries_at states state)) sets
      ∙ ap (lookup (bytes_eq key)) (entries_at-set middle.states.items write.state keys state within)
      ∙ on (write.state == state) refl
    where
      on : (b : Bool) → (write.state == state) ≡ b → lookup (bytes_eq key) (cond b keys.totals.entries (entries_at middle.states.items state)) ≡ cond (b && bytes_eq write.key key) (Some (grown (total_at old write.state write.key) write.amount)) (total_at old state key)
      on true own =
          puts key
          ∙ ap (λ es. cond (bytes_eq write.key key) (Some (grown (lookup (bytes_eq write.key) es) write.amount)) (lookup (bytes_eq key) es)) (sym was)
          ∙ ap (λ n. cond (bytes_eq write.key key) (Some (grown (total_at old write.state write.key) write.amount)) (total_at old n key)) (eqb-true write.state state own)
      on false other = ap (lookup (bytes_eq key)) (alike state)

  pub AreTotals-push : AreTotals (before ++ write ∷ []) new
  AreTotals-push by state key =
      ap (option_map (total_by by)) (here state key)
      ∙ value-push by before write state key (total_at old write.state write.key) (total_at old state key) (are by write.state write.key) (are by state key)

-- a write without memory
pub AreTotals-same : (before : List Write) (at : ℕ) (old middle new : Totals) (place keys : Keys) → AreAlike old middle → at < length middle.states.items → place ≡ get_or middle.states.items at place → new.states.items ≡ set middle.states.items at keys
    → keys.totals.entries ≡ place.totals.entries → AreTotals before old → AreTotals before new
AreTotals-same before at old middle new place keys alike within there sets same are by state key =
    ap (λ states. option_map (total_by by) (lookup (bytes_eq key) (entries_at states state))) sets
    ∙ ap (λ es. option_map (total_by by) (lookup (bytes_eq key) es)) (entries_at-set middle.states.items at keys state within ∙ on (at == state) refl)
    ∙ are by state key
  where
    on : (b : Bool) → (at == state) ≡ b → cond b keys.totals.entries (entries_at middle.states.items state) ≡ entries_at old.states.items state
    on true own = same ∙ sym (entries_at-is middle.states.items at place within there) ∙ alike at ∙ ap (entries_at old.states.items) (eqb-true at state own)
    on false other = alike state

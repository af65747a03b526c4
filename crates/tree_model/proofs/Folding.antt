-- What one more write does to the value of a key.
use Rattle.std.proofs.Common.{◌≡◌, ℕ, ◌==◌, Bool, true, false, ◌&&◌, cond, ℤ, List, [], ◌∷◌, ◌++◌, map, filter, fold, Option, Some, None, refl, sym, ap, ◌∙◌}
use Rattle.std.proofs.lemmas.Bool.{and_left, cond-true, cond-false}
use Rattle.std.proofs.lemmas.List.{map-append}
use Rattle.std.proofs.lemmas.List.Elements.{filter-append}
use Rattle.std.proofs.lemmas.List.Sums.{fold-append}
use Rattle.std.specs.Cmp.Lexicographic.{bytes_decides, nat_list_eq_equiv}
use Rattle.std.specs.List.{find}
use Rattle.std.specs.Option.{option_map}
use Rattle.std.specs.Str.{bytes_eq}
use Rattle.tree_model.specs.declared.write.Pair.{Pair}
use Rattle.tree_model.specs.declared.write.Write.{Write}
use Rattle.tree_model.specs.Tables.{Folding, amounts_of, base, tallied, value_at, IsTally}

-- whether a write is for a key of a state
abbrev pub is_for : ℕ → List ℕ → Write → Bool
is_for state key write = (write.state == state) && bytes_eq write.key key

amounts_of-append : (before after : List Write) (state : ℕ) (key : List ℕ) → amounts_of (before ++ after) state key ≡ amounts_of before state key ++ amounts_of after state key
amounts_of-append before after state key =
    ap (map (λ (write : Write). write.amount)) (filter-append (is_for state key) before after)
    ∙ map-append (λ (write : Write). write.amount) (filter (is_for state key) before) (filter (is_for state key) after)

one_more : (by : Folding) (old : Option ℤ) (write : Write) (b : Bool) → fold (λ o amount. Some (by o amount)) old (map (λ (w : Write). w.amount) (cond b (write ∷ []) [])) ≡ cond b (Some (by old write.amount)) old
one_more by old write true = refl
one_more by old write false = refl

-- one more write folds its amount in where it is for the key
pub base-push : (by : Folding) (before : List Write) (write : Write) (state : ℕ) (key : List ℕ) → base by (before ++ write ∷ []) state key ≡ cond (is_for state key write) (Some (by (base by before state key) write.amount)) (base by before state key)
base-push by before write state key =
    ap (fold (λ old amount. Some (by old amount)) None) (amounts_of-append before (write ∷ []) state key)
    ∙ fold-append (λ old amount. Some (by old amount)) None (amounts_of before state key) (amounts_of (write ∷ []) state key)
    ∙ one_more by (base by before state key) write (is_for state key write)

-- at its own state it is for the keys that are equal to its key
pub base-push_own : (by : Folding) (before : List Write) (write : Write) (state : ℕ) (key : List ℕ) → (write.state == state) ≡ true → base by (before ++ write ∷ []) state key ≡ cond (bytes_eq write.key key) (Some (by (base by before state key) write.amount)) (base by before state key)
base-push_own by before write state key own =
    base-push by before write state key
    ∙ ap (λ b. cond (b && bytes_eq write.key key) (Some (by (base by before state key) write.amount)) (base by before state key)) own

-- at another state nothing changes
pub base-push_other : (by : Folding) (before : List Write) (write : Write) (state : ℕ) (key : List ℕ) → (write.state == state) ≡ false → base by (before ++ write ∷ []) state key ≡ base by before state key
base-push_other by before write state key other =
    base-push by before write state key
    ∙ ap (λ b. cond b (Some (by (base by before state key) write.amount)) (base by before state key)) (and_left (write.state == state) (bytes_eq write.key key) other)

-- ---- the pairs of a state

module _ (by : Folding) (key : List ℕ) (amount : ℤ) (at : List ℕ) where
  -- the key that is found: the others' values stay
  met : (held : List ℕ) (value : ℤ) (rest : Option ℤ) → bytes_eq key held ≡ true → cond (bytes_eq at held) (Some (by (Some value) amount)) rest ≡ cond (bytes_eq key at) (Some (by (Some value) amount)) (cond (bytes_eq at held) (Some value) rest)
  met held value rest is = rw (turned) (same (bytes_eq key at))
    where
      turned : bytes_eq at held ≡ bytes_eq key at
      turned = nat_list_eq_equiv.symm at held ∙ ap (λ bytes. bytes_eq bytes at) (sym ((bytes_decides key held).0 is))

      same : (b : Bool) → cond b (Some (by (Some value) amount)) rest ≡ cond b (Some (by (Some value) amount)) (cond b (Some value) rest)
      same true = refl
      same false = refl

  -- another key's pair: the look-up goes on behind it
  passed : (held : List ℕ) (value : ℤ) (new rest : Option ℤ) → bytes_eq key held ≡ false → cond (bytes_eq at held) (Some value) (cond (bytes_eq key at) new rest) ≡ cond (bytes_eq key at) new (cond (bytes_eq at held) (Some value) rest)
  passed held value new rest differs = same (bytes_eq key at) refl
    where
      same : (b : Bool) → bytes_eq key at ≡ b → cond (bytes_eq at held) (Some value) (cond b new rest) ≡ cond b new (cond (bytes_eq at held) (Some value) rest)
      same true is = cond-false (bytes_eq at held) _ _ (ap (λ bytes. bytes_eq bytes held) (sym ((bytes_decides key at).0 is)) ∙ differs)
      same false is = refl

  found : (b : Bool) (pair : Pair) (rest : Option Pair) → option_map (λ (p : Pair). p.value) (cond b (Some pair) rest) ≡ cond b (Some pair.value) (option_map (λ (p : Pair). p.value) rest)
  found true pair rest = refl
  found false pair rest = refl

  value_at-more : (pair : Pair) (pairs : List Pair) (name : List ℕ) → value_at (pair ∷ pairs) name ≡ cond (bytes_eq name pair.key) (Some pair.value) (value_at pairs name)
  value_at-more pair pairs name = found (bytes_eq name pair.key) pair (find (λ (p : Pair). bytes_eq name p.key) pairs)

  -- one more amount changes the value of its key alone
  value_at-tallied : (pairs : List Pair) → value_at (tallied by pairs key amount) at ≡ cond (bytes_eq key at) (Some (by (value_at pairs key) amount)) (value_at pairs at)
  value_at-tallied [] = value_at-more (record { key = key; value = by None amount }) [] at ∙ ap (λ b. cond b (Some (by None amount)) None) (nat_list_eq_equiv.symm at key)
  value_at-tallied (pair ∷ pairs) = on (bytes_eq key pair.key) refl (value_at-tallied pairs)
    where
      on : (b : Bool) → bytes_eq key pair.key ≡ b → value_at (tallied by pairs key amount) at ≡ cond (bytes_eq key at) (Some (by (value_at pairs key) amount)) (value_at pairs at) → value_at (tallied by (pair ∷ pairs) key amount) at ≡ cond (bytes_eq key at) (Some (by (value_at (pair ∷ pairs) key) amount)) (value_at (pair ∷ pairs) at)
      on true is rest =
          ap (λ ps. value_at ps at) (cond-true (bytes_eq key pair.key) _ _ is)
          ∙ value_at-more (record { key = pair.key; value = by (Some pair.value) amount }) pairs at
          ∙ met pair.key pair.value (value_at pairs at) is
          ∙ ap (λ o. cond (bytes_eq key at) (Some (by o amount)) (cond (bytes_eq at pair.key) (Some pair.value) (value_at pairs at))) (sym (value_at-more pair pairs key ∙ cond-true (bytes_eq key pair.key) _ _ is))
          ∙ ap (cond (bytes_eq key at) (Some (by (value_at (pair ∷ pairs) key) amount))) (sym (value_at-more pair pairs at))
      on false is rest =
          ap (λ ps. value_at ps at) (cond-false (bytes_eq key pair.key) _ _ is)
          ∙ value_at-more pair (tallied by pairs key amount) at
          ∙ ap (cond (bytes_eq at pair.key) (Some pair.value)) rest
          ∙ passed pair.key pair.value (Some (by (value_at pairs key) amount)) (value_at pairs at) is
          ∙ ap (λ o. cond (bytes_eq key at) (Some (by o amount)) (cond (bytes_eq at pair.key) (Some pair.value) (value_at pairs at))) (sym (value_at-more pair pairs key ∙ cond-false (bytes_eq key pair.key) _ _ is))
          ∙ ap (cond (bytes_eq key at) (Some (by (value_at (pair ∷ pairs) key) amount))) (sym (value_at-more pair pairs at))

-- one more write for a state, in its pairs
pub IsTally-push : (by : Folding) (before : List Write) (write : Write) (state : ℕ) (pairs : List Pair) → (write.state == state) ≡ true → IsTally by before state pairs → IsTally by (before ++ write ∷ []) state (tallied by pairs write.key write.amount)
IsTally-push by before write state pairs own tally = λ key.
    value_at-tallied by write.key write.amount key pairs
    ∙ ap (λ value. cond (bytes_eq write.key key) (Some (by value write.amount)) (value_at pairs key)) (tally write.key)
    ∙ same key (bytes_eq write.key key) refl
    ∙ sym (base-push_own by before write state key own)
  where
    same : (key : List ℕ) (b : Bool) → bytes_eq write.key key ≡ b → cond (bytes_eq write.key key) (Some (by (base by before state write.key) write.amount)) (value_at pairs key) ≡ cond (bytes_eq write.key key) (Some (by (base by before state key) write.amount)) (base by before state key)
    same key true is = rw is (ap (λ name. Some (by (base by before state name) write.amount)) ((bytes_decides write.key key).0 is))
    same key false is = rw is (tally key)

-- a write for another state leaves a state's pairs
pub IsTally-other : (by : Folding) (before : List Write) (write : Write) (state : ℕ) (pairs : List Pair) → (write.state == state) ≡ false → IsTally by before state pairs → IsTally by (before ++ write ∷ []) state pairs
IsTally-other by before write state pairs other tally = λ key. tally key ∙ sym (base-push_other by before write state key other)

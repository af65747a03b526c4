-- What buckets hold, and the places of roots in them.
use Rattle.std.proofs.Common.{◌≡◌, ℕ, suc, zero, ◌+◌, ◌-◌, ◌<◌, ◌≤◌, Bool, true, false, cond, nat_lt, Option, Some, None, List, [], ◌∷◌, ◌++◌, length, get_or, drop, take, length-append, append_assoc, refl, sym, ap, subst, ◌∙◌, arith}
use Rattle.std.specs.Prelude.{slice_get, slice_set}
use Rattle.std.proofs.lemmas.Option.{slice_get-get_or}
use Rattle.std.proofs.lemmas.Bool.Decides.{nat_tests}
use Rattle.storm_values.specs.declared.value.Root.{Root}
use Rattle.rotating_ledger.specs.Held.{Held, Rotation, root_eq, value_of, without, with_value, rotated, dropped}
use Rattle.rotating_ledger.specs.Slots.{Places, slot_at, held_in, held_of, pairs_in, AreFound, AllFound, Trims, found_or, place_from}
use Rattle.rotating_ledger.specs.declared.bucket.Bucket.{Bucket}
use Rattle.rotating_ledger.specs.declared.slot.Slot.{Slot}
use Rattle.rotating_ledger.specs.declared.slot.Slot.TheVariants.{Full, Empty}
use Rattle.rotating_ledger.proofs.RootLemmas.{root_eq-refl, root_eq-same}
use Rattle.rotating_ledger.proofs.SlotLemmas.{same_some, held_in-append, held_in-trims, empty_full}

length_set : {X : Type 0} (xs : List X) (i : ℕ) (x : X) → length (slice_set xs i x) ≡ length xs
length_set [] i x = refl
length_set (y ∷ ys) zero x = refl
length_set (y ∷ ys) (suc i) x = let e = length_set ys i x in omega arith

append_nil : {X : Type 0} (xs : List X) → xs ++ [] ≡ xs
append_nil [] = refl
append_nil (x ∷ xs) = ap (λ ys. x ∷ ys) (append_nil xs)

below : (a n : ℕ) → a + 1 < n → nat_lt (a + 1) n ≡ true
below a n less = grind (arith, nat_tests)

above : (a n : ℕ) → n ≤ a + 1 → nat_lt (a + 1) n ≡ false
above a n more = grind (arith, nat_tests)

drop_none : {X : Type 0} (xs : List X) → drop 0 xs ≡ xs
drop_none [] = refl
drop_none (x ∷ xs) = refl

module _ {V : Type 0} where
  abbrev Held_at : ℕ → Root → V → Held V
  Held_at age root value = record { root = root; age = age; value = value }

  -- lacking slot has the root
  abbrev Lacks : Root → List (Slot V) → Type 0
  Lacks r ss = (j : ℕ) (v : V) → slice_get ss j ≡ Some (Full r v) → ⊥

  -- lacking slot before this one has the root
  abbrev LacksBefore : Root → ℕ → List (Slot V) → Type 0
  LacksBefore r i ss = (j : ℕ) (v : V) → j < i → slice_get ss j ≡ Some (Full r v) → ⊥

  lacks : (p : Places) (ss : List (Slot V)) (r : Root) → AreFound p ss → slot_at p r ≡ None → Lacks r ss
  lacks p ss r are none j v at = let e : None ≡ Some j = sym none ∙ are.found r v j at in cc

  lacks-before : (p : Places) (ss : List (Slot V)) (r : Root) (i : ℕ) → AreFound p ss → slot_at p r ≡ Some i → LacksBefore r i ss
  lacks-before p ss r i are here j v below at = let e : j ≡ i = same_some j i (sym (are.found r v j at) ∙ here) in omega arith

  other : (r q : Root) (w : V) (b : Bool) → root_eq r q ≡ b → (Full q w ≡ Full r w → ⊥) → root_eq r q ≡ false
  other r q w true same lacking = absurd (lacking (ap (λ x. Full x w) (sym (root_eq-same r q same))))
  other r q w false same lacking = same

  -- ---- edits of the first value of a root

  abbrev edit : (Held V → List (Held V)) → Root → List (Held V) → List (Held V)
  edit f r [] = []
  edit f r (h ∷ hs) = cond (root_eq r h.root) (f h ++ hs) (h ∷ edit f r hs)

  edit-lacks : (f : Held V → List (Held V)) (r : Root) (age : ℕ) (ss : List (Slot V)) (rest : List (Held V)) → Lacks r ss
      → edit f r (held_in age ss ++ rest) ≡ held_in age ss ++ edit f r rest
  edit-lacks f r age [] rest lacking = refl
  edit-lacks f r age (Empty ∷ ss) rest lacking = edit-lacks f r age ss rest (λ j v at. lacking (suc j) v at)
  edit-lacks f r age (Full q w ∷ ss) rest lacking =
      ap (λ b. cond b (f (Held_at age q w) ++ (held_in age ss ++ rest)) (Held_at age q w ∷ edit f r (held_in age ss ++ rest)))
      (other r q w (root_eq r q) refl (λ same. lacking zero w (ap Some same)))
      ∙ ap (λ hs. Held_at age q w ∷ hs) (edit-lacks f r age ss rest (λ j v at. lacking (suc j) v at))

  edit-at : (f : Held V → List (Held V)) (r : Root) (age : ℕ) (ss : List (Slot V)) (i : ℕ) (v : V) (s : Slot V) (rest : List (Held V))
      → LacksBefore r i ss → slice_get ss i ≡ Some (Full r v) → f (Held_at age r v) ≡ held_in age (s ∷ [])
      → edit f r (held_in age ss ++ rest) ≡ held_in age (slice_set ss i s) ++ rest
  edit-at f r age [] i v s rest before at makes = absurd (none_some at)
    where
      none_some : None ≡ Some (Full r v) → ⊥
      none_some same = cc
  edit-at f r age (Empty ∷ ss) zero v s rest before at makes = absurd (empty_full r v (same_some _ _ at))
  edit-at f r age (Full q w ∷ ss) zero v s rest before at makes =
      let is : Full q w ≡ Full r v = same_some _ _ at in
      ap (λ x. edit f r (held_in age (x ∷ ss) ++ rest)) is
      ∙ ap (λ b. cond b (f (Held_at age r v) ++ (held_in age ss ++ rest)) (Held_at age r v ∷ edit f r (held_in age ss ++ rest))) (root_eq-refl r)
      ∙ ap (λ hs. hs ++ (held_in age ss ++ rest)) makes
      ∙ sym (append_assoc (held_in age (s ∷ [])) (held_in age ss) rest)
      ∙ ap (λ hs. hs ++ rest) (sym (held_in-append age (s ∷ []) ss))
  edit-at f r age (Empty ∷ ss) (suc i) v s rest before at makes =
      edit-at f r age ss i v s rest (λ j w below here. before (suc j) w (omega arith) here) at makes
  edit-at f r age (Full q w ∷ ss) (suc i) v s rest before at makes =
      ap (λ b. cond b (f (Held_at age q w) ++ (held_in age ss ++ rest)) (Held_at age q w ∷ edit f r (held_in age ss ++ rest)))
      (other r q w (root_eq r q) refl (λ same. before zero w (omega arith) (ap Some same)))
      ∙ ap (λ hs. Held_at age q w ∷ hs) (edit-at f r age ss i v s rest (λ j u below here. before (suc j) u (omega arith) here) at makes)

  -- ---- a place, and the value there

  -- the first bucket that has the root is this one, and the root's slot there is this one
  abbrev pub IsAt : List (Bucket V) → Root → ℕ → ℕ → Type 0
  IsAt [] r k s = ⊥
  IsAt (b ∷ bs) r zero s = slot_at b.places r ≡ Some s
  IsAt (b ∷ bs) r (suc k) s = (slot_at b.places r ≡ None) × IsAt bs r k s

  abbrev pub IsNowhere : List (Bucket V) → Root → Type 0
  IsNowhere [] r = Unit {0}
  IsNowhere (b ∷ bs) r = (slot_at b.places r ≡ None) × IsNowhere bs r

  pub place-at : (n : ℕ) (r : Root) (bs : List (Bucket V)) (p : ℕ × ℕ) → place_from n r bs ≡ Some p
      → (n ≤ p.0) × (p.0 < n + length bs) × IsAt bs r (p.0 - n) p.1
  place-at n r [] p at = absurd (none_some at)
    where
      none_some : None ≡ Some p → ⊥
      none_some same = cc
  place-at n r (b ∷ bs) p at = cases (slot_at b.places r) refl (λ found. place-at (n + 1) r bs p found)
    where
      cases : (o : Option ℕ) → slot_at b.places r ≡ o
          → (place_from (n + 1) r bs ≡ Some p → (n + 1 ≤ p.0) × (p.0 < n + 1 + length bs) × IsAt bs r (p.0 - (n + 1)) p.1)
          → (n ≤ p.0) × (p.0 < n + length (b ∷ bs)) × IsAt (b ∷ bs) r (p.0 - n) p.1
      cases (Some s) is more_places =
          let e : ◌≡◌ {A = ℕ × ℕ} (n, s) p = same_some _ _ (sym (ap (λ o. found_or o n (place_from (n + 1) r bs)) is) ∙ at) in
          let low : n ≡ p.0 = ap (λ (q : ℕ × ℕ). q.0) e in
          let none : p.0 - n ≡ 0 = omega arith in
          (omega arith, omega arith, subst (λ k. IsAt (b ∷ bs) r k p.1) (sym none) (is ∙ ap (λ (q : ℕ × ℕ). Some q.1) e))
      cases None is more_places =
          let later = more_places (sym (ap (λ o. found_or o n (place_from (n + 1) r bs)) is) ∙ at) in
          let low = later.0 in
          let high = later.1 in
          let more : suc (p.0 - (n + 1)) ≡ p.0 - n = omega arith in
          (omega arith, omega arith, subst (λ k. IsAt (b ∷ bs) r k p.1) more (is, later.2))

  pub place-none : (n : ℕ) (r : Root) (bs : List (Bucket V)) → place_from n r bs ≡ None → IsNowhere bs r
  place-none n r [] none = tt
  place-none n r (b ∷ bs) none = cases (slot_at b.places r) refl (λ found. place-none (n + 1) r bs found)
    where
      cases : (o : Option ℕ) → slot_at b.places r ≡ o → (place_from (n + 1) r bs ≡ None → IsNowhere bs r) → IsNowhere (b ∷ bs) r
      cases (Some s) is later = absurd (some_none (sym (ap (λ o. found_or o n (place_from (n + 1) r bs)) is) ∙ none))
        where
          some_none : ◌≡◌ {A = Option (ℕ × ℕ)} (Some (n, s)) None → ⊥
          some_none same = cc
      cases None is later = (is, later (sym (ap (λ o. found_or o n (place_from (n + 1) r bs)) is) ∙ none))

  pub edit-nowhere : (f : Held V → List (Held V)) (r : Root) (bs : List (Bucket V)) → AllFound bs → IsNowhere bs r → edit f r (held_of bs) ≡ held_of bs
  edit-nowhere f r [] all none = refl
  edit-nowhere f r (b ∷ bs) all none =
      edit-lacks f r (length bs) b.slots.items (held_of bs) (lacks b.places b.slots.items r all.0 none.0)
      ∙ ap (λ hs. held_in (length bs) b.slots.items ++ hs) (edit-nowhere f r bs all.1 none.1)

  -- the bucket at a place has the root's value in its slot
  pub at_place : (bs : List (Bucket V)) (r : Root) (k s : ℕ) (b : Bucket V) → AllFound bs → IsAt bs r k s → slice_get bs k ≡ Some b
      → AreFound b.places b.slots.items × (slot_at b.places r ≡ Some s)
  at_place [] r k s b all at here = absurd at
  at_place (c ∷ bs) r zero s b all at here =
      let is : c ≡ b = same_some _ _ here in
      (subst (λ (x : Bucket V). AreFound x.places x.slots.items) is all.0, ap (λ (x : Bucket V). slot_at x.places r) (sym is) ∙ at)
  at_place (c ∷ bs) r (suc k) s b all at here = at_place bs r k s b all.1 at.1 here

  pub edit-place : (f : Held V → List (Held V)) (r : Root) (bs : List (Bucket V)) (k s : ℕ) (b c : Bucket V) (v : V) (x : Slot V)
      → AllFound bs → IsAt bs r k s → slice_get bs k ≡ Some b → slice_get b.slots.items s ≡ Some (Full r v)
      → ((age : ℕ) → f (Held_at age r v) ≡ held_in age (x ∷ []))
      → ((age : ℕ) → held_in age c.slots.items ≡ held_in age (slice_set b.slots.items s x))
      → edit f r (held_of bs) ≡ held_of (slice_set bs k c)
  edit-place f r [] k s b c v x all at here value makes same = absurd at
  edit-place f r (d ∷ bs) zero s b c v x all at here value makes same =
      let is : d ≡ b = same_some _ _ here in
      let place = at_place (d ∷ bs) r zero s b all at here in
      ap (λ (y : Bucket V). edit f r (held_in (length bs) y.slots.items ++ held_of bs)) is
      ∙ edit-at f r (length bs) b.slots.items s v x (held_of bs) (lacks-before b.places b.slots.items r s place.0 place.1) value (makes (length bs))
      ∙ ap (λ hs. hs ++ held_of bs) (sym (same (length bs)))
  edit-place f r (d ∷ bs) (suc k) s b c v x all at here value makes same =
      edit-lacks f r (length bs) d.slots.items (held_of bs) (lacks d.places d.slots.items r all.0 at.0)
      ∙ ap (λ hs. held_in (length bs) d.slots.items ++ hs) (edit-place f r bs k s b c v x all.1 at.1 here value makes same)
      ∙ ap (λ n. held_in n d.slots.items ++ held_of (slice_set bs k c)) (sym (length_set bs k c))

  -- ---- the words of contracts are such edits

  without-edit : (r : Root) (hs : List (Held V)) → without r hs ≡ edit (λ _. []) r hs
  without-edit r [] = refl
  without-edit r (h ∷ hs) = ap (λ ks. cond (root_eq r h.root) hs (h ∷ ks)) (without-edit r hs)

  with_value-edit : (r : Root) (w : V) (hs : List (Held V)) → with_value r hs w ≡ edit (λ h. Held_at h.age h.root w ∷ []) r hs
  with_value-edit r w [] = refl
  with_value-edit r w (h ∷ hs) = ap (λ ks. cond (root_eq r h.root) (Held_at h.age h.root w ∷ hs) (h ∷ ks)) (with_value-edit r w hs)

  pub without-nowhere : (r : Root) (bs : List (Bucket V)) → AllFound bs → IsNowhere bs r → without r (held_of bs) ≡ held_of bs
  without-nowhere r bs all none = without-edit r (held_of bs) ∙ edit-nowhere (λ _. []) r bs all none

  pub without-place : (r : Root) (bs : List (Bucket V)) (k s : ℕ) (b c : Bucket V) (v : V) → AllFound bs → IsAt bs r k s → slice_get bs k ≡ Some b
      → slice_get b.slots.items s ≡ Some (Full r v) → Trims (slice_set b.slots.items s Empty) c.slots.items
      → held_of (slice_set bs k c) ≡ without r (held_of bs)
  without-place r bs k s b c v all at here value trims =
      sym (without-edit r (held_of bs)
      ∙ edit-place (λ _. []) r bs k s b c v Empty all at here value (λ age. refl) (λ age. held_in-trims age (slice_set b.slots.items s Empty) c.slots.items trims))

  pub with_value-place : (r : Root) (bs : List (Bucket V)) (k s : ℕ) (b c : Bucket V) (v w : V) → AllFound bs → IsAt bs r k s → slice_get bs k ≡ Some b
      → slice_get b.slots.items s ≡ Some (Full r v) → c.slots.items ≡ slice_set b.slots.items s (Full r w)
      → held_of (slice_set bs k c) ≡ with_value r (held_of bs) w
  with_value-place r bs k s b c v w all at here value same =
      sym (with_value-edit r w (held_of bs)
      ∙ edit-place (λ h. Held_at h.age h.root w ∷ []) r bs k s b c v (Full r w) all at here value (λ age. refl) (λ age. ap (held_in age) same))

  -- ---- the value of a root

  value-lacks : (r : Root) (age : ℕ) (ss : List (Slot V)) (rest : List (Held V)) → Lacks r ss → value_of r (held_in age ss ++ rest) ≡ value_of r rest
  value-lacks r age [] rest lacking = refl
  value-lacks r age (Empty ∷ ss) rest lacking = value-lacks r age ss rest (λ j v at. lacking (suc j) v at)
  value-lacks r age (Full q w ∷ ss) rest lacking =
      ap (λ b. cond b (Some w) (value_of r (held_in age ss ++ rest))) (other r q w (root_eq r q) refl (λ same. lacking zero w (ap Some same)))
      ∙ value-lacks r age ss rest (λ j v at. lacking (suc j) v at)

  value-at : (r : Root) (age : ℕ) (ss : List (Slot V)) (i : ℕ) (v : V) (rest : List (Held V)) → LacksBefore r i ss → slice_get ss i ≡ Some (Full r v)
      → value_of r (held_in age ss ++ rest) ≡ Some v
  value-at r age [] i v rest before at = absurd (none_some at)
    where
      none_some : None ≡ Some (Full r v) → ⊥
      none_some same = cc
  value-at r age (Empty ∷ ss) zero v rest before at = absurd (empty_full r v (same_some _ _ at))
  value-at r age (Full q w ∷ ss) zero v rest before at =
      ap (λ x. value_of r (held_in age (x ∷ ss) ++ rest)) (same_some _ _ at)
      ∙ ap (λ b. cond b (Some v) (value_of r (held_in age ss ++ rest))) (root_eq-refl r)
  value-at r age (Empty ∷ ss) (suc i) v rest before at = value-at r age ss i v rest (λ j w below here. before (suc j) w (omega arith) here) at
  value-at r age (Full q w ∷ ss) (suc i) v rest before at =
      ap (λ b. cond b (Some w) (value_of r (held_in age ss ++ rest))) (other r q w (root_eq r q) refl (λ same. before zero w (omega arith) (ap Some same)))
      ∙ value-at r age ss i v rest (λ j u below here. before (suc j) u (omega arith) here) at

  pub value-nowhere : (r : Root) (bs : List (Bucket V)) → AllFound bs → IsNowhere bs r → value_of r (held_of bs) ≡ None
  value-nowhere r [] all none = refl
  value-nowhere r (b ∷ bs) all none =
      value-lacks r (length bs) b.slots.items (held_of bs) (lacks b.places b.slots.items r all.0 none.0) ∙ value-nowhere r bs all.1 none.1

  pub value-place : (r : Root) (bs : List (Bucket V)) (k s : ℕ) (b : Bucket V) (v : V) → AllFound bs → IsAt bs r k s → slice_get bs k ≡ Some b
      → slice_get b.slots.items s ≡ Some (Full r v) → value_of r (held_of bs) ≡ Some v
  value-place r [] k s b v all at here value = absurd at
  value-place r (d ∷ bs) zero s b v all at here value =
      let place = at_place (d ∷ bs) r zero s b all at here in
      ap (λ (y : Bucket V). value_of r (held_in (length bs) y.slots.items ++ held_of bs)) (same_some _ _ here)
      ∙ value-at r (length bs) b.slots.items s v (held_of bs) (lacks-before b.places b.slots.items r s place.0 place.1) value
  value-place r (d ∷ bs) (suc k) s b v all at here value =
      value-lacks r (length bs) d.slots.items (held_of bs) (lacks d.places d.slots.items r all.0 at.0) ∙ value-place r bs k s b v all.1 at.1 here value

  -- where the root has lacking value lacking bucket has it
  pub absent-place : (r : Root) (bs : List (Bucket V)) (k : ℕ) (b : Bucket V) → AllFound bs → value_of r (held_of bs) ≡ None → slice_get bs k ≡ Some b
      → slot_at b.places r ≡ None
  absent-place r [] k b all none here = absurd (none_some here)
    where
      none_some : None ≡ Some b → ⊥
      none_some same = cc
  absent-place r (d ∷ bs) k b all none here = cases (slot_at d.places r) refl k here (λ j rest there. absent-place r bs j b all.1 rest there)
    where
      later : (j : ℕ) → slot_at d.places r ≡ None → slice_get (d ∷ bs) j ≡ Some b
          → ((i : ℕ) → value_of r (held_of bs) ≡ None → slice_get bs i ≡ Some b → slot_at b.places r ≡ None) → slot_at b.places r ≡ None
      later zero is there more_places = ap (λ (y : Bucket V). slot_at y.places r) (sym (same_some _ _ there)) ∙ is
      later (suc j) is there more_places =
          more_places j (sym (value-lacks r (length bs) d.slots.items (held_of bs) (lacks d.places d.slots.items r all.0 is)) ∙ none) there

      cases : (o : Option ℕ) → slot_at d.places r ≡ o → (j : ℕ) → slice_get (d ∷ bs) j ≡ Some b
          → ((i : ℕ) → value_of r (held_of bs) ≡ None → slice_get bs i ≡ Some b → slot_at b.places r ≡ None) → slot_at b.places r ≡ None
      cases None is j there more_places = later j is there more_places
      cases (Some s) is j there more_places =
          let held = all.0.there r s is in
          absurd (some_none held.0 (sym (value-at r (length bs) d.slots.items s held.0 (held_of bs) (lacks-before d.places d.slots.items r s all.0 is) held.1) ∙ none))
        where
          some_none : (v : V) → Some v ≡ None → ⊥
          some_none v same = cc

  pub AllFound-set : (bs : List (Bucket V)) (k : ℕ) (c : Bucket V) → AllFound bs → AreFound c.places c.slots.items → AllFound (slice_set bs k c)
  AllFound-set [] k c all here = tt
  AllFound-set (b ∷ bs) zero c all here = (here, all.1)
  AllFound-set (b ∷ bs) (suc k) c all here = (all.0, AllFound-set bs k c all.1 here)

  pub AllFound-end : (bs : List (Bucket V)) (c : Bucket V) → AllFound bs → AreFound c.places c.slots.items → AllFound (bs ++ c ∷ [])
  AllFound-end [] c all here = (here, tt)
  AllFound-end (b ∷ bs) c all here = (all.0, AllFound-end bs c all.1 here)

  -- ---- a value is put into the newest bucket

  pub put-newest : (r : Root) (v : V) (bs : List (Bucket V)) (k : ℕ) (b c : Bucket V) → slice_get bs k ≡ Some b → k + 1 ≡ length bs
      → c.slots.items ≡ b.slots.items ++ Full r v ∷ [] → held_of (slice_set bs k c) ≡ held_of bs ++ Held_at 0 r v ∷ []
  put-newest r v [] k b c here last same = absurd (omega arith)
  put-newest r v (d ∷ []) zero b c here last same =
      append_nil (held_in 0 c.slots.items)
      ∙ ap (held_in 0) same
      ∙ held_in-append 0 b.slots.items (Full r v ∷ [])
      ∙ ap (λ (y : Bucket V). held_in 0 y.slots.items ++ Held_at 0 r v ∷ []) (sym (same_some _ _ here))
      ∙ ap (λ hs. hs ++ Held_at 0 r v ∷ []) (sym (append_nil (held_in 0 d.slots.items)))
  put-newest r v (d ∷ []) (suc k) b c here last same = absurd (omega arith)
  put-newest r v (d ∷ e ∷ bs) zero b c here last same = absurd (omega arith)
  put-newest r v (d ∷ e ∷ bs) (suc k) b c here last same =
      ap (λ n. held_in n d.slots.items ++ held_of (slice_set (e ∷ bs) k c)) (length_set (e ∷ bs) k c)
      ∙ ap (λ hs. held_in (length (e ∷ bs)) d.slots.items ++ hs) (put-newest r v (e ∷ bs) k b c here (omega arith) same)
      ∙ sym (append_assoc (held_in (length (e ∷ bs)) d.slots.items) (held_of (e ∷ bs)) (Held_at 0 r v ∷ []))

  pub same-newest : (bs : List (Bucket V)) (k : ℕ) (b c : Bucket V) → slice_get bs k ≡ Some b → c.slots.items ≡ b.slots.items → held_of (slice_set bs k c) ≡ held_of bs
  same-newest [] k b c here same = refl
  same-newest (d ∷ bs) zero b c here same =
      ap (λ ss. held_in (length bs) ss ++ held_of bs) (same ∙ ap (λ (y : Bucket V). y.slots.items) (sym (same_some _ _ here)))
  same-newest (d ∷ bs) (suc k) b c here same =
      ap (λ n. held_in n d.slots.items ++ held_of (slice_set bs k c)) (length_set bs k c)
      ∙ ap (λ hs. held_in (length bs) d.slots.items ++ hs) (same-newest bs k b c here same)

  -- ---- a rotation

  rotated-append : (n : ℕ) (xs ys : List (Held V)) → rotated n (xs ++ ys) ≡ rotated n xs ++ rotated n ys
  rotated-append n [] ys = refl
  rotated-append n (x ∷ xs) ys = cases (nat_lt (x.age + 1) n) (rotated-append n xs ys)
    where
      cases : (b : Bool) → rotated n (xs ++ ys) ≡ rotated n xs ++ rotated n ys → cond b (Held_at (x.age + 1) x.root x.value ∷ rotated n (xs ++ ys)) (rotated n (xs ++ ys))
          ≡ cond b (Held_at (x.age + 1) x.root x.value ∷ rotated n xs) (rotated n xs) ++ rotated n ys
      cases true later = ap (λ hs. Held_at (x.age + 1) x.root x.value ∷ hs) later
      cases false later = later

  dropped-append : (n : ℕ) (xs ys : List (Held V)) → dropped n (xs ++ ys) ≡ dropped n xs ++ dropped n ys
  dropped-append n [] ys = refl
  dropped-append n (x ∷ xs) ys = cases (nat_lt (x.age + 1) n) (dropped-append n xs ys)
    where
      cases : (b : Bool) → dropped n (xs ++ ys) ≡ dropped n xs ++ dropped n ys → cond b (dropped n (xs ++ ys)) ((x.root, x.value) ∷ dropped n (xs ++ ys)) ≡ cond b (dropped n xs) ((x.root, x.value) ∷ dropped n xs) ++ dropped n ys
      cases true later = later
      cases false later = ap (λ ps. (x.root, x.value) ∷ ps) later

  rotated-young : (n age : ℕ) (ss : List (Slot V)) → nat_lt (age + 1) n ≡ true → rotated n (held_in age ss) ≡ held_in (age + 1) ss
  rotated-young n age [] young = refl
  rotated-young n age (Empty ∷ ss) young = rotated-young n age ss young
  rotated-young n age (Full r v ∷ ss) young =
      ap (λ b. cond b (Held_at (age + 1) r v ∷ rotated n (held_in age ss)) (rotated n (held_in age ss))) young
      ∙ ap (λ hs. Held_at (age + 1) r v ∷ hs) (rotated-young n age ss young)

  rotated-old : (n age : ℕ) (ss : List (Slot V)) → nat_lt (age + 1) n ≡ false → rotated n (held_in age ss) ≡ []
  rotated-old n age [] old = refl
  rotated-old n age (Empty ∷ ss) old = rotated-old n age ss old
  rotated-old n age (Full r v ∷ ss) old =
      ap (λ b. cond b (Held_at (age + 1) r v ∷ rotated n (held_in age ss)) (rotated n (held_in age ss))) old ∙ rotated-old n age ss old

  dropped-young : (n age : ℕ) (ss : List (Slot V)) → nat_lt (age + 1) n ≡ true → dropped n (held_in age ss) ≡ []
  dropped-young n age [] young = refl
  dropped-young n age (Empty ∷ ss) young = dropped-young n age ss young
  dropped-young n age (Full r v ∷ ss) young =
      ap (λ b. cond b (dropped n (held_in age ss)) ((r, v) ∷ dropped n (held_in age ss))) young ∙ dropped-young n age ss young

  dropped-old : (n age : ℕ) (ss : List (Slot V)) → nat_lt (age + 1) n ≡ false → dropped n (held_in age ss) ≡ pairs_in ss
  dropped-old n age [] old = refl
  dropped-old n age (Empty ∷ ss) old = dropped-old n age ss old
  dropped-old n age (Full r v ∷ ss) old =
      ap (λ b. cond b (dropped n (held_in age ss)) ((r, v) ∷ dropped n (held_in age ss))) old ∙ ap (λ ps. (r, v) ∷ ps) (dropped-old n age ss old)

  rotated-young-all : (n : ℕ) (bs : List (Bucket V)) (c : Bucket V) → length bs < n → c.slots.items ≡ [] → rotated n (held_of bs) ≡ held_of (bs ++ c ∷ [])
  rotated-young-all n [] c less none = ap (λ ss. held_in 0 ss ++ []) (sym none)
  rotated-young-all n (b ∷ bs) c less none =
      let len = length-append bs (c ∷ []) in
      let more : length bs + 1 ≡ length (bs ++ c ∷ []) = omega arith in
      rotated-append n (held_in (length bs) b.slots.items) (held_of bs)
      ∙ ap (λ hs. hs ++ rotated n (held_of bs)) (rotated-young n (length bs) b.slots.items (below (length bs) n (omega arith)) ∙ ap (λ age. held_in age b.slots.items) more)
      ∙ ap (λ hs. held_in (length (bs ++ c ∷ [])) b.slots.items ++ hs) (rotated-young-all n bs c (omega arith) none)

  dropped-young-all : (n : ℕ) (bs : List (Bucket V)) → length bs < n → dropped n (held_of bs) ≡ []
  dropped-young-all n [] less = refl
  dropped-young-all n (b ∷ bs) less =
      dropped-append n (held_in (length bs) b.slots.items) (held_of bs)
      ∙ ap (λ ps. ps ++ dropped n (held_of bs)) (dropped-young n (length bs) b.slots.items (below (length bs) n (omega arith)))
      ∙ dropped-young-all n bs (omega arith)

  -- the oldest bucket goes, and an empty one comes
  pub rotated-buckets : (n : ℕ) (b : Bucket V) (bs : List (Bucket V)) (c : Bucket V) → n ≡ length (b ∷ bs) → c.slots.items ≡ []
      → held_of (bs ++ c ∷ []) ≡ rotated n (held_of (b ∷ bs))
  rotated-buckets n b bs c all none = sym (
      rotated-append n (held_in (length bs) b.slots.items) (held_of bs)
      ∙ ap (λ hs. hs ++ rotated n (held_of bs)) (rotated-old n (length bs) b.slots.items (above (length bs) n (omega arith)))
      ∙ rotated-young-all n bs c (omega arith) none
      )

  pub dropped-buckets : (n : ℕ) (b : Bucket V) (bs : List (Bucket V)) → n ≡ length (b ∷ bs) → pairs_in b.slots.items ≡ dropped n (held_of (b ∷ bs))
  dropped-buckets n b bs all = sym (
      dropped-append n (held_in (length bs) b.slots.items) (held_of bs)
      ∙ ap (λ ps. ps ++ dropped n (held_of bs)) (dropped-old n (length bs) b.slots.items (above (length bs) n (omega arith)))
      ∙ ap (λ ps. pairs_in b.slots.items ++ ps) (dropped-young-all n bs (omega arith))
      ∙ append_nil (pairs_in b.slots.items)
      )

  -- ---- the steps of the calls

  -- so many buckets and these values
  abbrev pub rotation_of : ℕ → List (Held V) → Rotation V
  rotation_of n hs = record { buckets = n; held = hs }

  pub read_at : (bs : List (Bucket V)) (k : ℕ) (b : Bucket V) → b ≡ get_or bs k b → k < length bs → slice_get bs k ≡ Some b
  read_at bs k b is within = slice_get-get_or bs k b within ∙ ap Some (sym is)

  pub AllFound-at : (bs : List (Bucket V)) (k : ℕ) (b : Bucket V) → AllFound bs → slice_get bs k ≡ Some b → AreFound b.places b.slots.items
  AllFound-at [] k b all here = absurd (none_some here)
    where
      none_some : None ≡ Some b → ⊥
      none_some same = cc
  AllFound-at (c ∷ bs) zero b all here = subst (λ (x : Bucket V). AreFound x.places x.slots.items) (same_some _ _ here) all.0
  AllFound-at (c ∷ bs) (suc k) b all here = AllFound-at bs k b all.1 here

  pub found_at : (bs : List (Bucket V)) (r : Root) (p : ℕ × ℕ) → place_from 0 r bs ≡ Some p → (p.0 < length bs) × IsAt bs r p.0 p.1
  found_at bs r p at =
      let found = place-at 0 r bs p at in
      let less = found.1 in
      let same : p.0 - 0 ≡ p.0 = omega arith in
      (omega arith, subst (λ k. IsAt bs r k p.1) same found.2)

  pub taking : (bs : List (Bucket V)) (r : Root) (p : ℕ × ℕ) (b : Bucket V) → AllFound bs → place_from 0 r bs ≡ Some p → b ≡ get_or bs p.0 b
      → AreFound b.places b.slots.items × (slot_at b.places r ≡ Some p.1)
  taking bs r p b all at is = let found = found_at bs r p at in at_place bs r p.0 p.1 b all found.1 (read_at bs p.0 b is found.0)

  pub taken-value : (bs : List (Bucket V)) (r : Root) (p : ℕ × ℕ) (b : Bucket V) (v : V) → AllFound bs → place_from 0 r bs ≡ Some p → b ≡ get_or bs p.0 b
      → slice_get b.slots.items p.1 ≡ Some (Full r v) → value_of r (held_of bs) ≡ Some v
  taken-value bs r p b v all at is value = let found = found_at bs r p at in value-place r bs p.0 p.1 b v all found.1 (read_at bs p.0 b is found.0) value

  pub taken-others : (bs : List (Bucket V)) (r : Root) (p : ℕ × ℕ) (b c : Bucket V) (v : V) → AllFound bs → place_from 0 r bs ≡ Some p → b ≡ get_or bs p.0 b
      → slice_get b.slots.items p.1 ≡ Some (Full r v) → Trims (slice_set b.slots.items p.1 Empty) c.slots.items
      → held_of (slice_set bs p.0 c) ≡ without r (held_of bs)
  taken-others bs r p b c v all at is value trims =
      let found = found_at bs r p at in without-place r bs p.0 p.1 b c v all found.1 (read_at bs p.0 b is found.0) value trims

  pub written : (bs : List (Bucket V)) (r : Root) (p : ℕ × ℕ) (b c : Bucket V) (v w : V) → AllFound bs → place_from 0 r bs ≡ Some p → b ≡ get_or bs p.0 b
      → slice_get b.slots.items p.1 ≡ Some (Full r v) → c.slots.items ≡ slice_set b.slots.items p.1 (Full r w)
      → held_of (slice_set bs p.0 c) ≡ with_value r (held_of bs) w
  written bs r p b c v w all at is value same =
      let found = found_at bs r p at in with_value-place r bs p.0 p.1 b c v w all found.1 (read_at bs p.0 b is found.0) value same

  pub none-end : (bs : List (Bucket V)) (c : Bucket V) → held_of bs ≡ [] → c.slots.items ≡ [] → held_of (bs ++ c ∷ []) ≡ []
  none-end bs c none empty = sym (rotated-young-all (length bs + 1) bs c (omega arith) empty) ∙ ap (rotated (length bs + 1)) none

  pub turned : (bs : List (Bucket V)) (e : Bucket V) → 1 ≤ length bs → drop 1 (slice_set bs 0 e) ++ take 1 (slice_set bs 0 e) ≡ drop 1 bs ++ e ∷ []
  turned [] e some = absurd (omega arith)
  turned (b ∷ bs) e some = refl

  pub rotated-items : (n : ℕ) (bs : List (Bucket V)) (e : Bucket V) → n ≡ length bs → 1 ≤ n → e.slots.items ≡ [] → held_of (drop 1 bs ++ e ∷ []) ≡ rotated n (held_of bs)
  rotated-items n [] e all some empty = absurd (omega arith)
  rotated-items n (b ∷ bs) e all some empty = ap (λ xs. held_of (xs ++ e ∷ [])) (drop_none bs) ∙ rotated-buckets n b bs e all empty

  pub dropped-items : (n : ℕ) (bs : List (Bucket V)) (b : Bucket V) → n ≡ length bs → 1 ≤ n → b ≡ get_or bs 0 b → pairs_in b.slots.items ≡ dropped n (held_of bs)
  dropped-items n [] b all some is = absurd (omega arith)
  dropped-items n (c ∷ bs) b all some is = ap (λ (x : Bucket V). pairs_in x.slots.items) is ∙ dropped-buckets n c bs all

  pub AllFound-turned : (bs : List (Bucket V)) (e : Bucket V) → AllFound bs → AreFound e.places e.slots.items → AllFound (drop 1 bs ++ e ∷ [])
  AllFound-turned [] e all here = (here, tt)
  AllFound-turned (b ∷ bs) e all here = subst (λ xs. AllFound (xs ++ e ∷ [])) (sym (drop_none bs)) (AllFound-end bs e all.1 here)

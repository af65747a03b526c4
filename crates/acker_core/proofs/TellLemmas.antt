-- What a list tells, by its state, and where it is complete.
use Rattle.std.proofs.Common.{◌≡◌, ◌==◌, ◌↔◌, ◌≤◌, ℕ, Bool, true, false, cond, Option, Some, None, List, [], ◌∷◌, refl, ap, ◌∙◌, eqb-true, eq-eqb, arith}
use Rattle.std.specs.Prelude.{is_some}
use Rattle.tree_model.specs.counted_items.Weights.{weigh}
use Rattle.tree_model.specs.storm_values.declared.value.Root.{Root}
use Rattle.rotating_ledger.specs.Told.{told, tells}
use Rattle.rotating_ledger.specs.declared.state.Told.{Told}
use Rattle.rotating_ledger.specs.declared.state.Told.TheVariants as ledger
use Rattle.tree_model.specs.declared.messages.AckMsg.{AckMsg}
use Rattle.tree_model.specs.declared.messages.AckMsg.TheVariants.{Init, Done, Failed}
use Rattle.tree_model.specs.Lists.{word, is_init, is_failed, IsComplete}
use Rattle.tree_model.proofs.Reading.{inits_said, failures_said}
use Rattle.acker_core.specs.declared.verdict.Verdict.{Verdict}
use Rattle.acker_core.specs.declared.verdict.Verdict.TheVariants.{Complete, Fails}
use Rattle.acker_core.specs.Entries.{has_init, first_failed, tell_by, tell}
use Rattle.acker_core.specs.States.{state_of}

-- what a state with these parts tells
abbrev told_by : Bool → Bool → Bool → Told
told_by begun failed zero_word = cond begun (cond failed ledger.Fails (cond zero_word ledger.Complete ledger.Nothing)) ledger.Nothing

by_parts : (root : Root) (list : List AckMsg) (b : Bool) (f : Option (List ℕ)) (z : Bool) → is_some (tell_by root list b f z) ≡ tells (told_by b (is_some f) z)
by_parts root list false f z = refl
by_parts root list true (Some path) z = refl
by_parts root list true None true = refl
by_parts root list true None false = refl

-- a list tells something exactly where its state does
pub tells-state : (root : Root) (list : List AckMsg) → is_some (tell root list) ≡ tells (told (state_of list))
tells-state root list = by_parts root list (has_init list) (first_failed list) (word list == 0)

none_if : {X : Type 0} (o : Option X) → is_some o ≡ false → o ≡ None
none_if None none = refl
none_if (Some x) none = cc

pub silent : (root : Root) (list : List AckMsg) → tells (told (state_of list)) ≡ false → tell root list ≡ None
silent root list none = none_if (tell root list) (tells-state root list ∙ none)

-- ---- a verdict by what the state tells

nothing_by : (root : Root) (list : List AckMsg) (b : Bool) (f : Option (List ℕ)) (z : Bool) → told_by b (is_some f) z ≡ ledger.Nothing → tell_by root list b f z ≡ None
nothing_by root list false f z is = refl
nothing_by root list true (Some path) z is = cc
nothing_by root list true None true is = cc
nothing_by root list true None false is = refl

complete_by : (root : Root) (list : List AckMsg) (b : Bool) (f : Option (List ℕ)) (z : Bool) → told_by b (is_some f) z ≡ ledger.Complete
    → tell_by root list b f z ≡ Some (Complete root list)
complete_by root list false f z is = cc
complete_by root list true (Some path) z is = cc
complete_by root list true None true is = refl
complete_by root list true None false is = cc

fails_by : (root : Root) (list : List AckMsg) (b : Bool) (f : Option (List ℕ)) (z : Bool) (path : List ℕ) → told_by b (is_some f) z ≡ ledger.Fails → f ≡ Some path
    → tell_by root list b f z ≡ Some (Fails root path)
fails_by root list false f z path is at = cc
fails_by root list true (Some first) z path is at = ap (λ (o : Option (List ℕ)). tell_by root list true o z) at
fails_by root list true None true path is at = cc
fails_by root list true None false path is at = cc

no_path_by : (b : Bool) (f : Option (List ℕ)) (z : Bool) → told_by b (is_some f) z ≡ ledger.Fails → f ≡ None → ⊥
no_path_by false f z is at = cc
no_path_by true (Some first) z is at = cc
no_path_by true None true is at = cc
no_path_by true None false is at = cc

pub tell-nothing : (root : Root) (list : List AckMsg) → told (state_of list) ≡ ledger.Nothing → tell root list ≡ None
tell-nothing root list is = nothing_by root list (has_init list) (first_failed list) (word list == 0) is

pub tell-complete : (root : Root) (list : List AckMsg) → told (state_of list) ≡ ledger.Complete → tell root list ≡ Some (Complete root list)
tell-complete root list is = complete_by root list (has_init list) (first_failed list) (word list == 0) is

pub tell-fails : (root : Root) (list : List AckMsg) (path : List ℕ) → told (state_of list) ≡ ledger.Fails → first_failed list ≡ Some path → tell root list ≡ Some (Fails root path)
tell-fails root list path is at = fails_by root list (has_init list) (first_failed list) (word list == 0) path is at

pub fails-path : (list : List AckMsg) → told (state_of list) ≡ ledger.Fails → first_failed list ≡ None → ⊥
fails-path list is at = no_path_by (has_init list) (first_failed list) (word list == 0) is at

-- ---- complete lists

init-weighs : (list : List AckMsg) → has_init list ≡ true → 1 ≤ weigh is_init list
init-weighs [] begun = cc
init-weighs (Init m ∷ list) begun = omega arith
init-weighs (Done m ∷ list) begun = let later = init-weighs list begun in omega arith
init-weighs (Failed m ∷ list) begun = let later = init-weighs list begun in omega arith

weighs-init : (list : List AckMsg) → 1 ≤ weigh is_init list → has_init list ≡ true
weighs-init [] some = absurd (omega arith)
weighs-init (Init m ∷ list) some = refl
weighs-init (Done m ∷ list) some = weighs-init list (omega arith)
weighs-init (Failed m ∷ list) some = weighs-init list (omega arith)

none-weighs : (list : List AckMsg) → first_failed list ≡ None → weigh is_failed list ≡ 0
none-weighs [] none = refl
none-weighs (Init m ∷ list) none = let later = none-weighs list none in omega arith
none-weighs (Done m ∷ list) none = let later = none-weighs list none in omega arith
none-weighs (Failed m ∷ list) none = cc

weighs-none : (list : List AckMsg) → weigh is_failed list ≡ 0 → first_failed list ≡ None
weighs-none [] none = refl
weighs-none (Init m ∷ list) none = weighs-none list (omega arith)
weighs-none (Done m ∷ list) none = weighs-none list (omega arith)
weighs-none (Failed m ∷ list) none = absurd (omega arith)

abbrev is_complete : Option Verdict → Bool
is_complete None = false
is_complete (Some (Complete root list)) = true
is_complete (Some (Fails root path)) = false

record Parts (b : Bool) (f : Option (List ℕ)) (z : Bool) : Type 0 where
  begun : b ≡ true
  none_failed : f ≡ None
  zero_word : z ≡ true

parts : (root : Root) (list : List AckMsg) (b : Bool) (f : Option (List ℕ)) (z : Bool) → is_complete (tell_by root list b f z) ≡ true → Parts b f z
parts root list false f z is = absurd (false_true is)
  where
    false_true : false ≡ true → ⊥
    false_true same = cc
parts root list true (Some path) z is = absurd (false_true is)
  where
    false_true : false ≡ true → ⊥
    false_true same = cc
parts root list true None true is = record { begun = refl; none_failed = refl; zero_word = refl }
parts root list true None false is = absurd (false_true is)
  where
    false_true : false ≡ true → ⊥
    false_true same = cc

-- complete is told exactly of a list with an init, no failure and the word 0
pub complete-told : (root : Root) (list : List AckMsg) → (tell root list ≡ Some (Complete root list)) ↔ IsComplete list
complete-told root list = (
  (λ is.
      let p = parts root list (has_init list) (first_failed list) (word list == 0) (ap is_complete is) in
      let inits = inits_said list in
      let failures = failures_said list in
      let begun = init-weighs list p.begun in
      let none_failed = none-weighs list p.none_failed in
      record { begins = omega arith; none_failed = omega arith; zero_word = eqb-true (word list) 0 p.zero_word }),
  λ complete.
      let begun : 1 ≤ weigh is_init list = let inits = inits_said list in let b = complete.begins in omega arith in
      let none_failed : weigh is_failed list ≡ 0 = let failures = failures_said list in let n = complete.none_failed in omega arith in
      ap (λ (b : Bool). tell_by root list b (first_failed list) (word list == 0)) (weighs-init list begun)
      ∙ ap (λ (f : Option (List ℕ)). tell_by root list true f (word list == 0)) (weighs-none list none_failed)
      ∙ ap (λ (z : Bool). tell_by root list true None z) (eq-eqb (word list) 0 complete.zero_word),
)

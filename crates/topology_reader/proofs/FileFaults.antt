-- The first fault of a file, step by step.
use Rattle.std.proofs.Common.{◌≡◌, ◌<◌, ◌≤◌, ℕ, ◌+◌, List, [], ◌∷◌, length, map, drop, slice_get, true, false, leb, Option, Some, None, Result, Ok, Err, IfOk, IfErr, ◌≢◌, refl, sym, ap, subst, ◌∙◌, arith}
use Rattle.std.proofs.lemmas.Bool.Decides.{nat_tests}
use Rattle.topology_reader.proofs.Common.{FileParts, meaning_fault, Data, json_of, first_some, TopoFault, TooLong, Topology, first_fault, value_fault, IsFilePlan, plan_of}
use Rattle.topology_form.specs.declared.fault.TopoFault.TheVariants as topo_fault
use Rattle.topology_form.specs.Format.{form_fault, parts_said}
use Rattle.topology_reader.proofs.Numbered.{drop_at}

-- a fault that is the first of one, or the next
pub next_alone : {X : Type 0} (fault : Option X) → first_some (fault ∷ []) ≡ fault
next_alone None = refl
next_alone (Some x) = refl

-- of items that are checked in turn one more has no fault, or is the first that has one
pub next_passed : {X F : Type 0} (f : X → Option F) (xs : List X) (c : ℕ) (x : X) (whole : Option F) → slice_get xs c ≡ Some x → f x ≡ None → first_some (map f (drop c xs)) ≡ whole → first_some (map f (drop (c + 1) xs)) ≡ whole
next_passed f xs c x whole is none so_far = sym (ap (λ ys. first_some (map f ys)) (drop_at xs c x is) ∙ ap (λ o. first_some (o ∷ map f (drop (c + 1) xs))) none) ∙ so_far

pub next_told : {X F : Type 0} (f : X → Option F) (xs : List X) (c : ℕ) (x : X) (fault : F) (whole : Option F) → slice_get xs c ≡ Some x → f x ≡ Some fault → first_some (map f (drop c xs)) ≡ whole → whole ≡ Some fault
next_told f xs c x fault whole is told so_far = sym so_far ∙ (ap (λ ys. first_some (map f ys)) (drop_at xs c x is) ∙ ap (λ o. first_some (o ∷ map f (drop (c + 1) xs))) told)

pub too_long : (bytes : List ℕ) → 65536 < length bytes → first_fault bytes ≡ Some (TooLong (length bytes))
unfolding first_fault
too_long bytes long =
    let test : leb 65537 (length bytes) ≡ true = grind (arith, nat_tests) in
    rw test refl

pub of_value : (bytes : List ℕ) → length bytes ≤ 65536 → first_fault bytes ≡ value_fault (json_of bytes)
unfolding first_fault
of_value bytes short =
    let test : leb 65537 (length bytes) ≡ false = grind (arith, nat_tests) in
    rw test refl

pub plan_of_file : (bytes : List ℕ) (value : Data) → length bytes ≤ 65536 → json_of bytes ≡ Some value → value_fault (Some value) ≡ None → IsFilePlan bytes (plan_of (parts_said value))
plan_of_file bytes value short spelled none = (of_value bytes short ∙ (ap value_fault spelled ∙ none), value, spelled, refl)

-- a fault of form is the file's, where it is no longer than the most bytes
pub fault_of_form : (bytes : List ℕ) (value : Data) (fault : TopoFault) → length bytes ≤ 65536 → json_of bytes ≡ Some value → form_fault value ≡ Some fault → first_fault bytes ≡ Some fault
fault_of_form bytes value fault short spelled told =
    of_value bytes short ∙ (ap value_fault spelled ∙ ap (λ form. first_some (form ∷ meaning_fault (parts_said value) ∷ [])) told)

-- what comes after the form
after_form : (value : Data) (parts : FileParts) (found : Option TopoFault) → form_fault value ≡ None → parts ≡ parts_said value → meaning_fault parts ≡ found → value_fault (Some value) ≡ found
after_form value parts found form said meant =
    ap (λ form. first_some (form ∷ meaning_fault (parts_said value) ∷ [])) form
    ∙ ap (λ meaning. first_some (None ∷ meaning ∷ [])) (ap meaning_fault (sym said) ∙ meant)
    ∙ next_alone found

pub plan_of_value : (value : Data) (parts : FileParts) (read : Result Topology TopoFault) → form_fault value ≡ None → parts ≡ parts_said value → IfOk read (λ plan. (meaning_fault parts ≡ None) × (plan ≡ plan_of parts))
    → IfOk read (λ plan. (value_fault (Some value) ≡ None) × (plan ≡ plan_of (parts_said value)))
plan_of_value value parts (Ok plan) form said (none, is) = (after_form value parts None form said none, is ∙ ap plan_of said)
plan_of_value value parts (Err fault) form said is = tt

pub fault_of_value : (value : Data) (parts : FileParts) (read : Result Topology TopoFault) → form_fault value ≡ None → parts ≡ parts_said value → IfErr read (λ fault. fault ≢ topo_fault.Memory → meaning_fault parts ≡ Some fault)
    → IfErr read (λ fault. fault ≢ topo_fault.Memory → value_fault (Some value) ≡ Some fault)
fault_of_value value parts (Ok plan) form said told = tt
fault_of_value value parts (Err fault) form said told = λ other. after_form value parts (Some fault) form said (told other)

-- what is read of a file's value: its plan, or its first fault
pub plan_of_read : (bytes : List ℕ) (value : Data) (read : Result Topology TopoFault) → length bytes ≤ 65536 → json_of bytes ≡ Some value
    → IfOk read (λ plan. (value_fault (Some value) ≡ None) × (plan ≡ plan_of (parts_said value))) → IfOk read (λ plan. IsFilePlan bytes plan)
plan_of_read bytes value (Ok plan) short spelled (none, is) = subst (IsFilePlan bytes) (sym is) (plan_of_file bytes value short spelled none)
plan_of_read bytes value (Err fault) short spelled is = tt

pub fault_of_read : (bytes : List ℕ) (value : Data) (read : Result Topology TopoFault) → length bytes ≤ 65536 → json_of bytes ≡ Some value
    → IfErr read (λ fault. fault ≢ topo_fault.Memory → value_fault (Some value) ≡ Some fault) → IfErr read (λ fault. fault ≢ topo_fault.Memory → first_fault bytes ≡ Some fault)
fault_of_read bytes value (Ok plan) short spelled is = tt
fault_of_read bytes value (Err fault) short spelled is = λ other. of_value bytes short ∙ (ap value_fault spelled ∙ is other)

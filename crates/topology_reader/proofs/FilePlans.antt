-- The plan of a file without a fault, and that the first bytes of a file decide.
use Rattle.std.proofs.Common.{if◌then◌else◌, nat_lt, Bool, true, false, Option, ◌≡◌, ◌↔◌, ◌<◌, ℕ, List, [], ◌∷◌, length, take, Some, None, refl, sym, ap, subst, ◌∙◌, inl, inr, arith}
use Rattle.topology_reader.proofs.Common.{cases_lt, take_all, length-take-le, none-some, same_Some, Data, json_of, Topology, IsValid, TopoFault, TooLong, IsInRange, IsWired, plan_of, first_fault, value_fault, IsFilePlan, meaning_fault, IsValidFile, in_range}
use Rattle.topology_reader.proofs.Listed.{none_each}
use Rattle.topology_form.specs.Faults.{fault_text}
use Rattle.topology_reader.proofs.FileFaults.{too_long}
use Rattle.topology_form.specs.Format.{form_fault, parts_said}
use Rattle.topology_reader.proofs.ValidPlan.{valid_plan}
use Rattle.topology_reader.proofs.WiredPlan.{wired_plan}
use Rattle.topology_reader.proofs.ValidFile.{valid_file}

not_long : (test : Bool) (long : TopoFault) (found : Option TopoFault) → (if test then Some long else found) ≡ None → found ≡ None
not_long true long found none = absurd (none-some long (sym none))
not_long false long found none = none

-- where a file has no fault, what it says is in range, and has none
said_without_fault : (bytes : List ℕ) (value : Data) → json_of bytes ≡ Some value → first_fault bytes ≡ None → IsInRange (parts_said value) × (meaning_fault (parts_said value) ≡ None)
unfolding first_fault
said_without_fault bytes value spelled none =
    let said : value_fault (Some value) ≡ None = subst (λ file. value_fault file ≡ None) spelled (not_long (nat_lt 65536 (length bytes)) (TooLong (length bytes)) (value_fault (json_of bytes)) none) in
    let form = none_each (form_fault value ∷ meaning_fault (parts_said value) ∷ []) said in
    (in_range value form.0, form.1.0)

pub plan_is_valid : (bytes : List ℕ) (t : Topology) → IsFilePlan bytes t → IsValid t × IsWired t
plan_is_valid bytes t (none, value, spelled, is) =
    let said = said_without_fault bytes value spelled none in
    (subst IsValid (sym is) (valid_plan (parts_said value) said.0 said.1), subst IsWired (sym is) (wired_plan (parts_said value) said.0 said.1))

pub said_is_valid : (bytes : List ℕ) (value : Data) → json_of bytes ≡ Some value → first_fault bytes ≡ None → IsValidFile (parts_said value)
said_is_valid bytes value spelled none =
    let said = said_without_fault bytes value spelled none in
    valid_file (parts_said value) said.0 said.1

-- ---- one answer for a file

pub one_plan : (bytes : List ℕ) (s t : Topology) → IsFilePlan bytes s → IsFilePlan bytes t → s ≡ t
one_plan bytes s t (none, value, spelled, is) (none_too, other, spelled_too, is_too) =
    is ∙ (ap (λ v. plan_of (parts_said v)) (same_Some value other (sym spelled ∙ spelled_too)) ∙ sym is_too)

pub plan_or_fault : (bytes : List ℕ) (t : Topology) (fault : TopoFault) → IsFilePlan bytes t → first_fault bytes ≡ Some fault → ⊥
plan_or_fault bytes t fault plan refused = none-some fault (sym plan.0 ∙ refused)

-- ---- the first bytes decide

-- the most bytes that a reader has to look at
abbrev pub enough_bytes : ℕ
enough_bytes = 65537

never_longer : (bytes : List ℕ) (t : Topology) → 65536 < length bytes → IsFilePlan bytes t → ⊥
never_longer bytes t long plan = plan_or_fault bytes t (TooLong (length bytes)) plan (too_long bytes long)

length_front : (bytes : List ℕ) → enough_bytes < length bytes → 65536 < length (take enough_bytes bytes)
length_front bytes more = omega (arith, length-take-le enough_bytes bytes (omega arith))

pub plan_of_front : (bytes : List ℕ) (t : Topology) → IsFilePlan (take enough_bytes bytes) t ↔ IsFilePlan bytes t
plan_of_front bytes t =
    elim (cases_lt enough_bytes (length bytes)) [
      | inl more ↦ (
        λ plan. absurd (never_longer (take enough_bytes bytes) t (length_front bytes more) plan),
        λ plan. absurd (never_longer bytes t (omega arith) plan),
      )
      | inr fits ↦ (
        subst (λ b. IsFilePlan b t) (take_all enough_bytes bytes fits),
        subst (λ b. IsFilePlan b t) (sym (take_all enough_bytes bytes fits)),
      )
    ]

-- a file whose front is refused is refused in the same words
pub record IsRefusedAlike (bytes : List ℕ) (fault : TopoFault) : Type 0 where
  pub told : TopoFault
  pub is_first : first_fault bytes ≡ Some told
  pub alike : fault_text fault ≡ fault_text told

pub refused_by_front : (bytes : List ℕ) (fault : TopoFault) → first_fault (take enough_bytes bytes) ≡ Some fault → IsRefusedAlike bytes fault
refused_by_front bytes fault refused =
    elim (cases_lt enough_bytes (length bytes)) [
      | inl more ↦
          let front : fault ≡ TooLong (length (take enough_bytes bytes)) = same_Some fault _ (sym refused ∙ too_long (take enough_bytes bytes) (length_front bytes more)) in
          record {
            told = TooLong (length bytes);
            is_first = too_long bytes (omega arith);
            alike = ap fault_text front;
          }
      | inr fits ↦ record {
        told = fault;
        is_first = subst (λ b. first_fault b ≡ Some fault) (take_all enough_bytes bytes fits) refused;
        alike = refl;
      }
    ]

pub fault_of_whole : (bytes : List ℕ) (fault : TopoFault) → first_fault bytes ≡ Some fault → (told : TopoFault) × (first_fault (take enough_bytes bytes) ≡ Some told) × (fault_text told ≡ fault_text fault)
fault_of_whole bytes fault refused =
    elim (cases_lt enough_bytes (length bytes)) [
      | inl more ↦
          let whole : fault ≡ TooLong (length bytes) = same_Some fault _ (sym refused ∙ too_long bytes (omega arith)) in
          (TooLong (length (take enough_bytes bytes)), too_long (take enough_bytes bytes) (length_front bytes more), sym (ap fault_text whole))
      | inr fits ↦ (fault, subst (λ b. first_fault b ≡ Some fault) (sym (take_all enough_bytes bytes fits)) refused, refl)
    ]

-- The members of a map from which one was taken.
use Rattle.std.proofs.Common.{◌≡◌, ℕ, List, [], ◌∷◌, String, Global, Bool, true, false, cond, nat_cmp, is_eq, string_bytes, refl, ◌∙◌}
use Rattle.std.specs.BTreeMap.{is_at}
use Rattle.std.specs.Cmp.Lexicographic.{slice_cmp}
use Rattle.std.specs.Map.{remove_entry}
use Rattle.topology_form.specs.Prelude.{members_view}
use Rattle.serde_json.specs.declared.value.Value.{Value}
use Rattle.topology_form.specs.Reading.{without}

abbrev Entries : Type 0
Entries = List (String Global × Value)

chosen : (test : Bool) (a b : Entries) → members_view (cond test a b) ≡ cond test (members_view a) (members_view b)
chosen true a b = refl
chosen false a b = refl

-- a map without the entry of a name has the members without that name
pub members_view-remove_entry : (name : List ℕ) (entries : Entries) → members_view (remove_entry (is_at (λ key. slice_cmp nat_cmp name (string_bytes key))) entries) ≡ without name (members_view entries)
members_view-remove_entry name [] = refl
members_view-remove_entry name (entry ∷ entries) =
    chosen (is_eq (slice_cmp nat_cmp name (string_bytes entry.0))) entries _ ∙ rw (members_view-remove_entry name entries)

-- The sources of names, as they are put into a map, the last bolt first and the spout at the end.
use Rattle.std.proofs.Common.{◌≡◌, ℕ, zero, suc, ◌+◌, Bool, true, false, cond, List, map, drop, slice_get, Option, Some, None, option_map, refl, sym, ap, subst, ◌∙◌, arith}
use Rattle.topology_reader.proofs.Common.{FileParts, Bor, bytes_eq, Origin, ComponentPart, place_of}
use Rattle.indexmap.specs.IndexMap.{IndexMap}
use Rattle.topology_plan.specs.declared.parts.Origin.TheVariants as origin
use Rattle.topology_reader.proofs.Numbered.{drop_at}
use Rattle.topology_reader.proofs.Places.{place_of-position}
use Rattle.topology_reader.specs.Steps.{source_in, IsIndexOf}

abbrev names_from : List ComponentPart → ℕ → List (List ℕ)
names_from bolts i = map (λ (bolt : ComponentPart). bolt.name) (drop i bolts)

-- the map holds the bolts from the i-th on
abbrev pub HoldsFrom : {S : Type 0} → List ComponentPart → ℕ → IndexMap (Bor (List ℕ)) Origin S → Type 0
HoldsFrom bolts i m = (name : Bor (List ℕ)) → source_in m name ≡ option_map (λ k. origin.Component (i + k)) (place_of (names_from bolts i) name.now)

-- the map has one name more, or another source of it
abbrev pub IsPut : {S : Type 0} → IndexMap (Bor (List ℕ)) Origin S → Bor (List ℕ) → Origin → IndexMap (Bor (List ℕ)) Origin S → Type 0
IsPut m key source more = (name : Bor (List ℕ)) → source_in more name ≡ cond (bytes_eq key.now name.now) (Some source) (source_in m name)

one_before : (here : Bool) (i : ℕ) (place : Option ℕ) → cond here (Some (origin.Component i)) (option_map (λ k. origin.Component (i + 1 + k)) place) ≡ option_map (λ k. origin.Component (i + k)) (cond here (Some zero) (option_map suc place))
one_before true i place = let same : i ≡ i + 0 = omega arith in ap (λ n. Some (origin.Component n)) same
one_before false i None = refl
one_before false i (Some k) = let same : i + 1 + k ≡ i + suc k = omega arith in ap (λ n. Some (origin.Component n)) same

-- the bolt before them too
pub holds_before : {S : Type 0} (bolts : List ComponentPart) (i : ℕ) (bolt : ComponentPart) (old new : IndexMap (Bor (List ℕ)) Origin S) (key : Bor (List ℕ)) (j : ℕ) → j ≡ i + 1 → slice_get bolts i ≡ Some bolt
    → key.now ≡ bolt.name → HoldsFrom bolts j old → IsPut old key (origin.Component i) new → HoldsFrom bolts i new
holds_before bolts i bolt old new key j next is named holds put = λ name.
    put name
    ∙ ap (cond (bytes_eq key.now name.now) (Some (origin.Component i))) (holds name ∙ ap (λ n. option_map (λ k. origin.Component (n + k)) (place_of (names_from bolts n) name.now)) next)
    ∙ ap (λ text. cond (bytes_eq text name.now) (Some (origin.Component i)) (option_map (λ k. origin.Component (i + 1 + k)) (place_of (names_from bolts (i + 1)) name.now))) named
    ∙ one_before (bytes_eq bolt.name name.now) i (place_of (names_from bolts (i + 1)) name.now)
    ∙ ap (λ bs. option_map (λ k. origin.Component (i + k)) (place_of (map (λ (b : ComponentPart). b.name) bs) name.now)) (sym (drop_at bolts i bolt is))

from_first : (place : Option ℕ) → option_map (λ k. origin.Component (0 + k)) place ≡ option_map origin.Component place
from_first None = refl
from_first (Some k) = let same : 0 + k ≡ k = omega arith in ap (λ n. Some (origin.Component n)) same

-- with all bolts and then the spout the map is the file's
pub index_whole : {S : Type 0} (p : FileParts) (old new : IndexMap (Bor (List ℕ)) Origin S) (key : Bor (List ℕ)) → key.now ≡ p.spout.name → (i : ℕ) → i ≡ 0 → HoldsFrom p.bolts i old → IsPut old key origin.Spout new → IsIndexOf p new
index_whole p old new key named i first holds put = λ name.
    let all : HoldsFrom p.bolts 0 old = subst (λ n. HoldsFrom p.bolts n old) first holds in
    put name
    ∙ ap (cond (bytes_eq key.now name.now) (Some origin.Spout)) (all name ∙ from_first (place_of (names_from p.bolts 0) name.now))
    ∙ ap (λ text. cond (bytes_eq text name.now) (Some origin.Spout) (option_map origin.Component (place_of (names_from p.bolts 0) name.now))) named
    ∙ ap (λ place. cond (bytes_eq p.spout.name name.now) (Some origin.Spout) (option_map origin.Component place)) (place_of-position (λ (bolt : ComponentPart). bolt.name) p.bolts name.now)

-- The sources of names, and the graph of a file as the program makes it.
use Rattle.std.proofs.Common.{◌≡◌, ℕ, zero, suc, ◌+◌, ◌<◌, List, [], ◌∷◌, ◌++◌, length, map, take, get_or, Bool, true, false, cond, Option, Some, None, option_map, slice_get, slice_index_or, refl, sym, ap, subst, ◌∙◌, arith}
use Rattle.topology_reader.proofs.Common.{take_more, filter_map-append, feed_of, eq-eqb, length-map, none-some, same_Some, slice_get_within, get_or_from_slice_get, cons_option, bytes_eq, Origin, ComponentPart, components_of, Input, FileParts, Feed, feeds_at, IsSource, component_count, bolt_names, place_of, source_of, inputs_by_component, inputs_at, sources_among, sources_at, is_component, feeds, feeds_of, graph_of, copies_said, map-map}
use Rattle.topology_plan.specs.declared.parts.Origin.TheVariants as origin
use Rattle.topology_reader.proofs.Distinct.{bytes_same, place_named}
use Rattle.topology_reader.proofs.Places.{place_of-position}
use Rattle.topology_reader.proofs.Listed.{IsIn, in_map, in_filter_map, to_filter_map, to_any}
use Rattle.topology_reader.proofs.PartLemmas.{map_same}

-- ---- the source of a name

-- the source is the spout of this name, or the bolt
abbrev pub IsNamed : FileParts → Origin → List ℕ → Type 0
IsNamed p origin.Spout name = p.spout.name ≡ name
IsNamed p (origin.Component c) name = slice_get (bolt_names p) c ≡ Some name

named_by : (p : FileParts) (name : List ℕ) (from : Origin) (spout : Bool) (place : Option ℕ) → (spout ≡ true → p.spout.name ≡ name) → ((k : ℕ) → place ≡ Some k → slice_get (bolt_names p) k ≡ Some name)
    → cond spout (Some origin.Spout) (option_map origin.Component place) ≡ Some from → IsNamed p from name
named_by p name from true place first there is = subst (λ (o : Origin). IsNamed p o name) (same_Some origin.Spout from is) (first refl)
named_by p name from false None first there is = absurd (none-some from is)
named_by p name from false (Some k) first there is = subst (λ (o : Origin). IsNamed p o name) (same_Some (origin.Component k) from is) (there k refl)

pub source_named : (p : FileParts) (name : List ℕ) (from : Origin) → source_of p name ≡ Some from → IsNamed p from name
source_named p name from is = named_by p name from (bytes_eq p.spout.name name) (place_of (bolt_names p) name) (bytes_same p.spout.name name) (place_named (bolt_names p) name) (ap (λ place. cond (bytes_eq p.spout.name name) (Some origin.Spout) (option_map origin.Component place)) (place_of-position (λ (bolt : ComponentPart). bolt.name) p.bolts name) ∙ is)

-- a source that is a component is a bolt
pub source_within : (p : FileParts) (name : List ℕ) (c : ℕ) → source_of p name ≡ Some (origin.Component c) → c < length p.bolts
source_within p name c is =
    omega (arith, slice_get_within (bolt_names p) c name (source_named p name (origin.Component c) is), length-map p.bolts (λ (part : ComponentPart). part.name))

-- ---- the sources of a component

pub in_sources : (p : FileParts) (c : ℕ) (from : Origin) → IsIn from (sources_at p c) → (input : Input) × IsIn input (inputs_at p c) × (source_of p input.from ≡ Some from)
in_sources p c from at = in_filter_map (λ (input : Input). source_of p input.from) (inputs_at p c) from at

pub to_sources : (p : FileParts) (c : ℕ) (input : Input) (from : Origin) → IsIn input (inputs_at p c) → source_of p input.from ≡ Some from → IsIn from (sources_at p c)
to_sources p c input from at is = to_filter_map (λ (input : Input). source_of p input.from) (inputs_at p c) input from at is

pub in_inputs_at : (p : FileParts) (c : ℕ) (inputs : List Input) (input : Input) → slice_get (inputs_by_component p) c ≡ Some inputs → IsIn input inputs → IsIn input (inputs_at p c)
in_inputs_at p c inputs input is at = subst (IsIn input) (sym (get_or_from_slice_get (inputs_by_component p) c inputs [] is)) at

pub source_there : (p : FileParts) (c : ℕ) (from : Origin) → IsIn from (sources_at p c) → IsSource p from
source_there p c origin.Spout at = tt
source_there p c (origin.Component b) at = let input = in_sources p c (origin.Component b) at in source_within p input.0.from b input.2

pub feeds_from_source : (p : FileParts) (c b : ℕ) → IsIn (origin.Component b) (sources_at p c) → feeds p b c ≡ true
feeds_from_source p c b at = to_any (is_component b) (sources_at p c) (origin.Component b) at (eq-eqb b b refl)

-- what holds of the inputs of each part holds of those of every component
pub of_inputs : (p : FileParts) (P : List Input → Type 0) → ((part : ComponentPart) → IsIn part (components_of p) → P part.inputs) → (inputs : List Input) → IsIn inputs (inputs_by_component p) → P inputs
of_inputs p P of_part inputs at = let part = in_map (λ (part : ComponentPart). part.inputs) (components_of p) inputs at in subst P part.2 (of_part part.0 part.1)

-- ---- lists over all components

pub length_inputs : (p : FileParts) → length (inputs_by_component p) ≡ component_count p
length_inputs p = length-map (components_of p) (λ (part : ComponentPart). part.inputs)

pub length_graph : (p : FileParts) → length (graph_of p) ≡ component_count p
length_graph p = length-map (components_of p) (λ (part : ComponentPart). feeds_of p part.tasks part.inputs)

-- ---- the graph

abbrev pub froms : List Feed → List Origin
froms feeds = map (λ (feed : Feed). feed.from) feeds

-- one input more, with the subscription that it is
pub feeds_next : (p : FileParts) (tasks : ℕ) (inputs : List Input) (i : ℕ) (input : Input) (source : Option Origin) (old new : List Feed) → i < length inputs → input ≡ get_or inputs i input → source_of p input.from ≡ source
    → old ≡ feeds_of p tasks (take i inputs) → new ≡ old ++ cons_option (option_map (λ from. record { from = from; copies = copies_said input.grouping tasks }) source) [] → new ≡ feeds_of p tasks (take (i + 1) inputs)
feeds_next p tasks inputs i input source old new below at is so_far added =
    let longer : take (i + 1) inputs ≡ take i inputs ++ input ∷ [] = take_more inputs i input below ∙ ap (λ x. take i inputs ++ x ∷ []) (sym at) in
    added
    ∙ ap (λ feeds. feeds ++ cons_option (option_map (λ from. record { from = from; copies = copies_said input.grouping tasks }) source) []) so_far
    ∙ sym
    (ap (feeds_of p tasks) longer
    ∙ filter_map-append (feed_of p tasks) (take i inputs) (input ∷ [])
    ∙ ap (λ found. feeds_of p tasks (take i inputs) ++ cons_option (option_map (λ from. record { from = from; copies = copies_said input.grouping tasks }) found) []) is)

from_one : (source : Option Origin) (copies : ℕ) (feeds : List Feed) (sources : List Origin) → froms feeds ≡ sources
    → froms (cons_option (option_map (λ from. record { from = from; copies = copies }) source) feeds) ≡ cons_option source sources
from_one None copies feeds sources same = same
from_one (Some from) copies feeds sources same = ap (λ rest. from ∷ rest) same

froms_of : (p : FileParts) (tasks : ℕ) (inputs : List Input) → froms (feeds_of p tasks inputs) ≡ sources_among p inputs
froms_of p tasks [] = refl
froms_of p tasks (input ∷ inputs) = from_one (source_of p input.from) (copies_said input.grouping tasks) (feeds_of p tasks inputs) (sources_among p inputs) (froms_of p tasks inputs)

-- what stands at a place in a list that is made of another
index_mapped : {A B : Type 0} (f : A → B) (xs : List A) (c : ℕ) (default : A) → slice_index_or (map f xs) c (f default) ≡ f (slice_index_or xs c default)
index_mapped f [] c default = refl
index_mapped f (x ∷ xs) zero default = refl
index_mapped f (x ∷ xs) (suc c) default = index_mapped f xs c default

froms_of_all : (p : FileParts) → map froms (graph_of p) ≡ map (sources_among p) (inputs_by_component p)
froms_of_all p =
    map-map froms (λ (part : ComponentPart). feeds_of p part.tasks part.inputs) (components_of p)
    ∙ map_same (λ (part : ComponentPart). froms (feeds_of p part.tasks part.inputs)) (λ part. sources_among p part.inputs) (λ part. froms_of p part.tasks part.inputs) (components_of p)
    ∙ sym (map-map (sources_among p) (λ (part : ComponentPart). part.inputs) (components_of p))

-- the sources of a component's subscriptions are its sources
pub froms_at : (p : FileParts) (c : ℕ) → froms (feeds_at (graph_of p) c) ≡ sources_at p c
froms_at p c =
    sym (index_mapped froms (graph_of p) c [])
    ∙ ap (λ rows. slice_index_or rows c []) (froms_of_all p)
    ∙ index_mapped (sources_among p) (inputs_by_component p) c []

-- What a file says is in range.
use Rattle.topology_plan.specs.declared.parts.Fold.TheVariants as fold_of
use Rattle.topology_form.specs.Prelude.{Data, most_partitions, most_ackers, most_pending, least_buckets, most_buckets, most_attempts, TopoFault, FileParts, Fold, Count, Sum, Last, Max, Input, ComponentPart, Kind, Transactional, Opaque}
use Rattle.topology_form.specs.declared.parts.{GroupingWord.GroupingWord}
use Rattle.topology_form.specs.declared.parts.GroupingPart.TheVariants as said
use Rattle.topology_form.specs.declared.parts.GroupingWord.TheVariants as word
use Rattle.topology_plan.specs.Valid.{IsBetween}
use Rattle.std.proofs.Common.{◌≡◌, ◌<◌, ◌≤◌, ◌==◌, ℕ, List, [], ◌∷◌, length, All, Bool, true, false, subst, codes, None, Result, Ok, Err, IfOk, refl, sym, lit≤, arith}
use Rattle.std.specs.Result.{result_err, result_unwrap_or}
use Rattle.std.proofs.lemmas.List.{length-map}
use Rattle.std.proofs.lemmas.List.Elements.{All-nil, All-cons, All-append, All-weaker}
use Rattle.std.proofs.lemmas.Option.{none-some}
use Rattle.std.proofs.lemmas.Result.{IfOk-weaker}
use Rattle.topology_form.specs.Format.{form_fault, parts_said, blank, file_of, grouping_of, a_grouping, amount_for, grouped_by, has_partitions, partitions_if, a_spout, an_input, a_bolt, a_state, some_numbers, a_file}
use Rattle.topology_form.specs.Reading.{an_object}
use Rattle.topology_form.specs.Ranges.{IsSpoutInRange, IsGroupingInRange, HasAmount, IsComponentInRange, is_bolt, IsInRange}
use Rattle.topology_form.proofs.OperationRanges.{operation_good}
use Rattle.topology_form.proofs.Good.{IsOf, Reads, Makes, first, had, reads, object_of, a_member, may_be, number_of, name_of, any_of, names_of, objects_of}

-- the partitions of a spout of this kind
record ArePartitions (kind : Kind) (partitions : ℕ) : Type 0 where
  few : partitions ≤ most_partitions
  opaque : 0 < partitions → kind ≡ Opaque

opaque_read : (has : Bool) → Reads (ArePartitions Opaque) (partitions_if has)
opaque_read true = record {
  holds = λ object. IfOk-weaker (partitions_if true object) _ _ (λ read is. record { few = is.1; opaque = λ some. refl }) (all.holds object);
}
  where
    all : Reads (λ n. IsBetween n 1 most_partitions) (partitions_if true)
    all = a_member _ number_of
opaque_read false = reads (had _ (record { few = lit≤ tt; opaque = λ some. refl }))

partitions_read : (version : ℕ) (kind : Kind) → Reads (ArePartitions kind) (partitions_if (has_partitions version kind))
partitions_read version Transactional = reads (had _ (record { few = lit≤ tt; opaque = λ some. absurd (omega arith) }))
partitions_read version Opaque = opaque_read (version == 2)

pub spout_of : (version : ℕ) → IsOf IsSpoutInRange (an_object (a_spout version))
spout_of version =
    object_of
    (first (a_member _ name_of) (λ name named.
    first (a_member _ any_of) (λ kind _.
    first (a_member _ names_of) (λ fields are.
    first (a_member _ number_of) (λ batch is.
    first (partitions_read version kind) (λ partitions so.
    had _ (record { name = named; fields = are.0; field_names = are.1; batch = is; partitions = so.few; partitioned = so.opaque })))))))

-- ---- bolts

grouping_makes : (word : GroupingWord) → Makes (λ x. IsGroupingInRange x.0) (grouping_of word)
grouping_makes word.Shuffle = had _ tt
grouping_makes word.Fields = first (a_member _ names_of) (λ key are. had _ are.0)
grouping_makes word.All = had _ tt
grouping_makes word.Global = had _ tt
grouping_makes word.Direct = had _ tt

grouping_reads : Reads IsGroupingInRange a_grouping
grouping_reads = reads (first (a_member _ any_of) (λ word _. grouping_makes word))

pub input_of : IsOf (λ (input : Input). IsGroupingInRange input.grouping) (an_object an_input)
input_of = object_of (first (a_member _ any_of) (λ from _. first grouping_reads (λ grouping is. had _ is)))

-- a component in range that is a bolt, or a state
pub record IsOfKind (bolt : Bool) (part : ComponentPart) : Type 0 where
  pub range : IsComponentInRange part
  pub kind : is_bolt part.body ≡ bolt

pub bolt_of : IsOf (IsOfKind true) (an_object a_bolt)
bolt_of =
    object_of
    (first (a_member _ name_of) (λ name named.
    first (a_member _ number_of) (λ tasks is.
    first (a_member _ operation_good) (λ operation does.
    first (a_member _ (objects_of input_of)) (λ inputs are.
    had _ (record { range = record { name = named; tasks = is; groupings = are.1; body = (does, are.0) }; kind = refl }))))))

-- ---- states

-- the amount that a fold has

amount_reads : (fold : Fold) → Reads (HasAmount fold) (amount_for fold)
amount_reads Count = reads (had _ refl)
amount_reads Sum = reads (first (a_member _ any_of) (λ amount _. had _ refl))
amount_reads Last = reads (first (a_member _ any_of) (λ amount _. had _ refl))
amount_reads Max = reads (first (a_member _ any_of) (λ amount _. had _ refl))
amount_reads fold_of.Custom = reads (first (a_member _ any_of) (λ amount _. had _ refl))

all_grouped : (P : Input → Type 0) (key names : List (List ℕ)) → ((from : List ℕ) → P (record { from = from; grouping = said.Fields key })) → All P (grouped_by key names)
all_grouped P key [] each = All-nil P
all_grouped P key (name ∷ names) each = All-cons P (record { from = name; grouping = said.Fields key }) (grouped_by key names) (each name) (all_grouped P key names each)

count_grouped : (key names : List (List ℕ)) (least most : ℕ) → IsBetween (length names) least most → IsBetween (length (grouped_by key names)) least most
count_grouped key names least most is =
    let same : length (grouped_by key names) ≡ length names = length-map {B = Input} names (λ from. record { from = from; grouping = said.Fields key }) in
    subst (λ n. IsBetween n least most) (sym same) is

pub state_of : IsOf (IsOfKind false) (an_object a_state)
state_of =
    object_of
    (first (a_member _ name_of) (λ name named.
    first (a_member _ any_of) (λ kind _.
    first (a_member _ number_of) (λ tasks is.
    first (a_member _ names_of) (λ key are.
    first (a_member _ any_of) (λ fold _.
    first (amount_reads fold) (λ amount has.
    first (a_member _ names_of) (λ names some.
    had _ (record {
      range = record {
        name = named;
        tasks = is;
        groupings = all_grouped (λ (input : Input). IsGroupingInRange input.grouping) key names (λ from. are.0);
        body = (has, count_grouped key names _ _ some.0, are.0, all_grouped (λ (input : Input). input.grouping ≡ said.Fields key) key names (λ from. refl));
      };
      kind = refl;
    })))))))))

-- ---- the file

abbrev AreNumbers : ℕ × ℕ × ℕ × ℕ → Type 0
AreNumbers n = IsBetween n.0 1 most_ackers × IsBetween n.1 1 most_pending × IsBetween n.2 least_buckets most_buckets × IsBetween n.3 1 most_attempts

numbers_read : Reads AreNumbers some_numbers
numbers_read =
    reads
    (first (may_be _ _ (lit≤ tt, lit≤ tt) number_of) (λ ackers a.
    first (may_be _ _ (lit≤ tt, lit≤ tt) number_of) (λ pending p.
    first (may_be _ _ (lit≤ tt, lit≤ tt) number_of) (λ buckets b.
    first (may_be _ _ (lit≤ tt, lit≤ tt) number_of) (λ attempts t. had _ (a, p, b, t))))))

file_in_range : IsOf IsInRange (an_object a_file)
file_in_range =
    object_of
    (first (a_member _ any_of) (λ version _.
    first (a_member _ (spout_of version)) (λ spout good.
    first (a_member _ (objects_of bolt_of)) (λ bolts are.
    first (a_member _ (objects_of state_of)) (λ states some.
    first numbers_read (λ numbers are_so.
    had _ (record {
      spout = good;
      bolts = are.0.1;
      are_bolts = All-weaker (IsOfKind true) (λ (part : ComponentPart). is_bolt part.body ≡ true) (λ part of. of.kind) bolts are.1;
      states = some.0;
      are_states = All-weaker (IsOfKind false) (λ (part : ComponentPart). is_bolt part.body ≡ false) (λ part of. of.kind) states some.1;
      each =
          All-append IsComponentInRange bolts states (All-weaker (IsOfKind true) IsComponentInRange (λ part of. of.range) bolts are.1)
          (All-weaker (IsOfKind false) IsComponentInRange (λ part of. of.range) states some.1);
      ackers = are_so.0;
      pending = are_so.1;
      buckets = are_so.2;
      attempts = are_so.3;
    })))))))

said_in_range : (read : Result FileParts TopoFault) → IfOk read IsInRange → result_err read ≡ None → IsInRange (result_unwrap_or read blank)
said_in_range (Ok parts) good faultless = good
said_in_range (Err fault) good faultless = absurd (none-some fault (sym faultless))

-- what a file without a fault of form says is in range
pub in_range : (value : Data) → form_fault value ≡ None → IsInRange (parts_said value)
unfolding form_fault parts_said
in_range value faultless = said_in_range (file_of value) (file_in_range.holds (codes "topology") value) faultless

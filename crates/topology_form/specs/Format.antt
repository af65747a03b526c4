-- What the objects of a topology file say. This project's own.
use Rattle.std.specs.Prelude.{ℕ, ◌==◌, Bool, true, false, List, [], ◌∷◌, map, Option, Some, None, Result, codes}
use Rattle.std.specs.Result.{result_err, result_unwrap_or}
use Rattle.topology_form.specs.Prelude.{Data, most_fields, most_batch, most_partitions, most_tasks, most_bolt_inputs, most_state_inputs, most_bolts, most_states, most_ackers, most_pending, least_buckets, most_buckets, most_attempts, TopoFault, FileParts, Fold, Count, Sum, Last, Max, GroupingPart, Input, SpoutPart, ComponentPart, Bolt, State, Kind, Transactional, Opaque}
use Rattle.topology_form.specs.declared.parts.{GroupingWord.GroupingWord}
use Rattle.topology_form.specs.declared.parts.GroupingPart.TheVariants as said
use Rattle.topology_form.specs.declared.parts.GroupingWord.TheVariants as word
use Rattle.topology_form.specs.Operations.{an_operation}
use Rattle.topology_form.specs.Reading.{Reader, ◌>>=◌, done, required, optional, a_number, a_name, a_word, some_names, an_object, some_objects}
use Rattle.topology_plan.specs.declared.parts.Fold.TheVariants as fold_of

abbrev pub kinds : List (List ℕ × Kind)
kinds = (codes "transactional", Transactional) ∷ (codes "opaque", Opaque) ∷ []

-- whether a spout of this kind has partitions in a file of this version
abbrev pub has_partitions : ℕ → Kind → Bool
has_partitions version Transactional = false
has_partitions version Opaque = version == 2

-- the partitions, where a spout has them, and otherwise 0
abbrev pub partitions_if : Bool → Reader ℕ
partitions_if true = required (codes "partitions") (a_number 1 most_partitions)
partitions_if false = done 0

-- the spout in a file of this version
abbrev pub a_spout : ℕ → Reader SpoutPart
a_spout version = do
  name ← required (codes "name") a_name
  kind ← required (codes "kind") (a_word kinds)
  fields ← required (codes "fields") (some_names 1 most_fields)
  batch ← required (codes "batch") (a_number 1 most_batch)
  partitions ← partitions_if (has_partitions version kind)
  done (record {
    name = name;
    kind = kind;
    fields = fields;
    batch = batch;
    partitions = partitions;
  })

-- ---- bolts

abbrev pub a_key : Reader (List (List ℕ))
a_key = required (codes "key") (some_names 1 most_fields)

abbrev pub grouping_words : List (List ℕ × GroupingWord)
grouping_words =
    (codes "shuffle", word.Shuffle) ∷ (codes "fields", word.Fields)
    ∷ (codes "all", word.All) ∷ (codes "global", word.Global)
    ∷ (codes "direct", word.Direct) ∷ (codes "none", word.Shuffle)
    ∷ (codes "local_or_shuffle", word.Shuffle) ∷ []

-- what the file says of the grouping of a word, by the other members
abbrev pub grouping_of : GroupingWord → Reader GroupingPart
grouping_of word.Shuffle = done said.Shuffle
grouping_of word.Fields = do key ← a_key; done (said.Fields key)
grouping_of word.All = done said.All
grouping_of word.Global = done said.Global
grouping_of word.Direct = done said.Direct

abbrev pub a_grouping : Reader GroupingPart
a_grouping = do word ← required (codes "grouping") (a_word grouping_words); grouping_of word

-- an input of a bolt
abbrev pub an_input : Reader Input
an_input = do
  from ← required (codes "from") a_name
  grouping ← a_grouping
  done (record { from = from; grouping = grouping })

-- a bolt
abbrev pub a_bolt : Reader ComponentPart
a_bolt = do
  name ← required (codes "name") a_name
  tasks ← required (codes "tasks") (a_number 1 most_tasks)
  operation ← required (codes "op") (an_object an_operation)
  inputs ← required (codes "inputs") (some_objects 1 most_bolt_inputs (an_object an_input))
  done (record { name = name; tasks = tasks; inputs = inputs; body = Bolt operation })

-- ---- states

abbrev pub folds : List (List ℕ × Fold)
folds = (codes "count", Count) ∷ (codes "sum", Sum) ∷ (codes "last", Last) ∷ (codes "max", Max)
    ∷ (codes "custom", fold_of.Custom) ∷ []

-- the amount that every fold but a count has
abbrev pub amount_for : Fold → Reader (Option (List ℕ))
amount_for Count = done None
amount_for _ = do
  amount ← required (codes "amount") a_name
  done (Some amount)

-- inputs from these sources, each grouped by the key
abbrev pub grouped_by : List (List ℕ) → List (List ℕ) → List Input
grouped_by key names = map (λ from. record { from = from; grouping = said.Fields key }) names

-- a state
abbrev pub a_state : Reader ComponentPart
a_state = do
  name ← required (codes "name") a_name
  kind ← required (codes "kind") (a_word kinds)
  tasks ← required (codes "parts") (a_number 1 most_tasks)
  key ← a_key
  fold ← required (codes "fold") (a_word folds)
  amount ← amount_for fold
  names ← required (codes "inputs") (some_names 1 most_state_inputs)
  done (record {
    name = name;
    tasks = tasks;
    inputs = grouped_by key names;
    body = State (record { kind = kind; key = key; fold = fold; amount = amount });
  })

-- ---- the file

abbrev pub some_numbers : Reader (ℕ × ℕ × ℕ × ℕ)
some_numbers = do
  ackers ← optional (codes "ackers") 1 (a_number 1 most_ackers)
  pending ← optional (codes "pending") 1 (a_number 1 most_pending)
  buckets ← optional (codes "buckets") 3 (a_number least_buckets most_buckets)
  attempts ← optional (codes "attempts") 10 (a_number 1 most_attempts)
  done (ackers, pending, buckets, attempts)

abbrev pub a_file : Reader FileParts
a_file = do
  version ← required (codes "version") (a_number 1 2)
  spout ← required (codes "spout") (an_object (a_spout version))
  bolts ← required (codes "bolts") (some_objects 0 most_bolts (an_object a_bolt))
  states ← required (codes "states") (some_objects 1 most_states (an_object a_state))
  numbers ← some_numbers
  done (record {
    spout = spout;
    bolts = bolts;
    states = states;
    ackers = numbers.0;
    pending = numbers.1;
    buckets = numbers.2;
    attempts = numbers.3;
  })

-- a file that says nothing
abbrev pub blank : FileParts
blank = record {
  spout = record { name = []; kind = Transactional; fields = []; batch = 0; partitions = 0 };
  bolts = [];
  states = [];
  ackers = 0;
  pending = 0;
  buckets = 0;
  attempts = 0;
}

-- what a file's value says, or its first fault of form
abbrev pub file_of : Data → Result FileParts TopoFault
file_of = an_object a_file (codes "topology")

-- the first fault of form in a file's value
unfoldable pub form_fault : Data → Option TopoFault
form_fault value = result_err (file_of value)

-- what a file's value says, which means something where it has no fault of form
unfoldable pub parts_said : Data → FileParts
parts_said value = result_unwrap_or (file_of value) blank

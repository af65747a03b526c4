-- The fault of a line, by how far its reading comes.
use Rattle.std.proofs.Common.{◌≡◌, ◌≢◌, ℕ, suc, ◌<◌, ◌≤◌, ◌==◌, ltb, Bool, true, false, cond, Option, Some, None, option_map, option_and_then, List, [], ◌∷◌, length, refl, ap, sym, ◌∙◌, arith}
use Rattle.std.proofs.lemmas.Bool.Decides.{nat_tests}
use Rattle.std.proofs.lemmas.Str.{is_utf8-from_IsUtf8, IsUtf8-from_is_utf8}
use Rattle.std.proofs.lemmas.Option.{none-some}
use Rattle.std.specs.Str.{IsUtf8, is_utf8}
use Rattle.serde_json.specs.Data.{Data, Items, no_items, item}
use Rattle.serde_json.specs.Find.{as_array}
use Rattle.serde_json.specs.Read.{read}
use Rattle.storm_values.specs.declared.value.Value.{Value}
use Rattle.storm_values.specs.declared.lines.LineFault.{LineFault}
use Rattle.storm_values.specs.declared.lines.LineFault.TheVariants.{TooLong, BadItem, WrongCount}
use Rattle.storm_values.specs.Json.{json_of, value_of}
use Rattle.storm_values.specs.Lines.{first_some, array_of, values_of, item_count, first_bad_item, not_json, not_array, bad_item, wrong_count, line_fault, row_of}
use Rattle.storm_values.specs.steps.Texts.{unread_fault}

-- ---- what the bytes spell

read_as : (test : Bool) (found : Option Data) (entry : Data) → test ≡ true → found ≡ Some entry → cond test found None ≡ Some entry
read_as true found entry is spells = spells
read_as false found entry is spells = cc

pub json_of-Some : (bytes : List ℕ) (entry : Data) → IsUtf8 bytes → read bytes ≡ Some entry → json_of bytes ≡ Some entry
unfolding json_of
json_of-Some bytes entry utf8 spells = read_as (is_utf8 bytes) (read bytes) entry (is_utf8-from_IsUtf8 bytes utf8) spells

read_not : (test : Bool) (found : Option Data) → (test ≡ true → found ≡ None) → cond test found None ≡ None
read_not true found none = none refl
read_not false found none = refl

pub json_of-None : (bytes : List ℕ) → (IsUtf8 bytes → read bytes ≡ None) → json_of bytes ≡ None
unfolding json_of
json_of-None bytes none = read_not (is_utf8 bytes) (read bytes) (λ is. none (IsUtf8-from_is_utf8 bytes is))

-- ---- the items

pub values_of-Some : (entry : Data) (items : Items) (value : Value) → value_of entry ≡ Some value → values_of (item entry items) ≡ value ∷ values_of items
values_of-Some entry items value is = rw is

pub first_bad_item-Some : (at : ℕ) (entry : Data) (items : Items) (value : Value) → value_of entry ≡ Some value → first_bad_item at (item entry items) ≡ first_bad_item (suc at) items
first_bad_item-Some at entry items value is = rw is

pub first_bad_item-None : (at : ℕ) (entry : Data) (items : Items) → value_of entry ≡ None → first_bad_item at (item entry items) ≡ Some at
first_bad_item-None at entry items is = rw is

count_step : (found : Option Value) (at : ℕ) (entry : Data) (items : Items) → value_of entry ≡ found
    → ((next : ℕ) → first_bad_item next items ≡ None → length (values_of items) ≡ item_count items)
    → first_bad_item at (item entry items) ≡ None → length (values_of (item entry items)) ≡ item_count (item entry items)
count_step None at entry items is later good = absurd (let bad = first_bad_item-None at entry items is in cc)
count_step (Some value) at entry items is later good =
    rw (values_of-Some entry items value is) (ap suc (later (suc at) (sym (first_bad_item-Some at entry items value is) ∙ good)))

-- where no item is bad, there are as many values as items
pub length-values_of : (at : ℕ) (items : Items) → first_bad_item at items ≡ None → length (values_of items) ≡ item_count items
length-values_of at no_items good = refl
length-values_of at (item entry items) good =
    count_step (value_of entry) at entry items refl (λ next. length-values_of next items) good

-- ---- the faults, in their order

pub line_fault-TooLong : (line : List ℕ) (want : ℕ) → 4096 < length line → line_fault line want ≡ Some TooLong
unfolding line_fault
line_fault-TooLong line want long =
    let over : ltb 4096 (length line) ≡ true = grind (arith, nat_tests) in
    rw over

-- the faults after the first
abbrev later_faults : Option Data → Option Items → ℕ → Option LineFault
later_faults json array want = first_some (not_json json ∷ not_array array ∷ bad_item array ∷ wrong_count want array ∷ [])

line_fault-later : (line : List ℕ) (want : ℕ) → length line ≤ 4096 → line_fault line want ≡ later_faults (json_of line) (array_of line) want
unfolding line_fault
line_fault-later line want short =
    let within : ltb 4096 (length line) ≡ false = grind (arith, nat_tests) in
    rw within

-- a line that is no array of values
pub line_fault-unread : (line : List ℕ) (want : ℕ) (fault : LineFault) → length line ≤ 4096 → unread_fault line ≡ Some fault → line_fault line want ≡ Some fault
line_fault-unread line want fault short is = line_fault-later line want short ∙ more (not_json (json_of line)) (not_array (array_of line)) (bad_item (array_of line)) is
  where
    more : (a b c : Option LineFault) → first_some (a ∷ b ∷ c ∷ []) ≡ Some fault → first_some (a ∷ b ∷ c ∷ wrong_count want (array_of line) ∷ []) ≡ Some fault
    more (Some first) b c is = is
    more None (Some next) c is = is
    more None None (Some last) is = is
    more None None None is = absurd (none-some fault is)

later_faults-items : (json : Option Data) (items : Items) (want : ℕ) → option_and_then as_array json ≡ Some items
    → later_faults json (option_and_then as_array json) want ≡ first_some (bad_item (Some items) ∷ wrong_count want (Some items) ∷ [])
later_faults-items None items want is = cc
later_faults-items (Some entry) items want is = rw is

-- a line that is an array
line_fault-array : (line : List ℕ) (want : ℕ) (items : Items) → length line ≤ 4096 → array_of line ≡ Some items
    → line_fault line want ≡ first_some (bad_item (Some items) ∷ wrong_count want (Some items) ∷ [])
line_fault-array line want items short is = line_fault-later line want short ∙ later_faults-items (json_of line) items want is

all_good : (found : Option ℕ) → option_map BadItem found ≡ None → found ≡ None
all_good None good = refl
all_good (Some at) good = cc

count_of_good : (items : Items) → bad_item (Some items) ≡ None → item_count items ≡ length (values_of items)
count_of_good items good = sym (length-values_of 0 items (all_good (first_bad_item 0 items) good))

pub line_fault-WrongCount : (line : List ℕ) (want : ℕ) (items : Items) → length line ≤ 4096 → array_of line ≡ Some items
    → bad_item (Some items) ≡ None → length (values_of items) ≢ want → line_fault line want ≡ Some (WrongCount (length (values_of items)))
line_fault-WrongCount line want items short is good other =
    let differs : (length (values_of items) == want) ≡ false = grind (arith, nat_tests) in
    line_fault-array line want items short is ∙ rw (good, count_of_good items good, differs)

pub line_fault-None : (line : List ℕ) (want : ℕ) (items : Items) → length line ≤ 4096 → array_of line ≡ Some items
    → bad_item (Some items) ≡ None → length (values_of items) ≡ want → line_fault line want ≡ None
line_fault-None line want items short is good same =
    let agrees : (length (values_of items) == want) ≡ true = grind (arith, nat_tests) in
    line_fault-array line want items short is ∙ rw (good, count_of_good items good, agrees)

pub row_of-array : (line : List ℕ) (items : Items) → array_of line ≡ Some items → row_of line ≡ values_of items
unfolding row_of
row_of-array line items is = rw is

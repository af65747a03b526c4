-- How the members of an object are read, one after the other, and the first fault among
-- them. This project's own.
use Rattle.std.specs.Prelude.{◌≡◌, ◌≢◌, ℕ, ◌&&◌, ℤ, pos, List, [], ◌∷◌, length, int_le, unsigned_abs, if◌then◌else◌, Option, Some, None, option_and_then, map, Result, Ok, Err}
use Rattle.std.specs.Borrow.{Bor}
use Rattle.std.specs.Ordering.{nat_cmp, is_eq}
use Rattle.std.specs.Cmp.Lexicographic.{slice_cmp}
use Rattle.std.specs.Option.{option_map_or}
use Rattle.std.specs.Str.{bytes_eq}
use Rattle.topology_form.specs.Prelude.{Data, Items, no_items, item, Members, no_members, member, is_name, TopoFault, Missing, WrongKind, UnknownName, OutOfRange, Memory, get_member, as_str, as_number, as_array, as_object, as_i64, items_len, Value, members_view, most_constant_bytes}
use Rattle.topology_form.specs.declared.object.Object.{Object}
use Rattle.storm_values.specs.Json.{value_of}
use Rattle.storm_values.specs.declared.value.Value.TheVariants.{Int, Text}

-- ---- what a function gives

-- a function gives what the reading gives: a fault is that of the reading, unless memory ran out
abbrev pub Gives : {A : Type 0} → Result A TopoFault → Result A TopoFault → Type 0
Gives (Ok x) read = read ≡ Ok x
Gives (Err fault) read = fault ≢ Memory → read ≡ Err fault

-- the same, and these members are left
abbrev pub Takes : {A : Type 0} → Result A TopoFault → Members → Result (A × Members) TopoFault
    → Type 0
Takes (Ok x) rest read = read ≡ Ok (x, rest)
Takes (Err fault) rest read = fault ≢ Memory → read ≡ Err fault

-- a check passes where there is no fault, and otherwise answers it, unless memory ran out
abbrev pub Checks : {A : Type 0} → Result A TopoFault → Option TopoFault → Type 0
Checks (Ok x) fault = fault ≡ None
Checks (Err told) fault = told ≢ Memory → fault ≡ Some told

-- ---- forms

-- what is read from a member with this name and value
abbrev pub Form : Type 0 → Type 0
Form A = List ℕ → Data → Result A TopoFault

-- what follows what was read, if it has no fault
abbrev pub and_then : {A B : Type 0} → Result A TopoFault → (A → Result B TopoFault)
    → Result B TopoFault
and_then (Ok x) next = next x
and_then (Err fault) next = Err fault

-- of the wrong kind, or what follows
abbrev pub of_kind : {A B : Type 0} → List ℕ → Option A → (A → Result B TopoFault)
    → Result B TopoFault
of_kind name found next = option_map_or next found (Err (WrongKind name))

-- a number or a length that is out of its range
abbrev pub range_fault : List ℕ → ℕ → ℕ → ℤ → Option TopoFault
range_fault name least most found =
    if int_le (pos least) found && int_le found (pos most) then None
    else Some (OutOfRange name found least most)

-- one that has to be in its range, and what follows
abbrev pub within : {A : Type 0} → List ℕ → ℕ → ℕ → ℤ → Result A TopoFault → Result A TopoFault
within name least most found next = option_map_or Err (range_fault name least most found) next

-- a number in this range
abbrev pub a_number : ℕ → ℕ → Form ℕ
a_number least most name value =
    of_kind name (option_and_then as_i64 (as_number value))
    (λ n. within name least most n (Ok (unsigned_abs n)))

-- a name
abbrev pub a_name : Form (List ℕ)
a_name name value =
    of_kind name (as_str value) (λ text. if is_name text then Ok text else Err (WrongKind name))

-- each item of an array by a form, up to the first fault
abbrev pub each : {A : Type 0} → Form A → List ℕ → Items → Result (List A) TopoFault
each form name no_items = Ok []
each form name (item value items) =
    and_then (form name value)
    (λ first. and_then (each form name items) (λ others. Ok (first ∷ others)))

-- an array of names, this many: the form of all items comes before their number
abbrev pub some_names : ℕ → ℕ → Form (List (List ℕ))
some_names least most name value =
    of_kind name (as_array value)
    (λ items. and_then (each a_name name items)
    (λ names. within name least most (pos (length names)) (Ok names)))

-- a number, or a text of at most `most_constant_bytes`
abbrev pub short : List ℕ → Value → Result Value TopoFault
short name (Int number) = Ok (Int number)
short name (Text text) = within name 0 most_constant_bytes (pos (length text)) (Ok (Text text))

abbrev pub a_constant : Form Value
a_constant name value = of_kind name (value_of value) (short name)

-- an array of these, this many: first its length, then item by item
abbrev pub some_objects : {A : Type 0} → ℕ → ℕ → Form A → Form (List A)
some_objects least most form name value =
    of_kind name (as_array value)
    (λ items. within name least most (pos (items_len items)) (each form name items))

-- what is beside a word in a table
abbrev pub found_in : {A : Type 0} → List (List ℕ × A) → List ℕ → Result A TopoFault
found_in [] word = Err (UnknownName word)
found_in (pair ∷ pairs) word = if bytes_eq word pair.0 then Ok pair.1 else found_in pairs word

-- one of the words of this table
abbrev pub a_word : {A : Type 0} → List (List ℕ × A) → Form A
a_word words name value = of_kind name (as_str value) (found_in words)

-- ---- objects

-- what is read from an object's members, and those that are left
abbrev pub Reader : Type 0 → Type 0
Reader A = Members → Result (A × Members) TopoFault

infixl 10 ◌>>=◌
abbrev pub ◌>>=◌ : {A C : Type 0} → Reader A → (A → Members → Result C TopoFault) → Members
    → Result C TopoFault
(first >>= next) object = and_then (first object) (λ read. next read.0 read.1)

-- what was read, and the members that are left
abbrev pub done : {A : Type 0} → A → Reader A
done x object = Ok (x, object)

-- what was read, where no member is left
abbrev pub ends : {A : Type 0} → A → Members → Result A TopoFault
ends x no_members = Ok x
ends x (member name value rest) = Err (UnknownName name)

-- an object with these members and no other
abbrev pub an_object : {A : Type 0} → Reader A → Form A
an_object reader name value = of_kind name (as_object value) (reader >>= ends)

-- the members that an object still has
abbrev pub left_in : Object → Members
left_in object = members_view object.members.entries

-- the members without the one of this name
abbrev pub without : List ℕ → Members → Members
without name no_members = no_members
without name (member other value members) =
    if is_eq (slice_cmp nat_cmp name other) then members
    else member other value (without name members)

-- what the member of a name says by its form, or this where there is none, and the other members
abbrev pub read_or : {A : Type 0} → Result A TopoFault → List ℕ → Form A → Reader A
read_or other name form object =
    and_then (option_map_or (form name) (get_member name object) other)
    (λ read. Ok (read, without name object))

-- a member that has to be there
unfoldable pub required : {A : Type 0} → List ℕ → Form A → Reader A
required name form = read_or (Err (Missing name)) name form

-- a member that may be absent
unfoldable pub optional : {A : Type 0} → List ℕ → A → Form A → Reader A
optional name default form = read_or (Ok default) name form

-- a table as its words and what is beside them
abbrev pub pairs_of : {A : Type 0} → List (Bor (List ℕ) × A) → List (List ℕ × A)
pairs_of {A} pairs = map (λ (pair : Bor (List ℕ) × A). (pair.0.now, pair.1)) pairs

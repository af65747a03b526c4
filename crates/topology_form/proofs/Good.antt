-- What holds of whatever is read, by how it is read.
use Rattle.std.proofs.Common.{◌≡◌, ℕ, ◌&&◌, ℤ, pos, negsuc, List, ◌∷◌, length, All, Bool, true, false, int_le, if◌then◌else◌, Option, Some, None, option_and_then, unsigned_abs, Result, Ok, Err, IfOk, suc, refl, ap, sym, subst, arith}
use Rattle.std.proofs.lemmas.Bool.Decides.{nat_tests}
use Rattle.std.proofs.lemmas.List.Elements.{All-nil, All-cons}
use Rattle.std.specs.Option.{option_map_or}
use Rattle.topology_form.specs.Prelude.{Data, Items, no_items, item, Members, no_members, member, is_name, IsName, TopoFault, Missing, WrongKind, OutOfRange, get_member, as_str, as_number, as_array, as_object, as_i64, items_len, Value, most_constant_bytes}
use Rattle.storm_values.specs.Json.{value_of}
use Rattle.storm_values.specs.declared.value.Value.TheVariants.{Int, Text}
use Rattle.topology_plan.specs.Valid.{IsBetween}
use Rattle.topology_plan.specs.Functions.{IsConstant}
use Rattle.topology_form.specs.Reading.{Form, Reader, of_kind, within, each, some_names, some_objects, a_number, a_name, short, a_constant, an_object, and_then, ◌>>=◌, done, ends, without, read_or, required, optional}

-- P holds of what is read by the form
pub record IsOf {A : Type 0} (P : A → Type 0) (form : Form A) : Type 0 where
  pub holds : (name : List ℕ) (value : Data) → IfOk (form name value) P

-- P holds of what is made of the members
pub record Makes {C : Type 0} (P : C → Type 0) (part_of : Members → Result C TopoFault) : Type 0 where
  pub holds : (object : Members) → IfOk (part_of object) P

-- P holds of what a reader takes
pub record Reads {A : Type 0} (P : A → Type 0) (reader : Reader A) : Type 0 where
  pub holds : (object : Members) → IfOk (reader object) (λ x. P x.0)

-- ---- steps

after : {A C : Type 0} (P : A → Type 0) (Q : C → Type 0) (read : Result A TopoFault) (next : A → Result C TopoFault) → IfOk read P → ((x : A) → P x → IfOk (next x) Q) → IfOk (and_then read next) Q
after P Q (Ok x) next good later = later x good
after P Q (Err fault) next good later = tt

pub first : {A C : Type 0} {P : A → Type 0} {Q : C → Type 0} {reader : Reader A} {next : A → Members → Result C TopoFault}
    → Reads P reader → ((x : A) → P x → Makes Q (next x)) → Makes Q (reader >>= next)
first {A} {C} {P} {Q} {reader} {next} good later = record { holds = λ object. after (λ x. P x.0) Q (reader object) (λ read. next read.0 read.1) (good.holds object) (λ x holds. (later x.0 holds).holds x.1) }

ended : {A : Type 0} (P : A → Type 0) (x : A) → P x → (object : Members) → IfOk (ends x object) P
ended P x good no_members = good
ended P x good (member name value rest) = tt

pub had : {A : Type 0} (P : A → Type 0) {x : A} → P x → Makes (λ y. P y.0) (done x)
had P good = record { holds = λ object. good }

pub reads : {A : Type 0} {P : A → Type 0} {reader : Reader A} → Makes (λ x. P x.0) reader → Reads P reader
reads good = record { holds = good.holds }

of_kind_makes : {A B : Type 0} (P : B → Type 0) (name : List ℕ) (found : Option A) (next : A → Result B TopoFault) → ((x : A) → IfOk (next x) P) → IfOk (of_kind name found next) P
of_kind_makes P name None next good = tt
of_kind_makes P name (Some x) next good = good x

pub object_of : {A : Type 0} {P : A → Type 0} {reader : Reader A} → Makes (λ x. P x.0) reader → IsOf P (an_object reader)
object_of {A} {P} {reader} good = record {
  holds = λ name value. of_kind_makes P name (as_object value) (reader >>= ends)
      (λ object. after (λ x. P x.0) P (reader object) (λ read. ends read.0 read.1) (good.holds object) (λ x holds. ended P x.0 holds x.1));
}

-- ---- members

member_or : {A : Type 0} (P : A → Type 0) (other : Result A TopoFault) (name : List ℕ) (form : Form A) → IfOk other P → IsOf P form → (found : Option Data) → IfOk (option_map_or (form name) found other) P
member_or P other name form fits good None = fits
member_or P other name form fits good (Some value) = good.holds name value

reads_or : {A : Type 0} (P : A → Type 0) (other : Result A TopoFault) (name : List ℕ) (form : Form A) → IfOk other P → IsOf P form → Reads P (read_or other name form)
reads_or P other name form fits good = record { holds = λ object. after P (λ x. P x.0) _ (λ read. Ok (read, without name object)) (member_or P other name form fits good (get_member name object)) (λ x holds. holds) }

pub a_member : {A : Type 0} {P : A → Type 0} (name : List ℕ) {form : Form A} → IsOf P form → Reads P (required name form)
unfolding required
a_member {A} {P} name {form} good = reads_or P (Err (Missing name)) name form tt good

pub may_be : {A : Type 0} {P : A → Type 0} (name : List ℕ) (default : A) {form : Form A} → P default → IsOf P form → Reads P (optional name default form)
unfolding optional
may_be {A} {P} name default {form} fits good = reads_or P (Ok default) name form fits good

-- ---- forms

within_by : {A : Type 0} (P : A → Type 0) (name : List ℕ) (least most n : ℕ) (next : Result A TopoFault) (test : Bool) → (int_le (pos least) (pos n) && int_le (pos n) (pos most)) ≡ test
    → (IsBetween n least most → IfOk next P) → IfOk (option_map_or Err (if test then None else Some (OutOfRange name (pos n) least most)) next) P
within_by P name least most n next true is good = good (grind (arith, nat_tests))
within_by P name least most n next false is good = tt

within_makes : {A : Type 0} (P : A → Type 0) (name : List ℕ) (least most n : ℕ) (next : Result A TopoFault) → (IsBetween n least most → IfOk next P) → IfOk (within name least most (pos n) next) P
within_makes P name least most n next good = within_by P name least most n next (int_le (pos least) (pos n) && int_le (pos n) (pos most)) refl good

number_found : (name : List ℕ) (least most : ℕ) (found : ℤ) → IfOk (within name least most found (Ok (unsigned_abs found))) (λ n. IsBetween n least most)
number_found name least most (pos n) = within_makes (λ n. IsBetween n least most) name least most n (Ok n) (λ is. is)
number_found name least most (negsuc n) = tt

pub number_of : {least most : ℕ} → IsOf (λ n. IsBetween n least most) (a_number least most)
number_of {least} {most} = record { holds = λ name value. of_kind_makes (λ n. IsBetween n least most) name (option_and_then as_i64 (as_number value)) (λ found. within name least most found (Ok (unsigned_abs found))) (number_found name least most) }

tested : (name text : List ℕ) (fault : TopoFault) (test : Bool) → (is_name text ≡ test) → IfOk (if test then Ok text else Err fault) IsName
unfolding IsName
tested name text fault true is = is
tested name text fault false is = tt

pub name_of : IsOf IsName a_name
name_of = record { holds = λ name value. of_kind_makes IsName name (as_str value) (λ text. if is_name text then Ok text else Err (WrongKind name)) (λ text. tested name text (WrongKind name) (is_name text) refl) }

anything : {A : Type 0} (read : Result A TopoFault) → IfOk read (λ _. Unit {0})
anything (Ok x) = tt
anything (Err fault) = tt

-- any value of a form
pub any_of : {A : Type 0} {form : Form A} → IsOf (λ _. Unit {0}) form
any_of {A} {form} = record { holds = λ name value. anything (form name value) }

-- what an array's items are read as
pub record AreRead {A : Type 0} (P : A → Type 0) (n : ℕ) (xs : List A) : Type 0 where
  pub count : length xs ≡ n
  pub each : All P xs

others_read : {A : Type 0} (P : A → Type 0) (count : ℕ) (first : Result A TopoFault) (others : Result (List A) TopoFault) → IfOk first P → IfOk others (AreRead P count) → IfOk (and_then first (λ x. and_then others (λ xs. Ok (x ∷ xs)))) (AreRead P (suc count))
others_read P count (Ok x) (Ok xs) here later = record { count = ap suc later.count; each = All-cons P x xs here later.each }
others_read P count (Ok x) (Err fault) here later = tt
others_read P count (Err fault) others here later = tt

each_read : {A : Type 0} (P : A → Type 0) (form : Form A) → IsOf P form → (name : List ℕ) (items : Items) → IfOk (each form name items) (AreRead P (items_len items))
each_read P form good name no_items = record { count = refl; each = All-nil P }
each_read P form good name (item value items) = others_read P (items_len items) (form name value) (each form name items) (good.holds name value) (each_read P form good name items)

-- this many, and P holds of each
abbrev pub AreSome : {A : Type 0} → (A → Type 0) → ℕ → ℕ → List A → Type 0
AreSome P least most xs = IsBetween (length xs) least most × All P xs

pub names_of : {least most : ℕ} → IsOf (AreSome IsName least most) (some_names least most)
names_of {least} {most} = record {
  holds = λ name value. of_kind_makes (AreSome IsName least most) name (as_array value) (λ items. and_then (each a_name name items) (λ names. within name least most (pos (length names)) (Ok names)))
      (λ items. after (AreRead IsName (items_len items)) (AreSome IsName least most) (each a_name name items) (λ names. within name least most (pos (length names)) (Ok names)) (each_read IsName a_name name_of name items)
      (λ names good. within_makes (AreSome IsName least most) name least most (length names) (Ok names) (λ is. (is, good.each))));
}

so_many : {A : Type 0} (P : A → Type 0) (least most count : ℕ) (read : Result (List A) TopoFault) → IfOk read (AreRead P count) → IsBetween count least most → IfOk read (AreSome P least most)
so_many P least most count (Ok xs) good is = (subst (λ n. IsBetween n least most) (sym good.count) is, good.each)
so_many P least most count (Err fault) good is = tt

pub objects_of : {A : Type 0} {P : A → Type 0} {least most : ℕ} {form : Form A} → IsOf P form → IsOf (AreSome P least most) (some_objects least most form)
objects_of {A} {P} {least} {most} {form} good = record {
  holds = λ name value. of_kind_makes (AreSome P least most) name (as_array value) (λ items. within name least most (pos (items_len items)) (each form name items))
      (λ items. within_makes (AreSome P least most) name least most (items_len items) (each form name items) (so_many P least most (items_len items) (each form name items) (each_read P form good name items)));
}

short_is : (name : List ℕ) (value : Value) → IfOk (short name value) IsConstant
short_is name (Int number) = tt
short_is name (Text text) = within_makes IsConstant name 0 most_constant_bytes (length text) (Ok (Text text)) (λ is. is.1)

pub constant_of : IsOf IsConstant a_constant
constant_of = record { holds = λ name value. of_kind_makes IsConstant name (value_of value) (short name) (short_is name) }

-- What a line says and the event that is read of it are the same.
use Rattle.std.proofs.Common.{◌≡◌, ℕ, ◌≤◌, ◌&&◌, leb, Bool, true, false, cond, Option, Some, None, option_map, option_and_then, List, [], ◌∷◌, ◌++◌, length, take, drop, codes, refl, ap, sym, subst, ◌∙◌, arith}
use Rattle.std.specs.Char.{is_ascii_digit}
use Rattle.std.specs.List.{list_all}
use Rattle.std.specs.Str.{bytes_eq}
use Rattle.std.specs.Str.Parse.{digits_value}
use Rattle.std.proofs.lemmas.Bool.Decides.{nat_tests}
use Rattle.std.proofs.lemmas.List.{take-append-drop}
use Rattle.std.proofs.lemmas.Option.{same_Some}
use Rattle.std.proofs.lemmas.Slice.Eq.{bytes_eq-Decides}
use Rattle.storm_values.specs.Lines.{first_some}
use Rattle.schedule_reader.specs.Limits.{most_rounds}
use Rattle.schedule_reader.specs.Schedules.{AreDigits, SaysNumber, Says, number_of, number_after, said_by, few_rounds, event_of}
use Rattle.schedule_reader.specs.declared.event.Event.{Event}
use Rattle.schedule_reader.specs.declared.event.Event.TheVariants.{Task, Acker, Coord, Tick, Shut, Open, Rounds}

-- ---- a line is read as what it says

number_of-Some : (digits : List ℕ) (n : ℕ) → AreDigits digits → n ≡ digits_value 10 digits
    → number_of digits ≡ Some n
number_of-Some digits n are is =
    let some : leb 1 (length digits) ≡ true = grind (arith, nat_tests, are.0) in
    let few : leb (length digits) 8 ≡ true = grind (arith, nat_tests, are.1) in
    let all : list_all is_ascii_digit digits ≡ true = are.2 in
    rw (some, few, all, is)

-- one that stands before none
before_none : (found : Option Event) (later : List (Option Event)) → first_some later ≡ None
    → first_some (found ∷ later) ≡ found
before_none None later none = none
before_none (Some event) later none = refl

read_task : (digits : List ℕ)
    → event_of (codes "task " ++ digits) ≡ option_map Task (number_of digits)
unfolding event_of
read_task digits =
    before_none (option_map Task (number_of digits))
    (None ∷ None ∷ None ∷ None ∷ None ∷ None ∷ []) refl

read_acker : (digits : List ℕ)
    → event_of (codes "acker " ++ digits) ≡ option_map Acker (number_of digits)
unfolding event_of
read_acker digits =
    before_none (option_map Acker (number_of digits)) (None ∷ None ∷ None ∷ None ∷ None ∷ []) refl

read_shut : (digits : List ℕ)
    → event_of (codes "shut " ++ digits) ≡ option_map Shut (number_of digits)
unfolding event_of
read_shut digits = before_none (option_map Shut (number_of digits)) (None ∷ None ∷ []) refl

read_open : (digits : List ℕ)
    → event_of (codes "open " ++ digits) ≡ option_map Open (number_of digits)
unfolding event_of
read_open digits = before_none (option_map Open (number_of digits)) (None ∷ []) refl

read_rounds : (digits : List ℕ)
    → event_of (codes "rounds " ++ digits) ≡ option_and_then few_rounds (number_of digits)
unfolding event_of
read_rounds digits = before_none (option_and_then few_rounds (number_of digits)) [] refl

read_coord : event_of (codes "coord") ≡ Some Coord
unfolding event_of
read_coord = refl

read_tick : event_of (codes "tick") ≡ Some Tick
unfolding event_of
read_tick = refl

few_rounds-Some : (n : ℕ) → n ≤ most_rounds → few_rounds n ≡ Some (Rounds n)
few_rounds-Some n few =
    let within : leb n 10000000 ≡ true = grind (arith, nat_tests) in
    rw within

pub read_of_said : (line : List ℕ) (event : Event) → Says line event → event_of line ≡ Some event
read_of_said line (Task n) (digits, are, value, is) =
    rw is (read_task digits ∙ ap (option_map Task) (number_of-Some digits n are value))
read_of_said line (Acker n) (digits, are, value, is) =
    rw is (read_acker digits ∙ ap (option_map Acker) (number_of-Some digits n are value))
read_of_said line Coord is = rw is read_coord
read_of_said line Tick is = rw is read_tick
read_of_said line (Shut n) (digits, are, value, is) =
    rw is (read_shut digits ∙ ap (option_map Shut) (number_of-Some digits n are value))
read_of_said line (Open n) (digits, are, value, is) =
    rw is (read_open digits ∙ ap (option_map Open) (number_of-Some digits n are value))
read_of_said line (Rounds n) ((digits, are, value, is), few) =
    let number = number_of-Some digits n are value in
    rw is (read_rounds digits ∙ ap (option_and_then few_rounds) number ∙ few_rounds-Some n few)

-- ---- what is read of a line is what it says

number_by : (some few all : Bool) (digits : List ℕ) (n : ℕ) → leb 1 (length digits) ≡ some
    → leb (length digits) 8 ≡ few → list_all is_ascii_digit digits ≡ all
    → cond (some && few && all) (Some (digits_value 10 digits)) None ≡ Some n
    → AreDigits digits × (n ≡ digits_value 10 digits)
number_by false few all digits n is_some is_few are is = cc
number_by true false all digits n is_some is_few are is = cc
number_by true true false digits n is_some is_few are is = cc
number_by true true true digits n is_some is_few are is =
    let value : n ≡ digits_value 10 digits = sym (same_Some (digits_value 10 digits) n is) in
    ((grind (arith, nat_tests), grind (arith, nat_tests), are), value)

said_number : (digits : List ℕ) (n : ℕ) → number_of digits ≡ Some n
    → AreDigits digits × (n ≡ digits_value 10 digits)
said_number digits n is =
    let some = leb 1 (length digits) in
    let few = leb (length digits) 8 in
    number_by some few (list_all is_ascii_digit digits) digits n refl refl refl is

after_by : (begins : Bool) (word line : List ℕ) (n : ℕ)
    → bytes_eq (take (length word) line) word ≡ begins
    → option_and_then number_of (cond begins (Some (drop (length word) line)) None) ≡ Some n
    → SaysNumber word n line
after_by false word line n is read = cc
after_by true word line n is read =
    let number = said_number (drop (length word) line) n read in
    let front = (bytes_eq-Decides (take (length word) line) word).0 is in
    let parts = sym (take-append-drop (length word) line) in
    let whole : line ≡ word ++ drop (length word) line = rw front at parts in
    (drop (length word) line, number.0, number.1, whole)

said_after : (word line : List ℕ) (n : ℕ) → number_after word line ≡ Some n → SaysNumber word n line
said_after word line n read =
    after_by (bytes_eq (take (length word) line) word) word line n refl read

task_said : (found : Option ℕ) (line : List ℕ) (event : Event)
    → number_after (codes "task ") line ≡ found → option_map Task found ≡ Some event
    → Says line event
task_said None line event is read = cc
task_said (Some n) line event is read =
    subst (Says line) (same_Some (Task n) event read) (said_after (codes "task ") line n is)

acker_said : (found : Option ℕ) (line : List ℕ) (event : Event)
    → number_after (codes "acker ") line ≡ found → option_map Acker found ≡ Some event
    → Says line event
acker_said None line event is read = cc
acker_said (Some n) line event is read =
    subst (Says line) (same_Some (Acker n) event read) (said_after (codes "acker ") line n is)

shut_said : (found : Option ℕ) (line : List ℕ) (event : Event)
    → number_after (codes "shut ") line ≡ found → option_map Shut found ≡ Some event
    → Says line event
shut_said None line event is read = cc
shut_said (Some n) line event is read =
    subst (Says line) (same_Some (Shut n) event read) (said_after (codes "shut ") line n is)

open_said : (found : Option ℕ) (line : List ℕ) (event : Event)
    → number_after (codes "open ") line ≡ found → option_map Open found ≡ Some event
    → Says line event
open_said None line event is read = cc
open_said (Some n) line event is read =
    subst (Says line) (same_Some (Open n) event read) (said_after (codes "open ") line n is)

rounds_by : (few : Bool) (n : ℕ) (line : List ℕ) (event : Event)
    → number_after (codes "rounds ") line ≡ Some n → leb n 10000000 ≡ few
    → cond few (Some (Rounds n)) None ≡ Some event → Says line event
rounds_by false n line event is few read = cc
rounds_by true n line event is few read =
    let within : n ≤ most_rounds = grind (arith, nat_tests) in
    let said = said_after (codes "rounds ") line n is in
    subst (Says line) (same_Some (Rounds n) event read) (said, within)

rounds_said : (found : Option ℕ) (line : List ℕ) (event : Event)
    → number_after (codes "rounds ") line ≡ found → option_and_then few_rounds found ≡ Some event
    → Says line event
rounds_said None line event is read = cc
rounds_said (Some n) line event is read = rounds_by (leb n 10000000) n line event is refl read

word_by : (same : Bool) (word line : List ℕ) (this event : Event) → bytes_eq line word ≡ same
    → (line ≡ word → Says line this)
    → cond same (Some this) None ≡ Some event → Says line event
word_by false word line this event is says read = cc
word_by true word line this event is says read =
    subst (Says line) (same_Some this event read) (says ((bytes_eq-Decides line word).0 is))

word_said : (word line : List ℕ) (this event : Event) → (line ≡ word → Says line this)
    → said_by word this line ≡ Some event → Says line event
word_said word line this event says read =
    word_by (bytes_eq line word) word line this event refl says read

-- the first that is there is one of them
first_of : {P : Type 0} (a b c d e f g : Option Event) (event : Event) → (a ≡ Some event → P)
    → (b ≡ Some event → P) → (c ≡ Some event → P) → (d ≡ Some event → P) → (e ≡ Some event → P)
    → (f ≡ Some event → P) → (g ≡ Some event → P)
    → first_some (a ∷ b ∷ c ∷ d ∷ e ∷ f ∷ g ∷ []) ≡ Some event → P
first_of (Some x) b c d e f g event from_a from_b from_c from_d from_e from_f from_g is =
    from_a is
first_of None (Some x) c d e f g event from_a from_b from_c from_d from_e from_f from_g is =
    from_b is
first_of None None (Some x) d e f g event from_a from_b from_c from_d from_e from_f from_g is =
    from_c is
first_of None None None (Some x) e f g event from_a from_b from_c from_d from_e from_f from_g is =
    from_d is
first_of None None None None (Some x) f g event from_a from_b from_c from_d from_e from_f from_g is =
    from_e is
first_of None None None None None (Some x) g event from_a from_b from_c from_d from_e from_f from_g is =
    from_f is
first_of None None None None None None (Some x) event from_a from_b from_c from_d from_e from_f from_g is =
    from_g is
first_of None None None None None None None event from_a from_b from_c from_d from_e from_f from_g is =
    cc

pub said_of_read : (line : List ℕ) (event : Event) → event_of line ≡ Some event → Says line event
unfolding event_of
said_of_read line event read =
    first_of
    (option_map Task (number_after (codes "task ") line))
    (option_map Acker (number_after (codes "acker ") line))
    (said_by (codes "coord") Coord line)
    (said_by (codes "tick") Tick line)
    (option_map Shut (number_after (codes "shut ") line))
    (option_map Open (number_after (codes "open ") line))
    (option_and_then few_rounds (number_after (codes "rounds ") line))
    event
    (task_said (number_after (codes "task ") line) line event refl)
    (acker_said (number_after (codes "acker ") line) line event refl)
    (word_said (codes "coord") line Coord event (λ is. is))
    (word_said (codes "tick") line Tick event (λ is. is))
    (shut_said (number_after (codes "shut ") line) line event refl)
    (open_said (number_after (codes "open ") line) line event refl)
    (rounds_said (number_after (codes "rounds ") line) line event refl)
    read

-- A parse of plain words succeeds exactly where they are a command's, and reads it.
use Rattle.std.proofs.Common.{◌≡◌, Bool, true, false, ◌&&◌, List, [], ◌∷◌, Some, None, codes, refl, sym, ap, ap₂, ◌∙◌}
use Rattle.std.specs.List.{list_all}
use Rattle.std.proofs.lemmas.Bool.{and_parts, true≢false}
use Rattle.std.proofs.lemmas.Option.{none-some}
use Rattle.clap.specs.Kinds.{Kinds, or_else}
use Rattle.clap.specs.Words.{App, Shape, Text, fault_of, subcommand_of}
use Rattle.clap.specs.Simple.{built, built_leaf, entered, inherited, rows_at}
use Rattle.clap.specs.Walk.{Walk, nothing_held, finished, walk, walked}
use Rattle.clap.specs.Faults.{level_fault, walk_fault, defaults_fault}
use Rattle.storm_words.specs.Words.{Command, is_word, command_of}
use Rattle.storm_words.specs.steps.Parser.{storm_app, check_app, plain_app, replay_app, run_app, load_app, track_app, fold_app}
use Rattle.storm_words.specs.steps.Reading.{read_of}
use Rattle.storm_words.proofs.Walks.{GoesOn, GoesOnTwo, GoesOnThree, after_one, after_two, after_three, start, enters, leaf_ending, one_text, two_texts, three_texts, one_fault, two_faults, three_faults, four_faults}

abbrev pub is_none : Kinds → Bool
is_none [] = true
is_none (k ∷ ks) = false

-- words whose parse has no fault exactly where they are a command, and reads that one
pub record Agrees (words : List Text) : Type 0 where
  pub taken : fault_of storm_app words ≡ [] → read_of (subcommand_of storm_app words) ≡ command_of words
  pub given : (k : Command) → command_of words ≡ Some k → fault_of storm_app words ≡ []

-- words that are no command, and whose parse has a fault
pub refused : (words : List Text) → is_none (fault_of storm_app words) ≡ false → command_of words ≡ None → Agrees words
refused words bad none =
    record {
      taken = λ fine. absurd (true≢false (sym (ap is_none fine) ∙ bad));
      given = λ k h. absurd (none-some k (sym none ∙ h));
    }

-- words whose parse has no fault, and reads what they are
pub accepted : (words : List Text) → fault_of storm_app words ≡ [] → read_of (subcommand_of storm_app words) ≡ command_of words → Agrees words
accepted words fine reads = record { taken = λ _. reads; given = λ k h. fine }

-- ---- the subcommands as they are built

abbrev pub app : App
app = built storm_app

abbrev leaf : App → Shape
leaf sub = built_leaf (inherited app.top sub.top)

-- the words after a subcommand's name decide
abbrev Enters : Shape → Text → Type 0
Enters s name = (rest : List Text) → (fault_of storm_app (name ∷ rest) ≡ or_else (level_fault s [] nothing_held rest false []) [])
    × (subcommand_of storm_app (name ∷ rest) ≡ Some (rows_at s rest))

-- as many words after a subcommand's name as it takes
good : (s : Shape) (name : Text) (rest : List Text) → Enters s name → (w : Walk) → walk s.rules [] nothing_held rest ≡ w → walk_fault s [] start rest ≡ [] → leaf_ending s w [] ≡ []
    → read_of (Some (s.name, finished s.rules w.held)) ≡ command_of (name ∷ rest) → Agrees (name ∷ rest)
good s name rest enter w ended fine done reads =
    let e = enter rest in
    let fault : level_fault s [] nothing_held rest false [] ≡ [] = ap₂ (leaf_ending s) ended fine ∙ done in
    accepted (name ∷ rest) (e.0 ∙ ap (λ (f : Kinds). or_else f []) fault)
    (ap read_of (e.1 ∙ ap (λ (v : Walk). Some (s.name, finished s.rules v.held)) ended) ∙ reads)

-- too few of them: the fault comes at the end
short : (s : Shape) (name : Text) (rest : List Text) → Enters s name → (w : Walk) → walk s.rules [] nothing_held rest ≡ w → walk_fault s [] start rest ≡ []
    → is_none (or_else (leaf_ending s w []) []) ≡ false → command_of (name ∷ rest) ≡ None → Agrees (name ∷ rest)
short s name rest enter w ended fine bad none =
    let fault : level_fault s [] nothing_held rest false [] ≡ leaf_ending s w [] = ap₂ (leaf_ending s) ended fine in
    refused (name ∷ rest) (ap is_none ((enter rest).0 ∙ ap (λ (f : Kinds). or_else f []) fault) ∙ bad) none

-- too many of them: the fault comes at the first that has no place
long : (s : Shape) (name : Text) (rest : List Text) → Enters s name → (k : _) (ks : Kinds) → walk_fault s [] start rest ≡ k ∷ ks → command_of (name ∷ rest) ≡ None → Agrees (name ∷ rest)
long s name rest enter k ks bad none =
    refused (name ∷ rest) (ap is_none ((enter rest).0 ∙ ap (λ (f : Kinds). or_else (leaf_ending s (walk s.rules [] nothing_held rest) f) []) bad)) none

-- ---- check

abbrev check_leaf : Shape
check_leaf = leaf check_app

check_enters : Enters check_leaf (codes "check")
unfolding walked walk_fault defaults_fault
check_enters rest =
    let e = enters app (codes "check") rest refl refl in
    (e.0, ap (λ (w : Walk). entered app w.stopped) e.1)

check_on : GoesOn check_leaf
check_on a = refl

pub check_agrees : (rest : List Text) → list_all is_word rest ≡ true → Agrees (codes "check" ∷ rest)
unfolding walk_fault defaults_fault
check_agrees [] g = short check_leaf (codes "check") [] check_enters start refl refl refl refl
check_agrees (t ∷ []) g =
    let h = and_parts (is_word t) true g in
    good check_leaf (codes "check") (t ∷ []) check_enters (after_one check_leaf t) (one_text check_leaf t [] h.0) (one_fault check_leaf t [] h.0) refl refl
check_agrees (t ∷ u ∷ []) g =
    let h = and_parts (is_word t) (is_word u && true) g in
    let i = and_parts (is_word u) true h.1 in
    long check_leaf (codes "check") (t ∷ u ∷ []) check_enters _ _ (two_faults check_leaf t u [] check_on h.0 i.0) refl
check_agrees (t ∷ u ∷ v ∷ []) g =
    let h = and_parts (is_word t) (is_word u && (is_word v && true)) g in
    let i = and_parts (is_word u) (is_word v && true) h.1 in
    long check_leaf (codes "check") (t ∷ u ∷ v ∷ []) check_enters _ _ (two_faults check_leaf t u (v ∷ []) check_on h.0 i.0) refl
check_agrees (t ∷ u ∷ v ∷ w ∷ rest) g =
    let h = and_parts (is_word t) (is_word u && list_all is_word (v ∷ w ∷ rest)) g in
    let i = and_parts (is_word u) (list_all is_word (v ∷ w ∷ rest)) h.1 in
    long check_leaf (codes "check") (t ∷ u ∷ v ∷ w ∷ rest) check_enters _ _ (two_faults check_leaf t u (v ∷ w ∷ rest) check_on h.0 i.0) refl

-- ---- plain

abbrev plain_leaf : Shape
plain_leaf = leaf plain_app

plain_enters : Enters plain_leaf (codes "plain")
unfolding walked walk_fault defaults_fault
plain_enters rest =
    let e = enters app (codes "plain") rest refl refl in
    (e.0, ap (λ (w : Walk). entered app w.stopped) e.1)

plain_on : GoesOnTwo plain_leaf
plain_on = (λ a. refl, λ a b. refl)

pub plain_agrees : (rest : List Text) → list_all is_word rest ≡ true → Agrees (codes "plain" ∷ rest)
unfolding walk_fault defaults_fault
plain_agrees [] g = short plain_leaf (codes "plain") [] plain_enters start refl refl refl refl
plain_agrees (a ∷ []) g =
    let g0 = and_parts (is_word a) (list_all is_word ([])) g in
    short plain_leaf (codes "plain") (a ∷ []) plain_enters (after_one plain_leaf a) (one_text plain_leaf a [] g0.0) (one_fault plain_leaf a [] g0.0) refl refl
plain_agrees (a ∷ b ∷ []) g =
    let g0 = and_parts (is_word a) (list_all is_word (b ∷ [])) g in
    let g1 = and_parts (is_word b) (list_all is_word ([])) g0.1 in
    good plain_leaf (codes "plain") (a ∷ b ∷ []) plain_enters (after_two plain_leaf a b) (two_texts plain_leaf a b [] plain_on.0 g0.0 g1.0) (two_faults plain_leaf a b [] plain_on.0 g0.0 g1.0) refl refl
plain_agrees (a ∷ b ∷ c ∷ []) g =
    let g0 = and_parts (is_word a) (list_all is_word (b ∷ c ∷ [])) g in
    let g1 = and_parts (is_word b) (list_all is_word (c ∷ [])) g0.1 in
    let g2 = and_parts (is_word c) (list_all is_word ([])) g1.1 in
    long plain_leaf (codes "plain") (a ∷ b ∷ c ∷ []) plain_enters _ _ (three_faults plain_leaf a b c ([]) plain_on g0.0 g1.0 g2.0) refl
plain_agrees (a ∷ b ∷ c ∷ d ∷ rest) g =
    let g0 = and_parts (is_word a) (list_all is_word (b ∷ c ∷ d ∷ rest)) g in
    let g1 = and_parts (is_word b) (list_all is_word (c ∷ d ∷ rest)) g0.1 in
    let g2 = and_parts (is_word c) (list_all is_word (d ∷ rest)) g1.1 in
    let g3 = and_parts (is_word d) (list_all is_word (rest)) g2.1 in
    long plain_leaf (codes "plain") (a ∷ b ∷ c ∷ d ∷ rest) plain_enters _ _ (three_faults plain_leaf a b c (d ∷ rest) plain_on g0.0 g1.0 g2.0) refl

-- ---- load

abbrev load_leaf : Shape
load_leaf = leaf load_app

load_enters : Enters load_leaf (codes "load")
unfolding walked walk_fault defaults_fault
load_enters rest =
    let e = enters app (codes "load") rest refl refl in
    (e.0, ap (λ (w : Walk). entered app w.stopped) e.1)

load_on : GoesOnTwo load_leaf
load_on = (λ a. refl, λ a b. refl)

pub load_agrees : (rest : List Text) → list_all is_word rest ≡ true → Agrees (codes "load" ∷ rest)
unfolding walk_fault defaults_fault
load_agrees [] g = short load_leaf (codes "load") [] load_enters start refl refl refl refl
load_agrees (a ∷ []) g =
    let g0 = and_parts (is_word a) (list_all is_word ([])) g in
    short load_leaf (codes "load") (a ∷ []) load_enters (after_one load_leaf a) (one_text load_leaf a [] g0.0) (one_fault load_leaf a [] g0.0) refl refl
load_agrees (a ∷ b ∷ []) g =
    let g0 = and_parts (is_word a) (list_all is_word (b ∷ [])) g in
    let g1 = and_parts (is_word b) (list_all is_word ([])) g0.1 in
    good load_leaf (codes "load") (a ∷ b ∷ []) load_enters (after_two load_leaf a b) (two_texts load_leaf a b [] load_on.0 g0.0 g1.0) (two_faults load_leaf a b [] load_on.0 g0.0 g1.0) refl refl
load_agrees (a ∷ b ∷ c ∷ []) g =
    let g0 = and_parts (is_word a) (list_all is_word (b ∷ c ∷ [])) g in
    let g1 = and_parts (is_word b) (list_all is_word (c ∷ [])) g0.1 in
    let g2 = and_parts (is_word c) (list_all is_word ([])) g1.1 in
    long load_leaf (codes "load") (a ∷ b ∷ c ∷ []) load_enters _ _ (three_faults load_leaf a b c ([]) load_on g0.0 g1.0 g2.0) refl
load_agrees (a ∷ b ∷ c ∷ d ∷ rest) g =
    let g0 = and_parts (is_word a) (list_all is_word (b ∷ c ∷ d ∷ rest)) g in
    let g1 = and_parts (is_word b) (list_all is_word (c ∷ d ∷ rest)) g0.1 in
    let g2 = and_parts (is_word c) (list_all is_word (d ∷ rest)) g1.1 in
    let g3 = and_parts (is_word d) (list_all is_word (rest)) g2.1 in
    long load_leaf (codes "load") (a ∷ b ∷ c ∷ d ∷ rest) load_enters _ _ (three_faults load_leaf a b c (d ∷ rest) load_on g0.0 g1.0 g2.0) refl

-- ---- replay

abbrev replay_leaf : Shape
replay_leaf = leaf replay_app

replay_enters : Enters replay_leaf (codes "replay")
unfolding walked walk_fault defaults_fault
replay_enters rest =
    let e = enters app (codes "replay") rest refl refl in
    (e.0, ap (λ (w : Walk). entered app w.stopped) e.1)

replay_on : GoesOnTwo replay_leaf
replay_on = (λ a. refl, λ a b. refl)

replay_on_three : GoesOnThree replay_leaf
replay_on_three = (replay_on, λ a b c. refl)

pub replay_agrees : (rest : List Text) → list_all is_word rest ≡ true → Agrees (codes "replay" ∷ rest)
unfolding walk_fault defaults_fault
replay_agrees [] g = short replay_leaf (codes "replay") [] replay_enters start refl refl refl refl
replay_agrees (a ∷ []) g =
    let g0 = and_parts (is_word a) (list_all is_word ([])) g in
    short replay_leaf (codes "replay") (a ∷ []) replay_enters (after_one replay_leaf a) (one_text replay_leaf a [] g0.0) (one_fault replay_leaf a [] g0.0) refl refl
replay_agrees (a ∷ b ∷ []) g =
    let g0 = and_parts (is_word a) (list_all is_word (b ∷ [])) g in
    let g1 = and_parts (is_word b) (list_all is_word ([])) g0.1 in
    short replay_leaf (codes "replay") (a ∷ b ∷ []) replay_enters (after_two replay_leaf a b) (two_texts replay_leaf a b [] replay_on.0 g0.0 g1.0) (two_faults replay_leaf a b [] replay_on.0 g0.0 g1.0) refl refl
replay_agrees (a ∷ b ∷ c ∷ []) g =
    let g0 = and_parts (is_word a) (list_all is_word (b ∷ c ∷ [])) g in
    let g1 = and_parts (is_word b) (list_all is_word (c ∷ [])) g0.1 in
    let g2 = and_parts (is_word c) (list_all is_word ([])) g1.1 in
    good replay_leaf (codes "replay") (a ∷ b ∷ c ∷ []) replay_enters (after_three replay_leaf a b c) (three_texts replay_leaf a b c [] replay_on g0.0 g1.0 g2.0) (three_faults replay_leaf a b c [] replay_on g0.0 g1.0 g2.0) refl refl
replay_agrees (a ∷ b ∷ c ∷ d ∷ rest) g =
    let g0 = and_parts (is_word a) (list_all is_word (b ∷ c ∷ d ∷ rest)) g in
    let g1 = and_parts (is_word b) (list_all is_word (c ∷ d ∷ rest)) g0.1 in
    let g2 = and_parts (is_word c) (list_all is_word (d ∷ rest)) g1.1 in
    let g3 = and_parts (is_word d) (list_all is_word (rest)) g2.1 in
    long replay_leaf (codes "replay") (a ∷ b ∷ c ∷ d ∷ rest) replay_enters _ _ (four_faults replay_leaf a b c d (rest) replay_on_three g0.0 g1.0 g2.0 g3.0) refl

-- ---- run

abbrev run_leaf : Shape
run_leaf = leaf run_app

run_enters : Enters run_leaf (codes "run")
unfolding walked walk_fault defaults_fault
run_enters rest =
    let e = enters app (codes "run") rest refl refl in
    (e.0, ap (λ (w : Walk). entered app w.stopped) e.1)

run_on : GoesOnTwo run_leaf
run_on = (λ a. refl, λ a b. refl)

run_on_three : GoesOnThree run_leaf
run_on_three = (run_on, λ a b c. refl)

pub run_agrees : (rest : List Text) → list_all is_word rest ≡ true → Agrees (codes "run" ∷ rest)
unfolding walk_fault defaults_fault
run_agrees [] g = short run_leaf (codes "run") [] run_enters start refl refl refl refl
run_agrees (a ∷ []) g =
    let g0 = and_parts (is_word a) (list_all is_word ([])) g in
    short run_leaf (codes "run") (a ∷ []) run_enters (after_one run_leaf a) (one_text run_leaf a [] g0.0) (one_fault run_leaf a [] g0.0) refl refl
run_agrees (a ∷ b ∷ []) g =
    let g0 = and_parts (is_word a) (list_all is_word (b ∷ [])) g in
    let g1 = and_parts (is_word b) (list_all is_word ([])) g0.1 in
    good run_leaf (codes "run") (a ∷ b ∷ []) run_enters (after_two run_leaf a b) (two_texts run_leaf a b [] run_on.0 g0.0 g1.0) (two_faults run_leaf a b [] run_on.0 g0.0 g1.0) refl refl
run_agrees (a ∷ b ∷ c ∷ []) g =
    let g0 = and_parts (is_word a) (list_all is_word (b ∷ c ∷ [])) g in
    let g1 = and_parts (is_word b) (list_all is_word (c ∷ [])) g0.1 in
    let g2 = and_parts (is_word c) (list_all is_word ([])) g1.1 in
    good run_leaf (codes "run") (a ∷ b ∷ c ∷ []) run_enters (after_three run_leaf a b c) (three_texts run_leaf a b c [] run_on g0.0 g1.0 g2.0) (three_faults run_leaf a b c [] run_on g0.0 g1.0 g2.0) refl refl
run_agrees (a ∷ b ∷ c ∷ d ∷ rest) g =
    let g0 = and_parts (is_word a) (list_all is_word (b ∷ c ∷ d ∷ rest)) g in
    let g1 = and_parts (is_word b) (list_all is_word (c ∷ d ∷ rest)) g0.1 in
    let g2 = and_parts (is_word c) (list_all is_word (d ∷ rest)) g1.1 in
    let g3 = and_parts (is_word d) (list_all is_word (rest)) g2.1 in
    long run_leaf (codes "run") (a ∷ b ∷ c ∷ d ∷ rest) run_enters _ _ (four_faults run_leaf a b c d (rest) run_on_three g0.0 g1.0 g2.0 g3.0) refl

-- ---- track

abbrev track_leaf : Shape
track_leaf = leaf track_app

track_enters : Enters track_leaf (codes "track")
unfolding walked walk_fault defaults_fault
track_enters rest =
    let e = enters app (codes "track") rest refl refl in
    (e.0, ap (λ (w : Walk). entered app w.stopped) e.1)

track_on : GoesOnTwo track_leaf
track_on = (λ a. refl, λ a b. refl)

track_on_three : GoesOnThree track_leaf
track_on_three = (track_on, λ a b c. refl)

pub track_agrees : (rest : List Text) → list_all is_word rest ≡ true → Agrees (codes "track" ∷ rest)
unfolding walk_fault defaults_fault
track_agrees [] g = short track_leaf (codes "track") [] track_enters start refl refl refl refl
track_agrees (a ∷ []) g =
    let g0 = and_parts (is_word a) (list_all is_word ([])) g in
    short track_leaf (codes "track") (a ∷ []) track_enters (after_one track_leaf a) (one_text track_leaf a [] g0.0) (one_fault track_leaf a [] g0.0) refl refl
track_agrees (a ∷ b ∷ []) g =
    let g0 = and_parts (is_word a) (list_all is_word (b ∷ [])) g in
    let g1 = and_parts (is_word b) (list_all is_word ([])) g0.1 in
    good track_leaf (codes "track") (a ∷ b ∷ []) track_enters (after_two track_leaf a b) (two_texts track_leaf a b [] track_on.0 g0.0 g1.0) (two_faults track_leaf a b [] track_on.0 g0.0 g1.0) refl refl
track_agrees (a ∷ b ∷ c ∷ []) g =
    let g0 = and_parts (is_word a) (list_all is_word (b ∷ c ∷ [])) g in
    let g1 = and_parts (is_word b) (list_all is_word (c ∷ [])) g0.1 in
    let g2 = and_parts (is_word c) (list_all is_word ([])) g1.1 in
    good track_leaf (codes "track") (a ∷ b ∷ c ∷ []) track_enters (after_three track_leaf a b c) (three_texts track_leaf a b c [] track_on g0.0 g1.0 g2.0) (three_faults track_leaf a b c [] track_on g0.0 g1.0 g2.0) refl refl
track_agrees (a ∷ b ∷ c ∷ d ∷ rest) g =
    let g0 = and_parts (is_word a) (list_all is_word (b ∷ c ∷ d ∷ rest)) g in
    let g1 = and_parts (is_word b) (list_all is_word (c ∷ d ∷ rest)) g0.1 in
    let g2 = and_parts (is_word c) (list_all is_word (d ∷ rest)) g1.1 in
    let g3 = and_parts (is_word d) (list_all is_word (rest)) g2.1 in
    long track_leaf (codes "track") (a ∷ b ∷ c ∷ d ∷ rest) track_enters _ _ (four_faults track_leaf a b c d (rest) track_on_three g0.0 g1.0 g2.0 g3.0) refl

-- ---- fold

abbrev fold_leaf : Shape
fold_leaf = leaf fold_app

fold_enters : Enters fold_leaf (codes "fold")
unfolding walked walk_fault defaults_fault
fold_enters rest =
    let e = enters app (codes "fold") rest refl refl in
    (e.0, ap (λ (w : Walk). entered app w.stopped) e.1)

fold_on : GoesOnTwo fold_leaf
fold_on = (λ a. refl, λ a b. refl)

fold_on_three : GoesOnThree fold_leaf
fold_on_three = (fold_on, λ a b c. refl)

pub fold_agrees : (rest : List Text) → list_all is_word rest ≡ true → Agrees (codes "fold" ∷ rest)
unfolding walk_fault defaults_fault
fold_agrees [] g = short fold_leaf (codes "fold") [] fold_enters start refl refl refl refl
fold_agrees (a ∷ []) g =
    let g0 = and_parts (is_word a) (list_all is_word ([])) g in
    short fold_leaf (codes "fold") (a ∷ []) fold_enters (after_one fold_leaf a) (one_text fold_leaf a [] g0.0) (one_fault fold_leaf a [] g0.0) refl refl
fold_agrees (a ∷ b ∷ []) g =
    let g0 = and_parts (is_word a) (list_all is_word (b ∷ [])) g in
    let g1 = and_parts (is_word b) (list_all is_word ([])) g0.1 in
    good fold_leaf (codes "fold") (a ∷ b ∷ []) fold_enters (after_two fold_leaf a b) (two_texts fold_leaf a b [] fold_on.0 g0.0 g1.0) (two_faults fold_leaf a b [] fold_on.0 g0.0 g1.0) refl refl
fold_agrees (a ∷ b ∷ c ∷ []) g =
    let g0 = and_parts (is_word a) (list_all is_word (b ∷ c ∷ [])) g in
    let g1 = and_parts (is_word b) (list_all is_word (c ∷ [])) g0.1 in
    let g2 = and_parts (is_word c) (list_all is_word ([])) g1.1 in
    good fold_leaf (codes "fold") (a ∷ b ∷ c ∷ []) fold_enters (after_three fold_leaf a b c) (three_texts fold_leaf a b c [] fold_on g0.0 g1.0 g2.0) (three_faults fold_leaf a b c [] fold_on g0.0 g1.0 g2.0) refl refl
fold_agrees (a ∷ b ∷ c ∷ d ∷ rest) g =
    let g0 = and_parts (is_word a) (list_all is_word (b ∷ c ∷ d ∷ rest)) g in
    let g1 = and_parts (is_word b) (list_all is_word (c ∷ d ∷ rest)) g0.1 in
    let g2 = and_parts (is_word c) (list_all is_word (d ∷ rest)) g1.1 in
    let g3 = and_parts (is_word d) (list_all is_word (rest)) g2.1 in
    long fold_leaf (codes "fold") (a ∷ b ∷ c ∷ d ∷ rest) fold_enters _ _ (four_faults fold_leaf a b c d (rest) fold_on_three g0.0 g1.0 g2.0 g3.0) refl

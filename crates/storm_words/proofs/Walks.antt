-- What a parse makes of words that are not empty and do not begin with `-`.
use Rattle.std.proofs.Common.{◌≡◌, ℕ, Bool, true, false, not, ◌==◌, List, [], ◌∷◌, ◌++◌, Option, Some, None, is_some, refl, sym, ap, ap₂, ◌∙◌}
use Rattle.std.specs.Prelude.{fold, find, option_map}
use Rattle.std.proofs.lemmas.Bool.{false≢true}
use Rattle.std.proofs.lemmas.List.{append-nil, append_assoc}
use Rattle.clap.specs.Kinds.{Kinds, or_else}
use Rattle.clap.specs.Words.{App, Rule, Shape, Text}
use Rattle.clap.specs.Simple.{entered, names_of}
use Rattle.clap.specs.Walk.{Held, Names, Step, Walk, after_step, answers_to, subcommand_or_other, arg_by_index, finished, idle, nothing_held, settled, to_positional, value, walk, walk_from, walked, word_met}
use Rattle.clap.specs.Faults.{built_fault, check_fault, defaults_fault, entered_fault, other_fault, settle_fault, step_fault, turn_fault, walk_fault, word_fault}
use Rattle.storm_words.specs.Words.{is_word}

-- ---- a plain word at a command with no subcommand

off : (b : Bool) → not b ≡ true → b ≡ false
off true g = sym g
off false g = refl

-- it is a value, and no fault
met : (c : List Rule) (p : ℕ) (h : Held) (w : Text) → is_word w ≡ true → word_met c [] false idle p w h ≡ (h, value)
met c p h [] g = absurd (false≢true g)
met c p h (b ∷ bs) g = let no : (b == 45) ≡ false = off (b == 45) g in rw (no, no) refl

no_fault : (s : Shape) (h : Held) (w : Text) → is_word w ≡ true → word_fault s [] false idle w h ≡ []
no_fault s h [] g = absurd (false≢true g)
no_fault s h (b ∷ bs) g = let no : (b == 45) ≡ false = off (b == 45) g in rw (no, no) refl

-- a walk that stands before a positional
abbrev pub before : Held → ℕ → Walk
before h p = record { held = h; waiting = idle; position = p; is_trailing = false; stopped = None }

abbrev pub moved : List Rule → ℕ → Text → Held → Walk
moved c p word h = to_positional c (arg_by_index c p) word (before h p) h

-- so the walk goes on to the next word
pub step : (c : List Rule) (h : Held) (p : ℕ) (word : Text) (rest : List Text) → is_word word ≡ true
    → fold (walked c []) (before h p) (word ∷ rest) ≡ fold (walked c []) (moved c p word h) rest
unfolding walked
step c h p word rest g =
    ap (λ (m : Held × Step). fold (walked c []) (after_step c word (before h p) m.0 m.1) rest) (met c p h word g)

pub step_faults : (s : Shape) (h : Held) (p : ℕ) (word : Text) (rest : List Text) → is_word word ≡ true
    → walk_fault s [] (before h p) (word ∷ rest) ≡ or_else (step_fault s p h value) (walk_fault s [] (moved s.rules p word h) rest)
unfolding walked walk_fault
step_faults s h p word rest g =
    ap₂ (λ (f : Kinds) (m : Held × Step). or_else (or_else f (step_fault s p m.0 m.1)) (walk_fault s [] (after_step s.rules word (before h p) m.0 m.1) rest))
    (no_fault s h word g) (met s.rules p h word g)

-- ---- words after a subcommand

abbrev pub stopped_at : Held → ℕ → Text → List Text → Walk
stopped_at h p name words = record {
  held = h;
  waiting = idle;
  position = p;
  is_trailing = false;
  stopped = Some (name, words);
}

-- a walk that has stopped takes all other words, without a fault
stays_stopped : (c : List Rule) (names : Names) (h : Held) (p : ℕ) (name : Text) (front words : List Text)
    → fold (walked c names) (stopped_at h p name front) words ≡ stopped_at h p name (front ++ words)
unfolding walked
stays_stopped c names h p name front [] = ap (stopped_at h p name) (sym (append-nil front))
stays_stopped c names h p name front (word ∷ words) =
    stays_stopped c names h p name (front ++ word ∷ []) words
    ∙ ap (stopped_at h p name) (append_assoc front (word ∷ []) words)

stays_faultless : (s : Shape) (names : Names) (h : Held) (p : ℕ) (name : Text) (front words : List Text)
    → walk_fault s names (stopped_at h p name front) words ≡ []
unfolding walked walk_fault
stays_faultless s names h p name front [] = refl
stays_faultless s names h p name front (word ∷ words) =
    stays_faultless s names h p name (front ++ word ∷ []) words

abbrev pub start : Walk
start = walk_from nothing_held

-- what a parse comes to, by where its walk ended and the faults of the walk
abbrev pub ending : App → Walk → Kinds → Kinds
ending a w faults =
    or_else faults (or_else (entered_fault a w.stopped)
    (or_else (settle_fault a.top.rules a.top.args_override_self w.held)
    (or_else (defaults_fault (settled a.top.rules w.held).rows a.top.rules)
    (check_fault a.top (finished a.top.rules w.held) (is_some (entered a w.stopped))))))

-- the first word names a subcommand
pub enters : (a : App) (name : Text) (rest : List Text)
    → walked a.top.rules (names_of a) start name ≡ stopped_at nothing_held 1 name []
    → turn_fault a.top (names_of a) start name ≡ []
    → (built_fault a nothing_held (name ∷ rest) ≡ ending a (stopped_at nothing_held 1 name rest) [])
    × (walk a.top.rules (names_of a) nothing_held (name ∷ rest) ≡ stopped_at nothing_held 1 name rest)
unfolding walk_fault
enters a name rest goes fine =
    let c = a.top.rules in
    let ns = names_of a in
    let ended : walk c ns nothing_held (name ∷ rest) ≡ stopped_at nothing_held 1 name rest = ap (λ (w : Walk). fold (walked c ns) w rest) goes ∙ stays_stopped c ns nothing_held 1 name [] rest in
    let faultless : walk_fault a.top ns start (name ∷ rest) ≡ [] =
    ap₂ (λ (f : Kinds) (w : Walk). or_else f (walk_fault a.top ns w rest)) fine goes ∙ stays_faultless a.top ns nothing_held 1 name [] rest in
    (ap₂ (ending a) ended faultless, ended)

-- ---- texts one after another

abbrev pub after_one : Shape → Text → Walk
after_one s a = moved s.rules 1 a nothing_held

abbrev pub after_two : Shape → Text → Text → Walk
after_two s a b = moved s.rules 2 b (after_one s a).held

abbrev pub after_three : Shape → Text → Text → Text → Walk
after_three s a b c = moved s.rules 3 c (after_two s a b).held

-- after so many texts a walk stands before the next
abbrev pub GoesOn : Shape → Type 0
GoesOn s = (a : Text) → after_one s a ≡ before (after_one s a).held 2

abbrev pub GoesOnTwo : Shape → Type 0
GoesOnTwo s = GoesOn s × ((a b : Text) → after_two s a b ≡ before (after_two s a b).held 3)

abbrev pub GoesOnThree : Shape → Type 0
GoesOnThree s =
    GoesOnTwo s × ((a b c : Text) → after_three s a b c ≡ before (after_three s a b c).held 4)

abbrev run_on : Shape → Walk → List Text → Walk
run_on s w words = fold (walked s.rules []) w words

pub one_text : (s : Shape) (a : Text) (rest : List Text) → is_word a ≡ true → run_on s start (a ∷ rest) ≡ run_on s (after_one s a) rest
one_text s a rest g = step s.rules nothing_held 1 a rest g

pub two_texts : (s : Shape) (a b : Text) (rest : List Text) → GoesOn s → is_word a ≡ true → is_word b ≡ true
    → run_on s start (a ∷ b ∷ rest) ≡ run_on s (after_two s a b) rest
two_texts s a b rest on g h =
    one_text s a (b ∷ rest) g ∙ ap (λ (w : Walk). run_on s w (b ∷ rest)) (on a) ∙ step s.rules (after_one s a).held 2 b rest h

pub three_texts : (s : Shape) (a b c : Text) (rest : List Text) → GoesOnTwo s → is_word a ≡ true → is_word b ≡ true → is_word c ≡ true
    → run_on s start (a ∷ b ∷ c ∷ rest) ≡ run_on s (after_three s a b c) rest
three_texts s a b c rest on g h i =
    two_texts s a b (c ∷ rest) on.0 g h ∙ ap (λ (w : Walk). run_on s w (c ∷ rest)) (on.1 a b) ∙ step s.rules (after_two s a b).held 3 c rest i

abbrev pub at : Shape → ℕ → Held → Kinds
at s p h = step_fault s p h value

pub one_fault : (s : Shape) (a : Text) (rest : List Text) → is_word a ≡ true
    → walk_fault s [] start (a ∷ rest) ≡ or_else (at s 1 nothing_held) (walk_fault s [] (after_one s a) rest)
one_fault s a rest g = step_faults s nothing_held 1 a rest g

pub two_faults : (s : Shape) (a b : Text) (rest : List Text) → GoesOn s → is_word a ≡ true → is_word b ≡ true
    → walk_fault s [] start (a ∷ b ∷ rest) ≡ or_else (at s 1 nothing_held) (or_else (at s 2 (after_one s a).held) (walk_fault s [] (after_two s a b) rest))
two_faults s a b rest on g h =
    one_fault s a (b ∷ rest) g
    ∙ ap (λ (w : Walk). or_else (at s 1 nothing_held) (walk_fault s [] w (b ∷ rest))) (on a)
    ∙ ap (or_else (at s 1 nothing_held)) (step_faults s (after_one s a).held 2 b rest h)

pub three_faults : (s : Shape) (a b c : Text) (rest : List Text) → GoesOnTwo s → is_word a ≡ true → is_word b ≡ true → is_word c ≡ true
    → walk_fault s [] start (a ∷ b ∷ c ∷ rest)
    ≡ or_else (at s 1 nothing_held) (or_else (at s 2 (after_one s a).held) (or_else (at s 3 (after_two s a b).held) (walk_fault s [] (after_three s a b c) rest)))
three_faults s a b c rest on g h i =
    two_faults s a b (c ∷ rest) on.0 g h
    ∙ ap (λ (w : Walk). or_else (at s 1 nothing_held) (or_else (at s 2 (after_one s a).held) (walk_fault s [] w (c ∷ rest)))) (on.1 a b)
    ∙ ap (λ (f : Kinds). or_else (at s 1 nothing_held) (or_else (at s 2 (after_one s a).held) f)) (step_faults s (after_two s a b).held 3 c rest i)

pub four_faults : (s : Shape) (a b c d : Text) (rest : List Text) → GoesOnThree s → is_word a ≡ true → is_word b ≡ true → is_word c ≡ true → is_word d ≡ true
    → walk_fault s [] start (a ∷ b ∷ c ∷ d ∷ rest)
    ≡ or_else (at s 1 nothing_held) (or_else (at s 2 (after_one s a).held) (or_else (at s 3 (after_two s a b).held)
    (or_else (at s 4 (after_three s a b c).held) (walk_fault s [] (moved s.rules 4 d (after_three s a b c).held) rest))))
four_faults s a b c d rest on g h i j =
    three_faults s a b c (d ∷ rest) on.0 g h i
    ∙ ap (λ (w : Walk). or_else (at s 1 nothing_held) (or_else (at s 2 (after_one s a).held) (or_else (at s 3 (after_two s a b).held) (walk_fault s [] w (d ∷ rest))))) (on.1 a b c)
    ∙ ap (λ (f : Kinds). or_else (at s 1 nothing_held) (or_else (at s 2 (after_one s a).held) (or_else (at s 3 (after_two s a b).held) f))) (step_faults s (after_three s a b c).held 4 d rest j)

-- what a subcommand's words come to, by where their walk ended and its faults
abbrev pub leaf_ending : Shape → Walk → Kinds → Kinds
leaf_ending s w faults =
    or_else faults (or_else [] (or_else (settle_fault s.rules s.args_override_self w.held)
    (or_else (defaults_fault (settled s.rules w.held).rows s.rules) (check_fault s (finished s.rules w.held) false))))

-- ---- a plain word that names no subcommand

-- it is a value there too, and no fault
met_above : (c : List Rule) (names : Names) (p : ℕ) (h : Held) (w : Text) → is_word w ≡ true → find (answers_to w) names ≡ None
    → word_met c names false idle p w h ≡ (h, value)
met_above c names p h w g none =
    ap (λ (f : Option (Text × List Text)). subcommand_or_other c (option_map (λ s. s.0) f) idle p w h) none ∙ met c p h w g

no_fault_above : (s : Shape) (names : Names) (h : Held) (w : Text) → is_word w ≡ true → find (answers_to w) names ≡ None
    → word_fault s names false idle w h ≡ []
no_fault_above s names h w g none =
    ap (λ (f : Option (Text × List Text)). other_fault s (option_map (λ s. s.0) f) w h) none ∙ no_fault s h w g

-- so a fault comes of it only where there is no place for a value
pub strays : (s : Shape) (names : Names) (w : Text) (rest : List Text) → is_word w ≡ true → find (answers_to w) names ≡ None
    → walk_fault s names start (w ∷ rest) ≡ or_else (step_fault s 1 nothing_held value) (walk_fault s names (moved s.rules 1 w nothing_held) rest)
unfolding walked walk_fault
strays s names w rest g none =
    ap₂ (λ (f : Kinds) (m : Held × Step). or_else (or_else f (step_fault s 1 m.0 m.1)) (walk_fault s names (after_step s.rules w start m.0 m.1) rest))
    (no_fault_above s names nothing_held w g none) (met_above s.rules names 1 nothing_held w g none)

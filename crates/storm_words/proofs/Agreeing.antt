-- A parse of plain words succeeds exactly where they are a command, and reads that command.
use Rattle.std.proofs.Common.{◌≡◌, true, false, List, [], ◌∷◌, Option, Some, None, codes, bytes_eq, refl, sym, subst, ap, ◌∙◌, inl, inr}
use Rattle.std.specs.Prelude.{find}
use Rattle.std.specs.List.{list_all}
use Rattle.std.proofs.lemmas.Bool.{and_parts, cases_Bool, true≢false}
use Rattle.std.proofs.lemmas.Slice.Eq.{bytes_eq-Decides}
use Rattle.clap.specs.Kinds.{HasKind, IsAmong, Kinds}
use Rattle.clap.specs.Words.{App, HasMatchesOf, Text, fault_of, is_simple, is_simple_and_free, kind_of, subcommand_of, subcommand_rows_of}
use Rattle.clap.specs.declared.error.Error.{Error}
use Rattle.clap.specs.declared.error.kind.ErrorKind.{ErrorKind}
use Rattle.clap.specs.declared.error.kind.ErrorKind.TheVariants.{OutOfMemory}
use Rattle.clap.specs.declared.parser.matches.ArgMatches.{ArgMatches}
use Rattle.storm_words.specs.steps.Reading.{read_of}
use Rattle.clap.specs.Simple.{names_of}
use Rattle.clap.specs.Walk.{answers_to, nothing_held, walk}
use Rattle.clap.specs.Faults.{defaults_fault, walk_fault}
use Rattle.storm_words.specs.Words.{Command, command, is_word, command_of}
use Rattle.storm_words.specs.steps.Parser.{storm_app}
use Rattle.storm_words.proofs.Walks.{ending, strays}
use Rattle.storm_words.proofs.Verbs.{Agrees, accepted, app, check_agrees, fold_agrees, is_none, load_agrees, plain_agrees, refused, replay_agrees, run_agrees, track_agrees}

-- texts that differ do so either way round
turned : (x y : Text) → bytes_eq x y ≡ false → bytes_eq y x ≡ false
turned x y apart = elim (cases_Bool (bytes_eq y x)) [
  | inl same ↦ absurd (true≢false (sym ((bytes_eq-Decides x y).1 (sym ((bytes_eq-Decides y x).0 same))) ∙ apart))
  | inr off ↦ off
]

-- the word names none of the seven
record IsOther (verb : Text) : Type 0 where
  pub check : bytes_eq verb (codes "check") ≡ false
  pub plain : bytes_eq verb (codes "plain") ≡ false
  pub replay : bytes_eq verb (codes "replay") ≡ false
  pub run : bytes_eq verb (codes "run") ≡ false
  pub load : bytes_eq verb (codes "load") ≡ false
  pub track : bytes_eq verb (codes "track") ≡ false
  pub fold : bytes_eq verb (codes "fold") ≡ false

-- so no subcommand answers to it, and it begins no command
found_none : (verb : Text) → IsOther verb → find (answers_to verb) (names_of app) ≡ None
found_none verb o =
    let c = turned verb (codes "check") o.check in
    let p = turned verb (codes "plain") o.plain in
    let r = turned verb (codes "replay") o.replay in
    let n = turned verb (codes "run") o.run in
    let l = turned verb (codes "load") o.load in
    let t = turned verb (codes "track") o.track in
    let f = turned verb (codes "fold") o.fold in
    rw (c, p, r, n, l, t, f) refl

none_of : (verb : Text) (rest : List Text) → IsOther verb → command_of (verb ∷ rest) ≡ None
none_of verb [] o = refl
none_of verb (a ∷ []) o = let e = o.check in rw e refl
none_of verb (a ∷ b ∷ []) o = let p = o.plain in let r = o.run in let l = o.load in let t = o.track in let f = o.fold in rw (p, r, l, t, f) refl
none_of verb (a ∷ b ∷ c ∷ []) o = let p = o.replay in let r = o.run in let t = o.track in let f = o.fold in rw (p, r, t, f) refl
none_of verb (a ∷ b ∷ c ∷ d ∷ rest) o = refl

-- its parse has a fault there
other_agrees : (verb : Text) (rest : List Text) → is_word verb ≡ true → IsOther verb → Agrees (verb ∷ rest)
unfolding defaults_fault
other_agrees verb rest g o =
    refused (verb ∷ rest)
    (ap (λ (f : Kinds). is_none (ending app (walk app.top.rules (names_of app) nothing_held (verb ∷ rest)) f)) (strays app.top (names_of app) verb rest g (found_none verb o)))
    (none_of verb rest o)

no_words : Agrees []
unfolding walk_fault defaults_fault
no_words = accepted [] refl refl

-- the word is that name
named : (verb name : Text) (rest : List Text) → bytes_eq verb name ≡ true → Agrees (name ∷ rest) → Agrees (verb ∷ rest)
named verb name rest same = subst (λ (v : Text). Agrees (v ∷ rest)) (sym ((bytes_eq-Decides verb name).0 same))

pub agrees : (words : List Text) → list_all is_word words ≡ true → Agrees words
agrees [] g = no_words
agrees (verb ∷ rest) g =
    let h = and_parts (is_word verb) (list_all is_word rest) g in
    elim (cases_Bool (bytes_eq verb (codes "check"))) [
      | inl same ↦ named verb (codes "check") rest same (check_agrees rest h.1)
      | inr c ↦ elim (cases_Bool (bytes_eq verb (codes "plain"))) [
        | inl same ↦ named verb (codes "plain") rest same (plain_agrees rest h.1)
        | inr p ↦ elim (cases_Bool (bytes_eq verb (codes "replay"))) [
          | inl same ↦ named verb (codes "replay") rest same (replay_agrees rest h.1)
          | inr r ↦ elim (cases_Bool (bytes_eq verb (codes "run"))) [
            | inl same ↦ named verb (codes "run") rest same (run_agrees rest h.1)
            | inr n ↦ elim (cases_Bool (bytes_eq verb (codes "load"))) [
              | inl same ↦ named verb (codes "load") rest same (load_agrees rest h.1)
              | inr l ↦ elim (cases_Bool (bytes_eq verb (codes "track"))) [
                | inl same ↦ named verb (codes "track") rest same (track_agrees rest h.1)
                | inr t ↦ elim (cases_Bool (bytes_eq verb (codes "fold"))) [
                  | inl same ↦ named verb (codes "fold") rest same (fold_agrees rest h.1)
                  | inr f ↦ other_agrees verb rest h.0 (record { check = c; plain = p; replay = r; run = n; load = l; track = t; fold = f })
                ]
              ]
            ]
          ]
        ]
      ]
    ]

-- ---- the outcomes of the parse

pub no_words_none : (words : List Text) → list_all is_word words ≡ false → command words ≡ None
unfolding command
no_words_none words e = rw e refl

of_words : (words : List Text) → list_all is_word words ≡ true → command_of words ≡ command words
unfolding command
of_words words e = rw e refl

simple : (a : App) → a ≡ storm_app → is_simple_and_free a ≡ true
simple a is_app = ap is_simple_and_free is_app

pub ok_reads : (a : App) (words : List Text) (m : ArgMatches) → a ≡ storm_app → list_all is_word words ≡ true → HasMatchesOf a words m → (is_simple_and_free a ≡ true → fault_of a words ≡ [])
    → read_of (subcommand_rows_of m) ≡ command words
ok_reads a words m is_app plain found fine =
    let matches = found (ap is_simple is_app) in
    let faultless : fault_of storm_app words ≡ [] = ap (λ (b : App). fault_of b words) (sym is_app) ∙ fine (simple a is_app) in
    ap read_of (matches.1 ∙ ap (λ (b : App). subcommand_of b words) is_app) ∙ ((agrees words plain).taken faultless ∙ of_words words plain)

among_none : (k : ErrorKind) (ks : Kinds) → ks ≡ [] → IsAmong k ks → ⊥
among_none k ks e h = subst (IsAmong k) e h

pub err_none : (a : App) (words : List Text) (e : Error) → a ≡ storm_app → list_all is_word words ≡ true → (is_simple_and_free a ≡ true → HasKind (fault_of a words) e) → (kind_of e ≡ OutOfMemory → ⊥)
    → command words ≡ None
err_none a words e is_app plain bad apart = go (command_of words) refl
  where
    faults : IsAmong (kind_of e) (fault_of storm_app words)
    faults = elim (bad (simple a is_app)) [
      | inl memory ↦ absurd (apart memory)
      | inr kind ↦ subst (λ (b : App). IsAmong (kind_of e) (fault_of b words)) is_app kind
    ]

    go : (c : Option Command) → command_of words ≡ c → command words ≡ None
    go None is = sym (of_words words plain) ∙ is
    go (Some k) is = absurd (among_none (kind_of e) (fault_of storm_app words) ((agrees words plain).given k is) faults)

use Rattle.std.proofs.Common.{◌≡◌, ◌∙◌, sym, true, false, List, map, string_bytes, rules}
use Rattle.std.specs.List.{list_all}
use Rattle.std.proofs.lemmas.Bool.{true≢false}
use Rattle.clap.specs.Words.{Text, app_of}
use Rattle.storm_words.specs.Words.{is_word}
use Rattle.storm_words.proofs.Agreeing.{err_none, no_words_none, ok_reads}
use Rattle.storm_words.proofs.words.read_words.Goals as goal

pub returns-then-not-are_words-clause-command : goal.returns-then-not-are_words-clause-command
returns-then-not-are_words-clause-command c =
    let words : List Text = map string_bytes c.args.words.now in
    let plain : list_all is_word words ≡ false = search rules in
    sym (no_words_none words plain)

pub returns-in-Ok-clause-command : goal.returns-in-Ok-clause-command
returns-in-Ok-clause-command c =
    let words : List Text = map string_bytes c.args.words.now in
    let plain : list_all is_word words ≡ true = search rules in
    c.command_in.ensures.command
    ∙ ok_reads (app_of c.in_ok-storm_parser.field-0) words c.in-Ok.matches c.in_ok-storm_parser.ensures.app plain c.in-Ok.ensures.matches c.in-Ok.ensures.kinds

pub returns-clause-command : goal.returns-clause-command
returns-clause-command c =
    let words : List Text = map string_bytes c.args.words.now in
    let plain : list_all is_word words ≡ true = search rules in
    sym (err_none (app_of c.in_ok-storm_parser.field-0) words c.in-Err-2.field-0 c.in_ok-storm_parser.ensures.app plain c.in-Err-2.ensures.kinds (λ memory.
    let same : c.eq.result ≡ true = search rules in
    let apart : c.eq.result ≡ false = search rules in
    absurd (true≢false (sym same ∙ apart))))

use Rattle.std.proofs.Common.{◌≡◌, ◌-◌, ◌<◌, ◌++◌, string_bytes}
use Rattle.load_source.specs.Records.{more_words, number_after, sentence_after}
use Rattle.load_source.proofs.records.sentence.Given as goal

abbrev pub invariant-loop : goal.invariant-loop
invariant-loop l = record {
  text : string_bytes l.text ++ more_words (5 - l.counter) l.last ≡ sentence_after l.fn.number;
  last : number_after (5 - l.counter) l.last ≡ number_after 6 l.fn.number;
  small : l.last < 65537;
}

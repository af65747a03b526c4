use Rattle.std.proofs.Common.{◌≡◌, map, string_bytes, drop}
use Rattle.std.specs.List.{list_all}
use Rattle.storm_words.specs.Words.{is_word}
use Rattle.storm_words.proofs.words.are_words.Given as goal

abbrev pub invariant-loop-word : goal.invariant-loop-word
invariant-loop-word l = list_all is_word (map string_bytes (drop l.word-index l.words)) ≡ list_all is_word (map string_bytes l.words)

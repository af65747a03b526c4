use Rattle.std.proofs.Common.{◌≡◌, ◌<◌, ◌^◌, take}
use Rattle.storm_words.specs.Words.{digits_value}
use Rattle.storm_words.proofs.words.digits_value.Given as goal

abbrev pub invariant-loop-digit : goal.invariant-loop-digit
invariant-loop-digit l = record {
  value : l.value ≡ digits_value (take l.digit-index l.digits);
  bound : l.value < 10 ^ l.digit-index;
}

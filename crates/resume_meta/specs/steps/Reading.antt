-- What is read of a text. Whether it is also the text of what was read is looked at afterwards, so
-- that this takes more than meta texts. No public clause cites these.
use Rattle.std.specs.Prelude.{ℕ, List, codes, Option, option_map, option_and_then}
use Rattle.report_grammar.specs.steps.Lists.{front_of, rest_of}
use Rattle.report_grammar.specs.steps.Reading.{after_word}

-- what stands where the numbers and the spans are
pub record PartTexts : Type 0 where
  pub txid : List ℕ
  pub records : List ℕ
  pub spans : List ℕ

-- spans up to the line end
unfoldable pub spans_in : List ℕ → List ℕ → List ℕ → Option PartTexts
spans_in txid records text =
    option_map
    (λ rest. record { txid = txid; records = records; spans = front_of 10 rest })
    (after_word (codes "spans ") text)

-- the number of records up to a space, and the spans
unfoldable pub records_in : List ℕ → List ℕ → Option PartTexts
records_in txid text =
    option_and_then
    (λ rest. option_and_then (spans_in txid (front_of 32 rest)) (rest_of 32 rest))
    (after_word (codes "records ") text)

-- the number of the transaction up to a space, and all that follows
unfoldable pub parts_in : List ℕ → Option PartTexts
parts_in text =
    option_and_then
    (λ rest. option_and_then (records_in (front_of 32 rest)) (rest_of 32 rest))
    (after_word (codes "meta 1 txid ") text)

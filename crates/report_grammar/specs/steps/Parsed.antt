-- What is read of a line. Whether it is also the line's text is looked at afterwards, so that these
-- take more than the lines of reports. No public clause cites these.
use Rattle.std.specs.Prelude.{ℕ, ◌+◌, ◌-◌, List, [], ◌∷◌, length, take, codes, Option, Some, None, option_map, option_and_then, if◌then◌else◌}
use Rattle.std.specs.Option.{option_or}
use Rattle.std.specs.Str.{bytes_eq, is_utf8}
use Rattle.storm_values.specs.declared.value.Root.{Root}
use Rattle.record_spans.specs.declared.span.Span.{Span}
use Rattle.report_grammar.specs.Report.{EndText, committed, failed, timed_out, coincided, commit_failed, dropped, AttemptText, TailText, ok, exhausted, unfinished}
use Rattle.report_grammar.specs.steps.Lists.{edges_of, from_byte, front_of, last_of, number_of, path_of, pieces, rest_of, root_of, spans_of}
use Rattle.report_grammar.specs.steps.Reading.{Reader, ◌>>=◌, a_word, a_number, after_word, done, gives}

abbrev pub most_u64 : ℕ
most_u64 = 18446744073709551615

abbrev pub most_u32 : ℕ
most_u32 = 4294967295

-- a line without its last byte
abbrev pub body_of : List ℕ → List ℕ
body_of line = take (length line - 1) line

-- ---- the last line

-- ok N records B batches
unfoldable pub an_ok : Reader TailText
an_ok = do
  _ ← a_word (codes "ok ")
  records ← a_number most_u64
  _ ← a_word (codes " records ")
  batches ← a_number most_u64
  _ ← a_word (codes " batches")
  done (ok records batches)

-- exhausted TXID
unfoldable pub an_exhausted : Reader TailText
an_exhausted = do
  _ ← a_word (codes "exhausted ")
  txid ← a_number most_u64
  done (exhausted txid)

-- unfinished COMMITTED
unfoldable pub an_unfinished : Reader TailText
an_unfinished = do
  _ ← a_word (codes "unfinished ")
  committed_count ← a_number most_u64
  done (unfinished committed_count)

abbrev pub read_of : {A : Type 0} → Option (A × List ℕ) → Option A
read_of read = option_map (λ r. r.0) read

unfoldable pub tail_in : List ℕ → Option TailText
tail_in text =
    option_or (read_of (an_ok text))
    (option_or (read_of (an_exhausted text)) (read_of (an_unfinished text)))

-- ---- an attempt's line

-- up to how it ended
pub record Heading : Type 0 where
  pub root : Root
  pub spans : List Span
  pub start : ℕ
  pub finish : ℕ

-- attempt TXID.ATTEMPT records, and a space
unfoldable pub a_root : Reader Root
a_root = do
  _ ← a_word (codes "attempt ")
  txid ← a_number most_u64
  _ ← a_word (codes ".")
  attempt ← a_number most_u32
  _ ← a_word (codes " records ")
  gives (record { txid = txid; attempt = attempt })

-- the spans that stand before a space
unfoldable pub some_spans : Reader (List Span)
some_spans text =
    option_map (λ spans. (spans, from_byte 32 text)) (spans_of (front_of 32 text))

-- ticks START-FINISH, with a space before and behind
unfoldable pub two_ticks : Reader (ℕ × ℕ)
two_ticks = do
  _ ← a_word (codes " ticks ")
  start ← a_number most_u64
  _ ← a_word (codes "-")
  finish ← a_number most_u64
  _ ← a_word (codes " ")
  gives (start, finish)

-- attempt TXID.ATTEMPT records FIRST-LAST,FIRST-LAST .. ticks START-FINISH, and a space
unfoldable pub a_heading : Reader Heading
a_heading = do
  root ← a_root
  spans ← some_spans
  ticks ← two_ticks
  gives (record { root = root; spans = spans; start = ticks.0; finish = ticks.1 })

-- bytes that are UTF-8
unfoldable pub text_in : List ℕ → Option (List ℕ)
text_in bytes = if is_utf8 bytes then Some bytes else None

unfoldable pub failed_in : List ℕ → Option EndText
failed_in text = option_map failed (path_of text)

unfoldable pub coincided_in : List ℕ → Option EndText
coincided_in text = option_map coincided (edges_of text)

-- a state, a space and a part
unfoldable pub commit_failed_in : List ℕ → Option EndText
commit_failed_in text =
    option_and_then
    (λ digits. option_and_then
    (λ part. option_map (λ state. commit_failed state part) (text_in (front_of 32 text)))
    (number_of most_u32 digits))
    (rest_of 32 text)

unfoldable pub dropped_in : List ℕ → Option EndText
dropped_in text = option_map dropped (root_of text)

-- what a function finds behind a word, or else something else
abbrev pub behind_or : {A : Type 0} → Option (List ℕ) → (List ℕ → A) → A → A
behind_or None found other = other
behind_or (Some rest) found other = found rest

unfoldable pub listed_in : List ℕ → Option EndText
listed_in text =
    behind_or (after_word (codes "failed ") text) failed_in
    (behind_or (after_word (codes "coincided ") text) coincided_in
    (behind_or (after_word (codes "commit failed ") text) commit_failed_in
    (behind_or (after_word (codes "dropped ") text) dropped_in None)))

-- how an attempt ended
unfoldable pub end_in : List ℕ → Option EndText
end_in text =
    if bytes_eq text (codes "committed") then Some committed
    else if bytes_eq text (codes "timed out") then Some timed_out
    else listed_in text

abbrev pub attempt_with : Heading → EndText → AttemptText
attempt_with h ending = record {
  txid = h.root.txid;
  attempt = h.root.attempt;
  spans = h.spans;
  start = h.start;
  finish = h.finish;
  ending = ending;
}

unfoldable pub attempt_in : List ℕ → Option AttemptText
attempt_in text =
    option_and_then (λ h. option_map (attempt_with h.0) (end_in h.1)) (a_heading text)

-- ---- a cell's line

-- the name of the state, the text of the key, and the digits of the value
pub record Cell : Type 0 where
  pub state : List ℕ
  pub key : List ℕ
  pub digits : List ℕ

-- what follows the last space of a text, and what stands before that space
abbrev pub behind_space : List ℕ → List ℕ
behind_space text = last_of (pieces 32 text)

abbrev pub before_space : List ℕ → List ℕ
before_space text = take (length text - (length (behind_space text) + 1)) text

-- a state, a space, and a key and a value round the last space
unfoldable pub cell_in : List ℕ → Option Cell
cell_in text =
    option_and_then
    (λ rest. option_map
    (λ others. record {
      state = front_of 32 rest;
      key = before_space others;
      digits = behind_space others;
    })
    (rest_of 32 rest))
    (after_word (codes "cell ") text)

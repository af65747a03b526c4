-- What is read of a line's text is the line.
use Rattle.std.proofs.Common.{◌≡◌, ◌<◌, ◌≤◌, ◌^◌, ◌+◌, ◌-◌, ◌==◌, ℕ, suc, Bool, true, false, cond, List, [], ◌∷◌, ◌++◌, length, take, Option, Some, None, option_map, codes, bytes_eq, refl, ap, ap₂, sym, ◌∙◌, arith, append_assoc, length-append}
use Rattle.std.specs.Prelude.{option_and_then}
use Rattle.std.specs.Fmt.{decimal, signed_decimal}
use Rattle.std.specs.List.{onto_first}
use Rattle.std.specs.Str.{IsUtf8, is_utf8}
use Rattle.std.proofs.Math.Seq.{take-append_seam, drop-append_seam}
use Rattle.std.proofs.lemmas.Slice.Eq.{bytes_eq-Decides}
use Rattle.std.proofs.lemmas.Str.{is_utf8-from_IsUtf8, IsUtf8-from_ascii, IsUtf8-from_is_utf8}
use Rattle.storm_values.specs.declared.value.Root.{Root}
use Rattle.record_spans.specs.declared.span.Span.{Span}
use Rattle.topology_plan.specs.Texts.{IsName}
use Rattle.key_texts.proofs.KeysRead.{text_is_utf8}
use Rattle.report_grammar.specs.Report.{EndText, committed, failed, timed_out, coincided, commit_failed, dropped, end_text, path_text, edges_text, root_text, spans_text, AttemptText, attempt_text, CellText, cell_text, TailText, ok, exhausted, unfinished, tail_text}
use Rattle.report_grammar.specs.WellFormed.{AreSpans, IsEnd, IsAttempt, IsCell, IsTail}
use Rattle.report_grammar.specs.steps.Lists.{front_of, last_of, number_of, pieces, rest_of, spans_of}
use Rattle.report_grammar.specs.steps.Reading.{Reader, ◌>>=◌, a_number, a_word}
use Rattle.report_grammar.specs.steps.Parsed.{a_heading, a_root, an_exhausted, an_ok, an_unfinished, attempt_in, attempt_with, before_space, behind_space, body_of, Cell, cell_in, coincided_in, commit_failed_in, dropped_in, end_in, failed_in, Heading, listed_in, most_u32, most_u64, some_spans, tail_in, text_in, two_ticks}
use Rattle.report_grammar.proofs.Lacking.{Lacks, from_there, front_there, high_lacks, name_ascii, name_high, pieces_one, rest_there, signed_high, spans_lack}
use Rattle.report_grammar.proofs.Lists.{edges_read, number_of_reads, path_reads, root_of_reads, spans_read}
use Rattle.report_grammar.proofs.NumbersRead.{number_reads}

-- ---- one step after another

bind_reads : {A B : Type 0} (first : Reader A) (next : A → Reader B) (text : List ℕ) (x : A) (rest : List ℕ) → first text ≡ Some (x, rest) → (first >>= next) text ≡ next x rest
bind_reads first next text x rest h = ap (λ r. option_and_then (λ p. next p.0 p.1) r) h

word_reads : (w rest : List ℕ) → a_word w (w ++ rest) ≡ Some (tt, rest)
unfolding a_word
word_reads w rest =
    let t = take-append_seam w rest in
    let e : bytes_eq w w ≡ true = (bytes_eq-Decides w w).1 refl in
    let d = drop-append_seam w rest in
    rw (t, e, d) refl

-- ---- the body of a line

pub body_is : (body : List ℕ) → body_of (body ++ 10 ∷ []) ≡ body
body_is body =
    let len : length (body ++ 10 ∷ []) - 1 ≡ length body = omega (arith, length-append body (10 ∷ [])) in
    ap (λ n. take n (body ++ 10 ∷ [])) len ∙ take-append_seam body (10 ∷ [])

-- ---- the last line

ok_reads : (r b : ℕ) → r < 2 ^ 64 → b < 2 ^ 64
    → an_ok (codes "ok " ++ (decimal r ++ (codes " records " ++ (decimal b ++ codes " batches")))) ≡ Some (ok r b, [])
unfolding an_ok
ok_reads r b hr hb =
    bind_reads (a_word (codes "ok ")) _ _ tt _ (word_reads (codes "ok ") _)
    ∙ bind_reads (a_number most_u64) _ _ r _ (number_reads most_u64 r _ hr (omega arith) refl)
    ∙ bind_reads (a_word (codes " records ")) _ _ tt _ (word_reads (codes " records ") _)
    ∙ bind_reads (a_number most_u64) _ _ b _ (number_reads most_u64 b _ hb (omega arith) refl)
    ∙ bind_reads (a_word (codes " batches")) _ _ tt [] (word_reads (codes " batches") [])

exhausted_reads : (n : ℕ) → n < 2 ^ 64 → an_exhausted (codes "exhausted " ++ (decimal n ++ [])) ≡ Some (exhausted n, [])
unfolding an_exhausted
exhausted_reads n small =
    bind_reads (a_word (codes "exhausted ")) _ _ tt _ (word_reads (codes "exhausted ") _)
    ∙ bind_reads (a_number most_u64) _ _ n [] (number_reads most_u64 n [] small (omega arith) refl)

unfinished_reads : (n : ℕ) → n < 2 ^ 64 → an_unfinished (codes "unfinished " ++ (decimal n ++ [])) ≡ Some (unfinished n, [])
unfolding an_unfinished
unfinished_reads n small =
    bind_reads (a_word (codes "unfinished ")) _ _ tt _ (word_reads (codes "unfinished ") _)
    ∙ bind_reads (a_number most_u64) _ _ n [] (number_reads most_u64 n [] small (omega arith) refl)

-- a last line without its byte 10
abbrev pub tail_body : TailText → List ℕ
tail_body (ok records batches) =
    codes "ok " ++ (decimal records ++ (codes " records " ++ (decimal batches ++ codes " batches")))
tail_body (exhausted txid) = codes "exhausted " ++ (decimal txid ++ [])
tail_body (unfinished committed_count) = codes "unfinished " ++ (decimal committed_count ++ [])

pub tail_shape : (t : TailText) → tail_text t ≡ tail_body t ++ 10 ∷ []
tail_shape (ok records batches) = simp append_assoc refl
tail_shape (exhausted txid) = simp append_assoc refl
tail_shape (unfinished committed_count) = simp append_assoc refl

-- words that differ
no_ok_exhausted : (rest : List ℕ) → an_ok (codes "exhausted " ++ rest) ≡ None
unfolding an_ok a_word
no_ok_exhausted rest = refl

no_ok_unfinished : (rest : List ℕ) → an_ok (codes "unfinished " ++ rest) ≡ None
unfolding an_ok a_word
no_ok_unfinished rest = refl

no_exhausted_unfinished : (rest : List ℕ) → an_exhausted (codes "unfinished " ++ rest) ≡ None
unfolding an_exhausted a_word
no_exhausted_unfinished rest = refl

pub tail_reads : (t : TailText) → IsTail t → tail_in (tail_body t) ≡ Some t
unfolding tail_in
tail_reads (ok records batches) is =
    let read = ok_reads records batches is.0 is.1 in rw read refl
tail_reads (exhausted txid) is =
    let none : an_ok (tail_body (exhausted txid)) ≡ None = no_ok_exhausted _ in
    let read = exhausted_reads txid is in rw (none, read) refl
tail_reads (unfinished committed_count) is =
    let none : an_ok (tail_body (unfinished committed_count)) ≡ None = no_ok_unfinished _ in
    let other : an_exhausted (tail_body (unfinished committed_count)) ≡ None = no_exhausted_unfinished _ in
    let read = unfinished_reads committed_count is in rw (none, other, read) refl

-- ---- ends

pub text_reads : (bytes : List ℕ) → is_utf8 bytes ≡ true → text_in bytes ≡ Some bytes
unfolding text_in
text_reads bytes is = rw is refl

name_reads : (name : List ℕ) → IsName name → text_in name ≡ Some name
name_reads name is = text_reads name (is_utf8-from_IsUtf8 name (IsUtf8-from_ascii name (name_ascii name is)))

commit_failed_reads : (state : List ℕ) (part : ℕ) → IsName state → part < 2 ^ 32 → commit_failed_in (state ++ 32 ∷ decimal part) ≡ Some (commit_failed state part)
unfolding commit_failed_in
commit_failed_reads state part name small =
    let digits : List ℕ = decimal part in
    let lacks : Lacks 32 state = high_lacks 32 (omega arith) state (name_high state name) in
    ap (option_and_then (λ ds. option_and_then (λ p. option_map (λ s. commit_failed s p) (text_in (front_of 32 (state ++ 32 ∷ digits)))) (number_of most_u32 ds))) (rest_there 32 state digits refl lacks)
    ∙ ap (option_and_then (λ p. option_map (λ s. commit_failed s p) (text_in (front_of 32 (state ++ 32 ∷ digits))))) (number_of_reads most_u32 part (omega arith) (omega arith))
    ∙ ap (λ s. option_map (λ t. commit_failed t part) (text_in s)) (front_there 32 state digits refl lacks)
    ∙ ap (option_map (λ s. commit_failed s part)) (name_reads state name)

failed_ends : (rest : List ℕ) → end_in (codes "failed " ++ rest) ≡ failed_in rest
unfolding end_in listed_in
failed_ends rest = refl

coincided_ends : (rest : List ℕ) → end_in (codes "coincided " ++ rest) ≡ coincided_in rest
unfolding end_in listed_in
coincided_ends rest = refl

commit_failed_ends : (rest : List ℕ) → end_in (codes "commit failed " ++ rest) ≡ commit_failed_in rest
unfolding end_in listed_in
commit_failed_ends rest = refl

dropped_ends : (rest : List ℕ) → end_in (codes "dropped " ++ rest) ≡ dropped_in rest
unfolding end_in listed_in
dropped_ends rest = refl

failed_reads : (path : List ℕ) → IsEnd (failed path) → failed_in (path_text path) ≡ Some (failed path)
unfolding failed_in
failed_reads path is = ap (option_map failed) (path_reads path is)

coincided_reads : (edges : _) → IsEnd (coincided edges) → coincided_in (edges_text edges) ≡ Some (coincided edges)
unfolding coincided_in
coincided_reads edges is = ap (option_map coincided) (edges_read edges is.0 is.1)

dropped_reads : (by : Root) → IsEnd (dropped by) → dropped_in (root_text by) ≡ Some (dropped by)
unfolding dropped_in
dropped_reads by is = ap (option_map dropped) (root_of_reads by is)

committed_reads : end_in (codes "committed") ≡ Some committed
unfolding end_in
committed_reads = refl

timed_out_reads : end_in (codes "timed out") ≡ Some timed_out
unfolding end_in
timed_out_reads = refl

pub end_reads : (e : EndText) → IsEnd e → end_in (end_text e) ≡ Some e
end_reads committed is = committed_reads
end_reads (failed path) is = failed_ends (path_text path) ∙ failed_reads path is
end_reads timed_out is = timed_out_reads
end_reads (coincided edges) is = coincided_ends (edges_text edges) ∙ coincided_reads edges is
end_reads (commit_failed state part) is =
    ap end_in (append_assoc (codes "commit failed ") state (32 ∷ decimal part))
    ∙ commit_failed_ends (state ++ 32 ∷ decimal part)
    ∙ commit_failed_reads state part is.0 is.1
end_reads (dropped by) is = dropped_ends (root_text by) ∙ dropped_reads by is

-- ---- an attempt's line

-- without its byte 10
abbrev pub attempt_body : AttemptText → List ℕ
attempt_body a =
    codes "attempt " ++ (decimal a.txid ++ (codes "." ++ (decimal a.attempt ++ (codes " records " ++ (spans_text a.spans
    ++ (codes " ticks " ++ (decimal a.start ++ (codes "-" ++ (decimal a.finish ++ (codes " " ++ end_text a.ending))))))))))

pub attempt_shape : (a : AttemptText) → attempt_text a ≡ attempt_body a ++ 10 ∷ []
attempt_shape a = simp append_assoc refl

root_reads : (txid attempt : ℕ) (rest : List ℕ) → txid < 2 ^ 64 → attempt < 2 ^ 32
    → a_root (codes "attempt " ++ (decimal txid ++ (codes "." ++ (decimal attempt ++ (codes " records " ++ rest))))) ≡ Some (record { txid = txid; attempt = attempt }, rest)
unfolding a_root
root_reads txid attempt rest wide small =
    bind_reads (a_word (codes "attempt ")) _ _ tt _ (word_reads (codes "attempt ") _)
    ∙ bind_reads (a_number most_u64) _ _ txid _ (number_reads most_u64 txid _ wide (omega arith) refl)
    ∙ bind_reads (a_word (codes ".")) _ _ tt _ (word_reads (codes ".") _)
    ∙ bind_reads (a_number most_u32) _ _ attempt _ (number_reads most_u32 attempt _ (omega arith) (omega arith) refl)
    ∙ bind_reads (a_word (codes " records ")) _ _ tt _ (word_reads (codes " records ") rest)

spans_then : (spans : List Span) (rest : List ℕ) → AreSpans spans → some_spans (spans_text spans ++ 32 ∷ rest) ≡ Some (spans, 32 ∷ rest)
unfolding some_spans
spans_then spans rest are =
    let text : List ℕ = spans_text spans in
    let lacks : Lacks 32 text = spans_lack 32 (omega arith) spans are.each in
    ap₂ (λ front left. option_map (λ s. (s, left)) (spans_of front)) (front_there 32 text rest refl lacks) (from_there 32 text rest refl lacks)
    ∙ ap (option_map (λ s. (s, 32 ∷ rest))) (spans_read spans are)

ticks_read : (start finish : ℕ) (rest : List ℕ) → start < 2 ^ 64 → finish < 2 ^ 64
    → two_ticks (codes " ticks " ++ (decimal start ++ (codes "-" ++ (decimal finish ++ (codes " " ++ rest))))) ≡ Some ((start, finish), rest)
unfolding two_ticks
ticks_read start finish rest begins ends =
    bind_reads (a_word (codes " ticks ")) _ _ tt _ (word_reads (codes " ticks ") _)
    ∙ bind_reads (a_number most_u64) _ _ start _ (number_reads most_u64 start _ begins (omega arith) refl)
    ∙ bind_reads (a_word (codes "-")) _ _ tt _ (word_reads (codes "-") _)
    ∙ bind_reads (a_number most_u64) _ _ finish _ (number_reads most_u64 finish _ ends (omega arith) refl)
    ∙ bind_reads (a_word (codes " ")) _ _ tt _ (word_reads (codes " ") rest)

abbrev heading_of : AttemptText → Heading
heading_of a = record { root = record { txid = a.txid; attempt = a.attempt }; spans = a.spans; start = a.start; finish = a.finish }

heading_reads : (a : AttemptText) → IsAttempt a → a_heading (attempt_body a) ≡ Some (heading_of a, end_text a.ending)
unfolding a_heading
heading_reads a is =
    bind_reads a_root _ _ (record { txid = a.txid; attempt = a.attempt }) _ (root_reads a.txid a.attempt _ is.txid is.attempt)
    ∙ bind_reads some_spans _ _ a.spans _ (spans_then a.spans _ is.spans)
    ∙ bind_reads two_ticks _ _ (a.start, a.finish) _ (ticks_read a.start a.finish (end_text a.ending) is.start is.finish)

pub attempt_reads : (a : AttemptText) → IsAttempt a → attempt_in (attempt_body a) ≡ Some a
unfolding attempt_in
attempt_reads a is =
    ap (option_and_then (λ h. option_map (attempt_with h.0) (end_in h.1))) (heading_reads a is)
    ∙ ap (option_map (attempt_with (heading_of a))) (end_reads a.ending is.ending)

-- ---- a cell's line

-- without its byte 10
abbrev pub cell_body : CellText → List ℕ
cell_body c = codes "cell " ++ (c.state ++ 32 ∷ (c.key ++ 32 ∷ signed_decimal c.value))

pub cell_shape : (c : CellText) → cell_text c ≡ cell_body c ++ 10 ∷ []
cell_shape c = simp append_assoc refl

-- a text before a space and one without a space, as pieces
space_pieces : (xs v : List ℕ) → Lacks 32 v → (first : List ℕ) × (middle : List (List ℕ)) × (pieces 32 (xs ++ 32 ∷ v) ≡ first ∷ (middle ++ v ∷ []))
space_pieces [] v lacks = ([], [], ap (λ ps. [] ∷ ps) (pieces_one 32 v lacks))
space_pieces (x ∷ xs) v lacks = cases (x == 32) (space_pieces xs v lacks)
  where
    cases : (b : Bool) → (first : List ℕ) × (middle : List (List ℕ)) × (pieces 32 (xs ++ 32 ∷ v) ≡ first ∷ (middle ++ v ∷ []))
        → (first : List ℕ) × (middle : List (List ℕ)) × (cond b ([] ∷ pieces 32 (xs ++ 32 ∷ v)) (onto_first x (pieces 32 (xs ++ 32 ∷ v))) ≡ first ∷ (middle ++ v ∷ []))
    cases true had = ([], had.0 ∷ had.1, ap (λ ps. [] ∷ ps) had.2)
    cases false had = (x ∷ had.0, had.1, ap (onto_first x) had.2)

last_there : (first : List ℕ) (middle : List (List ℕ)) (v : List ℕ) → last_of (first ∷ (middle ++ v ∷ [])) ≡ v
last_there first [] v = refl
last_there first (m ∷ middle) v = last_there m middle v

behind_there : (key v : List ℕ) → Lacks 32 v → behind_space (key ++ 32 ∷ v) ≡ v
behind_there key v lacks =
    let cut = space_pieces key v lacks in
    ap last_of cut.2 ∙ last_there cut.0 cut.1 v

before_there : (key v : List ℕ) → Lacks 32 v → before_space (key ++ 32 ∷ v) ≡ key
before_there key v lacks =
    let behind = behind_there key v lacks in
    let len : length (key ++ 32 ∷ v) - (length v + 1) ≡ length key = omega (arith, length-append key (32 ∷ v)) in
    ap (λ d. take (length (key ++ 32 ∷ v) - (length d + 1)) (key ++ 32 ∷ v)) behind
    ∙ ap (λ n. take n (key ++ 32 ∷ v)) len ∙ take-append_seam key (32 ∷ v)

abbrev pub cell_parts : CellText → Cell
cell_parts c = record { state = c.state; key = c.key; digits = signed_decimal c.value }

pub cell_reads : (c : CellText) → IsCell c → cell_in (cell_body c) ≡ Some (cell_parts c)
unfolding cell_in
cell_reads c is =
    let v : List ℕ = signed_decimal c.value in
    let others : List ℕ = c.key ++ 32 ∷ v in
    let lacks : Lacks 32 c.state = high_lacks 32 (omega arith) c.state (name_high c.state is.state) in
    let tail_lacks : Lacks 32 v = high_lacks 32 (omega arith) v (signed_high c.value is.value) in
    ap (option_map (λ os. record { state = front_of 32 (c.state ++ 32 ∷ others); key = before_space os; digits = behind_space os })) (rest_there 32 c.state others refl lacks)
    ∙ ap (λ s. Some (record { state = s; key = before_space others; digits = behind_space others })) (front_there 32 c.state others refl lacks)
    ∙ ap₂ (λ k d. Some (record { state = c.state; key = k; digits = d })) (before_there c.key v tail_lacks) (behind_there c.key v tail_lacks)

pub state_reads : (c : CellText) → IsCell c → text_in c.state ≡ Some c.state
state_reads c is = name_reads c.state is.state

pub key_reads : (c : CellText) → IsCell c → text_in c.key ≡ Some c.key
key_reads c is = text_reads c.key (is_utf8-from_IsUtf8 c.key (text_is_utf8 c.key is.key))

pub text_none : (bytes : List ℕ) → (IsUtf8 bytes → ⊥) → text_in bytes ≡ None
unfolding text_in
text_none bytes other = cases (is_utf8 bytes) refl
  where
    cases : (b : Bool) → is_utf8 bytes ≡ b → cond b (Some bytes) None ≡ None
    cases true is = absurd (other (IsUtf8-from_is_utf8 bytes is))
    cases false is = refl

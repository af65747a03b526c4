-- A line is given back by its text, and stands on one line.
use Rattle.std.proofs.Common.{◌≡◌, ◌≢◌, ◌<◌, ◌≤◌, ◌^◌, ◌==◌, ℕ, zero, suc, ℤ, pos, negsuc, Bool, true, false, cond, List, [], ◌∷◌, ◌++◌, length, get_or, Option, Some, None, option_map, codes, refl, ap, ap₂, sym, ◌∙◌, arith}
use Rattle.std.specs.Option.{option_or}
use Rattle.std.specs.Prelude.{FitsSigned}
use Rattle.std.specs.Int.{w128}
use Rattle.std.specs.Fmt.{decimal, signed_decimal}
use Rattle.std.specs.List.{AllByRecursion}
use Rattle.std.specs.Str.Parse.{AllDigits, digits_value}
use Rattle.std.proofs.lemmas.Bool.{ne_eqb}
use Rattle.std.proofs.lemmas.Fmt.{decimal_is_IsNumeral_wide}
use Rattle.std.proofs.lemmas.Option.{none-some, same_Some}
use Rattle.std.proofs.lemmas.Str.Parse.{digit_at}
use Rattle.key_texts.proofs.KeysRead.{text_is_one_line}
use Rattle.report_grammar.specs.Lines.{IsLine, LineText, attempt, cell, tail, line_text}
use Rattle.report_grammar.specs.Report.{EndText, committed, failed, timed_out, coincided, commit_failed, dropped, end_text, EdgeText, edge_text, edges_text, path_text, root_text, spans_text, AttemptText, CellText, cell_text, TailText, ok, exhausted, unfinished}
use Rattle.report_grammar.specs.WellFormed.{IsAttempt, IsCell, IsEdge, IsEnd, IsTail}
use Rattle.report_grammar.specs.steps.Parsed.{an_exhausted, an_ok, an_unfinished, a_heading, a_root, attempt_in, body_of, Cell, cell_in, tail_in}
use Rattle.report_grammar.specs.steps.Reading.{a_word, after_word}
use Rattle.report_grammar.proofs.Lacking.{High, Lacks, decimal_high, edge_high, high-append, high_lacks, lacks-append, name_high, path_high, root_high, signed_high, spans_lack}
use Rattle.report_grammar.proofs.LinesRead.{attempt_body, attempt_reads, attempt_shape, body_is, cell_body, cell_parts, cell_reads, cell_shape, tail_body, tail_reads, tail_shape}

-- ---- words of one kind of line are none of another

no_heading_ok : (rest : List ℕ) → attempt_in (codes "ok " ++ rest) ≡ None
unfolding attempt_in a_heading a_root a_word
no_heading_ok rest = refl

no_heading_exhausted : (rest : List ℕ) → attempt_in (codes "exhausted " ++ rest) ≡ None
unfolding attempt_in a_heading a_root a_word
no_heading_exhausted rest = refl

no_heading_unfinished : (rest : List ℕ) → attempt_in (codes "unfinished " ++ rest) ≡ None
unfolding attempt_in a_heading a_root a_word
no_heading_unfinished rest = refl

pub no_attempt_tail : (t : TailText) → attempt_in (tail_body t) ≡ None
no_attempt_tail (ok records batches) = no_heading_ok _
no_attempt_tail (exhausted txid) = no_heading_exhausted _
no_attempt_tail (unfinished committed_count) = no_heading_unfinished _

pub no_attempt_cell : (c : CellText) → attempt_in (cell_body c) ≡ None
unfolding attempt_in a_heading a_root a_word
no_attempt_cell c = refl

pub no_tail_cell : (c : CellText) → tail_in (cell_body c) ≡ None
unfolding tail_in an_ok an_exhausted an_unfinished a_word
no_tail_cell c = refl

-- ---- a value by its digits

abbrev pub negated : ℕ → ℤ
negated zero = pos 0
negated (suc n) = negsuc n

pub signed_value : List ℕ → ℤ
signed_value [] = pos 0
signed_value (d ∷ ds) = cond (d == 45) (negated (digits_value 10 ds)) (pos (digits_value 10 (d ∷ ds)))

value_of_digits : (ds : List ℕ) → get_or ds 0 0 ≢ 45 → signed_value ds ≡ pos (digits_value 10 ds)
unfolding signed_value
value_of_digits [] other = refl
value_of_digits (d ∷ ds) other = rw (ne_eqb d 45 other) refl

decimal_value : (n : ℕ) → n < 10 ^ 64 → digits_value 10 (decimal n) ≡ n
decimal_value n small = (decimal_is_IsNumeral_wide n small).1

-- a number has no sign in front
no_sign : (ds : List ℕ) → AllDigits 10 ds → get_or ds 0 0 ≢ 45
no_sign [] all same = absurd (omega (arith, same))
no_sign (d ∷ ds) all same = absurd (omega (arith, digit_at (d ∷ ds) 0 all (omega arith), same))

value_back : (z : ℤ) → FitsSigned w128 z → signed_value (signed_decimal z) ≡ z
unfolding signed_value
value_back (pos n) fits =
    value_of_digits (decimal n) (no_sign (decimal n) (decimal_is_IsNumeral_wide n (omega arith)).0.1)
    ∙ ap pos (decimal_value n (omega arith))
value_back (negsuc n) fits = ap negated (decimal_value (suc n) (omega arith))

-- ---- a line by its text

pub cell_back : Cell → CellText
cell_back parts = record { state = parts.state; key = parts.key; value = signed_value parts.digits }

pub line_in : List ℕ → Option LineText
line_in body =
    option_or (option_map attempt (attempt_in body))
    (option_or (option_map tail (tail_in body)) (option_map (λ parts. cell (cell_back parts)) (cell_in body)))

pub line_body : LineText → List ℕ
line_body (attempt a) = attempt_body a
line_body (cell c) = cell_body c
line_body (tail t) = tail_body t

pub line_shape : (l : LineText) → line_text l ≡ line_body l ++ 10 ∷ []
unfolding line_body
line_shape (attempt a) = attempt_shape a
line_shape (cell c) = cell_shape c
line_shape (tail t) = tail_shape t

pub body_of_line : (l : LineText) → body_of (line_text l) ≡ line_body l
body_of_line l = ap body_of (line_shape l) ∙ body_is (line_body l)

pub line_back : (l : LineText) → IsLine l → line_in (line_body l) ≡ Some l
unfolding line_in line_body cell_back
line_back (attempt a) is = let read = attempt_reads a is in rw read refl
line_back (tail t) is = let none = no_attempt_tail t in let read = tail_reads t is in rw (none, read) refl
line_back (cell c) is =
    let first = no_attempt_cell c in
    let second = no_tail_cell c in
    let read = cell_reads c is in
    rw (first, second, read) (ap (λ v. Some (cell (record { state = c.state; key = c.key; value = v }))) (value_back c.value is.value))

-- lines with one text are one line
pub lines_one : (l m : LineText) → IsLine l → IsLine m → line_text l ≡ line_text m → l ≡ m
lines_one l m is_l is_m same =
    same_Some l m
    (sym (line_back l is_l) ∙ ap line_in (sym (body_of_line l) ∙ (ap body_of same ∙ body_of_line m)) ∙ line_back m is_m)

-- ---- one line

edges_line : (edges : List EdgeText) → AllByRecursion IsEdge edges → Lacks 10 (edges_text edges)
edges_line [] are = refl
edges_line (edge ∷ []) are = high_lacks 10 (omega arith) (edge_text edge) (edge_high edge are.0)
edges_line (edge ∷ next ∷ edges) are =
    lacks-append 10 (edge_text edge) (32 ∷ edges_text (next ∷ edges)) (high_lacks 10 (omega arith) (edge_text edge) (edge_high edge are.0)) (edges_line (next ∷ edges) are.1)

end_line : (e : EndText) → IsEnd e → Lacks 10 (end_text e)
end_line committed is = refl
end_line (failed path) is =
    lacks-append 10 (codes "failed ") (path_text path) refl (high_lacks 10 (omega arith) (path_text path) (path_high path is.each))
end_line timed_out is = refl
end_line (coincided edges) is = lacks-append 10 (codes "coincided ") (edges_text edges) refl (edges_line edges is.1)
end_line (commit_failed state part) is =
    lacks-append 10 (codes "commit failed " ++ state) (32 ∷ decimal part)
    (lacks-append 10 (codes "commit failed ") state refl (high_lacks 10 (omega arith) state (name_high state is.0)))
    (high_lacks 10 (omega arith) (decimal part) (decimal_high part (omega (arith, is.1))))
end_line (dropped by) is =
    lacks-append 10 (codes "dropped ") (root_text by) refl (high_lacks 10 (omega arith) (root_text by) (root_high by is))

number_then : (n : ℕ) (rest : List ℕ) → n < 2 ^ 64 → Lacks 10 rest → Lacks 10 (decimal n ++ rest)
number_then n rest small lacks =
    lacks-append 10 (decimal n) rest (high_lacks 10 (omega arith) (decimal n) (decimal_high n (omega arith))) lacks

tail_line : (t : TailText) → IsTail t → Lacks 10 (tail_body t)
tail_line (ok records batches) is = number_then records _ is.0 (number_then batches _ is.1 refl)
tail_line (exhausted txid) is = number_then txid [] is refl
tail_line (unfinished committed_count) is = number_then committed_count [] is refl

attempt_line : (a : AttemptText) → IsAttempt a → Lacks 10 (attempt_body a)
attempt_line a is =
    number_then a.txid _ is.txid (number_then a.attempt _ (omega (arith, is.attempt)) (lacks-append 10 (spans_text a.spans) _ (spans_lack 10 (omega arith) a.spans is.spans.each)
    (number_then a.start _ is.start (number_then a.finish _ is.finish (end_line a.ending is.ending)))))

cell_line : (c : CellText) → IsCell c → Lacks 10 (cell_body c)
cell_line c is =
    lacks-append 10 c.state (32 ∷ (c.key ++ 32 ∷ signed_decimal c.value)) (high_lacks 10 (omega arith) c.state (name_high c.state is.state))
    (lacks-append 10 c.key (32 ∷ signed_decimal c.value) (text_is_one_line c.key is.key) (high_lacks 10 (omega arith) (signed_decimal c.value) (signed_high c.value is.value)))

pub one_line : (l : LineText) → IsLine l → Lacks 10 (line_body l)
unfolding line_body
one_line (attempt a) is = attempt_line a is
one_line (cell c) is = cell_line c is
one_line (tail t) is = tail_line t is

-- ---- what is read of a line

-- without its last byte
pub body_there : (line body : List ℕ) (l : LineText) → body ≡ body_of line → line ≡ line_text l → body ≡ line_body l
body_there line body l cut is = cut ∙ (ap body_of is ∙ body_of_line l)

module _ (line body : List ℕ) (cut : body ≡ body_of line) where
  there : (l : LineText) → IsLine l → line ≡ line_text l → line_in body ≡ Some l
  there l is_line is = ap line_in (body_there line body l cut is) ∙ line_back l is_line

  pub attempt_there : (a : AttemptText) → Some a ≡ attempt_in body → (l : LineText) → IsLine l → line ≡ line_text l → Some (attempt a) ≡ Some l
  unfolding line_in
  attempt_there a read l is_line is =
      ap (λ r. option_or (option_map attempt r) (option_or (option_map tail (tail_in body)) (option_map (λ parts. cell (cell_back parts)) (cell_in body)))) read
      ∙ there l is_line is

  pub tail_there : None ≡ attempt_in body → (t : TailText) → Some t ≡ tail_in body → (l : LineText) → IsLine l → line ≡ line_text l → Some (tail t) ≡ Some l
  unfolding line_in
  tail_there none t read l is_line is =
      ap₂ (λ first r. option_or (option_map attempt first) (option_or (option_map tail r) (option_map (λ parts. cell (cell_back parts)) (cell_in body)))) none read
      ∙ there l is_line is

  pub cell_there : None ≡ attempt_in body → None ≡ tail_in body → (found : Option CellText)
      → ((c : CellText) → IsCell c → body ≡ body_of (cell_text c) → found ≡ Some c)
      → (l : LineText) → IsLine l → line ≡ line_text l → option_map cell found ≡ Some l
  unfolding line_body
  cell_there first second found reads (attempt a) is_line is =
      absurd (none-some a (first ∙ (ap attempt_in (body_there line body (attempt a) cut is) ∙ attempt_reads a is_line)))
  cell_there first second found reads (cell c) is_line is = ap (option_map cell) (reads c is_line (cut ∙ ap body_of is))
  cell_there first second found reads (tail t) is_line is =
      absurd (none-some t (second ∙ (ap tail_in (body_there line body (tail t) cut is) ∙ tail_reads t is_line)))

-- the parts of a cell's line
pub parts_there : (body : List ℕ) (c : CellText) → IsCell c → body ≡ body_of (cell_text c) → cell_in body ≡ Some (cell_parts c)
parts_there body c is cut = ap cell_in (cut ∙ ap body_of (cell_shape c) ∙ body_is (cell_body c)) ∙ cell_reads c is

-- ---- the sign of a value

abbrev sign_of : ℤ → Option (List ℕ)
sign_of (pos n) = None
sign_of (negsuc n) = Some (decimal (suc n))

no_minus : (ds : List ℕ) → get_or ds 0 0 ≢ 45 → after_word (codes "-") ds ≡ None
no_minus [] other = refl
no_minus (d ∷ ds) other = rw (ne_eqb d 45 other) refl

pub signs : (z : ℤ) → FitsSigned w128 z → after_word (codes "-") (signed_decimal z) ≡ sign_of z
signs (pos n) fits = no_minus (decimal n) (no_sign (decimal n) (decimal_is_IsNumeral_wide n (omega arith)).0.1)
signs (negsuc n) fits = refl

-- a value is read of its digits behind a sign, and of all its digits where it has none
pub value_negative : (z : ℤ) → FitsSigned w128 z → (text digits : List ℕ) → text ≡ signed_decimal z → Some digits ≡ after_word (codes "-") text
    → (found : Option ℕ) → ((n : ℕ) → n < 2 ^ 128 → digits ≡ decimal n → found ≡ Some n)
    → (value : Option ℤ) → ((n : ℕ) → found ≡ Some (suc n) → FitsSigned w128 (negsuc n) → value ≡ Some (negsuc n)) → value ≡ Some z
value_negative (pos n) fits text digits is behind found reads value makes =
    absurd (none-some digits (sym (behind ∙ (ap (after_word (codes "-")) is ∙ signs (pos n) fits))))
value_negative (negsuc n) fits text digits is behind found reads value makes =
    let same : digits ≡ decimal (suc n) = same_Some digits (decimal (suc n)) (behind ∙ (ap (after_word (codes "-")) is ∙ signs (negsuc n) fits)) in
    makes n (reads (suc n) (omega arith) same) fits

pub value_positive : (z : ℤ) → FitsSigned w128 z → (text : List ℕ) → text ≡ signed_decimal z → None ≡ after_word (codes "-") text
    → (found : Option ℕ) → ((n : ℕ) → n < 2 ^ 128 → text ≡ decimal n → found ≡ Some n)
    → (value : Option ℤ) → ((n : ℕ) → found ≡ Some n → FitsSigned w128 (pos n) → value ≡ Some (pos n)) → value ≡ Some z
value_positive (pos n) fits text is behind found reads value makes = makes n (reads n (omega arith) is) fits
value_positive (negsuc n) fits text is behind found reads value makes =
    absurd (none-some (decimal (suc n)) (behind ∙ (ap (after_word (codes "-")) is ∙ signs (negsuc n) fits)))

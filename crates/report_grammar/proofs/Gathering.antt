-- What was read of a report so far, and which line is refused.
use Rattle.std.proofs.Common.{◌≡◌, ℕ, suc, ◌+◌, List, [], ◌∷◌, ◌++◌, length, map, get_or, drop, Option, Some, None, refl, ap, sym, subst, ◌∙◌, append_assoc, append-nil, lit<, ap₂, arith}
use Rattle.std.specs.Prelude.{option_and_then, unwrap_or}
use Rattle.std.specs.List.{AllByRecursion, flat_map}
use Rattle.std.proofs.lemmas.List.{length-append, length-map, map-append}
use Rattle.std.proofs.lemmas.List.Folds.{flat_map-map}
use Rattle.std.proofs.lemmas.Grind.{flat_map-append}
use Rattle.std.proofs.lemmas.Option.{none-some, same_Some}
use Rattle.report_grammar.specs.Lines.{AreNone, Begin, Ends, IsLine, IsRefusedAt, LineText, Says, attempt, cell, tail, line_text, lines_in, lines_of}
use Rattle.report_grammar.specs.Report.{AttemptText, CellText, TailText, ReportText, attempt_text, cell_text, ok, exhausted, unfinished, report_text, tail_text}
use Rattle.report_grammar.specs.WellFormed.{Fit, IsAttempt, IsCell, IsTail, IsWellFormed}
use Rattle.report_grammar.specs.steps.Gathered.{Follows, Gathered, MayNotFollow, nothing, with_line}
use Rattle.report_grammar.proofs.LinesBack.{line_body, line_shape, lines_one, one_line}
use Rattle.report_grammar.proofs.Splitting.{line_first, lines_joined}

abbrev pub end_lines : Option TailText → List LineText
end_lines None = []
end_lines (Some t) = tail t ∷ []

-- the lines that were read
abbrev pub lines_so_far : Gathered → List LineText
lines_so_far g = map attempt g.attempts ++ (map cell g.cells ++ end_lines g.end)

abbrev pub texts_so_far : Gathered → List (List ℕ)
texts_so_far g = map line_text (lines_so_far g)

abbrev IsSoFar : List CellText → Option TailText → Type 0
IsSoFar cells None = Unit {0}
IsSoFar cells (Some t) = IsTail t × Fit cells t

-- what was read is well formed
pub record IsGathered (g : Gathered) : Type 0 where
  pub attempts : AllByRecursion IsAttempt g.attempts
  pub cells : AllByRecursion IsCell g.cells
  pub end : IsSoFar g.cells g.end

pub nothing_gathered : IsGathered nothing
nothing_gathered = record { attempts = tt; cells = tt; end = tt }

-- ---- one line more

all_more : {X : Type 0} (P : X → Type 0) (xs : List X) (x : X) → AllByRecursion P xs → P x → AllByRecursion P (xs ++ x ∷ [])
all_more P [] x all is = (is, tt)
all_more P (y ∷ ys) x all is = (all.0, all_more P ys x all.1 is)

attempt_more : (as_ : List AttemptText) (a : AttemptText) → map attempt (as_ ++ a ∷ []) ++ [] ≡ (map attempt as_ ++ []) ++ attempt a ∷ []
attempt_more as_ a = simp (map-append, append-nil) refl

cell_more : (as_ : List AttemptText) (cs : List CellText) (c : CellText) → map attempt as_ ++ (map cell (cs ++ c ∷ []) ++ []) ≡ (map attempt as_ ++ (map cell cs ++ [])) ++ cell c ∷ []
cell_more as_ cs c = simp (map-append, append-nil, append_assoc) refl

tail_more : (as_ : List AttemptText) (cs : List CellText) (t : TailText) → map attempt as_ ++ (map cell cs ++ tail t ∷ []) ≡ (map attempt as_ ++ (map cell cs ++ [])) ++ tail t ∷ []
tail_more as_ cs t = simp (append-nil, append_assoc) refl

-- what one line more makes of what was read
abbrev Grows : Gathered → LineText → Gathered → Type 0
Grows old line new = (lines_so_far new ≡ lines_so_far old ++ line ∷ []) × (IsLine line → IsGathered old → IsGathered new)

grown : (old new made : Gathered) (line : LineText) → Some made ≡ Some new → Grows old line made → Grows old line new
grown old new made line is grows = subst (Grows old line) (same_Some made new is) grows

ended_grows : (as_ : List AttemptText) (cs : List CellText) (t : TailText) → Fit cs t
    → Grows (record { attempts = as_; cells = cs; end = None }) (tail t) (record { attempts = as_; cells = cs; end = Some t })
ended_grows as_ cs t fit = (tail_more as_ cs t, λ is had. record { attempts = had.attempts; cells = had.cells; end = (is, fit) })

grows_by : (as_ : List AttemptText) (cs : List CellText) (end : Option TailText) (line : LineText) (new : Gathered)
    → with_line (record { attempts = as_; cells = cs; end = end }) line ≡ Some new → Grows (record { attempts = as_; cells = cs; end = end }) line new
unfolding with_line
grows_by as_ cs (Some t) line new is = absurd (none-some new is)
grows_by as_ [] None (attempt a) new is =
    grown _ new _ (attempt a) is (attempt_more as_ a, λ line had. record { attempts = all_more IsAttempt as_ a had.attempts line; cells = tt; end = tt })
grows_by as_ (c ∷ cs) None (attempt a) new is = absurd (none-some new is)
grows_by as_ cs None (cell c) new is =
    grown _ new _ (cell c) is (cell_more as_ cs c, λ line had. record { attempts = had.attempts; cells = all_more IsCell cs c had.cells line; end = tt })
grows_by as_ cs None (tail (ok records batches)) new is = grown _ new _ _ is (ended_grows as_ cs (ok records batches) tt)
grows_by as_ [] None (tail (exhausted txid)) new is = grown _ new _ _ is (ended_grows as_ [] (exhausted txid) refl)
grows_by as_ (c ∷ cs) None (tail (exhausted txid)) new is = absurd (none-some new is)
grows_by as_ [] None (tail (unfinished committed_count)) new is = grown _ new _ _ is (ended_grows as_ [] (unfinished committed_count) refl)
grows_by as_ (c ∷ cs) None (tail (unfinished committed_count)) new is = absurd (none-some new is)

pub line_added : (old new : Gathered) (line : LineText) → with_line old line ≡ Some new → Grows old line new
line_added old new line is = grows_by old.attempts old.cells old.end line new is

-- ---- all lines, one after another

pub with_lines : Gathered → List LineText → Option Gathered
with_lines g [] = Some g
with_lines g (line ∷ lines) = option_and_then (λ h. with_lines h lines) (with_line g line)

with_lines-append : (g : Gathered) (xs ys : List LineText) → with_lines g (xs ++ ys) ≡ option_and_then (λ h. with_lines h ys) (with_lines g xs)
unfolding with_lines
with_lines-append g [] ys = refl
with_lines-append g (x ∷ xs) ys = cases (with_line g x) (λ h. with_lines-append h xs ys)
  where
    cases : (found : Option Gathered) → ((h : Gathered) → with_lines h (xs ++ ys) ≡ option_and_then (λ k. with_lines k ys) (with_lines h xs))
        → option_and_then (λ h. with_lines h (xs ++ ys)) found ≡ option_and_then (λ k. with_lines k ys) (option_and_then (λ h. with_lines h xs) found)
    cases None later = refl
    cases (Some h) later = later h

with_attempts : (as_ bs : List AttemptText) (rest : List LineText)
    → with_lines (record { attempts = as_; cells = []; end = None }) (map attempt bs ++ rest) ≡ with_lines (record { attempts = as_ ++ bs; cells = []; end = None }) rest
unfolding with_lines with_line
with_attempts as_ [] rest = ap (λ xs. with_lines (record { attempts = xs; cells = []; end = None }) rest) (sym (append-nil as_))
with_attempts as_ (b ∷ bs) rest =
    with_attempts (as_ ++ b ∷ []) bs rest
    ∙ ap (λ xs. with_lines (record { attempts = xs; cells = []; end = None }) rest) (append_assoc as_ (b ∷ []) bs)

with_cells : (as_ : List AttemptText) (cs ds : List CellText) (rest : List LineText)
    → with_lines (record { attempts = as_; cells = cs; end = None }) (map cell ds ++ rest) ≡ with_lines (record { attempts = as_; cells = cs ++ ds; end = None }) rest
unfolding with_lines with_line
with_cells as_ cs [] rest = ap (λ xs. with_lines (record { attempts = as_; cells = xs; end = None }) rest) (sym (append-nil cs))
with_cells as_ cs (d ∷ ds) rest =
    with_cells as_ (cs ++ d ∷ []) ds rest
    ∙ ap (λ xs. with_lines (record { attempts = as_; cells = xs; end = None }) rest) (append_assoc cs (d ∷ []) ds)

with_end : (as_ : List AttemptText) (cs : List CellText) (end : Option TailText) → IsSoFar cs end
    → with_lines (record { attempts = as_; cells = cs; end = None }) (end_lines end) ≡ Some (record { attempts = as_; cells = cs; end = end })
unfolding with_lines with_line
with_end as_ cs None so_far = refl
with_end as_ cs (Some (ok records batches)) so_far = refl
with_end as_ [] (Some (exhausted txid)) so_far = refl
with_end as_ (c ∷ cs) (Some (exhausted txid)) so_far = let none = so_far.1 in cc
with_end as_ [] (Some (unfinished committed_count)) so_far = refl
with_end as_ (c ∷ cs) (Some (unfinished committed_count)) so_far = let none = so_far.1 in cc

-- what was read is read of its lines
pub read_of_lines : (g : Gathered) → IsGathered g → with_lines nothing (lines_so_far g) ≡ Some g
read_of_lines g is =
    with_attempts [] g.attempts (map cell g.cells ++ end_lines g.end) ∙ with_cells g.attempts [] g.cells (end_lines g.end) ∙ with_end g.attempts g.cells g.end is.end

-- ---- a whole report

abbrev pub whole : ReportText → Gathered
whole r = record { attempts = r.attempts; cells = r.cells; end = Some r.tail }

whole_gathered : (r : ReportText) → IsWellFormed r → IsGathered (whole r)
whole_gathered r is = record { attempts = is.attempts; cells = is.cells; end = (is.tail, is.fit) }

abbrev AreLines : List LineText → Type 0
AreLines lines = AllByRecursion IsLine lines

all-append : {X : Type 0} (P : X → Type 0) (xs ys : List X) → AllByRecursion P xs → AllByRecursion P ys → AllByRecursion P (xs ++ ys)
all-append P [] ys first second = second
all-append P (x ∷ xs) ys first second = (first.0, all-append P xs ys first.1 second)

attempts_lines : (as_ : List AttemptText) → AllByRecursion IsAttempt as_ → AreLines (map attempt as_)
attempts_lines [] all = tt
attempts_lines (a ∷ as_) all = (all.0, attempts_lines as_ all.1)

cells_lines : (cs : List CellText) → AllByRecursion IsCell cs → AreLines (map cell cs)
cells_lines [] all = tt
cells_lines (c ∷ cs) all = (all.0, cells_lines cs all.1)

ends_are_lines : (cs : List CellText) (end : Option TailText) → IsSoFar cs end → AreLines (end_lines end)
ends_are_lines cs None so_far = tt
ends_are_lines cs (Some t) so_far = (so_far.0, tt)

are_lines : (g : Gathered) → IsGathered g → AreLines (lines_so_far g)
are_lines g is =
    all-append IsLine (map attempt g.attempts) _ (attempts_lines g.attempts is.attempts) (all-append IsLine (map cell g.cells) _ (cells_lines g.cells is.cells) (ends_are_lines g.cells g.end is.end))

-- ---- lists of texts that begin alike

first_text : (x y : List ℕ) (xs ys : List (List ℕ)) → x ∷ xs ≡ y ∷ ys → x ≡ y
first_text x y xs ys same = ap (λ (l : List (List ℕ)). get_or l 0 []) same

other_texts : (x y : List ℕ) (xs ys : List (List ℕ)) → x ∷ xs ≡ y ∷ ys → xs ≡ ys
other_texts x y xs ys same = ap (λ (l : List (List ℕ)). drop 1 l) same

no_text : (x : List ℕ) (xs : List (List ℕ)) → x ∷ xs ≡ [] → ⊥
no_text x xs same = let len : suc (length xs) ≡ 0 = ap length same in absurd (omega (arith, len))

lines_same : (xs ys : List LineText) → AreLines xs → AreLines ys → map line_text xs ≡ map line_text ys → xs ≡ ys
lines_same [] [] are also same = refl
lines_same [] (y ∷ ys) are also same = absurd (no_text (line_text y) (map line_text ys) (sym same))
lines_same (x ∷ xs) [] are also same = absurd (no_text (line_text x) (map line_text xs) same)
lines_same (x ∷ xs) (y ∷ ys) are also same =
    ap₂ (λ l ls. l ∷ ls) (lines_one x y are.0 also.0 (first_text _ _ _ _ same)) (lines_same xs ys are.1 also.1 (other_texts _ _ _ _ same))

-- a text is the line that follows some lines
record Continues (xs ys : List LineText) (text : List ℕ) : Type 0 where
  pub line : LineText
  pub later : List LineText
  pub are : ys ≡ xs ++ line ∷ later
  pub says : Says text line

continues : (xs ys : List LineText) (text : List ℕ) (others : List (List ℕ)) → AreLines xs → AreLines ys
    → (map line_text xs ++ text ∷ []) ++ others ≡ map line_text ys → Continues xs ys text
continues [] [] text others are also same = absurd (no_text text others same)
continues [] (y ∷ ys) text others are also same = record {
  line = y;
  later = ys;
  are = refl;
  says = record { is_line = also.0; is_text = first_text _ _ _ _ same };
}
continues (x ∷ xs) [] text others are also same = absurd (no_text (line_text x) ((map line_text xs ++ text ∷ []) ++ others) same)
continues (x ∷ xs) (y ∷ ys) text others are also same =
    let rest = continues xs ys text others are.1 also.1 (other_texts _ _ _ _ same) in
    let one : x ≡ y = lines_one x y are.0 also.0 (first_text _ _ _ _ same) in
    record {
      line = rest.line;
      later = rest.later;
      are = ap₂ (λ l ls. l ∷ ls) (sym one) rest.are;
      says = rest.says;
    }

-- ---- which line is refused

-- a text that may not follow what was read begins no report there
no_report : (g : Gathered) (text : List ℕ) → IsGathered g → MayNotFollow text g → Begin (texts_so_far g ++ text ∷ []) → ⊥
unfolding with_lines
no_report g text is other begin =
    let r = begin.report in
    let more = continues (lines_so_far g) (lines_of r) text begin.others (are_lines g is) (are_lines (whole r) (whole_gathered r begin.is_well)) begin.are in
    let read = read_of_lines (whole r) (whole_gathered r begin.is_well) in
    let cut = ap (with_lines nothing) more.are ∙ with_lines-append nothing (lines_so_far g) (more.line ∷ more.later) in
    let there = ap (option_and_then (λ h. with_lines h (more.line ∷ more.later))) (read_of_lines g is) in
    let stops = ap (option_and_then (λ h. with_lines h more.later)) (other more.line more.says) in
    none-some (whole r) (sym (cut ∙ there ∙ stops) ∙ read)

begins_by : (as_ : List AttemptText) (cs : List CellText) (end : Option TailText) → IsGathered (record { attempts = as_; cells = cs; end = end })
    → Begin (texts_so_far (record { attempts = as_; cells = cs; end = end }))
begins_by as_ cs None is = record {
  report = record { attempts = as_; cells = cs; tail = ok 0 0 };
  is_well = record { attempts = is.attempts; cells = is.cells; tail = (lit< tt, lit< tt); fit = tt };
  others = map line_text (tail (ok 0 0) ∷ []);
  are = sym (map-append line_text (map attempt as_ ++ (map cell cs ++ [])) (tail (ok 0 0) ∷ [])) ∙ ap (map line_text) (sym (tail_more as_ cs (ok 0 0)));
}
begins_by as_ cs (Some t) is = record {
  report = record { attempts = as_; cells = cs; tail = t };
  is_well = record { attempts = is.attempts; cells = is.cells; tail = is.end.0; fit = is.end.1 };
  others = [];
  are = append-nil (texts_so_far (record { attempts = as_; cells = cs; end = Some t }));
}

begins : (g : Gathered) → IsGathered g → Begin (texts_so_far g)
begins g is = begins_by g.attempts g.cells g.end is

pub refused : (g : Gathered) (lines later : List (List ℕ)) (text : List ℕ) (number : ℕ) → IsGathered g → MayNotFollow text g
    → texts_so_far g ++ text ∷ later ≡ lines → number ≡ suc (length (lines_so_far g)) → IsRefusedAt lines number
refused g lines later text number is other all place = record {
  first = texts_so_far g;
  others = text ∷ later;
  are = sym all;
  begin = begins g is;
  ends = no_report g text is other;
  place = place ∙ ap suc (sym (length-map (lines_so_far g) line_text));
}

none_missing : (g : Gathered) → IsGathered g → g.end ≡ None → AreNone (texts_so_far g)
none_missing g is open_ r is_well same =
    let one = lines_same (lines_so_far g) (lines_of r) (are_lines g is) (are_lines (whole r) (whole_gathered r is_well)) same in
    let both = sym (read_of_lines g is) ∙ (ap (with_lines nothing) one ∙ read_of_lines (whole r) (whole_gathered r is_well)) in
    none-some r.tail (sym open_ ∙ ap (λ (h : Gathered). h.end) (same_Some g (whole r) both))

pub missing : (g : Gathered) (lines : List (List ℕ)) (number : ℕ) → IsGathered g → g.end ≡ None
    → texts_so_far g ++ [] ≡ lines → number ≡ suc (length (lines_so_far g)) → IsRefusedAt lines number
missing g lines number is open_ all place = record {
  first = texts_so_far g;
  others = [];
  are = sym all;
  begin = begins g is;
  ends = none_missing g is open_;
  place = place ∙ ap suc (sym (length-map (lines_so_far g) line_text));
}

-- a line that follows is added to what was read
pub gathered_more : (old new : Gathered) (text : List ℕ) (lines later : List (List ℕ)) → Follows text old new → IsGathered old
    → texts_so_far old ++ text ∷ later ≡ lines
    → (texts_so_far new ++ later ≡ lines) × IsGathered new × (length (lines_so_far new) ≡ suc (length (lines_so_far old)))
gathered_more old new text lines later follows is all =
    let grown_ = line_added old new follows.line follows.added in
    let texts : texts_so_far new ≡ texts_so_far old ++ text ∷ [] =
    ap (map line_text) grown_.0 ∙ (map-append line_text (lines_so_far old) (follows.line ∷ []) ∙ ap (λ t. texts_so_far old ++ t ∷ []) (sym follows.says.is_text)) in
    let count : length (lines_so_far new) ≡ suc (length (lines_so_far old)) =
    ap length grown_.0 ∙ (length-append (lines_so_far old) (follows.line ∷ []) ∙ omega arith) in
    (ap (λ ts. ts ++ later) texts ∙ (append_assoc (texts_so_far old) (text ∷ []) later ∙ all), grown_.1 follows.says.is_line is, count)

-- a line that may not follow, and any other line of this text
pub same_line : (text : List ℕ) (l m : LineText) → Says text l → Says text m → l ≡ m
same_line text l m first second = lines_one l m first.is_line second.is_line (sym first.is_text ∙ second.is_text)

-- ---- a report's text and its lines

text_joined : (r : ReportText) → flat_map line_text (lines_of r) ≡ report_text r
unfolding report_text
text_joined r =
    flat_map-append line_text (map attempt r.attempts) (map cell r.cells ++ tail r.tail ∷ [])
    ∙ ap₂ (λ a b. a ++ b) (flat_map-map line_text attempt r.attempts) (flat_map-append line_text (map cell r.cells) (tail r.tail ∷ []) ∙ ap₂ (λ a b. a ++ b) (flat_map-map line_text cell r.cells) (append-nil (tail_text r.tail)))
    ∙ sym (append_assoc (flat_map attempt_text r.attempts) (flat_map cell_text r.cells) (tail_text r.tail))

lines_in_lines : (lines : List LineText) → AreLines lines → lines_in (flat_map line_text lines) ≡ map line_text lines
lines_in_lines [] are = refl
lines_in_lines (l ∷ lines) are =
    let rest : List ℕ = flat_map line_text lines in
    ap (λ t. lines_in (t ++ rest)) (line_shape l)
    ∙ line_first (line_body l) rest (one_line l are.0)
    ∙ ap₂ (λ a b. a ∷ b) (sym (line_shape l)) (lines_in_lines lines are.1)

pub lines_in_text : (r : ReportText) → IsWellFormed r → lines_in (report_text r) ≡ map line_text (lines_of r)
lines_in_text r is =
    ap lines_in (sym (text_joined r)) ∙ lines_in_lines (lines_of r) (are_lines (whole r) (whole_gathered r is))

-- what was read up to the last line is a report, and the text is its text
pub all_read : (g : Gathered) (t : TailText) (bytes : List ℕ) → IsGathered g → g.end ≡ Some t → texts_so_far g ++ [] ≡ lines_in bytes
    → IsWellFormed (record { attempts = g.attempts; cells = g.cells; tail = t }) × (bytes ≡ report_text (record { attempts = g.attempts; cells = g.cells; tail = t }))
all_read g t bytes is ended all = go g.end ended is.end (sym (append-nil (texts_so_far g)) ∙ all)
  where
    go : (end : Option TailText) → end ≡ Some t → IsSoFar g.cells end → map line_text (map attempt g.attempts ++ (map cell g.cells ++ end_lines end)) ≡ lines_in bytes
        → IsWellFormed (record { attempts = g.attempts; cells = g.cells; tail = t }) × (bytes ≡ report_text (record { attempts = g.attempts; cells = g.cells; tail = t }))
    go None there so_far same = absurd (none-some t there)
    go (Some u) there so_far same =
        let one : u ≡ t = same_Some u t there in
        let r : ReportText = record { attempts = g.attempts; cells = g.cells; tail = u } in
        let text : bytes ≡ report_text r =
        sym (lines_joined bytes) ∙ (ap (flat_map (λ line. line)) (sym same) ∙ (flat_map-map (λ line. line) line_text (lines_of r) ∙ text_joined r)) in
        subst (λ (v : TailText). IsWellFormed (record { attempts = g.attempts; cells = g.cells; tail = v }) × (bytes ≡ report_text (record { attempts = g.attempts; cells = g.cells; tail = v }))) one
        (record { attempts = is.attempts; cells = is.cells; tail = so_far.0; fit = so_far.1 }, text)

-- ---- laws

-- no text has two reports
pub reports_one : (r s : ReportText) → IsWellFormed r → IsWellFormed s → report_text r ≡ report_text s → r ≡ s
reports_one r s is also same =
    let texts = sym (lines_in_text r is) ∙ (ap lines_in same ∙ lines_in_text s also) in
    let one = lines_same (lines_of r) (lines_of s) (are_lines (whole r) (whole_gathered r is)) (are_lines (whole s) (whole_gathered s also)) texts in
    let both = sym (read_of_lines (whole r) (whole_gathered r is)) ∙ (ap (with_lines nothing) one ∙ read_of_lines (whole s) (whole_gathered s also)) in
    ap (λ (g : Gathered). record { attempts = g.attempts; cells = g.cells; tail = unwrap_or g.end r.tail }) (same_Some (whole r) (whole s) both)

never_by : (r : ReportText) → IsWellFormed r → (first others : List (List ℕ)) → map line_text (lines_of r) ≡ first ++ others → Ends first others → ⊥
never_by r is first [] are ends = ends r is (sym (append-nil first) ∙ sym are)
never_by r is first (l ∷ others) are ends =
    ends (record { report = r; is_well = is; others = others; are = append_assoc first (l ∷ []) others ∙ sym are })

-- no line of a report's text is refused
pub never_refused : (r : ReportText) (number : ℕ) → IsWellFormed r → IsRefusedAt (lines_in (report_text r)) number → ⊥
never_refused r number is refusal =
    never_by r is refusal.first refusal.others (sym (lines_in_text r is) ∙ refusal.are) refusal.ends

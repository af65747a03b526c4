-- The first line of some bytes, and lines that are joined.
use Rattle.std.proofs.Common.{◌≡◌, ℕ, zero, suc, ◌+◌, ◌<◌, ◌≤◌, ◌==◌, Bool, true, false, not, cond, ltb, Some, None, List, [], ◌∷◌, ◌++◌, length, get_or, take, drop, refl, ap, ◌∙◌, add-one, arith}
use Rattle.std.specs.List.{flat_map, position, position_or_len}
use Rattle.std.proofs.lemmas.Bool.{and_parts}
use Rattle.std.proofs.lemmas.Bool.Decides.{nat_tests}
use Rattle.std.proofs.lemmas.List.Quantifiers.{position-Some}
use Rattle.std.proofs.lemmas.List.Sums.{fails_before_first}
use Rattle.storm_values.specs.Lines.{before_first}
use Rattle.report_grammar.specs.Lines.{lines_in}
use Rattle.report_grammar.proofs.Lacking.{Lacks}

-- a byte that ends a line
abbrev pub ends_line : ℕ → Bool
ends_line byte = byte == 10

lines_in-at : (bytes : List ℕ) (n : ℕ) → n < length bytes → ends_line (get_or bytes n 0) ≡ true
    → ((k : ℕ) → k < n → ends_line (get_or bytes k 0) ≡ false)
    → lines_in bytes ≡ take (suc n) bytes ∷ lines_in (drop (suc n) bytes)
lines_in-at [] n within here before = absurd (omega arith)
lines_in-at (byte ∷ bytes) zero within here before = rw here refl
lines_in-at (byte ∷ bytes) (suc n) within here before =
    let first : ends_line byte ≡ false = before 0 (omega arith) in
    let later = lines_in-at bytes n (omega arith) here (λ k below. before (suc k) (omega arith)) in
    rw first (ap (before_first byte) later)

lines_in-without : (bytes : List ℕ) → 0 < length bytes
    → ((k : ℕ) → k < length bytes → ends_line (get_or bytes k 0) ≡ false)
    → lines_in bytes ≡ bytes ∷ []
lines_in-without [] some before = absurd (omega arith)
lines_in-without (byte ∷ []) some before =
    let first : ends_line byte ≡ false = before 0 (omega arith) in
    rw first refl
lines_in-without (byte ∷ next ∷ bytes) some before =
    let first : ends_line byte ≡ false = before 0 (omega arith) in
    let after = λ (k : ℕ) (below : k < length (next ∷ bytes)). before (suc k) (omega arith) in
    let later = lines_in-without (next ∷ bytes) (omega arith) after in
    rw first (ap (before_first byte) later)

-- where a byte 10 comes first at n
pub lines_in-Some : (bytes : List ℕ) (n : ℕ) → position ends_line bytes ≡ Some n
    → lines_in bytes ≡ take (n + 1) bytes ∷ lines_in (drop (n + 1) bytes)
lines_in-Some bytes n found =
    let facts = position-Some ends_line bytes n 0 found in
    rw add-one (lines_in-at bytes n facts.0 facts.1 facts.2)

none_before : (place len : ℕ) → cond (ltb place len) (Some place) None ≡ None → len ≤ place
none_before place len none = grind (arith, nat_tests)

-- where no byte 10 comes
pub lines_in-None : (bytes : List ℕ) → 0 < length bytes → position ends_line bytes ≡ None
    → lines_in bytes ≡ bytes ∷ []
lines_in-None bytes some none =
    let past = none_before (position_or_len ends_line bytes) (length bytes) none in
    lines_in-without bytes some (λ k below. fails_before_first ends_line bytes k 0 (omega arith))

-- ---- lines that are joined

joined_first : (byte : ℕ) (lines : List (List ℕ)) → flat_map (λ line. line) (before_first byte lines) ≡ byte ∷ flat_map (λ line. line) lines
joined_first byte [] = refl
joined_first byte (line ∷ lines) = refl

pub lines_joined : (bytes : List ℕ) → flat_map (λ line. line) (lines_in bytes) ≡ bytes
lines_joined [] = refl
lines_joined (byte ∷ bytes) = cases (byte == 10) (lines_joined bytes)
  where
    cases : (b : Bool) → flat_map (λ line. line) (lines_in bytes) ≡ bytes → flat_map (λ line. line) (cond b ((byte ∷ []) ∷ lines_in bytes) (before_first byte (lines_in bytes))) ≡ byte ∷ bytes
    cases true rest = ap (λ t. byte ∷ t) rest
    cases false rest = joined_first byte (lines_in bytes) ∙ ap (λ t. byte ∷ t) rest

is_other : (b : Bool) → not b ≡ true → b ≡ false
is_other true other = cc
is_other false other = refl

-- a line, and what follows it
pub line_first : (body rest : List ℕ) → Lacks 10 body → lines_in ((body ++ 10 ∷ []) ++ rest) ≡ (body ++ 10 ∷ []) ∷ lines_in rest
line_first [] rest lacks = refl
line_first (x ∷ body) rest lacks =
    let p = and_parts (not (x == 10)) _ lacks in
    let other : (x == 10) ≡ false = is_other (x == 10) p.0 in
    rw other (ap (before_first x) (line_first body rest p.1))

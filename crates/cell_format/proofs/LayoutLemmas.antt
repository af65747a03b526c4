-- The bytes of a cell, and the same read back.
use Rattle.std.proofs.Common.{◌≡◌, ℕ, zero, suc, ◌+◌, ◌*◌, ◌/◌, ◌%◌, ◌^◌, ◌<◌, ◌==◌, inl, inr, ℤ, Bool, true, false, List, [], ◌∷◌, ◌++◌, length, take, drop, fold, get_or, Option, None, Some, IfSome, is_some, SFits, refl, sym, ap, subst, ◌∙◌, append_assoc, append-nil, rules, arith, IsTrue, true≢false, length-append, length-drop}
use Rattle.std.specs.Int.{w128, bytes_high_first, byte_at, cast_unsigned, cast_signed}
use Rattle.std.proofs.Math.Nat.{pow-suc, div-div-eq-div-mul, div-add-mod, add-mul, mul_assoc}
use Rattle.std.proofs.Math.Seq.{take-append_seam, drop-append_seam, drop-append-add}
use Rattle.std.proofs.Math.Facts.{Fits-of_z, to_z-of_z}
use Rattle.std.proofs.lemmas.List.{take_all}
use Rattle.tree_model.specs.topology_plan.declared.parts.Kind.{Kind}
use Rattle.tree_model.specs.topology_plan.declared.parts.Kind.TheVariants.{Transactional, Opaque}
use Rattle.cell_format.specs.declared.cell.Cell.{Cell}
use Rattle.cell_format.specs.Layout.{AreBytesOf, HasVersion, IsCell, IsWhole, attempt_bytes, bytes_by, bytes_with, flags_of, flag_if, has_attempt, has_flag, kind_flag, kind_if, length_if, number_bytes, number_if, number_of, read_by, read_of, txid_bytes, version_if}

-- a piece behind what is laid already
pub place_next : (front piece rest : List ℕ) → take (length front) (front ++ rest) ++ (piece ++ drop (length front + length piece) (front ++ rest)) ≡ (front ++ piece) ++ drop (length piece) rest
place_next front piece rest = rw (take-append_seam front rest, drop-append-add front rest (length piece), ← append_assoc front piece (drop (length piece) rest)) refl

-- the four pieces behind the two first bytes
pub laid : (version flags : ℕ) (a x b d rest : List ℕ) → length a ≡ 8 → length x ≡ 4 → length b ≡ 16 → length d ≡ 16 → length rest ≡ 44
    → (one two three four : List ℕ)
    → one ≡ take 2 (version ∷ flags ∷ rest) ++ (a ++ drop (2 + length a) (version ∷ flags ∷ rest))
    → two ≡ take 10 one ++ (x ++ drop (10 + length x) one)
    → three ≡ take 14 two ++ (b ++ drop (14 + length b) two)
    → four ≡ take 30 three ++ (d ++ drop (30 + length d) three)
    → four ≡ version ∷ flags ∷ (a ++ (x ++ (b ++ d)))
laid version flags a x b d rest la lx lb ld lrest one two three four is_one is_two is_three is_four =
    let first : List ℕ = version ∷ flags ∷ [] in
    let r1 : List ℕ = drop (length a) rest in
    let r2 : List ℕ = drop (length x) r1 in
    let r3 : List ℕ = drop (length b) r2 in
    let r4 : List ℕ = drop (length d) r3 in
    let f1 : List ℕ = first ++ a in
    let f2 : List ℕ = f1 ++ x in
    let f3 : List ℕ = f2 ++ b in
    let e1 : one ≡ f1 ++ r1 = is_one ∙ place_next first a rest in
    let l1 : 10 ≡ length f1 = omega (arith, length-append first a, la) in
    let e2 : two ≡ f2 ++ r2 = is_two ∙ put_at f1 x r1 one 10 e1 l1 in
    let l2 : 14 ≡ length f2 = omega (arith, length-append f1 x, l1, lx) in
    let e3 : three ≡ f3 ++ r3 = is_three ∙ put_at f2 b r2 two 14 e2 l2 in
    let l3 : 30 ≡ length f3 = omega (arith, length-append f2 b, l2, lb) in
    let e4 : four ≡ (f3 ++ d) ++ r4 = is_four ∙ put_at f3 d r3 three 30 e3 l3 in
    let short : length r4 ≡ 0 = omega (arith, length-drop (length d) r3, length-drop (length b) r2, length-drop (length x) r1, length-drop (length a) rest) in
    let none : r4 ≡ [] = nothing r4 short in
    e4 ∙ ap (λ (xs : List ℕ). (f3 ++ d) ++ xs) none ∙ append-nil (f3 ++ d) ∙ append_assoc f2 b d ∙ append_assoc f1 x (b ++ d)
  where
    put_at : (front piece rest all : List ℕ) (n : ℕ) → all ≡ front ++ rest → n ≡ length front → take n all ++ (piece ++ drop (n + length piece) all) ≡ (front ++ piece) ++ drop (length piece) rest
    put_at front piece rest all n is at =
        ap (λ (xs : List ℕ). take n xs ++ (piece ++ drop (n + length piece) xs)) is
        ∙ ap (λ (m : ℕ). take m (front ++ rest) ++ (piece ++ drop (m + length piece) (front ++ rest))) at
        ∙ place_next front piece rest

    nothing : (xs : List ℕ) → length xs ≡ 0 → xs ≡ []
    nothing [] is = refl
    nothing (x ∷ xs) is = absurd (omega arith)

pub byte_is : (k n : ℕ) → byte_at k n ≡ n / 256 ^ k % 256
byte_is zero n = omega arith
byte_is (suc k) n = refl

combine : (sum m d n q q2 p : ℕ) → q ≡ 256 * q2 + d → sum + q * p ≡ (m * 256 + d) * p + n → sum + q2 * (p * 256) ≡ m * (p * 256) + n
combine sum m d n q q2 p whole is =
    let a : (256 * q2 + d) * p ≡ 256 * (q2 * p) + d * p = add-mul (256 * q2) d p ∙ ap (λ x. x + d * p) (mul_assoc 256 q2 p) in
    let b : (m * 256 + d) * p ≡ m * (256 * p) + d * p = add-mul (m * 256) d p ∙ ap (λ x. x + d * p) (mul_assoc m 256 p) in
    let turn : 256 * p ≡ p * 256 = omega arith in
    let e : q2 * (p * 256) ≡ 256 * (q2 * p) = sym (mul_assoc q2 p 256) ∙ times_256 (q2 * p) in
    let f : m * (256 * p) ≡ m * (p * 256) = ap (λ x. m * x) turn in
    let g : q * p ≡ 256 * (q2 * p) + d * p = ap (λ x. x * p) whole ∙ a in
    omega (arith, is, b, e, f, g)
  where
    times_256 : (x : ℕ) → x * 256 ≡ 256 * x
    times_256 x = omega arith

high_first_read : (k n m : ℕ) → fold (λ number byte. number * 256 + byte) m (bytes_high_first k n) + n / 256 ^ k * 256 ^ k ≡ m * 256 ^ k + n
high_first_read zero n m = omega arith
high_first_read (suc k) n m =
    let later = high_first_read k n (m * 256 + byte_at k n) in
    let above : n / 256 ^ k / 256 ≡ n / 256 ^ suc k = div-div-eq-div-mul n (256 ^ k) 256 ∙ ap (λ x. n / x) (sym (pow-suc 256 k)) in
    let whole : n / 256 ^ k ≡ 256 * (n / 256 ^ suc k) + byte_at k n = sym (div-add-mod (n / 256 ^ k) 256) ∙ ap (λ x. 256 * x + n / 256 ^ k % 256) above ∙ ap (λ x. 256 * (n / 256 ^ suc k) + x) (sym (byte_is k n)) in
    let all = combine (fold (λ number byte. number * 256 + byte) (m * 256 + byte_at k n) (bytes_high_first k n)) m (byte_at k n) n (n / 256 ^ k) (n / 256 ^ suc k) (256 ^ k) whole later in
    rw (pow-suc 256 k) (rw (pow-suc 256 k) at all)

read_back : (k n : ℕ) → n / 256 ^ k ≡ 0 → number_of (bytes_high_first k n) ≡ n
read_back k n small =
    let all = high_first_read k n 0 in
    let none : n / 256 ^ k * 256 ^ k ≡ 0 * 256 ^ k = ap (λ x. x * 256 ^ k) small in
    omega (arith, all, none)

pub number_of-txid_bytes : (txid : ℕ) → txid < 2 ^ 64 → number_of (txid_bytes txid) ≡ txid
unfolding txid_bytes
number_of-txid_bytes txid small = read_back 8 txid (omega arith)

pub length-txid_bytes : (txid : ℕ) → length (txid_bytes txid) ≡ 8
unfolding txid_bytes
length-txid_bytes txid = refl

pub number_of-attempt_bytes : (attempt : ℕ) → attempt < 2 ^ 32 → number_of (attempt_bytes attempt) ≡ attempt
unfolding attempt_bytes
number_of-attempt_bytes attempt small = read_back 4 attempt (omega arith)

pub length-attempt_bytes : (attempt : ℕ) → length (attempt_bytes attempt) ≡ 4
unfolding attempt_bytes
length-attempt_bytes attempt = refl

pub length-number_bytes : (number : Option ℤ) → length (number_bytes number) ≡ 16
unfolding number_bytes
length-number_bytes None = refl
length-number_bytes (Some number) = refl

length-bytes_with : (version : ℕ) (x : List ℕ) (cell : Cell) → length (bytes_with version x cell) ≡ 42 + length x
unfolding bytes_with
length-bytes_with version x cell =
    let value = number_bytes cell.value in
    let prev = number_bytes cell.prev in
    omega (arith, length-append (txid_bytes cell.txid) (x ++ (value ++ prev)), length-append x (value ++ prev), length-append value prev, length-txid_bytes cell.txid, length-number_bytes cell.value, length-number_bytes cell.prev)

pub length-bytes_by : (b : Bool) (cell : Cell) → length (bytes_by b cell) ≡ length_if b
length-bytes_by true cell = omega (arith, length-bytes_with 2 (attempt_bytes cell.attempt) cell, length-attempt_bytes cell.attempt)
length-bytes_by false cell = length-bytes_with 1 [] cell

pub head-bytes_by : (b : Bool) (cell : Cell) (d : ℕ) → get_or (bytes_by b cell) 0 d ≡ version_if b
unfolding bytes_with
head-bytes_by true cell d = refl
head-bytes_by false cell d = refl

number_read : (number : Option ℤ) → IfSome number (SFits w128) → number_if (is_some number) (number_bytes number) ≡ number
unfolding number_bytes
number_read None fits = refl
number_read (Some z) fits =
    let small : cast_unsigned w128 z < 2 ^ 128 = search (rules, Fits-of_z {w = w128} fits) in
    ap Some (ap (cast_signed w128) (read_back 16 (cast_unsigned w128 z) (omega arith)) ∙ to_z-of_z {w = w128} fits)

take_front : (xs ys : List ℕ) (n : ℕ) → length xs ≡ n → take n (xs ++ ys) ≡ xs
take_front xs ys n is = ap (λ (m : ℕ). take m (xs ++ ys)) (sym is) ∙ take-append_seam xs ys

drop_front : (xs ys : List ℕ) (n : ℕ) → length xs ≡ n → drop n (xs ++ ys) ≡ ys
drop_front xs ys n is = ap (λ (m : ℕ). drop m (xs ++ ys)) (sym is) ∙ drop-append_seam xs ys

-- the pieces at their places
pub pieces : (a x b d : List ℕ) (m k : ℕ) → length a ≡ 8 → m ≡ 8 + length x → length b ≡ 16 → length d ≡ 16 → k ≡ m + 16
    → (take 8 (a ++ (x ++ (b ++ d))) ≡ a) × (take (length x) (drop 8 (a ++ (x ++ (b ++ d)))) ≡ x)
    × (take 16 (drop m (a ++ (x ++ (b ++ d)))) ≡ b) × (take 16 (drop k (a ++ (x ++ (b ++ d)))) ≡ d)
pieces a x b d m k la lx lb ld lk =
    let two : length (a ++ x) ≡ m = omega (arith, length-append a x, la, lx) in
    let three : length ((a ++ x) ++ b) ≡ k = omega (arith, length-append (a ++ x) b, two, lb, lk) in (
      take_front a (x ++ (b ++ d)) 8 la,
      ap (take (length x)) (drop_front a (x ++ (b ++ d)) 8 la) ∙ take_front x (b ++ d) (length x) refl,
      ap (λ (xs : List ℕ). take 16 (drop m xs)) (sym (append_assoc a x (b ++ d))) ∙ ap (take 16) (drop_front (a ++ x) (b ++ d) m two) ∙ take_front b d 16 lb,
      ap (λ (xs : List ℕ). take 16 (drop k xs)) (sym (append_assoc a x (b ++ d)) ∙ sym (append_assoc (a ++ x) b d)) ∙ ap (take 16) (drop_front ((a ++ x) ++ b) d k three)
          ∙ take_all 16 d (omega (arith, ld)),
    )

-- what stands at each place
places : (version flags : ℕ) (a x b d : List ℕ) → length a ≡ 8 → length x ≡ 4 → length b ≡ 16 → length d ≡ 16
    → read_by true (version ∷ flags ∷ (a ++ (x ++ (b ++ d)))) ≡ record { txid = number_of a; attempt = number_of x; value = number_if (has_flag flags 1) b; prev = number_if (has_flag flags 2) d; kind = kind_if (has_flag flags 4) }
places version flags a x b d la lx lb ld =
    let at = pieces a x b d 12 28 la (omega arith) lb ld refl in
    let four : take 4 (drop 8 (a ++ (x ++ (b ++ d)))) ≡ x = ap (λ (n : ℕ). take n (drop 8 (a ++ (x ++ (b ++ d))))) (sym lx) ∙ at.1 in
    rw (at.0, four, at.2, at.3) refl

old_places : (version flags : ℕ) (a b d : List ℕ) → length a ≡ 8 → length b ≡ 16 → length d ≡ 16
    → read_by false (version ∷ flags ∷ (a ++ (b ++ d))) ≡ record { txid = number_of a; attempt = 0; value = number_if (has_flag flags 1) b; prev = number_if (has_flag flags 2) d; kind = kind_if (has_flag flags 4) }
old_places version flags a b d la lb ld =
    let at = pieces a [] b d 8 24 la refl lb ld refl in
    rw (at.0, at.2, at.3) refl

flags_tell : (value prev : Option ℤ) (kind : Kind) → (has_flag (flag_if (is_some value) 1 + flag_if (is_some prev) 2 + kind_flag kind) 1 ≡ is_some value)
    × (has_flag (flag_if (is_some value) 1 + flag_if (is_some prev) 2 + kind_flag kind) 2 ≡ is_some prev)
    × (kind_if (has_flag (flag_if (is_some value) 1 + flag_if (is_some prev) 2 + kind_flag kind) 4) ≡ kind)
flags_tell None None Transactional = (refl, refl, refl)
flags_tell None None Opaque = (refl, refl, refl)
flags_tell None (Some p) Transactional = (refl, refl, refl)
flags_tell None (Some p) Opaque = (refl, refl, refl)
flags_tell (Some v) None Transactional = (refl, refl, refl)
flags_tell (Some v) None Opaque = (refl, refl, refl)
flags_tell (Some v) (Some p) Transactional = (refl, refl, refl)
flags_tell (Some v) (Some p) Opaque = (refl, refl, refl)

same_cell : (a a' n n' : ℕ) (v v' p p' : Option ℤ) (k k' : Kind) → a ≡ a' → n ≡ n' → v ≡ v' → p ≡ p' → k ≡ k'
    → ◌≡◌ {A = Cell} (record { txid = a; attempt = n; value = v; prev = p; kind = k }) (record { txid = a'; attempt = n'; value = v'; prev = p'; kind = k' })
same_cell a a' n n' v v' p p' k k' ea en ev ep ek = cc

-- the attempt that bytes of a format tell
abbrev pub IsTold : Bool → Cell → Type 0
IsTold true cell = Unit {0}
IsTold false cell = cell.attempt ≡ 0

-- a cell's bytes read back
pub read_by-bytes_by : (b : Bool) (cell : Cell) → IsCell cell → IsTold b cell → read_by b (bytes_by b cell) ≡ cell
unfolding bytes_with
read_by-bytes_by true cell is told =
    let tell = flags_tell cell.value cell.prev cell.kind in
    places 2 (flags_of cell) (txid_bytes cell.txid) (attempt_bytes cell.attempt) (number_bytes cell.value) (number_bytes cell.prev) (length-txid_bytes cell.txid) (length-attempt_bytes cell.attempt) (length-number_bytes cell.value) (length-number_bytes cell.prev)
    ∙ same_cell _ cell.txid _ cell.attempt _ cell.value _ cell.prev _ cell.kind
    (number_of-txid_bytes cell.txid is.txid)
    (number_of-attempt_bytes cell.attempt is.attempt)
    (ap (λ b. number_if b (number_bytes cell.value)) tell.0 ∙ number_read cell.value is.value)
    (ap (λ b. number_if b (number_bytes cell.prev)) tell.1 ∙ number_read cell.prev is.prev)
    tell.2
read_by-bytes_by false cell is told =
    let tell = flags_tell cell.value cell.prev cell.kind in
    old_places 1 (flags_of cell) (txid_bytes cell.txid) (number_bytes cell.value) (number_bytes cell.prev) (length-txid_bytes cell.txid) (length-number_bytes cell.value) (length-number_bytes cell.prev)
    ∙ same_cell _ cell.txid _ cell.attempt _ cell.value _ cell.prev _ cell.kind
    (number_of-txid_bytes cell.txid is.txid)
    (sym told)
    (ap (λ b. number_if b (number_bytes cell.value)) tell.0 ∙ number_read cell.value is.value)
    (ap (λ b. number_if b (number_bytes cell.prev)) tell.1 ∙ number_read cell.prev is.prev)
    tell.2

-- by their length, bytes of a cell are of one format
pub by_length : (b : Bool) (cell : Cell) (bytes : List ℕ) → AreBytesOf cell bytes → length bytes ≡ length_if b → (bytes ≡ bytes_by b cell) × IsTold b cell
by_length true cell bytes (inl new) long = (new, tt)
by_length true cell bytes (inr old) long = absurd (let short : length bytes ≡ 42 = ap length old.0 ∙ length-bytes_by false cell in omega (arith, long, short))
by_length false cell bytes (inl new) long = absurd (let wide : length bytes ≡ 46 = ap length new ∙ length-bytes_by true cell in omega (arith, long, wide))
by_length false cell bytes (inr old) long = (old.0, old.1)

-- bytes of a cell have one of the lengths
pub some_length : (cell : Cell) (bytes : List ℕ) → AreBytesOf cell bytes → (length bytes ≡ 42 → ⊥) × (length bytes ≡ 46 → ⊥) → ⊥
some_length cell bytes (inl new) neither = neither.1 (ap length new ∙ length-bytes_by true cell)
some_length cell bytes (inr old) neither = neither.0 (ap length old.0 ∙ length-bytes_by false cell)

pub has_version : (b : Bool) (bytes : List ℕ) → length bytes ≡ length_if b → get_or bytes 0 0 ≡ version_if b → HasVersion bytes
has_version true bytes long is = inr (long, is)
has_version false bytes long is = inl (long, is)

pub are_bytes_by : (b : Bool) (cell : Cell) (bytes : List ℕ) → bytes ≡ bytes_by b cell → IsTold b cell → AreBytesOf cell bytes
are_bytes_by true cell bytes is told = inl is
are_bytes_by false cell bytes is told = inr (is, told)

-- the cell that bytes are is the one that is read from them
pub read_of-bytes : (cell : Cell) (bytes : List ℕ) → IsCell cell → AreBytesOf cell bytes → read_of bytes ≡ cell
unfolding read_of
read_of-bytes cell bytes is (inl new) =
    let first : has_attempt bytes ≡ true = ap (λ xs. get_or xs 0 0 == 2) new ∙ ap (λ n. n == 2) (head-bytes_by true cell 0) in
    rw first (ap (read_by true) new ∙ read_by-bytes_by true cell is tt)
read_of-bytes cell bytes is (inr old) =
    let first : has_attempt bytes ≡ false = ap (λ xs. get_or xs 0 0 == 2) old.0 ∙ ap (λ n. n == 2) (head-bytes_by false cell 0) in
    rw first (ap (read_by false) old.0 ∙ read_by-bytes_by false cell is old.1)

pub bytes_of-apart : (a b : Cell) (bytes : List ℕ) → IsCell a → IsCell b → AreBytesOf a bytes → AreBytesOf b bytes → a ≡ b
bytes_of-apart a b bytes is_a is_b one other = sym (read_of-bytes a bytes is_a one) ∙ read_of-bytes b bytes is_b other

-- a cell's bytes read back as this cell, so that a test of that is true
pub is_refuted : (b : Bool) (bytes : List ℕ) (read cell : Cell) (t : Bool) → length bytes ≡ length_if b → t ≡ false → (IsWhole read.kind read.value read.prev × (bytes ≡ bytes_by b read) → IsTrue t)
    → read ≡ read_by b bytes → IsCell cell → AreBytesOf cell bytes → ⊥
is_refuted b bytes read cell t long wrong test is good are =
    let same = by_length b cell bytes are long in
    let back : read ≡ cell = is ∙ ap (read_by b) same.0 ∙ read_by-bytes_by b cell good same.1 in
    let whole : IsWhole read.kind read.value read.prev = subst (λ (c : Cell). IsWhole c.kind c.value c.prev) (sym back) good.whole in
    let holds : IsTrue t = test (whole, same.0 ∙ ap (bytes_by b) (sym back)) in
    true≢false (sym holds ∙ wrong)

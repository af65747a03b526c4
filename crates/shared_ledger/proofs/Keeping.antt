-- A step that changes one book keeps each part of the rule.
use Rattle.std.proofs.Common.{◌≡◌, ◌≢◌, ◌⊎◌, ⊎_elim, ℕ, zero, suc, ◌+◌, ◌*◌, ◌<◌, ◌≤◌, ◌==◌, min, Bool, true, false, cond, bit_xor, bit_or, slice_index, slice_set, List, [], ◌∷◌, ◌++◌, set, length, sym, refl, ap, ◌∙◌, eqb-true, eq-eqb, true≢false, arith}
use Rattle.std.proofs.lemmas.List.{get_or-set_same, get_or-set_other}
use Rattle.std.specs.Int.Bits.{xor_zero_r}
use Rattle.std.specs.List.{AllByRecursion}
use mathlib.Core.Option.{some}
use lib.ListN.{get_elem?}
use Rattle.counted_items.specs.Weights.{weigh}
use Rattle.counted_items.proofs.Each.{each-weaker}
use Rattle.counted_items.proofs.Weighing.{weigh-append}
use Rattle.pass_numbers.proofs.Lists.{each-set, each-at}
use Rattle.pass_numbers.proofs.Weights.{weigh-set}
use Rattle.pass_numbers.proofs.Numbering.{numbered_set}
use Rattle.shared_ledger.specs.declared.rule.Call.{Call}
use Rattle.shared_ledger.specs.declared.rule.Book.{Book}
use Rattle.shared_ledger.specs.Books.{numbers_in, word_at, fail_at, init_at, word_of, fails_of, inits_of, has_seen}
use Rattle.shared_ledger.specs.Rule.{Kept, IsSpent, SawInits, all_fails, all_inits}
use Rattle.shared_ledger.specs.Xors.{xor_by}
use Rattle.shared_ledger.proofs.Xored.{xor-set, xor-push}

-- ---- what one call adds

pub word-called : (root : ℕ) (b w : Book) (c : Call) → w.calls ≡ b.calls ++ c ∷ [] → word_of root w ≡ bit_xor (word_of root b) (word_at root c)
word-called root b w c is = ap (xor_by (word_at root)) is ∙ xor-push (word_at root) b.calls c

pub fails-called : (root : ℕ) (b w : Book) (c : Call) → w.calls ≡ b.calls ++ c ∷ [] → fails_of root w ≡ fails_of root b + fail_at root c
fails-called root b w c is =
    let e : fails_of root w ≡ weigh (fail_at root) (b.calls ++ c ∷ []) = ap (weigh (fail_at root)) is in
    let g = weigh-append (fail_at root) b.calls (c ∷ []) in omega arith

pub inits-called : (root : ℕ) (b w : Book) (c : Call) → w.calls ≡ b.calls ++ c ∷ [] → inits_of root w ≡ inits_of root b + init_at root c
inits-called root b w c is =
    let e : inits_of root w ≡ weigh (init_at root) (b.calls ++ c ∷ []) = ap (weigh (init_at root)) is in
    let g = weigh-append (init_at root) b.calls (c ∷ []) in omega arith

-- what was seen was given, where there are no fewer inits than before
pub saw_more : (books after : List Book) → ((root : ℕ) → all_inits root books ≤ all_inits root after) → (bs : List Book)
    → AllByRecursion (SawInits books) bs → AllByRecursion (SawInits after) bs
saw_more books after more bs saw =
    each-weaker (SawInits books) (SawInits after) (λ b was root seen. let a = was root seen in let l = more root in omega arith) bs saw

-- ---- one word changes

apart_from : (a b : ℕ) → (a == b) ≡ false → b ≢ a
apart_from a b is same = true≢false (sym (eq-eqb a b (sym same)) ∙ is)

or_one : (k : ℕ) → bit_or (min 1 k) 1 ≡ 1
or_one zero = refl
or_one (suc k) = let e : min 1 (suc k) ≡ 1 = omega arith in ap (λ (n : ℕ). bit_or n 1) e

module _ (words : List ℕ) (root r : ℕ) where
  abbrev word_now : ℕ → ℕ
  word_now r = slice_index words (2 * r)

  abbrev fail_now : ℕ → ℕ
  fail_now r = slice_index words (2 * r + 1)

  -- a XOR word is toggled by k
  pub toggled : (k : ℕ) → 2 * root < length words
      → slice_index (slice_set words (2 * root) (bit_xor (word_now root) k)) (2 * r) ≡ bit_xor (word_now r) (cond (root == r) k 0)
  toggled k inside = by_case (root == r) refl
    where
      by_case : (t : Bool) → (root == r) ≡ t → slice_index (slice_set words (2 * root) (bit_xor (word_now root) k)) (2 * r) ≡ bit_xor (word_now r) (cond t k 0)
      by_case true is = let e : r ≡ root = sym (eqb-true root r is) in rw e (get_or-set_same words (2 * root) (bit_xor (word_now root) k) 0 inside)
      by_case false is =
          let apart : 2 * r ≢ 2 * root = λ e. apart_from root r is (omega arith) in
          get_or-set_other words (2 * root) (2 * r) (bit_xor (word_now root) k) 0 apart ∙ sym (xor_zero_r (word_now r))

  -- it is no fail word
  pub other_word : (n : ℕ) → slice_index (slice_set words (2 * root) n) (2 * r + 1) ≡ fail_now r
  other_word n = get_or-set_other words (2 * root) (2 * r + 1) n 0 (λ e. omega arith)

  -- a fail word is no XOR word
  pub other_fail : (n : ℕ) → slice_index (slice_set words (2 * root + 1) n) (2 * r) ≡ word_now r
  other_fail n = get_or-set_other words (2 * root + 1) (2 * r) n 0 (λ e. omega arith)

  -- a fail word is set
  pub set_fail : (k : ℕ) → 2 * root + 1 < length words → fail_now r ≡ min 1 k
      → slice_index (slice_set words (2 * root + 1) (bit_or (fail_now root) 1)) (2 * r + 1) ≡ min 1 (k + cond (root == r) 1 0)
  set_fail k inside is = by_case (root == r) refl
    where
      by_case : (t : Bool) → (root == r) ≡ t → slice_index (slice_set words (2 * root + 1) (bit_or (fail_now root) 1)) (2 * r + 1) ≡ min 1 (k + cond t 1 0)
      by_case true same =
          let e : root ≡ r = eqb-true root r same in
          let word : bit_or (fail_now root) 1 ≡ 1 = ap (λ (n : ℕ). bit_or (fail_now n) 1) e ∙ ap (λ (n : ℕ). bit_or n 1) is ∙ or_one k in
          let at = get_or-set_same words (2 * root + 1) (bit_or (fail_now root) 1) 0 inside in
          ap (λ (n : ℕ). slice_index (slice_set words (2 * root + 1) (bit_or (fail_now root) 1)) (2 * n + 1)) (sym e) ∙ at ∙ word ∙ omega arith
      by_case false same =
          let apart : 2 * r + 1 ≢ 2 * root + 1 = λ e. apart_from root r same (omega arith) in
          get_or-set_other words (2 * root + 1) (2 * r + 1) (bit_or (fail_now root) 1) 0 apart ∙ is ∙ omega arith

-- ---- the rule after one call

-- the book w is v with this call more, of a seat that has seen what v has, or what it has given itself
pub record HasCall (v w : Book) (c : Call) : Type 0 where
  pub seen : (root : ℕ) → has_seen root w ≡ true → (has_seen root v ≡ true) ⊎ (1 ≤ init_at root c)
  pub calls : w.calls ≡ v.calls ++ c ∷ []
  pub numbers : w.numbers ≡ v.numbers

module _ (roots : ℕ) (words after : List ℕ) (books : List Book) (id : ℕ) (v w : Book) (c : Call) (at : get_elem? books id ≡ some v) (kept : Kept roots words books) where
  -- what the call makes of the XOR words, and of the fail words
  abbrev pub Toggles : Type 0
  Toggles = (r : ℕ) → r < roots → slice_index after (2 * r) ≡ bit_xor (slice_index words (2 * r)) (word_at r c)

  abbrev pub Fails : Type 0
  Fails = (r : ℕ) → r < roots → slice_index after (2 * r + 1) ≡ min 1 (all_fails r books + fail_at r c)

  module _ (more : HasCall v w c) (some_number : v.numbers ≢ []) (long : length after ≡ length words) (toggles : Toggles) (fails : Fails) where
    grown : (r : ℕ) → all_inits r books + init_at r c ≡ all_inits r (set books id w)
    grown r = let e = weigh-set (inits_of r) books id v w at in let g = inits-called r v w c more.calls in omega arith

    -- the books after it
    abbrev now : List Book
    now = set books id w

    saw_now : AllByRecursion (SawInits now) now
    saw_now = each-set (SawInits now) books id w (saw_more books now (λ r. let e = grown r in omega arith) books kept.saw) (λ r is. ⊎_elim
        (λ had. let a = each-at (SawInits books) books id v kept.saw at r had in let e = grown r in omega arith)
        (λ own. let e = grown r in omega arith)
        (more.seen r is))

    pub call_kept : Kept roots after now
    call_kept = record {
      wide = long ∙ kept.wide;
      numbered = numbered_set numbers_in books id v w at more.numbers kept.numbered;
      spent = each-set IsSpent books id w kept.spent (λ nil. absurd (some_number (sym more.numbers ∙ nil)));
      xors = λ r below.
          toggles r below ∙ ap (λ (n : ℕ). bit_xor n (word_at r c)) (kept.xors r below)
          ∙ sym (xor-set (word_of r) books id v w (word_at r c) at (word-called r v w c more.calls));
      fails = λ r below.
          let e = weigh-set (fails_of r) books id v w at in
          let g = fails-called r v w c more.calls in
          fails r below ∙ ap (λ (n : ℕ). min 1 n) (omega arith);
      saw = saw_now;
    }

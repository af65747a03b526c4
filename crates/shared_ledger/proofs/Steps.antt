-- Each step on a word keeps the rule, and tells what it tells.
use Rattle.std.proofs.Common.{◌≡◌, ◌≢◌, ◌⊎◌, inl, inr, ◌||◌, ℕ, ◌+◌, ◌*◌, ◌/◌, ◌<◌, ◌≤◌, ◌==◌, min, Bool, true, false, cond, bit_xor, bit_or, slice_index, slice_set, List, [], set, length, sym, refl, ap, subst, ◌∙◌, arith}
use Rattle.std.proofs.lemmas.List.{length-set, get_or-set_same, set-get_or}
use Rattle.std.specs.Int.Bits.{xor_zero_r}
use mathlib.Core.Option.{none, some}
use lib.ListN.{get_elem?}
use Rattle.atomic_table.specs.Table.{State, Me, step, keeps, Allows}
use Rattle.pass_numbers.specs.Numbers.{IsWhole}
use Rattle.pass_numbers.proofs.Lists.{set-at}
use Rattle.pass_numbers.proofs.Weights.{weigh-at}
use Rattle.atomic_table.proofs.Lists.{set_again}
use Rattle.shared_ledger.specs.declared.rule.Call.{Call}
use Rattle.shared_ledger.specs.declared.rule.Book.{Book}
use Rattle.shared_ledger.specs.Books.{numbers_in, word_at, fail_at, has_seen, word_of, fails_of, init_of, ack_of, fail_of, inited, acked, failed}
use Rattle.shared_ledger.specs.Rule.{Kept, all_fails}
use Rattle.shared_ledger.specs.Steps.{Inits, Acks, Fails, LooksAtWord, LooksAtFail}
use Rattle.shared_ledger.proofs.Keeping.{HasCall, call_kept, toggled, other_word, other_fail, set_fail}
use Rattle.shared_ledger.proofs.Whole.{word_alone, fails_alone}

nothing : (t : Bool) → ◌≡◌ {A = ℕ} (cond t 0 0) 0
nothing true = refl
nothing false = refl

half : (root : ℕ) → 2 * root / 2 ≡ root
half root = omega arith

half_more : (root : ℕ) → (2 * root + 1) / 2 ≡ root
half_more root = omega arith

-- a root that is seen after an init was seen before, or is that root
seen_now : (root r : ℕ) (v : Book) → ((root == r) || has_seen r v) ≡ true → (has_seen r v ≡ true) ⊎ (1 ≤ cond (root == r) 1 0)
seen_now root r v = by_case (root == r)
  where
    by_case : (t : Bool) → (t || has_seen r v) ≡ true → (has_seen r v ≡ true) ⊎ (1 ≤ cond t 1 0)
    by_case true is = inr (omega arith)
    by_case false is = inl is

module _ {S : Type 0} (roots slots id root k : ℕ) (me : Me S Book) (some_number : me.0.numbers ≢ []) (below : root < roots) where
  abbrev Rule : State S Book → Type 0
  Rule s = Kept roots s.words s.views

  abbrev v : Book
  v = me.0

  module _ (s : State S Book) (kept : Rule s) (at : get_elem? s.views id ≡ some v) where
    inside : 2 * root + 1 < length s.words
    inside = let e = kept.wide in omega arith

    -- ---- an XOR word is toggled by k

    abbrev word_after : ℕ
    word_after = bit_xor (slice_index s.words (2 * root)) k

    abbrev toggled_words : List ℕ
    toggled_words = slice_set s.words (2 * root) word_after

    xor_kept : (w : Book) (c : Call) → HasCall v w c → ((r : ℕ) → word_at r c ≡ cond (root == r) k 0) → ((r : ℕ) → fail_at r c ≡ 0) → Kept roots toggled_words (set s.views id w)
    xor_kept w c more words fails =
        call_kept roots s.words toggled_words s.views id v w c at kept more some_number (length-set s.words (2 * root) word_after)
        (λ r low. toggled s.words root r k (let e = inside in omega arith) ∙ ap (bit_xor (slice_index s.words (2 * r))) (sym (words r)))
        (λ r low. other_word s.words root r word_after ∙ kept.fails r low ∙ (let e = fails r in ap (λ (n : ℕ). min 1 n) (omega arith)))

    xor_whole : (w : Book) → w.numbers ≡ v.numbers → Kept roots toggled_words (set s.views id w) → IsWhole (numbers_in v) → word_after ≡ word_of (2 * root / 2) w
    xor_whole w numbers next whole =
        sym (get_or-set_same s.words (2 * root) word_after 0 (let e = inside in omega arith))
        ∙ next.xors root below
        ∙ word_alone (set s.views id w) id w (set-at s.views id v w at) next.numbered next.spent (subst IsWhole (sym numbers) whole) root
        ∙ ap (λ (r : ℕ). word_of r w) (sym (half root))

    -- ---- a fail word is set

    abbrev fail_after : ℕ
    fail_after = bit_or (slice_index s.words (2 * root + 1)) 1

    abbrev failed_words : List ℕ
    failed_words = slice_set s.words (2 * root + 1) fail_after

    fail_kept : Kept roots failed_words (set s.views id (failed v root))
    fail_kept =
        call_kept roots s.words failed_words s.views id v (failed v root) (fail_of root) at kept
        (record { seen = λ r is. inl is; calls = refl; numbers = refl }) some_number (length-set s.words (2 * root + 1) fail_after)
        (λ r low. other_fail s.words root r fail_after ∙ sym (ap (bit_xor (slice_index s.words (2 * r))) (nothing (root == r)) ∙ xor_zero_r (slice_index s.words (2 * r))))
        (λ r low. set_fail s.words root r (all_fails r s.views) inside (kept.fails r low))

  pub inits : Allows Rule slots id me (2 * root) (λ n. bit_xor n k) (Inits (step slots (2 * root) k 0 none) me)
  inits s kept sized at small =
      let n : ℕ = word_after s kept at in
      let w : Book = inited v root k n in
      let more : HasCall v w (init_of root k) = record { seen = λ r. seen_now root r v; calls = refl; numbers = refl } in
      let next = xor_kept s kept at w (init_of root k) more (λ r. refl) (λ r. nothing (root == r)) in
      (w, keeps, tt, next, (refl, ap (λ (r : ℕ). inited v r k n) (sym (half root)), xor_whole s kept at w refl next))

  pub acks : Allows Rule slots id me (2 * root) (λ n. bit_xor n k) (Acks (step slots (2 * root) k 0 none) me)
  acks s kept sized at small =
      let n : ℕ = word_after s kept at in
      let w : Book = acked v root k n in
      let more : HasCall v w (ack_of root k) = record { seen = λ r is. inl is; calls = refl; numbers = refl } in
      let next = xor_kept s kept at w (ack_of root k) more (λ r. refl) (λ r. nothing (root == r)) in
      (w, keeps, tt, next, (refl, ap (λ (r : ℕ). acked v r k n) (sym (half root)), xor_whole s kept at w refl next))

  pub fails : Allows Rule slots id me (2 * root + 1) (λ n. bit_or n 1) (Fails (step slots (2 * root + 1) 1 0 none) me)
  fails s kept sized at small = (failed v root, keeps, tt, fail_kept s kept at, (refl, ap (λ (r : ℕ). failed v r) (sym (half_more root))))

  -- a load leaves the words and the books
  same_kept : (s : State S Book) → Rule s → get_elem? s.views id ≡ some v → (i : ℕ) → Kept roots (slice_set s.words i (slice_index s.words i)) (set s.views id v)
  same_kept s kept at i =
      subst (λ (ws : List ℕ). Kept roots ws (set s.views id v)) (sym (set-get_or s.words i 0))
      (subst (λ (bs : List Book). Kept roots s.words bs) (sym (set_again s.views id v at)) kept)

  pub looks_at_word : Allows Rule slots id me (2 * root) (λ n. n) (LooksAtWord (step slots (2 * root) 0 0 none) me)
  looks_at_word s kept sized at small = (
    v,
    keeps,
    tt,
    same_kept s kept at (2 * root),
    (
      refl,
      λ whole.
          kept.xors root below ∙ word_alone s.views id v at kept.numbered kept.spent whole root
          ∙ ap (λ (r : ℕ). word_of r v) (sym (half root)),
    ),
  )

  pub looks_at_fail : Allows Rule slots id me (2 * root + 1) (λ n. n) (LooksAtFail (step slots (2 * root + 1) 0 0 none) me)
  looks_at_fail s kept sized at small = (
    v,
    keeps,
    tt,
    same_kept s kept at (2 * root + 1),
    (
      refl,
      λ own.
          let here : 1 ≤ fails_of root v = subst (λ (r : ℕ). 1 ≤ fails_of r v) (half_more root) own in
          let e = weigh-at (fails_of root) s.views id v at in
          let word = kept.fails root below in omega arith,
      λ whole.
          kept.fails root below
          ∙ ap (λ (n : ℕ). min 1 n) (fails_alone s.views id v at kept.numbered kept.spent whole root ∙ ap (λ (r : ℕ). fails_of r v) (sym (half_more root))),
    ),
  )

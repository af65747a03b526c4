-- What holds of the attempts that ended, and one more.
use Rattle.std.proofs.Common.{◌≡◌, inl, inr, ℕ, ◌+◌, ◌<◌, ◌≤◌, ◌==◌, ◌&&◌, Bool, true, false, cond, List, [], ◌∷◌, ◌++◌, length, get_or, map, refl, sym, ap, subst, ◌∙◌, arith, eqb-true}
use Rattle.std.specs.Prelude.{IsTrue}
use Rattle.std.specs.List.{All, AllPairs, AllByRecursion, filter, range_with_len}
use Rattle.std.specs.List.Sorted.{IsNonDecreasing}
use Rattle.std.proofs.lemmas.Bool.{false≢true}
use Rattle.std.proofs.lemmas.List.{append-nil, map-append, length-append, length-map}
use Rattle.std.proofs.lemmas.List.Elements.{All-from_recursion, All-map, filter-append}
use Rattle.std.proofs.lemmas.List.Quantifiers.{all_pairs_push}
use Rattle.tuple_account.proofs.counted_items.Each.{each-append, each-weaker}
use Rattle.commit_turns.proofs.Lists.{InOrder, in_order_more, kept_push, last_or_front, range_more, rises_push}
use Rattle.commit_turns.proofs.Tallies.{own}
use Rattle.taken_records.specs.Cuts.{Cut}
use Rattle.attempt_fates.specs.declared.fates.Attempt.{Attempt}
use Rattle.attempt_fates.specs.Fates.{HasBatch, IsNoneAfterCommit, aborts_of, attempt_numbers, committed_txids, is_abort, is_committed, is_failed_commit}
use Rattle.attempt_fates.specs.Fates.{committed as committed_of}
use Rattle.commit_turns.specs.Kept.{FailsInTurn}

-- one more where an attempt was committed
abbrev pub one_more : Bool → ℕ → ℕ
one_more true n = n + 1
one_more false n = n

-- numbers in order from one after a start
abbrev pub InOrderFrom : ℕ → List ℕ → Type 0
InOrderFrom start xs = xs ≡ range_with_len (start + 1) (length xs)

from_push : (start : ℕ) (xs : List ℕ) (x : ℕ) → InOrderFrom start xs → x ≡ start + length xs + 1 → InOrderFrom start (xs ++ x ∷ [])
from_push start xs x are is =
    let last : x ≡ start + 1 + length xs = omega (arith, is) in
    ap (λ (ys : List ℕ). ys ++ x ∷ []) are ∙ ap (λ (y : ℕ). range_with_len (start + 1) (length xs) ++ y ∷ []) last
    ∙ sym (range_more (start + 1) (length xs)) ∙ ap (range_with_len (start + 1)) (sym (length-append xs (x ∷ [])))

from_more : (start : ℕ) (b : Bool) (xs : List ℕ) (x : ℕ) → InOrderFrom start xs → (b ≡ true → x ≡ start + length xs + 1) → InOrderFrom start (xs ++ cond b (x ∷ []) [])
from_more start true xs x are is = from_push start xs x are (is refl)
from_more start false xs x are is = subst (InOrderFrom start) (sym (append-nil xs)) are

-- The attempts that ended, where these were committed and so many ticks counted.
pub record Told (cut : Cut) (committed tick : ℕ) (fates : List Attempt) : Type 0 where
  pub in_order : InOrderFrom cut.start (committed_txids fates)
  pub commits : committed ≡ cut.start + length (committed_txids fates)
  pub numbered : (txid : ℕ) → InOrder (attempt_numbers txid fates)
  pub last_committed : AllPairs IsNoneAfterCommit fates
  pub batches : AllByRecursion (λ (a : Attempt). HasBatch cut a.root.txid a.spans) fates
  pub rises : AllByRecursion (λ (a : Attempt). a.start ≤ a.finish) fates
  pub finishes : IsNonDecreasing (map (λ (a : Attempt). a.finish) fates)
  pub handed_out : AllByRecursion (λ (a : Attempt). a.finish ≤ tick) fates
  pub past : AllByRecursion (λ (a : Attempt). IsTrue (is_committed a.end) → a.root.txid ≤ committed) fates
  pub fails : FailsInTurn cut fates

-- ---- one more attempt

pub txids_push : (fates : List Attempt) (a : Attempt) → committed_txids (fates ++ a ∷ []) ≡ committed_txids fates ++ cond (is_committed a.end) (a.root.txid ∷ []) []
txids_push fates a = kept_push (λ (x : Attempt). is_committed x.end) (λ (x : Attempt). x.root.txid) fates a

pub numbers_push : (txid : ℕ) (fates : List Attempt) (a : Attempt)
    → attempt_numbers txid (fates ++ a ∷ []) ≡ attempt_numbers txid fates ++ cond (a.root.txid == txid) (a.root.attempt ∷ []) []
numbers_push txid fates a = kept_push (λ (x : Attempt). x.root.txid == txid) (λ (x : Attempt). x.root.attempt) fates a

pub count_push : (txid : ℕ) (fates : List Attempt) (a : Attempt)
    → length (attempt_numbers txid (fates ++ a ∷ [])) ≡ length (attempt_numbers txid fates) + own txid a.root.txid
count_push txid fates a =
    ap length (numbers_push txid fates a) ∙ length-append (attempt_numbers txid fates) (cond (a.root.txid == txid) (a.root.attempt ∷ []) [])
    ∙ ap (λ (k : ℕ). length (attempt_numbers txid fates) + k) (one (a.root.txid == txid))
  where
    one : (b : Bool) → length (cond b (a.root.attempt ∷ []) []) ≡ cond b 1 0
    one true = refl
    one false = refl

pub aborts_push : (txid : ℕ) (fates : List Attempt) (a : Attempt)
    → aborts_of txid (fates ++ a ∷ []) ≡ aborts_of txid fates + cond ((a.root.txid == txid) && is_abort a.end) 1 0
aborts_push txid fates a =
    ap length (filter-append (λ (x : Attempt). (x.root.txid == txid) && is_abort x.end) fates (a ∷ []))
    ∙ length-append (filter (λ (x : Attempt). (x.root.txid == txid) && is_abort x.end) fates) (filter (λ (x : Attempt). (x.root.txid == txid) && is_abort x.end) (a ∷ []))
    ∙ ap (λ (k : ℕ). aborts_of txid fates + k) (one ((a.root.txid == txid) && is_abort a.end))
  where
    one : (b : Bool) → length (cond b (a ∷ []) []) ≡ cond b 1 0
    one true = refl
    one false = refl

module _ (cut : Cut) (committed tick : ℕ) (fates : List Attempt) (told : Told cut committed tick fates) (a : Attempt) (has : HasBatch cut a.root.txid a.spans) (starts : a.start ≤ a.finish) (now : a.finish ≡ tick)
    (next : a.root.attempt ≡ length (attempt_numbers a.root.txid fates) + 1) (later : committed < a.root.txid) (b : Bool) (is : is_committed a.end ≡ b) (by_turn : b ≡ true → a.root.txid ≡ committed + 1)
    (failed : IsTrue (is_failed_commit a.end) → a.root.txid ≡ committed + 1) where
  txids : committed_txids (fates ++ a ∷ []) ≡ committed_txids fates ++ cond b (a.root.txid ∷ []) []
  txids = txids_push fates a ∙ ap (λ (c : Bool). committed_txids fates ++ cond c (a.root.txid ∷ []) []) is

  commits : (c : Bool) → one_more c committed ≡ cut.start + length (committed_txids fates ++ cond c (a.root.txid ∷ []) [])
  commits true = let l = length-append (committed_txids fates) (a.root.txid ∷ []) in let t = told.commits in omega arith
  commits false = told.commits ∙ ap (λ (xs : List ℕ). cut.start + length xs) (sym (append-nil (committed_txids fates)))

  numbers : (txid : ℕ) → InOrder (attempt_numbers txid (fates ++ a ∷ []))
  numbers txid =
      subst InOrder (sym (numbers_push txid fates a))
      (in_order_more (a.root.txid == txid) (attempt_numbers txid fates) a.root.attempt (told.numbered txid)
      (λ on. next ∙ ap (λ (k : ℕ). length (attempt_numbers k fates) + 1) (eqb-true a.root.txid txid on)))

  none_after : (k : ℕ) (d : Attempt) → k < length fates → IsNoneAfterCommit (get_or fates k d) a
  none_after k d less was same =
      let e = All-from_recursion (λ (x : Attempt). IsTrue (is_committed x.end) → x.root.txid ≤ committed) fates told.past k d less was in
      absurd (omega arith)

  more : (c : Bool) → committed ≤ one_more c committed
  more true = omega arith
  more false = omega arith

  own_turn : (c : Bool) → is_committed a.end ≡ c → (c ≡ true → a.root.txid ≡ committed + 1) → IsTrue (is_committed a.end) → a.root.txid ≤ one_more c committed
  own_turn true e turn was = let t = turn refl in omega arith
  own_turn false e turn was = absurd (false≢true (sym e ∙ was))

  fails_last : FailsInTurn cut (fates ++ a ∷ [])
  fails_last earlier later x e is =
      elim (last_or_front fates earlier later a x e) [
        | inl front ↦ told.fails earlier front.0 x front.1 is
        | inr last ↦
            let here : a.root.txid ≡ committed + 1 = failed (subst (λ (y : Attempt). IsTrue (is_failed_commit y.end)) (sym last.1) is) in
            let same : x.root.txid ≡ a.root.txid = ap (λ (y : Attempt). y.root.txid) (sym last.1) in
            let count : length (committed_of earlier) ≡ length (committed_of fates) = ap (λ (ys : List Attempt). length (committed_of ys)) (sym last.0) in
            let many : length (committed_txids fates) ≡ length (committed_of fates) = length-map (committed_of fates) (λ (y : Attempt). y.root.txid) in
            let all = told.commits in omega arith
      ]

  finish_below : (k : ℕ) → tick ≡ k → All (λ (x : Attempt). x.finish ≤ k) fates
  finish_below k same = subst (λ (j : ℕ). All (λ (x : Attempt). x.finish ≤ j) fates) same (All-from_recursion (λ (x : Attempt). x.finish ≤ tick) fates told.handed_out)

  pub told_push : Told cut (one_more b committed) tick (fates ++ a ∷ [])
  told_push = record {
    in_order = subst (InOrderFrom cut.start) (sym txids) (from_more cut.start b (committed_txids fates) a.root.txid told.in_order (λ on. by_turn on ∙ ap (λ (k : ℕ). k + 1) told.commits));
    commits = commits b ∙ ap (λ (xs : List ℕ). cut.start + length xs) (sym txids);
    numbered = numbers;
    last_committed = all_pairs_push IsNoneAfterCommit fates a told.last_committed none_after;
    batches = each-append (λ (x : Attempt). HasBatch cut x.root.txid x.spans) fates (a ∷ []) told.batches (has, tt);
    rises = each-append (λ (x : Attempt). x.start ≤ x.finish) fates (a ∷ []) told.rises (starts, tt);
    finishes = subst IsNonDecreasing (sym (map-append (λ (x : Attempt). x.finish) fates (a ∷ [])))
        (rises_push (map (λ (x : Attempt). x.finish) fates) a.finish told.finishes
        (All-map (λ (k : ℕ). k ≤ a.finish) (λ (x : Attempt). x.finish) fates (finish_below a.finish (sym now))));
    handed_out = each-append (λ (x : Attempt). x.finish ≤ tick) fates (a ∷ []) told.handed_out (omega arith, tt);
    past = each-append (λ (x : Attempt). IsTrue (is_committed x.end) → x.root.txid ≤ one_more b committed) fates (a ∷ [])
        (each-weaker (λ (x : Attempt). IsTrue (is_committed x.end) → x.root.txid ≤ committed) (λ (x : Attempt). IsTrue (is_committed x.end) → x.root.txid ≤ one_more b committed)
        (λ x below was. let e = below was in let m = more b in omega arith) fates told.past)
        (own_turn b is by_turn, tt);
    fails = fails_last;
  }

-- ---- one more tick

pub told_tick : (cut : Cut) (committed tick : ℕ) (fates : List Attempt) → Told cut committed tick fates → Told cut committed (tick + 1) fates
told_tick cut committed tick fates told = record {
  in_order = told.in_order;
  commits = told.commits;
  numbered = told.numbered;
  last_committed = told.last_committed;
  batches = told.batches;
  rises = told.rises;
  finishes = told.finishes;
  handed_out = each-weaker (λ (x : Attempt). x.finish ≤ tick) (λ (x : Attempt). x.finish ≤ tick + 1) (λ x below. omega arith) fates told.handed_out;
  past = told.past;
  fails = told.fails;
}

-- Of the fates of a run the first are fates of a run too.
use Rattle.std.proofs.Common.{◌≡◌, ◌≤◌, ◌<◌, ℕ, zero, suc, ◌+◌, ◌==◌, Bool, List, [], ◌∷◌, ◌++◌, length, map, filter, append_assoc, get_or, refl, sym, ap, subst, ◌∙◌, length-append, arith}
use Rattle.std.specs.Prelude.{Err, Ok, OnErr, Result}
use Rattle.std.specs.List.{AllByRecursion, AllPairs, range_with_len}
use Rattle.std.specs.List.Sorted.{IsNonDecreasing}
use Rattle.std.proofs.lemmas.List.{map-append}
use Rattle.std.proofs.lemmas.List.Elements.{filter-append}
use Rattle.std.proofs.lemmas.List.Prefix.{front_reads}
use Rattle.std.proofs.lemmas.List.Sorted.{IsNonDecreasingBy-take}
use Rattle.std.proofs.Math.Seq.{take-append_seam}
use Rattle.event_worlds.specs.attempt_fates.declared.fates.Attempt.{Attempt}
use Rattle.event_worlds.specs.attempt_fates.Fates.{HasBatch, IsNoneAfterCommit, IsOnce, attempt_numbers, committed, committed_batches, committed_txids, is_committed}
use Rattle.event_worlds.specs.commit_order.Offices.{AddsSome}
use Rattle.event_worlds.specs.commit_turns.Desks.{Desk}
use Rattle.event_worlds.specs.commit_turns.Kept.{IsKept}
use Rattle.event_worlds.specs.commit_turns.Turns.{last_tick}
use Rattle.event_worlds.specs.record_spans.declared.span.Span.{Span}
use Rattle.event_worlds.specs.record_spans.Spans.{stands_in}
use Rattle.event_worlds.specs.taken_records.Taken.{one_if, times_in}
use Rattle.event_worlds.specs.topology_plan.Topology.{Topology}
use Rattle.event_worlds.specs.taken_records.Cuts.{Cut}

front_of_range : (xs ys : List ℕ) (k n : ℕ) → xs ++ ys ≡ range_with_len k n → xs ≡ range_with_len k (length xs)
front_of_range [] ys k n is = refl
front_of_range (x ∷ xs) ys k zero is = absurd (cc)
front_of_range (x ∷ xs) ys k (suc n) is =
    let head : x ≡ k = cc in
    let tail : xs ++ ys ≡ range_with_len (k + 1) n = cc in
    λ i. head i ∷ front_of_range xs ys (k + 1) n tail i

-- numbers in order that are joined of two lists are in order in the first
first_in_order : (from : ℕ) (all xs ys : List ℕ) → all ≡ xs ++ ys → all ≡ range_with_len from (length all) → xs ≡ range_with_len from (length xs)
first_in_order from all xs ys is order = front_of_range xs ys from (length all) (sym is ∙ order)

front_read : {X : Type 0} (xs ys : List X) (k : ℕ) (d : X) → k < length xs → get_or (xs ++ ys) k d ≡ get_or xs k d
front_read xs ys k d below = front_reads d (xs ++ ys) xs ys refl k below

within_more : {X : Type 0} (xs ys : List X) (k : ℕ) → k < length xs → k < length (xs ++ ys)
within_more xs ys k below = omega (arith, length-append xs ys)

first_all : {X : Type 0} (P : X → Type 0) (xs ys : List X) → AllByRecursion P (xs ++ ys) → AllByRecursion P xs
first_all P [] ys all = tt
first_all P (x ∷ xs) ys all = (all.0, first_all P xs ys all.1)

first_pairs : {X : Type 0} (R : X → X → Type 0) (xs ys : List X) → AllPairs R (xs ++ ys) → AllPairs R xs
first_pairs R xs ys all = λ i j d low high.
    let before : i < length xs = omega arith in
    subst (λ a. R a (get_or xs j d)) (front_read xs ys i d before) (subst (R (get_or (xs ++ ys) i d)) (front_read xs ys j d high) (all i j d low (within_more xs ys j high)))

first_rises : (xs ys : List ℕ) → IsNonDecreasing (xs ++ ys) → IsNonDecreasing xs
first_rises xs ys rise = subst IsNonDecreasing (take-append_seam xs ys) (IsNonDecreasingBy-take (λ (n : ℕ). n) (length xs) (xs ++ ys) rise)

committed-append : (xs ys : List Attempt) → committed (xs ++ ys) ≡ committed xs ++ committed ys
committed-append xs ys = filter-append (λ (a : Attempt). is_committed a.end) xs ys

batches-append : (xs ys : List Attempt) → committed_batches (xs ++ ys) ≡ committed_batches xs ++ committed_batches ys
batches-append xs ys = ap (map (λ (a : Attempt). a.spans)) (committed-append xs ys) ∙ map-append (λ (a : Attempt). a.spans) (committed xs) (committed ys)

times_append : (xs ys : List (List Span)) (n : ℕ) → times_in (xs ++ ys) n ≡ times_in xs n + times_in ys n
times_append [] ys n = omega arith
times_append (spans ∷ xs) ys n = let rest = times_append xs ys n in let e : one_if (stands_in spans n) + times_in (xs ++ ys) n ≡ one_if (stands_in spans n) + times_in xs n + times_in ys n = omega arith in e

-- the first fates have each batch committed once at most
pub first_once : (cut : Cut) (ticks : ℕ) (xs ys : List Attempt) → IsOnce cut ticks (xs ++ ys) → IsOnce cut ticks xs
first_once cut ticks xs ys once = record {
  in_order =
      first_in_order (cut.start + 1) (committed_txids (xs ++ ys)) (committed_txids xs) (committed_txids ys)
      (ap (map (λ (a : Attempt). a.root.txid)) (committed-append xs ys) ∙ map-append (λ (a : Attempt). a.root.txid) (committed xs) (committed ys)) once.in_order;
  numbered = λ txid.
      let of : Attempt → Bool = λ (a : Attempt). a.root.txid == txid in
      first_in_order 1 (attempt_numbers txid (xs ++ ys)) (attempt_numbers txid xs) (attempt_numbers txid ys)
      (ap (map (λ (a : Attempt). a.root.attempt)) (filter-append of xs ys) ∙ map-append (λ (a : Attempt). a.root.attempt) (filter of xs) (filter of ys)) (once.numbered txid);
  last_committed = first_pairs IsNoneAfterCommit xs ys once.last_committed;
  batches = first_all (λ (a : Attempt). HasBatch cut a.root.txid a.spans) xs ys once.batches;
  apart = λ n low high.
      let all = once.apart n low high in
      let same = ap (λ bs. times_in bs n) (batches-append xs ys) ∙ times_append (committed_batches xs) (committed_batches ys) n in omega arith;
  fronts = λ some earlier later is.
      once.fronts some earlier (later ++ committed_batches ys) (batches-append xs ys ∙ ap (λ bs. bs ++ committed_batches ys) is ∙ append_assoc earlier later (committed_batches ys));
  rises = first_all (λ (a : Attempt). a.start ≤ a.finish) xs ys once.rises;
  finishes =
      let finish : Attempt → ℕ = λ (a : Attempt). a.finish in
      first_rises (map finish xs) (map finish ys) (subst IsNonDecreasing (map-append finish xs ys) once.finishes);
  handed_out = first_all (λ (a : Attempt). a.finish ≤ ticks) xs ys once.handed_out;
}

later_ticks : (ticks most : ℕ) (fates : List Attempt) → ticks ≤ most → AllByRecursion (λ (a : Attempt). a.finish ≤ ticks) fates → AllByRecursion (λ (a : Attempt). a.finish ≤ most) fates
later_ticks ticks most [] few all = tt
later_ticks ticks most (a ∷ fates) few all = (let so = all.0 in let e : a.finish ≤ most = omega arith in e, later_ticks ticks most fates few all.1)

-- more ticks may have been handed out
more_ticks : (cut : Cut) (ticks most : ℕ) (fates : List Attempt) → ticks ≤ most → IsOnce cut ticks fates → IsOnce cut most fates
more_ticks cut ticks most fates few once = record {
  in_order = once.in_order;
  numbered = once.numbered;
  last_committed = once.last_committed;
  batches = once.batches;
  apart = once.apart;
  fronts = once.fronts;
  rises = once.rises;
  finishes = once.finishes;
  handed_out = later_ticks ticks most fates few once.handed_out;
}

pub kept_once : (t : Topology) (cut : Cut) (d : Desk) (fates : List Attempt) → IsKept t cut d fates → d.tick ≤ last_tick → IsOnce cut last_tick fates
kept_once t cut d fates kept few = more_ticks cut d.tick last_tick fates few kept.once

-- where memory was wanted before all ends were added
pub short_once : (t : Topology) (cut : Cut) (d : Desk) (ended told tells : List Attempt) → IsKept t cut d (told ++ ended) → d.tick ≤ last_tick → AddsSome ended told tells
    → IsOnce cut last_tick tells
short_once t cut d ended told tells kept few some =
    let all : told ++ ended ≡ tells ++ some.rest = ap (λ xs. told ++ xs) some.are_first ∙ sym (append_assoc told some.done some.rest) ∙ ap (λ xs. xs ++ some.rest) (sym some.added) in
    first_once cut last_tick tells some.rest
    (subst (IsOnce cut last_tick) all (kept_once t cut d (told ++ ended) kept few))

-- what holds whatever the answer is
pub on_err : {X E Q : Type 0} (r : Result X E) → Q → OnErr r Q
on_err (Ok x) holds = tt
on_err (Err e) holds = holds

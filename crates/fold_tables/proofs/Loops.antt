-- A loop over numbers beside the items of a vector.
use Rattle.std.proofs.Common.{◌≡◌, ℕ, ◌<◌, min, List, length, get_or, Option, Some, None, Vec, vec_len, ap, ◌∙◌, arith}
use Rattle.std.proofs.lemmas.Iterator.{YieldsList, YieldsList-from_range, YieldsList-from_zip, zips}
use Rattle.std.proofs.lemmas.Iterator.Adapters.{YieldsList-from_vec}
use Rattle.std.proofs.lemmas.Iterator.Consumers.{YieldsList-turn, YieldsList-end}
use Rattle.std.proofs.lemmas.List.{get_or_default}
use Rattle.std.proofs.lemmas.List.FromFn.{length-range_with_len, get_or-range_with_len}
use Rattle.std.proofs.lemmas.Slice.Zip.{length-zip, get_or-zip}
use Rattle.std.specs.Iterator.{Yields}
use Rattle.std.specs.Iterator.Adapters.{zip_first, zip_second}
use Rattle.std.specs.List.{zip, range_with_len}
use Rattle.std.proofs.iter.Yields.{nat_range_steps}
use Rattle.std.specs.declared.iter.Zip.{Zip}
use Rattle.std.specs.declared.ops.Range.{Range}
use Rattle.std.specs.declared.vec.IntoIter.{IntoIter}
use Rattle.std.specs.Vec.Iter.{into_iter_items, into_iter_len, into_iter_steps}

-- a loop over numbers from 0 beside the items of a vector
module _ {A Z : Type 0} (n : ℕ) (v : Vec A Z) (made s t : Zip (Range ℕ) (IntoIter A Z)) (begun : s ≡ made) (first : zip_first made ≡ record { start = 0; end = n }) (second : into_iter_items (zip_second made) ≡ v.items) (whole : into_iter_len (zip_second made) ≡ vec_len v) (seen : List (ℕ × A)) (yielded_by : Yields (zips nat_range_steps (into_iter_steps {X = A} {Z = Z})) s seen t) where
  road : YieldsList (zips nat_range_steps (into_iter_steps {X = A} {Z = Z})) (λ p. (p.0, p.1)) s (zip (range_with_len 0 n) v.items)
  road = rw begun (YieldsList-from_zip (YieldsList-from_range 0 n n first (omega arith)) (YieldsList-from_vec v.items second (whole ∙ v.ok.0)))

  pub numbered_turn : (r : Option (ℕ × A)) (u : Zip (Range ℕ) (IntoIter A Z)) (x : ℕ × A) → r ≡ Some x → zips nat_range_steps (into_iter_steps {X = A} {Z = Z}) t r u → (length seen < n) × (length seen < length v.items) × (x.0 ≡ length seen) × ((d : A) → x.1 ≡ get_or v.items (length seen) d)
  numbered_turn r u x some step =
      let turn = YieldsList-turn road seen t yielded_by r u x some step in
      let below : length seen < min n (length v.items) = rw (← length-range_with_len 0 n, ← length-zip (range_with_len 0 n) v.items) turn.0 in
      let in_range : length seen < length (range_with_len 0 n) = rw length-range_with_len (omega arith) in
      let in_items : length seen < length v.items = omega arith in
      let same = λ (d : ℕ × A). turn.1 ∙ get_or_default (zip (range_with_len 0 n) v.items) (length seen) (x.0, x.1) d turn.0 ∙ get_or-zip (range_with_len 0 n) v.items (length seen) d in_range in_items in
      (omega arith, in_items, ap (λ (p : ℕ × A). p.0) (same x) ∙ get_or-range_with_len 0 n (length seen) x.0 (omega arith) ∙ omega arith, λ d. ap (λ (p : ℕ × A). p.1) (same (0, d)))

  pub numbered_end : (r : Option (ℕ × A)) (u : Zip (Range ℕ) (IntoIter A Z)) → r ≡ None → zips nat_range_steps (into_iter_steps {X = A} {Z = Z}) t r u → length seen ≡ min n (length v.items)
  numbered_end r u none step = (YieldsList-end road seen t yielded_by r u none step).1 ∙ length-zip (range_with_len 0 n) v.items ∙ ap (λ m. min m (length v.items)) (length-range_with_len 0 n)

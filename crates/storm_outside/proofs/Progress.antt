-- What the two helpers keep from call to call.
use Rattle.std.proofs.Common.{◌≡◌, ℕ, ◌+◌, ◌≤◌, List, ◌++◌, length, take, drop, Option, Some, None, IfSome, IsNone, append_assoc, refl, sym, ap, ◌∙◌, arith, length-append, length-drop}
use Rattle.std.proofs.Math.Seq.{take-add}
use Rattle.std.proofs.lemmas.List.{length-take, take-append-le, take_all, drop-drop}
use Rattle.std.proofs.lemmas.Option.{IfSome_then}
use Rattle.storm_outside.specs.Pieces.{GivesFirst}

-- the first bytes have gone out
pub record Writes (at : ℕ) (bytes : List ℕ) (before after : Option (List ℕ)) (faults_before faults_after : ℕ) : Type 0 where
  pub within : at ≤ length bytes
  pub taken : IfSome before (λ taken. after ≡ Some (taken ++ take at bytes))
  pub untold : IsNone before → IsNone after
  pub faults : faults_before ≤ faults_after

-- the first bytes of what was left have come in
pub record Given (bytes left : List ℕ) (after : Option (List ℕ)) : Type 0 where
  pub within : length bytes ≤ length left
  pub first : bytes ≡ take (length bytes) left
  pub rest : after ≡ Some (drop (length bytes) left)

-- a shelf after some reads
pub record Reads {S : Type 0} (rest : S → Option (List ℕ)) (holds : S → List ℕ → List ℕ → Type 0) (has_file ready : S → Type 0) (fetches faults : S → ℕ) (before after : S) (bytes : List ℕ) : Type 0 where
  pub given : IfSome (rest before) (λ left. Given bytes left (rest after))
  pub untold : IsNone (rest before) → IsNone (rest after)
  pub keeps_file : has_file after
  pub same_fetches : fetches after ≡ fetches before
  pub same_files : (n bytes : List ℕ) → holds before n bytes → holds after n bytes
  pub same_files_back : (n bytes : List ℕ) → holds after n bytes → holds before n bytes
  pub never_falls : faults before ≤ faults after
  pub stays_ready : ready before → ready after

-- a write of a piece that begins where the last one ended
pub took_more : (before mid after : Option (List ℕ)) (at k : ℕ) (bytes piece : List ℕ) → piece ≡ drop at bytes → IfSome before (λ t. mid ≡ Some (t ++ take at bytes)) → IfSome mid (λ t. after ≡ Some (t ++ take k piece)) → IfSome before (λ t. after ≡ Some (t ++ take (at + k) bytes))
took_more None mid after at k bytes piece same so_far more = tt
took_more (Some t) mid after at k bytes piece same so_far more =
    let here = rw so_far at more in rw (take-add at k bytes, ← append_assoc, here, same) refl

-- a read of k more bytes, into the front of a buffer
given_here : (left got rest bytes new : List ℕ) (after : Option (List ℕ)) (k : ℕ) → k ≤ length got → length bytes ≤ length left → bytes ≡ take (length bytes) left → new ≡ bytes ++ take k (got ++ rest) → GivesFirst k (drop (length bytes) left) got after → Given new left after
given_here left got rest bytes new after k within fits first grown gives =
    let piece : take k (got ++ rest) ≡ take k (drop (length bytes) left) = take-append-le k got rest within ∙ gives.given in
    let room : k + length bytes ≤ length left = omega (arith, gives.within, length-drop (length bytes) left) in
    let count : length new ≡ length bytes + k =
    rw (grown, piece) (omega (arith, length-append bytes (take k (drop (length bytes) left)), length-take k (drop (length bytes) left), length-drop (length bytes) left)) in
    record {
      within = omega arith;
      first = rw (count, grown, piece, take-add (length bytes) k left, ← first) refl;
      rest = rw (count, gives.rest, drop-drop k (length bytes) left) refl;
    }

pub given_more : (before mid after : Option (List ℕ)) (got rest bytes new : List ℕ) (k : ℕ) → k ≤ length got → new ≡ bytes ++ take k (got ++ rest) → IfSome before (λ left. Given bytes left mid) → IfSome mid (λ left. GivesFirst k left got after) → IfSome before (λ left. Given new left after)
given_more None mid after got rest bytes new k within grown so_far more = tt
given_more (Some left) mid after got rest bytes new k within grown so_far more =
    given_here left got rest bytes new after k within so_far.within so_far.first grown (rw so_far.rest at more)

-- as many bytes as were asked for
pub given_most : (before after : Option (List ℕ)) (bytes : List ℕ) (most : ℕ) → length bytes ≡ most → IfSome before (λ left. Given bytes left after) → IfSome before (λ left. bytes ≡ take most left)
given_most before after bytes most full so_far = IfSome_then before so_far (λ left given. rw (← full) given.first)

-- the end
given_last : (left buf bytes : List ℕ) (after : Option (List ℕ)) (most : ℕ) → length bytes ≤ most → bytes ≡ take (length bytes) left → GivesFirst 0 (drop (length bytes) left) buf after → bytes ≡ take most left
given_last left buf bytes after most bound first gives =
    let none : length (drop (length bytes) left) ≡ 0 = ap length (gives.end refl) in
    let short : length left ≤ length bytes = omega (arith, length-drop (length bytes) left) in
    first ∙ take_all (length bytes) left short ∙ sym (take_all most left (omega arith))

pub given_end : (before mid after : Option (List ℕ)) (buf bytes : List ℕ) (k most : ℕ) → k ≡ 0 → length bytes ≤ most → IfSome before (λ left. Given bytes left mid) → IfSome mid (λ left. GivesFirst k left buf after) → IfSome before (λ left. bytes ≡ take most left)
given_end None mid after buf bytes k most ends bound so_far more = tt
given_end (Some left) mid after buf bytes k most ends bound so_far more =
    let here = rw so_far.rest at more in
    given_last left buf bytes after most bound so_far.first (rw ends at here)

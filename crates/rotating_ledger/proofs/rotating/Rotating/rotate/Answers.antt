use Rattle.std.proofs.Common.{◌≡◌, ◌++◌, ◌∷◌, [], drop, ap, ◌∙◌, arith}
use Rattle.rotating_ledger.proofs.BucketLemmas.{turned, rotated-items, dropped-items, AllFound-turned, rotation_of}
use Rattle.rotating_ledger.specs.Slots.{held_of}
use Rattle.rotating_ledger.proofs.OnceLemmas.{once-rotated}
use Rattle.rotating_ledger.proofs.rotating.Rotating.rotate.Goals as goal

pub invariant_of-self : goal.invariant_of-self
invariant_of-self g c =
    let len = c.self.inside.buckets.ok.0 in
    let least = c.self.invariant.0 in
    let most = c.self.invariant.1 in
    let same = c.rotate_left.ensures.len in
    let now : c.rotate_left.new.self.items ≡ drop 1 c.self.inside.buckets.items ++ c.new-empty.result ∷ [] =
    rw c.replace-oldest.ensures.after at c.rotate_left.ensures.items ∙ turned c.self.inside.buckets.items c.new-empty.result (omega arith)
    in (
      omega arith,
      omega arith,
      rw now (AllFound-turned c.self.inside.buckets.items c.new-empty.result c.self.invariant.2 c.new-empty.ensures.found),
      rw (
        now,
        rotated-items c.self.inside.buckets.len c.self.inside.buckets.items c.new-empty.result len (omega arith) c.new-empty.ensures.empty,
      )
          (once-rotated c.self.inside.buckets.len (held_of c.self.inside.buckets.items) c.self.invariant.3),
    )

pub returns-clause-dropped : goal.returns-clause-dropped
returns-clause-dropped g c =
    let len = c.self.inside.buckets.ok.0 in
    let least = c.self.invariant.0 in
    rw (← c.self.view_is)
    (c.new.ensures ∙ dropped-items c.self.inside.buckets.len c.self.inside.buckets.items c.replace-oldest.result len (omega arith)
    (rw c.replace-oldest.ensures.value c.index_mut.ensures.value))

pub returns-clause-kept : goal.returns-clause-kept
returns-clause-kept g c =
    let len = c.self.inside.buckets.ok.0 in
    let least = c.self.invariant.0 in
    let now : c.rotate_left.new.self.items ≡ drop 1 c.self.inside.buckets.items ++ c.new-empty.result ∷ [] =
    rw c.replace-oldest.ensures.after at c.rotate_left.ensures.items ∙ turned c.self.inside.buckets.items c.new-empty.result (omega arith)
    in
    rw (← c.self.view_is, now, c.rotate_left.ensures.len)
    (ap (rotation_of c.self.inside.buckets.len) (rotated-items c.self.inside.buckets.len c.self.inside.buckets.items c.new-empty.result len (omega arith) c.new-empty.ensures.empty))

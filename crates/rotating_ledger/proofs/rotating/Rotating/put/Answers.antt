use Rattle.std.proofs.Common.{◌≡◌, ◌-◌, None, sym, ap, subst, arith}
use Rattle.std.specs.Prelude.{slice_set}
use Rattle.rotating_ledger.specs.Held.{value_of, AreHeldOnce}
use Rattle.rotating_ledger.specs.Slots.{held_of}
use Rattle.rotating_ledger.proofs.BucketLemmas.{read_at, AllFound-at, absent-place, AllFound-set, put-newest, same-newest, rotation_of}
use Rattle.rotating_ledger.proofs.OnceLemmas.{once-put}
use Rattle.rotating_ledger.proofs.ResultLemmas.{on_ok, on_err, on_either}
use Rattle.rotating_ledger.proofs.rotating.Rotating.put.Goals as goal

pub put-requires-clause-found : goal.put-requires-clause-found
put-requires-clause-found g c =
    let len = c.self.inside.buckets.ok.0 in
    let least = c.self.invariant.0 in
    let last = c.len-last.ensures in
    AllFound-at c.self.inside.buckets.items (c.len-last.result - 1) c.index_mut-newest.result.now c.self.invariant.2
    (read_at c.self.inside.buckets.items (c.len-last.result - 1) c.index_mut-newest.result.now c.index_mut-newest.ensures.value (omega arith))

pub put-requires-clause-absent : goal.put-requires-clause-absent
put-requires-clause-absent g c =
    let len = c.self.inside.buckets.ok.0 in
    let least = c.self.invariant.0 in
    let last = c.len-last.ensures in
    absent-place c.args.root c.self.inside.buckets.items (c.len-last.result - 1) c.index_mut-newest.result.now c.self.invariant.2
    (rw (← c.self.view_is) at c.requires)
    (read_at c.self.inside.buckets.items (c.len-last.result - 1) c.index_mut-newest.result.now c.index_mut-newest.ensures.value (omega arith))

pub invariant_of-self : goal.invariant_of-self
invariant_of-self g c =
    let len = c.self.inside.buckets.ok.0 in
    let least = c.self.invariant.0 in
    let last = c.len-last.ensures in
    let here = read_at c.self.inside.buckets.items (c.len-last.result - 1) c.index_mut-newest.result.now c.index_mut-newest.ensures.value (omega arith) in
    let after = slice_set c.self.inside.buckets.items (c.len-last.result - 1) c.put.new.self in
    let absent : value_of c.args.root (held_of c.self.inside.buckets.items) ≡ None = rw (← c.self.view_is) at c.requires in (
      c.self.invariant.0,
      c.self.invariant.1,
      AllFound-set c.self.inside.buckets.items (c.len-last.result - 1) c.put.new.self c.self.invariant.2 c.put.ensures.found,
      on_either c.put.result (AreHeldOnce (held_of after))
          (λ grown. subst AreHeldOnce
          (sym (put-newest c.args.root c.args.value c.self.inside.buckets.items (c.len-last.result - 1) c.index_mut-newest.result.now c.put.new.self here (omega arith) grown))
          (once-put c.args.root c.args.value (held_of c.self.inside.buckets.items) c.self.invariant.3 absent))
          (λ same. subst AreHeldOnce
          (sym (same-newest c.self.inside.buckets.items (c.len-last.result - 1) c.index_mut-newest.result.now c.put.new.self here same))
          c.self.invariant.3)
          c.put.ensures.ok c.put.ensures.err,
    )

pub returns-clause-ok : goal.returns-clause-ok
returns-clause-ok g c =
    let len = c.self.inside.buckets.ok.0 in
    let least = c.self.invariant.0 in
    let last = c.len-last.ensures in
    rw (← c.self.view_is)
    (on_ok c.put.result (λ grown. ap (rotation_of c.self.inside.buckets.len)
    (put-newest c.args.root c.args.value c.self.inside.buckets.items (c.len-last.result - 1) c.index_mut-newest.result.now c.put.new.self
    (read_at c.self.inside.buckets.items (c.len-last.result - 1) c.index_mut-newest.result.now c.index_mut-newest.ensures.value (omega arith))
    (omega arith) grown)) c.put.ensures.ok)

pub returns-clause-err : goal.returns-clause-err
returns-clause-err g c =
    let len = c.self.inside.buckets.ok.0 in
    let least = c.self.invariant.0 in
    let last = c.len-last.ensures in
    rw (← c.self.view_is)
    (on_err c.put.result (λ same. ap (rotation_of c.self.inside.buckets.len)
    (same-newest c.self.inside.buckets.items (c.len-last.result - 1) c.index_mut-newest.result.now c.put.new.self
    (read_at c.self.inside.buckets.items (c.len-last.result - 1) c.index_mut-newest.result.now c.index_mut-newest.ensures.value (omega arith))
    same)) c.put.ensures.err)

use Rattle.std.proofs.Common.{◌≡◌, take, length, ◌∙◌, arith}
use Rattle.std.proofs.lemmas.List.{take_all, take_more, length-take}
use Rattle.storm_values.proofs.KeyLemmas.{hash-push, hash-whole}
use Rattle.storm_values.proofs.keys.key_hash.Goals as goal

pub loop-place-preserved : goal.loop-place-preserved
loop-place-preserved c =
    let key = c.args.key.now in
    let at = c.loop-place.place in
    let counted : at ≡ length (take at key) = rw length-take (omega arith) in
    rw (take_more key at c.index-key-place.result c.loop-place-test.true, ← c.index-key-place.is)
    (c.mix_next-hash.ensures ∙ hash-push (take at key) c.index-key-place.result c.loop-place.hash at c.loop-place.invariant counted)

pub returns : goal.returns
returns c =
    let whole : take c.loop-place.place c.args.key.now ≡ c.args.key.now = take_all _ c.args.key.now c.loop-place-test.false in
    rw whole at c.loop-place.invariant ∙ hash-whole c.args.key.now

use Rattle.std.proofs.Common.{◌∙◌, ap, length}
use Rattle.std.specs.Vec.Iter.{into_iter_items}
use Rattle.std.proofs.lemmas.Iterator.{items_from_collect}
use Rattle.std.proofs.lemmas.Iterator.Adapters.{YieldsList-from_skip, YieldsList-from_vec}
use Rattle.storm.proofs.arguments.words_after_name.Goals as goal

pub returns : goal.returns
returns c =
    let all = ap into_iter_items c.skip.ensures.source in
    items_from_collect _ c.collect.ensures.ran
    (YieldsList-from_skip 1 (YieldsList-from_vec _ all (c.skip.result.iter.rest.ok.0 ∙ ap length all)) c.skip.ensures.count)

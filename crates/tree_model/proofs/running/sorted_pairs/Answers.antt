use Rattle.std.proofs.Common.{◌≡◌, ap, sym, ◌∙◌}
use Rattle.tree_model.specs.Inside.{entries_of, pairs_of, whole_pairs}
use Rattle.tree_model.proofs.running.sorted_pairs.Goals as goal

pub returns : goal.returns
returns c =
    let made = c.make_whole.new.values in
    let whole = c.in_ok-make_whole.ensures in
    let same : entries_of made.entries ≡ pairs_of c.args.values = sym (ap (λ plain. whole_pairs plain (entries_of made.entries)) whole.whole) ∙ whole.same in
    rw same at c.sorted_entries.ensures

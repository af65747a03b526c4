use Rattle.std.proofs.Common.{◌≡◌, List, [], ◌∷◌, SFits, rules, ap, subst, sym, ◌∙◌}
use Rattle.std.proofs.lemmas.Int.{to_z-of_z}
use Rattle.std.specs.Int.{w128}
use Rattle.std.specs.List.{IsDistinct}
use Rattle.std.specs.Map.{keys_of, lookup}
use Rattle.std.specs.Str.{bytes_eq}
use Rattle.tree_model.specs.Inside.{entries_of}
use Rattle.tree_model.specs.Tables.{value_at}
use Rattle.fold_tables.specs.Merging.{IsPut, joined, joined_onto, merged}
use Rattle.fold_tables.proofs.Keyed.{Entry, distinct_first, distinct_rest, merged_first, none_later, value_at-entries}
use Rattle.fold_tables.proofs.entries.merge_all.Goals as goal

-- the other map's entries have each key once
pub loop-key-init : goal.loop-key-init
loop-key-init g c =
    let join = joined (g.O.RowOp.meaning c.args.custom.now) c.args.by in
    let gives = c.into_iter-key-iterator.ensures.into_iter_gives in
    record {
      distinct = subst (λ (es : List Entry). IsDistinct bytes_eq (keys_of es)) (sym gives.0) gives.4;
      left = λ at. ap (λ (es : List Entry). merged join (value_at (entries_of c.args.entries.now) at) (lookup (bytes_eq at) es)) gives.0;
    }

pub loop-key-preserved : goal.loop-key-preserved
loop-key-preserved g c =
    let join = joined (g.O.RowOp.meaning c.args.custom.now) c.args.by in
    let now = c.loop-key.invariant in
    let old = entries_of c.loop-key.entries in
    let fits : SFits w128 c.in-Some.later = search rules in
    let put : IsPut (λ o. joined_onto join o c.in-Some.later) old c.in-Some.key (entries_of c.merge_in.new.entries) = simp to_z-of_z at c.in_ok-merge_in.ensures in
    let step : c.loop-key.key-iterator ≡ (c.in-Some.key, c.in-Some.later) ∷ c.next.new.self = c.in-Some.ensures.steps in
    let distinct = subst (λ (es : List Entry). IsDistinct bytes_eq (keys_of es)) step now.distinct in
    record {
      distinct = distinct_rest c.in-Some.key c.in-Some.later c.next.new.self distinct;
      left = λ at.
          merged_first join old (entries_of c.merge_in.new.entries) c.in-Some.key c.in-Some.later c.next.new.self put (distinct_first c.in-Some.key c.in-Some.later c.next.new.self distinct) at
          ∙ ap (λ (es : List Entry). merged join (value_at old at) (lookup (bytes_eq at) es)) (sym step) ∙ now.left at;
    }

pub returns : goal.returns
returns g c =
    let join = joined (g.O.RowOp.meaning c.args.custom.now) c.args.by in
    let now = c.loop-key.invariant in
    let new = entries_of c.loop-key.entries in
    let none : c.loop-key.key-iterator ≡ [] = c.in-None.ensures.steps.0 in
    record {
      values = λ key.
          sym (none_later join (value_at new key))
          ∙ ap (λ (es : List Entry). merged join (value_at new key) (lookup (bytes_eq key) es)) (sym none)
          ∙ now.left key
          ∙ ap (merged join (value_at (entries_of c.args.entries.now) key)) (sym (value_at-entries key c.args.others.entries));
    }

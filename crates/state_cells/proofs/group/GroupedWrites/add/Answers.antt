use Rattle.std.proofs.Common.{◌≡◌, ◌∷◌, [], ◌++◌, ap, sym, ◌∙◌, arith, rules}
use Rattle.std.proofs.lemmas.Grind.{common_steps, text_groups}
use Rattle.indexmap.specs.Entry.{map_with_value}
use Rattle.storm_stores.specs.declared.key.KeyBytes.{KeyBytes}
use Rattle.state_cells.specs.Groups.{amounts_in, group_of}
use Rattle.state_cells.proofs.GroupLemmas.{entry_items, group_more}
use Rattle.state_cells.proofs.group.GroupedWrites.add.Goals as goal

pub returns : goal.returns
returns c = λ write same adds q.
    let old = c.args.self.now.groups in
    let amounts = c.push.new.self in
    let key : KeyBytes = record { bytes = c.args.key } in
    let pushed : amounts.items ≡ c.or_default-amounts.result.now.items ++ c.args.amount ∷ [] = first_of (search rules, first_of (grind (arith, text_groups), grind (arith, common_steps))) in
    let before = entry_items 4 (group_of old c.args.key.now) c.or_default-amounts.result.now (rw (← c.in_ok-self.ensures.value) c.or_default-amounts.ensures.value) in
    let items : amounts.items ≡ amounts_in old c.args.key.now ++ write.amount ∷ [] = pushed ∙ ap (λ xs. xs ++ c.args.amount ∷ []) before ∙ ap (λ n. amounts_in old c.args.key.now ++ n ∷ []) (sym adds) in
    let more = group_more old (map_with_value c.in_ok-self.field-0 amounts) key amounts write (c.in_ok-self.ensures.update.0 amounts) (sym same) items q in
    grind (arith, more)

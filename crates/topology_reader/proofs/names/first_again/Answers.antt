use Rattle.std.proofs.Common.{◌≡◌, true, false, map, Some, rules, sym, ap, ◌∙◌, arith}
use Rattle.topology_reader.proofs.NameLists.{has_key, again_there, again_new, first_again-in}
use Rattle.topology_reader.proofs.names.first_again.Goals as goal

pub loop-item-init : goal.loop-item-init
loop-item-init g c = rw c.in_ok-seen.ensures.empty (sym (first_again-in (map g.N.Named.name_of c.args.items.now)))

pub returns-then-not-branch : goal.returns-then-not-branch
returns-then-not-branch g c =
    let there : has_key c.loop-item.seen.keys c.name.result ≡ true = search (rules) in
    ap Some (c.name-then-not-branch.ensures ∙ sym c.name.ensures)
    ∙ sym (again_there g.N.Named.name_of c.args.items.now c.loop-item.item-index c.item-item.result (omega arith) c.item-item.is c.loop-item.seen.keys c.name.result c.name.ensures there)
    ∙ c.loop-item.invariant

pub loop-item-preserved : goal.loop-item-preserved
loop-item-preserved g c =
    let none : has_key c.loop-item.seen.keys c.name.result ≡ false = search (rules) in
    let keys = c.in_ok-insert.ensures.keys in
    rw (keys, none)
    (sym (again_new g.N.Named.name_of c.args.items.now c.loop-item.item-index c.item-item.result (omega arith) c.item-item.is c.loop-item.seen.keys c.name.result c.name.ensures none)
    ∙ c.loop-item.invariant)

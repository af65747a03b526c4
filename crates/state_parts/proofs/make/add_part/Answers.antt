use Rattle.state_parts.proofs.MakerLemmas.{only_more, out_made}
use Rattle.state_parts.proofs.make.add_part.Goals as goal

pub returns-clause-out : goal.returns-clause-out
returns-clause-out g c = λ start out.
    rw (c.in-Ok.ensures.items, c.new-over.ensures)
    (out_made g.C.CellStore.tells g.C.CellStore.fault_count g.M.StoreMaker.holds g.M.StoreMaker.has_made g.M.StoreMaker.fault_count
    start c.args.stores.now c.make.new.self c.args.parts.now.items (record { component = c.args.component; part = c.args.part; over = record { store = c.in_ok-store.store; kind = c.args.spec.now.kind; by = c.args.spec.now.fold } })
    c.requires c.in_ok-store.ensures.map c.in_ok-store.ensures.no_fault c.in_ok-store.ensures.made c.make.ensures.others c.make.ensures.stays_made c.make.ensures.same_count out)

pub returns-clause-only_made : goal.returns-clause-only_made
returns-clause-only_made g c = λ start only.
    rw (c.in-Ok.ensures.items, c.new-over.ensures)
    (only_more g.C.CellStore.tells g.C.CellStore.fault_count g.M.StoreMaker.holds g.M.StoreMaker.has_made g.M.StoreMaker.fault_count
    start c.args.stores.now c.make.new.self c.args.parts.now.items (record { component = c.args.component; part = c.args.part; over = record { store = c.in_ok-store.store; kind = c.args.spec.now.kind; by = c.args.spec.now.fold } })
    c.make.ensures.made_before only)

use Rattle.state_parts.proofs.MakerLemmas.{all_back, count_back}
use Rattle.state_parts.proofs.parts.Parts.make.Goals as goal

pub returns-in-Err-clause-not_made : goal.returns-in-Err-clause-not_made
returns-in-Err-clause-not_made g c = all_back g.C.CellStore.tells g.C.CellStore.fault_count g.M.StoreMaker.holds g.M.StoreMaker.has_made g.M.StoreMaker.fault_count
    c.args.stores.now c.add_states.new.stores c.give_all.new.stores c.add_states.new.parts.items c.add_states.ensures.out c.give_all.ensures

pub returns-in-Err-clause-same_count : goal.returns-in-Err-clause-same_count
returns-in-Err-clause-same_count g c = count_back g.C.CellStore.tells g.C.CellStore.fault_count g.M.StoreMaker.holds g.M.StoreMaker.has_made g.M.StoreMaker.fault_count
    c.args.stores.now c.add_states.new.stores c.give_all.new.stores c.add_states.new.parts.items c.add_states.ensures.out c.give_all.ensures

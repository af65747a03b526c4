use Rattle.state_parts.specs.PartPlans.{plans_of}
use Rattle.state_parts.specs.Makers.{faults_of}
use Rattle.state_parts.proofs.MakerLemmas.{rose_of_count}
use Rattle.state_parts.proofs.Places.{indexed_apart}
use Rattle.state_parts.proofs.parts.Parts.give_back.Goals as goal

pub give_all-requires-clause-apart : goal.give_all-requires-clause-apart
give_all-requires-clause-apart g c = indexed_apart c.self.inside.firsts.items 0 (plans_of c.self.inside.parts.items) c.self.invariant

pub returns-clause-rose : goal.returns-clause-rose
returns-clause-rose g c = rw (← c.self.view_is) (rose_of_count (faults_of g.C.CellStore.fault_count c.self.inside.parts.items) (g.M.StoreMaker.fault_count c.args.stores.now) (g.M.StoreMaker.fault_count c.give_all.new.stores) c.give_all.ensures.counted)

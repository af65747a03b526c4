use Rattle.std.proofs.Common.{◌≡◌, subst}
use Rattle.event_worlds.specs.topology_plan.Topology.{Topology}
use Rattle.load_source.specs.File.{load_text}
use Rattle.storm_resume.specs.storm_answers.Runs.{IsUnhindered}
use Rattle.storm_resume.specs.stored_runs.Makers.{maker_use}
use Rattle.topology_reader.proofs.FilePlans.{one_plan}
use Rattle.topology_reader.specs.FirstFault.{IsFilePlan}
use Rattle.storm_program.proofs.load.load_records_of.Goals as goal

pub returns-clause-finishes : goal.returns-clause-finishes
returns-clause-finishes g c = λ must.
    let file : IsFilePlan load_text c.in_ok-plan.plan = c.in_ok-plan.ensures in
    let same : must.plan ≡ c.in_ok-plan.plan = one_plan load_text must.plan c.in_ok-plan.plan must.is_plan file in
    c.load_accepted.ensures.finishes
    (subst (λ (p : Topology). IsUnhindered p (maker_use g.M.C.CellStore.tells g.M.C.CellStore.fault_count g.M.StoreMaker.holds g.M.StoreMaker.has_made g.M.StoreMaker.fault_count c.args.stores.now c.load_accepted.new.stores) c.load_accepted.new.fates) same must.free)
    (c.load_file_is_fit.ensures.attempts c.in_ok-plan.plan file) (c.load_file_is_fit.ensures.buckets c.in_ok-plan.plan file)

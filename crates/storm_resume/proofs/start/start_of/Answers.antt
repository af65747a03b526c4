use Rattle.std.proofs.Common.{◌≡◌, length, refl, rules}
use Rattle.storm_resume.proofs.Goings.{told_kept}
use Rattle.storm_resume.specs.Keeping.{keeper_use}
use Rattle.storm_resume.specs.Resume.{of_input}
use Rattle.storm_resume.proofs.start.start_of.Goals as goal

pub returns-else-is_of_input-clause-stop : goal.returns-else-is_of_input-clause-stop
returns-else-is_of_input-clause-stop g c =
    let many : length c.args.rows.now ≡ c.len-records.result = search rules in
    told_kept c.args.plan.now c.args.rows.now (keeper_use g.P.Keeper.holds g.P.Keeper.fault_count c.args.keeper.now.keeper c.load.new.self.keeper) c.told.result _ c.told.ensures
    (record { same = c.load.ensures.same; no_fault = c.in-Ok-Some.ensures.quiet (λ is. absurd cc) })
    (of_input c.in-Ok-Some.meta (rw c.in-Ok-Some.field-0-is at c.in-Ok-Some.ensures.some) (c.if-is_of_input.ensures.no refl c.args.rows.now many) refl)

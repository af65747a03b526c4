use Rattle.std.proofs.Common.{Err, ap}
use Rattle.kept_commits.proofs.Keeping.{told_more, told_perhaps}
use Rattle.kept_commits.proofs.kept.KeptCommitsFollow.told.Goals as goal

pub returns-in-Ok-clause-done : goal.returns-in-Ok-clause-done
returns-in-Ok-clause-done g c =
    told_more g.P.Keeper.holds c.args.self.now.keeper c.save.new.keeper c.args.self.now.meta c.in_ok-next.next c.args.self.now.broken c.args.commit.now c.if-self.false c.in_ok-next.ensures
    c.in-Ok.ensures.done

pub returns-in-Err-Keep-clause-perhaps_done : goal.returns-in-Err-Keep-clause-perhaps_done
returns-in-Err-Keep-clause-perhaps_done g c is =
    told_perhaps g.P.Keeper.holds c.args.self.now.keeper c.save.new.keeper c.args.self.now.meta c.in_ok-next.next c.args.self.now.broken c.args.commit.now c.if-self.false c.in_ok-next.ensures
    (c.in-Err-Keep.ensures.perhaps_done (ap Err c.in-Err-Keep.field-0-is))

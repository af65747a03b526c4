use Rattle.run_report.proofs.Lines.{failed_adds, coincided_adds, commit_failed_adds, dropped_adds}
use Rattle.run_report.proofs.attempts.push_end.Goals as goal

pub returns-in-Failed : goal.returns-in-Failed
returns-in-Failed c = failed_adds _ _ c.in-Failed.path _ _ c.push_failed.result c.in-Failed.is c.push_failed.ensures

pub returns-in-Coincided : goal.returns-in-Coincided
returns-in-Coincided c =
    coincided_adds _ _ c.in-Coincided.list _ _ c.push_coincided.result c.in-Coincided.is c.push_coincided.ensures

pub returns-in-CommitFailed : goal.returns-in-CommitFailed
returns-in-CommitFailed c =
    commit_failed_adds _ _ c.in-CommitFailed.component c.in-CommitFailed.part c.in-CommitFailed.before c.in-CommitFailed.after _ _ _ c.push_commit_failed.result c.in-CommitFailed.is c.name_of.ensures c.push_commit_failed.ensures

pub returns-in-Dropped : goal.returns-in-Dropped
returns-in-Dropped c = dropped_adds _ _ c.in-Dropped.by _ _ c.push_dropped.result c.in-Dropped.is c.push_dropped.ensures

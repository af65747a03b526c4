use Rattle.track_runs.proofs.tracking.Tracking.+tries.Given as goal

abbrev pub decreases-tries : goal.decreases-tries
decreases-tries g l = l.more

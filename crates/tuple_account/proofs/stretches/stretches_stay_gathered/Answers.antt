use Rattle.tuple_account.proofs.Stretching.{stretch-reached}
use Rattle.tuple_account.proofs.stretches.stretches_stay_gathered.Goals as goal

pub returns : goal.returns
returns c = λ t custom h rest n old new shares does told_old told_new grows. stretch-reached t custom n old new shares does told_old told_new grows h rest

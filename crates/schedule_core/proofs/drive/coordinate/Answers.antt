use Rattle.std.proofs.Common.{Option, Ok, Err, [], ◌∷◌, ap, refl, subst, ◌∙◌}
use Rattle.event_engine.proofs.FatesLemmas.{kept_once}
use Rattle.event_engine.specs.Engines.{Answers, cut_in, topology_in}
use Rattle.event_worlds.specs.commit_order.Orders.{desk_of}
use Rattle.schedule_core.proofs.Coordinating.{CommitComes, breaks-ordered, drives-ordered, drives-unordered, followed-ordered, follows-turn, order_taken, taken-ordered, tells_no_cell, turn_txid, unfollowed-ordered, wants-ordered, wants-turn, wants-undecided}
use Rattle.schedule_core.proofs.Keeping.{kept-committed, kept-none}
use Rattle.event_engine.proofs.LoopLemmas.{goes_there}
use Rattle.event_worlds.specs.Worlds.{coordinator_steps, of_outcome}
use Rattle.schedule_core.proofs.Drives.{wants-after}
use Rattle.schedule_core.proofs.Ending.{at_rest}
use Rattle.schedule_core.proofs.Following.{followed-commit, followed-short, met_bad, met_no_follower, ok_of, short_no_follower, taken_on, taken_same}
use Rattle.schedule_core.proofs.Looping.{once_there}
use Rattle.schedule_core.specs.Following.{next_txid}
use Rattle.event_worlds.specs.taken_records.Cuts.{Cut}
use Rattle.schedule_core.proofs.Resting.{on_err, same_run_after, same_run_then}
use Rattle.event_worlds.specs.state_parts.declared.answer.Commit.{Commit}
use Rattle.schedule_core.proofs.drive.coordinate.Goals as goal

pub returns-in_default-clause-drives : goal.returns-in_default-clause-drives
returns-in_default-clause-drives g c =
    let custom = g.O.RowOp.meaning c.args.custom.now in
    let t = topology_in c.args.engine.now in
    let cut = cut_in c.args.engine.now in
    let laws = c.laws_of_steps.ensures t custom cut in
    let more = c.laws_of_commits.ensures t custom cut in
    drives-unordered g.I.Ids.tells g.C.CellStore.tells g.C.CellStore.fault_count t custom cut laws more c.args.engine.now c.turn.new.self c.args.parts.now (c.in_ok-commit.ensures.goes custom) c.in_ok-commit.ensures.ready
    (subst (λ (o : Option Commit). Answers {I = g.row.I.Denot} {g = g.I.Ids} o c.turn.new.self) c.in_default.is c.in_ok-commit.ensures.answers)

pub returns-in_err-how-clause-bad : goal.returns-in_err-how-clause-bad
returns-in_err-how-clause-bad g c = λ key is.
    let custom = g.O.RowOp.meaning c.args.custom.now in
    let t = topology_in c.args.engine.now in
    let cut = cut_in c.args.engine.now in
    let laws = c.laws_of_steps.ensures t custom cut in
    let more = c.laws_of_commits.ensures t custom cut in
    let bad = c.in_err-how.ensures.bad key (ap Err (met_bad c.from_residual-in_err-how.result _ key c.from_residual-in_err-how.ensures.1 is)) in
    breaks-ordered g.I.Ids.tells g.C.CellStore.tells g.C.CellStore.fault_count t custom cut laws more key c.args.engine.now c.turn.new.self c.args.parts.now c.commit_all.new.self c.in-Some.commit (c.in_ok-commit.ensures.goes custom) c.in_ok-commit.ensures.ready
    (subst (λ (o : Option Commit). Answers {I = g.row.I.Denot} {g = g.I.Ids} o c.turn.new.self) c.in-Some.is c.in_ok-commit.ensures.answers)
    c.keys_are_texts.ensures c.in_err-how.ensures.kept c.in_err-how.ensures.at_most_once bad

pub returns-in_err-how-clause-short : goal.returns-in_err-how-clause-short
returns-in_err-how-clause-short g c = λ is.
    let custom = g.O.RowOp.meaning c.args.custom.now in
    let t = topology_in c.args.engine.now in
    let cut = cut_in c.args.engine.now in
    let laws = c.laws_of_steps.ensures t custom cut in
    let more = c.laws_of_commits.ensures t custom cut in
    wants-ordered g.I.Ids.tells g.C.CellStore.tells g.C.CellStore.fault_count t custom cut laws more c.args.engine.now c.turn.new.self c.args.parts.now c.commit_all.new.self c.in-Some.commit (c.in_ok-commit.ensures.goes custom) c.in_ok-commit.ensures.ready
    (subst (λ (o : Option Commit). Answers {I = g.row.I.Denot} {g = g.I.Ids} o c.turn.new.self) c.in-Some.is c.in_ok-commit.ensures.answers)
    c.keys_are_texts.ensures c.in_err-how.ensures.kept c.in_err-how.ensures.at_most_once

pub returns-in_err-commit-clause-short : goal.returns-in_err-commit-clause-short
returns-in_err-commit-clause-short g c = λ is.
    let custom = g.O.RowOp.meaning c.args.custom.now in
    let t = topology_in c.args.engine.now in
    let cut = cut_in c.args.engine.now in
    let laws = c.laws_of_steps.ensures t custom cut in
    let more = c.laws_of_commits.ensures t custom cut in
    let short = c.in_err-commit.ensures.short in
    wants-turn g.I.Ids.tells g.C.CellStore.tells g.C.CellStore.fault_count t custom cut laws more c.args.engine.now c.turn.new.self.fates c.args.parts.now short.verdict short.ticks short.some

pub returns-in_err-decide-clause-short : goal.returns-in_err-decide-clause-short
returns-in_err-decide-clause-short g c = λ is.
    let custom = g.O.RowOp.meaning c.args.custom.now in
    let t = topology_in c.args.engine.now in
    let cut = cut_in c.args.engine.now in
    let laws = c.laws_of_steps.ensures t custom cut in
    let more = c.laws_of_commits.ensures t custom cut in
    let comes : CommitComes g.C.CellStore.tells custom g.C.CellStore.fault_count c.in-Some.commit.root c.in-Some.commit.writes c.in_ok-how.how c.args.parts.now c.commit_all.new.self = record {
      plans = c.in_ok-how.ensures.plans;
      done = λ is. c.in_ok-how.ensures.done (ap Ok is);
      kept = c.in_ok-how.ensures.kept;
      failed = λ component part before after is. c.in_ok-how.ensures.failed component part before after (ap Ok is);
      counted = c.in_ok-how.ensures.counted c.in_ok-how.how refl;
    } in
    wants-undecided g.I.Ids.tells g.C.CellStore.tells g.C.CellStore.fault_count t custom cut laws more c.args.engine.now c.turn.new.self c.decide.new.self.fates c.args.parts.now c.commit_all.new.self c.in-Some.commit c.in_ok-how.how
    (c.in_ok-commit.ensures.goes custom) c.in_ok-commit.ensures.ready (subst (λ (o : Option Commit). Answers {I = g.row.I.Denot} {g = g.I.Ids} o c.turn.new.self) c.in-Some.is c.in_ok-commit.ensures.answers)
    c.keys_are_texts.ensures comes c.in_ok-how.ensures.at_most_once c.in_err-decide.ensures.short

pub returns-clause-drives : goal.returns-clause-drives
returns-clause-drives g c =
    let custom = g.O.RowOp.meaning c.args.custom.now in
    let t = topology_in c.args.engine.now in
    let cut = cut_in c.args.engine.now in
    let laws = c.laws_of_steps.ensures t custom cut in
    let more = c.laws_of_commits.ensures t custom cut in
    let comes : CommitComes g.C.CellStore.tells custom g.C.CellStore.fault_count c.in-Some.commit.root c.in-Some.commit.writes c.in_ok-how.how c.args.parts.now c.commit_all.new.self = record {
      plans = c.in_ok-how.ensures.plans;
      done = λ is. c.in_ok-how.ensures.done (ap Ok is);
      kept = c.in_ok-how.ensures.kept;
      failed = λ component part before after is. c.in_ok-how.ensures.failed component part before after (ap Ok is);
      counted = c.in_ok-how.ensures.counted c.in_ok-how.how refl;
    } in
    ok_of c.tell.result
    (drives-ordered g.I.Ids.tells g.C.CellStore.tells g.C.CellStore.fault_count t custom cut laws more c.args.engine.now c.turn.new.self c.decide.new.self c.args.parts.now c.commit_all.new.self c.in-Some.commit c.in_ok-how.how (c.in_ok-commit.ensures.goes custom) c.in_ok-commit.ensures.ready
    (subst (λ (o : Option Commit). Answers {I = g.row.I.Denot} {g = g.I.Ids} o c.turn.new.self) c.in-Some.is c.in_ok-commit.ensures.answers)
    c.keys_are_texts.ensures c.requires.parts comes c.in_ok-decide.ensures.told (c.in_ok-decide.ensures.goes custom))

-- ---- a follower

pub tell-requires : goal.tell-requires
tell-requires g c = λ done.
    let custom = g.O.RowOp.meaning c.args.custom.now in
    let t = topology_in c.args.engine.now in
    let cut = cut_in c.args.engine.now in
    let laws = c.laws_of_steps.ensures t custom cut in
    let more = c.laws_of_commits.ensures t custom cut in
    order_taken g.I.Ids.tells g.C.CellStore.tells g.C.CellStore.fault_count t custom cut g.W.Follow.tells g.W.Follow.takes g.W.Follow.fault_count c.args.engine.now c.turn.new.self c.decide.new.self (c.in_ok-commit.ensures.goes custom) c.in-Some.commit c.in_ok-commit.ensures.ready
    (subst (λ (o : Option Commit). Answers {I = g.row.I.Denot} {g = g.I.Ids} o c.turn.new.self) c.in-Some.is c.in_ok-commit.ensures.answers)
    c.args.follow.now c.requires.takes

pub returns-clause-at_rest : goal.returns-clause-at_rest
returns-clause-at_rest g c = ok_of c.tell.result (at_rest (topology_in c.turn.new.self) (cut_in c.turn.new.self) c.decide.new.self c.in_ok-decide.ensures.ready c.in_ok-decide.ensures.idle)

pub returns-clause-same_run : goal.returns-clause-same_run
returns-clause-same_run g c = ok_of c.tell.result (same_run_then c.args.engine.now c.turn.new.self c.decide.new.self (same_run_after c.args.engine.now c.turn.new.self c.in_ok-commit.ensures.ready) (same_run_after c.turn.new.self c.decide.new.self c.in_ok-decide.ensures.ready))

pub returns-clause-once : goal.returns-clause-once
returns-clause-once g c =
    let ready = c.in_ok-decide.ensures.ready in
    let mid = c.turn.new.self in
    on_err c.tell.result
    (once_there c.args.engine.now mid (same_run_after c.args.engine.now mid c.in_ok-commit.ensures.ready) c.decide.new.self
    (kept_once (topology_in mid) (cut_in mid) (desk_of c.decide.new.self.coordinator) c.decide.new.self.fates ready.kept ready.ticks))

pub returns-clause-takes : goal.returns-clause-takes
returns-clause-takes g c =
    let custom = g.O.RowOp.meaning c.args.custom.now in
    let t = topology_in c.args.engine.now in
    let cut = cut_in c.args.engine.now in
    let laws = c.laws_of_steps.ensures t custom cut in
    let more = c.laws_of_commits.ensures t custom cut in
    let same = same_run_then c.args.engine.now c.turn.new.self c.decide.new.self (same_run_after c.args.engine.now c.turn.new.self c.in_ok-commit.ensures.ready) (same_run_after c.turn.new.self c.decide.new.self c.in_ok-decide.ensures.ready) in
    taken_on c.tell.result cut (cut_in c.decide.new.self) c.decide.new.self.fates (g.W.Follow.takes c.tell.new.follow) same.cut
    (taken-ordered g.I.Ids.tells g.C.CellStore.tells g.C.CellStore.fault_count t custom cut g.W.Follow.tells g.W.Follow.takes g.W.Follow.fault_count c.args.engine.now c.turn.new.self c.decide.new.self (c.in_ok-commit.ensures.goes custom) c.in-Some.commit c.in_ok-commit.ensures.ready
    (subst (λ (o : Option Commit). Answers {I = g.row.I.Denot} {g = g.I.Ids} o c.turn.new.self) c.in-Some.is c.in_ok-commit.ensures.answers)
    c.in_ok-how.how c.tell.result c.args.follow.now c.tell.new.follow (goes_there t cut c.turn.new.self c.in_ok-commit.ensures.ready g.I.Ids.tells custom (of_outcome ∷ []) c.decide.new.self (c.in_ok-decide.ensures.goes custom)) c.in_ok-decide.ensures.told c.tell.ensures c.requires.takes)

pub returns-clause-bad : goal.returns-clause-bad
returns-clause-bad g c = λ key is. absurd (tells_no_cell g.W.Follow.tells g.W.Follow.takes g.W.Follow.fault_count c.in_ok-how.how c.in-Some.commit c.tell.result c.args.follow.now c.tell.new.follow key c.tell.ensures is)

pub returns-clause-short : goal.returns-clause-short
returns-clause-short g c = λ is.
    let custom = g.O.RowOp.meaning c.args.custom.now in
    let t = topology_in c.args.engine.now in
    let cut = cut_in c.args.engine.now in
    let laws = c.laws_of_steps.ensures t custom cut in
    let more = c.laws_of_commits.ensures t custom cut in
    let comes : CommitComes g.C.CellStore.tells custom g.C.CellStore.fault_count c.in-Some.commit.root c.in-Some.commit.writes c.in_ok-how.how c.args.parts.now c.commit_all.new.self = record {
      plans = c.in_ok-how.ensures.plans;
      done = λ is. c.in_ok-how.ensures.done (ap Ok is);
      kept = c.in_ok-how.ensures.kept;
      failed = λ component part before after is. c.in_ok-how.ensures.failed component part before after (ap Ok is);
      counted = c.in_ok-how.ensures.counted c.in_ok-how.how refl;
    } in
    wants-after g.I.Ids.tells g.C.CellStore.tells g.C.CellStore.fault_count t custom cut laws coordinator_steps c.args.engine.now c.decide.new.self c.args.parts.now c.commit_all.new.self
    (drives-ordered g.I.Ids.tells g.C.CellStore.tells g.C.CellStore.fault_count t custom cut laws more c.args.engine.now c.turn.new.self c.decide.new.self c.args.parts.now c.commit_all.new.self c.in-Some.commit c.in_ok-how.how (c.in_ok-commit.ensures.goes custom) c.in_ok-commit.ensures.ready
    (subst (λ (o : Option Commit). Answers {I = g.row.I.Denot} {g = g.I.Ids} o c.turn.new.self) c.in-Some.is c.in_ok-commit.ensures.answers)
    c.keys_are_texts.ensures c.requires.parts comes c.in_ok-decide.ensures.told (c.in_ok-decide.ensures.goes custom))

pub returns-clause-failed : goal.returns-clause-failed
returns-clause-failed g c = λ txid is.
    let custom = g.O.RowOp.meaning c.args.custom.now in
    let t = topology_in c.args.engine.now in
    let cut = cut_in c.args.engine.now in
    let laws = c.laws_of_steps.ensures t custom cut in
    let more = c.laws_of_commits.ensures t custom cut in
    let comes : CommitComes g.C.CellStore.tells custom g.C.CellStore.fault_count c.in-Some.commit.root c.in-Some.commit.writes c.in_ok-how.how c.args.parts.now c.commit_all.new.self = record {
      plans = c.in_ok-how.ensures.plans;
      done = λ is. c.in_ok-how.ensures.done (ap Ok is);
      kept = c.in_ok-how.ensures.kept;
      failed = λ component part before after is. c.in_ok-how.ensures.failed component part before after (ap Ok is);
      counted = c.in_ok-how.ensures.counted c.in_ok-how.how refl;
    } in
    unfollowed-ordered g.I.Ids.tells g.C.CellStore.tells g.C.CellStore.fault_count t custom cut g.W.Follow.tells g.W.Follow.takes g.W.Follow.fault_count c.args.engine.now c.turn.new.self c.decide.new.self (c.in_ok-commit.ensures.goes custom) c.in-Some.commit c.in_ok-commit.ensures.ready
    (subst (λ (o : Option Commit). Answers {I = g.row.I.Denot} {g = g.I.Ids} o c.turn.new.self) c.in-Some.is c.in_ok-commit.ensures.answers)
    c.args.parts.now c.commit_all.new.self c.in_ok-how.how c.tell.result c.args.follow.now c.tell.new.follow txid (goes_there t cut c.turn.new.self c.in_ok-commit.ensures.ready g.I.Ids.tells custom (of_outcome ∷ []) c.decide.new.self (c.in_ok-decide.ensures.goes custom)) c.in_ok-decide.ensures.told c.tell.ensures is
    (drives-ordered g.I.Ids.tells g.C.CellStore.tells g.C.CellStore.fault_count t custom cut laws more c.args.engine.now c.turn.new.self c.decide.new.self c.args.parts.now c.commit_all.new.self c.in-Some.commit c.in_ok-how.how (c.in_ok-commit.ensures.goes custom) c.in_ok-commit.ensures.ready
    (subst (λ (o : Option Commit). Answers {I = g.row.I.Denot} {g = g.I.Ids} o c.turn.new.self) c.in-Some.is c.in_ok-commit.ensures.answers)
    c.keys_are_texts.ensures c.requires.parts comes c.in_ok-decide.ensures.told (c.in_ok-decide.ensures.goes custom))
    (wants-ordered g.I.Ids.tells g.C.CellStore.tells g.C.CellStore.fault_count t custom cut laws more c.args.engine.now c.turn.new.self c.args.parts.now c.commit_all.new.self c.in-Some.commit (c.in_ok-commit.ensures.goes custom) c.in_ok-commit.ensures.ready
    (subst (λ (o : Option Commit). Answers {I = g.row.I.Denot} {g = g.I.Ids} o c.turn.new.self) c.in-Some.is c.in_ok-commit.ensures.answers)
    c.keys_are_texts.ensures c.in_ok-how.ensures.kept c.in_ok-how.ensures.at_most_once)

pub returns-clause-followed : goal.returns-clause-followed
returns-clause-followed g c =
    let custom = g.O.RowOp.meaning c.args.custom.now in
    let t = topology_in c.args.engine.now in
    let cut = cut_in c.args.engine.now in
    let laws = c.laws_of_steps.ensures t custom cut in
    let more = c.laws_of_commits.ensures t custom cut in
    followed-ordered g.I.Ids.tells g.C.CellStore.tells g.C.CellStore.fault_count t custom cut g.W.Follow.tells g.W.Follow.takes g.W.Follow.fault_count c.args.engine.now c.turn.new.self c.decide.new.self (c.in_ok-commit.ensures.goes custom) c.in-Some.commit c.in_ok-commit.ensures.ready
    (subst (λ (o : Option Commit). Answers {I = g.row.I.Denot} {g = g.I.Ids} o c.turn.new.self) c.in-Some.is c.in_ok-commit.ensures.answers)
    c.in_ok-how.how c.tell.result c.args.follow.now c.tell.new.follow (goes_there t cut c.turn.new.self c.in_ok-commit.ensures.ready g.I.Ids.tells custom (of_outcome ∷ []) c.decide.new.self (c.in_ok-decide.ensures.goes custom)) c.in_ok-decide.ensures.told c.tell.ensures

pub returns-in_default-clause-takes : goal.returns-in_default-clause-takes
returns-in_default-clause-takes g c =
    let custom = g.O.RowOp.meaning c.args.custom.now in
    let t = topology_in c.args.engine.now in
    let cut = cut_in c.args.engine.now in
    let laws = c.laws_of_steps.ensures t custom cut in
    let more = c.laws_of_commits.ensures t custom cut in
    let same = same_run_after c.args.engine.now c.turn.new.self c.in_ok-commit.ensures.ready in
    taken_same _ _ (g.W.Follow.takes c.args.follow.now)
    (ap (λ (k : Cut). next_txid k c.turn.new.self.fates) same.cut
    ∙ turn_txid g.I.Ids.tells g.C.CellStore.tells g.C.CellStore.fault_count t custom cut g.W.Follow.tells g.W.Follow.takes g.W.Follow.fault_count c.args.engine.now c.turn.new.self c.turn.new.self (c.in_ok-commit.ensures.goes custom)) c.requires.takes

pub returns-in_default-clause-followed : goal.returns-in_default-clause-followed
returns-in_default-clause-followed g c =
    let custom = g.O.RowOp.meaning c.args.custom.now in
    let t = topology_in c.args.engine.now in
    let cut = cut_in c.args.engine.now in
    let laws = c.laws_of_steps.ensures t custom cut in
    let more = c.laws_of_commits.ensures t custom cut in
    follows-turn g.I.Ids.tells g.C.CellStore.tells g.C.CellStore.fault_count t custom cut g.W.Follow.tells g.W.Follow.takes g.W.Follow.fault_count c.args.engine.now c.turn.new.self c.turn.new.self (c.in_ok-commit.ensures.goes custom) c.args.follow.now

pub returns-in_err-commit-clause-failed : goal.returns-in_err-commit-clause-failed
returns-in_err-commit-clause-failed g c = λ txid is. absurd (short_no_follower c.from_residual.result txid c.from_residual.ensures.1 is)

pub returns-in_err-commit-clause-followed : goal.returns-in_err-commit-clause-followed
returns-in_err-commit-clause-followed g c = followed-short g.W.Follow.tells g.W.Follow.fault_count c.from_residual.result c.args.engine.now.fates c.turn.new.self.fates c.args.follow.now c.args.follow.now c.from_residual.ensures.1 refl

pub returns-in_err-how-clause-failed : goal.returns-in_err-how-clause-failed
returns-in_err-how-clause-failed g c = λ txid is. absurd (met_no_follower c.from_residual-in_err-how.result _ txid c.from_residual-in_err-how.ensures.1 is)

pub returns-in_err-how-clause-followed : goal.returns-in_err-how-clause-followed
returns-in_err-how-clause-followed g c =
    let custom = g.O.RowOp.meaning c.args.custom.now in
    let t = topology_in c.args.engine.now in
    let cut = cut_in c.args.engine.now in
    let laws = c.laws_of_steps.ensures t custom cut in
    let more = c.laws_of_commits.ensures t custom cut in
    followed-commit g.W.Follow.tells g.W.Follow.fault_count c.from_residual-in_err-how.result _ c.args.engine.now.fates c.turn.new.self.fates c.args.follow.now c.args.follow.now c.from_residual-in_err-how.ensures.1
    (follows-turn g.I.Ids.tells g.C.CellStore.tells g.C.CellStore.fault_count t custom cut g.W.Follow.tells g.W.Follow.takes g.W.Follow.fault_count c.args.engine.now c.turn.new.self c.turn.new.self (c.in_ok-commit.ensures.goes custom) c.args.follow.now)

pub returns-in_err-decide-clause-failed : goal.returns-in_err-decide-clause-failed
returns-in_err-decide-clause-failed g c = λ txid is. absurd (short_no_follower c.from_residual-in_err-decide.result txid c.from_residual-in_err-decide.ensures.1 is)

pub returns-in_err-decide-clause-followed : goal.returns-in_err-decide-clause-followed
returns-in_err-decide-clause-followed g c = followed-short g.W.Follow.tells g.W.Follow.fault_count c.from_residual-in_err-decide.result c.args.engine.now.fates c.decide.new.self.fates c.args.follow.now c.args.follow.now c.from_residual-in_err-decide.ensures.1 refl

pub returns-in_err-commit-clause-kept : goal.returns-in_err-commit-clause-kept
returns-in_err-commit-clause-kept g c = kept-none g.C.CellStore.tells c.args.parts.now

pub returns-in_default-clause-kept : goal.returns-in_default-clause-kept
returns-in_default-clause-kept g c = kept-none g.C.CellStore.tells c.args.parts.now

pub returns-in_err-how-clause-kept : goal.returns-in_err-how-clause-kept
returns-in_err-how-clause-kept g c =
    kept-committed g.C.CellStore.tells (g.O.RowOp.meaning c.args.custom.now) c.in-Some.commit.root c.in-Some.commit.writes c.args.parts.now c.commit_all.new.self c.in_err-how.ensures.plans c.in_err-how.ensures.kept

pub returns-in_err-decide-clause-kept : goal.returns-in_err-decide-clause-kept
returns-in_err-decide-clause-kept g c =
    kept-committed g.C.CellStore.tells (g.O.RowOp.meaning c.args.custom.now) c.in-Some.commit.root c.in-Some.commit.writes c.args.parts.now c.commit_all.new.self c.in_ok-how.ensures.plans c.in_ok-how.ensures.kept

pub returns-clause-kept : goal.returns-clause-kept
returns-clause-kept g c =
    kept-committed g.C.CellStore.tells (g.O.RowOp.meaning c.args.custom.now) c.in-Some.commit.root c.in-Some.commit.writes c.args.parts.now c.commit_all.new.self c.in_ok-how.ensures.plans c.in_ok-how.ensures.kept

-- what ended before the commit was tried
pub returns-in_err-how-clause-once : goal.returns-in_err-how-clause-once
returns-in_err-how-clause-once g c =
    let ready = c.in_ok-commit.ensures.ready in
    on_err c.from_residual-in_err-how.result (kept_once (topology_in c.args.engine.now) (cut_in c.args.engine.now) (desk_of c.turn.new.self.coordinator) c.turn.new.self.fates ready.kept ready.ticks)

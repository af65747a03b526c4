use Rattle.std.proofs.Common.{◌≡◌, suc, ◌+◌, [], ◌∷◌, ◌++◌, length, ap, sym, ◌∙◌, arith}
use Rattle.std.proofs.lemmas.Bool.Decides.{nat_tests}
use Rattle.std.proofs.lemmas.List.{append_assoc, append-nil, length-append, nil_from_length}
use Rattle.std.proofs.lemmas.Result.{err_from_is_err_and}
use Rattle.storm_values.specs.Lines.{lines_of}
use Rattle.schedule_reader.proofs.ScheduleLemmas.{schedule_fault-TooLong, schedule_fault-lines, bad_line-here, bad_line-later, events-next, events_of-lines, fits-push}
use Rattle.schedule_reader.proofs.reading.read_schedule.Goals as goal

pub returns-then-bytes-gt-MOST_SCHEDULE_BYTES-clause-fault :
    goal.returns-then-bytes-gt-MOST_SCHEDULE_BYTES-clause-fault
returns-then-bytes-gt-MOST_SCHEDULE_BYTES-clause-fault c =
    λ _. schedule_fault-TooLong c.args.bytes.now c.args.plan.now (omega arith)

pub returns-in_err-event-clause-fault : goal.returns-in_err-event-clause-fault
returns-in_err-event-clause-fault c =
    let t = c.args.plan.now in
    let line = c.split_line.result.0.now in
    let lines = lines_of c.split_line.result.1.now in
    let made = err_from_is_err_and c.from_residual.result c.from_residual.ensures.1 in
    let all = schedule_fault-lines c.args.bytes.now t (omega arith) in
    let number : c.len.result + 1 ≡ suc (length c.loop-rest.events) = omega arith in
    let bad = rw number at c.in_err-event.ensures.fault in
    let here = bad_line-here t _ line lines c.in_err-event.field-0.0 bad in
    rw (made.1, made.2)
    (λ _. all ∙ sym c.loop-rest.invariant.fault ∙ rw c.split_line.ensures.lines here)

pub loop-rest-preserved : goal.loop-rest-preserved
loop-rest-preserved c =
    let t = c.args.plan.now in
    let events = c.loop-rest.events in
    let event = c.in_ok-event.event in
    let line = c.split_line.result.0.now in
    let lines = lines_of c.split_line.result.1.now in
    let split = c.split_line.ensures.lines in
    let pushed : c.push.new.self ≡ events ++ event ∷ [] = c.in_ok-push.ensures.ok in
    let longer : length c.push.new.self ≡ suc (length events) =
    ap length pushed ∙ length-append events (event ∷ []) ∙ omega arith in
    let number : c.len.result + 1 ≡ suc (length events) = omega arith in
    let good = rw number at c.in_ok-event.ensures.no_fault in
    let next = events-next line lines event c.in_ok-event.ensures.good in
    let each = fits-push t events event c.loop-rest.invariant.fits c.in_ok-event.ensures.fits in
    let later = bad_line-later t (suc (length events)) line lines good in
    record {
      events = rw (pushed, append_assoc) (rw (split, next) at c.loop-rest.invariant.events);
      fault = rw longer (sym later ∙ rw split at c.loop-rest.invariant.fault);
      fits = rw pushed each;
      few = omega arith;
    }

pub returns-clause-good : goal.returns-clause-good
returns-clause-good c =
    let bytes = c.args.bytes.now in
    let empty : length c.loop-rest.rest.now ≡ 0 = grind (arith, nat_tests) in
    let done : c.loop-rest.rest.now ≡ [] = nil_from_length c.loop-rest.rest.now empty in
    let all = schedule_fault-lines bytes c.args.plan.now (omega arith) in
    let events = rw done at c.loop-rest.invariant.events in (
      all ∙ sym c.loop-rest.invariant.fault ∙ rw done,
      sym (append-nil c.loop-rest.events) ∙ events ∙ sym (events_of-lines bytes),
    )

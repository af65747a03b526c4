use Rattle.std.proofs.Common.{◌≡◌, suc, ◌+◌, [], ◌++◌, length, option_map, ap, arith}
use Rattle.std.proofs.lemmas.Bool.Decides.{nat_tests}
use Rattle.std.proofs.lemmas.List.{nil_from_length}
use Rattle.std.proofs.lemmas.Result.{err_from_is_err_and}
use Rattle.report_grammar.specs.Lines.{lines_in}
use Rattle.report_grammar.proofs.Gathering.{all_read, gathered_more, lines_so_far, missing}
use Rattle.report_lines.specs.Told.{tail_told}
use Rattle.report_lines.specs.steps.Gathered.{gathered_told}
use Rattle.report_lines.proofs.ReadingLemmas.{fault_of}
use Rattle.report_lines.proofs.reading.report_of_lines.Goals as goal

pub returns-in_err-take_line-clause-fault : goal.returns-in_err-take_line-clause-fault
returns-in_err-take_line-clause-fault c =
    let all = rw c.first_line.ensures.lines at c.loop-rest.invariant.lines in
    let place : c.loop-rest.number + 1 ≡ suc (length (lines_so_far (gathered_told c.loop-rest.gathered))) = omega (arith, c.loop-rest.invariant.number) in
    let made = err_from_is_err_and c.from_residual.result c.from_residual.ensures.1 in
    rw (made.1, made.2)
    (fault_of (gathered_told c.loop-rest.gathered) c.args.bytes.now c.first_line.result.0.now (lines_in c.first_line.result.1.now) _ _ c.in_err-take_line.ensures.fault c.loop-rest.invariant.are all place)

pub loop-rest-preserved : goal.loop-rest-preserved
loop-rest-preserved c =
    let all = rw c.first_line.ensures.lines at c.loop-rest.invariant.lines in
    let more = gathered_more (gathered_told c.loop-rest.gathered) (gathered_told c.take_line.new.gathered) c.first_line.result.0.now (lines_in c.args.bytes.now) (lines_in c.first_line.result.1.now) c.in_ok-take_line.ensures.added c.loop-rest.invariant.are all in
    let count = more.2 in
    record {
      lines = more.0;
      are = more.1;
      number = omega (arith, count, c.loop-rest.invariant.number);
      few = omega arith;
    }

pub returns-in-Some-clause-good : goal.returns-in-Some-clause-good
returns-in-Some-clause-good c =
    let empty : length c.loop-rest.rest.now ≡ 0 = grind (arith, nat_tests) in
    let none : c.loop-rest.rest.now ≡ [] = nil_from_length c.loop-rest.rest.now empty in
    let all = rw none at c.loop-rest.invariant.lines in
    all_read (gathered_told c.loop-rest.gathered) (tail_told c.in-Some.tail) c.args.bytes.now c.loop-rest.invariant.are (ap (option_map tail_told) c.in-Some.is) all

pub returns-in-None-clause-fault : goal.returns-in-None-clause-fault
returns-in-None-clause-fault c =
    let empty : length c.loop-rest.rest.now ≡ 0 = grind (arith, nat_tests) in
    let none : c.loop-rest.rest.now ≡ [] = nil_from_length c.loop-rest.rest.now empty in
    let all = rw none at c.loop-rest.invariant.lines in
    let place : c.loop-rest.number + 1 ≡ suc (length (lines_so_far (gathered_told c.loop-rest.gathered))) = omega (arith, c.loop-rest.invariant.number) in
    missing (gathered_told c.loop-rest.gathered) (lines_in c.args.bytes.now) _ c.loop-rest.invariant.are (ap (option_map tail_told) c.in-None.is) all place

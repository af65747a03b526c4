use Rattle.std.proofs.Common.{◌≤◌, Some, length, ap, sym, subst, ◌∙◌, arith}
use Rattle.topology_reader.proofs.Common.{err_from_is_err_and, IfOk-weaker, value_fault, IsInRange, in_range}
use Rattle.serde_json.specs.View.{view}
use Rattle.topology_reader.proofs.FileFaults.{too_long, of_value, fault_of_form, plan_of_value, fault_of_value, plan_of_read, fault_of_read}
use Rattle.topology_reader.proofs.FilePlans.{plan_is_valid}
use Rattle.topology_reader.proofs.Numbered.{count_parts}
use Rattle.topology_reader.proofs.read.read_topology.Goals as goal

pub returns-then-bytes-gt-MOST_TOPOLOGY_BYTES-clause-fault :
    goal.returns-then-bytes-gt-MOST_TOPOLOGY_BYTES-clause-fault
returns-then-bytes-gt-MOST_TOPOLOGY_BYTES-clause-fault c = λ _. too_long c.args.bytes.now (omega arith)

pub returns-in_err-value-clause-fault : goal.returns-in_err-value-clause-fault
returns-in_err-value-clause-fault c =
    let made = err_from_is_err_and c.from_residual.result c.from_residual.ensures.1 in
    let short : length c.args.bytes.now ≤ 65536 = omega arith in
    rw (made.1, made.2) (λ other.
    let unread = c.in_err-value.ensures.fault other in
    of_value c.args.bytes.now short ∙ (ap value_fault unread.1 ∙ ap Some (sym unread.0)))

pub returns-in_err-parts-clause-fault : goal.returns-in_err-parts-clause-fault
returns-in_err-parts-clause-fault c =
    let made = err_from_is_err_and c.from_residual-in_err-parts.result c.from_residual-in_err-parts.ensures.1 in
    let short : length c.args.bytes.now ≤ 65536 = omega arith in
    rw (made.1, made.2) (λ other. fault_of_form c.args.bytes.now (view c.in_ok-value.value) _ short c.in_ok-value.ensures.ok (c.in_err-parts.ensures.fault other))

pub of-requires : goal.of-requires
of-requires c =
    let range = subst IsInRange (sym c.in_ok-parts.ensures.said.1) (in_range (view c.in_ok-value.value) c.in_ok-parts.ensures.said.0) in
    omega (arith, count_parts c.in_ok-parts.parts, range.bolts, range.states.1)

pub plan_from-requires : goal.plan_from-requires
plan_from-requires c = subst IsInRange (sym (c.in_ok-sources.ensures ∙ c.in_ok-parts.ensures.said.1)) (in_range (view c.in_ok-value.value) c.in_ok-parts.ensures.said.0)

pub returns : goal.returns
returns c =
    let value = view c.in_ok-value.value in
    let form = c.in_ok-parts.ensures.said.0 in
    let said = c.in_ok-sources.ensures ∙ c.in_ok-parts.ensures.said.1 in
    let short : length c.args.bytes.now ≤ 65536 = omega arith in
    let read =
    plan_of_read c.args.bytes.now value c.plan_from.result short c.in_ok-value.ensures.ok (plan_of_value value c.in_ok-sources.sources c.plan_from.result form said c.plan_from.ensures.plan)
    in
    record {
      plan = read;
      valid = IfOk-weaker c.plan_from.result _ _ (λ plan is. (plan_is_valid c.args.bytes.now plan is).0) read;
      wired = IfOk-weaker c.plan_from.result _ _ (λ plan is. (plan_is_valid c.args.bytes.now plan is).1) read;
      fault = fault_of_read c.args.bytes.now value c.plan_from.result short c.in_ok-value.ensures.ok (fault_of_value value c.in_ok-sources.sources c.plan_from.result form said c.plan_from.ensures.fault);
    }

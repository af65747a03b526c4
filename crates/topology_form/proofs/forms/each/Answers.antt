use Rattle.topology_form.proofs.Each.{read_more}
use Rattle.topology_form.proofs.forms.each.Goals as goal

pub loop-item-preserved : goal.loop-item-preserved
loop-item-preserved g c =
    record {
      can_go_on = tt;
      will_end = tt;
      read = read_more (g.F.Form.form c.args.form.now) c.args.name.now c.in-Some.item _ _ c.loop-item.read c.push.new.self c.in_ok-read.field-0 _ c.in-Some.ensures.steps.0 (c.in_ok-read.ensures) (c.in_ok-push.ensures.ok) c.loop-item.invariant.read;
    }

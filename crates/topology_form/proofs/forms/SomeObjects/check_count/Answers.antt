use Rattle.std.proofs.Common.{rules}
use Rattle.serde_json.proofs.Views.{items_len-items_view}
use Rattle.topology_form.proofs.forms.SomeObjects.check_count.Goals as goal

pub returns : goal.returns
returns g c = rw (items_len-items_view c.args.items.now.items) (search rules)

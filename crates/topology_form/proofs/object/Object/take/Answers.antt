use Rattle.std.proofs.Common.{option_map, ap, ◌∙◌}
use Rattle.topology_form.specs.Prelude.{view, members_view}
use Rattle.serde_json.proofs.Views.{view-lookup}
use Rattle.topology_form.proofs.Left.{members_view-remove_entry}
use Rattle.topology_form.proofs.object.Object.take.Goals as goal

pub returns-clause-found : goal.returns-clause-found
returns-clause-found c = ap (option_map view) c.remove.ensures.value ∙ view-lookup c.args.name.now c.args.self.now.members.entries

pub returns-clause-rest : goal.returns-clause-rest
returns-clause-rest c = ap members_view c.remove.ensures.entries ∙ members_view-remove_entry c.args.name.now c.args.self.now.members.entries

use Rattle.std.proofs.Common.{◌≡◌, ℕ, List, length, map, Some, [], ap, subst, ◌∙◌, arith}
use Rattle.topology_reader.proofs.Common.{FileParts, IsInRange, fields_of, fields_rule}
use Rattle.topology_graph.specs.Graph.{read, values_of}
use Rattle.topology_reader.proofs.GraphLemmas.{fields_of-known}
use Rattle.topology_reader.proofs.PlannedLemmas.{few_fields_of}
use Rattle.topology_reader.proofs.wiring.Wiring.fields_of.Goals as goal
use Rattle.topology_reader.proofs.wiring.Wiring.fields_of.Goals.{After-fields_known}

value : (c : After-fields_known) → c.fields_known.result.now ≡ fields_of c.args.self.now c.args.from
value c =
    let p = c.self.inside.sources.now in
    c.fields_known.ensures
    ∙ ap (λ (q : FileParts). read q.spout.fields [] c.as_slice.result.now c.args.from) c.parts.ensures
    ∙ ap (λ known. read p.spout.fields [] known c.args.from) (c.as_slice.ensures.value ∙ c.self.invariant.1 ∙ ap (λ graph. map Some (values_of (fields_rule p) graph)) c.self.invariant.0)
    ∙ fields_of-known p c.args.from
    ∙ ap (λ q. fields_of q c.args.from) c.self.view_is

pub returns-clause-value : goal.returns-clause-value
returns-clause-value c = value c

pub returns-clause-few : goal.returns-clause-few
returns-clause-few c =
    omega (arith, ap (λ (fields : List (List ℕ)). length fields) (value c), few_fields_of c.args.self.now (subst IsInRange c.self.view_is c.self.invariant.2) c.args.from)

use Rattle.std.proofs.Common.{rules, ◌≡◌, ◌≢◌, ◌≤◌, ◌<◌, ◌+◌, ◌-◌, ◌*◌, ◌^◌, ℕ, zero, suc, bit_xor, Bool, true, false, true≢false, List, [], ◌∷◌, ◌++◌, map, take, get_or, set, length, replicate, Option, Some, None, All, sym, refl, ap, subst, ◌∙◌, arith}
use Rattle.std.proofs.lemmas.Result.{on_ok_weaker}
use Rattle.tree_model.specs.topology_plan.declared.parts.Origin.TheVariants as origin
use Rattle.tree_model.specs.tuple_tickets.declared.edge.Edge.{Edge}
use Rattle.tree_model.specs.declared.messages.AckMsg.TheVariants as msg
use Rattle.tree_model.specs.Trees.{kids}
use Rattle.track_window.specs.Making.{Makes}
use Rattle.track_window.specs.Walks.{Told}
use Rattle.track_window.proofs.Settling.{steps_went}
use Rattle.track_window.proofs.walk.Walk.go_on.Goals as goal

pub returns : goal.returns
returns g c =
    let t = c.args.plan.now in
    let nodes = kids t (origin.Component c.args.tuple.component) c.args.rows in
    let makes : Makes t c.args.tuple.root c.args.tuple.edge.path nodes [] c.args.self.now.jobs.items c.make_rows.new.edges c.make_rows.new.jobs.items =
    subst (λ (es : List Edge). Makes t c.args.tuple.root c.args.tuple.edge.path nodes es c.args.self.now.jobs.items c.make_rows.new.edges c.make_rows.new.jobs.items) c.new-edges.ensures c.in_ok-make_rows.ensures in
    let makes_drew : Makes t c.args.tuple.root c.args.tuple.edge.path nodes [] c.args.self.now.jobs.items c.make_rows.new.edges c.drew.new.self.jobs.items = rw c.drew.ensures.jobs makes in
    on_ok_weaker c.done.result
    (λ told custom is wrote kids_are.
    steps_went t custom c.args.tuple nodes c.make_rows.new.edges c.args.self.now.given c.args.self.now c.drew.new.self c.done.new.self is wrote kids_are makes_drew
    (subst (λ m. Told m c.drew.new.self c.done.new.self) (λ i. msg.Done (record { root = c.args.tuple.root; consumed = c.args.tuple.edge; produced = c.make_rows.new.edges; draw = c.next_draw-draw.ensures i; writes = c.new-writes.ensures i })) told)
    c.drew.ensures.notes c.drew.ensures.acts c.drew.ensures.tallies) c.done.ensures

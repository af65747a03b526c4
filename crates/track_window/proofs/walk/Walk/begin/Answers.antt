use Rattle.std.proofs.Common.{rules, ◌≡◌, ◌≢◌, ◌≤◌, ◌<◌, ◌+◌, ◌-◌, ◌*◌, ◌^◌, ℕ, zero, suc, bit_xor, Bool, true, false, true≢false, List, [], ◌∷◌, ◌++◌, map, take, get_or, set, length, replicate, Option, Some, None, All, sym, refl, ap, subst, ◌∙◌, arith}
use Rattle.tree_model.specs.storm_values.declared.value.Root.{Root}
use Rattle.tree_model.specs.topology_plan.declared.parts.Origin.TheVariants as origin
use Rattle.tree_model.specs.tuple_tickets.declared.edge.Edge.{Edge}
use Rattle.tree_model.specs.tuple_tickets.Edges.{xor_ids}
use Rattle.tree_model.specs.declared.messages.AckMsg.TheVariants as msg
use Rattle.tree_model.specs.Trees.{kids_by}
use Rattle.tuple_account.specs.Issued.{draw_from}
use Rattle.window_account.specs.Calls.{noted}
use Rattle.window_account.specs.Noted.{root_at}
use Rattle.track_window.specs.Making.{Makes}
use Rattle.track_window.proofs.Beginning.{begins_of}
use Rattle.track_window.proofs.walk.Walk.begin.Goals as goal

pub returns : goal.returns
returns g c =
    let t = c.args.plan.now in
    let root : Root = record { txid = c.args.number + 1; attempt = c.args.attempt } in
    let is : root ≡ root_at c.args.attempt c.args.number = ap (λ (n : ℕ). record { txid = n; attempt = c.args.attempt }) (let e : c.args.number + 1 ≡ suc c.args.number = omega arith in e) in
    let makes : Makes t root [] (kids_by t origin.Spout c.args.row.now) [] c.args.self.now.jobs.items c.make_row.new.edges c.make_row.new.jobs.items = search rules in
    let jobs : c.drew.new.self.jobs.items ≡ c.make_row.new.jobs.items = ap (λ js. js.items) c.drew.ensures.jobs in
    let noted_now : c.note.new.self.notes.items ≡ noted c.drew.new.self.notes.items (msg.Init (record { root = root; edges = c.make_row.new.edges; draw = draw_from 0 c.args.self.now.given })) = search rules in
    let word : c.word_of-word.result ≡ xor_ids c.make_row.new.edges = search rules in
    begins_of t c.args.number c.args.attempt c.args.self.now.given c.word_of-word.result c.args.row.now root c.make_row.new.edges c.args.self.now c.drew.new.self c.note.new.self c.make_row.new.jobs.items is makes jobs
    c.drew.ensures.notes c.drew.ensures.acts c.drew.ensures.tallies noted_now c.note.ensures.jobs c.note.ensures.acts c.note.ensures.tallies word

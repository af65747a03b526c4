use Rattle.std.proofs.Common.{rules, ◌≡◌, ◌≢◌, ◌≤◌, ◌<◌, ◌+◌, ◌-◌, ◌*◌, ◌^◌, ℕ, zero, suc, bit_xor, Bool, true, false, true≢false, List, [], ◌∷◌, ◌++◌, map, take, drop, get_or, set, length, replicate, Option, Some, None, All, sym, refl, ap, subst, ◌∙◌, arith}
use Rattle.std.proofs.lemmas.Result.{on_ok_weaker}
use Rattle.tree_model.specs.declared.messages.AckMsg.TheVariants as msg
use Rattle.track_window.specs.declared.walk.Walk.{Walk}
use Rattle.track_window.specs.Walks.{Told}
use Rattle.track_window.proofs.Settling.{steps_wrote}
use Rattle.track_window.proofs.walk.Walk.write.Goals as goal

pub returns : goal.returns
returns c =
    let mid : Walk = record c.args.self.now { tallies = c.add.new.self } in
    on_ok_weaker c.done.result
    (λ told t custom is wrote none.
    steps_wrote t custom c.args.tuple c.args.write c.args.self.now.given c.args.self.now mid c.done.new.self is wrote none
    (subst (λ m. Told m mid c.done.new.self) (λ i. msg.Done (record { root = c.args.tuple.root; consumed = c.args.tuple.edge; produced = c.new-produced.ensures i; draw = c.next_draw-draw.ensures i; writes = c.one-writes.ensures i })) told)
    refl refl refl c.add.ensures.length c.in_ok-add.ensures.ok) c.done.ensures

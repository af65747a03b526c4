use Rattle.std.proofs.Common.{◌≡◌, ◌+◌, ◌-◌, min, ℕ, true, false, not, length, sym, ap, ap₂, ◌∙◌, arith}
use Rattle.std.specs.List.{find, range_with_len}
use Rattle.std.proofs.lemmas.List.{length-map}
use Rattle.commit_turns.specs.Desks.{has_txid}
use Rattle.commit_order.proofs.Ending.{find_here, find_next}
use Rattle.commit_order.proofs.Steps.{waits-txid}
use Rattle.commit_order.specs.Offices.{Office, wait_of}
use Rattle.commit_turns.specs.Turns.{last_txid}
use Rattle.commit_order.proofs.office.Office.free_txid.Goals as goal

pub overflow_add-len : goal.overflow_add-len
overflow_add-len c =
    let most = c.pending_are_few.ensures.most in
    let cap = c.self.invariant.cap in
    let few = c.facts.ensures.valid.pending.1 in
    let len = c.len.ensures in omega arith

pub loop-before-init : goal.loop-before-init
loop-before-init c =
    let from = c.committed-committed.ensures in
    let most = c.min-most.ensures in
    let len = c.len.ensures in
    let pending = ap (λ (o : Office). length o.desk.pending) (sym c.self.view_is) ∙ length-map c.self.inside.flight.pending wait_of in
    let d = c.args.self.now.desk in
    let many : min (length d.pending + 1) (last_txid - d.committed) ≡ c.committed-committed.result + c.min-most.result - c.committed-committed.result = omega arith in
    ap₂ (λ (a n : ℕ). find (λ (txid : ℕ). not (has_txid txid d.pending)) (range_with_len (a + 1) n)) (sym from) many

pub loop-before-preserved : goal.loop-before-preserved
loop-before-preserved c =
    let txid = c.loop-before.before + 1 in
    let on : has_txid (c.loop-before.before + 1) c.args.self.now.desk.pending ≡ true =
    rw (← c.self.view_is) (sym (c.has_txid.ensures ∙ waits-txid c.self.inside.flight.pending txid) ∙ c.if-not-has_txid.false) in
    c.loop-before.invariant
    ∙ find_next c.args.self.now.topology c.args.self.now.cut c.args.self.now.desk c.loop-before.before (c.committed-committed.result + c.min-most.result) c.loop-before-test.true on

pub returns-then-not-has_txid : goal.returns-then-not-has_txid
returns-then-not-has_txid c =
    let txid = c.loop-before.before + 1 in
    let off : has_txid (c.loop-before.before + 1) c.args.self.now.desk.pending ≡ false =
    rw (← c.self.view_is) (sym (c.has_txid.ensures ∙ waits-txid c.self.inside.flight.pending txid) ∙ c.if-not-has_txid.true) in
    sym (c.loop-before.invariant
    ∙ find_here c.args.self.now.topology c.args.self.now.cut c.args.self.now.desk c.loop-before.before (c.committed-committed.result + c.min-most.result) c.loop-before-test.true off)

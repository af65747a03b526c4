use Rattle.std.proofs.Common.{◌≡◌, ◌==◌, true, false, sym, ap, ◌∙◌, subst}
use Rattle.std.proofs.lemmas.Bool.{eq-eqb, ne_eqb}
use Rattle.commit_order.proofs.Dropping.{dropped_are, drops_none, drops_step}
use Rattle.commit_order.proofs.Ending.{on_all}
use Rattle.commit_order.proofs.Passing.{on_err_of}
use Rattle.commit_order.specs.Offices.{AddsSome, Office}
use Rattle.commit_order.proofs.office.Office.drop_with.Goals as goal

pub returns-then-partitions-eq0-clause-ok : goal.returns-then-partitions-eq0-clause-ok
returns-then-partitions-eq0-clause-ok c =
    let none : (c.args.self.now.cut.partitions == 0) ≡ true =
    ap (λ (o : Office). o.cut.partitions == 0) (sym c.self.view_is) ∙ eq-eqb c.self.inside.offers.partitions 0 (sym c.partitions.ensures ∙ c.if-partitions-eq0.true) in
    drops_none c.args.self.now c.args.first c.args.fates.now none

pub invariant_of-self : goal.invariant_of-self
invariant_of-self c =
    let of = c.drop_above.ensures in
    rw (of.same, of.rest) (record {
      cap = c.self.invariant.cap;
      buckets = c.self.invariant.buckets;
      spans = of.within;
    })

pub returns-clause-ok : goal.returns-clause-ok
returns-clause-ok c =
    let f = c.self.inside in
    let of = c.drop_above.ensures in
    let some : (f.offers.partitions == 0) ≡ false = ne_eqb f.offers.partitions 0 (λ e. c.if-partitions-eq0.false (c.partitions.ensures ∙ e)) in
    rw (← c.self.view_is)
    (on_all c.drop_above.result of.flight of.offers of.ok
    (drops_step f.plan.now f.began f.offers f.committed f.flight c.drop_above.new.flight f.out f.exhausted c.args.first some c.drop_above.new.offers c.args.fates.now c.drop_above.new.fates))

pub returns-clause-err : goal.returns-clause-err
returns-clause-err c =
    let f = c.self.inside in
    let some : (f.offers.partitions == 0) ≡ false = ne_eqb f.offers.partitions 0 (λ e. c.if-partitions-eq0.false (c.partitions.ensures ∙ e)) in
    rw (← c.self.view_is)
    (on_err_of c.drop_above.result
    (subst (λ xs. AddsSome xs c.args.fates.now c.drop_above.new.fates)
    (dropped_are f.plan.now f.began f.offers f.committed f.flight c.drop_above.new.flight f.out f.exhausted c.args.first some))
    c.drop_above.ensures.err)

use Rattle.std.proofs.Common.{◌+◌, ◌-◌, ◌*◌, inl, inr, refl, true≢false, arith}
use Rattle.std.specs.Prelude.{min}
use Rattle.record_offers.proofs.BatchLemmas.{a_batch, no_batch}
use Rattle.record_offers.proofs.offers.batch.Goals.{then-txid-eq0-via-then-txid-eq0, then-txid-eq0-via-else-txid-eq0+then-txid-count}
use Rattle.record_offers.proofs.offers.batch.Goals as goal

pub returns-then-txid-eq0-clause-none : goal.returns-then-txid-eq0-clause-none
returns-then-txid-eq0-clause-none c = (
  λ is. no_batch c.args.records c.args.size c.args.txid c.requires.some
      (elim c.then-txid-eq0.branch [
        | then-txid-eq0-via-then-txid-eq0 w ↦ inl w.if-txid-eq0.true
        | then-txid-eq0-via-else-txid-eq0+then-txid-count w ↦ inr (let past = w.if-txid-count.true in let count = c.requires.batches in omega (arith, past, count))
      ]),
  λ is. refl,
)

pub returns-clause-none : goal.returns-clause-none
returns-clause-none c =
    let first = c.if-txid-eq0.false in
    let there = c.if-txid-count.false in
    let count = c.requires.batches in
    let batch = a_batch c.args.records c.args.size c.args.txid (record { first = (c.args.txid - 1) * c.args.size + 1; last = (c.args.txid - 1) * c.args.size + min c.args.size (c.args.records - (c.args.txid - 1) * c.args.size) })
    c.requires.some (omega (arith, first)) (omega (arith, there, count)) refl in
    (λ h. absurd (true≢false h), λ none. absurd (batch.2 none))

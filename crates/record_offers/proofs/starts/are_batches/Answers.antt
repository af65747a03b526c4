use Rattle.std.proofs.Common.{◌≡◌, ◌*◌, ◌≤◌, length, true≢false, subst, sym, ap, ap₂, ◌∙◌, arith}
use Rattle.std.specs.Prelude.{min}
use Rattle.std.specs.Int.{div_ceil}
use Rattle.std.proofs.lemmas.Bool.Decides.{nat_tests}
use Rattle.record_spans.specs.declared.span.Span.{Span}
use Rattle.record_offers.proofs.BatchLemmas.{are_first, at_most_one, one_first}
use Rattle.record_offers.proofs.starts.are_batches.Goals as goal

pub returns-then-span-eq1 : goal.returns-then-span-eq1
returns-then-span-eq1 c =
    let d : Span = record { first = 0; last = 0 } in
    let least = c.in-len1.len_at_least in
    let most = c.in-len1.len_below in
    let one : length c.args.gone.now ≡ 1 = omega (arith, least, most) in
    let past = c.if-txid-div_ceil.false in
    let ceil = c.div_ceil.ensures in
    let last : c.min-last.result ≡ min (c.args.txid * c.args.size) c.args.records =
    c.min-last.ensures ∙ ap₂ min (ap₂ (λ a b. a * b) c.from-2.ensures c.from-3.ensures) c.from-4.ensures in
    let here = c.from-then-span-eq1.ensures in (
      λ is.
          let same : c.from-then-span-eq1.result ≡ c.min-last.result = grind (arith, nat_tests, is) in
          (subst (λ n. c.args.txid ≤ n) (ceil ∙ ap (div_ceil c.args.records) c.from.ensures) past, are_first c.args.gone.now d (min (c.args.txid * c.args.size) c.args.records) one c.if-span-eq1.true (sym here ∙ same ∙ last)),
      λ is.
          let ends = one_first c.args.gone.now d (min (c.args.txid * c.args.size) c.args.records) c.requires.apart one is.1 in
          let same : c.from-then-span-eq1.result ≡ c.min-last.result = here ∙ ends.1 ∙ sym last in
          grind (arith, nat_tests, same),
    )

pub returns-in_default : goal.returns-in_default
returns-in_default c = (
  λ h. absurd (true≢false (sym h)),
  λ is.
      let most = at_most_one c.args.gone.now (min (c.args.txid * c.args.size) c.args.records) c.requires.apart is.1 in
      let least = c.in_default.len_at_least in
      absurd (omega (arith, most, least)),
)

pub returns-else-span-eq1 : goal.returns-else-span-eq1
returns-else-span-eq1 c =
    let least = c.in-len1.len_at_least in
    let most = c.in-len1.len_below in
    let one : length c.args.gone.now ≡ 1 = omega (arith, least, most) in
    let other = c.if-span-eq1.false in (
      λ is. absurd (other (grind (arith, nat_tests, is))),
      λ is.
          let ends = one_first c.args.gone.now (record { first = 0; last = 0 }) (min (c.args.txid * c.args.size) c.args.records) c.requires.apart one is.1 in
          absurd (other ends.0),
    )

use Rattle.std.proofs.Common.{◌≡◌, ◌<◌, ◌∙◌, length, rules, sym, subst, ap}
use Rattle.std.proofs.lemmas.List.{length-set}
use Rattle.std.specs.List.{AllZip}
use Rattle.state_reader.specs.Lists.{shown_by, shown_by_each, MayHave}
use Rattle.state_reader.proofs.Several.{length-mapped, shown-set, shown-spread, spread, spread-all, spread-MayHave}
use Rattle.state_reader.proofs.publisher.publish_all.Goals as goal

pub returns-in_err-publish-clause-each : goal.returns-in_err-publish-clause-each
returns-in_err-publish-clause-each g c =
    let pairs = c.loop-place.pairs.items in
    let before = shown_by_each c.args.pairs.now.items in
    let within : c.loop-place.place < length pairs = search rules in
    let same = shown-set shown_by pairs c.loop-place.place c.index_mut.result.now c.publish.new.self within c.index_mut.ensures.value c.in_err-publish.ensures in
    subst (AllZip (MayHave c.args.commit.now) before) (sym (same ∙ c.loop-place.invariant.0)) (spread-MayHave c.args.commit.now c.loop-place.place before)

pub loop-place-preserved : goal.loop-place-preserved
loop-place-preserved g c =
    let pairs = c.loop-place.pairs.items in
    let within : c.loop-place.place < length pairs = search rules in (
      shown-spread shown_by c.args.commit.now (shown_by_each c.args.pairs.now.items) pairs c.loop-place.place c.index_mut.result.now c.publish.new.self within c.index_mut.ensures.value c.loop-place.invariant.0 c.in_ok-publish.ensures,
      length-set pairs c.loop-place.place c.publish.new.self ∙ c.loop-place.invariant.1,
    )

pub returns-clause-all : goal.returns-clause-all
returns-clause-all g c =
    let before = shown_by_each c.args.pairs.now.items in
    let all : c.loop-place.place ≡ length c.args.pairs.now.items = search rules in
    c.loop-place.invariant.0 ∙ ap (λ n. spread c.args.commit.now n before) (all ∙ sym (length-mapped shown_by c.args.pairs.now.items)) ∙ spread-all c.args.commit.now before

pub returns-clause-each : goal.returns-clause-each
returns-clause-each g c =
    let before = shown_by_each c.args.pairs.now.items in
    subst (AllZip (MayHave c.args.commit.now) before) (sym c.loop-place.invariant.0) (spread-MayHave c.args.commit.now c.loop-place.place before)

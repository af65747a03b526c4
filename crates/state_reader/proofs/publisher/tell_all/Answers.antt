use Rattle.std.proofs.Common.{◌≡◌, ◌<◌, ◌∙◌, [], List, length, get_or, rules, sym, subst, ap}
use Rattle.std.proofs.lemmas.List.{get_or-map, length-set}
use Rattle.state_reader.specs.Commits.{Commit}
use Rattle.state_reader.specs.Lists.{shown_by, shown_by_each}
use Rattle.state_reader.specs.Pairs.{told_by, told_by_each}
use Rattle.state_reader.proofs.Several.{length-mapped, shown-set, told-more}
use Rattle.state_reader.proofs.publisher.tell_all.Goals as goal

pub returns-in_err-tell-clause-same : goal.returns-in_err-tell-clause-same
returns-in_err-tell-clause-same c =
    let pairs = c.loop-place.pairs.items in
    let within : c.loop-place.place < length pairs = search rules in
    shown-set shown_by pairs c.loop-place.place c.index_mut.result.now c.tell.new.self within c.index_mut.ensures.value c.tell.ensures.same ∙ c.loop-place.invariant.0

pub returns-in_err-push-clause-same : goal.returns-in_err-push-clause-same
returns-in_err-push-clause-same c =
    let pairs = c.loop-place.pairs.items in
    let within : c.loop-place.place < length pairs = search rules in
    shown-set shown_by pairs c.loop-place.place c.index_mut.result.now c.tell.new.self within c.index_mut.ensures.value c.tell.ensures.same ∙ c.loop-place.invariant.0

pub loop-place-preserved : goal.loop-place-preserved
loop-place-preserved c =
    let pairs = c.loop-place.pairs.items in
    let before = shown_by_each c.args.pairs.now.items in
    let within : c.loop-place.place < length pairs = search rules in
    let inside : c.loop-place.place < length before = subst (λ n. c.loop-place.place < n) (sym (ap length (sym c.loop-place.invariant.0) ∙ length-mapped shown_by pairs)) within in
    let told : told_by c.in_ok-tell.field-0 ≡ shown_by c.index_mut.result.now = c.in_ok-tell.ensures.told in
    let here : get_or before c.loop-place.place [] ≡ told_by c.in_ok-tell.field-0 =
    ap (λ (lists : List (List Commit)). get_or lists c.loop-place.place []) (sym c.loop-place.invariant.0) ∙ get_or-map shown_by pairs c.loop-place.place c.index_mut.result.now [] within ∙ ap shown_by (sym c.index_mut.ensures.value) ∙ sym told in (
      shown-set shown_by pairs c.loop-place.place c.index_mut.result.now c.tell.new.self within c.index_mut.ensures.value c.tell.ensures.same ∙ c.loop-place.invariant.0,
      length-set pairs c.loop-place.place c.tell.new.self ∙ c.loop-place.invariant.1,
      ap told_by_each c.in_ok-push.ensures.items ∙ told-more told_by c.loop-place.notes.items c.in_ok-tell.field-0 before c.loop-place.place inside c.loop-place.invariant.2 here,
    )

use Rattle.std.proofs.Common.{rules, ◌≡◌, ◌≤◌, ◌<◌, ◌+◌, ◌==◌, ℕ, List, length, map, cond, sym, ap, ◌∙◌, length-set, arith}
use Rattle.std.proofs.lemmas.List.{length-map}
use Rattle.state_tallies.specs.Inside.{counts_of, counts_by}
use Rattle.state_tallies.specs.Tallies.{capped, count_in, count_of}
use Rattle.state_tallies.proofs.States.{few_at, put_more, put_few, was, count_first, count_none, count_all}
use Rattle.state_tallies.proofs.tallies.add_states.Goals as goal

pub loop-place-init : goal.loop-place-init
loop-place-init c = record {
  long = search rules;
  counts = count_none (counts_by c.args.states.now.items) (counts_by c.args.others.items) c.requires.few;
  few = c.requires.few;
}

pub add_counts-requires : goal.add_counts-requires
add_counts-requires c =
    let within : c.loop-place.place < length c.loop-place.states.items = search rules in
    few_at counts_of c.loop-place.states.items c.loop-place.place c.index_mut.result.now c.index_mut.result.now within c.index_mut.ensures.value c.loop-place.invariant.few

pub returns-in_err-add_counts-clause-few : goal.returns-in_err-add_counts-clause-few
returns-in_err-add_counts-clause-few c =
    let within : c.loop-place.place < length c.loop-place.states.items = search rules in
    put_few counts_of c.loop-place.states.items c.loop-place.place c.index_mut.result.now c.add_counts.new.counts within c.index_mut.ensures.value c.loop-place.invariant.few c.add_counts.ensures.few

pub loop-place-preserved : goal.loop-place-preserved
loop-place-preserved c =
    let within : c.loop-place.place < length c.loop-place.states.items = search rules in
    let there : c.loop-place.place < length c.args.others.items = search rules in
    let others = was counts_of c.args.others.items c.loop-place.place c.index.result.now c.index.result.now there c.index.ensures in
    record {
      long = length-set c.loop-place.states.items c.loop-place.place c.add_counts.new.counts ∙ c.loop-place.invariant.long;
      counts = count_first (counts_by c.args.states.now.items) (counts_by c.loop-place.states.items) _ (counts_by c.args.others.items) c.loop-place.place c.loop-place.invariant.counts
          (λ s k. put_more counts_of c.loop-place.states.items c.loop-place.place c.index_mut.result.now c.add_counts.new.counts within c.index_mut.ensures.value (count_in (counts_of c.index.result.now)) c.loop-place.invariant.few c.in_ok-add_counts.ensures.ok s k
          ∙ ap (λ (counts : List _). capped (count_of (counts_by c.loop-place.states.items) s k + cond (c.loop-place.place == s) (count_in counts k) 0)) (sym others));
      few = put_few counts_of c.loop-place.states.items c.loop-place.place c.index_mut.result.now c.add_counts.new.counts within c.index_mut.ensures.value c.loop-place.invariant.few c.add_counts.ensures.few;
    }

pub returns-clause-ok : goal.returns-clause-ok
returns-clause-ok c =
    let all : c.loop-place.place ≡ length c.args.others.items = search rules in
    count_all (counts_by c.args.states.now.items) (counts_by c.loop-place.states.items) (counts_by c.args.others.items) c.loop-place.place (all ∙ sym (length-map c.args.others.items counts_of)) c.loop-place.invariant.counts

pub returns-clause-few : goal.returns-clause-few
returns-clause-few c = c.loop-place.invariant.few

use Rattle.std.proofs.Common.{rules, ◌≡◌, ◌≤◌, ◌<◌, ◌+◌, ◌-◌, ◌^◌, ℕ, List, [], ◌∷◌, ◌++◌, map, length, replicate, Option, Some, None, sym, refl, ap, subst, ◌∙◌, arith}
use Rattle.std.proofs.lemmas.Result.{on_ok_weaker, on_err_weaker}
use Rattle.state_tallies.specs.Inside.{counts_of}
use Rattle.state_tallies.specs.Tallies.{at_text}
use Rattle.state_tallies.proofs.States.{few_at, put_more, put_same, put_few}
use Rattle.state_tallies.proofs.tallies.add_state.Goals as goal

pub add_to-requires : goal.add_to-requires
add_to-requires c = few_at counts_of c.args.states.now.items c.args.state c.index_mut.result.now c.index_mut.result.now c.requires.within c.index_mut.ensures.value c.requires.few

pub returns-clause-ok : goal.returns-clause-ok
returns-clause-ok c =
    on_ok_weaker c.add_to.result
    (put_more counts_of c.args.states.now.items c.args.state c.index_mut.result.now c.add_to.new.counts c.requires.within c.index_mut.ensures.value (at_text c.args.key.now c.args.more) c.requires.few)
    c.add_to.ensures.ok

pub returns-clause-err : goal.returns-clause-err
returns-clause-err c =
    on_err_weaker c.add_to.result
    (put_same counts_of c.args.states.now.items c.args.state c.index_mut.result.now c.add_to.new.counts c.requires.within c.index_mut.ensures.value)
    c.add_to.ensures.err

pub returns-clause-few : goal.returns-clause-few
returns-clause-few c =
    put_few counts_of c.args.states.now.items c.args.state c.index_mut.result.now c.add_to.new.counts c.requires.within c.index_mut.ensures.value c.requires.few c.add_to.ensures.few

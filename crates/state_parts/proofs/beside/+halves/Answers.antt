use Rattle.std.proofs.Common.{◌≡◌, rules}
use Rattle.state_parts.proofs.JoinLemmas.{tried_both, tried_cut}
use Rattle.state_parts.proofs.beside.+halves.Goals as goal

pub both_halves-returns : goal.both_halves-returns
both_halves-returns g t c =
    let ahead : c.front-1.given.0 ≡ c.join_mut-one.new.f.5.now = search rules in
    let behind : c.back-1.given.0 ≡ c.join_mut-one.new.g.5.now = search rules in
    tried_both g.C.CellStore.tells (g.O.RowOp.meaning c.args.custom.now) g.C.CellStore.fault_count c.args.root c.args.front.now c.args.back.now c.front-1.given.0 c.back-1.given.0 c.args.first.now c.args.rest.now c.join_mut-one.result.0 c.join_mut-one.result.1 c.join.result
    c.join.ensures (rw ahead c.join_mut-one.ensures.0.met.1) (rw behind c.join_mut-one.ensures.1.met.1)

pub commit_halves-returns : goal.commit_halves-returns
commit_halves-returns g t c =
    tried_cut g.C.CellStore.tells (g.O.RowOp.meaning c.args.custom.now) g.C.CellStore.fault_count c.args.root c.args.parts.now c.split_at_mut-front.result.0.now c.split_at_mut-front.result.1.now _ c.args.dealt.now c.split_at.result.0.now c.split_at.result.1.now c.both_halves.result
    c.split_at_mut-front.ensures.value c.split_at.ensures.by_index.0 (search rules) c.both_halves.ensures

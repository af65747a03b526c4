use Rattle.std.proofs.Common.{refl, rules, arith}
use Rattle.std.proofs.lemmas.Result.{on_ok_weaker}
use Rattle.tree_model.specs.Packs.{write_in}
use Rattle.state_parts.proofs.SplitLemmas.{deal_step, deal_within, if_none, none_more}
use Rattle.state_parts.proofs.split.deal.Goals as goal

pub returns-in-Some : goal.returns-in-Some
returns-in-Some g c = on_ok_weaker c.add.result (λ adds before was. deal_step before (write_in c.args.write) c.args.parts.now c.in-Some.place c.args.dealt.now.items c.index_mut.result.now c.add.new.self c.in-Some.ensures.found c.index_mut.ensures.value (adds (write_in c.args.write) refl (search rules)) was) c.add.ensures

pub returns-in_default : goal.returns-in_default
returns-in_default g c = λ before was.
    let within = deal_within before (write_in c.args.write) c.args.parts.now c.in-Some.place c.args.dealt.now.items c.in-Some.ensures.found was in
    absurd (omega (arith, c.args.dealt.now.ok.0))

pub returns-in_default-2 : goal.returns-in_default-2
returns-in_default-2 g c = λ before was.
    none_more before (write_in c.args.write) c.args.parts.now c.args.dealt.now.items (if_none c.find_part.result c.in_default.is c.find_part.ensures.none) was

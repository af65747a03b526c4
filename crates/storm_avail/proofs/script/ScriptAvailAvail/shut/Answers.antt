use Rattle.std.proofs.Common.{sym, arith}
use Rattle.std.proofs.lemmas.List.{drop_all}
use Rattle.storm_avail.proofs.AnswerLemmas.{none_left}
use Rattle.storm_avail.proofs.script.ScriptAvailAvail.shut.Goals as goal

pub returns-in-None-clause-tells_the_rest : goal.returns-in-None-clause-tells_the_rest
returns-in-None-clause-tells_the_rest c = λ answers same.
    none_left answers c.args.self.now.answers c.args.self.now.place (rw (sym c.as_slice.ensures) (drop_all c.args.self.now.place c.as_slice.result.now (omega (arith, c.in-None.ensures.lookup)))) same

use Rattle.std.proofs.Common.{rules, refl}
use Rattle.tree_model.specs.Tables.{folded}
use Rattle.cell_format.proofs.ChangeLemmas.{not_empty, whole_anew}
use Rattle.cell_format.proofs.commit.change_anew.Goals as goal

pub returns-clause-good : goal.returns-clause-good
returns-clause-good g c = record {
  is = record {
    txid = search rules;
    attempt = search rules;
    value = search rules;
    prev = search rules;
    whole = rw (c.fold_all.ensures, c.keep.ensures) (whole_anew c.args.kind (folded (g.O.RowOp.meaning c.args.custom.now) c.args.by) c.args.amounts.now c.value_in-value.result (λ none. not_empty c.args.amounts.now none c.if-is_empty.ensures));
  };
  kind_is = refl;
}

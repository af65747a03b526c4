-- What holds of a result's variant.
use Rattle.std.proofs.Common.{Result, Ok, Err}
use Rattle.std.specs.Prelude.{OnOk, OnErr}

pub on_ok : {T E P Q : Type 0} (r : Result T E) → (P → Q) → OnOk r P → OnOk r Q
on_ok (Ok x) more holds = more holds
on_ok (Err e) more holds = holds

pub on_err : {T E P Q : Type 0} (r : Result T E) → (P → Q) → OnErr r P → OnErr r Q
on_err (Ok x) more holds = holds
on_err (Err e) more holds = more holds

pub on_either : {T E P Q : Type 0} (r : Result T E) (S : Type 0) → (P → S) → (Q → S) → OnOk r P → OnErr r Q → S
on_either (Ok x) S on_this on_other ok err = on_this ok
on_either (Err e) S on_this on_other ok err = on_other err

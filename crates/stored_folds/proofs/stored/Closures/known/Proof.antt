-- The field says only that a proof of the fact exists. An entailment is a proposition, so the
-- proof may be opened in front of the walk that Rattle made.
use seplogic.Bi.Basic.{Entails-prop}
use mathlib.Core.Logic.{∥∥₁_elim}
use base.Logic.{via, mono_r}
use denote.Triple.Entry.{on_entry}
use borrow.Fn.Kinds.{sig_of}
use contract.Monad.{fact_mono}
use Rattle.stored_folds.specs.Folds.{Keeps}
use Rattle.stored_folds.proofs.stored.Closures.known.Statement.{statement}
use Rattle.stored_folds.proofs.stored.Closures.known.Lts as lts
use Rattle.stored_folds.proofs.stored.Closures.known.Reads as reads
use Rattle.stored_folds.proofs.stored.Closures.known.Tie as tie

pub known_spec : {M : Type 1} → statement M
known_spec {M} =
    tie.close (λ L F G LL LF LG l ld f fd g gd w met_l met_f met_g 𝓤 𝓛 𝓣 y.
    ∥∥₁_elim y.0.3.0.now.fact (Entails-prop 𝓤.op _ _) (λ kept.
    via 𝓤 _ (mono_r 𝓤 (on_entry 𝓛 (sig_of 4 (lts.ps L F G LL LF LG l ld f fd g gd) (lts.r L F G LL LF LG l ld f fd g gd)) y.0.0 y.0.1 y.0.3 y.0.4) (fact_mono 𝓤 _ (Keeps l.one l.combine (f.may_make y.0.3.0.now.one) (f.makes y.0.3.0.now.one) (g.may_make y.0.3.0.now.combine) (g.makes y.0.3.0.now.combine)) (λ _. kept)))
    (lts.spec L F G LL LF LG l ld f fd g gd (λ κs a. Keeps l.one l.combine (f.may_make a.0.now.one) (f.makes a.0.now.one) (g.may_make a.0.now.combine) (g.makes a.0.now.combine)) (reads.Post L F G LL LF LG l ld f fd g gd)
    (λ c. c.requires) 𝓤 𝓛 𝓣 y)))

-- The field says only that a proof of the fact exists. An entailment is a proposition, so the
-- proof may be opened in front of the walk that Rattle made.
use seplogic.Bi.Basic.{Entails-prop}
use mathlib.Core.Logic.{∥∥₁_elim}
use base.Logic.{via, mono_r}
use denote.Triple.Entry.{on_entry}
use borrow.Fn.Kinds.{sig_of}
use contract.Monad.{fact_mono}
use Rattle.bolt_ops.specs.Stored.{Keeps}
use Rattle.bolt_ops.proofs.stored.StoredOp.known.Statement.{statement}
use Rattle.bolt_ops.proofs.stored.StoredOp.known.Lts as lts
use Rattle.bolt_ops.proofs.stored.StoredOp.known.Reads as reads
use Rattle.bolt_ops.proofs.stored.StoredOp.known.Tie as tie

pub known_spec : {M : Type 1} → statement M
known_spec {M} =
    tie.close (λ L F LL LF l ld f fd w met_l met_f 𝓤 𝓛 𝓣 y.
    ∥∥₁_elim y.0.3.0.now.fact (Entails-prop 𝓤.op _ _) (λ kept.
    via 𝓤 _ (mono_r 𝓤 (on_entry 𝓛 (sig_of 3 (lts.ps L F LL LF l ld f fd) (lts.r L F LL LF l ld f fd)) y.0.0 y.0.1 y.0.3 y.0.4) (fact_mono 𝓤 _ (Keeps l.law (f.may_make y.0.3.0.now.make) (f.makes y.0.3.0.now.make)) (λ _. kept)))
    (lts.spec L F LL LF l ld f fd (λ κs a. Keeps l.law (f.may_make a.0.now.make) (f.makes a.0.now.make)) (reads.Post L F LL LF l ld f fd)
    (λ c. c.requires) 𝓤 𝓛 𝓣 y)))

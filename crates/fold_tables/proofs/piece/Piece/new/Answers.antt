use Rattle.std.proofs.Common.{◌≡◌, [], length, ap, sym, ◌∙◌, arith}
use Rattle.std.proofs.lemmas.List.{length-map, length-replicate}
use Rattle.std.proofs.lemmas.List.Elements.{All-nil}
use Rattle.tree_model.specs.Inside.{entries_of}
use Rattle.fold_tables.proofs.Pieces.{Fit}
use Rattle.fold_tables.proofs.Running.{AreRunningTables-none}
use Rattle.fold_tables.proofs.piece.Piece.new.Goals as goal

pub returns : goal.returns
returns c =
    let all : c.loop.counter ≡ length c.args.plan.now.components = omega (arith, c.components-end.ensures) in
    λ custom. record {
      counted = omega arith;
      fit = All-nil Fit;
      count = sym (length-map c.loop.states.items entries_of) ∙ ap length c.loop.invariant ∙ length-replicate c.loop.counter [] ∙ all;
      running = λ few. rw (c.loop.invariant, all) (AreRunningTables-none c.args.plan.now custom);
    }

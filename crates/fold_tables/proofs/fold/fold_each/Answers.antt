use Rattle.std.proofs.Common.{◌≡◌, ◌++◌, ◌∷◌, [], ◌<◌, ◌+◌, ◌∙◌, length, take, get_or, ap, sym, subst, rules, arith}
use Rattle.std.proofs.lemmas.List.{take_more}
use Rattle.tree_model.specs.Trees.{nodes_of, writes}
use Rattle.tree_model.proofs.Walks.{writes-append}
use Rattle.fold_tables.specs.Pieces.{IsPiece}
use Rattle.fold_tables.proofs.fold.fold_each.Goals as goal

-- no rows write nothing
pub loop-row-init : goal.loop-row-init
unfolding nodes_of
loop-row-init g c =
    let is = c.in_ok-piece.ensures (g.O.RowOp.meaning c.args.custom.now) in
    record { count = is.count; piece = is }

pub loop-row-preserved : goal.loop-row-preserved
loop-row-preserved g c =
    let t = c.args.plan.now in
    let custom = g.O.RowOp.meaning c.args.custom.now in
    let rows = c.args.rows.now in
    let i = c.loop-row.row-index in
    let row = c.row-item.result in
    let within : i < length rows = search rules in
    let more : take (i + 1) rows ≡ take i rows ++ row ∷ [] = take_more rows i row within ∙ ap (λ r. take i rows ++ r ∷ []) (sym c.row-item.is) in
    let made : c.in_ok-writes_of.field-0 ≡ writes t custom (row ∷ []) = search rules in
    let all : writes t custom (take i rows) ++ c.in_ok-writes_of.field-0 ≡ writes t custom (take (i + 1) rows) =
    ap (λ ws. writes t custom (take i rows) ++ ws) made ∙ sym (writes-append t custom (take i rows) (row ∷ [])) ∙ ap (writes t custom) (sym more) in
    record {
      count = c.in_ok-add_all.ensures.length;
      piece = subst (λ ws. IsPiece t custom ws c.add_all.new.self) all (c.in_ok-add_all.ensures.more (writes t custom (take i rows)) c.loop-row.invariant.piece);
    }

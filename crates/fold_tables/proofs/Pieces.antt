-- What pieces have left: one more write, all writes of a list, and the writes of a later piece.
use Rattle.std.proofs.Common.{◌≡◌, ℕ, ◌+◌, ◌-◌, ◌<◌, ◌≤◌, ◌^◌, min, All, List, [], ◌∷◌, ◌++◌, length, refl, sym, ap, subst, ◌∙◌, append_assoc, arith}
use Rattle.std.proofs.lemmas.List.{append-nil, length-append, length_push}
use Rattle.std.proofs.lemmas.List.Elements.{All-nil, All-cons, All-append}
use Rattle.std.specs.Int.{w64}
use Rattle.std.specs.Int.RustNames.{FitsSigned}
use Rattle.tree_model.specs.bolt_ops.RowOp.{Custom, IsCustom}
use Rattle.tree_model.specs.topology_plan.Topology.{Topology}
use Rattle.tree_model.specs.declared.write.Write.{Write}
use Rattle.tree_model.specs.Tables.{AreRunningTables}
use Rattle.fold_tables.specs.declared.piece.Piece.{Piece}
use Rattle.fold_tables.specs.Merging.{AreFewWrites}
use Rattle.fold_tables.specs.Pieces.{AreMergedStates, IsPiece, pairs_by}
use Rattle.fold_tables.proofs.Running.{AreRunningTables-merged}

abbrev pub Fit : Write → Type 0
Fit write = FitsSigned w64 write.amount

module _ (t : Topology) (custom : Custom) where
  -- one more write
  pub IsPiece-add : (made : List Write) (write : Write) (old new : Piece) → Fit write → new.writes ≡ min (old.writes + 1) (2 ^ 64 - 1) → length new.states.items ≡ length t.components
      → (AreRunningTables t custom made (pairs_by old.states.items) → AreRunningTables t custom (made ++ write ∷ []) (pairs_by new.states.items))
      → IsPiece t custom made old → IsPiece t custom (made ++ write ∷ []) new
  IsPiece-add made write old new fit counted count more is = record {
    counted = counted ∙ rw (length_push made write, is.counted) (omega arith);
    fit = All-append Fit made (write ∷ []) is.fit (All-cons Fit write [] fit (All-nil Fit));
    count = count;
    running = λ few. more (is.running (omega (arith, is.counted)));
  }

  -- a piece of a part of some writes, and the writes that are left
  pub record IsPieceBut (all rest : List Write) (piece : Piece) : Type 0 where
    pub before : List Write
    pub parts : before ++ rest ≡ all
    pub is : IsPiece t custom before piece

  pub but_first : (all : List Write) (write : Write) (rest : List Write) (old new : Piece)
      → ((made : List Write) → IsPiece t custom made old → IsPiece t custom (made ++ write ∷ []) new) → IsPieceBut all (write ∷ rest) old → IsPieceBut all rest new
  but_first all write rest old new step so_far = record {
    before = so_far.before ++ write ∷ [];
    parts = append_assoc so_far.before (write ∷ []) rest ∙ so_far.parts;
    is = step so_far.before so_far.is;
  }

  pub but_none : (all : List Write) (piece : Piece) → IsPieceBut all [] piece → IsPiece t custom all piece
  but_none all piece whole = subst (λ made. IsPiece t custom made piece) (sym (append-nil whole.before) ∙ whole.parts) whole.is

  -- the writes of a later piece
  pub IsPiece-merge : (made more : List Write) (earlier later new : Piece) → IsCustom custom → new.writes ≡ min (earlier.writes + later.writes) (2 ^ 64 - 1) → length new.states.items ≡ length t.components
      → AreMergedStates t custom (pairs_by earlier.states.items) (pairs_by later.states.items) (pairs_by new.states.items)
      → IsPiece t custom made earlier → IsPiece t custom more later → IsPiece t custom (made ++ more) new
  IsPiece-merge made more earlier later new is counted count merge first second = record {
    counted = counted ∙ rw (length-append made more, first.counted, second.counted) (omega arith);
    fit = All-append Fit made more first.fit second.fit;
    count = count;
    running = λ few.
        let all : AreFewWrites (made ++ more) = record { fewer = rw (length-append made more) (omega (arith, first.counted, second.counted)); fit = All-append Fit made more first.fit second.fit } in
        AreRunningTables-merged t custom made more (pairs_by earlier.states.items) (pairs_by later.states.items) (pairs_by new.states.items) is all merge (first.running (omega arith)) (second.running (omega arith));
  }

  pub but_all : (made all left : List Write) (piece : Piece) → left ≡ all → IsPiece t custom made piece → IsPieceBut (made ++ all) left piece
  but_all made all left piece whole is = record { before = made; parts = ap (λ rest. made ++ rest) whole; is = is }

use Rattle.std.proofs.Common.{◌≡◌, ◌+◌, ◌++◌, ◌∷◌, [], ◌∙◌, ap, sym, arith, length, get_or}
use Rattle.std.proofs.lemmas.List.{length-map, length_push, get_or-map}
use Rattle.std.specs.List.{AllZip, filter_map, range_with_len}
use Rattle.tree_model.specs.Inside.{entries_of}
use Rattle.tree_model.specs.Tables.{IsTableOf, state_at}
use Rattle.fold_tables.specs.Pieces.{pairs_by}
use Rattle.fold_tables.proofs.Loops.{numbered_turn, numbered_end}
use Rattle.fold_tables.proofs.Running.{tables_more}
use Rattle.fold_tables.proofs.piece.Piece.tables.Goals as goal

pub component-requires : goal.component-requires
component-requires c =
    let z = c.zip-number-items.ensures in
    let turn = numbered_turn c.components.result c.args.self.states c.zip-number-items.result c.into_iter-number-iterator.result c.loop-number.number-iterator c.into_iter-number-iterator.ensures.into_iter_gives z.first z.second.0 z.second.1 c.loop-number.yielded c.loop-number.yielded_by c.next.result c.next.new.self (c.in-Some.number, c.in-Some.entries) c.in-Some.is c.next.ensures.steps in
    omega (arith, turn.0, turn.2, c.components.ensures)

-- the pairs are those of the component whose number comes next
pub loop-number-preserved : goal.loop-number-preserved
loop-number-preserved c = λ custom writes is.
    let z = c.zip-number-items.ensures in
    let turn = numbered_turn c.components.result c.args.self.states c.zip-number-items.result c.into_iter-number-iterator.result c.loop-number.number-iterator c.into_iter-number-iterator.ensures.into_iter_gives z.first z.second.0 z.second.1 c.loop-number.yielded c.loop-number.yielded_by c.next.result c.next.new.self (c.in-Some.number, c.in-Some.entries) c.in-Some.is c.next.ensures.steps in
    let all = pairs_by c.args.self.states.items in
    let pairs : entries_of c.in-Some.entries ≡ get_or all c.in-Some.number [] =
    ap entries_of (turn.3 c.in-Some.entries) ∙ sym (get_or-map entries_of c.args.self.states.items (length c.loop-number.yielded) c.in-Some.entries [] turn.1)
    ∙ ap (λ n. get_or all n []) (sym turn.2) in
    let before : AllZip (IsTableOf writes) (filter_map (state_at c.args.plan.now custom) (range_with_len 0 c.in-Some.number)) c.loop-number.tables = rw turn.2 (c.loop-number.invariant custom writes is) in
    let count : length (c.loop-number.yielded ++ (c.in-Some.number, c.in-Some.entries) ∷ []) ≡ c.in-Some.number + 1 = length_push _ _ ∙ ap (λ n. n + 1) (sym turn.2) in
    rw count
    (tables_more c.args.plan.now custom writes all c.in-Some.number c.component.result.now (entries_of c.in-Some.entries) c.loop-number.tables c.add_table.new.tables c.component.ensures.value pairs is (c.in_ok-add_table.ensures custom c.in-Some.number) before)

-- at the end each component has been
pub returns : goal.returns
returns c = λ custom writes is.
    let z = c.zip-number-items.ensures in
    let all = numbered_end c.components.result c.args.self.states c.zip-number-items.result c.into_iter-number-iterator.result c.loop-number.number-iterator c.into_iter-number-iterator.ensures.into_iter_gives z.first z.second.0 z.second.1 c.loop-number.yielded c.loop-number.yielded_by c.next.result c.next.new.self c.in-None.is c.next.ensures.steps in
    let maps : length c.args.self.states.items ≡ length c.args.plan.now.components =
    sym (length-map c.args.self.states.items entries_of) ∙ is.count in
    let count : length c.loop-number.yielded ≡ length c.args.plan.now.components = omega (arith, all, maps, c.components.ensures) in
    rw (← count) (c.loop-number.invariant custom writes is)

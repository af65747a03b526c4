-- Attempts that begin with the ids that are drawn for them.
use Rattle.std.proofs.Common.{◌≡◌, ℕ, zero, suc, ◌+◌, List, [], ◌∷◌, ◌++◌, length, map, take, drop, sum, refl, sym, ap, ◌∙◌, length-append, arith}
use Rattle.std.proofs.lemmas.List.Sums.{sum_by-cons}
use Rattle.event_worlds.specs.commit_order.Orders.{OpenFrom, Stand, ids_drawn, opening_of, stand_after}
use Rattle.event_worlds.specs.commit_turns.Account.{rows_at}
use Rattle.event_worlds.specs.Worlds.{first_needs, opened, stand_past}
use Rattle.event_worlds.specs.topology_plan.declared.parts.Origin.TheVariants as origin
use Rattle.event_worlds.specs.topology_plan.Topology.{Topology, tasks_in_all}
use Rattle.event_worlds.specs.tree_model.Trees.{kids}
use Rattle.event_worlds.specs.taken_records.Cuts.{Cut}
use Rattle.event_worlds.specs.tuple_account.Histories.{Opening}
use Rattle.event_worlds.specs.commit_turns.declared.wait.Wait.{Wait}

take_front : {X : Type 0} (n : ℕ) (xs ys : List X) → length xs ≡ n → take n (xs ++ ys) ≡ xs
take_front zero [] ys len = refl
take_front (suc n) [] ys len = absurd (omega arith)
take_front zero (x ∷ xs) ys len = absurd (omega arith)
take_front (suc n) (x ∷ xs) ys len = ap (λ zs. x ∷ zs) (take_front n xs ys (omega arith))

drop_front : {X : Type 0} (n : ℕ) (xs ys : List X) → length xs ≡ n → drop n (xs ++ ys) ≡ ys
drop_front zero [] ys len = refl
drop_front (suc n) [] ys len = absurd (omega arith)
drop_front zero (x ∷ xs) ys len = absurd (omega arith)
drop_front (suc n) (x ∷ xs) ys len = drop_front n xs ys (omega arith)

-- these openings are those of these attempts with their ids
pub record AreOf (t : Topology) (cut : Cut) (s : Stand) (begun : List Wait) (openings : List Opening) (end : Stand) : Type 0 where
  pub same : opened t cut s begun (ids_drawn openings) ≡ openings
  pub past : stand_past t cut openings s ≡ end
  pub many : length (ids_drawn openings) ≡ sum (map (first_needs t cut) begun)

module _ (t : Topology) (cut : Cut) where
  one_more : (s end : Stand) (w : Wait) (begun : List Wait) (o : Opening) (openings : List Opening) → s.outlet.topology ≡ t → s.outlet.from ≡ origin.Spout
      → o ≡ opening_of cut s.outlet (tasks_in_all t) s.given w o.begun.ids
      → length o.begun.ids ≡ length (kids s.outlet.topology s.outlet.from o.begun.rows)
      → AreOf t cut (stand_after o s) begun openings end → AreOf t cut s (w ∷ begun) (o ∷ openings) end
  one_more s end w begun o openings topology from is len rest =
      let n = first_needs t cut w in
      let rows : o.begun.rows ≡ rows_at cut w.spans = ap (λ (p : Opening). p.begun.rows) is in
      let needs : length o.begun.ids ≡ n = len ∙ (λ i. length (kids (topology i) (from i) (rows i))) in
      let at : List ℕ → Opening = λ (ids : List ℕ). opening_of cut s.outlet (tasks_in_all t) s.given w ids in
      record {
        same =
            (λ i. at (take_front n o.begun.ids (ids_drawn openings) needs i) ∷ opened t cut (stand_after (at (take_front n o.begun.ids (ids_drawn openings) needs i)) s) begun (drop_front n o.begun.ids (ids_drawn openings) needs i))
            ∙ (λ i. sym is i ∷ opened t cut (stand_after (sym is i) s) begun (ids_drawn openings))
            ∙ ap (λ ps. o ∷ ps) rest.same;
        past = rest.past;
        many =
            length-append o.begun.ids (ids_drawn openings) ∙ (λ i. needs i + rest.many i)
            ∙ sym (sum_by-cons (λ (k : ℕ). k) n (map (first_needs t cut) begun));
      }

  pub openings_are : (begun : List Wait) (openings : List Opening) (s end : Stand) → s.outlet.topology ≡ t → s.outlet.from ≡ origin.Spout → OpenFrom cut (tasks_in_all t) s begun openings end
      → AreOf t cut s begun openings end
  openings_are [] [] s end topology from opens = record { same = refl; past = sym opens; many = refl }
  openings_are [] (o ∷ openings) s end topology from opens = absurd opens
  openings_are (w ∷ begun) [] s end topology from opens = absurd opens
  openings_are (w ∷ begun) (o ∷ openings) s end topology from opens =
      one_more s end w begun o openings topology from opens.0 opens.1 (openings_are begun openings (stand_after o s) end topology from opens.2)

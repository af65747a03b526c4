-- The ids of messages are words of sources, each in one message.
use Rattle.std.proofs.Common.{◌≡◌, ◌<◌, ◌≤◌, ℕ, suc, ◌^◌, Option, None, Some, List, [], ◌∷◌, length, map, flat_map, sym, refl, ap, subst, ◌∙◌, arith}
use Rattle.std.specs.List.{AllByRecursion}
use Rattle.tree_model.specs.bolt_ops.RowOp.{Custom}
use Rattle.tree_model.specs.counted_items.Weights.{weigh, Within}
use Rattle.tree_model.proofs.counted_items.Each.{each-append, each-flat_map, each-map, each-to_map, each-both}
use Rattle.tree_model.proofs.counted_items.Equality.{each-within}
use Rattle.tree_model.proofs.counted_items.Weighing.{weigh-map, weigh-flat_map}
use Rattle.tree_model.specs.storm_values.declared.value.Root.{Root}
use Rattle.tree_model.specs.storm_values.declared.value.Value.{Value}
use Rattle.tree_model.specs.topology_plan.declared.parts.Origin.TheVariants as origin
use Rattle.tree_model.specs.topology_plan.Topology.{Topology}
use Rattle.tree_model.specs.tuple_tickets.Tickets.{made_by}
use Rattle.tree_model.specs.tuple_tickets.Trees.{Course, goes, fails, mute}
use Rattle.tree_model.specs.declared.messages.AckMsg.{AckMsg}
use Rattle.tree_model.specs.declared.messages.AckMsg.TheVariants as msg
use Rattle.tree_model.specs.declared.messages.Tuple.{Tuple}
use Rattle.tree_model.specs.Trees.{Node, kids, kids_of}
use Rattle.tuple_account.specs.Accounts.{IsNode, issued_notes}
use Rattle.tuple_account.specs.Issued.{Begun, Run, node_of, tuples_from, edges_of, first_tuples, init_of, course_of_run, children_of, notes_by, notes_of}
use Rattle.tuple_account.proofs.Codes.{msg_code}
use Rattle.tuple_account.proofs.Sound as sound
use Rattle.tuple_account.specs.Drawn.{IsDrawn, IsBelow, AreDrawn}
use Rattle.tuple_account.specs.Histories.{Opening, Execution, Receipt, Told, History, IsTaskOf, IsOpening, IsExecution, opening_spans, execution_spans, drawn_in}
use Rattle.tuple_account.specs.Moves.{Station, Reached, AreRows, HasDrawn, account_of}
use Rattle.tuple_account.specs.Places.{before, spans, HasWords, ids_of, covers}
use Rattle.tuple_account.proofs.Placing.{before-le, span-ends, Shown, shown, ended, span-shown, words-shown}
use Rattle.tuple_account.proofs.Reading.{account, notes_are, met_issued, held_met}
use Rattle.tuple_account.proofs.Routing.{runs_routed}

-- ---- ids of tuples

pub ids_are : (root : Root) (path : List ℕ) (j : ℕ) (nodes : List Node) (ids : List ℕ) → length ids ≡ length nodes → ids_of (edges_of (tuples_from root path j nodes ids)) ≡ ids
ids_are root path j [] [] same = refl
ids_are root path j [] (id ∷ ids) same = absurd (omega arith)
ids_are root path j (node ∷ nodes) [] same = absurd (omega arith)
ids_are root path j (node ∷ nodes) (id ∷ ids) same = ap (λ (xs : List ℕ). id ∷ xs) (ids_are root path (suc j) nodes ids (omega arith))

pub as_many_edges : (root : Root) (path : List ℕ) (j : ℕ) (nodes : List Node) (ids : List ℕ) → length ids ≡ length nodes → length (edges_of (tuples_from root path j nodes ids)) ≡ length ids
as_many_edges root path j [] [] same = refl
as_many_edges root path j [] (id ∷ ids) same = absurd (omega arith)
as_many_edges root path j (node ∷ nodes) [] same = absurd (omega arith)
as_many_edges root path j (node ∷ nodes) (id ∷ ids) same = ap suc (as_many_edges root path (suc j) nodes ids (omega arith))

abbrev node_or : Node → Option Node → Node
node_or n None = n
node_or n (Some m) = m

same_node : (a c : Node) → Some a ≡ Some c → a ≡ c
same_node a c is = ap (node_or a) is

module _ (t : Topology) (custom : Custom) (rows_of : Root → List (List Value)) (words : ℕ → ℕ → ℕ) where
  -- ---- an init

  opening_edges : (o : Opening) → IsOpening t o → length (edges_of (first_tuples t o.begun)) ≡ length o.begun.ids
  opening_edges o is = as_many_edges o.begun.root [] 0 (kids t origin.Spout o.begun.rows) o.begun.ids is.ids

  opening_covers : (o : Opening) (s j : ℕ) → IsOpening t o → Shown o.begun.at (length o.begun.ids) → covers s j (init_of t o.begun) ≡ opening_spans s j o
  opening_covers o s j is seen =
      ap (λ (k : ℕ). spans o.begun.source (ended o.begun.at) k s j) (opening_edges o is)
      ∙ span-shown o.begun.source o.begun.at (length o.begun.ids) s j seen

  opening_drawn : (o : Opening) → IsOpening t o → Shown o.begun.at (length o.begun.ids) → HasWords words o.begun.source o.begun.at o.begun.ids → IsDrawn t custom rows_of words (init_of t o.begun)
  opening_drawn o is seen has = (
    subst (HasWords words o.begun.source (ended o.begun.at)) (sym (ids_are o.begun.root [] 0 (kids t origin.Spout o.begun.rows) o.begun.ids is.ids)) (words-shown words o.begun.source o.begun.at o.begun.ids seen has),
    is.source,
  )

  -- ---- an execution

  abbrev children_by : Run → Course → List Tuple
  children_by u c = made_by c (tuples_from u.tuple.root u.tuple.edge.path 0 (kids_of t custom (node_of u.tuple)) u.ids)

  child_size : (e : Execution) → IsExecution t custom e → course_of_run t custom e.run ≡ goes → length e.run.ids ≡ length (kids_of t custom (node_of e.run.tuple))
  child_size e is going = is.ids ∙ ap (λ (c : Course). length (made_by c (kids_of t custom (node_of e.run.tuple)))) going

  child_edges : (e : Execution) → IsExecution t custom e → course_of_run t custom e.run ≡ goes → length (edges_of (children_of t custom e.run)) ≡ length e.run.ids
  child_edges e is going =
      ap (λ (c : Course). length (edges_of (children_by e.run c))) going
      ∙ as_many_edges e.run.tuple.root e.run.tuple.edge.path 0 (kids_of t custom (node_of e.run.tuple)) e.run.ids (child_size e is going)

  child_ids : (e : Execution) → IsExecution t custom e → course_of_run t custom e.run ≡ goes → ids_of (edges_of (children_of t custom e.run)) ≡ e.run.ids
  child_ids e is going =
      ap (λ (c : Course). ids_of (edges_of (children_by e.run c))) going
      ∙ ids_are e.run.tuple.root e.run.tuple.edge.path 0 (kids_of t custom (node_of e.run.tuple)) e.run.ids (child_size e is going)

  execution_covers : (e : Execution) (s j : ℕ) → IsExecution t custom e → Shown e.run.at (length e.run.ids) → weigh (covers s j) (notes_of t custom e.run) ≤ execution_spans s j e
  execution_covers e s j is seen = cases (course_of_run t custom e.run) refl
    where
      cases : (c : Course) → course_of_run t custom e.run ≡ c → weigh (covers s j) (notes_by t custom e.run c) ≤ execution_spans s j e
      cases goes going =
          let k : spans e.run.task (ended e.run.at) (length (edges_of (children_of t custom e.run))) s j ≡ spans e.run.task (ended e.run.at) (length e.run.ids) s j = ap (λ (k : ℕ). spans e.run.task (ended e.run.at) k s j) (child_edges e is going) in
          let w = span-shown e.run.task e.run.at (length e.run.ids) s j seen in omega arith
      cases fails going = omega arith
      cases mute going = omega arith

  execution_drawn : (e : Execution) → IsExecution t custom e → IsTaskOf t e.run.tuple.component e.run.task → IsNode t custom rows_of e.run.tuple → Shown e.run.at (length e.run.ids) → HasWords words e.run.task e.run.at e.run.ids
      → AllByRecursion (IsDrawn t custom rows_of words) (notes_of t custom e.run)
  execution_drawn e is task node seen has = cases (course_of_run t custom e.run) refl
    where
      cases : (c : Course) → course_of_run t custom e.run ≡ c → AllByRecursion (IsDrawn t custom rows_of words) (notes_by t custom e.run c)
      cases goes going = (
        (
          subst (HasWords words e.run.task (ended e.run.at)) (sym (child_ids e is going)) (words-shown words e.run.task e.run.at e.run.ids seen has),
          λ n there. subst (λ (m : Node). IsTaskOf t m.component e.run.task) (same_node (node_of e.run.tuple) n (sym node ∙ there)) task,
        ),
        tt,
      )
      cases fails going = (tt, tt)
      cases mute going = tt

  -- ---- all of them

  module _ (counts : ℕ → ℕ) (few : (s : ℕ) → counts s < 2 ^ 64) where
    openings_once : (os : List Opening) → AllByRecursion (IsOpening t) os → ((s j : ℕ) → weigh (opening_spans s j) os ≤ before (counts s) j) → (s j : ℕ) → weigh (λ (o : Opening). covers s j (init_of t o.begun)) os ≤ weigh (opening_spans s j) os
    openings_once [] all within s j = omega arith
    openings_once (o ∷ os) all within s j =
        let rest = openings_once os all.1 (λ s j. let w = within s j in omega arith) s j in
        let seen = shown o.begun.source o.begun.at (length o.begun.ids) (counts o.begun.source) (few o.begun.source) (λ j. let w = within o.begun.source j in omega arith) in
        let a = opening_covers o s j all.0 seen in omega arith

    executions_once : (es : List Execution) → AllByRecursion (IsExecution t custom) es → ((s j : ℕ) → weigh (execution_spans s j) es ≤ before (counts s) j) → (s j : ℕ) → weigh (λ (e : Execution). weigh (covers s j) (notes_of t custom e.run)) es ≤ weigh (execution_spans s j) es
    executions_once [] all within s j = omega arith
    executions_once (e ∷ es) all within s j =
        let rest = executions_once es all.1 (λ s j. let w = within s j in omega arith) s j in
        let seen = shown e.run.task e.run.at (length e.run.ids) (counts e.run.task) (few e.run.task) (λ j. let w = within e.run.task j in omega arith) in
        let a = execution_covers e s j all.0 seen in omega arith

    openings_drawn : (os : List Opening) → AllByRecursion (IsOpening t) os → AllByRecursion (λ (o : Opening). HasWords words o.begun.source o.begun.at o.begun.ids) os → ((s j : ℕ) → weigh (opening_spans s j) os ≤ before (counts s) j)
        → AllByRecursion (λ (o : Opening). IsDrawn t custom rows_of words (init_of t o.begun)) os
    openings_drawn [] all has within = tt
    openings_drawn (o ∷ os) all has within = (
      opening_drawn o all.0 (shown o.begun.source o.begun.at (length o.begun.ids) (counts o.begun.source) (few o.begun.source) (λ j. let w = within o.begun.source j in omega arith)) has.0,
      openings_drawn os all.1 has.1 (λ s j. let w = within s j in omega arith),
    )

    abbrev Works : Execution → Type 0
    Works e = IsTaskOf t e.run.tuple.component e.run.task × IsNode t custom rows_of e.run.tuple

    executions_drawn : (es : List Execution) → AllByRecursion (IsExecution t custom) es → AllByRecursion Works es → AllByRecursion (λ (e : Execution). HasWords words e.run.task e.run.at e.run.ids) es → ((s j : ℕ) → weigh (execution_spans s j) es ≤ before (counts s) j)
        → AllByRecursion (λ (e : Execution). AllByRecursion (IsDrawn t custom rows_of words) (notes_of t custom e.run)) es
    executions_drawn [] all works has within = tt
    executions_drawn (e ∷ es) all works has within = (
      execution_drawn e all.0 works.0.0 works.0.1 (shown e.run.task e.run.at (length e.run.ids) (counts e.run.task) (few e.run.task) (λ j. let w = within e.run.task j in omega arith)) has.0,
      executions_drawn es all.1 works.1 has.1 (λ s j. let w = within s j in omega arith),
    )

-- a message whose words were given ends among them
below_of : (counts : ℕ → ℕ) (limit : ℕ) → ((s : ℕ) → counts s ≤ limit) → (m : AckMsg) → ((s j : ℕ) → covers s j m ≤ before (counts s) j) → IsBelow limit m
below_of counts limit few (msg.Init m) within = λ some. let e = span-ends m.draw.source m.draw.first (length m.edges) (counts m.draw.source) some (within m.draw.source) in let f = few m.draw.source in omega arith
below_of counts limit few (msg.Done m) within = λ some. let e = span-ends m.draw.source m.draw.first (length m.produced) (counts m.draw.source) some (within m.draw.source) in let f = few m.draw.source in omega arith
below_of counts limit few (msg.Failed m) within = tt

all_below : (counts : ℕ → ℕ) (limit : ℕ) → ((s : ℕ) → counts s ≤ limit) → (list : List AckMsg) → ((s j : ℕ) → weigh (covers s j) list ≤ before (counts s) j) → AllByRecursion (IsBelow limit) list
all_below counts limit few [] within = tt
all_below counts limit few (m ∷ ms) within = (below_of counts limit few m (λ s j. let w = within s j in omega arith), all_below counts limit few ms (λ s j. let w = within s j in omega arith))

module _ (t : Topology) (custom : Custom) (h : History) (b : Station) (reached : Reached t custom h b) (rows_of : Root → List (List Value)) (rows_are : AreRows rows_of h.begun) (counts : ℕ → ℕ) (given : (s j : ℕ) → b.given s j ≡ before (counts s) j) (limit : ℕ) (few : (s : ℕ) → counts s ≤ limit) (small : limit < 2 ^ 64) where
  few_words : (s : ℕ) → counts s < 2 ^ 64
  few_words s = let f = few s in omega arith

  drawn : (s j : ℕ) → drawn_in s j h ≡ before (counts s) j
  drawn s j = let d = reached.moves.draws s j in let g = given s j in omega arith

  abbrev notes : List AckMsg
  notes = issued_notes t custom (account_of h b)

  notes_once : (s j : ℕ) → weigh (covers s j) notes ≤ before (counts s) j
  notes_once s j =
      let n = notes_are t custom h b reached (covers s j) in
      let o = openings_once t custom rows_of (λ s j. 0) counts few_words h.begun reached.moves.well.begun (λ s j. let d = drawn s j in omega arith) s j in
      let e = executions_once t custom rows_of (λ s j. 0) counts few_words h.runs reached.moves.well.runs (λ s j. let d = drawn s j in omega arith) s j in
      let d = drawn s j in omega arith

  used_nodes : AllByRecursion (λ (e : Execution). IsNode t custom rows_of e.run.tuple) h.runs
  used_nodes = each-map (λ (u : Run). IsNode t custom rows_of u.tuple) (λ (e : Execution). e.run) h.runs (sound.used_nodes t custom rows_of (account_of h b) (account t custom h b reached rows_of rows_are))

  notes_drawn : (words : ℕ → ℕ → ℕ) → HasDrawn words h → AllByRecursion (IsDrawn t custom rows_of words) notes
  notes_drawn words has =
      each-append (IsDrawn t custom rows_of words) (map (init_of t) (map (λ (o : Opening). o.begun) h.begun)) (flat_map (notes_of t custom) (map (λ (e : Execution). e.run) h.runs))
      (each-to_map (IsDrawn t custom rows_of words) (init_of t) (map (λ (o : Opening). o.begun) h.begun)
      (each-to_map (λ (c : Begun). IsDrawn t custom rows_of words (init_of t c)) (λ (o : Opening). o.begun) h.begun
      (openings_drawn t custom rows_of words counts few_words h.begun reached.moves.well.begun has.of_begun (λ s j. let d = drawn s j in omega arith))))
      (each-flat_map (IsDrawn t custom rows_of words) (notes_of t custom) (map (λ (e : Execution). e.run) h.runs)
      (each-to_map (λ (u : Run). AllByRecursion (IsDrawn t custom rows_of words) (notes_of t custom u)) (λ (e : Execution). e.run) h.runs
      (executions_drawn t custom rows_of words counts few_words h.runs reached.moves.well.runs
      (each-both (λ (e : Execution). IsTaskOf t e.run.tuple.component e.run.task) (λ (e : Execution). IsNode t custom rows_of e.run.tuple) h.runs (runs_routed t custom h b reached) used_nodes)
      has.of_runs (λ s j. let d = drawn s j in omega arith))))

  module _ (list : List AckMsg) (met : Within list (map (λ (x : Receipt). x.message) h.met)) where
    within_notes : Within list notes
    within_notes g = let w = met g in let m = weigh-map g (λ (x : Receipt). x.message) h.met in let i = met_issued t custom h b reached g in omega arith

    list_once : (s j : ℕ) → weigh (covers s j) list ≤ before (counts s) j
    list_once s j = let w = within_notes (covers s j) in let n = notes_once s j in omega arith

    pub list_drawn : (words : ℕ → ℕ → ℕ) → HasDrawn words h → AreDrawn t custom rows_of words limit list
    list_drawn words has = record {
      drawn = each-within msg_code (IsDrawn t custom rows_of words) list notes within_notes (notes_drawn words has);
      once = λ s j. let l = list_once s j in let o = before-le (counts s) j in omega arith;
      below = all_below counts limit few list list_once;
    }

-- the lists of all that was told were met
pub told_met : (t : Topology) (custom : Custom) (h : History) (b : Station) → Reached t custom h b → Within (flat_map (λ (x : Told). x.list) h.told) (map (λ (x : Receipt). x.message) h.met)
told_met t custom h b reached g =
    let e = weigh-flat_map g (λ (x : Told). x.list) h.told in
    let m = weigh-map g (λ (x : Receipt). x.message) h.met in
    let k = held_met t custom h b reached (λ r. g) in omega arith

-- What one executed tuple adds to a walk.
use Rattle.std.proofs.Common.{◌≡◌, ◌≢◌, ◌<◌, ◌≤◌, ◌+◌, ◌-◌, ◌^◌, ◌==◌, ◌&&◌, ℕ, suc, min, Bool, true, false, cond, true≢false, List, [], ◌∷◌, ◌++◌, map, fold, length, Option, Some, None, slice_get, refl, sym, ap, subst, ◌∙◌, append-nil, append_assoc, arith}
use Rattle.std.proofs.lemmas.Cmp.{nat_list_eq_equiv}
use Rattle.std.proofs.lemmas.List.{map-append}
use Rattle.std.proofs.lemmas.List.Concat.{flat_map-append}
use Rattle.std.proofs.lemmas.List.Sums.{fold-append}
use Rattle.std.proofs.lemmas.Option.{none-some, same_Some}
use Rattle.std.specs.List.{AllByRecursion, flat_map}
use Rattle.std.specs.Option.{option_map_or, option_and_then, option_to_list}
use Rattle.std.specs.Str.{bytes_eq}
use Rattle.tree_model.proofs.counted_items.Each.{each-append}
use Rattle.tree_model.proofs.counted_items.Weighing.{weigh-append}
use Rattle.shared_ledger.specs.declared.rule.Call.{Call}
use Rattle.state_tallies.specs.Tallies.{at_key, capped, count_of}
use Rattle.tree_model.specs.bolt_ops.RowOp.{Custom}
use Rattle.tree_model.specs.storm_values.declared.value.Root.{Root}
use Rattle.tree_model.specs.storm_values.declared.value.Value.{Value}
use Rattle.tree_model.specs.topology_plan.declared.parts.Body.{Body}
use Rattle.tree_model.specs.topology_plan.declared.parts.Body.TheVariants.{Bolt, State}
use Rattle.tree_model.specs.topology_plan.declared.parts.Component.{Component}
use Rattle.tree_model.specs.topology_plan.declared.parts.Origin.TheVariants as origin
use Rattle.tree_model.specs.topology_plan.Topology.{Topology}
use Rattle.tree_model.specs.tuple_tickets.declared.edge.Edge.{Edge}
use Rattle.tree_model.specs.tuple_tickets.Edges.{xor_ids}
use Rattle.tree_model.specs.tuple_tickets.Tickets.{made_by}
use Rattle.tree_model.specs.tuple_tickets.Trees.{Course, goes, fails, mute}
use Rattle.tree_model.specs.declared.messages.AckMsg.{AckMsg}
use Rattle.tree_model.specs.declared.messages.AckMsg.TheVariants as msg
use Rattle.tree_model.specs.declared.messages.Tuple.{Tuple}
use Rattle.tree_model.specs.declared.write.Write.{Write}
use Rattle.tree_model.specs.Courses.{course_at, course_by}
use Rattle.tree_model.specs.Trees.{Node, kids, kids_by, kids_of, write_by, write_of}
use Rattle.tracked_trees.specs.Tries.{tallied, tallied_by}
use Rattle.tuple_account.specs.Accounts.{IsRun}
use Rattle.tuple_account.specs.Issued.{Begun, Run, children_of, draw_from, edges_of, first_tuples, node_of, notes_by, notes_of, tuples_from}
use Rattle.window_account.specs.Calls.{IsFit, IsFitNode, call_of, noted}
use Rattle.window_account.specs.Noted.{root_at}
use Rattle.window_account.proofs.Keeping.{noted_all_length}
use Rattle.track_window.specs.declared.job.Found.{Found}
use Rattle.track_window.specs.declared.job.Found.TheVariants as found
use Rattle.track_window.specs.declared.job.Job.{Job}
use Rattle.track_window.specs.declared.walk.Walk.{Walk}
use Rattle.track_window.specs.Acts.{call_of_act}
use Rattle.track_window.specs.Jobs.{IsFound, IsRooted, IsSafe, tuples_in}
use Rattle.track_window.specs.Making.{Makes}
use Rattle.track_window.specs.Walks.{Begins, Steps, Told}

module _ (t : Topology) (custom : Custom) where
  -- ---- a node that does not go on writes nothing

  silent_body : (component tasks attempt : ℕ) (row : List Value) (body : Body) → course_by custom body row attempt ≢ goes → write_by component tasks body row ≡ None
  silent_body component tasks attempt row (Bolt op) differ = refl
  silent_body component tasks attempt row (State spec) differ = absurd (differ refl)

  silent : (attempt : ℕ) (node : Node) → course_at t custom attempt node ≢ goes → write_of t node ≡ None
  silent attempt node differ = by (slice_get t.components node.component) differ
    where
      by : (o : Option Component) → option_map_or (λ (c : Component). course_by custom c.body node.row attempt) o mute ≢ goes → option_and_then (λ (c : Component). write_by node.component c.tasks c.body node.row) o ≡ None
      by None apart = refl
      by (Some c) apart = silent_body node.component c.tasks attempt node.row c.body apart

  one_list : {X : Type 0} (f : Run → List X) (u : Run) (xs : List X) → f u ≡ xs → flat_map f (u ∷ []) ≡ xs
  one_list f u xs is = append-nil (f u) ∙ is

  steps_one : (u : Run) (old new : Walk) (children : List Tuple) (told : List AckMsg) → children_of t custom u ≡ children → notes_of t custom u ≡ told → IsRun t custom u
      → tuples_in new.jobs.items ≡ tuples_in old.jobs.items ++ children → AllByRecursion (IsFit t) children
      → new.notes.items ≡ fold noted old.notes.items told → map call_of_act new.acts.items ≡ map call_of_act old.acts.items ++ map call_of told
      → ((state : ℕ) (key : List ℕ) → capped (count_of new.tallies state key) ≡ capped (count_of old.tallies state key + tallied t state key (node_of u.tuple)))
      → length new.tallies ≡ length old.tallies → Steps t custom (u.tuple ∷ []) old new
  steps_one u old new children told children_are told_are well jobs fit notes acts counts components = record {
    runs = u ∷ [];
    of_tuples = refl;
    well = (well, tt);
    jobs = jobs ∙ ap (λ (xs : List Tuple). tuples_in old.jobs.items ++ xs) (sym (one_list (children_of t custom) u children children_are));
    fit = subst (AllByRecursion (IsFit t)) (sym (one_list (children_of t custom) u children children_are)) fit;
    notes = notes ∙ ap (fold noted old.notes.items) (sym (one_list (notes_of t custom) u told told_are));
    acts = acts ∙ ap (λ (ms : List AckMsg). map call_of_act old.acts.items ++ map call_of ms) (sym (one_list (notes_of t custom) u told told_are));
    tallies = λ state key. let here = counts state key in omega (arith, here);
    components = components;
  }

  -- ---- mute and failed

  run_of : Tuple → Run
  run_of tuple = record { tuple = tuple; ids = []; task = 0; at = 0 }

  not_run : (u : Run) (c : Course) → course_at t custom u.tuple.root.attempt (node_of u.tuple) ≡ c → c ≢ goes → IsRun t custom u
  not_run u c is differ = λ going. absurd (differ (sym is ∙ going))

  fails_apart : fails ≢ goes
  fails_apart same = cc

  mute_apart : mute ≢ goes
  mute_apart same = cc

  none_tallied : (tuple : Tuple) (c : Course) → course_at t custom tuple.root.attempt (node_of tuple) ≡ c → c ≢ goes → (state : ℕ) (key : List ℕ) → tallied t state key (node_of tuple) ≡ 0
  none_tallied tuple c is differ state key = ap (tallied_by state key) (silent tuple.root.attempt (node_of tuple) (λ going. differ (sym is ∙ going)))

  pub steps_mute : (tuple : Tuple) (walk : Walk) → course_at t custom tuple.root.attempt (node_of tuple) ≡ mute → Steps t custom (tuple ∷ []) walk walk
  steps_mute tuple walk is =
      let u : Run = record { tuple = tuple; ids = []; task = 0; at = 0 } in
      steps_one u walk walk [] []
      (ap (λ (c : Course). made_by c (tuples_from tuple.root tuple.edge.path 0 (kids_of t custom (node_of tuple)) [])) is)
      (ap (notes_by t custom u) is) (not_run u mute is mute_apart)
      (sym (append-nil (tuples_in walk.jobs.items))) tt refl (sym (append-nil (map call_of_act walk.acts.items)))
      (λ state key. let none = none_tallied tuple mute is mute_apart state key in omega (arith, none)) refl

  pub steps_failed : (tuple : Tuple) (old new : Walk) → course_at t custom tuple.root.attempt (node_of tuple) ≡ fails → Told (msg.Failed (record { root = tuple.root; path = tuple.edge.path })) old new → Steps t custom (tuple ∷ []) old new
  steps_failed tuple old new is told =
      let u : Run = record { tuple = tuple; ids = []; task = 0; at = 0 } in
      steps_one u old new [] (msg.Failed (record { root = tuple.root; path = tuple.edge.path }) ∷ [])
      (ap (λ (c : Course). made_by c (tuples_from tuple.root tuple.edge.path 0 (kids_of t custom (node_of tuple)) [])) is)
      (ap (notes_by t custom u) is) (not_run u fails is fails_apart)
      (ap (λ jobs. tuples_in jobs.items) told.jobs ∙ sym (append-nil (tuples_in old.jobs.items))) tt told.notes told.acts
      (λ state key. let none = none_tallied tuple fails is fails_apart state key in let same = ap (λ ts. capped (count_of ts state key)) told.tallies in omega (arith, none, same))
      (ap length told.tallies)

  -- ---- a tuple that goes on

  -- its done, where these are its children
  done_is : (u : Run) (children : List Tuple) (writes : List Write) → course_at t custom u.tuple.root.attempt (node_of u.tuple) ≡ goes → children_of t custom u ≡ children → option_to_list (write_of t (node_of u.tuple)) ≡ writes
      → notes_of t custom u ≡ msg.Done (record { root = u.tuple.root; consumed = u.tuple.edge; produced = edges_of children; draw = draw_from u.task u.at; writes = writes }) ∷ []
  done_is u children writes is kids wrote =
      ap (notes_by t custom u) is
      ∙ (λ i. msg.Done (record { root = u.tuple.root; consumed = u.tuple.edge; produced = edges_of (kids i); draw = draw_from u.task u.at; writes = wrote i }) ∷ [])

  turned_count : (a b c : Bool) → b ≡ c → ◌≡◌ {A = ℕ} (cond a (cond b 1 0) 0) (cond (a && c) 1 0)
  turned_count false b c same = refl
  turned_count true true true same = refl
  turned_count true false false same = refl
  turned_count true true false same = absurd (true≢false same)
  turned_count true false true same = absurd (true≢false (sym same))

  same_count : (write : Write) (state : ℕ) (key : List ℕ) → at_key write.state write.key 1 state key ≡ tallied_by state key (Some write)
  same_count write state key = turned_count (write.state == state) (bytes_eq key write.key) (bytes_eq write.key key) (nat_list_eq_equiv.symm key write.key)

  pub steps_wrote : (tuple : Tuple) (write : Write) (given : ℕ) (old mid new : Walk) → course_at t custom tuple.root.attempt (node_of tuple) ≡ goes → write_of t (node_of tuple) ≡ Some write → kids_of t custom (node_of tuple) ≡ []
      → Told (msg.Done (record { root = tuple.root; consumed = tuple.edge; produced = []; draw = draw_from 0 given; writes = write ∷ [] })) mid new
      → mid.jobs ≡ old.jobs → mid.notes ≡ old.notes → mid.acts ≡ old.acts → length mid.tallies ≡ length old.tallies
      → ((state : ℕ) (key : List ℕ) → count_of mid.tallies state key ≡ capped (count_of old.tallies state key + at_key write.state write.key 1 state key))
      → Steps t custom (tuple ∷ []) old new
  steps_wrote tuple write given old mid new is wrote none told jobs notes acts long counts =
      let u : Run = record { tuple = tuple; ids = []; task = 0; at = given } in
      let children : children_of t custom u ≡ [] =
      ap (λ (c : Course). made_by c (tuples_from tuple.root tuple.edge.path 0 (kids_of t custom (node_of tuple)) [])) is ∙ ap (λ (ns : List Node). tuples_from tuple.root tuple.edge.path 0 ns []) none in
      steps_one u old new [] (msg.Done (record { root = tuple.root; consumed = tuple.edge; produced = []; draw = draw_from 0 given; writes = write ∷ [] }) ∷ []) children
      (done_is u [] (write ∷ []) is children (ap option_to_list wrote)) (λ going. sym (ap length none))
      (ap (λ js. tuples_in js.items) (told.jobs ∙ jobs) ∙ sym (append-nil (tuples_in old.jobs.items))) tt
      (told.notes ∙ ap (λ ns. noted ns.items (msg.Done (record { root = tuple.root; consumed = tuple.edge; produced = []; draw = draw_from 0 given; writes = write ∷ [] }))) notes)
      (told.acts ∙ ap (λ xs. map call_of_act xs.items ++ call_of (msg.Done (record { root = tuple.root; consumed = tuple.edge; produced = []; draw = draw_from 0 given; writes = write ∷ [] })) ∷ []) acts)
      (λ state key.
      let same = ap (λ ts. capped (count_of ts state key)) told.tallies in
      let one = counts state key in
      let count = same_count write state key in
      let its = ap (tallied_by state key) wrote in omega (arith, same, one, count, its))
      (ap length told.tallies ∙ long)

  pub steps_went : (tuple : Tuple) (nodes : List Node) (edges : List Edge) (given : ℕ) (old mid new : Walk) → course_at t custom tuple.root.attempt (node_of tuple) ≡ goes → write_of t (node_of tuple) ≡ None → kids_of t custom (node_of tuple) ≡ nodes
      → Makes t tuple.root tuple.edge.path nodes [] old.jobs.items edges mid.jobs.items
      → Told (msg.Done (record { root = tuple.root; consumed = tuple.edge; produced = edges; draw = draw_from 0 given; writes = [] })) mid new
      → mid.notes ≡ old.notes → mid.acts ≡ old.acts → mid.tallies ≡ old.tallies → Steps t custom (tuple ∷ []) old new
  steps_went tuple nodes edges given old mid new is wrote kids makes told notes acts tallies =
      let u : Run = record { tuple = tuple; ids = makes.ids; task = 0; at = given } in
      let made = tuples_from tuple.root tuple.edge.path 0 nodes makes.ids in
      let children : children_of t custom u ≡ made =
      ap (λ (c : Course). made_by c (tuples_from tuple.root tuple.edge.path 0 (kids_of t custom (node_of tuple)) makes.ids)) is ∙ ap (λ (ns : List Node). tuples_from tuple.root tuple.edge.path 0 ns makes.ids) kids in
      let done = λ (es : List Edge). msg.Done (record { root = tuple.root; consumed = tuple.edge; produced = es; draw = draw_from 0 given; writes = [] }) in
      let same : done edges ≡ done (edges_of made) = ap done makes.edges in
      steps_one u old new made (done (edges_of made) ∷ []) children
      (done_is u made [] is children (ap option_to_list wrote)) (λ going. makes.enough ∙ sym (ap length kids))
      (ap (λ js. tuples_in js.items) told.jobs ∙ makes.jobs) (fit_all nodes makes.ids 0 makes.fit)
      (told.notes ∙ ap (λ ns. noted ns.items (done edges)) notes ∙ ap (noted old.notes.items) same)
      (told.acts ∙ ap (λ xs. map call_of_act xs.items ++ call_of (done edges) ∷ []) acts ∙ ap (λ m. map call_of_act old.acts.items ++ call_of m ∷ []) same)
      (λ state key.
      let one = ap (λ ts. capped (count_of ts state key)) (told.tallies ∙ tallies) in
      let its = ap (tallied_by state key) wrote in omega (arith, one, its))
      (ap length (told.tallies ∙ tallies))
    where
      fit_all : (ns : List Node) (ids : List ℕ) (j : ℕ) → AllByRecursion (IsFitNode t) ns → AllByRecursion (IsFit t) (tuples_from tuple.root tuple.edge.path j ns ids)
      fit_all [] ids j all = tt
      fit_all (n ∷ ns) [] j all = tt
      fit_all (n ∷ ns) (id ∷ ids) j all = (all.0, fit_all ns ids (suc j) all.1)

  -- ---- none, and one after others

  pub steps_none : (walk : Walk) → Steps t custom [] walk walk
  steps_none walk = record {
    runs = [];
    of_tuples = refl;
    well = tt;
    jobs = sym (append-nil (tuples_in walk.jobs.items));
    fit = tt;
    notes = refl;
    acts = sym (append-nil (map call_of_act walk.acts.items));
    tallies = λ state key. omega arith;
    components = refl;
  }

  pub steps_then : (xs ys : List Tuple) (a b c : Walk) → Steps t custom xs a b → Steps t custom ys b c → Steps t custom (xs ++ ys) a c
  steps_then xs ys a b c first second =
      let kids = flat_map-append (children_of t custom) first.runs second.runs in
      let told = flat_map-append (notes_of t custom) first.runs second.runs in
      record {
        runs = first.runs ++ second.runs;
        of_tuples = map-append (λ (u : Run). u.tuple) first.runs second.runs ∙ (λ i. first.of_tuples i ++ second.of_tuples i);
        well = each-append (IsRun t custom) first.runs second.runs first.well second.well;
        jobs = second.jobs ∙ ap (λ (ts : List Tuple). ts ++ flat_map (children_of t custom) second.runs) first.jobs
            ∙ append_assoc (tuples_in a.jobs.items) (flat_map (children_of t custom) first.runs) (flat_map (children_of t custom) second.runs)
            ∙ ap (λ (ts : List Tuple). tuples_in a.jobs.items ++ ts) (sym kids);
        fit = subst (AllByRecursion (IsFit t)) (sym kids) (each-append (IsFit t) (flat_map (children_of t custom) first.runs) (flat_map (children_of t custom) second.runs) first.fit second.fit);
        notes = second.notes ∙ ap (λ (ls : List (List AckMsg)). fold noted ls (flat_map (notes_of t custom) second.runs)) first.notes
            ∙ sym (fold-append noted a.notes.items (flat_map (notes_of t custom) first.runs) (flat_map (notes_of t custom) second.runs)) ∙ ap (fold noted a.notes.items) (sym told);
        acts = second.acts ∙ ap (λ (cs : List Call). cs ++ map call_of (flat_map (notes_of t custom) second.runs)) first.acts
            ∙ append_assoc (map call_of_act a.acts.items) (map call_of (flat_map (notes_of t custom) first.runs)) (map call_of (flat_map (notes_of t custom) second.runs))
            ∙ ap (λ (cs : List Call). map call_of_act a.acts.items ++ cs) (sym (map-append call_of (flat_map (notes_of t custom) first.runs) (flat_map (notes_of t custom) second.runs)) ∙ ap (map call_of) (sym told));
        tallies = λ state key.
            let one = first.tallies state key in
            let two = second.tallies state key in
            let sums = weigh-append (λ (tuple : Tuple). tallied t state key (node_of tuple)) xs ys in omega (arith, one, two, sums);
        components = second.components ∙ first.components;
      }

  pub steps_count : (xs : List Tuple) (a b : Walk) → Steps t custom xs a b → length b.notes.items ≡ length a.notes.items
  steps_count xs a b steps = ap length steps.notes ∙ noted_all_length a.notes.items (flat_map (notes_of t custom) steps.runs)

  -- what was found is safe
  pub found_safe : (count : ℕ) (tuple : Tuple) (found : Found) → IsRooted count tuple → IsFit t tuple → IsFound t custom tuple found → IsSafe t count tuple found
  found_safe count tuple found.Waits rooted fit is = rooted
  found_safe count tuple found.NoMemory rooted fit is = rooted
  found_safe count tuple (found.Rows rows) rooted fit is = (rooted, is.3)
  found_safe count tuple (found.Wrote write) rooted fit is = (rooted, own_state (slice_get t.components tuple.component) is.1)
    where
      own_body : (tasks : ℕ) (body : Body) → write_by tuple.component tasks body tuple.row ≡ Some write → write.state ≡ tuple.component
      own_body tasks (Bolt op) same = absurd (none-some write same)
      own_body tasks (State spec) same = ap (λ (w : Write). w.state) (sym (same_Some _ write same))

      own_state : (o : Option Component) → option_and_then (λ (c : Component). write_by tuple.component c.tasks c.body tuple.row) o ≡ Some write → write.state < length t.components
      own_state None same = absurd (none-some write same)
      own_state (Some c) same = let state = own_body c.tasks c.body same in let there = fit.0 in omega (arith, state, there)
  found_safe count tuple found.Failed rooted fit is = rooted
  found_safe count tuple found.Mute rooted fit is = rooted

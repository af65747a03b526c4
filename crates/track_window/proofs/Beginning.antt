-- What a record that is begun adds to a walk.
use Rattle.std.proofs.Common.{◌≡◌, ◌≢◌, ◌<◌, ◌≤◌, ◌+◌, ◌-◌, ◌^◌, ◌==◌, ◌&&◌, ℕ, suc, min, Bool, true, false, cond, List, [], ◌∷◌, ◌++◌, map, fold, length, Option, Some, None, slice_get, refl, sym, ap, subst, ◌∙◌, append-nil, append_assoc, arith}
use Rattle.std.proofs.lemmas.Cmp.{nat_list_eq_equiv}
use Rattle.std.proofs.lemmas.List.{map-append}
use Rattle.std.proofs.lemmas.List.Concat.{flat_map-append}
use Rattle.std.proofs.lemmas.List.Sums.{fold-append}
use Rattle.std.proofs.lemmas.Option.{none-some, same_Some}
use Rattle.std.specs.List.{AllByRecursion, flat_map}
use Rattle.std.specs.Option.{option_map_or, option_and_then, option_to_list}
use Rattle.std.specs.Str.{bytes_eq}
use Rattle.tree_model.proofs.counted_items.Each.{each-append}
use Rattle.tree_model.proofs.counted_items.Weighing.{weigh-append}
use Rattle.shared_ledger.specs.declared.rule.Call.{Call}
use Rattle.state_tallies.specs.Tallies.{at_key, capped, count_of}
use Rattle.tree_model.specs.bolt_ops.RowOp.{Custom}
use Rattle.tree_model.specs.storm_values.declared.value.Root.{Root}
use Rattle.tree_model.specs.storm_values.declared.value.Value.{Value}
use Rattle.tree_model.specs.topology_plan.declared.parts.Body.{Body}
use Rattle.tree_model.specs.topology_plan.declared.parts.Body.TheVariants.{Bolt, State}
use Rattle.tree_model.specs.topology_plan.declared.parts.Component.{Component}
use Rattle.tree_model.specs.topology_plan.declared.parts.Origin.TheVariants as origin
use Rattle.tree_model.specs.topology_plan.Topology.{Topology}
use Rattle.tree_model.specs.tuple_tickets.declared.edge.Edge.{Edge}
use Rattle.tree_model.specs.tuple_tickets.Edges.{xor_ids}
use Rattle.tree_model.specs.tuple_tickets.Tickets.{made_by}
use Rattle.tree_model.specs.tuple_tickets.Trees.{Course, goes, fails, mute}
use Rattle.tree_model.specs.declared.messages.AckMsg.{AckMsg}
use Rattle.tree_model.specs.declared.messages.AckMsg.TheVariants as msg
use Rattle.tree_model.specs.declared.messages.Tuple.{Tuple}
use Rattle.tree_model.specs.declared.write.Write.{Write}
use Rattle.tree_model.specs.Courses.{course_at, course_by}
use Rattle.tree_model.specs.Trees.{Node, kids, kids_by, kids_of, write_by, write_of}
use Rattle.tracked_trees.specs.Tries.{tallied, tallied_by}
use Rattle.tuple_account.specs.Accounts.{IsRun}
use Rattle.tuple_account.specs.Issued.{Begun, Run, children_of, draw_from, edges_of, first_tuples, node_of, notes_by, notes_of, tuples_from}
use Rattle.window_account.specs.Calls.{IsFit, IsFitNode, call_of, noted}
use Rattle.window_account.specs.Noted.{root_at}
use Rattle.window_account.proofs.Keeping.{noted_all_length}
use Rattle.track_window.specs.declared.job.Found.{Found}
use Rattle.track_window.specs.declared.job.Found.TheVariants as found
use Rattle.track_window.specs.declared.job.Job.{Job}
use Rattle.track_window.specs.declared.walk.Walk.{Walk}
use Rattle.track_window.specs.Acts.{call_of_act}
use Rattle.track_window.specs.Jobs.{IsFound, IsRooted, IsSafe, tuples_in}
use Rattle.track_window.specs.Making.{Makes}
use Rattle.track_window.specs.Walks.{Begins, Steps, Told}

pub begins_of : (t : Topology) (number attempt given word : ℕ) (row : List Value) (root : Root) (edges : List Edge) (old mid new : Walk) (jobs : List Job) → root ≡ root_at attempt number
    → Makes t root [] (kids_by t origin.Spout row) [] old.jobs.items edges jobs → mid.jobs.items ≡ jobs → mid.notes ≡ old.notes → mid.acts ≡ old.acts → mid.tallies ≡ old.tallies
    → new.notes.items ≡ noted mid.notes.items (msg.Init (record { root = root; edges = edges; draw = draw_from 0 given })) → new.jobs ≡ mid.jobs → new.acts ≡ mid.acts → new.tallies ≡ mid.tallies
    → word ≡ xor_ids edges → Begins t number attempt row word old new
begins_of t number attempt given word row root edges old mid new jobs is makes jobs_are notes acts tallies noted_now jobs_now acts_now tallies_now word_is =
    let b : Begun = record { root = root; rows = row ∷ []; ids = makes.ids; source = 0; at = given } in
    let nodes : kids t origin.Spout (row ∷ []) ≡ kids_by t origin.Spout row = append-nil (kids_by t origin.Spout row) in
    let firsts : first_tuples t b ≡ tuples_from root [] 0 (kids_by t origin.Spout row) makes.ids = ap (λ (ns : List Node). tuples_from root [] 0 ns makes.ids) nodes in
    let edges_are : edges ≡ edges_of (first_tuples t b) = makes.edges ∙ ap edges_of (sym firsts) in
    record {
      begun = b;
      root = is;
      rows = refl;
      enough = makes.enough ∙ sym (ap length nodes);
      jobs = ap (λ js. tuples_in js.items) jobs_now ∙ ap tuples_in jobs_are ∙ makes.jobs ∙ ap (λ (ts : List Tuple). tuples_in old.jobs.items ++ ts) (sym firsts);
      fit = subst (AllByRecursion (IsFit t)) (sym firsts) (fit_nodes root [] (kids_by t origin.Spout row) makes.ids 0 makes.fit);
      notes = noted_now ∙ ap (λ ns. noted ns.items (msg.Init (record { root = root; edges = edges; draw = draw_from 0 given }))) notes
          ∙ ap (λ (es : List Edge). noted old.notes.items (msg.Init (record { root = root; edges = es; draw = draw_from 0 given }))) edges_are;
      word_is = word_is ∙ ap xor_ids edges_are;
      tallies = tallies_now ∙ tallies;
      acts = acts_now ∙ acts;
    }
  where
    fit_nodes : (r : Root) (path : List ℕ) (ns : List Node) (ids : List ℕ) (j : ℕ) → AllByRecursion (IsFitNode t) ns → AllByRecursion (IsFit t) (tuples_from r path j ns ids)
    fit_nodes r path [] ids j all = tt
    fit_nodes r path (n ∷ ns) [] j all = tt
    fit_nodes r path (n ∷ ns) (id ∷ ids) j all = (all.0, fit_nodes r path ns ids (suc j) all.1)

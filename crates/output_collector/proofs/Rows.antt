-- One row's way along the lanes of a source, one after another.
use Rattle.std.proofs.Common.{◌≡◌, ℕ, zero, suc, ◌+◌, ◌<◌, List, [], ◌∷◌, ◌++◌, length, map, replicate, drop, Some, slice_get, slice_set, refl, sym, ap, subst, ◌∙◌, append-nil, drop_of_length-le, add-one, arith}
use Rattle.std.specs.List.{flat_map}
use Rattle.std.proofs.lemmas.List.{length-map}
use Rattle.std.proofs.lemmas.Option.{none-some, same_Some}
use Rattle.tuple_account.specs.storm_values.declared.value.Root.{Root}
use Rattle.tuple_account.specs.storm_values.declared.value.Value.{Value}
use Rattle.tuple_account.specs.topology_plan.declared.parts.Sub.{Sub}
use Rattle.tuple_account.specs.topology_plan.Topology.{Topology, subs_of}
use Rattle.groupings.specs.declared.lane.Lane.{Lane}
use Rattle.groupings.specs.Allowed.{told}
use Rattle.groupings.specs.Routing.{moved, targets}
use Rattle.tuple_account.specs.tree_model.declared.messages.Parcel.{Parcel}
use Rattle.tuple_account.specs.tree_model.Trees.{Node, kids, kids_by, copies_at}
use Rattle.output_collector.specs.declared.outlet.Route.{Route}
use Rattle.output_collector.specs.Outlets.{Outlet, IsLaneOf, HasItsLanes, after_rows, tasks_for_row, tasks_for}
use Rattle.output_collector.specs.Sending.{Sent, Sends, nodes_at, route_along}
use Rattle.output_collector.proofs.Lanes.{length-told, length-subs, length-tasks_for_row, at_place, lane_at}
use Rattle.output_collector.proofs.Sending.{Goes, Goes-end, Goes-then, IsSent, Sends-none, sent_whole}

-- ---- lanes of which the first so many have moved

abbrev pub routed : ℕ → List Lane → List Lane
routed zero lanes = lanes
routed (suc i) [] = []
routed (suc i) (lane ∷ lanes) = moved lane ∷ routed i lanes

routed_get : (lanes : List Lane) (i : ℕ) (lane : Lane) → slice_get lanes i ≡ Some lane → slice_get (routed i lanes) i ≡ Some lane
routed_get [] i lane there = absurd (none-some lane there)
routed_get (l ∷ lanes) zero lane there = there
routed_get (l ∷ lanes) (suc i) lane there = routed_get lanes i lane there

routed_set : (lanes : List Lane) (i : ℕ) (lane : Lane) → slice_get lanes i ≡ Some lane → slice_set (routed i lanes) i (moved lane) ≡ routed (suc i) lanes
routed_set [] i lane there = absurd (none-some lane there)
routed_set (l ∷ lanes) zero lane there = ap (λ x. moved x ∷ lanes) (sym (same_Some l lane there))
routed_set (l ∷ lanes) (suc i) lane there = ap (λ xs. moved l ∷ xs) (routed_set lanes i lane there)

routed_all : (lanes : List Lane) → routed (length lanes) lanes ≡ map moved lanes
routed_all [] = refl
routed_all (lane ∷ lanes) = ap (λ xs. moved lane ∷ xs) (routed_all lanes)

length-routed : (lanes : List Lane) (i : ℕ) → length (routed i lanes) ≡ length lanes
length-routed lanes zero = refl
length-routed [] (suc i) = refl
length-routed (lane ∷ lanes) (suc i) = ap suc (length-routed lanes i)

abbrev pub with_routed : ℕ → Outlet → Outlet
with_routed i o = record o { lanes = routed i o.lanes }

pub within_routed : (o now : Outlet) (i : ℕ) → now ≡ with_routed i o → length now.lanes ≡ length o.lanes
within_routed o now i is = ap (λ (x : Outlet). length x.lanes) is ∙ length-routed o.lanes i

-- the outlet after the next lane
pub routed_more : (o now new : Outlet) (i : ℕ) → i < length o.lanes → now ≡ with_routed i o
    → ((lane : Lane) → slice_get now.lanes i ≡ Some lane → new ≡ record now { lanes = slice_set now.lanes i (moved lane) }) → new ≡ with_routed (i + 1) o
routed_more o now new i within is moves =
    let place = at_place o.lanes i within in
    let lane : Lane = place.0 in
    let there : slice_get now.lanes i ≡ Some lane = ap (λ (x : Outlet). slice_get x.lanes i) is ∙ routed_get o.lanes i lane place.1 in
    let next : slice_set now.lanes i (moved lane) ≡ routed (i + 1) o.lanes = ap (λ (x : Outlet). slice_set x.lanes i (moved lane)) is ∙ routed_set o.lanes i lane place.1 ∙ ap (λ k. routed k o.lanes) (sym (add-one i)) in
    moves lane there ∙ ap (λ (x : Outlet). record x { lanes = slice_set now.lanes i (moved lane) }) is ∙ ap (λ lanes. record o { lanes = lanes }) next

pub routed_whole : (o new : Outlet) (last : ℕ) → last + 1 ≡ length o.lanes → new ≡ with_routed (last + 1) o → new ≡ record o { lanes = map moved o.lanes }
routed_whole o new last all is = is ∙ ap (λ k. record o { lanes = routed k o.lanes }) all ∙ ap (λ lanes. record o { lanes = lanes }) (routed_all o.lanes)

-- ---- what is sent along the lanes that are left

drop_at : {X : Type 0} (xs : List X) (i : ℕ) (x : X) → slice_get xs i ≡ Some x → drop i xs ≡ x ∷ drop (i + 1) xs
drop_at [] i x there = absurd (none-some x there)
drop_at (y ∷ xs) zero x there = ap (λ z. z ∷ xs) (same_Some y x there)
drop_at (y ∷ xs) (suc i) x there = let e : suc i + 1 ≡ suc (i + 1) = omega arith in rw e (drop_at xs i x there)

nodes_of_tasks : (component : ℕ) (row : List Value) (tasks : List ℕ) → nodes_at component row tasks ≡ replicate (length tasks) (record { component = component; row = row })
nodes_of_tasks component row [] = refl
nodes_of_tasks component row (task ∷ tasks) = ap (λ ns. record { component = component; row = row } ∷ ns) (nodes_of_tasks component row tasks)

nodes_along : (t : Topology) (sub : Sub) (lane : Lane) (row : List Value) → IsLaneOf t sub lane → nodes_at sub.to row (told (targets lane row)) ≡ copies_at t row sub
nodes_along t sub lane row is = nodes_of_tasks sub.to row (told (targets lane row)) ∙ ap (λ n. replicate n (record { component = sub.to; row = row })) (length-told t sub lane row is)

abbrev pub nodes_left : Outlet → List Value → ℕ → List Node
nodes_left o row i = flat_map (copies_at o.topology row) (drop i (subs_of o.topology o.from))

abbrev pub tasks_left : Outlet → List Value → ℕ → List ℕ
tasks_left o row i = tasks_for_row (drop i o.lanes) row

-- the next lane's part of what is left
pub record IsPart (o : Outlet) (row : List Value) (i : ℕ) (route : Route) : Type 0 where
  pub nodes : nodes_left o row i ≡ nodes_at route.component row (told route.targets) ++ nodes_left o row (i + 1)
  pub tasks : tasks_left o row i ≡ told route.targets ++ tasks_left o row (i + 1)

pub part_at : (o now : Outlet) (row : List Value) (i : ℕ) (route : Route) → HasItsLanes o → i < length o.lanes → now ≡ with_routed i o
    → ((sub : Sub) (lane : Lane) → slice_get (subs_of now.topology now.from) i ≡ Some sub → slice_get now.lanes i ≡ Some lane → route ≡ route_along sub lane row)
    → IsPart o row i route
part_at o now row i route are within is along =
    let subs = subs_of o.topology o.from in
    let sub_place = at_place subs i (omega (arith, length-subs o.topology o.from o.lanes are)) in
    let lane_place = at_place o.lanes i within in
    let sub : Sub = sub_place.0 in
    let lane : Lane = lane_place.0 in
    let sub_there : slice_get (subs_of now.topology now.from) i ≡ Some sub = ap (λ (x : Outlet). slice_get (subs_of x.topology x.from) i) is ∙ sub_place.1 in
    let lane_there : slice_get now.lanes i ≡ Some lane = ap (λ (x : Outlet). slice_get x.lanes i) is ∙ routed_get o.lanes i lane lane_place.1 in
    let taken : route ≡ route_along sub lane row = along sub lane sub_there lane_there in
    let suits = lane_at o.topology subs o.lanes i sub lane are sub_place.1 lane_place.1 in
    record {
      nodes = ap (flat_map (copies_at o.topology row)) (drop_at subs i sub sub_place.1)
          ∙ ap (λ ns. ns ++ nodes_left o row (i + 1)) (sym (nodes_along o.topology sub lane row suits))
          ∙ ap (λ (r : Route). nodes_at r.component row (told r.targets) ++ nodes_left o row (i + 1)) (sym taken);
      tasks = ap (λ lanes. tasks_for_row lanes row) (drop_at o.lanes i lane lane_place.1)
          ∙ ap (λ (r : Route). told r.targets ++ tasks_left o row (i + 1)) (sym taken);
    }

no_items : {X : Type 0} (xs : List X) → length xs ≡ 0 → xs ≡ []
no_items [] none = refl
no_items (x ∷ xs) none = absurd (omega arith)

module _ {I : Type 0} (tells : I → (ℕ → ℕ) → ℕ → Type 0) (root : Root) (path : List ℕ) where
  pub goes_along : (o : Outlet) (row : List Value) (i : ℕ) (route : Route) (start a b : Sent I) → IsPart o row i route
      → Goes tells root path (nodes_left o row 0) (tasks_left o row 0) start (nodes_left o row i) (tasks_left o row i) a
      → Sends tells root path (nodes_at route.component row (told route.targets)) (told route.targets) a b
      → Goes tells root path (nodes_left o row 0) (tasks_left o row 0) start (nodes_left o row (i + 1)) (tasks_left o row (i + 1)) b
  goes_along o row i route start a b part goes sends =
      Goes-then tells root path (nodes_left o row 0) (tasks_left o row 0) start (nodes_at route.component row (told route.targets)) (nodes_left o row (i + 1)) (told route.targets) (tasks_left o row (i + 1)) a b
      (length-map (told route.targets) (λ task. record { component = route.component; row = row }))
      (subst (λ ts. Goes tells root path (nodes_left o row 0) (tasks_left o row 0) start (nodes_at route.component row (told route.targets) ++ nodes_left o row (i + 1)) ts a) part.tasks
      (subst (λ ns. Goes tells root path (nodes_left o row 0) (tasks_left o row 0) start ns (tasks_left o row i) a) part.nodes goes)) sends

  -- no lanes
  pub sends_nowhere : (o : Outlet) (row : List Value) (a : Sent I) → HasItsLanes o → length o.lanes ≡ 0 → Sends tells root path (kids_by o.topology o.from row) (tasks_for_row o.lanes row) a a
  sends_nowhere o row a are none =
      let no_subs : subs_of o.topology o.from ≡ [] = no_items (subs_of o.topology o.from) (omega (arith, length-subs o.topology o.from o.lanes are)) in
      let no_lanes : o.lanes ≡ [] = no_items o.lanes none in
      subst (λ ts. Sends tells root path (kids_by o.topology o.from row) ts a a) (ap (λ lanes. tasks_for_row lanes row) (sym no_lanes))
      (subst (λ ns. Sends tells root path ns [] a a) (ap (flat_map (copies_at o.topology row)) (sym no_subs)) (Sends-none tells root path a))

  -- the last lane
  pub sends_last : (o : Outlet) (row : List Value) (last : ℕ) (route : Route) (start a b : Sent I) → HasItsLanes o → last + 1 ≡ length o.lanes → IsPart o row last route
      → Goes tells root path (nodes_left o row 0) (tasks_left o row 0) start (nodes_left o row last) (tasks_left o row last) a
      → Sends tells root path (nodes_at route.component row (told route.targets)) (told route.targets) a b
      → Sends tells root path (kids_by o.topology o.from row) (tasks_for_row o.lanes row) start b
  sends_last o row last route start a b are all part goes sends =
      let no_subs : drop (last + 1) (subs_of o.topology o.from) ≡ [] = drop_of_length-le (subs_of o.topology o.from) (omega (arith, length-subs o.topology o.from o.lanes are)) in
      let no_lanes : drop (last + 1) o.lanes ≡ [] = drop_of_length-le o.lanes (omega arith) in
      let here = nodes_at route.component row (told route.targets) in
      let nodes : nodes_left o row last ≡ here = part.nodes ∙ ap (λ subs. here ++ flat_map (copies_at o.topology row) subs) no_subs ∙ append-nil here in
      let tasks : tasks_left o row last ≡ told route.targets = part.tasks ∙ ap (λ lanes. told route.targets ++ tasks_for_row lanes row) no_lanes ∙ append-nil (told route.targets) in
      goes.on b (subst (λ ts. Sends tells root path (nodes_left o row last) ts a b) (sym tasks) (subst (λ ns. Sends tells root path ns (told route.targets) a b) (sym nodes) sends))

  -- ---- row after row

  pub goes_row : (o now new : Outlet) (rows rest more : List (List Value)) (row : List Value) (whole : List Node) (all : List ℕ) (start a b : Sent I) → rest ≡ row ∷ more → HasItsLanes now
      → after_rows rest now ≡ after_rows rows o → new ≡ record now { lanes = map moved now.lanes }
      → Goes tells root path whole all start (kids o.topology o.from rest) (tasks_for now.lanes rest) a
      → Sends tells root path (kids_by now.topology now.from row) (tasks_for_row now.lanes row) a b
      → Goes tells root path whole all start (kids o.topology o.from more) (tasks_for new.lanes more) b
  goes_row o now new rows rest more row whole all start a b head are same is goes sends =
      let here = subst (λ (x : Outlet). Sends tells root path (kids_by x.topology x.from row) (tasks_for_row now.lanes row) a b) same sends in
      let aligned = subst (λ (x : Outlet). length (kids_by x.topology x.from row) ≡ length (tasks_for_row now.lanes row)) same (sym (length-tasks_for_row now.topology now.from now.lanes row are)) in
      let left = subst (λ rs. Goes tells root path whole all start (kids o.topology o.from rs) (tasks_for now.lanes rs) a) head goes in
      subst (λ (x : Outlet). Goes tells root path whole all start (kids o.topology o.from more) (tasks_for x.lanes more) b) (sym is)
      (Goes-then tells root path whole all start (kids_by o.topology o.from row) (kids o.topology o.from more) (tasks_for_row now.lanes row) (tasks_for (map moved now.lanes) more) a b aligned left here)

  pub sent_rows : (o now : Outlet) (rows rest : List (List Value)) (ids : I) (given : ℕ) (old : List Parcel) (b : Sent I) → rest ≡ []
      → Goes tells root path (kids o.topology o.from rows) (tasks_for o.lanes rows) (record { ids = ids; given = given; edges = []; parcels = old }) (kids o.topology o.from rest) (tasks_for now.lanes rest) b
      → IsSent tells root path (kids o.topology o.from rows) (tasks_for o.lanes rows) old (record { ids = ids; given = given; edges = []; parcels = old }) b
  sent_rows o now rows rest ids given old b none goes =
      let start : Sent I = record { ids = ids; given = given; edges = []; parcels = old } in
      let done = subst (λ rs. Goes tells root path (kids o.topology o.from rows) (tasks_for o.lanes rows) start (kids o.topology o.from rs) (tasks_for now.lanes rs) b) none goes in
      sent_whole tells root path (kids o.topology o.from rows) (tasks_for o.lanes rows) ids given old b
      (Goes-end tells root path (kids o.topology o.from rows) (tasks_for o.lanes rows) start b done)

pub after_more : (o now new : Outlet) (rows rest more : List (List Value)) (row : List Value) → rest ≡ row ∷ more → after_rows rest now ≡ after_rows rows o → new ≡ record now { lanes = map moved now.lanes } → after_rows more new ≡ after_rows rows o
after_more o now new rows rest more row head same is = ap (after_rows more) is ∙ ap (λ rs. after_rows rs now) (sym head) ∙ same

-- Attempts that begin, one after another.
use Rattle.std.proofs.Common.{◌≡◌, ℕ, zero, suc, List, [], ◌∷◌, ◌++◌, length, Option, Some, None, refl, sym, ap, ap₂, ◌∙◌}
use Rattle.std.specs.List.{flat_map}
use Rattle.std.proofs.lemmas.List.{append-nil, append_assoc, length-map}
use Rattle.std.proofs.lemmas.Grind.{flat_map-append}
use Rattle.commit_order.specs.Orders.{AddsOpening, Begins, Fills, IsOwn, OpenFrom, Stand, collector_of, cut_of, desk_of, ids_drawn, office_of, opening_of, plan_of, stand_after, stand_of, wanted_memory}
use Rattle.commit_order.specs.Offices.{BeginsNext, Office}
use Rattle.commit_order.specs.declared.coordinator.Coordinator.{Coordinator}
use Rattle.commit_turns.specs.Desks.{Desk}
use Rattle.commit_turns.specs.Turns.{begun, fill_more, filled, next_wait}
use Rattle.commit_turns.specs.Account.{rows_at}
use Rattle.output_collector.specs.Collectors.{given_by, ids_in, outlet_of, source_of}
use Rattle.output_collector.specs.Draws.{Draws, given_after}
use Rattle.output_collector.specs.Outlets.{after_rows, parcels_for, tasks_for, tuples_for}
use Rattle.output_collector.specs.declared.collector.Collector.{Collector}
use Rattle.output_collector.proofs.Sending.{Draws-none, Draws-then}
use Rattle.tuple_account.specs.storm_values.declared.value.Root.{Root}
use Rattle.tuple_account.specs.storm_values.declared.value.Value.{Value}
use Rattle.tuple_account.specs.topology_plan.Topology.{Topology, tasks_in_all}
use Rattle.tuple_account.specs.topology_plan.declared.parts.Origin.TheVariants as origin
use Rattle.tuple_account.specs.tree_model.Trees.{kids}
use Rattle.tuple_account.specs.tree_model.declared.messages.Draw.{Draw}
use Rattle.tuple_account.specs.tree_model.declared.messages.AckMsg.TheVariants as msg
use Rattle.tuple_account.specs.tree_model.declared.messages.Parcel.{Parcel}
use Rattle.tuple_account.specs.tree_model.declared.messages.Parcel.TheVariants.{ToAcker}
use Rattle.taken_records.specs.Cuts.{Cut}
use Rattle.tuple_account.specs.Histories.{Opening, acker_of, opening_parcels, to_acker, to_tasks}
use Rattle.tuple_account.specs.Places.{ids_of}
use Rattle.tuple_account.specs.Issued.{draw_from, edges_of, first_tuples, init_of, tuples_from}
use Rattle.tuple_account.specs.tuple_tickets.declared.edge.Edge.{Edge}
use Rattle.commit_turns.specs.declared.wait.Wait.{Wait}

open-then : (cut : Cut) (source : ℕ) (a b c : Stand) (ws vs : List Wait) (xs ys : List Opening) → OpenFrom cut source a ws xs b → OpenFrom cut source b vs ys c
    → OpenFrom cut source a (ws ++ vs) (xs ++ ys) c
open-then cut source a b c [] vs [] ys first second = rw (← first) second
open-then cut source a b c [] vs (o ∷ xs) ys first second = absurd first
open-then cut source a b c (w ∷ ws) vs [] ys first second = absurd first
open-then cut source a b c (w ∷ ws) vs (o ∷ xs) ys first second =
    (first.0, first.1, open-then cut source (stand_after o a) b c ws vs xs ys first.2 second)

module _ {I : Type 0} (tells : I → (ℕ → ℕ) → ℕ → Type 0) (cut : Cut) where
  pub begins_none : (a : Collector I) → Begins tells cut a a [] []
  begins_none a = record {
    openings = [];
    opened = refl;
    drawn = Draws-none tells (ids_in a);
    sent = refl;
    source = refl;
  }

  -- one more attempt begins
  pub begins_more : (a b c : Collector I) (begun : List Wait) (w : Wait) (parcels more : List Parcel)
      → (outlet_of a).topology ≡ (outlet_of b).topology
      → Begins tells cut a b begun parcels → AddsOpening tells cut w b c parcels more → Begins tells cut a c (begun ++ w ∷ []) more
  begins_more a b c begun w parcels more same first adds = record {
    openings = first.openings ++ adds.opening ∷ [];
    opened = open-then cut (source_of a) (stand_of a) (stand_of b) (stand_of c) begun (w ∷ []) first.openings (adds.opening ∷ []) first.opened (rw first.source at adds.opened);
    drawn =
        let ids : ids_drawn (first.openings ++ adds.opening ∷ []) ≡ ids_drawn first.openings ++ adds.opening.begun.ids =
        flat_map-append (λ (o : Opening). o.begun.ids) first.openings (adds.opening ∷ []) ∙ ap (λ xs. ids_drawn first.openings ++ xs) (append-nil adds.opening.begun.ids) in
        rw ids (Draws-then tells (ids_in a) (ids_in b) (ids_in c) (ids_drawn first.openings) adds.opening.begun.ids first.drawn adds.drawn);
    sent =
        adds.sent
        ∙ ap₂ (λ xs t. xs ++ opening_parcels t adds.opening) first.sent (sym same)
        ∙ sym (flat_map-append (opening_parcels (outlet_of a).topology) first.openings (adds.opening ∷ [])
        ∙ ap (λ xs. flat_map (opening_parcels (outlet_of a).topology) first.openings ++ xs) (append-nil (opening_parcels (outlet_of a).topology adds.opening)));
    source = adds.source ∙ first.source;
  }

  -- what was emitted for an attempt, with its init
  pub adds_opening : (w : Wait) (a b : Collector I) (told between adds : List Parcel) (edges : List Edge) (draw : Draw) (acker : ℕ) (rows : List (List Value))
      → (outlet_of a).from ≡ origin.Spout
      → rows ≡ rows_at cut w.spans
      → between ≡ told ++ parcels_for (outlet_of a) w.root [] rows (ids_of edges)
      → edges ≡ edges_of (tuples_for (outlet_of a) w.root [] rows (ids_of edges))
      → length edges ≡ length (kids (outlet_of a).topology (outlet_of a).from rows)
      → draw ≡ draw_from (source_of a) (given_by a)
      → Draws tells (ids_in a) (ids_of edges) (ids_in b)
      → given_by b ≡ given_after (given_by a) (length edges)
      → outlet_of b ≡ after_rows rows (outlet_of a)
      → source_of b ≡ source_of a
      → acker ≡ acker_of (outlet_of a).topology w.root
      → adds ≡ between ++ ToAcker acker (msg.Init (record { root = w.root; edges = edges; draw = draw })) ∷ []
      → AddsOpening tells cut w a b told adds
  adds_opening w a b told between adds edges draw acker rows from are sent made enough drew drawn given outlet source to last =
      let count : length (ids_of edges) ≡ length edges = length-map edges (λ (e : Edge). e.id) in
      let ids = ids_of edges in
      let t = (outlet_of a).topology in
      let lanes = (outlet_of a).lanes in
      let o : Opening = opening_of cut (outlet_of a) (source_of a) (given_by a) w ids in
      let parcels : parcels_for (outlet_of a) w.root [] rows ids ≡ to_tasks (first_tuples t o.begun) o.targets =
      ap₂ (λ f rs. to_tasks (tuples_from w.root [] 0 (kids t f rs) ids) (tasks_for lanes rs)) from are in
      let edges_are : edges ≡ edges_of (first_tuples t o.begun) = made ∙ ap₂ (λ f rs. edges_of (tuples_from w.root [] 0 (kids t f rs) ids)) from are in
      let note : ToAcker acker (msg.Init (record { root = w.root; edges = edges; draw = draw })) ≡ to_acker t (init_of t o.begun) =
      λ i. ToAcker (to i) (msg.Init (record { root = w.root; edges = edges_are i; draw = drew i })) in
      record {
        opening = o;
        opened = (
          refl,
          count ∙ enough ∙ ap (λ rs. length (kids t (outlet_of a).from rs)) are,
          ap₂ (λ outlet given. record { outlet = outlet; given = given }) (outlet ∙ ap (λ rs. after_rows rs (outlet_of a)) are)
              (given ∙ ap (given_after (given_by a)) (sym count)),
        );
        drawn = drawn;
        sent =
            last ∙ ap₂ (λ xs x. xs ++ x ∷ []) (sent ∙ ap (λ ps. told ++ ps) parcels) note
            ∙ append_assoc told (to_tasks (first_tuples t o.begun) o.targets) (to_acker t (init_of t o.begun) ∷ []);
        source = source;
      }

-- ---- the attempt that begins

-- it is the next one
pub record BeganWith (o : Option Wait) (root : Root) (rows : List (List Value)) (old new : Office) : Type 0 where
  pub wait : Wait
  pub next : o ≡ Some wait
  pub root_is : wait.root ≡ root
  pub rows_are : rows_at old.cut wait.spans ≡ rows
  pub office : new ≡ record old { desk = begun old.topology old.cut wait old.desk }

pub began_with : (o : Option Wait) (root : Root) (rows : List (List Value)) (old new : Office) → BeginsNext o root rows old new → BeganWith o root rows old new
began_with None root rows old new begins = absurd begins
began_with (Some w) root rows old new begins = record { wait = w; next = refl; root_is = begins.0; rows_are = begins.1; office = begins.2 }

-- ---- the places that are filled

module _ {I : Type 0} where
  pub own_after : (at : Coordinator I) (o : Office) → IsOwn at → o.topology ≡ plan_of at → IsOwn (record at { office = o })
  own_after at o own same = record {
    topology = own.topology ∙ sym same;
    from = own.from;
    source = own.source ∙ sym (ap tasks_in_all same);
  }

module _ {I : Type 0} (tells : I → (ℕ → ℕ) → ℕ → Type 0) (shut : ℕ) where
  pub fills_none : (places left : ℕ) (a : Coordinator I) (parcels : List Parcel) → left ≡ places → parcels ≡ [] → IsOwn a → Fills tells shut places left a a parcels
  fills_none places left a parcels same none own = rw (same, none) (record {
    so_far = [];
    own = own;
    office = refl;
    begun = begins_none tells (cut_of a) (collector_of a);
    has_memory = refl;
    desk = refl;
    all = refl;
  })

  pub fills_more : (places left k : ℕ) (old at new : Coordinator I) (parcels more : List Parcel) (w : Wait) → left ≡ suc k
      → Fills tells shut places left old at parcels
      → next_wait (plan_of at) (cut_of at) shut (desk_of at) ≡ Some w
      → office_of new ≡ record (office_of at) { desk = begun (plan_of at) (cut_of at) w (desk_of at) }
      → AddsOpening tells (cut_of at) w (collector_of at) (collector_of new) parcels more
      → wanted_memory new ≡ wanted_memory at → IsOwn new
      → (outlet_of (collector_of old)).topology ≡ (outlet_of (collector_of at)).topology
      → Fills tells shut places k old new more
  fills_more places left k old at new parcels more w is so next to adds memory own source =
      let t = plan_of old in
      let cut = cut_of old in
      let topology = ap (λ (o : Office). o.topology) so.office in
      let cut_is = ap (λ (o : Office). o.cut) so.office in
      let next_old : next_wait t cut shut (desk_of at) ≡ Some w = rw (topology, cut_is) at next in
      let desk_is : desk_of new ≡ begun t cut w (desk_of at) =
      ap (λ (o : Office). o.desk) to in
      let step : filled t cut shut left (desk_of at) ≡ fill_more t cut (filled t cut shut k) (desk_of at) (Some w) =
      ap (λ n. filled t cut shut n (desk_of at)) is ∙ ap (fill_more t cut (filled t cut shut k) (desk_of at)) next_old in
      record {
        so_far = so.so_far ++ w ∷ [];
        own = own;
        office = to ∙ (λ i. record { topology = topology i; cut = cut_is i; desk = ap (λ (o : Office). o.desk) (sym to) i });
        begun = begins_more tells cut (collector_of old) (collector_of at) (collector_of new) so.so_far w parcels more source so.begun (rw cut_is at adds);
        has_memory = memory ∙ so.has_memory;
        desk = so.desk ∙ ap (λ f. f.desk) step ∙ ap (λ d. (filled t cut shut k d).desk) (sym desk_is);
        all =
            so.all ∙ ap (λ f. so.so_far ++ f.begun) step
            ∙ ap (λ d. so.so_far ++ w ∷ (filled t cut shut k d).begun) (sym desk_is)
            ∙ sym (append_assoc so.so_far (w ∷ []) (filled t cut shut k (desk_of new)).begun);
      }

  pub fills_end : (places left : ℕ) (old at : Coordinator I) (parcels : List Parcel) → Fills tells shut places left old at parcels
      → (filled (plan_of old) (cut_of old) shut left (desk_of at)).begun ≡ []
      → Begins tells (cut_of old) (collector_of old) (collector_of at) (filled (plan_of old) (cut_of old) shut places (desk_of old)).begun parcels
  fills_end places left old at parcels so none =
      rw (so.all ∙ ap (λ ws. so.so_far ++ ws) none ∙ append-nil so.so_far) so.begun

  pub none_more : (t : Topology) (cut : Cut) (left : ℕ) (d : Desk) → next_wait t cut shut d ≡ None → (filled t cut shut left d).begun ≡ []
  none_more t cut zero d none = refl
  none_more t cut (suc k) d none = ap (λ o. (fill_more t cut (filled t cut shut k) d o).begun) none

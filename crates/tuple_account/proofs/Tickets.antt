-- Tuples read as tickets, and their account as one of tickets.
use Rattle.std.proofs.Common.{◌≡◌, ℕ, suc, ◌+◌, Bool, true, false, cond, List, [], ◌∷◌, ◌++◌, length, map, flat_map, sym, refl, ap, ◌∙◌, arith}
use Rattle.std.specs.List.{AllByRecursion}
use Rattle.tree_model.specs.bolt_ops.RowOp.{Custom}
use Rattle.tree_model.specs.counted_items.Weights.{weigh, Within}
use Rattle.tree_model.proofs.counted_items.Each.{each-to_map, each-weaker}
use Rattle.tree_model.proofs.counted_items.Weighing.{weigh-append, weigh-map, weigh-flat_map, weigh-same, weigh-same_each}
use Rattle.tree_model.specs.storm_values.declared.value.Root.{Root}
use Rattle.tree_model.specs.storm_values.declared.value.Value.{Value}
use Rattle.tree_model.specs.topology_plan.declared.parts.Origin.TheVariants as origin
use Rattle.tree_model.specs.topology_plan.Topology.{Topology}
use Rattle.tree_model.specs.tuple_tickets.declared.edge.Edge.{Edge}
use Rattle.tree_model.specs.tuple_tickets.Lists.{Message, init, done}
use Rattle.tree_model.specs.tuple_tickets.Notes.{Note, said_about}
use Rattle.tree_model.specs.tuple_tickets.Notes as notes
use Rattle.tree_model.specs.tuple_tickets.Roots.{root_eq}
use Rattle.tree_model.specs.tuple_tickets.Tickets.{Ticket, tickets_from, made_by}
use Rattle.tree_model.specs.tuple_tickets.Tickets as tickets
use Rattle.tree_model.specs.tuple_tickets.Trees.{Course, goes, fails, mute, Growth}
use Rattle.tree_model.proofs.tuple_tickets.Once.{issued_weight}
use Rattle.tree_model.proofs.tuple_tickets.Told.{of_root, weigh-said_about}
use Rattle.tree_model.specs.declared.messages.AckMsg.{AckMsg}
use Rattle.tree_model.specs.declared.messages.Tuple.{Tuple}
use Rattle.tree_model.specs.Courses.{growth_of}
use Rattle.tree_model.specs.Lists.{root_of, said}
use Rattle.tree_model.specs.Trees.{Node, kids, kids_of}
use Rattle.tuple_account.specs.Accounts.{Account, notes_about, issued, issued_notes, IsBegun, IsAccount}
use Rattle.tuple_account.specs.Issued.{Begun, Run, node_of, tuples_from, edges_of, first_tuples, init_of, course_of_run, children_of, notes_by, notes_of}

abbrev pub ticket_of : Tuple → Ticket Node
ticket_of tuple = record { root = tuple.root; edge = tuple.edge; node = node_of tuple }

abbrev pub begun_read : Begun → tickets.Begun
begun_read b = record { root = b.root; ids = b.ids }

abbrev pub run_read : Run → tickets.Run Node
run_read u = record { ticket = ticket_of u.tuple; ids = u.ids }

abbrev pub account_read : Account → tickets.Account Node
account_read a = record { begun = map begun_read a.begun; runs = map run_read a.runs; waiting = λ f. a.waiting (λ tuple. f (ticket_of tuple)) }

abbrev pub note_of : AckMsg → Note
note_of m = record { root = root_of m; said = said m }

-- ---- tuples

pub tuples_read : (root : Root) (path : List ℕ) (j : ℕ) (nodes : List Node) (ids : List ℕ) → map ticket_of (tuples_from root path j nodes ids) ≡ tickets_from root path j nodes ids
tuples_read root path j [] ids = refl
tuples_read root path j (node ∷ nodes) [] = refl
tuples_read root path j (node ∷ nodes) (id ∷ ids) =
    ap (λ (ts : List (Ticket Node)). record { root = root; edge = record { path = path ++ j ∷ []; id = id }; node = node } ∷ ts) (tuples_read root path (suc j) nodes ids)

pub edges_read : (ts : List Tuple) → notes.edges_of (map ticket_of ts) ≡ edges_of ts
edges_read [] = refl
edges_read (t ∷ ts) = ap (λ (es : List Edge). t.edge ∷ es) (edges_read ts)

made_read : (c : Course) (ts : List Tuple) → map ticket_of (made_by c ts) ≡ made_by c (map ticket_of ts)
made_read goes ts = refl
made_read fails ts = refl
made_read mute ts = refl

pub weigh-notes_about : (r : Root) (h : AckMsg → ℕ) (ms : List AckMsg) → weigh h (notes_about r ms) ≡ weigh (λ m. cond (root_eq (root_of m) r) (h m) 0) ms
weigh-notes_about r h [] = refl
weigh-notes_about r h (m ∷ ms) = cases (root_eq (root_of m) r) (weigh-notes_about r h ms)
  where
    cases : (b : Bool) → weigh h (notes_about r ms) ≡ weigh (λ m. cond (root_eq (root_of m) r) (h m) 0) ms → weigh h (cond b (m ∷ notes_about r ms) (notes_about r ms)) ≡ cond b (h m) 0 + weigh (λ m. cond (root_eq (root_of m) r) (h m) 0) ms
    cases true later = omega arith
    cases false later = omega arith

module _ (t : Topology) (custom : Custom) (rows_of : Root → List (List Value)) where
  abbrev pub grows : Growth Node
  grows = growth_of t custom rows_of

  first_read : (b : Begun) → IsBegun t custom rows_of b → map ticket_of (first_tuples t b) ≡ tickets.first_tickets grows (begun_read b)
  first_read b well = tuples_read b.root [] 0 (kids t origin.Spout b.rows) b.ids ∙ ap (λ (rows : List (List Value)). tickets_from b.root [] 0 (kids t origin.Spout rows) b.ids) well.rows

  children_read : (u : Run) → map ticket_of (children_of t custom u) ≡ tickets.made_of grows (run_read u)
  children_read u =
      made_read (course_of_run t custom u) (tuples_from u.tuple.root u.tuple.edge.path 0 (kids_of t custom (node_of u.tuple)) u.ids)
      ∙ ap (λ (ts : List (Ticket Node)). made_by (course_of_run t custom u) ts) (tuples_read u.tuple.root u.tuple.edge.path 0 (kids_of t custom (node_of u.tuple)) u.ids)

  init_read : (b : Begun) → IsBegun t custom rows_of b → notes.init_note grows (begun_read b) ≡ note_of (init_of t b)
  init_read b well = ap (λ (es : List Edge). record { root = b.root; said = init es }) (ap notes.edges_of (sym (first_read b well)) ∙ edges_read (first_tuples t b))

  notes_read_by : (u : Run) (c : Course) → notes.notes_by grows (run_read u) c ≡ map note_of (notes_by t custom u c)
  notes_read_by u goes = ap (λ (es : List Edge). record { root = u.tuple.root; said = done u.tuple.edge es } ∷ []) (ap notes.edges_of (sym (children_read u)) ∙ edges_read (children_of t custom u))
  notes_read_by u fails = refl
  notes_read_by u mute = refl

  module _ (a : Account) (begun_well : AllByRecursion (IsBegun t custom rows_of) a.begun) where
    pub issued_read : (f : Ticket Node → ℕ) → weigh f (tickets.issued grows (account_read a)) ≡ weigh (λ (tuple : Tuple). f (ticket_of tuple)) (issued t custom a)
    issued_read f =
        let F : Tuple → ℕ = λ tuple. f (ticket_of tuple) in
        let e = issued_weight grows (account_read a) f in
        let m = weigh-map (λ (b : tickets.Begun). weigh f (tickets.first_tickets grows b)) begun_read a.begun in
        let s = weigh-same_each (λ (b : Begun). weigh f (tickets.first_tickets grows (begun_read b))) (λ (b : Begun). weigh F (first_tuples t b)) (IsBegun t custom rows_of)
        (λ b well. ap (weigh f) (sym (first_read b well)) ∙ weigh-map f ticket_of (first_tuples t b)) a.begun begun_well in
        let n = weigh-map (λ (u : tickets.Run Node). weigh f (tickets.made_of grows u)) run_read a.runs in
        let r = weigh-same (λ (u : Run). weigh f (tickets.made_of grows (run_read u))) (λ (u : Run). weigh F (children_of t custom u))
        (λ u. ap (weigh f) (sym (children_read u)) ∙ weigh-map f ticket_of (children_of t custom u)) a.runs in
        let p = weigh-append F (flat_map (first_tuples t) a.begun) (flat_map (children_of t custom) a.runs) in
        let q = weigh-flat_map F (first_tuples t) a.begun in
        let w = weigh-flat_map F (children_of t custom) a.runs in omega arith

    pub notes_read : (f : Note → ℕ) → weigh f (notes.issued_notes grows (account_read a)) ≡ weigh (λ (m : AckMsg). f (note_of m)) (issued_notes t custom a)
    notes_read f =
        let F : AckMsg → ℕ = λ m. f (note_of m) in
        let e = weigh-append f (map (notes.init_note grows) (map begun_read a.begun)) (flat_map (notes.notes_of grows) (map run_read a.runs)) in
        let i = weigh-map f (notes.init_note grows) (map begun_read a.begun) in
        let j = weigh-map (λ (b : tickets.Begun). f (notes.init_note grows b)) begun_read a.begun in
        let s = weigh-same_each (λ (b : Begun). f (notes.init_note grows (begun_read b))) (λ (b : Begun). F (init_of t b)) (IsBegun t custom rows_of) (λ b well. ap f (init_read b well)) a.begun begun_well in
        let k = weigh-flat_map f (notes.notes_of grows) (map run_read a.runs) in
        let l = weigh-map (λ (u : tickets.Run Node). weigh f (notes.notes_of grows u)) run_read a.runs in
        let r = weigh-same (λ (u : Run). weigh f (notes.notes_of grows (run_read u))) (λ (u : Run). weigh F (notes_of t custom u))
        (λ u. ap (weigh f) (notes_read_by u (course_of_run t custom u)) ∙ weigh-map f note_of (notes_of t custom u)) a.runs in
        let p = weigh-append F (map (init_of t) a.begun) (flat_map (notes_of t custom) a.runs) in
        let q = weigh-map F (init_of t) a.begun in
        let w = weigh-flat_map F (notes_of t custom) a.runs in omega arith

    -- what is said of a root by the notes
    pub about_read : (r : Root) (f : Message → ℕ) → weigh (λ (m : AckMsg). f (said m)) (notes_about r (issued_notes t custom a)) ≡ weigh f (said_about r (notes.issued_notes grows (account_read a)))
    about_read r f =
        weigh-notes_about r (λ m. f (said m)) (issued_notes t custom a)
        ∙ sym (notes_read (of_root r f))
        ∙ sym (weigh-said_about r f (notes.issued_notes grows (account_read a)))

    pub within_read : (r : Root) (list : List AckMsg) → Within list (notes_about r (issued_notes t custom a)) → Within (map said list) (said_about r (notes.issued_notes grows (account_read a)))
    within_read r list within f = let w = within (λ m. f (said m)) in let m = weigh-map f said list in let e = about_read r f in omega arith

    pub has_all_read : (r : Root) (list : List AckMsg) → Within (notes_about r (issued_notes t custom a)) list → Within (said_about r (notes.issued_notes grows (account_read a))) (map said list)
    has_all_read r list within f = let w = within (λ m. f (said m)) in let m = weigh-map f said list in let e = about_read r f in omega arith

  pub account_is : (a : Account) → IsAccount t custom rows_of a → tickets.IsAccount grows (account_read a)
  account_is a account = record {
    balanced = λ f. let e = issued_read a account.begun_well f in let b = account.balanced (λ tuple. f (ticket_of tuple)) in let m = weigh-map (λ (u : tickets.Run Node). f u.ticket) run_read a.runs in omega arith;
    distinct = λ root. let m = weigh-map (tickets.is_begun root) begun_read a.begun in let d = account.distinct root in omega arith;
    begun_well = each-to_map (tickets.IsBegun grows) begun_read a.begun
        (each-weaker (IsBegun t custom rows_of) (λ b. tickets.IsBegun grows (begun_read b)) (λ b well. well.ids ∙ ap (λ (rows : List (List Value)). length (kids t origin.Spout rows)) well.rows) a.begun account.begun_well);
    runs_well = each-to_map (tickets.IsRun grows) run_read a.runs account.runs_well;
  }

-- What is within the issued notes of one root is true, single and steady.
use Rattle.std.proofs.Common.{◌≡◌, ℕ, suc, ◌+◌, ◌≤◌, ◌==◌, ◌&&◌, Bool, true, false, cond, true≢false, List, [], ◌∷◌, ◌++◌, length, map, sym, refl, ap, subst, ◌∙◌, eqb-true, eq-eqb, arith}
use Rattle.std.specs.Coded.{Coded}
use Rattle.std.specs.List.{AllByRecursion, flat_map}
use Rattle.storm_values.specs.declared.value.Root.{Root}
use Rattle.counted_items.specs.Weights.{weigh, Within}
use Rattle.counted_items.proofs.Each.{each-append, each-front, each-back, each-parts, each-flat_map, each-map, each-to_map, each-weaker, each-both}
use Rattle.counted_items.proofs.Equality.{each-within}
use Rattle.counted_items.proofs.Weighing.{weigh-append, weigh-le, weigh-zero, weigh-map, weigh-flat_map, weigh-plus, each-weighs}
use Rattle.tuple_tickets.specs.declared.edge.Edge.{Edge}
use Rattle.tuple_tickets.specs.Lists.{Message, occurrences_in, occurrences, consumes, is_init, paths_of, IsTrueOf, AreTrueOf, IsSingle, IsSteady}
use Rattle.tuple_tickets.specs.Notes.{Note, said_about, edges_of, init_note, notes_by, notes_of, issued_notes}
use Rattle.tuple_tickets.specs.Paths.{path_eq, paths_below}
use Rattle.tuple_tickets.specs.Roots.{root_eq}
use Rattle.tuple_tickets.specs.Tickets.{Ticket, Begun, Run, Account, is_at, tickets_from, first_tickets, made_by, made_of, issued, IsBegun, IsRun, IsAccount, IsNode}
use Rattle.tuple_tickets.specs.Trees.{Course, goes, fails, mute, Growth}
use Rattle.tuple_tickets.proofs.Codes.{ticket_code, message_code}
use Rattle.tuple_tickets.proofs.Once.{once, used_nodes, used_within}
use Rattle.tuple_tickets.proofs.Paths.{path_itself}
use Rattle.tuple_tickets.proofs.Roots.{same_root, root_itself}

-- a weight of messages, at the notes of a root
abbrev pub of_root : Root → (Message → ℕ) → Note → ℕ
of_root root f note = cond (root_eq note.root root) (f note.said) 0

pub weigh-said_about : (r : Root) (f : Message → ℕ) (ns : List Note) → weigh f (said_about r ns) ≡ weigh (of_root r f) ns
weigh-said_about r f [] = refl
weigh-said_about r f (n ∷ ns) = cases (root_eq n.root r) (weigh-said_about r f ns)
  where
    cases : (b : Bool) → weigh f (said_about r ns) ≡ weigh (of_root r f) ns → weigh f (cond b (n.said ∷ said_about r ns) (said_about r ns)) ≡ cond b (f n.said) 0 + weigh (of_root r f) ns
    cases true later = omega arith
    cases false later = omega arith

-- what each note of the root says
pub each-said_about : (r : Root) (P : Message → Type 0) (ns : List Note) → AllByRecursion (λ (n : Note). n.root ≡ r → P n.said) ns → AllByRecursion P (said_about r ns)
each-said_about r P [] all = tt
each-said_about r P (n ∷ ns) all = cases (root_eq n.root r) refl (each-said_about r P ns all.1)
  where
    cases : (b : Bool) → root_eq n.root r ≡ b → AllByRecursion P (said_about r ns) → AllByRecursion P (cond b (n.said ∷ said_about r ns) (said_about r ns))
    cases true is later = (all.0 (same_root n.root r is), later)
    cases false is later = later

module _ {N : Type 0} where
  -- the paths of tickets below a path
  pub paths_of_tickets : (root : Root) (path : List ℕ) (j : ℕ) (ns : List N) (ids : List ℕ) → length ids ≡ length ns → paths_of (edges_of (tickets_from root path j ns ids)) ≡ paths_below path j (length ns)
  paths_of_tickets root path j [] ids same = refl
  paths_of_tickets root path j (n ∷ ns) [] same = absurd (omega arith)
  paths_of_tickets root path j (n ∷ ns) (id ∷ ids) same = ap (λ ps. (path ++ j ∷ []) ∷ ps) (paths_of_tickets root path (suc j) ns ids (omega arith))

  roots_of_tickets : (root : Root) (path : List ℕ) (j : ℕ) (ns : List N) (ids : List ℕ) → AllByRecursion (λ (t : Ticket N). t.root ≡ root) (tickets_from root path j ns ids)
  roots_of_tickets root path j [] ids = tt
  roots_of_tickets root path j (n ∷ ns) [] = tt
  roots_of_tickets root path j (n ∷ ns) (id ∷ ids) = (refl, roots_of_tickets root path (suc j) ns ids)

module _ {N : Type 0} (g : Growth N) where
  -- the note about a root
  abbrev IsTrueNote : Note → Type 0
  IsTrueNote note = IsTrueOf g note.root note.said

  init_true : (b : Begun) → IsBegun g b → IsTrueNote (init_note g b)
  init_true b well = paths_of_tickets b.root [] 0 (g.firsts b.root) b.ids well

  run_true : (u : Run N) → IsRun g u → IsNode g u.ticket → AllByRecursion IsTrueNote (notes_of g u)
  run_true u well node = cases (g.course u.ticket.root u.ticket.node) refl
    where
      cases : (c : Course) → g.course u.ticket.root u.ticket.node ≡ c → AllByRecursion IsTrueNote (notes_by g u c)
      cases goes is = ((u.ticket.node, node, is, rw is (paths_of_tickets u.ticket.root u.ticket.edge.path 0 (g.kids u.ticket.node) u.ids (well is))), tt)
      cases fails is = ((u.ticket.node, node, is), tt)
      cases mute is = tt

module _ {N : Type 0} (coded : Coded N) (g : Growth N) (a : Account N) (account : IsAccount g a) where
  -- ---- true

  issued_true : AllByRecursion (IsTrueNote g) (issued_notes g a)
  issued_true =
      each-append (IsTrueNote g) (map (init_note g) a.begun) (flat_map (notes_of g) a.runs)
      (each-to_map (IsTrueNote g) (init_note g) a.begun (each-weaker (IsBegun g) (λ b. IsTrueNote g (init_note g b)) (init_true g) a.begun account.begun_well))
      (each-flat_map (IsTrueNote g) (notes_of g) a.runs
      (each-weaker (λ (u : Run N). IsRun g u × IsNode g u.ticket) (λ (u : Run N). AllByRecursion (IsTrueNote g) (notes_of g u)) (λ u both. run_true g u both.0 both.1) a.runs
      (each-both (IsRun g) (λ (u : Run N). IsNode g u.ticket) a.runs account.runs_well (used_nodes g coded a account))))

  -- ---- steady

  -- 1 at a ticket of a root with this edge
  abbrev at_edge : Root → Edge → Ticket N → ℕ
  at_edge r e t = cond ((root_eq t.root r && path_eq t.edge.path e.path) && (t.edge.id == e.id)) 1 0

  -- the edge is that of an issued ticket
  abbrev IsIssued : Root → Edge → Type 0
  IsIssued r e = 1 ≤ weigh (at_edge r e) (issued g a)

  abbrev HasIssued : Ticket N → Type 0
  HasIssued t = IsIssued t.root t.edge

  own_edge : (t : Ticket N) → at_edge t.root t.edge t ≡ 1
  own_edge t = rw (root_itself t.root t.root refl, path_itself t.edge.path, eq-eqb t.edge.id t.edge.id refl) refl

  issued_edges : AllByRecursion HasIssued (issued g a)
  issued_edges =
      each-weaker (λ (t : Ticket N). (f : Ticket N → ℕ) → f t ≤ weigh f (issued g a)) HasIssued
      (λ t few. let h = few (at_edge t.root t.edge) in let o = own_edge t in omega arith) (issued g a) (each-weighs (issued g a))

  -- two issued edges of one root and path are one
  same_id : (r : Root) (x y : Edge) → IsIssued r x → IsIssued r y → x.path ≡ y.path → x.id ≡ y.id
  same_id r x y first second path = cases (x.id == y.id) refl
    where
      both : (t : Ticket N) → (x.id == y.id) ≡ false → at_edge r x t + at_edge r y t ≤ is_at r x.path t
      both t apart = rw (← path) (sums (root_eq t.root r && path_eq t.edge.path x.path) (t.edge.id == x.id) (t.edge.id == y.id) (λ u v. true≢false (sym (eq-eqb x.id y.id (sym (eqb-true t.edge.id x.id u) ∙ eqb-true t.edge.id y.id v)) ∙ apart)))
        where
          sums : (c u v : Bool) → (u ≡ true → v ≡ true → ⊥) → cond (c && u) 1 0 + cond (c && v) 1 0 ≤ cond c 1 0
          sums true true true never = absurd (never refl refl)
          sums true true false never = omega arith
          sums true false true never = omega arith
          sums true false false never = omega arith
          sums false u v never = omega arith

      cases : (c : Bool) → (x.id == y.id) ≡ c → x.id ≡ y.id
      cases true is = eqb-true x.id y.id is
      cases false is =
          let few = once g a account r x.path in
          let le = weigh-le (λ t. at_edge r x t + at_edge r y t) (is_at r x.path) (λ t. both t is) (issued g a) in
          let s = weigh-plus (at_edge r x) (at_edge r y) (issued g a) in absurd (omega arith)

  -- the edges of an issued note are issued
  abbrev EdgesIssued : Note → Type 0
  EdgesIssued note = AllByRecursion (IsIssued note.root) (occurrences_in note.said)

  tickets_issued : (root : Root) (ts : List (Ticket N)) → AllByRecursion (λ (t : Ticket N). t.root ≡ root) ts → AllByRecursion HasIssued ts → AllByRecursion (IsIssued root) (edges_of ts)
  tickets_issued root [] roots all = tt
  tickets_issued root (t ∷ ts) roots all = (subst (λ (r : Root). IsIssued r t.edge) roots.0 all.0, tickets_issued root ts roots.1 all.1)

  made_roots : (u : Run N) → AllByRecursion (λ (t : Ticket N). t.root ≡ u.ticket.root) (made_of g u)
  made_roots u = elim (g.course u.ticket.root u.ticket.node) as (λ (c : Course). AllByRecursion (λ (t : Ticket N). t.root ≡ u.ticket.root) (made_by c (tickets_from u.ticket.root u.ticket.edge.path 0 (g.kids u.ticket.node) u.ids)))
      [ goes ↦ roots_of_tickets u.ticket.root u.ticket.edge.path 0 (g.kids u.ticket.node) u.ids | fails ↦ tt | mute ↦ tt ]

  -- a used ticket was issued
  used_issued : AllByRecursion (λ (u : Run N). HasIssued u.ticket) a.runs
  used_issued = each-map HasIssued (λ (u : Run N). u.ticket) a.runs (each-within (ticket_code coded) HasIssued (map (λ (u : Run N). u.ticket) a.runs) (issued g a) (used_within g a account) issued_edges)

  run_edges : (u : Run N) → HasIssued u.ticket → AllByRecursion HasIssued (made_of g u) → AllByRecursion EdgesIssued (notes_of g u)
  run_edges u used made = elim (g.course u.ticket.root u.ticket.node) as (λ (c : Course). AllByRecursion EdgesIssued (notes_by g u c))
      [ goes ↦ ((used, tickets_issued u.ticket.root (made_of g u) (made_roots u) made), tt) | fails ↦ (tt, tt) | mute ↦ tt ]

  notes_edges : AllByRecursion EdgesIssued (issued_notes g a)
  notes_edges =
      each-append EdgesIssued (map (init_note g) a.begun) (flat_map (notes_of g) a.runs)
      (each-to_map EdgesIssued (init_note g) a.begun
      (each-weaker (λ b. AllByRecursion HasIssued (first_tickets g b)) (λ b. EdgesIssued (init_note g b)) (λ b all. tickets_issued b.root (first_tickets g b) (roots_of_tickets b.root [] 0 (g.firsts b.root) b.ids) all) a.begun
      (each-parts HasIssued (first_tickets g) a.begun (each-front HasIssued (flat_map (first_tickets g) a.begun) (flat_map (made_of g) a.runs) issued_edges))))
      (each-flat_map EdgesIssued (notes_of g) a.runs
      (each-weaker (λ (u : Run N). HasIssued u.ticket × AllByRecursion HasIssued (made_of g u)) (λ (u : Run N). AllByRecursion EdgesIssued (notes_of g u)) (λ u both. run_edges u both.0 both.1) a.runs
      (each-both (λ (u : Run N). HasIssued u.ticket) (λ (u : Run N). AllByRecursion HasIssued (made_of g u)) a.runs used_issued
      (each-parts HasIssued (made_of g) a.runs (each-back HasIssued (flat_map (first_tickets g) a.begun) (flat_map (made_of g) a.runs) issued_edges)))))

  -- ---- single

  init_count : (r : Root) → weigh (of_root r is_init) (issued_notes g a) ≤ 1
  init_count r =
      let f : Note → ℕ = of_root r is_init in
      let x = weigh-append f (map (init_note g) a.begun) (flat_map (notes_of g) a.runs) in
      let y = weigh-map f (init_note g) a.begun in
      let z = weigh-flat_map f (notes_of g) a.runs in
      let none = weigh-zero (λ (u : Run N). weigh f (notes_of g u)) (λ u. no_init u (g.course u.ticket.root u.ticket.node)) a.runs in
      let d = account.distinct r in omega arith
    where
      nothing : (t : Bool) → ◌≡◌ {A = ℕ} (cond t 0 0 + 0) 0
      nothing true = omega arith
      nothing false = omega arith

      no_init : (u : Run N) (c : Course) → weigh (of_root r is_init) (notes_by g u c) ≡ 0
      no_init u goes = nothing (root_eq u.ticket.root r)
      no_init u fails = nothing (root_eq u.ticket.root r)
      no_init u mute = refl

  consumed_count : (r : Root) (path : List ℕ) → weigh (of_root r (consumes path)) (issued_notes g a) ≤ 1
  consumed_count r path =
      let f : Note → ℕ = of_root r (consumes path) in
      let x = weigh-append f (map (init_note g) a.begun) (flat_map (notes_of g) a.runs) in
      let y = weigh-map f (init_note g) a.begun in
      let z = weigh-zero (λ (b : Begun). f (init_note g b)) (λ b. nothing (root_eq b.root r)) a.begun in
      let c = weigh-flat_map f (notes_of g) a.runs in
      let l = weigh-le (λ (u : Run N). weigh f (notes_of g u)) (λ (u : Run N). is_at r path u.ticket) (λ u. some u (g.course u.ticket.root u.ticket.node)) a.runs in
      let w = account.balanced (is_at r path) in
      let o = once g a account r path in omega arith
    where
      nothing : (t : Bool) → ◌≡◌ {A = ℕ} (cond t 0 0) 0
      nothing true = refl
      nothing false = refl

      both : (t c : Bool) → cond t (cond c 1 0) 0 + 0 ≤ cond (t && c) 1 0
      both true true = omega arith
      both true false = omega arith
      both false c = omega arith

      less : (t c : Bool) → cond t 0 0 + 0 ≤ cond (t && c) 1 0
      less true true = omega arith
      less true false = omega arith
      less false c = omega arith

      some : (u : Run N) (c : Course) → weigh (of_root r (consumes path)) (notes_by g u c) ≤ is_at r path u.ticket
      some u goes = both (root_eq u.ticket.root r) (path_eq u.ticket.edge.path path)
      some u fails = less (root_eq u.ticket.root r) (path_eq u.ticket.edge.path path)
      some u mute = omega arith

  -- ---- a list within what was said of a root

  module _ (r : Root) (list : List Message) (within : Within list (said_about r (issued_notes g a))) where
    pub list_true : AreTrueOf g r list
    list_true =
        each-within message_code (IsTrueOf g r) list (said_about r (issued_notes g a)) within
        (each-said_about r (IsTrueOf g r) (issued_notes g a)
        (each-weaker (IsTrueNote g) (λ (n : Note). n.root ≡ r → IsTrueOf g r n.said) (λ n is_true same. subst (λ (q : Root). IsTrueOf g q n.said) same is_true) (issued_notes g a) issued_true))

    pub list_single : IsSingle list
    list_single = record {
      begins = let w = within is_init in let e = weigh-said_about r is_init (issued_notes g a) in let c = init_count r in omega arith;
      consumed = λ path. let w = within (consumes path) in let e = weigh-said_about r (consumes path) (issued_notes g a) in let c = consumed_count r path in omega arith;
    }

    list_edges : AllByRecursion (IsIssued r) (occurrences list)
    list_edges =
        each-flat_map (IsIssued r) occurrences_in list
        (each-within message_code (λ (m : Message). AllByRecursion (IsIssued r) (occurrences_in m)) list (said_about r (issued_notes g a)) within
        (each-said_about r (λ (m : Message). AllByRecursion (IsIssued r) (occurrences_in m)) (issued_notes g a)
        (each-weaker EdgesIssued (λ (n : Note). n.root ≡ r → AllByRecursion (IsIssued r) (occurrences_in n.said)) (λ n edges same. subst (λ (q : Root). AllByRecursion (IsIssued q) (occurrences_in n.said)) same edges) (issued_notes g a) notes_edges)))

    pub list_steady : IsSteady list
    list_steady = each-weaker (IsIssued r) (λ (x : Edge). AllByRecursion (λ (y : Edge). x.path ≡ y.path → x.id ≡ y.id) (occurrences list))
        (λ x first. each-weaker (IsIssued r) (λ (y : Edge). x.path ≡ y.path → x.id ≡ y.id) (λ y second. same_id r x y first second) (occurrences list) list_edges) (occurrences list) list_edges

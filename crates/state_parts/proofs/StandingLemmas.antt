-- Commits move all parts on, and the tables of parts that stand are those of the writes.
use Rattle.std.proofs.Common.{◌≡◌, ◌+◌, ◌==◌, ◌&&◌, ℕ, Bool, true, false, cond, List, [], ◌∷◌, ◌++◌, map, filter, All, Option, refl, sym, subst, eqb-true, true≢false}
use Rattle.std.proofs.lemmas.List.Elements.{All-cons, All-head, All-nil, All-tail, All-weaker, filter-append}
use Rattle.std.specs.Str.{bytes_eq}
use Rattle.std.specs.Cmp.Lexicographic.{bytes_decides}
use Rattle.storm_stores.specs.CellMaps.{CellMap, cell_at}
use Rattle.tree_model.specs.bolt_ops.RowOp.{Custom}
use Rattle.tree_model.specs.Tables.{folded}
use Rattle.tree_model.specs.storm_values.declared.value.Root.{Root}
use Rattle.tree_model.specs.topology_plan.Topology.{Topology, tasks_of}
use Rattle.tree_model.specs.declared.write.Write.{Write}
use Rattle.cell_format.specs.Commits.{amounts_at}
use Rattle.cell_format.specs.Standing.{AreOwn, IsKeyOf, IsWithin, Stands}
use Rattle.cell_format.proofs.CommitLemmas.{Stands-begun, Stands-moved, Stands-none}
use Rattle.state_parts.specs.declared.parts.StatePart.{StatePart}
use Rattle.state_parts.specs.Commits.{AreCommitted, ArePerhapsCommitted, Committed, PerhapsCommitted, is_for_part, own_writes}
use Rattle.state_parts.specs.PartPlans.{PartPlan, plan_of}
use Rattle.state_parts.specs.Standing.{AllAreAt, AllStand, ArePlaced, IsEmpty, IsPlaced, PartIsAt, PartStands}

-- ---- the writes of one part

pub for_numbers : (c p : ℕ) (write : Write) → is_for_part c p write ≡ true → (write.state ≡ c) × (write.part ≡ p)
for_numbers c p write is = cases (write.state == c) refl is
  where
    cases : (b : Bool) → (write.state == c) ≡ b → (b && (write.part == p)) ≡ true → (write.state ≡ c) × (write.part ≡ p)
    cases true state part = (eqb-true write.state c state, eqb-true write.part p part)
    cases false state part = absurd (true≢false (sym part))

-- what is written in a part is written at the part of its key
placed_own : (t : Topology) (c p : ℕ) (writes : List Write) → ArePlaced t writes → AreOwn (tasks_of t c) p (filter (is_for_part c p) writes)
placed_own t c p [] placed key some = absurd (some refl)
placed_own t c p (write ∷ writes) placed key some = cases (is_for_part c p write) refl some (placed_own t c p writes (All-tail (IsPlaced t) write writes placed) key)
  where
    here : is_for_part c p write ≡ true → key ≡ write.key → IsKeyOf (tasks_of t c) p key
    here own same =
        let numbers = for_numbers c p write own in
        let place : IsKeyOf (tasks_of t write.state) write.part write.key = All-head (IsPlaced t) write writes placed in
        subst (λ (k : List ℕ). IsKeyOf (tasks_of t c) p k) (sym same)
        (subst (λ (n : ℕ). IsKeyOf (tasks_of t c) n write.key) numbers.1 (subst (λ (n : ℕ). IsKeyOf (tasks_of t n) write.part write.key) numbers.0 place))

    among : (b : Bool) → bytes_eq key write.key ≡ b → is_for_part c p write ≡ true
        → (map (λ (w : Write). w.amount) (cond b (write ∷ filter (λ (w : Write). bytes_eq key w.key) (filter (is_for_part c p) writes)) (filter (λ (w : Write). bytes_eq key w.key) (filter (is_for_part c p) writes))) ≡ [] → ⊥)
        → ((amounts_at (filter (is_for_part c p) writes) key ≡ [] → ⊥) → IsKeyOf (tasks_of t c) p key) → IsKeyOf (tasks_of t c) p key
    among true is own more later = here own ((bytes_decides key write.key).0 is)
    among false is own more later = later more

    cases : (b : Bool) → is_for_part c p write ≡ b → (amounts_at (cond b (write ∷ filter (is_for_part c p) writes) (filter (is_for_part c p) writes)) key ≡ [] → ⊥)
        → ((amounts_at (filter (is_for_part c p) writes) key ≡ [] → ⊥) → IsKeyOf (tasks_of t c) p key) → IsKeyOf (tasks_of t c) p key
    cases true is more later = among (bytes_eq key write.key) refl is more later
    cases false is more later = later more

-- ---- one part

module _ {S : Type 0} (tells : S → CellMap → Type 0) (t : Topology) (custom : Custom) where
  empty_begins : (next : List Write) (at : StatePart S) → IsEmpty tells at → PartIsAt tells t custom 0 [] next at
  empty_begins next at empty = record {
    cells = [];
    told = empty;
    stands = Stands-none at.over.kind (folded custom at.over.by) (tasks_of t at.component) at.part (own_writes next at);
    within = λ key cell holds. absurd holds.bytes;
  }

  pub all_begin : (next : List Write) (parts : List (StatePart S)) → All (IsEmpty tells) parts → AllAreAt tells t custom 0 [] next parts
  all_begin next parts empty = All-weaker (IsEmpty tells) (PartIsAt tells t custom 0 [] next) (λ at is. empty_begins next at is) parts empty

  stands_too : (n : ℕ) (done next : List Write) (at : StatePart S) → PartIsAt tells t custom n done next at → PartStands tells t custom n done next at
  stands_too n done next at is = record { cells = is.cells; told = is.told; stands = is.stands }

  pub all_stand : (n : ℕ) (done next : List Write) (parts : List (StatePart S)) → AllAreAt tells t custom n done next parts → AllStand tells t custom n done next parts
  all_stand n done next parts are = All-weaker (PartIsAt tells t custom n done next) (PartStands tells t custom n done next) (λ at is. stands_too n done next at is) parts are

  -- how a part stands by its numbers, kind and fold alone
  abbrev StandsBy : ℕ → List Write → List Write → (List ℕ → Option (List ℕ)) → PartPlan → Type 0
  StandsBy n done next held p = Stands p.kind (folded custom p.by) (tasks_of t p.component) p.part n (filter (is_for_part p.component p.part) done) (filter (is_for_part p.component p.part) next) held

  one_moved : (n : ℕ) (root : Root) (next_is : root.txid ≡ n + 1) (done next more : List Write) (old new : StatePart S) → ArePlaced t next → PartStands tells t custom n done next old → Committed tells custom root (own_writes next old) old new → PartIsAt tells t custom (n + 1) (done ++ next) more new
  one_moved n root next_is done next more old new placed stands committed =
      let x = committed.turns.to stands.cells stands.told in
      let moved = Stands-moved old.over.kind (folded custom old.over.by) (tasks_of t old.component) old.part n root next_is (own_writes done old) (own_writes next old) (cell_at stands.cells) (cell_at x.0) (own_writes more old) stands.stands
      (placed_own t old.component old.part next placed) x.2 in
      let joined : own_writes done old ++ own_writes next old ≡ own_writes (done ++ next) old = sym (filter-append (is_for_part old.component old.part) done next) in
      let as_old : StandsBy (n + 1) (done ++ next) more (cell_at x.0) (plan_of old) =
      subst (λ (ws : List Write). Stands old.over.kind (folded custom old.over.by) (tasks_of t old.component) old.part (n + 1) ws (own_writes more old) (cell_at x.0)) joined moved.0 in
      record {
        cells = x.0;
        told = x.1;
        stands = subst (λ (p : PartPlan). StandsBy (n + 1) (done ++ next) more (cell_at x.0) p) (sym committed.plan) as_old;
        within = subst (λ (p : PartPlan). IsWithin p.kind (n + 1) (cell_at x.0)) (sym committed.plan) moved.1;
      }

  one_begun : (n : ℕ) (root : Root) (next_is : root.txid ≡ n + 1) (done next : List Write) (old new : StatePart S) → ArePlaced t next → PartStands tells t custom n done next old → PerhapsCommitted tells custom root (own_writes next old) old new → PartStands tells t custom n done next new
  one_begun n root next_is done next old new placed stands committed =
      let x = committed.turns.to stands.cells stands.told in
      let as_old : StandsBy n done next (cell_at x.0) (plan_of old) =
      Stands-begun old.over.kind (folded custom old.over.by) (tasks_of t old.component) old.part n root next_is (own_writes done old) (own_writes next old) (cell_at stands.cells) (cell_at x.0) stands.stands
      (placed_own t old.component old.part next placed) x.2 in
      record {
        cells = x.0;
        told = x.1;
        stands = subst (λ (p : PartPlan). StandsBy n done next (cell_at x.0) p) (sym committed.plan) as_old;
      }

  module _ (n : ℕ) (root : Root) (next_is : root.txid ≡ n + 1) (done next : List Write) (placed : ArePlaced t next) where
    pub all_moved : (more : List Write) (old new : List (StatePart S)) → AllStand tells t custom n done next old → AreCommitted tells custom root next old new → AllAreAt tells t custom (n + 1) (done ++ next) more new
    all_moved more [] [] stand committed = All-nil (PartIsAt tells t custom (n + 1) (done ++ next) more)
    all_moved more [] (y ∷ new) stand committed = absurd committed
    all_moved more (x ∷ old) [] stand committed = absurd committed
    all_moved more (x ∷ old) (y ∷ new) stand committed =
        All-cons (PartIsAt tells t custom (n + 1) (done ++ next) more) y new (one_moved n root next_is done next more x y placed (All-head (PartStands tells t custom n done next) x old stand) committed.0)
        (all_moved more old new (All-tail (PartStands tells t custom n done next) x old stand) committed.1)

    pub all_begun : (old new : List (StatePart S)) → AllStand tells t custom n done next old → ArePerhapsCommitted tells custom root next old new → AllStand tells t custom n done next new
    all_begun [] [] stand committed = All-nil (PartStands tells t custom n done next)
    all_begun [] (y ∷ new) stand committed = absurd committed
    all_begun (x ∷ old) [] stand committed = absurd committed
    all_begun (x ∷ old) (y ∷ new) stand committed =
        All-cons (PartStands tells t custom n done next) y new (one_begun n root next_is done next x y placed (All-head (PartStands tells t custom n done next) x old stand) committed.0)
        (all_begun old new (All-tail (PartStands tells t custom n done next) x old stand) committed.1)

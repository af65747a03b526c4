-- What is known of a maker by the parts over its stores: before a run, and when they came back.
use Rattle.std.proofs.Common.{◌≡◌, ◌≤◌, ◌+◌, ◌⊎◌, inl, inr, Result, Ok, Err, OnErr, ℕ, zero, suc, List, [], ◌∷◌, All, length, map, Option, None, Some, IsSome, slice_get, rules, refl, sym, ap, subst, ◌∙◌, append-nil, arith}
use Rattle.std.specs.List.{AllByRecursion, AllZip}
use Rattle.std.proofs.lemmas.List.Elements.{All-from_recursion, All-weaker, recursion_from_All}
use Rattle.batch_commits.specs.Standing.{HasStrangeAt, HoldAll, IsNextBatch, IsStrange, PartsStand, writes_at, writes_of}
use Rattle.event_worlds.specs.tree_model.Tables.{folded}
use Rattle.event_worlds.specs.bolt_ops.RowOp.{Custom}
use Rattle.cell_format.proofs.CommitLemmas.{Stands-none}
use Rattle.cell_format.specs.Commits.{Holds}
use Rattle.cell_format.specs.Standing.{Stands}
use Rattle.cell_format.specs.declared.cell.Cell.{Cell}
use Rattle.event_worlds.proofs.counted_items.Each.{each-map, each-to_map}
use Rattle.event_worlds.specs.record_spans.declared.span.Span.{Span}
use Rattle.schedule_core.specs.Driving.{AreKept, StillTells}
use Rattle.event_worlds.specs.state_parts.Commits.{SameCounts}
use Rattle.event_worlds.specs.state_parts.declared.parts.StatePart.{StatePart}
use Rattle.event_worlds.specs.state_parts.Makers.{AreMade, Began, CameBack as PartCameBack, HasNotFailed, faults_of}
use Rattle.event_worlds.specs.state_parts.PartPlans.{AreParts, IsOneOf, PartPlan, plan_of, planned_parts, plans_of}
use Rattle.event_worlds.specs.state_parts.PartTables.{AreRead, IsRead}
use Rattle.event_worlds.specs.state_parts.Standing.{IsEmpty, PartIsAt, PartStands}
use Rattle.state_cells.specs.Turns.{IsBad}
use Rattle.stored_runs.specs.Makers.{AllStandAt, BeganEmpty, CameBack, HadStrangeAt, HadTextKeys, HoldsStrangeAt, MapsStand, MapsStood, StandsAt, StillTold, maker_use, writes_of_part}
use Rattle.stored_runs.specs.StoredRuns.{StandAtCommits}
use Rattle.storm_stores.specs.CellMaps.{CellMap, cell_at}
use Rattle.event_worlds.specs.storm_values.Counts.{raised_by}
use Rattle.event_worlds.specs.topology_plan.declared.parts.Kind.{Kind}
use Rattle.event_worlds.specs.topology_plan.Topology.{Topology, tasks_of}
use Rattle.event_worlds.specs.tree_model.declared.write.Write.{Write}
use Rattle.event_worlds.specs.tree_model.Trees.{nodes_of}
use Rattle.event_worlds.specs.taken_records.Cuts.{Cut}
use Rattle.event_worlds.specs.taken_records.Taken.{batch_spans}

-- What the calls of a body told of a maker and of the parts: it made the parts, a run went over
-- them, they were read, and their stores went back.
pub record Lent {S M : Type 0} (tells : S → CellMap → Type 0) (count : S → ℕ)
    (holds : M → ℕ → ℕ → CellMap → Type 0) (faults : M → ℕ) (t : Topology) (old mid new : M)
    (made ran closed : List (StatePart S)) : Type 0 where
  pub planned : AreParts t made
  pub began : All (Began tells holds old) made
  pub no_fault : All (HasNotFailed count) made
  pub others_out : (c p : ℕ) (cells : CellMap) → (IsOneOf (plans_of made) c p → ⊥)
      → holds old c p cells → holds mid c p cells
  pub same_count : faults mid ≡ faults old
  pub kept : AreKept tells made ran
  pub read : AreRead tells count ran closed
  pub plans : plans_of closed ≡ plans_of ran
  pub back : All (PartCameBack tells holds new) closed
  pub others_back : (c p : ℕ) (cells : CellMap) → (IsOneOf (plans_of closed) c p → ⊥)
      → holds mid c p cells → holds new c p cells
  pub counted : faults new ≡ raised_by (faults mid) (faults_of count closed)
  pub never_falls : faults mid ≤ faults new

-- ---- lists

-- what holds of the plan of each part holds of each planned part
pub to_planned : {S : Type 0} (P : PartPlan → Type 0) (t : Topology) (parts : List (StatePart S))
    → AreParts t parts → AllByRecursion (λ (at : StatePart S). P (plan_of at)) parts
    → All P (planned_parts t)
to_planned P t parts planned each =
    subst (All P) planned
    (All-from_recursion P (plans_of parts) (each-to_map P (λ at. plan_of at) parts each))

-- and the other way
pub from_planned : {S : Type 0} (P : PartPlan → Type 0) (t : Topology) (parts : List (StatePart S))
    → AreParts t parts → All P (planned_parts t)
    → AllByRecursion (λ (at : StatePart S). P (plan_of at)) parts
from_planned P t parts planned all =
    each-map P (λ at. plan_of at) parts
    (recursion_from_All P (plans_of parts) (subst (All P) (sym planned) all))

pub at_map : {X Y : Type 0} (f : X → Y) (xs : List X) (i : ℕ) (x : X) → slice_get xs i ≡ Some x
    → slice_get (map f xs) i ≡ Some (f x)
at_map f [] i x is = absurd (none is)
  where
    none : None ≡ Some x → ⊥
    none e = cc
at_map f (y ∷ ys) zero x is = ap Some (ap f (same is))
  where
    same : Some y ≡ Some x → y ≡ x
    same e = cc
at_map f (y ∷ ys) (suc i) x is = at_map f ys i x is

pub each-get : {X : Type 0} (P : X → Type 0) (xs : List X) (i : ℕ) (x : X) → AllByRecursion P xs
    → slice_get xs i ≡ Some x → P x
each-get P [] i x each is = absurd (none is)
  where
    none : None ≡ Some x → ⊥
    none e = cc
each-get P (y ∷ ys) zero x each is = subst P (same is) each.0
  where
    same : Some y ≡ Some x → y ≡ x
    same e = cc
each-get P (y ∷ ys) (suc i) x each is = each-get P ys i x each.1 is

-- parts that were left alone were read
pub are_read : {S : Type 0} (tells : S → CellMap → Type 0) (count : S → ℕ)
    (parts : List (StatePart S)) → AreRead tells count parts parts
are_read tells count [] = tt
are_read tells count (x ∷ xs) = (
  record { plan = refl; same = λ cells told. told; never_falls = omega arith },
  are_read tells count xs,
)

-- and none of their stores failed
pub have_same_counts : {S : Type 0} (count : S → ℕ) (parts : List (StatePart S))
    → SameCounts count parts parts
have_same_counts count [] = tt
have_same_counts count (x ∷ xs) = (refl, have_same_counts count xs)

-- stores were made for parts that are the same as those that were made
pub still_made : {S M : Type 0} (made : M → ℕ → ℕ → Type 0) (maker : M)
    (parts ran closed : List (StatePart S)) → plans_of ran ≡ plans_of parts
    → plans_of closed ≡ plans_of ran → AreMade made maker (plans_of parts)
    → AreMade made maker (plans_of closed)
still_made made maker parts ran closed first then are =
    subst (AreMade made maker) (sym (then ∙ first)) are

-- ---- before the run

-- no key of no cells is strange
no_strange : (kind : Kind) (key : List ℕ) → IsStrange kind key (cell_at [] key) → ⊥
no_strange kind key (inl bad) = bad
no_strange kind key (inr some) = has_none (cell_at [] key) refl some.0
  where
    has_none : (o : Option (List ℕ)) → o ≡ None → IsSome o → ⊥
    has_none None same is = search rules
    has_none (Some x) same is = cc

-- bytes that are some cell's are not refused
not_bad : (kind : Kind) (held : Option (List ℕ)) (cell : Option Cell) → Holds kind held cell
    → IsBad kind held → ⊥
not_bad kind None cell holds bad = bad
not_bad kind (Some bytes) None holds bad = holds.bytes
not_bad kind (Some bytes) (Some cell) holds bad = bad cell holds.good holds.bytes

module _ {S M : Type 0} (tells : S → CellMap → Type 0) (count : S → ℕ)
    (holds : M → ℕ → ℕ → CellMap → Type 0) (made : M → ℕ → ℕ → Type 0) (faults : M → ℕ)
    (t : Topology) (old new : M) where
  empty_each : (parts : List (StatePart S)) → AllByRecursion (Began tells holds old) parts
      → AllByRecursion (λ (at : StatePart S). holds old at.component at.part []) parts
      → AllByRecursion (IsEmpty tells) parts
  empty_each [] began empty = tt
  empty_each (x ∷ xs) began empty = (began.0 [] empty.0, empty_each xs began.1 empty.1)

  -- stores of parts that had no cells are empty
  pub are_empty : (parts : List (StatePart S)) → AreParts t parts
      → All (Began tells holds old) parts
      → BeganEmpty t (maker_use tells count holds made faults old new) → All (IsEmpty tells) parts
  are_empty parts planned began empty =
      All-from_recursion (IsEmpty tells) parts
      (empty_each parts (recursion_from_All (Began tells holds old) parts began)
      (from_planned (λ (part : PartPlan). holds old part.component part.part []) t parts planned
      empty))

  module _ (custom : Custom) (cut : Cut) (batches : List (List Span)) (spans : List Span) where
    one_stood : (x : StatePart S) → Began tells holds old x
        → StandsAt t custom cut batches spans (holds old) (plan_of x)
        → PartStands tells t custom (length batches) (writes_of t custom cut batches)
        (writes_at t custom cut spans) x
    one_stood x began at =
        record { cells = at.cells; told = began at.cells at.told; stands = at.stands }

    one_was : HoldAll cut batches → (x : StatePart S) → Began tells holds old x
        → StandsAt t custom cut batches spans (holds old) (plan_of x)
        → PartIsAt tells t custom (length batches) (writes_of t custom cut batches)
        (writes_at t custom cut spans) x
    one_was all x began at = record {
      cells = at.cells;
      told = began at.cells at.told;
      stands = at.stands;
      within = at.within all;
    }

    stood_each : (xs : List (StatePart S)) → AllByRecursion (Began tells holds old) xs
        → AllByRecursion
        (λ (x : StatePart S). StandsAt t custom cut batches spans (holds old) (plan_of x)) xs
        → AllByRecursion
        (PartStands tells t custom (length batches) (writes_of t custom cut batches)
        (writes_at t custom cut spans)) xs
    stood_each [] began at = tt
    stood_each (x ∷ xs) began at = (one_stood x began.0 at.0, stood_each xs began.1 at.1)

    was_each : HoldAll cut batches → (xs : List (StatePart S))
        → AllByRecursion (Began tells holds old) xs
        → AllByRecursion
        (λ (x : StatePart S). StandsAt t custom cut batches spans (holds old) (plan_of x)) xs
        → AllByRecursion
        (PartIsAt tells t custom (length batches) (writes_of t custom cut batches)
        (writes_at t custom cut spans)) xs
    was_each all [] began at = tt
    was_each all (x ∷ xs) began at = (one_was all x began.0 at.0, was_each all xs began.1 at.1)

  -- parts that were made of what the maker held stand where its maps stood
  pub parts_stood : (custom : Custom) (cut : Cut) (batches : List (List Span))
      (parts : List (StatePart S)) → AreParts t parts → All (Began tells holds old) parts
      → MapsStood t custom cut batches (maker_use tells count holds made faults old new)
      → PartsStand tells t custom cut batches parts
  parts_stood custom cut batches parts planned began stood = record {
    stand = λ spans next.
        All-from_recursion
        (PartStands tells t custom (length batches) (writes_of t custom cut batches)
        (writes_at t custom cut spans)) parts
        (stood_each custom cut batches spans parts
        (recursion_from_All (Began tells holds old) parts began)
        (from_planned (StandsAt t custom cut batches spans (holds old)) t parts planned
        (stood spans next)));
    at_end = λ all spans next.
        All-from_recursion
        (PartIsAt tells t custom (length batches) (writes_of t custom cut batches)
        (writes_at t custom cut spans)) parts
        (was_each custom cut batches spans all parts
        (recursion_from_All (Began tells holds old) parts began)
        (from_planned (StandsAt t custom cut batches spans (holds old)) t parts planned
        (stood spans next)));
  }

  -- a part with a strange cell had it where it was made of what the maker held
  pub had_strange : (parts : List (StatePart S)) (key : List ℕ) → AreParts t parts
      → All (Began tells holds old) parts → HasStrangeAt tells parts key
      → HadStrangeAt t (maker_use tells count holds made faults old new) key
  had_strange parts key planned began has =
      let part_began = each-get (Began tells holds old) parts has.place has.at
      (recursion_from_All (Began tells holds old) parts began) has.is_at in
      record {
        place = has.place;
        part = plan_of has.at;
        at = subst (λ (plans : List PartPlan). slice_get plans has.place ≡ Some (plan_of has.at))
            planned (at_map (λ at. plan_of at) parts has.place has.at has.is_at);
        strange = λ cells held. has.strange cells (part_began cells held);
      }

  -- maps that stood had no cell that no part takes, and so none that is strange where keys are texts
  pub not_strange_stood : (custom : Custom) (cut : Cut) (batches : List (List Span))
      (key : List ℕ)
      → MapsStood t custom cut batches (maker_use tells count holds made faults old new)
      → HadTextKeys t (maker_use tells count holds made faults old new)
      → HadStrangeAt t (maker_use tells count holds made faults old new) key → ⊥
  not_strange_stood custom cut batches key stood texts had =
      let spans : List Span = batch_spans (length cut.gone) cut.size (length batches + 1) in
      let at : StandsAt t custom cut batches spans (holds old) had.part =
      each-get (StandsAt t custom cut batches spans (holds old)) (planned_parts t) had.place had.part
      (recursion_from_All (StandsAt t custom cut batches spans (holds old)) (planned_parts t)
      (stood spans (λ none. refl))) had.at in
      by (cell_at at.cells key) (at.stands.keys key).cell (at.stands.keys key).is
      (had.strange at.cells at.told)
    where
      by : (held : Option (List ℕ)) (cell : Option Cell) → Holds had.part.kind held cell
          → IsStrange had.part.kind key held → ⊥
      by held cell holds (inl bad) = not_bad had.part.kind held cell holds bad
      by held cell holds (inr strange) = texts key strange.1 had

  -- no maker that told of no cell had a strange one
  pub not_strange : (key : List ℕ) → BeganEmpty t (maker_use tells count holds made faults old new)
      → HadStrangeAt t (maker_use tells count holds made faults old new) key → ⊥
  not_strange key empty had =
      let held = each-get (λ (part : PartPlan). holds old part.component part.part [])
      (planned_parts t) had.place had.part
      (recursion_from_All (λ (part : PartPlan). holds old part.component part.part [])
      (planned_parts t) empty) had.at in
      no_strange had.part.kind key (had.strange [] held)

-- ---- after it

module _ {S M : Type 0} (tells : S → CellMap → Type 0) (count : S → ℕ)
    (holds : M → ℕ → ℕ → CellMap → Type 0) (made : M → ℕ → ℕ → Type 0) (faults : M → ℕ)
    (t : Topology) (old mid new : M) where
  one_told : (x y z : StatePart S) → plan_of z ≡ plan_of x → Began tells holds old x
      → StillTells tells x y → IsRead tells count y z → PartCameBack tells holds new z
      → StillTold (maker_use tells count holds made faults old new) (plan_of x)
  one_told x y z plan began told read back =
      λ cells held.
      let after = told cells (began cells held) in (
        after.0,
        subst (λ (part : PartPlan). holds new part.component part.part after.0) plan
            (back after.0 (read.same after.0 after.1)),
      )

  told_each : (xs ys zs : List (StatePart S)) → plans_of ys ≡ plans_of xs
      → plans_of zs ≡ plans_of ys → AllByRecursion (Began tells holds old) xs
      → AllZip (StillTells tells) xs ys → AllZip (IsRead tells count) ys zs
      → AllByRecursion (PartCameBack tells holds new) zs
      → AllByRecursion
      (λ (x : StatePart S). StillTold (maker_use tells count holds made faults old new) (plan_of x)) xs
  told_each [] ys zs first then began told read back = tt
  told_each (x ∷ xs) [] zs first then began told read back = absurd told
  told_each (x ∷ xs) (y ∷ ys) [] first then began told read back = absurd read
  told_each (x ∷ xs) (y ∷ ys) (z ∷ zs) first then began told read back =
      let plan : plan_of z ≡ plan_of x = cc in
      let plans : plans_of ys ≡ plans_of xs = cc in
      let after : plans_of zs ≡ plans_of ys = cc in (
        one_told x y z plan began.0 told.0 read.0 back.0,
        told_each xs ys zs plans after began.1 told.1 read.1 back.1,
      )

  -- all stores came back
  pub came_back : (parts ran closed : List (StatePart S))
      → Lent tells count holds faults t old mid new parts ran closed
      → CameBack t (maker_use tells count holds made faults old new)
  came_back parts ran closed lent = record {
    told =
        to_planned (StillTold (maker_use tells count holds made faults old new)) t parts lent.planned
        (told_each parts ran closed lent.kept.plans lent.plans
        (recursion_from_All (Began tells holds old) parts lent.began) lent.kept.told lent.read
        (recursion_from_All (PartCameBack tells holds new) closed lent.back));
    others = λ c p cells none held.
        let of_made : IsOneOf (plans_of parts) c p → ⊥ =
        subst (λ (plans : List PartPlan). IsOneOf plans c p → ⊥) (sym lent.planned) none in
        let of_closed : IsOneOf (plans_of closed) c p → ⊥ =
        subst (λ (plans : List PartPlan). IsOneOf plans c p → ⊥)
        (sym (lent.plans ∙ lent.kept.plans ∙ lent.planned)) none in
        lent.others_back c p cells of_closed (lent.others_out c p cells of_made held);
    never_falls = let up = lent.never_falls in let same = lent.same_count in omega arith;
  }

  -- ---- strange cells

  -- cells that are strange at a key, where they are told
  abbrev AreStrange : (CellMap → Type 0) → Kind → List ℕ → Type 0
  AreStrange told kind key = (cells : CellMap) → told cells → IsStrange kind key (cell_at cells key)

  one_strange : (key : List ℕ) (y z : StatePart S) (part : PartPlan) → plan_of z ≡ plan_of y
      → plan_of y ≡ part → IsRead tells count y z → PartCameBack tells holds new z
      → AreStrange (holds new part.component part.part) part.kind key
      → AreStrange (tells y.over.store) y.over.kind key
  one_strange key y z part then is read back strange = λ cells told.
      let held : holds new z.component z.part cells = back cells (read.same cells told) in
      subst (λ (p : PartPlan). IsStrange p.kind key (cell_at cells key)) (sym is)
      (strange cells
      (subst (λ (p : PartPlan). holds new p.component p.part cells) (then ∙ is) held))

  strange_each : (key : List ℕ) (part : PartPlan)
      → AreStrange (holds new part.component part.part) part.kind key
      → (ys zs : List (StatePart S)) → plans_of zs ≡ plans_of ys
      → AllZip (IsRead tells count) ys zs → AllByRecursion (PartCameBack tells holds new) zs
      → (place : ℕ) → slice_get (plans_of ys) place ≡ Some part
      → (at : StatePart S) × (slice_get ys place ≡ Some at)
      × AreStrange (tells at.over.store) at.over.kind key
  strange_each key part strange [] zs then read back place is = absurd (no_part is)
    where
      no_part : None ≡ Some part → ⊥
      no_part e = cc
  strange_each key part strange (y ∷ ys) [] then read back place is = absurd read
  strange_each key part strange (y ∷ ys) (z ∷ zs) then read back zero is =
      let plan : plan_of z ≡ plan_of y = cc in
      let same : plan_of y ≡ part = cc in
      (y, refl, one_strange key y z part plan same read.0 back.0 strange)
  strange_each key part strange (y ∷ ys) (z ∷ zs) then read back (suc place) is =
      let plans : plans_of zs ≡ plans_of ys = cc in
      strange_each key part strange ys zs plans read.1 back.1 place is

  -- a strange cell of a map that came back was in a part
  pub part_strange : (key : List ℕ) (parts ran closed : List (StatePart S))
      → Lent tells count holds faults t old mid new parts ran closed
      → HoldsStrangeAt t (maker_use tells count holds made faults old new) key
      → HasStrangeAt tells ran key
  part_strange key parts ran closed lent has =
      let found = strange_each key has.part has.strange ran closed lent.plans lent.read
      (recursion_from_All (PartCameBack tells holds new) closed lent.back) has.place
      (subst (λ (plans : List PartPlan). slice_get plans has.place ≡ Some has.part)
      (sym (lent.kept.plans ∙ lent.planned)) has.at) in
      record { place = has.place; at = found.0; is_at = found.1; strange = found.2 }

  module _ (custom : Custom) (cut : Cut) (batches : List (List Span)) where
    module _ (spans : List Span) where
      abbrev StandsThere : StatePart S → Type 0
      StandsThere =
          PartStands tells t custom (length batches) (writes_of t custom cut batches)
          (writes_at t custom cut spans)

      abbrev IsThere : StatePart S → Type 0
      IsThere =
          PartIsAt tells t custom (length batches) (writes_of t custom cut batches)
          (writes_at t custom cut spans)

      abbrev ComesThere : StatePart S → Type 0
      ComesThere y = StandsAt t custom cut batches spans (holds new) (plan_of y)

      one_stands : (y z : StatePart S) → plan_of z ≡ plan_of y → StandsThere y
          → IsRead tells count y z → PartCameBack tells holds new z → (HoldAll cut batches → ⊥)
          → ComesThere y
      one_stands y z plan at read back fewer = record {
        cells = at.cells;
        told = subst (λ (part : PartPlan). holds new part.component part.part at.cells) plan
            (back at.cells (read.same at.cells at.told));
        stands = at.stands;
        within = λ all. absurd (fewer all);
      }

      one_ends : (y z : StatePart S) → plan_of z ≡ plan_of y → IsThere y
          → IsRead tells count y z → PartCameBack tells holds new z → ComesThere y
      one_ends y z plan at read back = record {
        cells = at.cells;
        told = subst (λ (part : PartPlan). holds new part.component part.part at.cells) plan
            (back at.cells (read.same at.cells at.told));
        stands = at.stands;
        within = λ all. at.within;
      }

      stand_each : (ys zs : List (StatePart S)) → plans_of zs ≡ plans_of ys
          → AllByRecursion StandsThere ys → AllZip (IsRead tells count) ys zs
          → AllByRecursion (PartCameBack tells holds new) zs → (HoldAll cut batches → ⊥)
          → AllByRecursion ComesThere ys
      stand_each [] zs same at read back fewer = tt
      stand_each (y ∷ ys) [] same at read back fewer = absurd read
      stand_each (y ∷ ys) (z ∷ zs) same at read back fewer =
          let plan : plan_of z ≡ plan_of y = cc in
          let plans : plans_of zs ≡ plans_of ys = cc in (
            one_stands y z plan at.0 read.0 back.0 fewer,
            stand_each ys zs plans at.1 read.1 back.1 fewer,
          )

      end_each : (ys zs : List (StatePart S)) → plans_of zs ≡ plans_of ys
          → AllByRecursion IsThere ys → AllZip (IsRead tells count) ys zs
          → AllByRecursion (PartCameBack tells holds new) zs → AllByRecursion ComesThere ys
      end_each [] zs same at read back = tt
      end_each (y ∷ ys) [] same at read back = absurd read
      end_each (y ∷ ys) (z ∷ zs) same at read back =
          let plan : plan_of z ≡ plan_of y = cc in
          let plans : plans_of zs ≡ plans_of ys = cc in
          (one_ends y z plan at.0 read.0 back.0, end_each ys zs plans at.1 read.1 back.1)

    -- the maps stand where the parts stood
    pub maps_stand : (parts ran closed : List (StatePart S))
        → Lent tells count holds faults t old mid new parts ran closed
        → HoldAll cut batches ⊎ (HoldAll cut batches → ⊥)
        → PartsStand tells t custom cut batches ran
        → MapsStand t custom cut batches (maker_use tells count holds made faults old new)
    maps_stand parts ran closed lent known stands = λ spans next.
        to_planned (StandsAt t custom cut batches spans (holds new)) t ran
        (lent.kept.plans ∙ lent.planned) (by spans next known)
      where
        back_each : AllByRecursion (PartCameBack tells holds new) closed
        back_each = recursion_from_All (PartCameBack tells holds new) closed lent.back

        by : (spans : List Span) → IsNextBatch cut batches spans
            → HoldAll cut batches ⊎ (HoldAll cut batches → ⊥)
            → AllByRecursion (ComesThere spans) ran
        by spans next (inl all) =
            end_each spans ran closed lent.plans
            (recursion_from_All (IsThere spans) ran (stands.at_end all spans next)) lent.read
            back_each
        by spans next (inr fewer) =
            stand_each spans ran closed lent.plans
            (recursion_from_All (StandsThere spans) ran (stands.stand spans next)) lent.read
            back_each fewer

-- ---- where no run was begun

-- what holds whatever is answered holds on an error
pub on_err : {T E P : Type 0} (r : Result T E) → P → OnErr r P
on_err (Ok x) holds = tt
on_err (Err e) holds = holds

module _ {S M : Type 0} (tells : S → CellMap → Type 0) (count : S → ℕ)
    (holds : M → ℕ → ℕ → CellMap → Type 0) (made : M → ℕ → ℕ → Type 0) (faults : M → ℕ)
    (t : Topology) (old new : M) (custom : Custom) (cut : Cut) where
  none_written : writes_of t custom cut [] ≡ []
  unfolding nodes_of
  none_written = refl

  one_idle : (spans : List Span) (part : PartPlan) → holds new part.component part.part []
      → StandsAt t custom cut [] spans (holds new) part
  one_idle spans part held = record {
    cells = [];
    told = held;
    stands =
        subst
        (λ (done : List Write).
        Stands part.kind (folded custom part.by) (tasks_of t part.component) part.part 0 (writes_of_part part done)
        (writes_of_part part (writes_at t custom cut spans)) (cell_at []))
        (sym none_written)
        (Stands-none part.kind (folded custom part.by) (tasks_of t part.component) part.part
        (writes_of_part part (writes_at t custom cut spans)));
    within = λ all key cell is. absurd is.bytes;
  }

  same_stands : (batches : List (List Span)) (spans : List Span)
      → ((c p : ℕ) (cells : CellMap) → holds old c p cells → holds new c p cells)
      → (part : PartPlan) → StandsAt t custom cut batches spans (holds old) part
      → StandsAt t custom cut batches spans (holds new) part
  same_stands batches spans same part at = record {
    cells = at.cells;
    told = same part.component part.part at.cells at.told;
    stands = at.stands;
    within = at.within;
  }

  -- maps that hold what they held stand where they stood, and those that held no cell where no
  -- batch was committed
  pub idle_stand : ((c p : ℕ) (cells : CellMap) → holds old c p cells → holds new c p cells)
      → StandAtCommits t custom cut (maker_use tells count holds made faults old new) []
  idle_stand same = record {
    later = λ before are stood.
        subst (λ (bs : List (List Span)). AllStandAt t custom cut bs (holds new))
        (sym (append-nil before))
        (λ spans next.
        All-weaker (StandsAt t custom cut before spans (holds old))
        (StandsAt t custom cut before spans (holds new)) (same_stands before spans same)
        (planned_parts t) (stood spans next));
    first = λ first empty spans next.
        All-weaker (λ (part : PartPlan). holds old part.component part.part [])
        (StandsAt t custom cut [] spans (holds new))
        (λ part held. one_idle spans part (same part.component part.part [] held))
        (planned_parts t) empty;
    strange = λ key has. record {
      place = has.place;
      part = has.part;
      at = has.at;
      strange = λ cells held.
          has.strange cells (same has.part.component has.part.part cells held);
    };
  }

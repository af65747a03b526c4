-- Parts that are migrated one after another.
use Rattle.std.proofs.Common.{◌≡◌, ◌+◌, ◌-◌, ◌^◌, ◌≤◌, ◌<◌, ◌==◌, ◌⊎◌, inl, inr, ℕ, ℤ, zero, suc, min, Bool, true, false, cond, List, [], ◌∷◌, length, map, filter, All, get_or, set, take, Option, None, Some, IsSome, refl, sym, ap, subst, ◌∙◌, arith}
use Rattle.std.proofs.lemmas.List.{take_all}
use Rattle.std.proofs.lemmas.List.Elements.{All-cons, All-head, All-nil, All-tail}
use Rattle.std.proofs.lemmas.List.Sums.{sum_by_more}
use Rattle.std.proofs.lemmas.Option.{slice_get-get_or}
use Rattle.std.proofs.lemmas.Slice.Zip.{AllZip-long}
use Rattle.std.specs.List.{AllZip, sum_by}
use Rattle.std.specs.Option.{option_or}
use Rattle.storm_stores.specs.CellMaps.{CellMap, cell_at}
use Rattle.tree_model.specs.Tables.{StateOf}
use Rattle.tree_model.specs.declared.write.Table.{Table}
use Rattle.tree_model.specs.declared.write.Write.{Write}
use Rattle.tree_model.specs.topology_plan.Topology.{Topology, tasks_of}
use Rattle.tree_model.specs.bolt_ops.RowOp.{Custom}
use Rattle.tree_model.specs.Tables.{Folding, folded}
use Rattle.tree_model.specs.topology_plan.declared.parts.Kind.{Kind}
use Rattle.cell_format.specs.Commits.{IsHeld}
use Rattle.cell_format.specs.Standing.{IsWithin, Stands}
use Rattle.cell_format.specs.declared.cell.Cell.{Cell}
use Rattle.state_cells.specs.Migrate.{IsSameCell, old_count}
use Rattle.state_cells.specs.Rows.{IsBadRow, rows_of, value_in}
use Rattle.state_cells.specs.Turns.{Turns}
use Rattle.state_parts.specs.declared.parts.StatePart.{StatePart}
use Rattle.state_parts.specs.Commits.{SameCounts, is_for_part, own_writes}
use Rattle.state_parts.specs.Migrate.{AreKept, AreMigrated, IsBrokenOff, IsMigrated, KeepsCells, StopAt, old_sum}
use Rattle.state_parts.specs.PartPlans.{PartPlan, plan_of, plans_of}
use Rattle.state_parts.specs.PartTables.{IsBadRowAt, IsTableOver, Tell, components_of, put_all, value_among, value_for}
use Rattle.state_parts.specs.Standing.{AllAreAt, AllStand, PartIsAt, PartStands}
use Rattle.state_parts.proofs.TableLemmas.{put_rows, zip_at}

-- ---- sums that end

pub sum_more : (total count sum next : ℕ) → total ≡ min sum (2 ^ 64 - 1) → count ≡ next → min (total + count) (2 ^ 64 - 1) ≡ min (sum + next) (2 ^ 64 - 1)
sum_more total count sum next is same = omega (arith, is, same)

-- ---- what rows tell of values

or_none : (o : Option ℤ) → option_or o None ≡ o
or_none None = refl
or_none (Some n) = refl

same_value : (before after : CellMap) (key : List ℕ) → rows_of after ≡ rows_of before → value_in (cell_at after key) ≡ value_in (cell_at before key)
same_value before after key same =
    sym (or_none (value_in (cell_at after key))) ∙ sym (put_rows after (λ _. None) key) ∙ ap (λ pairs. put_all (λ _. None) pairs key) same ∙ put_rows before (λ _. None) key
    ∙ or_none (value_in (cell_at before key))

module _ {S : Type 0} (tells : S → CellMap → Type 0) (count : S → ℕ) where
  -- ---- the first parts

  -- so many of the first parts are migrated, and the others are as they were
  abbrev pub Front : ℕ → List (StatePart S) → List (StatePart S) → Type 0
  Front zero old now = now ≡ old
  Front (suc i) [] now = now ≡ []
  Front (suc i) (was ∷ old) [] = ⊥
  Front (suc i) (was ∷ old) (is ∷ now) = IsMigrated tells count was is × Front i old now

  first_is : (x y : StatePart S) (old now : List (StatePart S)) → ◌≡◌ {A = List (StatePart S)} (y ∷ now) (x ∷ old) → (y ≡ x) × (now ≡ old)
  first_is x y old now same = (ap (λ (parts : List (StatePart S)). get_or parts 0 y) same, ap (λ (parts : List (StatePart S)). tail_of parts) same)
    where
      tail_of : List (StatePart S) → List (StatePart S)
      tail_of [] = []
      tail_of (part ∷ parts) = parts

  front_more : (i : ℕ) (old now : List (StatePart S)) (was is : StatePart S) → i < length old → was ≡ get_or now i was → IsMigrated tells count was is → Front i old now → Front (suc i) old (set now i is)
  front_more i [] now was is within read done front = absurd (omega arith)
  front_more zero (x ∷ old) [] was is within read done front = absurd cc
  front_more zero (x ∷ old) (y ∷ now) was is within read done front =
      let same = first_is x y old now front in
      (subst (λ (part : StatePart S). IsMigrated tells count part is) (read ∙ same.0) done, same.1)
  front_more (suc i) (x ∷ old) [] was is within read done front = absurd front
  front_more (suc i) (x ∷ old) (y ∷ now) was is within read done front = (front.0, front_more i old now was is (omega arith) read done front.1)

  front_stop : (R : StatePart S → StatePart S → Type 0) (i : ℕ) (old now : List (StatePart S)) (was is : StatePart S) → i < length old → was ≡ get_or now i was → R was is → Front i old now
      → StopAt tells count R old (set now i is)
  front_stop R i [] now was is within read done front = absurd (omega arith)
  front_stop R zero (x ∷ old) [] was is within read done front = absurd cc
  front_stop R zero (x ∷ old) (y ∷ now) was is within read done front =
      let same = first_is x y old now front in
      inr (subst (λ (part : StatePart S). R part is) (read ∙ same.0) done, same.1)
  front_stop R (suc i) (x ∷ old) [] was is within read done front = absurd front
  front_stop R (suc i) (x ∷ old) (y ∷ now) was is within read done front = inl (front.0, front_stop R i old now was is (omega arith) read done front.1)

  pub front_end : (i : ℕ) (old now : List (StatePart S)) → length old ≤ i → Front i old now → AreMigrated tells count old now
  front_end zero [] [] past front = tt
  front_end zero [] (y ∷ now) past front = absurd cc
  front_end zero (x ∷ old) now past front = absurd (omega arith)
  front_end (suc i) [] [] past front = tt
  front_end (suc i) [] (y ∷ now) past front = absurd cc
  front_end (suc i) (x ∷ old) [] past front = absurd front
  front_end (suc i) (x ∷ old) (y ∷ now) past front = (front.0, front_end i old now (omega arith) front.1)

  -- a part that is not migrated yet
  pub front_at : (i : ℕ) (old now : List (StatePart S)) (d : StatePart S) → Front i old now → get_or now i d ≡ get_or old i d
  front_at zero old now d front = ap (λ (parts : List (StatePart S)). get_or parts 0 d) front
  front_at (suc i) [] now d front = ap (λ (parts : List (StatePart S)). get_or parts (suc i) d) front
  front_at (suc i) (x ∷ old) [] d front = absurd front
  front_at (suc i) (x ∷ old) (y ∷ now) d front = front_at i old now d front.1

  all_same : (parts : List (StatePart S)) → SameCounts count parts parts
  all_same [] = tt
  all_same (at ∷ parts) = (refl, all_same parts)

  pub front_counts : (i : ℕ) (old now : List (StatePart S)) → Front i old now → SameCounts count old now
  front_counts zero old now front = subst (SameCounts count old) (sym front) (all_same old)
  front_counts (suc i) [] now front = subst (SameCounts count []) (sym front) tt
  front_counts (suc i) (x ∷ old) [] front = absurd front
  front_counts (suc i) (x ∷ old) (y ∷ now) front = (front.0.same_count, front_counts i old now front.1)

  -- ---- one more part

  -- the first parts, and how many of their cells were of format 1
  pub record Migrating (i total : ℕ) (old now : List (StatePart S)) : Type 0 where
    pub front : Front i old now
    pub sum : (maps : List CellMap) → Tell tells old maps → total ≡ min (sum_by old_count (take i maps)) (2 ^ 64 - 1)

  pub migrating_none : (parts : List (StatePart S)) → Migrating 0 0 parts parts
  migrating_none parts = record { front = refl; sum = λ maps told. refl }

  pub migrating_more : (i total next : ℕ) (old now : List (StatePart S)) (was is : StatePart S) → i < length old → was ≡ get_or now i was
      → ((cells : CellMap) → tells was.over.store cells → next ≡ old_count cells) → IsMigrated tells count was is → Migrating i total old now
      → Migrating (i + 1) (min (total + next) (2 ^ 64 - 1)) old (set now i is)
  migrating_more i total next old now was is within read counted done so_far =
      let on : suc i ≡ i + 1 = omega arith in
      let first : was ≡ get_or old i was = read ∙ front_at i old now was so_far.front in
      record {
        front = subst (λ (n : ℕ). Front n old (set now i is)) on (front_more i old now was is within read done so_far.front);
        sum = λ maps told.
            let long : length maps ≡ length old = AllZip-long (λ at cells. tells at.over.store cells) old maps told in
            let here : tells was.over.store (get_or maps i []) =
            subst (λ (part : StatePart S). tells part.over.store (get_or maps i [])) (sym first) (zip_at (λ at cells. tells at.over.store cells) old maps i was [] told within) in
            sum_more total next (sum_by old_count (take i maps)) (old_count (get_or maps i [])) (so_far.sum maps told) (counted (get_or maps i []) here)
            ∙ ap (λ n. min n (2 ^ 64 - 1)) (sym (sum_by_more old_count maps i [] (omega arith)));
      }

  pub migrating_end : (i total : ℕ) (old now : List (StatePart S)) (maps : List CellMap) → length old ≤ i → Tell tells old maps → Migrating i total old now → total ≡ old_sum maps
  migrating_end i total old now maps past told so_far =
      let long : length maps ≡ length old = AllZip-long (λ at cells. tells at.over.store cells) old maps told in
      so_far.sum maps told ∙ ap (λ (ms : List CellMap). min (sum_by old_count ms) (2 ^ 64 - 1)) (take_all i maps (omega arith))

  pub migrating_stop : (R : StatePart S → StatePart S → Type 0) (i total : ℕ) (old now : List (StatePart S)) (was is : StatePart S) → i < length old → was ≡ get_or now i was → R was is → Migrating i total old now
      → StopAt tells count R old (set now i is)
  migrating_stop R i total old now was is within read done so_far = front_stop R i old now was is within read done so_far.front

  pub migrating_bad : (i total : ℕ) (old now : List (StatePart S)) (was : StatePart S) (key : List ℕ) → i < length old → was ≡ get_or now i was → Migrating i total old now
      → ((cells : CellMap) → tells was.over.store cells → IsBadRow was.over.kind key (cell_at cells key)) → IsBadRowAt tells old key
  migrating_bad i total old now was key within read so_far bad = record {
    place = i;
    was = was;
    was_at = slice_get-get_or old i was within ∙ ap Some (sym (read ∙ front_at i old now was so_far.front));
    bad = bad;
  }

  -- ---- parts that have the same cells

  pub migrated_kept : (old new : List (StatePart S)) → AreMigrated tells count old new → AreKept tells count old new
  migrated_kept [] [] all = tt
  migrated_kept [] (y ∷ new) all = absurd all
  migrated_kept (x ∷ old) [] all = absurd all
  migrated_kept (x ∷ old) (y ∷ new) all = (all.0.kept, migrated_kept old new all.1)

  pub kept_plans : (old new : List (StatePart S)) → AreKept tells count old new → plans_of new ≡ plans_of old
  kept_plans [] [] all = refl
  kept_plans [] (y ∷ new) all = absurd all
  kept_plans (x ∷ old) [] all = absurd all
  kept_plans (x ∷ old) (y ∷ new) all =
      ap (λ (p : PartPlan). p ∷ plans_of new) all.0.plan ∙ ap (λ (ps : List PartPlan). plan_of x ∷ ps) (kept_plans old new all.1)

  -- the maps that parts tell now, with the values of those that they told
  kept_maps : (old new : List (StatePart S)) (maps : List CellMap) → AreKept tells count old new → Tell tells old maps
      → (after : List CellMap) × Tell tells new after × ((number : ℕ) (key : List ℕ) → value_among number (components_of new) after key ≡ value_among number (components_of old) maps key)
  kept_maps [] [] [] all told = ([], tt, λ number key. refl)
  kept_maps [] [] (m ∷ maps) all told = absurd told
  kept_maps [] (y ∷ new) maps all told = absurd all
  kept_maps (x ∷ old) [] maps all told = absurd all
  kept_maps (x ∷ old) (y ∷ new) [] all told = absurd told
  kept_maps (x ∷ old) (y ∷ new) (m ∷ maps) all told =
      let turn = all.0.same.to m told.0 in
      let rest = kept_maps old new maps all.1 told.1 in (
        turn.0 ∷ rest.0,
        (turn.1, rest.1),
        λ number key.
            let here : value_for number y.component turn.0 key ≡ value_for number x.component m key =
            ap (λ (c : ℕ). value_for number c turn.0 key) (ap (λ (p : PartPlan). p.component) all.0.plan)
            ∙ ap (λ (o : Option ℤ). cond (x.component == number) o None) (same_value m turn.0 key (all.0.rows m turn.0 told.0 turn.1)) in
            ap (λ (o : Option ℤ). option_or o (value_for number y.component turn.0 key)) (rest.2 number key)
            ∙ ap (λ (o : Option ℤ). option_or (value_among number (components_of old) maps key) o) here,
      )

  -- a table of the parts as they are is one of the parts as they were
  pub kept_table : (old new : List (StatePart S)) (state : StateOf) (table : Table) → AreKept tells count old new → IsTableOver tells new state table → IsTableOver tells old state table
  kept_table old new state table all is = record {
    name = is.name;
    ordered = is.ordered;
    values = λ maps told key.
        let x = kept_maps old new maps all told in
        is.values x.0 x.1 key ∙ x.2 state.number key;
  }

  module _ (one_map : (s : S) (a b : CellMap) → tells s a → tells s b → a ≡ b) where
    kept_same : (at : StatePart S) → KeepsCells tells count at at
    kept_same at = record {
      plan = refl;
      same = record { to = λ cells told. (cells, told, λ key kind cell. (λ is. is, λ is. is)) };
      rows = λ before after was is. ap rows_of (one_map at.over.store after before is was);
      never_falls = omega arith;
    }

    pub all_kept : (parts : List (StatePart S)) → AreKept tells count parts parts
    all_kept [] = tt
    all_kept (at ∷ parts) = (kept_same at, all_kept parts)

    -- where one part was broken off
    pub stopped_kept : (old new : List (StatePart S)) → StopAt tells count (IsBrokenOff tells count) old new → AreKept tells count old new
    stopped_kept [] new stop = absurd stop
    stopped_kept (x ∷ old) [] stop = absurd stop
    stopped_kept (x ∷ old) (y ∷ new) (inl (done, later)) = (done.kept, stopped_kept old new later)
    stopped_kept (x ∷ old) (y ∷ new) (inr (broken, same)) = (broken.kept, subst (AreKept tells count old) (sym same) (all_kept old))

-- ---- where the parts stand

-- what a store tells is said key by key
same_held : (kind : Kind) (by : Folding) (parts part t : ℕ) (done next : List Write) (old new : List ℕ → Option (List ℕ)) → ((key : List ℕ) → IsSameCell key (old key) (new key)) → Stands kind by parts part t done next old
    → Stands kind by parts part t done next new
same_held kind by parts part t done next old new same stands = record {
  keys = λ key. let k = stands.keys key in record { cell = k.cell; is = (same key kind k.cell).0 k.is; stands = k.stands };
  own = λ key some.
      let k = stands.keys key in
      stands.own key (there k.cell (old key) (new key) k.is.bytes ((same key kind k.cell).0 k.is).bytes some);
}
  where
    there : (cell : Option Cell) (was now : Option (List ℕ)) → IsHeld was cell → IsHeld now cell → IsSome now → IsSome was
    there None None None is_was is_now some = some
    there None None (Some bytes) is_was is_now some = absurd is_now
    there None (Some bytes) now is_was is_now some = refl
    there (Some cell) None now is_was is_now some = absurd is_was
    there (Some cell) (Some bytes) now is_was is_now some = refl

same_within : (kind : Kind) (t : ℕ) (old new : List ℕ → Option (List ℕ)) → ((key : List ℕ) → IsSameCell key (old key) (new key)) → IsWithin kind t old → IsWithin kind t new
same_within kind t old new same within = λ key cell holds. within key cell ((same key kind (Some cell)).1 holds)

module _ {S : Type 0} (tells : S → CellMap → Type 0) (count : S → ℕ) (t : Topology) (custom : Custom) (n : ℕ) (done next : List Write) where
  -- how a part stands by its numbers, kind and fold alone
  abbrev StandsBy : (List ℕ → Option (List ℕ)) → PartPlan → Type 0
  StandsBy held p = Stands p.kind (folded custom p.by) (tasks_of t p.component) p.part n (filter (is_for_part p.component p.part) done) (filter (is_for_part p.component p.part) next) held

  one_stands : (old new : StatePart S) → KeepsCells tells count old new → PartStands tells t custom n done next old → PartStands tells t custom n done next new
  one_stands old new kept stands =
      let x = kept.same.to stands.cells stands.told in
      let as_old : StandsBy (cell_at x.0) (plan_of old) =
      same_held old.over.kind (folded custom old.over.by) (tasks_of t old.component) old.part n (own_writes done old) (own_writes next old) (cell_at stands.cells) (cell_at x.0) x.2 stands.stands in
      record { cells = x.0; told = x.1; stands = subst (StandsBy (cell_at x.0)) (sym kept.plan) as_old }

  one_is_at : (old new : StatePart S) → KeepsCells tells count old new → PartIsAt tells t custom n done next old → PartIsAt tells t custom n done next new
  one_is_at old new kept stands =
      let x = kept.same.to stands.cells stands.told in
      let as_old : StandsBy (cell_at x.0) (plan_of old) =
      same_held old.over.kind (folded custom old.over.by) (tasks_of t old.component) old.part n (own_writes done old) (own_writes next old) (cell_at stands.cells) (cell_at x.0) x.2 stands.stands in
      let within_old : IsWithin old.over.kind n (cell_at x.0) = same_within old.over.kind n (cell_at stands.cells) (cell_at x.0) x.2 stands.within in
      record {
        cells = x.0;
        told = x.1;
        stands = subst (StandsBy (cell_at x.0)) (sym kept.plan) as_old;
        within = subst (λ (p : PartPlan). IsWithin p.kind n (cell_at x.0)) (sym kept.plan) within_old;
      }

  pub kept_stand : (old new : List (StatePart S)) → AreKept tells count old new → AllStand tells t custom n done next old → AllStand tells t custom n done next new
  kept_stand [] [] kept stand = All-nil (PartStands tells t custom n done next)
  kept_stand [] (y ∷ new) kept stand = absurd kept
  kept_stand (x ∷ old) [] kept stand = absurd kept
  kept_stand (x ∷ old) (y ∷ new) kept stand =
      All-cons (PartStands tells t custom n done next) y new (one_stands x y kept.0 (All-head (PartStands tells t custom n done next) x old stand)) (kept_stand old new kept.1 (All-tail (PartStands tells t custom n done next) x old stand))

  pub kept_are_at : (old new : List (StatePart S)) → AreKept tells count old new → AllAreAt tells t custom n done next old → AllAreAt tells t custom n done next new
  kept_are_at [] [] kept stand = All-nil (PartIsAt tells t custom n done next)
  kept_are_at [] (y ∷ new) kept stand = absurd kept
  kept_are_at (x ∷ old) [] kept stand = absurd kept
  kept_are_at (x ∷ old) (y ∷ new) kept stand =
      All-cons (PartIsAt tells t custom n done next) y new (one_is_at x y kept.0 (All-head (PartIsAt tells t custom n done next) x old stand)) (kept_are_at old new kept.1 (All-tail (PartIsAt tells t custom n done next) x old stand))

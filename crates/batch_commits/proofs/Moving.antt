-- Parts move on by the commits of batches.
use Rattle.std.proofs.Common.{◌≡◌, ◌<◌, ◌≤◌, ◌+◌, ◌⊎◌, inl, inr, ℕ, List, [], ◌∷◌, ◌++◌, All, length, refl, sym, ap, subst, ◌∙◌, arith}
use Rattle.std.proofs.lemmas.Bool.{cases_lt}
use Rattle.std.proofs.lemmas.List.{append-nil, length_push}
use Rattle.std.proofs.lemmas.List.Concat.{flat_map-append}
use Rattle.std.specs.List.{flat_map, AllZip}
use Rattle.batch_commits.specs.Standing.{HoldAll, IsNextBatch, PartsStand, writes_at, writes_of}
use Rattle.commit_turns.specs.Account.{rows_at}
use Rattle.record_spans.specs.declared.span.Span.{Span}
use Rattle.state_parts.specs.Commits.{AreCommitted, ArePerhapsCommitted}
use Rattle.state_parts.specs.declared.parts.StatePart.{StatePart}
use Rattle.state_parts.specs.PartPlans.{AreParts}
use Rattle.state_parts.specs.PartTables.{IsTableOver}
use Rattle.state_parts.specs.Standing.{AllAreAt, AllStand, ArePlaced, HaveOnePart, IsEmpty}
use Rattle.storm_stores.specs.CellMaps.{CellMap}
use Rattle.taken_records.specs.Cuts.{Cut}
use Rattle.taken_records.specs.Taken.{batch_spans}
use Rattle.tuple_account.specs.bolt_ops.RowOp.{Custom}
use Rattle.tuple_account.specs.storm_values.declared.value.Root.{Root}
use Rattle.tuple_account.specs.storm_values.declared.value.Value.{Value}
use Rattle.tuple_account.specs.topology_plan.declared.parts.Kind.TheVariants.{Opaque}
use Rattle.tuple_account.specs.topology_plan.Topology.{Topology}
use Rattle.tuple_account.specs.topology_plan.Wired.{IsWired}
use Rattle.tuple_account.specs.tree_model.declared.write.Table.{Table}
use Rattle.tuple_account.specs.tree_model.declared.write.Write.{Write}
use Rattle.tuple_account.specs.tree_model.Tables.{AreTables, states_of}
use Rattle.tuple_account.specs.tree_model.Trees.{nodes_of, writes}
use Rattle.batch_commits.proofs.Opaque.{opaque_stand, planned_opaque, plans_kept}

none_written : (t : Topology) (custom : Custom) → writes t custom [] ≡ []
unfolding nodes_of
none_written t custom = refl

-- the laws of the parts, as these lemmas take them
pub record Laws {S : Type 0} (tells : S → CellMap → Type 0) : Type 0 where
  pub begin : (t : Topology) (custom : Custom) (next : List Write) (parts : List (StatePart S))
      → All (IsEmpty tells) parts → AllAreAt tells t custom 0 [] next parts
  pub moved : (t : Topology) (custom : Custom) (n : ℕ) (root : Root) (done next more : List Write) (old new : List (StatePart S))
      → root.txid ≡ n + 1 → AllStand tells t custom n done next old → ArePlaced t next
      → AreCommitted tells custom root next old new → AllAreAt tells t custom (n + 1) (done ++ next) more new
  pub begun : (t : Topology) (custom : Custom) (n : ℕ) (root : Root) (done next : List Write) (old new : List (StatePart S))
      → root.txid ≡ n + 1 → AllStand tells t custom n done next old → ArePlaced t next
      → ArePerhapsCommitted tells custom root next old new → AllStand tells t custom n done next new
  pub stand : (t : Topology) (custom : Custom) (n : ℕ) (done next : List Write) (parts : List (StatePart S))
      → AllAreAt tells t custom n done next parts → AllStand tells t custom n done next parts
  pub placed : (t : Topology) (custom : Custom) (rows : List (List Value)) → ArePlaced t (writes t custom rows)
  pub joined : (t : Topology) (custom : Custom) (xs ys : List (List Value)) → writes t custom (xs ++ ys) ≡ writes t custom xs ++ writes t custom ys

module _ (t : Topology) (custom : Custom) (cut : Cut) {S : Type 0} (tells : S → CellMap → Type 0) (laws : Laws tells) where
  -- the writes of batches and of one more
  written_more : (batches : List (List Span)) (spans : List Span)
      → writes_of t custom cut (batches ++ spans ∷ []) ≡ writes_of t custom cut batches ++ writes_at t custom cut spans
  written_more batches spans =
      let rows = flat_map (rows_at cut) batches in
      ap (writes t custom) (flat_map-append (rows_at cut) batches (spans ∷ []) ∙ ap (λ more. rows ++ more) (append-nil (rows_at cut spans)))
      ∙ laws.joined t custom rows (rows_at cut spans)

  -- parts stand where no cell has a larger transaction, whatever is written next
  ended_stand : (batches : List (List Span)) (parts : List (StatePart S))
      → ((next : List Write) → AllAreAt tells t custom (length batches) (writes_of t custom cut batches) next parts)
      → PartsStand tells t custom cut batches parts
  ended_stand batches parts at = record {
    stand = λ spans is.
        let next = writes_at t custom cut spans in
        laws.stand t custom (length batches) (writes_of t custom cut batches) next parts (at next);
    at_end = λ all spans is. at (writes_at t custom cut spans);
  }

  pub stand_first : (parts : List (StatePart S)) → All (IsEmpty tells) parts → PartsStand tells t custom cut [] parts
  stand_first parts empty =
      ended_stand [] parts
      (λ next.
      subst (λ (done : List Write). AllAreAt tells t custom 0 done next parts) (sym (none_written t custom)) (laws.begin t custom next parts empty))

  module _ (batches : List (List Span)) (spans : List Span) (root : Root) (old new : List (StatePart S)) where
    abbrev done : List Write
    done = writes_of t custom cut batches

    abbrev made : List Write
    made = writes_at t custom cut spans

    pub stand_done : root.txid ≡ length batches + 1 → IsNextBatch cut batches spans → PartsStand tells t custom cut batches old
        → AreCommitted tells custom root made old new → PartsStand tells t custom cut (batches ++ spans ∷ []) new
    stand_done number next stands committed =
        ended_stand (batches ++ spans ∷ []) new
        (λ more.
        let moved = laws.moved t custom (length batches) root done made more old new number (stands.stand spans next)
        (laws.placed t custom (rows_at cut spans)) committed in
        let joined : AllAreAt tells t custom (length batches + 1) (writes_of t custom cut (batches ++ spans ∷ [])) more new =
        subst (λ (ws : List Write). AllAreAt tells t custom (length batches + 1) ws more new) (sym (written_more batches spans)) moved in
        subst (λ (n : ℕ). AllAreAt tells t custom n (writes_of t custom cut (batches ++ spans ∷ [])) more new) (sym (length_push batches spans)) joined)

    pub stand_broken : IsWired t → (0 < cut.partitions → t.spout_kind ≡ Opaque) → AreParts t old
        → root.txid ≡ length batches + 1 → IsNextBatch cut batches spans → PartsStand tells t custom cut batches old
        → (HoldAll cut batches → ⊥) → ArePerhapsCommitted tells custom root made old new → PartsStand tells t custom cut batches new
    stand_broken wired opaque planned number next stands lack broken = record {
      stand = λ others is. at others is (cases_lt 0 cut.partitions);
      at_end = λ all. absurd (lack all);
    }
      where
        begun : AllStand tells t custom (length batches) done made new
        begun =
            laws.begun t custom (length batches) root done made old new number (stands.stand spans next)
            (laws.placed t custom (rows_at cut spans)) broken

        at : (others : List Span) → IsNextBatch cut batches others → (0 < cut.partitions) ⊎ (cut.partitions ≤ 0)
            → AllStand tells t custom (length batches) done (writes_at t custom cut others) new
        at others is (inl some) =
            opaque_stand tells t custom (length batches) done made (writes_at t custom cut others) new
            (planned_opaque t wired (opaque some) new (plans_kept tells custom root made old new broken ∙ planned)) begun
        at others is (inr few) =
            let none : cut.partitions ≡ 0 = omega (arith, few) in
            subst (λ (zs : List Span). AllStand tells t custom (length batches) done (writes_at t custom cut zs) new)
            (next none ∙ sym (is none)) begun

-- the laws of the tables
pub record TableLaws {S : Type 0} (tells : S → CellMap → Type 0) : Type 0 where
  pub tables : (t : Topology) (custom : Custom) (n : ℕ) (done next : List Write) (parts : List (StatePart S)) (tables : List Table)
      → IsWired t → AreParts t parts → ArePlaced t done → HaveOnePart done → AllAreAt tells t custom n done next parts
      → AllZip (IsTableOver tells parts) (states_of t custom) tables → AreTables t custom done tables
  pub placed : (t : Topology) (custom : Custom) (rows : List (List Value)) → ArePlaced t (writes t custom rows)
  pub one_part : (t : Topology) (custom : Custom) (rows : List (List Value)) → HaveOnePart (writes t custom rows)

pub tables_stand : (t : Topology) (custom : Custom) (cut : Cut) {S : Type 0} (tells : S → CellMap → Type 0) (laws : TableLaws tells)
    (batches : List (List Span)) (parts : List (StatePart S)) (tables : List Table)
    → IsWired t → AreParts t parts → HoldAll cut batches → PartsStand tells t custom cut batches parts
    → AllZip (IsTableOver tells parts) (states_of t custom) tables → AreTables t custom (writes_of t custom cut batches) tables
tables_stand t custom cut tells laws batches parts tables wired planned all stands zipped =
    let next = batch_spans (length cut.gone) cut.size (length batches + 1) in
    let rows = flat_map (rows_at cut) batches in
    laws.tables t custom (length batches) (writes_of t custom cut batches) (writes_at t custom cut next) parts tables wired planned
    (laws.placed t custom rows) (laws.one_part t custom rows) (stands.at_end all next (λ none. refl)) zipped

-- Parcels that are handed over as runs, in their order.
use Rattle.std.proofs.Common.{◌≡◌, ◌<◌, ℕ, List, [], ◌∷◌, ◌++◌, length, append_assoc, sym, ap, subst, ◌∙◌}
use Rattle.std.specs.List.{AllByRecursion}
use Rattle.worker_stretches.specs.box_rows.Mails.{IsRunFor, box_of, most_in_run}
use Rattle.event_worlds.specs.Orderly.{FitsParcel}
use Rattle.event_worlds.specs.topology_plan.Topology.{Topology}
use Rattle.event_worlds.specs.tree_model.declared.messages.Parcel.{Parcel}
use Rattle.worker_stretches.proofs.worker_pool.Outboxing.{run_more, run_new}

-- a run for a box was taken from the front, and the rest is left
pub record RunsOn (t : Topology) (at : ℕ) (all run left : List Parcel) : Type 0 where
  pub is_run : IsRunFor t at run
  pub fits : AllByRecursion (FitsParcel t) left
  pub front : all ≡ run ++ left

pub runs-one : (t : Topology) (at : ℕ) (p : Parcel) (left run : List Parcel) → run ≡ p ∷ [] → at ≡ box_of t p → AllByRecursion (FitsParcel t) (p ∷ left) → RunsOn t at (p ∷ left) run left
runs-one t at p left run is goes fits = record {
  is_run = subst (IsRunFor t at) (sym is) (run_new t at p (fits.0, goes));
  fits = fits.1;
  front = ap (λ xs. xs ++ left) (sym is);
}

pub runs-more : (t : Topology) (at : ℕ) (all run left : List Parcel) (p : Parcel) (rest now : List Parcel) → RunsOn t at all run left → left ≡ p ∷ rest → at ≡ box_of t p → length run < most_in_run → now ≡ run ++ p ∷ []
    → RunsOn t at all now rest
runs-more t at all run left p rest now so_far front goes below is =
    let fits = subst (AllByRecursion (FitsParcel t)) front so_far.fits in record {
      is_run = subst (IsRunFor t at) (sym is) (run_more t at run p so_far.is_run below (fits.0, goes));
      fits = fits.1;
      front = so_far.front ∙ ap (λ xs. run ++ xs) front ∙ sym (append_assoc run (p ∷ []) rest) ∙ ap (λ xs. xs ++ rest) (sym is);
    }

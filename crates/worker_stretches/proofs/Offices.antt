-- Seats of ackers that become desks, and desks that become seats.
use Rattle.std.proofs.Common.{◌≡◌, ◌<◌, ℕ, ◌+◌, List, [], ◌∷◌, ◌++◌, length, map, sym, ap, subst, ◌∙◌, arith}
use Rattle.std.specs.List.{AllByRecursion, range_with_len}
use Rattle.event_worlds.specs.acker_core.declared.acker.Acker.{Acker}
use Rattle.event_engine.specs.declared.acker.AckerSeat.{AckerSeat}
use Rattle.event_engine.specs.Seats.{HasBuckets}
use Rattle.event_worlds.specs.topology_plan.Topology.{Topology}
use Rattle.worker_pool.specs.declared.acker.AckerDesk.{AckerDesk}
use Rattle.worker_pool.specs.Ackers.{IsAcker}
use Rattle.worker_stretches.specs.Places.{IsAckerAt, IsSilent, ZipFrom, office_number}
use Rattle.worker_stretches.proofs.Zipping.{Zipped, each-last, no_more, one-more, zip-flip, zipped-all, zipped-more, zipped-none}

module _ (t : Topology) where
  pub record Opening (all rest : List AckerSeat) (made : List AckerDesk) : Type 0 where
    pub pairs : Zipped IsAckerAt all rest made
    pub desks : AllByRecursion (IsAcker t) made
    pub seats : AllByRecursion (HasBuckets t.buckets) rest

  pub opening-none : (all : List AckerSeat) → AllByRecursion (HasBuckets t.buckets) all → Opening all all []
  opening-none all seats = record { pairs = zipped-none IsAckerAt all; desks = tt; seats = seats }

  pub opening-more : (all left rest : List AckerSeat) (s : AckerSeat) (made : List AckerDesk) (d : AckerDesk) → left ≡ s ∷ rest → Opening all left made → IsAckerAt (length made) s d → length made < t.ackers
      → Opening all rest (made ++ d ∷ [])
  opening-more all left rest s made d is so_far at there =
      let seats = subst (AllByRecursion (HasBuckets t.buckets)) is so_far.seats in record {
        pairs = zipped-more IsAckerAt all rest s made d (subst (λ (xs : List AckerSeat). Zipped IsAckerAt all xs made) is so_far.pairs) at;
        desks = each-last (IsAcker t) made d so_far.desks (record {
          there = subst (λ (n : ℕ). n < t.ackers) (sym at.number) there;
          buckets = ap (λ (a : Acker). a.buckets) at.acker ∙ seats.0;
        });
        seats = seats.1;
      }

  pub opened : (all rest : List AckerSeat) (made : List AckerDesk) → Opening all rest made → length rest ≡ 0 → ZipFrom IsAckerAt 0 all made
  opened all rest made so_far none = zipped-all IsAckerAt all made (subst (λ (xs : List AckerSeat). Zipped IsAckerAt all xs made) (no_more rest none) so_far.pairs)

  abbrev pub Back : ℕ → AckerDesk → AckerSeat → Type 0
  Back n d s = IsAckerAt n s d

  pub record Closing (all rest : List AckerDesk) (made : List AckerSeat) : Type 0 where
    pub pairs : Zipped Back all rest made
    pub desks : AllByRecursion (IsAcker t) rest
    pub numbered : map office_number rest ≡ range_with_len (length made) (length rest)
    pub seats : AllByRecursion (HasBuckets t.buckets) made
    pub silent : AllByRecursion IsSilent made

  pub closing-none : (all : List AckerDesk) → AllByRecursion (IsAcker t) all → map office_number all ≡ range_with_len 0 (length all) → Closing all all []
  closing-none all desks numbered = record { pairs = zipped-none Back all; desks = desks; numbered = numbered; seats = tt; silent = tt }

  pub closing-more : (all left rest : List AckerDesk) (d : AckerDesk) (made : List AckerSeat) (s : AckerSeat) → left ≡ d ∷ rest → Closing all left made → IsAckerAt d.number s d → IsSilent s → Closing all rest (made ++ s ∷ [])
  closing-more all left rest d made s is so_far at quiet =
      let desks = subst (AllByRecursion (IsAcker t)) is so_far.desks in
      let numbers : d.number ∷ map office_number rest ≡ length made ∷ range_with_len (length made + 1) (length rest) = subst (λ (xs : List AckerDesk). map office_number xs ≡ range_with_len (length made) (length xs)) is so_far.numbered in
      let first : d.number ≡ length made = cc in
      let others : map office_number rest ≡ range_with_len (length made + 1) (length rest) = cc in record {
        pairs = zipped-more Back all rest d made s (subst (λ (xs : List AckerDesk). Zipped Back all xs made) is so_far.pairs) (subst (λ (n : ℕ). IsAckerAt n s d) first at);
        desks = desks.1;
        numbered = others ∙ ap (λ (n : ℕ). range_with_len n (length rest)) (let a = one-more made s in let e : length made + 1 ≡ length (made ++ s ∷ []) = omega arith in e);
        seats = each-last (HasBuckets t.buckets) made s so_far.seats (ap (λ (a : Acker). a.buckets) (sym at.acker) ∙ desks.0.buckets);
        silent = each-last IsSilent made s so_far.silent quiet;
      }

  pub closed : (all : List AckerDesk) (made : List AckerSeat) → Zipped Back all [] made → ZipFrom IsAckerAt 0 made all
  closed all made zipped = zip-flip Back 0 all made (zipped-all Back all made zipped)

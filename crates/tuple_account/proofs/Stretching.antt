-- What several workers say of a stretch makes one move.
use Rattle.std.proofs.Common.{◌≡◌, ◌<◌, ◌≤◌, ℕ, ◌+◌, List, [], ◌∷◌, map, refl, arith}
use Rattle.std.specs.List.{AllByRecursion}
use Rattle.tree_model.specs.bolt_ops.RowOp.{Custom}
use Rattle.tree_model.specs.counted_items.Weights.{weigh}
use Rattle.tree_model.specs.storm_values.declared.value.Root.{Root}
use Rattle.tree_model.specs.topology_plan.Topology.{Topology}
use Rattle.tree_model.specs.declared.messages.AckMsg.{AckMsg}
use Rattle.tuple_account.specs.Histories.{Packet, History, joined, opens, taken}
use Rattle.tuple_account.specs.Moves.{Station, empty, beside, Moves, Reached}
use Rattle.tuple_account.specs.Stretches.{sum_below, Books, Tells, Share, DoesShare, Grows, all_of, together, in_boxes, olds, news, histories, Gathered}
use Rattle.tuple_account.proofs.Counting.{sum-weigh}
use Rattle.tuple_account.proofs.Moving.{moves-none, moves-beside, reached-then, taken-joined}
use Rattle.tuple_account.proofs.Placing.{sum-add, sum-same}

-- with these packets besides
abbrev lent_to : ((Packet → ℕ) → ℕ) → Station → Station
lent_to more a = record { waiting = λ f. a.waiting f + more f; kept = a.kept; given = a.given }

abbrev sent_all : ℕ → Share → (Packet → ℕ) → ℕ
sent_all n x f = sum_below (λ i. x.sent i f) n

abbrev taken_all : ℕ → Share → (Packet → ℕ) → ℕ
taken_all n x f = sum_below (λ i. x.taken i f) n

lent : {X : Type 0} (from : X → Station) (more : X → (Packet → ℕ) → ℕ) (xs : List X) (f : Packet → ℕ)
    → (together (map (λ x. lent_to (more x) (from x)) xs)).waiting f ≡ (together (map from xs)).waiting f + weigh (λ x. more x f) xs
lent from more [] f = refl
lent from more (x ∷ xs) f = let rest = lent from more xs f in omega arith

lent_kept : {X : Type 0} (from : X → Station) (more : X → (Packet → ℕ) → ℕ) (xs : List X) (g : Root → AckMsg → ℕ) → (together (map (λ x. lent_to (more x) (from x)) xs)).kept g ≡ (together (map from xs)).kept g
lent_kept from more [] g = refl
lent_kept from more (x ∷ xs) g = let rest = lent_kept from more xs g in omega arith

lent_given : {X : Type 0} (from : X → Station) (more : X → (Packet → ℕ) → ℕ) (xs : List X) (s j : ℕ) → (together (map (λ x. lent_to (more x) (from x)) xs)).given s j ≡ (together (map from xs)).given s j
lent_given from more [] s j = refl
lent_given from more (x ∷ xs) s j = let rest = lent_given from more xs s j in omega arith

module _ (t : Topology) (custom : Custom) where
  -- lent what it took, a worker moves to what it sent
  share-moves : (n : ℕ) (x : Share) → DoesShare t custom n x → Moves t custom (lent_to (taken_all n x) x.old) x.history (lent_to (sent_all n x) x.new)
  share-moves n x does = record {
    packets = λ f. let e = does.packets f in let k = does.takes f in omega arith;
    notes = does.notes;
    draws = does.draws;
    well = does.well;
  }

  -- ---- all of them

  moves-all : {X : Type 0} (from to : X → Station) (what : X → History) (xs : List X) → AllByRecursion (λ x. Moves t custom (from x) (what x) (to x)) xs
      → Moves t custom (together (map from xs)) (all_of (map what xs)) (together (map to xs))
  moves-all from to what [] all = moves-none t custom empty empty (record { waiting = λ f. refl; kept = λ g. refl; given = λ s j. refl })
  moves-all from to what (x ∷ xs) all = moves-beside t custom (from x) (to x) (together (map from xs)) (together (map to xs)) (what x) (all_of (map what xs)) all.0 (moves-all from to what xs all.1)

  each-moves : (n : ℕ) (xs : List Share) → AllByRecursion (DoesShare t custom n) xs → AllByRecursion (λ (x : Share). Moves t custom (lent_to (taken_all n x) x.old) x.history (lent_to (sent_all n x) x.new)) xs
  each-moves n [] all = tt
  each-moves n (x ∷ xs) all = (share-moves n x all.0, each-moves n xs all.1)

  -- what the workers took is what their histories say
  took : (n : ℕ) (xs : List Share) (f : Packet → ℕ) → AllByRecursion (DoesShare t custom n) xs → weigh (λ (x : Share). taken_all n x f) xs ≡ taken f (all_of (histories xs))
  took n [] f all = refl
  took n (x ∷ xs) f all = let here = all.0.takes f in let rest = took n xs f all.1 in let j = taken-joined f x.history (all_of (histories xs)) in omega arith

  module _ (n : ℕ) (old new : ℕ → Books) (shares : List Share) (does : AllByRecursion (DoesShare t custom n) shares)
      (told_old : (i : ℕ) → i < n → Tells (old i)) (told_new : (i : ℕ) → i < n → Tells (new i)) (grows : (i : ℕ) → i < n → Grows shares i (old i) (new i)) where
    -- what the boxes held and were sent is what they hold and gave
    boxes : (f : Packet → ℕ) → sum_below (λ i. (old i).held f) n + weigh (λ (x : Share). sent_all n x f) shares ≡ sum_below (λ i. (new i).held f) n + weigh (λ (x : Share). taken_all n x f) shares
    boxes f =
        let s = sum-weigh (λ (i : ℕ) (x : Share). x.sent i f) n shares in
        let k = sum-weigh (λ (i : ℕ) (x : Share). x.taken i f) n shares in
        let a = sum-add (λ i. (old i).held f) (λ i. weigh (λ (x : Share). x.sent i f) shares) n in
        let b = sum-add (λ i. (new i).held f) (λ i. weigh (λ (x : Share). x.taken i f) shares) n in
        let e = sum-same (λ i. (old i).held f + weigh (λ (x : Share). x.sent i f) shares) (λ i. (new i).held f + weigh (λ (x : Share). x.taken i f) shares) n
        (λ i below. let b = told_old i below f in let a = told_new i below f in let g = (grows i below).sent f in let h = (grows i below).taken f in omega arith) in omega arith

    -- a stretch is one move, of the workers and the boxes
    pub stretch-moves : Moves t custom (beside (together (olds shares)) (in_boxes old n)) (all_of (histories shares)) (beside (together (news shares)) (in_boxes new n))
    stretch-moves =
        let m = moves-all (λ (x : Share). lent_to (taken_all n x) x.old) (λ (x : Share). lent_to (sent_all n x) x.new) (λ (x : Share). x.history) shares (each-moves n shares does) in record {
          packets = λ f.
              let e = m.packets f in
              let a = lent (λ (x : Share). x.old) (taken_all n) shares f in
              let b = lent (λ (x : Share). x.new) (sent_all n) shares f in
              let c = boxes f in omega arith;
          notes = λ g. let e = m.notes g in let a = lent_kept (λ (x : Share). x.old) (taken_all n) shares g in let b = lent_kept (λ (x : Share). x.new) (sent_all n) shares g in omega arith;
          draws = λ s j. let e = m.draws s j in let a = lent_given (λ (x : Share). x.old) (taken_all n) shares s j in let b = lent_given (λ (x : Share). x.new) (sent_all n) shares s j in omega arith;
          well = m.well;
        }

    -- the taken books stay those of the whole history
    stretch-taken : (h : History) → ((f : Packet → ℕ) → sum_below (λ i. (old i).taken f) n ≡ taken f h) → (f : Packet → ℕ) → sum_below (λ i. (new i).taken f) n ≡ taken f (joined h (all_of (histories shares)))
    stretch-taken h before f =
        let k = sum-weigh (λ (i : ℕ) (x : Share). x.taken i f) n shares in
        let e = sum-same (λ i. (new i).taken f) (λ i. (old i).taken f + weigh (λ (x : Share). x.taken i f) shares) n (λ i below. (grows i below).taken f) in
        let a = sum-add (λ i. (old i).taken f) (λ i. weigh (λ (x : Share). x.taken i f) shares) n in
        let w = took n shares f does in
        let j = taken-joined f h (all_of (histories shares)) in
        let o = before f in omega arith

    -- from one gathered moment to the next, with whatever did not take part
    pub stretch-reached : (h : History) (rest : Station) → Reached t custom h (beside rest (beside (together (olds shares)) (in_boxes old n)))
        → ((f : Packet → ℕ) → sum_below (λ i. (old i).taken f) n ≡ taken f h)
        → ((root : Root) → weigh (opens root) h.begun + weigh (opens root) (all_of (histories shares)).begun ≤ 1)
        → Reached t custom (joined h (all_of (histories shares))) (beside rest (beside (together (news shares)) (in_boxes new n)))
        × Gathered t custom (joined h (all_of (histories shares))) n new (beside rest (together (news shares))).waiting
    stretch-reached h rest reached before once =
        let k = all_of (histories shares) in
        let m = stretch-moves in
        let later = stretch-taken h before in
        let now = reached-then t custom (beside rest (beside (together (olds shares)) (in_boxes old n))) (beside rest (beside (together (news shares)) (in_boxes new n))) h k reached (record {
          packets = λ f. let e = m.packets f in omega arith;
          notes = λ g. let e = m.notes g in omega arith;
          draws = λ s j. let e = m.draws s j in omega arith;
          well = m.well;
        }) once in (
          now,
          record {
            sent = λ f.
                let e = now.moves.packets f in
                let took_them = later f in
                let s = sum-same (λ i. (new i).sent f) (λ i. (new i).taken f + (new i).held f) n (λ i below. told_new i below f) in
                let a = sum-add (λ i. (new i).taken f) (λ i. (new i).held f) n in omega arith;
            taken = later;
          },
        )

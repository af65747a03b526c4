-- Rounds and events over an engine and parts, one after another, until all is over.
use Rattle.std.proofs.Common.{◌≡◌, ◌≤◌, ◌<◌, ℕ, zero, suc, ◌+◌, true, List, [], ◌∷◌, ◌++◌, length, take, get_or, refl, sym, ap, subst, ◌∙◌, arith, append_assoc, append-nil}
use Rattle.std.specs.List.{AllByRecursion, flat_map, range_with_len}
use Rattle.event_worlds.specs.attempt_fates.declared.fates.Attempt.{Attempt}
use Rattle.event_worlds.specs.attempt_fates.Fates.{IsOnce}
use Rattle.event_worlds.specs.bolt_ops.RowOp.{Custom}
use Rattle.event_worlds.specs.commit_turns.Turns.{last_tick}
use Rattle.event_engine.specs.declared.engine.Engine.{Engine}
use Rattle.event_engine.specs.Engines.{cut_in, has_ended, shape, topology_in}
use Rattle.event_worlds.specs.Worlds.{Step, is_over, round_steps, rounds_steps}
use Rattle.schedule_core.specs.Driving.{AreKept, Breaks, Drives, IsAtRest, IsOfSameRun, WantsMemory}
use Rattle.schedule_core.proofs.Drives.{breaks-longer, breaks-then, drives-none, drives-over, drives-then, unfollowed-longer, unfollowed-then, wants-then}
use Rattle.schedule_core.proofs.Keeping.{kept-none, kept-then}
use Rattle.schedule_core.proofs.Resting.{breaks_there, drives_there, unfollowed_there, wants_there}
use Rattle.schedule_core.specs.Following.{Unfollowed}
use Rattle.schedule_core.specs.Laws.{Laws}
use Rattle.schedule_reader.specs.declared.event.Event.{Event}
use Rattle.schedule_reader.specs.Events.{FitsEvent}
use Rattle.event_worlds.specs.state_parts.declared.parts.StatePart.{StatePart}
use Rattle.event_worlds.specs.state_parts.PartPlans.{AreParts}
use Rattle.event_worlds.specs.storm_ids.declared.ids.Ids.{Ghosts}
use Rattle.storm_stores.specs.CellMaps.{CellMap}
use Rattle.event_worlds.specs.topology_plan.Topology.{Topology}
use Rattle.event_worlds.specs.taken_records.Cuts.{Cut}

-- ---- steps

-- the steps of rounds begin with those of fewer rounds
pub rounds_begin : (t : Topology) (done count : ℕ) → done ≤ count → (rest : List Step) × (rounds_steps t count ≡ rounds_steps t done ++ rest)
rounds_begin t done count below = begin 0 done count below
  where
    begin : (a n m : ℕ) → n ≤ m → (rest : List Step) × (flat_map (λ (j : ℕ). round_steps t) (range_with_len a m) ≡ flat_map (λ (j : ℕ). round_steps t) (range_with_len a n) ++ rest)
    begin a zero m few = (flat_map (λ (j : ℕ). round_steps t) (range_with_len a m), refl)
    begin a (suc n) zero few = absurd (omega arith)
    begin a (suc n) (suc m) few =
        let more = begin (a + 1) n m (omega arith) in (
          more.0,
          ap (λ (zs : List Step). round_steps t ++ zs) more.1 ∙ sym (append_assoc (round_steps t) (flat_map (λ (j : ℕ). round_steps t) (range_with_len (a + 1) n)) more.0),
        )

-- the steps of a list of things begin with those of its first ones
pub steps_begin : {X : Type 0} (f : X → List Step) (xs : List X) (i : ℕ) → (rest : List Step) × (flat_map f xs ≡ flat_map f (take i xs) ++ rest)
steps_begin f xs zero = (flat_map f xs, refl)
steps_begin f [] (suc i) = ([], refl)
steps_begin f (x ∷ xs) (suc i) =
    let more = steps_begin f xs i in (
      more.0,
      ap (λ (zs : List Step). f x ++ zs) more.1 ∙ sym (append_assoc (f x) (flat_map f (take i xs)) more.0),
    )

-- one more of them
steps_more : {X : Type 0} (f : X → List Step) (xs : List X) (i : ℕ) (d : X) → i < length xs → flat_map f (take (i + 1) xs) ≡ flat_map f (take i xs) ++ f (get_or xs i d)
steps_more f [] i d below = absurd (omega arith)
steps_more f (y ∷ ys) zero d below = append-nil (f y)
steps_more f (y ∷ ys) (suc i) d below = ap (λ (k : ℕ). flat_map f (take k (y ∷ ys))) (let e : suc i + 1 ≡ suc (i + 1) = omega arith in e) ∙ ap (λ (zs : List Step). f y ++ zs) (steps_more f ys i d (omega arith)) ∙ sym (append_assoc (f y) (flat_map f (take i ys)) (f (get_or ys i d)))

-- the same, of a list that is another
pub steps_more_as : {X : Type 0} (f : X → List Step) (items xs : List X) (i : ℕ) (d : X) → items ≡ xs → i < length items → flat_map f (take (i + 1) xs) ≡ flat_map f (take i xs) ++ f (get_or items i d)
steps_more_as {X} f items xs i d are below = subst (λ (ys : List X). flat_map f (take (i + 1) ys) ≡ flat_map f (take i ys) ++ f (get_or items i d)) are (steps_more f items i d below)

-- one more round
pub rounds_more : (t : Topology) (n : ℕ) → rounds_steps t (n + 1) ≡ rounds_steps t n ++ round_steps t
rounds_more t n = more 0 n
  where
    more : (a k : ℕ) → flat_map (λ (j : ℕ). round_steps t) (range_with_len a (k + 1)) ≡ flat_map (λ (j : ℕ). round_steps t) (range_with_len a k) ++ round_steps t
    more a zero = append-nil (round_steps t)
    more a (suc k) = ap (λ (j : ℕ). flat_map (λ (i : ℕ). round_steps t) (range_with_len a j)) (let e : suc k + 1 ≡ suc (k + 1) = omega arith in e) ∙ ap (λ (zs : List Step). round_steps t ++ zs) (more (a + 1) k) ∙ sym (append_assoc (round_steps t) (flat_map (λ (j : ℕ). round_steps t) (range_with_len (a + 1) k)) (round_steps t))

-- ---- an engine of the same run

module _ {I : Type 0} {g : Ghosts I} (old mid : Engine I g) (same : IsOfSameRun old mid) where
  pub over_there : has_ended mid ≡ true → is_over (topology_in old) (cut_in old) (shape mid) ≡ true
  over_there over =
      subst (λ (u : Topology). is_over u (cut_in old) (shape mid) ≡ true) same.topology (subst (λ (k : Cut). is_over (topology_in mid) k (shape mid) ≡ true) same.cut over)

  pub once_there : (new : Engine I g) → IsOnce (cut_in mid) last_tick new.fates → IsOnce (cut_in old) last_tick new.fates
  once_there new own = subst (λ (k : Cut). IsOnce k last_tick new.fates) same.cut own

  pub same_then : (new : Engine I g) → IsOfSameRun mid new → IsOfSameRun old new
  same_then new next = record { topology = next.topology ∙ same.topology; cut = next.cut ∙ same.cut }

  -- an event of a list that fits the one fits the other
  pub fits_there : (items events : List Event) (i : ℕ) (d : Event) → items ≡ events → AllByRecursion (FitsEvent (topology_in old)) events → i < length items → FitsEvent (topology_in mid) (get_or items i d)
  fits_there items events i d are all below = subst (λ (u : Topology). FitsEvent u (get_or items i d)) (sym same.topology) (at items i (subst (λ (xs : List Event). AllByRecursion (FitsEvent (topology_in old)) xs) (sym are) all) below)
    where
      at : (xs : List Event) (k : ℕ) → AllByRecursion (FitsEvent (topology_in old)) xs → k < length xs → FitsEvent (topology_in old) (get_or xs k d)
      at [] k each few = absurd (omega arith)
      at (x ∷ xs) zero each few = each.0
      at (x ∷ xs) (suc k) each few = at xs k each.1 (omega arith)

-- ---- steps that were carried out

module _ {I S : Type 0} {g : Ghosts I} (tells : I → (ℕ → ℕ) → ℕ → Type 0) (holds : S → CellMap → Type 0) (count : S → ℕ) (custom : Custom) where
  -- an engine went through these steps, and the next event may come
  pub record Driven (steps : List Step) (old mid : Engine I g) (p q : List (StatePart S)) : Type 0 where
    pub at_rest : IsAtRest mid
    pub same_run : IsOfSameRun old mid
    pub parts : AreParts (topology_in old) q
    pub drives : Drives tells holds count (topology_in old) custom (cut_in old) steps old mid p q
    pub kept : AreKept holds p q

  module _ (old : Engine I g) (p : List (StatePart S)) (laws : Laws count (topology_in old) custom (cut_in old)) where
    pub driven-none : IsAtRest old → AreParts (topology_in old) p → Driven [] old old p p
    driven-none rest are = record {
      at_rest = rest;
      same_run = record { topology = refl; cut = refl };
      parts = are;
      drives = drives-none tells holds count (topology_in old) custom (cut_in old) laws old p;
      kept = kept-none holds p;
    }

    module _ (first : List Step) (mid : Engine I g) (q : List (StatePart S)) (kept : Driven first old mid p q) where
      -- the rest of the steps does nothing when all is over
      pub driven-over : (all rest : List Step) → all ≡ first ++ rest → has_ended mid ≡ true → Drives tells holds count (topology_in old) custom (cut_in old) all old mid p q
      driven-over all rest are over =
          let t = topology_in old in
          let cut = cut_in old in
          let still = drives-over tells holds count t custom cut laws rest mid q (over_there old mid kept.same_run over) in
          subst (λ (steps : List Step). Drives tells holds count t custom cut steps old mid p q) (sym are) (drives-then tells holds count t custom cut laws first rest old mid mid p q q kept.drives still)

      -- further steps
      pub driven-then : (all : List Step) (steps : Topology → List Step) (new : Engine I g) (r : List (StatePart S)) → all ≡ first ++ steps (topology_in old) → IsAtRest new → IsOfSameRun mid new → Drives tells holds count (topology_in mid) custom (cut_in mid) (steps (topology_in mid)) mid new q r → AreKept holds q r → Driven all old new p r
      driven-then all steps new r are rest same own keeps =
          let t = topology_in old in
          let cut = cut_in old in
          let next = drives_there tells holds count custom steps old mid new q r kept.same_run own in record {
            at_rest = rest;
            same_run = same_then old mid kept.same_run new same;
            parts = next.plans ∙ kept.parts;
            drives = subst (λ (steps : List Step). Drives tells holds count t custom cut steps old new p r) (sym are) (drives-then tells holds count t custom cut laws first (steps t) old mid new p q r kept.drives next);
            kept = kept-then holds p q r kept.kept keeps;
          }

      -- further steps up to a bad cell, and more that were to come
      pub driven-breaks : (all more : List Step) (steps : Topology → List Step) (key : List ℕ) (new : Engine I g) (r : List (StatePart S)) → all ≡ (first ++ steps (topology_in old)) ++ more
          → Breaks tells holds count (topology_in mid) custom (cut_in mid) (steps (topology_in mid)) key mid new q r → Breaks tells holds count (topology_in old) custom (cut_in old) all key old new p r
      driven-breaks all more steps key new r are own =
          let t = topology_in old in
          breaks-longer tells holds count t custom (cut_in old) (first ++ steps t) more all key old new p r are
          (breaks-then tells holds count t custom (cut_in old) laws first (steps t) key old mid new p q r kept.drives (breaks_there tells holds count custom steps key old mid new q r kept.same_run own))

      -- or up to a commit at which a follower failed
      pub driven-unfollowed : (all more : List Step) (steps : Topology → List Step) (txid : ℕ) (new : Engine I g) (r : List (StatePart S)) → all ≡ (first ++ steps (topology_in old)) ++ more
          → Unfollowed tells holds count (topology_in mid) custom (cut_in mid) (steps (topology_in mid)) txid mid new q r → Unfollowed tells holds count (topology_in old) custom (cut_in old) all txid old new p r
      driven-unfollowed all more steps txid new r are own =
          let t = topology_in old in
          unfollowed-longer tells holds count t custom (cut_in old) (first ++ steps t) more all txid old new p r are
          (unfollowed-then tells holds count t custom (cut_in old) laws first (steps t) txid old mid new p q r kept.drives (unfollowed_there tells holds count custom steps txid old mid new q r kept.same_run own))

      -- or up to where memory was wanted
      pub driven-wants : (fates : List Attempt) (r : List (StatePart S)) → WantsMemory tells holds count (topology_in mid) custom (cut_in mid) mid fates q r → WantsMemory tells holds count (topology_in old) custom (cut_in old) old fates p r
      driven-wants fates r own =
          wants-then tells holds count (topology_in old) custom (cut_in old) laws first old mid fates p q r kept.drives (wants_there tells holds count custom old mid fates q r kept.same_run own)

      pub parts_here : AreParts (topology_in mid) q
      parts_here = subst (λ (u : Topology). AreParts u q) (sym kept.same_run.topology) kept.parts

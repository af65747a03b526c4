-- Attempts that end, are settled or begin, as steps of what is known.
use Rattle.std.proofs.Common.{◌≡◌, ◌≢◌, ◌≤◌, ◌<◌, ℕ, suc, ◌+◌, ◌-◌, ◌^◌, ◌%◌, ◌==◌, ◌&&◌, min, Bool, true, false, not, cond, nat_lt, Option, Some, None, List, [], ◌∷◌, ◌++◌, length, map, filter, refl, sym, ap, ◌∙◌, arith}
use Rattle.std.specs.Prelude.{if◌then◌else◌, is_some, IsSome, OnOk, OnErr, Result, Ok, Err}
use Rattle.std.specs.List.{find, list_all, range_with_len}
use Rattle.std.specs.Option.{option_and_then}
use Rattle.std.proofs.lemmas.Bool.Decides.{nat_tests}
use Rattle.std.proofs.lemmas.List.{append-nil, append_assoc, map-append}
use Rattle.attempt_fates.specs.declared.fates.Attempt.{Attempt}
use Rattle.attempt_fates.specs.declared.fates.End.{End}
use Rattle.attempt_fates.specs.declared.fates.End.TheVariants as end
use Rattle.commit_order.proofs.Passing.{adds_back}
use Rattle.commit_order.proofs.Steps.{is_next}
use Rattle.commit_order.specs.Offices.{AddsSome, DropsAll, GoesOn, Office, try_of}
use Rattle.commit_turns.proofs.Aborting.{back_append}
use Rattle.commit_turns.specs.Desks.{Desk, ended_at, has_txid, settled, still, timed_of}
use Rattle.commit_turns.specs.Turns.{aborted, complete_timed, counted, drops, ends_with, free_txid, is_closed, last_txid, last_try, next_attempt, next_root}
use Rattle.commit_turns.specs.declared.wait.Wait.{Wait}
use Rattle.replay_pending.specs.InFlight.{tried, with_aborted}
use Rattle.replay_pending.proofs.Found.{first_of_two, passes}
use Rattle.replay_pending.proofs.Lists.{true_false}
use Rattle.taken_records.specs.Cuts.{Cut}
use Rattle.taken_records.specs.Taken.{marked, put_back}
use Rattle.tuple_account.specs.storm_values.Lines.{first_some}
use Rattle.tuple_account.specs.storm_values.declared.value.Root.{Root}
use Rattle.tuple_account.specs.topology_plan.Topology.{Topology}
use Rattle.tuple_account.specs.tree_model.Lists.{IsClosed, occurrences}
use Rattle.tuple_account.specs.tree_model.declared.messages.AckMsg.{AckMsg}
use Rattle.tuple_account.specs.tuple_tickets.Edges.{edge_eq, is_edge, times}
use Rattle.tuple_account.specs.tuple_tickets.declared.edge.Edge.{Edge}
use Rattle.tuple_account.proofs.tuple_tickets.Toggles.{same_edge, edge_itself}
use Rattle.tuple_account.specs.acker_core.Edges.{AreLeft}

-- ---- an attempt that was found

-- the attempt that was found is settled
pub second_is_some : (before : ℕ) (w : Wait) → is_next before w ≡ true → IsSome w.settled
second_is_some before w on = second (w.root.txid == before + 1) (is_some w.settled) on
  where
    second : (a b : Bool) → (a && b) ≡ true → b ≡ true
    second true b on = on
    second false b on = absurd (true_false (sym on))

pub next_txid : (before : ℕ) (w : Wait) → is_next before w ≡ true → w.root.txid ≡ before + 1
next_txid before w on = by (first_of_two (w.root.txid == before + 1) (is_some w.settled) on)
  where
    by : (w.root.txid == before + 1) ≡ true → w.root.txid ≡ before + 1
    by on = grind (arith, nat_tests)

-- ---- results

pub on_ok : {X E P Q : Type 0} (r : Result X E) → (P → Q) → OnOk r P → OnOk r Q
on_ok (Ok x) f p = f p
on_ok (Err e) f p = tt

pub on_err : {X E P : Type 0} (r : Result X E) → P → OnErr r P
on_err (Ok x) p = tt
on_err (Err e) p = p

pub on_all : {X E A B C Q : Type 0} (r : Result X E) → OnOk r A → OnOk r B → OnOk r C → (A → B → C → Q) → OnOk r Q
on_all (Ok x) a b c f = f a b c
on_all (Err e) a b c f = tt

-- ---- nothing changes

pub still_goes : (o : Office) (fates : List Attempt) → GoesOn (still o.desk) o o fates fates
still_goes o fates = record { office = refl; fates = sym (append-nil fates) }

-- ---- attempts abort, and others end with them

its_spans : (tick : ℕ) (how : End) (ws : List Wait) → map (λ (a : Attempt). a.spans) (map (ended_at tick how) ws) ≡ map (λ (w : Wait). w.spans) ws
its_spans tick how [] = refl
its_spans tick how (w ∷ ws) = ap (λ rest. w.spans ∷ rest) (its_spans tick how ws)

module _ (o mid : Office) (first : Attempt) (others : List Attempt) where
  abbrev t : Topology
  t = o.topology

  -- these attempts were counted, their records came back, and the first that was the last try stopped the coordinator
  abbrev pub Came : Type 0
  Came =
      mid
      ≡ record o {
        desk = record o.desk {
          tries = counted o.topology o.cut (first ∷ others) o.desk.tries;
          gone = put_back (map (λ (a : Attempt). a.spans) (first ∷ others)) o.desk.gone;
          exhausted = first_some (map (last_try o.topology o.cut (counted o.topology o.cut (first ∷ others) o.desk.tries)) (first ∷ others));
        };
      }

  pub aborts_go : (new : Office) (told fates tells : List Attempt) → Came → fates ≡ told ++ first ∷ others → DropsAll first.root mid new fates tells
      → GoesOn (aborted o.topology o.cut (first ∷ others) o.desk) o new told tells
  aborts_go new told fates tells is adds drop =
      let dropped = filter (ends_with o.topology o.cut first.root) o.desk.pending in
      let ended = drops o.topology o.cut o.desk.tick first.root o.desk.pending in
      let back : put_back (map (λ (a : Attempt). a.spans) (first ∷ others ++ ended)) o.desk.gone
      ≡ put_back (map (λ (w : Wait). w.spans) dropped) (put_back (map (λ (a : Attempt). a.spans) (first ∷ others)) o.desk.gone) =
      ap (λ xs. put_back xs o.desk.gone) (map-append (λ (a : Attempt). a.spans) (first ∷ others) ended)
      ∙ back_append (map (λ (a : Attempt). a.spans) (first ∷ others)) (map (λ (a : Attempt). a.spans) ended) o.desk.gone
      ∙ ap (λ xs. put_back xs (put_back (map (λ (a : Attempt). a.spans) (first ∷ others)) o.desk.gone)) (its_spans o.desk.tick (end.Dropped first.root) dropped) in
      let done = rw is at drop in
      record {
        office = done.office ∙ ap (λ gone. record o { desk = record (aborted o.topology o.cut (first ∷ others) o.desk).desk { gone = gone } }) (sym back);
        fates = done.fates ∙ ap (λ xs. xs ++ ended) adds ∙ append_assoc told (first ∷ others) ended;
      }

  pub aborts_short : (told fates tells : List Attempt) → Came → fates ≡ told ++ first ∷ others
      → AddsSome (drops mid.topology mid.cut mid.desk.tick first.root mid.desk.pending) fates tells
      → AddsSome (aborted o.topology o.cut (first ∷ others) o.desk).ended told tells
  aborts_short told fates tells is adds short =
      adds_back (first ∷ others) (drops o.topology o.cut o.desk.tick first.root o.desk.pending) told tells (rw (is, adds) at short)

one_some : {X : Type 0} (o : Option X) → first_some (o ∷ []) ≡ o
one_some None = refl
one_some (Some x) = refl

-- one attempt aborted, and counted
pub one_came : (o : Office) (root : Root) (tick : ℕ) (how : End) (w : Wait) (inside : Office) (last : Option ℕ) → w.root ≡ root
    → inside ≡ record o { desk = record o.desk { tries = with_aborted root.txid o.desk.tries; gone = marked false w.spans o.desk.gone } }
    → last ≡ try_of inside.topology inside.desk.tries root.txid
    → Came o (record inside { desk = record inside.desk { exhausted = last } }) (ended_at tick how w) []
one_came o root tick how w inside last same is tries =
    rw (tries, is, ← same)
    (ap (λ (e : Option ℕ). record o { desk = record o.desk { tries = with_aborted w.root.txid o.desk.tries; gone = marked false w.spans o.desk.gone; exhausted = e } })
    (sym (one_some (try_of o.topology (with_aborted w.root.txid o.desk.tries) w.root.txid))))

-- nothing was added yet
pub adds_none : (ended told tells : List Attempt) → tells ≡ told → AddsSome ended told tells
adds_none ended told tells same = record { done = []; rest = ended; are_first = refl; added = same ∙ sym (append-nil told) }

-- ---- a timed attempt is settled

pub settles : (o new : Office) (root : Root) (w : Wait) (list : List AckMsg) (fates : List Attempt)
    → timed_of root o.desk.pending ≡ Some w → w.root ≡ root → is_closed list ≡ true
    → new ≡ record o { desk = record o.desk { pending = settled root list o.desk.pending } }
    → GoesOn (complete_timed o.topology o.cut list (is_closed list) (timed_of root o.desk.pending) o.desk) o new fates fates
settles o new root w list fates at same closed is =
    rw (at, closed, is, ← same) (record { office = refl; fates = sym (append-nil fates) })

-- ---- closed lists

all_true : {X : Type 0} (p : X → Bool) (xs : List X) → ((x : X) → p x ≡ true) → list_all p xs ≡ true
all_true p [] each = refl
all_true p (x ∷ xs) each = ap (λ b. b && list_all p xs) (each x) ∙ all_true p xs each

is_zero : (n : ℕ) → n ≡ 0 → (n == 0) ≡ true
is_zero n e = grind (arith, nat_tests)

zero_is : (n : ℕ) → (n == 0) ≡ true → n ≡ 0
zero_is n on = grind (arith, nat_tests)

pub closed_true : (list : List AckMsg) → IsClosed list → is_closed list ≡ true
closed_true list closed =
    all_true (λ (e : Edge). times e (occurrences list) % 2 == 0) (occurrences list) (λ e. is_zero (times e (occurrences list) % 2) (closed e))

of_all : (p : Edge → Bool) (e : Edge) (es : List Edge) → list_all p es ≡ true → 1 ≤ times e es → p e ≡ true
of_all p e [] all some = absurd (omega arith)
of_all p e (x ∷ es) all some = by (edge_eq x e) refl (p x) refl all some (of_all p e es)
  where
    by : (b : Bool) → edge_eq x e ≡ b → (a : Bool) → p x ≡ a → (a && list_all p es) ≡ true → 1 ≤ (if b then 1 else 0) + times e es
        → (list_all p es ≡ true → 1 ≤ times e es → p e ≡ true) → p e ≡ true
    by true same true on all some rest = rw (← same_edge x e same) on
    by b same false on all some rest = absurd (true_false (sym all))
    by false other true on all some rest = rest all (omega arith)

odd_one : (n m : ℕ) → m ≡ n % 2 → 1 ≤ m → (n % 2 == 0) ≡ true → ⊥
odd_one n m is some on = let z = zero_is (n % 2) on in absurd (omega arith)

itself : (e : Edge) → is_edge e e ≡ 1
itself e = ap (λ b. cond {A = ℕ} b 1 0) (edge_itself e)

pub left_false : (list : List AckMsg) (left : List Edge) → AreLeft (occurrences list) left → left ≢ [] → is_closed list ≡ false
left_false list [] are some = absurd (some refl)
left_false list (e ∷ left) are some = by (is_closed list) refl
  where
    here : 1 ≤ times e (e ∷ left)
    here = let one : is_edge e e ≡ 1 = itself e in omega arith

    occurs : 1 ≤ times e (occurrences list)
    occurs = let odd = are.odd e in let one = here in omega arith

    by : (b : Bool) → is_closed list ≡ b → is_closed list ≡ false
    by false is = is
    by true is =
        absurd (odd_one (times e (occurrences list)) (times e (e ∷ left)) (are.odd e) here
        (of_all (λ (e : Edge). times e (occurrences list) % 2 == 0) e (occurrences list) is occurs))

-- ---- attempts begin

not_true : (b : Bool) → not b ≡ true → b ≡ false
not_true true on = sym on
not_true false on = refl

module _ (t : Topology) (cut : Cut) (d : Desk) where
  pub find_next : (b e : ℕ) → b < e → has_txid (b + 1) d.pending ≡ true
      → find (λ (txid : ℕ). not (has_txid txid d.pending)) (range_with_len (b + 1) (e - b))
      ≡ find (λ (txid : ℕ). not (has_txid txid d.pending)) (range_with_len (b + 1 + 1) (e - (b + 1)))
  find_next b e below on =
      let more : e - b ≡ suc (e - (b + 1)) = omega arith in
      ap (λ n. find (λ (txid : ℕ). not (has_txid txid d.pending)) (range_with_len (b + 1) n)) more
      ∙ ap (λ c. cond (not c) (Some (b + 1)) (find (λ (txid : ℕ). not (has_txid txid d.pending)) (range_with_len (b + 1 + 1) (e - (b + 1))))) on

  pub find_here : (b e : ℕ) → b < e → has_txid (b + 1) d.pending ≡ false
      → find (λ (txid : ℕ). not (has_txid txid d.pending)) (range_with_len (b + 1) (e - b)) ≡ Some (b + 1)
  find_here b e below off =
      let more : e - b ≡ suc (e - (b + 1)) = omega arith in
      ap (λ n. find (λ (txid : ℕ). not (has_txid txid d.pending)) (range_with_len (b + 1) n)) more
      ∙ ap (λ c. cond (not c) (Some (b + 1)) (find (λ (txid : ℕ). not (has_txid txid d.pending)) (range_with_len (b + 1 + 1) (e - (b + 1))))) off

  -- the root that begins next
  pub record IsNextRoot (root : Root) : Type 0 where
    pub fresh : has_txid root.txid d.pending ≡ false
    pub number : root.attempt ≡ (tried root.txid d.tries).begun + 1
    pub room : length d.pending < t.pending

  some_root : (a b : Root) → Some a ≡ Some b → a ≡ b
  some_root a b e = ap of_some e
    where
      of_some : Option Root → Root
      of_some None = a
      of_some (Some z) = z

  no_root : (a : Root) → None ≡ Some a → ⊥
  no_root a e = cc

  below : (m n : ℕ) → nat_lt m n ≡ true → m < n
  below m n on = grind (arith, nat_tests)

  pub next_is : (root : Root) → next_root t cut d ≡ Some root → IsNextRoot root
  next_is root is = by (nat_lt (length d.pending) t.pending) refl is
    where
      attempt : (txid : ℕ) (b : Bool) → cond b (Some (record { txid = txid; attempt = (tried txid d.tries).begun + 1 })) None ≡ Some root
          → record { txid = txid; attempt = (tried txid d.tries).begun + 1 } ≡ root
      attempt txid true on = some_root (record { txid = txid; attempt = (tried txid d.tries).begun + 1 }) root on
      attempt txid false off = absurd (no_root root off)

      free : (o : Option ℕ) → free_txid t cut d ≡ o → option_and_then (next_attempt t cut d) o ≡ Some root → length d.pending < t.pending → IsNextRoot root
      free None e on room = absurd (no_root root on)
      free (Some txid) e on room =
          let same = attempt txid (nat_lt (tried txid d.tries).begun (2 ^ 32 - 1)) on in
          let none = not_true (has_txid txid d.pending)
          (passes (λ (k : ℕ). not (has_txid k d.pending)) (range_with_len (d.committed + 1) (min (length d.pending + 1) (last_txid - d.committed))) txid e) in
          rw (← same) (record { fresh = none; number = refl; room = room })

      by : (b : Bool) → nat_lt (length d.pending) t.pending ≡ b → cond b (option_and_then (next_attempt t cut d) (free_txid t cut d)) None ≡ Some root → IsNextRoot root
      by true on is = free (free_txid t cut d) refl is (below (length d.pending) t.pending on)
      by false off is = absurd (no_root root is)

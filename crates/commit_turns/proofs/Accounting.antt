-- What the account keeps in a turn, and in the outcome of a commit.
use Rattle.std.proofs.Common.{◌≡◌, ◌≢◌, ℕ, ◌+◌, ◌≤◌, ◌==◌, inl, inr, Bool, true, false, cond, not, Option, None, Some, List, [], ◌∷◌, ◌++◌, filter, map, refl, sym, ap, subst, ◌∙◌, arith, eqb-true}
use Rattle.std.specs.Prelude.{is_some}
use Rattle.std.specs.List.{AllByRecursion}
use Rattle.std.specs.Option.{option_to_list}
use Rattle.std.proofs.lemmas.Bool.{and_cases, and_parts}
use Rattle.std.proofs.lemmas.List.{append-nil, append_assoc, map-append}
use Rattle.tuple_account.specs.acker_core.declared.verdict.Verdict.{Verdict}
use Rattle.tuple_account.specs.acker_core.declared.verdict.Verdict.TheVariants.{Complete, Fails}
use Rattle.attempt_fates.specs.declared.fates.Attempt.{Attempt}
use Rattle.attempt_fates.specs.declared.fates.End.{End}
use Rattle.attempt_fates.specs.declared.fates.End.TheVariants as end
use Rattle.tuple_account.specs.counted_items.Weights.{weigh}
use Rattle.tuple_account.proofs.counted_items.Each.{each-back, each-both, each-weaker}
use Rattle.tuple_account.proofs.counted_items.Weighing.{weigh-append, weigh-push}
use Rattle.tuple_account.proofs.rotating_ledger.RootLemmas.{root_eq-same}
use Rattle.tuple_account.specs.storm_values.declared.value.Root.{Root}
use Rattle.tuple_account.specs.topology_plan.Topology.{Topology}
use Rattle.tuple_account.specs.topology_plan.Valid.{IsValid}
use Rattle.tuple_account.specs.tree_model.Lists.{IsClosed}
use Rattle.tuple_account.specs.tree_model.declared.messages.AckMsg.{AckMsg}
use Rattle.taken_records.specs.Cuts.{Cut, IsStart}
use Rattle.tuple_account.specs.Ends.{Ended, commits_by, verdicts_by, verdicts_settled}
use Rattle.tuple_account.specs.Fits.{CheckedBy}
use Rattle.tuple_account.specs.Sound.{is_about}
use Rattle.state_parts.specs.declared.answer.CommitOutcome.{CommitOutcome}
use Rattle.state_parts.specs.declared.answer.CommitOutcome.TheVariants as outcome
use Rattle.commit_turns.specs.declared.wait.Wait.{Wait}
use Rattle.commit_turns.specs.Account.{ended_of, ending_of}
use Rattle.commit_turns.specs.Desks.{Desk, ended_at, is_late, is_of_root, is_timed, settled, timed_of, without}
use Rattle.replay_pending.specs.InFlight.{Tries, tried, with_aborted}
use Rattle.commit_turns.specs.Outcomes.{IsOutcome, roots_begun}
use Rattle.commit_turns.specs.Turns.{aborted, begun, complete_timed, counted, decided, decided_by, drops, end_by, end_timed, ends_with, filled, heard, is_closed, next_to_commit, next_wait, one_tick, ordered, turned}
use Rattle.commit_turns.proofs.Booking.{Books, IsChecked, IsUnheard, books_begun, books_commit, books_fall, books_heard, books_settled, books_told, books_tries, unheard_beside, is_root, not_begun}
use Rattle.commit_turns.proofs.Aborting.{ends_above, removed}
use Rattle.commit_turns.proofs.Beginning.{next_wait_is}
use Rattle.commit_turns.proofs.Closing.{closed_off}
use Rattle.commit_turns.proofs.Going.{IsGoing}
use Rattle.commit_turns.proofs.Holding.{IsBegun}
use Rattle.commit_turns.proofs.Lists.{Found, found, none_found}
use Rattle.commit_turns.proofs.Passing.{all_begun, all_turned}
use Rattle.commit_turns.proofs.Stepping.{going_out, left}
use Rattle.commit_turns.proofs.Tallies.{other-root, others-beside, settled-split, tally}
use Rattle.commit_turns.proofs.Tallying.{begun-aborted}
use Rattle.commit_turns.proofs.Ticking.{going_tick, no_stop}
use Rattle.commit_turns.proofs.Turning.{begins, going_heard, is_next, is_timed_of, turn_of}

-- the account at a desk
abbrev pub HasBooks : Topology → Cut → Desk → List Attempt → List Root → List Verdict → Type 0
HasBooks t cut d fates roots heard = Books t cut.start d.committed d.tries d.pending fates roots heard

-- ---- of others nothing is heard

-- one more attempt begins
pub begun_push : (roots : List Root) (new : List Wait) (w : Wait) → (roots ++ roots_begun new) ++ w.root ∷ [] ≡ roots ++ roots_begun (new ++ w ∷ [])
begun_push roots new w =
    append_assoc roots (roots_begun new) (w.root ∷ []) ∙ ap (λ (rs : List Root). roots ++ rs) (sym (map-append (λ (v : Wait). v.root) new (w ∷ [])))

module _ (v : Verdict) (root : Root) (about : (r : Root) → is_about r v ≡ is_root r root) (heard : List Verdict) where
  quiet_of : (w : Wait) → is_about w.root v ≡ 0 → IsUnheard heard w → IsUnheard (heard ++ v ∷ []) w
  quiet_of w none before timed = let e = before timed in let p = weigh-push (is_about w.root) heard v in omega arith

  other_is : (r : Root) → is_of_root root (record { root = r; spans = []; start = 0; settled = None }) ≡ false → is_about r v ≡ 0
  other_is r off = about r ∙ ap (λ (c : Bool). cond {A = ℕ} c 1 0) off

  unheard_others : (ws : List Wait) → AllByRecursion (λ (w : Wait). w.root.txid ≢ root.txid) ws → AllByRecursion (IsUnheard heard) ws → AllByRecursion (IsUnheard (heard ++ v ∷ [])) ws
  unheard_others ws differ all =
      each-weaker (λ (w : Wait). (w.root.txid ≢ root.txid) × IsUnheard heard w) (IsUnheard (heard ++ v ∷ []))
      (λ w both. quiet_of w (other_is w.root (other-root root w.root both.0)) both.1) ws (each-both (λ (w : Wait). w.root.txid ≢ root.txid) (IsUnheard heard) ws differ all)

  untimed : (w : Wait) → is_timed_of root w ≡ false → IsUnheard heard w → IsUnheard (heard ++ v ∷ []) w
  untimed w off before timed =
      elim (and_cases (is_of_root root w) (is_timed w) off) [
        | inl other ↦ quiet_of w (other_is w.root other) before timed
        | inr settled ↦ absurd (never (sym (ap (λ (o : Option (List AckMsg)). not (is_some o)) timed) ∙ settled))
      ]
    where
      never : true ≡ false → ⊥
      never e = cc

  unheard_untimed : (ws : List Wait) → AllByRecursion (λ (w : Wait). is_timed_of root w ≡ false) ws → AllByRecursion (IsUnheard heard) ws → AllByRecursion (IsUnheard (heard ++ v ∷ [])) ws
  unheard_untimed ws off all =
      each-weaker (λ (w : Wait). (is_timed_of root w ≡ false) × IsUnheard heard w) (IsUnheard (heard ++ v ∷ [])) (λ w both. untimed w both.0 both.1) ws
      (each-both (λ (w : Wait). is_timed_of root w ≡ false) (IsUnheard heard) ws off all)

-- ---- attempts abort, and others end with them

pub begun_counted : (t : Topology) (cut : Cut) (xs : List Attempt) (tries : Tries) (txid : ℕ) → (tried txid (counted t cut xs tries)).begun ≡ (tried txid tries).begun
begun_counted t cut [] tries txid = refl
begun_counted t cut (x ∷ xs) tries txid = begun_counted t cut xs (with_aborted x.root.txid tries) txid ∙ begun-aborted tries x.root.txid txid

module _ (t : Topology) (cut : Cut) (roots : List Root) (told : List Verdict) where
  pub aborted_books : (d : Desk) (fates xs : List Attempt) → HasBooks t cut d (fates ++ xs) roots told
      → HasBooks t cut (aborted t cut xs d).desk (fates ++ (aborted t cut xs d).ended) roots told
  aborted_books d fates [] b = b
  aborted_books d fates (first ∷ others) b =
      books_tries t cut.start d.committed d.tries (counted t cut (first ∷ others) d.tries) rest (fates ++ ((first ∷ others) ++ drops t cut d.tick first.root d.pending)) roots told
      (begun_counted t cut (first ∷ others) d.tries)
      (subst (λ (ended : List Attempt). Books t cut.start d.committed d.tries rest ended roots told) (append_assoc fates (first ∷ others) (drops t cut d.tick first.root d.pending))
      (removed (ends_with t cut first.root) dropped_at Dropping drops_one [] d.pending []
      (subst (λ (ended : List Attempt). Books t cut.start d.committed d.tries d.pending ended roots told) (sym (append-nil (fates ++ first ∷ others))) b)))
    where
      rest : List Wait
      rest = filter (λ (w : Wait). not (ends_with t cut first.root w)) d.pending

      dropped_at : Wait → Attempt
      dropped_at w = ended_at d.tick (end.Dropped first.root) w

      Dropping : List Wait → List Attempt → Type 0
      Dropping ps done = Books t cut.start d.committed d.tries ps ((fates ++ first ∷ others) ++ done) roots told

      drops_one : (before behind : List Wait) (w : Wait) (done : List Attempt) → ends_with t cut first.root w ≡ true → Dropping (before ++ w ∷ behind) done
          → Dropping (before ++ behind) (done ++ dropped_at w ∷ [])
      drops_one before behind w done on now =
          subst (λ (ended : List Attempt). Books t cut.start d.committed d.tries (before ++ behind) ended roots told) (append_assoc (fates ++ first ∷ others) done (dropped_at w ∷ []))
          (books_fall t cut.start d.committed d.tries d.tick before behind w ((fates ++ first ∷ others) ++ done) roots told now (end.Dropped first.root) refl (λ f. refl)
          (ends_above t cut first w on).1)

-- ---- a verdict is heard

module _ (t : Topology) (cut : Cut) (d : Desk) (fates : List Attempt) (going : IsGoing t cut d fates) (none : d.exhausted ≡ None) (roots : List Root) (told : List Verdict) (b : HasBooks t cut d fates roots told) where
  module _ (v : Verdict) (root : Root) (about : (r : Root) → is_about r v ≡ is_root r root) where
    ignored : timed_of root d.pending ≡ None → HasBooks t cut d (fates ++ []) roots (told ++ v ∷ [])
    ignored at =
        subst (λ (ended : List Attempt). HasBooks t cut d ended roots (told ++ v ∷ [])) (sym (append-nil fates))
        (books_heard t cut.start d.committed d.tries d.pending fates roots told v b (unheard_untimed v root about told d.pending (none_found (is_timed_of root) d.pending at) b.unheard))

    module _ (w : Wait) (at : Found (is_timed_of root) d.pending w) where
      abbrev Split : Type 0
      Split = Books t cut.start d.committed d.tries (at.before ++ w ∷ at.behind) fates roots told

      split : Split
      split = subst (λ (ps : List Wait). Books t cut.start d.committed d.tries ps fates roots told) at.split b

      same : root ≡ w.root
      same = root_eq-same root w.root (and_parts (is_of_root root w) (is_timed w) at.passes).0

      beside : AllByRecursion (λ (x : Wait). x.root.txid ≢ root.txid) (at.before ++ at.behind)
      beside =
          subst (λ (r : Root). AllByRecursion (λ (x : Wait). x.root.txid ≢ r.txid) (at.before ++ at.behind)) (sym same)
          (others-beside at.before at.behind w (subst (λ (ps : List Wait). (txid : ℕ) → tally txid ps ≤ 1) at.split going.holds.one))

      unheard : AllByRecursion (IsUnheard (told ++ v ∷ [])) (at.before ++ at.behind)
      unheard = unheard_others v root about told (at.before ++ at.behind) beside (unheard_beside t cut.start d.committed d.tries d.tick at.before at.behind w fates roots told split)

      books_end_now : (how : End) → commits_by (ending_of how) ≡ 0 → ((f : Verdict → ℕ) → weigh f (verdicts_by w.root (ending_of how)) ≡ f v) → IsChecked t (ended_at d.tick how w)
          → HasBooks t cut (record d { pending = without w.root d.pending }) (fates ++ ended_at d.tick how w ∷ []) roots (told ++ v ∷ [])
      books_end_now how free says checked =
          subst (λ (ps : List Wait). Books t cut.start d.committed d.tries ps (fates ++ ended_at d.tick how w ∷ []) roots (told ++ v ∷ [])) (left t cut d fates going none (is_timed_of root) w at)
          (books_told t cut.start d.committed d.tries d.tick at.before at.behind w fates roots told split how free v says checked unheard)

      books_settle_now : (list : List AckMsg) → ((f : Verdict → ℕ) → weigh f (verdicts_settled w.root (Some list)) ≡ f v) → HasBooks t cut (record d { pending = settled w.root list d.pending }) fates roots (told ++ v ∷ [])
      books_settle_now list says =
          subst (λ (ps : List Wait). Books t cut.start d.committed d.tries ps fates roots (told ++ v ∷ [])) now
          (books_settled t cut.start d.committed d.tries d.tick at.before at.behind w fates roots told split list v says unheard)
        where
          now : at.before ++ record w { settled = Some list } ∷ at.behind ≡ settled w.root list d.pending
          now = sym (ap (settled w.root list) at.split ∙ settled-split at.before at.behind w (subst (λ (ps : List Wait). (txid : ℕ) → tally txid ps ≤ 1) at.split going.holds.one) list)

  fails : (root : Root) (path : List ℕ) (o : Option Wait) → timed_of root d.pending ≡ o
      → HasBooks t cut (end_timed t cut (end.Failed path) o d).desk (fates ++ (end_timed t cut (end.Failed path) o d).ended) roots (told ++ Fails root path ∷ [])
  fails root path None at = ignored (Fails root path) root (λ r. refl) at
  fails root path (Some w) at =
      let f = found (is_timed_of root) d.pending w at in
      aborted_books t cut roots (told ++ Fails root path ∷ []) (record d { pending = without w.root d.pending }) fates (ended_at d.tick (end.Failed path) w ∷ [])
      (books_end_now (Fails root path) root (λ r. refl) w f (end.Failed path) refl
      (λ g. (let e = ap (λ (r : Root). g (Fails r path)) (same (Fails root path) root (λ r. refl) w f) in omega arith)) tt)

  completes : (root : Root) (list : List AckMsg) (c : Bool) → is_closed list ≡ c → (o : Option Wait) → timed_of root d.pending ≡ o
      → HasBooks t cut (complete_timed t cut list c o d).desk (fates ++ (complete_timed t cut list c o d).ended) roots (told ++ Complete root list ∷ [])
  completes root list c is None at = ignored (Complete root list) root (λ r. refl) at
  completes root list true is (Some w) at =
      let f = found (is_timed_of root) d.pending w at in
      subst (λ (ended : List Attempt). HasBooks t cut (record d { pending = settled w.root list d.pending }) ended roots (told ++ Complete root list ∷ [])) (sym (append-nil fates))
      (books_settle_now (Complete root list) root (λ r. refl) w f list
      (λ g. (let e = ap (λ (r : Root). g (Complete r list)) (same (Complete root list) root (λ r. refl) w f) in omega arith)))
  completes root list false is (Some w) at =
      let f = found (is_timed_of root) d.pending w at in
      aborted_books t cut roots (told ++ Complete root list ∷ []) (record d { pending = without w.root d.pending }) fates (ended_at d.tick (end.Coincided list) w ∷ [])
      (books_end_now (Complete root list) root (λ r. refl) w f (end.Coincided list) refl
      (λ g. (let e = ap (λ (r : Root). g (Complete r list)) (same (Complete root list) root (λ r. refl) w f) in omega arith)) (closed_off list is))

  pub hears_books : (verdict : Option Verdict) → HasBooks t cut (heard t cut verdict d).desk (fates ++ (heard t cut verdict d).ended) roots (told ++ option_to_list verdict)
  hears_books None =
      subst (λ (ended : List Attempt). HasBooks t cut d ended roots (told ++ [])) (sym (append-nil fates))
      (subst (λ (vs : List Verdict). HasBooks t cut d fates roots vs) (sym (append-nil told)) b)
  hears_books (Some (Complete root list)) = completes root list (is_closed list) refl (timed_of root d.pending) refl
  hears_books (Some (Fails root path)) = fails root path (timed_of root d.pending) refl

-- ---- a tick

module _ (t : Topology) (cut : Cut) (roots : List Root) (told : List Verdict) where
  module _ (d : Desk) (fates : List Attempt) (b : HasBooks t cut d fates roots told) where
    abbrev now : ℕ
    now = d.tick + 1

    abbrev Ticking : List Wait → List Attempt → Type 0
    Ticking ps done = Books t cut.start d.committed d.tries ps (fates ++ done) roots told

    times_out : (before behind : List Wait) (w : Wait) (done : List Attempt) → is_late t.buckets now w ≡ true → Ticking (before ++ w ∷ behind) done
        → Ticking (before ++ behind) (done ++ ended_at now end.TimedOut w ∷ [])
    times_out before behind w done late so_far =
        subst (λ (ended : List Attempt). Books t cut.start d.committed d.tries (before ++ behind) ended roots told) (append_assoc fates done (ended_at now end.TimedOut w ∷ []))
        (books_fall t cut.start d.committed d.tries now before behind w (fates ++ done) roots told so_far end.TimedOut refl (λ f. refl)
        (sym (eqb-true (w.start + t.buckets) now (and_parts (is_timed w) (w.start + t.buckets == now) late).1)))

    pub tick_books : HasBooks t cut (one_tick t cut d).desk (fates ++ (one_tick t cut d).ended) roots told
    tick_books =
        aborted_books t cut roots told
        (record d { tick = now; pending = filter (λ (w : Wait). not (is_late t.buckets now w)) d.pending }) fates (map (ended_at now end.TimedOut) (filter (is_late t.buckets now) d.pending))
        (removed (is_late t.buckets now) (ended_at now end.TimedOut) Ticking times_out [] d.pending []
        (subst (λ (ended : List Attempt). HasBooks t cut d ended roots told) (sym (append-nil fates)) b))

  -- ---- attempts begin

  module _ (valid : IsValid t) (start : IsStart cut) (shut : ℕ) (fates : List Attempt) (quiet : (root : Root) → weigh (is_about root) told ≤ weigh (is_root root) roots) where
    record IsFilling (d : Desk) (new : List Wait) : Type 0 where
      going : IsGoing t cut d fates
      none : d.exhausted ≡ None
      books : HasBooks t cut d fates (roots ++ roots_begun new) told

    one_begins : (d : Desk) (new : List Wait) (w : Wait) → next_wait t cut shut d ≡ Some w → IsFilling d new → IsFilling (begun t cut w d) (new ++ w ∷ [])
    one_begins d new w some filling =
        let is = next_wait_is t cut d filling.going.holds.one shut w some in
        let z = not_begun d.tries w.root is.root.number (roots ++ roots_begun new) filling.books.numbered in
        let a = weigh-append (is_root w.root) roots (roots_begun new) in
        let q = quiet w.root in
        let both = begins t cut valid start shut fates d new w some (filling.going, filling.none) in
        record {
          going = both.0;
          none = both.1;
          books = subst (λ (rs : List Root). HasBooks t cut (begun t cut w d) fates rs told) (begun_push roots new w)
              (books_begun t cut.start d.committed d.tries d.tick d.pending fates (roots ++ roots_begun new) told filling.books w is.timed is.root.number (omega arith));
        }

    pub fill_books : (d : Desk) → d.exhausted ≡ None → IsGoing t cut d fates → HasBooks t cut d fates roots told
        → IsGoing t cut (filled t cut shut t.pending (ordered t cut d)).desk fates
        × HasBooks t cut (filled t cut shut t.pending (ordered t cut d)).desk fates (roots ++ roots_begun (filled t cut shut t.pending (ordered t cut d)).begun) told
    fill_books d none going b =
        let f = all_begun t cut shut IsFilling one_begins t.pending (ordered t cut d) []
        (record { going = going_out t cut d fates (ordered t cut d).out going; none = none; books = subst (λ (rs : List Root). HasBooks t cut d fates rs told) (sym (append-nil roots)) b }) in
        (f.going, f.books)

-- ---- a turn

pub turn_books : (t : Topology) (cut : Cut) → IsValid t → IsStart cut → (d : Desk) (fates : List Attempt) → d.exhausted ≡ None → IsGoing t cut d fates → (roots : List Root) (told : List Verdict)
    → HasBooks t cut d fates roots told
    → (verdict : Option Verdict) (ticks shut : ℕ) → ((root : Root) → weigh (is_about root) (told ++ option_to_list verdict) ≤ weigh (is_root root) roots)
    → IsGoing t cut (turned t cut verdict ticks shut d).desk (fates ++ (turned t cut verdict ticks shut d).ended)
    × HasBooks t cut (turned t cut verdict ticks shut d).desk (fates ++ (turned t cut verdict ticks shut d).ended)
    (roots ++ roots_begun (turned t cut verdict ticks shut d).begun) (told ++ option_to_list verdict)
turn_books t cut valid start d fates none going roots told b verdict ticks shut quiet =
    all_turned t cut verdict ticks shut d fates
    (λ e ended. IsGoing t cut e ended × HasBooks t cut e ended roots (told ++ option_to_list verdict))
    (λ e ended new. IsGoing t cut e ended × HasBooks t cut e ended (roots ++ roots_begun new) (told ++ option_to_list verdict))
    (going_heard t cut d fates going none verdict, hears_books t cut d fates going none roots told b verdict)
    (λ e ended goes both. (going_tick t cut e ended both.0 (no_stop t cut e goes), tick_books t cut roots (told ++ option_to_list verdict) e ended both.1))
    (λ e ended txid is both. (both.0, subst (λ (rs : List Root). HasBooks t cut e ended rs (told ++ option_to_list verdict)) (sym (append-nil roots)) both.1))
    (λ e ended still_none both. fill_books t cut roots (told ++ option_to_list verdict) valid start shut ended quiet e still_none both.0 both.1)

-- ---- the outcome of a commit

module _ (t : Topology) (cut : Cut) (d : Desk) (fates : List Attempt) (going : IsGoing t cut d fates) (none : d.exhausted ≡ None) (roots : List Root) (told : List Verdict) (b : HasBooks t cut d fates roots told) where
  module _ (w : Wait) (at : Found (is_next d) d.pending w) where
    split_one : Books t cut.start d.committed d.tries (at.before ++ w ∷ at.behind) fates roots told
    split_one = subst (λ (ps : List Wait). Books t cut.start d.committed d.tries ps fates roots told) at.split b

    leave : at.before ++ at.behind ≡ without w.root d.pending
    leave = left t cut d fates going none (is_next d) w at

    early : cut.start ≤ d.committed
    early = (let c = going.holds.told.commits in omega (arith, c))

    is_there : is_some w.settled ≡ true
    is_there = (and_parts (w.root.txid == d.committed + 1) (is_some w.settled) at.passes).1

    says : (f : Verdict → ℕ) (s : Option (List AckMsg)) → is_some s ≡ true → weigh f (verdicts_by w.root (ending_of (end_by t cut outcome.Done s))) ≡ weigh f (verdicts_settled w.root s)
    says f None some = absurd (never some)
      where
        never : false ≡ true → ⊥
        never e = cc
    says f (Some list) some = refl

    counts_one : (s : Option (List AckMsg)) → commits_by (ending_of (end_by t cut outcome.Done s)) ≡ 1
    counts_one None = refl
    counts_one (Some list) = refl

    is_checked : (s : Option (List AckMsg)) → is_some s ≡ true → ((list : List AckMsg) → s ≡ Some list → IsClosed list) → (x : Ended) → CheckedBy t x (ending_of (end_by t cut outcome.Done s))
    is_checked None some closed x = absurd (never some)
      where
        never : false ≡ true → ⊥
        never e = cc
    is_checked (Some list) some closed x = closed list refl

    its_list : (list : List AckMsg) → w.settled ≡ Some list → IsClosed list
    its_list = (each-back (IsBegun t cut d.tries d.committed d.tick) at.before (w ∷ at.behind) (subst (AllByRecursion (IsBegun t cut d.tries d.committed d.tick)) at.split going.holds.waits)).0.closed

    decide_one : (how : CommitOutcome) → IsOutcome t how → HasBooks t cut (decided_by t cut how (Some w) d).desk (fates ++ (decided_by t cut how (Some w) d).ended) roots told
    decide_one outcome.Done is =
        subst (λ (ps : List Wait). Books t cut.start (d.committed + 1) d.tries ps (fates ++ ended_at d.tick (end_by t cut outcome.Done w.settled) w ∷ []) roots told) leave
        (books_commit t cut.start d.committed d.tries d.tick at.before at.behind w fates roots told split_one early (end_by t cut outcome.Done w.settled) (counts_one w.settled) (turn_of t cut d w at)
        (λ f. says f w.settled is_there) (is_checked w.settled is_there its_list (ended_of (ended_at d.tick (end_by t cut outcome.Done w.settled) w))))
    decide_one (outcome.Failed component part before after) is =
        aborted_books t cut roots told (record d { pending = without w.root d.pending; out = false }) fates (ended_at d.tick (end.CommitFailed component part before after) w ∷ [])
        (subst (λ (ps : List Wait). Books t cut.start d.committed d.tries ps (fates ++ ended_at d.tick (end.CommitFailed component part before after) w ∷ []) roots told) leave
        (books_fall t cut.start d.committed d.tries d.tick at.before at.behind w fates roots told split_one (end.CommitFailed component part before after) refl (λ f. refl) is))

  pub decide_books : (how : CommitOutcome) → IsOutcome t how → HasBooks t cut (decided t cut how d).desk (fates ++ (decided t cut how d).ended) roots told
  decide_books how is = by how is (next_to_commit t cut d) refl
    where
      by : (how : CommitOutcome) → IsOutcome t how → (o : Option Wait) → next_to_commit t cut d ≡ o
          → HasBooks t cut (decided_by t cut how o d).desk (fates ++ (decided_by t cut how o d).ended) roots told
      by outcome.Done is None at = subst (λ (ended : List Attempt). HasBooks t cut d ended roots told) (sym (append-nil fates)) b
      by (outcome.Failed component part before after) is None at = subst (λ (ended : List Attempt). HasBooks t cut d ended roots told) (sym (append-nil fates)) b
      by how is (Some w) at = decide_one w (found (is_next d) d.pending w at) how is

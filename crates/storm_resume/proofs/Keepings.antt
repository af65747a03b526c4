-- What a keeper holds of a run, from what its follower was told.
use Rattle.std.proofs.Common.{◌≡◌, ◌⊎◌, ℕ, ◌+◌, ◌-◌, ◌^◌, ◌<◌, ◌≤◌, List, [], ◌∷◌, ◌++◌, None, Some, Result, Ok, length, map, refl, sym, ap, ap₂, subst, ◌∙◌, inl, inr, arith}
use Rattle.std.specs.Prelude.{Bool, true, false, cond, IsTrue}
use Rattle.std.specs.List.{AllZip}
use Rattle.std.proofs.lemmas.Bool.{cases_lt}
use Rattle.event_worlds.specs.attempt_fates.declared.fates.Attempt.{Attempt}
use Rattle.event_worlds.specs.attempt_fates.Fates.{IsOnce, IsWhole, committed, committed_batches, committed_txids, is_committed}
use Rattle.event_worlds.specs.commit_order.Follows.{AreCommitsOf, FailsAtLast, Follows, IsCommitBy}
use Rattle.event_worlds.specs.record_offers.Offers.{fresh, is_gone}
use Rattle.event_worlds.specs.record_offers.Starts.{IsPossible}
use Rattle.event_worlds.specs.record_spans.Spans.{stands_in}
use Rattle.event_worlds.specs.record_spans.declared.span.Span.{Span}
use Rattle.event_worlds.specs.state_parts.declared.answer.Commit.{Commit}
use Rattle.event_worlds.specs.storm_values.Counts.{Rose, raised}
use Rattle.event_worlds.specs.storm_values.declared.value.Value.{Value}
use Rattle.event_worlds.specs.taken_records.Cuts.{Cut}
use Rattle.event_worlds.specs.taken_records.Taken.{one_if, times_in}
use Rattle.event_engine.proofs.FatesLemmas.{first_once}
use Rattle.kept_commits.proofs.KeptRuns.{followers_keep_runs, gone_at, last_committed, last_of, marks_len, whole_runs_are_kept}
use Rattle.kept_commits.specs.Kept.{Keeps, start_of}
use Rattle.kept_commits.specs.KeptRuns.{IsHeldAfterRun, all_spans, cut_at}
use Rattle.resume_meta.specs.Keepers.{Held}
use Rattle.resume_meta.specs.Meta.{meta_text}
use Rattle.resume_meta.specs.declared.meta.Meta.{Meta}
use Rattle.storm_answers.specs.stored_runs.declared.ending.RunEnd.{RunEnd}
use Rattle.storm_answers.specs.stored_runs.declared.ending.RunEnd.TheVariants as end
use Rattle.storm_answers.specs.stored_runs.StoredRuns.{EndFollowed}
use Rattle.storm_resume.specs.Keeping.{FailedOnce, HoldsAfter, KeeperUse, IsHeldOfAll, NoFault, keeper_use}
use Rattle.storm_resume.specs.steps.Going.{last_txid}

-- ---- counts

-- a count that was raised rose
pub rose_raised : (before after : ℕ) → after ≡ raised before → Rose before after
rose_raised before after is = by (cases_lt before (2 ^ 64 - 1))
  where
    by : (before < 2 ^ 64 - 1) ⊎ (2 ^ 64 - 1 ≤ before) → Rose before after
    by (inl less) = inl (omega arith)
    by (inr most) = inr (omega arith)

-- ---- the last transaction

last_of_fates : (txid : ℕ) (fates : List Attempt) → last_txid txid fates ≡ last_of txid (committed_txids fates)
last_of_fates txid [] = refl
last_of_fates txid (a ∷ fates) = by (λ t. last_of_fates t fates) (is_committed a.end) refl
  where
    by : ((t : ℕ) → last_txid t fates ≡ last_of t (committed_txids fates)) → (b : Bool) → is_committed a.end ≡ b → last_txid txid (a ∷ fates) ≡ last_of txid (committed_txids (a ∷ fates))
    by rest true is = rw is (rest a.root.txid)
    by rest false is = rw is (rest txid)

-- the transactions of the commits follow that of the start
pub last_is : (cut : Cut) (txid ticks : ℕ) (fates : List Attempt) → cut.start ≡ txid → IsOnce cut ticks fates → last_txid txid fates ≡ txid + length (committed fates)
last_is cut txid ticks fates start once = last_of_fates txid fates ∙ last_committed cut txid ticks fates start once

-- ---- a run, and its follower

-- the commits of some attempts, and of one more that was committed
commits_more : (more : List Attempt) (commits : List Commit) (last : Attempt) (commit : Commit) → AreCommitsOf more commits → IsTrue (is_committed last.end) → IsCommitBy last commit → AreCommitsOf (more ++ last ∷ []) (commits ++ commit ∷ [])
commits_more [] [] last commit are done is = rw done (is, tt)
commits_more [] (c ∷ commits) last commit are done is = absurd are
commits_more (a ∷ more) commits last commit are done is = by (λ cs own. commits_more more cs last commit own done is) (is_committed a.end) refl commits are
  where
    by : ((cs : List Commit) → AreCommitsOf more cs → AreCommitsOf (more ++ last ∷ []) (cs ++ commit ∷ [])) → (b : Bool) → is_committed a.end ≡ b → (cs : List Commit) → AreCommitsOf (a ∷ more) cs → AreCommitsOf ((a ∷ more) ++ last ∷ []) (cs ++ commit ∷ [])
    by rest_so true at [] own = absurd (subst (λ (x : Bool). AllZip IsCommitBy (cond x (a ∷ committed more) (committed more)) []) at own)
    by rest_so true at (c ∷ cs) own =
        let parts : AllZip IsCommitBy (a ∷ committed more) (c ∷ cs) = subst (λ (x : Bool). AllZip IsCommitBy (cond x (a ∷ committed more) (committed more)) (c ∷ cs)) at own in
        subst (λ (x : Bool). AllZip IsCommitBy (cond x (a ∷ committed (more ++ last ∷ [])) (committed (more ++ last ∷ []))) (c ∷ (cs ++ commit ∷ []))) (sym at)
        (parts.0, rest_so cs parts.1)
    by rest_so false at cs own =
        let rest : AllZip IsCommitBy (committed more) cs = subst (λ (x : Bool). AllZip IsCommitBy (cond x (a ∷ committed more) (committed more)) cs) at own in
        subst (λ (x : Bool). AllZip IsCommitBy (cond x (a ∷ committed (more ++ last ∷ [])) (committed (more ++ last ∷ []))) (cs ++ commit ∷ [])) (sym at)
        (rest_so cs rest)

-- What the keeper of a run that ended so came to: it holds what is committed, or failed at the last
-- commit.
abbrev pub Kept : KeeperUse → Meta → List Attempt → RunEnd → Type 0
Kept keeper start fates (end.Follow txid) =
    FailedOnce keeper
    × ((earlier : List Attempt) × (last : Attempt) × (fates ≡ earlier ++ last ∷ [])
    × ((held : Held) → keeper.held held → (now : Held) × keeper.holds now
    × (IsHeldAfterRun start earlier now ⊎ IsHeldAfterRun start fates now)))
Kept keeper start fates ending = HoldsAfter keeper start fates × NoFault keeper

module _ {P W : Type 0} (holds : P → Held → Type 0) (faults : P → ℕ) (old : P) (was is : W) (tells : W → List Commit → Type 0) (count : W → ℕ) (keep : W → P) (keeps : (w : W) (cs : List Commit) → tells w cs → Keeps holds (keep w) cs)
    (counts : (w : W) → count w ≡ faults (keep w)) (same : keep was ≡ old) (start : Meta) (told : (held : Held) → holds old held → tells was (start_of start ∷ [])) (cut : Cut) (at : cut.start ≡ start.txid) where
  abbrev pub use_of : KeeperUse
  use_of = keeper_use holds faults old (keep is)

  held_after : (ticks : ℕ) (fates : List Attempt) (commits : List Commit) → IsOnce cut ticks fates → AreCommitsOf fates commits → tells is (start_of start ∷ commits) → (now : Held) × holds (keep is) now × IsHeldAfterRun start fates now
  held_after ticks fates commits once are all =
      let run = followers_keep_runs holds start cut ticks fates commits (keep is) at once are (keeps is (start_of start ∷ commits) all) in
      (run.held, run.is_held, run.after)

  pub holds_after : (ticks : ℕ) (fates : List Attempt) → IsOnce cut ticks fates → Follows tells count [] fates was is → HoldsAfter use_of start fates
  holds_after ticks fates once follows held holding =
      let are : AreCommitsOf fates follows.commits = subst (λ (as_ : List Attempt). AreCommitsOf as_ follows.commits) (sym follows.added) follows.are in
      held_after ticks fates follows.commits once are (follows.told (start_of start ∷ []) (told held holding))

  pub no_fault : (fates : List Attempt) → Follows tells count [] fates was is → NoFault use_of
  no_fault fates follows = sym (counts is) ∙ follows.quiet ∙ counts was ∙ ap faults same

  pub failed_once : (fates : List Attempt) (txid : ℕ) → FailsAtLast tells count txid [] fates was is → FailedOnce use_of
  failed_once fates txid fails = sym (counts is) ∙ fails.failed ∙ ap raised (counts was ∙ ap faults same)

  pub quiet_so : count is ≡ count was → NoFault use_of
  quiet_so quiet = sym (counts is) ∙ quiet ∙ counts was ∙ ap faults same

  pub holds_either : (ticks : ℕ) (fates : List Attempt) (txid : ℕ) → IsOnce cut ticks fates → (fails : FailsAtLast tells count txid [] fates was is) → (held : Held) → holds old held → (now : Held) × holds (keep is) now × (IsHeldAfterRun start fails.more now ⊎ IsHeldAfterRun start fates now)
  holds_either ticks fates txid once fails held holding = by (fails.told (start_of start ∷ []) (told held holding))
    where
      whole : IsOnce cut ticks (fails.more ++ fails.last ∷ [])
      whole = subst (λ (as_ : List Attempt). IsOnce cut ticks as_) fails.added once

      by : tells is (start_of start ∷ fails.commits) ⊎ tells is (start_of start ∷ (fails.commits ++ fails.commit ∷ [])) → (now : Held) × holds (keep is) now × (IsHeldAfterRun start fails.more now ⊎ IsHeldAfterRun start fates now)
      by (inl before) =
          let run = held_after ticks fails.more fails.commits (first_once cut ticks fails.more (fails.last ∷ []) whole) fails.are before in
          (run.0, run.1, inl run.2)
      by (inr after) =
          let are : AreCommitsOf fates (fails.commits ++ fails.commit ∷ []) =
          subst (λ (as_ : List Attempt). AreCommitsOf as_ (fails.commits ++ fails.commit ∷ [])) (sym fails.added)
          (commits_more fails.more fails.commits fails.last fails.commit fails.are fails.done fails.is_last) in
          let run = held_after ticks fates (fails.commits ++ fails.commit ∷ []) once are after in
          (run.0, run.1, inr run.2)

  pub kept_of : {E : Type 0} (ticks : ℕ) (fates : List Attempt) (r : Result RunEnd E) (ending : RunEnd) → r ≡ Ok ending → IsOnce cut ticks fates → EndFollowed tells count r fates was is → Kept use_of start fates ending
  kept_of {E} ticks fates r ending same_end once followed = by ending (subst (λ (x : Result RunEnd E). EndFollowed tells count x fates was is) same_end followed)
    where
      by : (e : RunEnd) → EndFollowed {W = W} {E = E} tells count (Ok e) fates was is → Kept use_of start fates e
      by (end.All tables) follows = (holds_after ticks fates once follows, no_fault fates follows)
      by (end.Exhausted txid) follows = (holds_after ticks fates once follows, no_fault fates follows)
      by (end.Unfinished k) follows = (holds_after ticks fates once follows, no_fault fates follows)
      by end.StoreFault follows = (holds_after ticks fates once follows, no_fault fates follows)
      by (end.BadCell key) follows = (holds_after ticks fates once follows, no_fault fates follows)
      by (end.Follow txid) fails = (failed_once fates txid fails, (fails.more, fails.last, fails.added, holds_either ticks fates txid once fails))

-- ---- all records

-- once every record is committed, what is held is the meta of all
pub all_held : (records : List (List Value)) (size partitions : ℕ) (start : Meta) (ticks : ℕ) (fates : List Attempt) → start.records ≡ length records → IsPossible (length records) size partitions start.txid start.spans
    → IsWhole (cut_at (fresh records size partitions) start) ticks fates → (now : Held) → IsHeldAfterRun start fates now → IsHeldOfAll (length records) (start.txid + length (committed fates)) now
all_held records size partitions start ticks fates number possible whole None (first, none) = by records refl
  where
    spans_none : start.spans ≡ []
    spans_none = ap (λ (m : Meta). m.spans) first

    by : (rs : List (List Value)) → records ≡ rs → length records ≡ 0
    by [] is = ap length is
    by (r ∷ rs) is =
        let many : 1 ≤ length records = rw is (omega arith) in
        let one = whole.all_records 1 (omega arith) (subst (λ (n : ℕ). 1 ≤ n) (sym (marks_len records size partitions start)) many) in
        let gone : is_gone (cut_at (fresh records size partitions) start).gone 1 ≡ false =
        gone_at records size partitions start 1 (omega arith) many ∙ ap (λ (ss : List Span). stands_in ss 1) spans_none in
        let times : times_in (committed_batches fates) 1 ≡ 0 = ap (λ (as_ : List Attempt). times_in (map (λ (a : Attempt). a.spans) as_) 1) none in
        let left = ap one_if gone in
        absurd (omega (arith, one, left, times))
all_held records size partitions start ticks fates number possible whole (Some bytes) (meta, text, after) =
    let spans = whole_runs_are_kept records size partitions start ticks fates meta possible whole after text.is_meta.separate in
    text.is_text ∙ one_text meta (start.txid + length (committed fates)) (length records) (all_spans (length records)) after.txid (after.input ∙ number) spans
  where
    one_text : (m : Meta) (txid n : ℕ) (ss : List Span) → m.txid ≡ txid → m.records ≡ n → m.spans ≡ ss → meta_text m ≡ meta_text (record { txid = txid; records = n; spans = ss })
    one_text m txid n ss is_txid is_n is_spans =
        ap₂ (λ (x : ℕ) (p : ℕ × List Span). meta_text (record { txid = x; records = p.0; spans = p.1 })) is_txid (ap₂ (λ (y : ℕ) (z : List Span). (y, z)) is_n is_spans)

-- a count that did not fall
pub not_fallen : (keeper : KeeperUse) (start : Meta) (fates : List Attempt) (ending : RunEnd) → keeper.faults_before ≤ 2 ^ 64 - 1 → Kept keeper start fates ending → keeper.faults_before ≤ keeper.faults_after
not_fallen keeper start fates (end.Follow txid) ends kept = let once = kept.0 in omega (arith, ends, once)
not_fallen keeper start fates (end.All tables) ends kept = let same = kept.1 in omega (arith, same)
not_fallen keeper start fates (end.Exhausted txid) ends kept = let same = kept.1 in omega (arith, same)
not_fallen keeper start fates (end.Unfinished k) ends kept = let same = kept.1 in omega (arith, same)
not_fallen keeper start fates end.StoreFault ends kept = let same = kept.1 in omega (arith, same)
not_fallen keeper start fates (end.BadCell key) ends kept = let same = kept.1 in omega (arith, same)

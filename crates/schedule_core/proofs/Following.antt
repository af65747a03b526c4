-- What a follower is told, by steps one after another.
use Rattle.std.proofs.Common.{◌≡◌, ℕ, ◌+◌, Bool, true, false, List, [], ◌∷◌, ◌++◌, inl, inr, get_or, length, Option, None, Some, Result, Ok, Err, refl, sym, ap, subst, ◌∙◌, append_assoc, append-nil, length-append, arith}
use Rattle.std.specs.Prelude.{◌⊎◌, OnOk}
use Rattle.std.specs.List.{AllZip}
use Rattle.std.specs.Option.{option_map}
use Rattle.std.specs.Result.{IsErrAnd}
use Rattle.std.proofs.lemmas.List.{length-map}
use Rattle.std.proofs.lemmas.List.Elements.{filter-append}
use Rattle.std.proofs.lemmas.List.FromFn.{fill_by_all}
use Rattle.event_worlds.specs.attempt_fates.declared.fates.Attempt.{Attempt}
use Rattle.event_worlds.specs.attempt_fates.Fates.{committed, committed_txids, is_committed}
use Rattle.event_worlds.specs.commit_order.Follows.{AreCommitsOf, FailsAtLast, Follows, IsCommitBy, IsTaken}
use Rattle.event_engine.specs.declared.engine.Engine.{Engine}
use Rattle.event_engine.specs.Engines.{Gives, IsStill, cut_in}
use Rattle.event_engine.specs.Starts.{IsStarted}
use Rattle.event_worlds.specs.commit_order.declared.stop.Stop.{Stop}
use Rattle.event_worlds.specs.commit_turns.Turns.{is_finished}
use Rattle.event_worlds.specs.topology_plan.Topology.{Topology}
use Rattle.event_worlds.specs.Worlds.{World}
use Rattle.event_worlds.specs.commit_order.Orders.{cut_of}
use Rattle.event_worlds.specs.state_parts.declared.answer.Commit.{Commit}
use Rattle.event_worlds.specs.state_parts.declared.answer.CommitFault.{CommitFault}
use Rattle.event_worlds.specs.state_parts.declared.answer.CommitFault.TheVariants as commit_fault
use Rattle.event_worlds.specs.storm_ids.declared.ids.Ids.{Ghosts}
use Rattle.event_worlds.specs.storm_values.Counts.{raised}
use Rattle.event_worlds.specs.taken_records.Cuts.{Cut}
use Rattle.schedule_core.specs.declared.fault.RunFault.{RunFault}
use Rattle.schedule_core.specs.declared.fault.RunFault.TheVariants as fault
use Rattle.schedule_core.specs.Faults.{of_commit}
use Rattle.schedule_core.specs.declared.ended.Ended.{Ended}
use Rattle.schedule_core.specs.Following.{Followed, RunFollowed, next_txid}
use Rattle.schedule_core.specs.Rounding.{end_by}
use Rattle.schedule_core.specs.Schedules.{answer_by, answer_of}

-- ---- answers

pub ok_of : {T E X : Type 0} (r : Result T E) → X → OnOk r X
ok_of (Ok v) x = x
ok_of (Err e) x = tt

-- a bad cell that is handed on is the one that a commit met
pub met_bad : {T : Type 0} (r : Result T RunFault) (why : CommitFault) (key : List ℕ) → IsErrAnd r (λ e. e ≡ of_commit why) → r ≡ Err (fault.BadCell key) → why ≡ commit_fault.BadCell key
met_bad (Ok v) why key exits is = absurd exits
met_bad (Err e) (commit_fault.BadCell k) key exits is = let a : e ≡ fault.BadCell k = exits in let b : Err e ≡ Err (fault.BadCell key) = is in cc
met_bad (Err e) commit_fault.Memory key exits is = absurd (let a : e ≡ fault.Memory = exits in let b : Err e ≡ Err (fault.BadCell key) = is in cc)

pub met_short : {T : Type 0} (r : Result T RunFault) (why : CommitFault) → IsErrAnd r (λ e. e ≡ of_commit why) → r ≡ Err fault.Memory → why ≡ commit_fault.Memory
met_short (Ok v) why exits is = absurd exits
met_short (Err e) (commit_fault.BadCell k) exits is = absurd (let a : e ≡ fault.BadCell k = exits in let b : Err e ≡ Err fault.Memory = is in cc)
met_short (Err e) commit_fault.Memory exits is = refl

-- no follower failed where the parts did not take a commit
pub met_no_follower : {T : Type 0} (r : Result T RunFault) (why : CommitFault) (txid : ℕ) → IsErrAnd r (λ e. e ≡ of_commit why) → r ≡ Err (fault.Follow txid) → ⊥
met_no_follower (Ok v) why txid exits is = exits
met_no_follower (Err e) (commit_fault.BadCell k) txid exits is = let a : e ≡ fault.BadCell k = exits in let b : Err e ≡ Err (fault.Follow txid) = is in cc
met_no_follower (Err e) commit_fault.Memory txid exits is = let a : e ≡ fault.Memory = exits in let b : Err e ≡ Err (fault.Follow txid) = is in cc

-- nor where memory was wanted
pub short_no_follower : {T : Type 0} (r : Result T RunFault) (txid : ℕ) → IsErrAnd r (λ e. e ≡ fault.Memory) → r ≡ Err (fault.Follow txid) → ⊥
short_no_follower (Ok v) txid exits is = exits
short_no_follower (Err e) txid exits is = let a : e ≡ fault.Memory = exits in let b : Err e ≡ Err (fault.Follow txid) = is in cc

-- ---- commits

zip_append : {A B : Type 0} (R : A → B → Type 0) (xs ys : List A) (us vs : List B) → AllZip R xs us → AllZip R ys vs → AllZip R (xs ++ ys) (us ++ vs)
zip_append R [] ys [] vs one two = two
zip_append R [] ys (u ∷ us) vs one two = absurd one
zip_append R (x ∷ xs) ys [] vs one two = absurd one
zip_append R (x ∷ xs) ys (u ∷ us) vs one two = (one.0, zip_append R xs ys us vs one.1 two)

committed_append : (xs ys : List Attempt) → committed (xs ++ ys) ≡ committed xs ++ committed ys
committed_append xs ys = filter-append (λ (a : Attempt). is_committed a.end) xs ys

commits_append : (xs ys : List Attempt) (cs ds : List Commit) → AreCommitsOf xs cs → AreCommitsOf ys ds → AreCommitsOf (xs ++ ys) (cs ++ ds)
commits_append xs ys cs ds one two =
    subst (λ (zs : List Attempt). AllZip IsCommitBy zs (cs ++ ds)) (sym (committed_append xs ys)) (zip_append IsCommitBy (committed xs) (committed ys) cs ds one two)

-- how many are committed
pub many_committed : (xs ys : List Attempt) → length (committed_txids (xs ++ ys)) ≡ length (committed_txids xs) + length (committed ys)
many_committed xs ys =
    let txid : Attempt → ℕ = λ (a : Attempt). a.root.txid in
    let all : length (committed_txids (xs ++ ys)) ≡ length (committed (xs ++ ys)) = length-map (committed (xs ++ ys)) txid in
    let first : length (committed_txids xs) ≡ length (committed xs) = length-map (committed xs) txid in
    let both : length (committed (xs ++ ys)) ≡ length (committed xs) + length (committed ys) = ap length (committed_append xs ys) ∙ length-append (committed xs) (committed ys) in
    omega arith

-- ---- steps

module _ {W : Type 0} (tells : W → List Commit → Type 0) (count : W → ℕ) where
  pub follows-same : (old new : List Attempt) (w : W) → new ≡ old → Follows tells count old new w w
  follows-same old new w same = record {
    more = [];
    added = same ∙ sym (append-nil old);
    commits = [];
    are = tt;
    told = λ earlier is. subst (λ (cs : List Commit). tells w cs) (sym (append-nil earlier)) is;
    quiet = refl;
  }

  -- of the attempts that ended none was committed
  pub follows-quiet : (old more new : List Attempt) (w : W) → new ≡ old ++ more → committed more ≡ [] → Follows tells count old new w w
  follows-quiet old more new w added none = record {
    more = more;
    added = added;
    commits = [];
    are = subst (λ (zs : List Attempt). AllZip IsCommitBy zs []) (sym none) tt;
    told = λ earlier is. subst (λ (cs : List Commit). tells w cs) (sym (append-nil earlier)) is;
    quiet = refl;
  }

  pub follows-then : (a b c : List Attempt) (x y z : W) → Follows tells count a b x y → Follows tells count b c y z → Follows tells count a c x z
  follows-then a b c x y z first second = record {
    more = first.more ++ second.more;
    added = second.added ∙ ap (λ (fs : List Attempt). fs ++ second.more) first.added ∙ append_assoc a first.more second.more;
    commits = first.commits ++ second.commits;
    are = commits_append first.more second.more first.commits second.commits first.are second.are;
    told = λ earlier is. subst (λ (cs : List Commit). tells z cs) (append_assoc earlier first.commits second.commits) (second.told (earlier ++ first.commits) (first.told earlier is));
    quiet = second.quiet ∙ first.quiet;
  }

  -- and then up to a commit at which it failed
  pub fails-then : (txid : ℕ) (a b c : List Attempt) (x y z : W) → Follows tells count a b x y → FailsAtLast tells count txid b c y z → FailsAtLast tells count txid a c x z
  fails-then txid a b c x y z first second = record {
    more = first.more ++ second.more;
    last = second.last;
    added =
        second.added ∙ ap (λ (fs : List Attempt). fs ++ (second.more ++ second.last ∷ [])) first.added ∙ append_assoc a first.more (second.more ++ second.last ∷ [])
        ∙ ap (λ (zs : List Attempt). a ++ zs) (sym (append_assoc first.more second.more (second.last ∷ [])));
    done = second.done;
    number = second.number;
    commits = first.commits ++ second.commits;
    are = commits_append first.more second.more first.commits second.commits first.are second.are;
    commit = second.commit;
    is_last = second.is_last;
    told = λ earlier is. either earlier (second.told (earlier ++ first.commits) (first.told earlier is));
    failed = second.failed ∙ ap raised first.quiet;
  }
    where
      either : (earlier : List Commit) → tells z ((earlier ++ first.commits) ++ second.commits) ⊎ tells z ((earlier ++ first.commits) ++ (second.commits ++ second.commit ∷ []))
          → tells z (earlier ++ (first.commits ++ second.commits)) ⊎ tells z (earlier ++ ((first.commits ++ second.commits) ++ second.commit ∷ []))
      either earlier (inl is) = inl (subst (λ (cs : List Commit). tells z cs) (append_assoc earlier first.commits second.commits) is)
      either earlier (inr is) =
          inr (subst (λ (cs : List Commit). tells z cs)
          (append_assoc earlier first.commits (second.commits ++ second.commit ∷ []) ∙ ap (λ (cs : List Commit). earlier ++ cs) (sym (append_assoc first.commits second.commits (second.commit ∷ [])))) is)

  -- whatever came of the later ones
  pub followed-then : (done : Result (Unit {0}) RunFault) (a b c : List Attempt) (x y z : W) → Follows tells count a b x y → Followed tells count done b c y z → Followed tells count done a c x z
  followed-then (Ok ok) a b c x y z first second = follows-then a b c x y z first second
  followed-then (Err (fault.BadCell key)) a b c x y z first second = follows-then a b c x y z first second
  followed-then (Err (fault.Follow txid)) a b c x y z first second = fails-then txid a b c x y z first second
  followed-then (Err fault.Memory) a b c x y z first second = second ∙ first.quiet

  -- a fault is handed on
  pub followed-handed : (r s : Result (Unit {0}) RunFault) (error : RunFault) (old new : List Attempt) (x y : W) → IsErrAnd r (λ e. e ≡ error) → s ≡ Err error → Followed tells count s old new x y → Followed tells count r old new x y
  followed-handed (Ok ok) s error old new x y exits was is = absurd exits
  followed-handed (Err e) s error old new x y exits was is =
      let same : error ≡ e = sym exits in
      subst (λ (q : Result (Unit {0}) RunFault). Followed tells count q old new x y) (was ∙ ap (λ (k : RunFault). Err k) same) is

  -- want of memory
  pub followed-short : (r : Result (Unit {0}) RunFault) (old new : List Attempt) (x y : W) → IsErrAnd r (λ e. e ≡ fault.Memory) → count y ≡ count x → Followed tells count r old new x y
  followed-short (Ok ok) old new x y exits quiet = absurd exits
  followed-short (Err e) old new x y exits quiet =
      let same : fault.Memory ≡ e = sym exits in
      subst (λ (q : Result (Unit {0}) RunFault). Followed tells count q old new x y) (ap (λ (k : RunFault). Err k) same) quiet

  -- the parts did not take a commit
  pub followed-commit : (r : Result (Unit {0}) RunFault) (why : CommitFault) (old new : List Attempt) (x y : W) → IsErrAnd r (λ e. e ≡ of_commit why) → Follows tells count old new x y → Followed tells count r old new x y
  followed-commit (Ok ok) why old new x y exits is = absurd exits
  followed-commit (Err e) (commit_fault.BadCell key) old new x y exits is =
      let same : fault.BadCell key ≡ e = sym exits in
      subst (λ (q : Result (Unit {0}) RunFault). Followed tells count q old new x y) (ap (λ (k : RunFault). Err k) same) is
  followed-commit (Err e) commit_fault.Memory old new x y exits is = followed-short (Err e) old new x y exits is.quiet

-- ---- the transaction that is taken next

-- one more was committed
pub taken_next : (n m : ℕ) (o p : Option ℕ) → p ≡ option_map (λ txid. txid + 1) o → m ≡ n + 1 → IsTaken n o → IsTaken m p
taken_next n m None p is more taken = subst (λ (q : Option ℕ). IsTaken m q) (sym is) tt
taken_next n m (Some k) p is more taken = let same : n ≡ k = taken in subst (λ (q : Option ℕ). IsTaken m q) (sym is) (more ∙ ap (λ (j : ℕ). j + 1) same)

pub taken_same : (n m : ℕ) (o : Option ℕ) → m ≡ n → IsTaken n o → IsTaken m o
taken_same n m o same taken = subst (λ (k : ℕ). IsTaken k o) (sym same) taken

pub taken_on : {T E : Type 0} (r : Result T E) (c d : Cut) (fates : List Attempt) (o : Option ℕ) → d ≡ c → OnOk r (IsTaken (next_txid c fates) o) → OnOk r (IsTaken (next_txid d fates) o)
taken_on r c d fates o same taken = subst (λ (k : Cut). OnOk r (IsTaken (next_txid k fates) o)) (sym same) taken

module _ {I : Type 0} {g : Ghosts I} where
  -- the coordinator and the fates are as they were
  pub taken_still : (old new : Engine I g) (o : Option ℕ) → IsStill old new → IsTaken (next_txid (cut_in old) old.fates) o → IsTaken (next_txid (cut_in new) new.fates) o
  taken_still old new o still taken =
      let cut : cut_in new ≡ cut_in old = ap (λ c. cut_of c) still.coordinator in
      taken_same _ _ o ((λ i. next_txid (cut i) (still.fates i))) taken

  -- the same of an engine that is told by an equation
  pub taken_as : (new end : Engine I g) (o p : Option ℕ) → end ≡ new → p ≡ o → IsTaken (next_txid (cut_in new) new.fates) o → IsTaken (next_txid (cut_in end) end.fates) p
  taken_as new end o p is same taken =
      subst (λ (e : Engine I g). IsTaken (next_txid (cut_in e) e.fates) p) (sym is) (subst (λ (q : Option ℕ). IsTaken (next_txid (cut_in new) new.fates) q) (sym same) taken)

module _ {I W : Type 0} {g : Ghosts I} (tells : W → List Commit → Type 0) (count : W → ℕ) where
  -- the same of what a follower was told
  pub follows_as : (old new end : Engine I g) (x y z : W) → end ≡ new → z ≡ y → Follows tells count old.fates new.fates x y → Follows tells count old.fates end.fates x z
  follows_as old new end x y z is same follows =
      subst (λ (e : Engine I g). Follows tells count old.fates e.fates x z) (sym is) (subst (λ (w : W). Follows tells count old.fates new.fates x w) (sym same) follows)

-- ---- a loop

module _ {I W : Type 0} {g : Ghosts I} (tells : W → List Commit → Type 0) (takes : W → Option ℕ) (count : W → ℕ) where
  -- what a follower was told so far, and the transaction that it takes next
  pub record SoFar (old mid : Engine I g) (was is : W) : Type 0 where
    pub taken : IsTaken (next_txid (cut_in mid) mid.fates) (takes is)
    pub follows : Follows tells count old.fates mid.fates was is

  pub so_far-none : (e : Engine I g) (w : W) → IsTaken (next_txid (cut_in e) e.fates) (takes w) → SoFar e e w w
  so_far-none e w taken = record { taken = taken; follows = follows-same tells count e.fates e.fates w refl }

  pub so_far-then : (a b c : Engine I g) (x y z : W) → SoFar a b x y → IsTaken (next_txid (cut_in c) c.fates) (takes z) → Follows tells count b.fates c.fates y z → SoFar a c x z
  so_far-then a b c x y z first taken second = record { taken = taken; follows = follows-then tells count a.fates b.fates c.fates x y z first.follows second }

-- ---- a run

module _ {W : Type 0} (tells : W → List Commit → Type 0) (count : W → ℕ) where
  followed_by : (o : Option ℕ) (b : Bool) (n : ℕ) (fates : List Attempt) (x y : W) → Follows tells count [] fates x y → RunFollowed tells count (answer_by o b n) fates x y
  followed_by (Some txid) b n fates x y is = is
  followed_by None true n fates x y is = is
  followed_by None false n fates x y is = is

  followed_end : (t : Topology) (cut : Cut) (w : World) (done : Result (Unit {0}) RunFault) (fates : List Attempt) (x y : W) → Followed tells count done [] fates x y → RunFollowed tells count (end_by done (answer_of t cut w)) fates x y
  followed_end t cut w (Ok ok) fates x y is = followed_by w.desk.exhausted (is_finished t cut w.desk) (length (committed w.fates)) fates x y is
  followed_end t cut w (Err (fault.BadCell key)) fates x y is = is
  followed_end t cut w (Err (fault.Follow txid)) fates x y is = is
  followed_end t cut w (Err fault.Memory) fates x y is = is

  -- what a follower was told in a run from the start
  pub run_followed : (t : Topology) (cut : Cut) (w : World) (done : Result (Unit {0}) RunFault) (answer : Result Ended Stop) (first last fates : List Attempt) (x y : W)
      → first ≡ [] → fates ≡ last → answer ≡ end_by done (answer_of t cut w) → Followed tells count done first last x y → RunFollowed tells count answer fates x y
  run_followed t cut w done answer first last fates x y none same is followed =
      subst (λ (r : Result Ended Stop). RunFollowed tells count r fates x y) (sym is)
      (followed_end t cut w done fates x y
      (subst (λ (fs : List Attempt). Followed tells count done [] fs x y) (sym same) (subst (λ (fs : List Attempt). Followed tells count done fs last x y) none followed)))

module _ {I : Type 0} {g : Ghosts I} (told : (ℕ → ℕ → ℕ) → Type 0) (tells : I → (ℕ → ℕ) → ℕ → Type 0) (t : Topology) (cut : Cut) (e : Engine I g) (started : IsStarted told tells t cut e) where
  -- no attempt has ended at the start
  pub started_none : e.fates ≡ []
  started_none =
      let words : ℕ → ℕ → ℕ = λ s k. get_or (started.given s) k 0 in
      let gives : Gives words (λ s. 0) started.given = λ s. sym (fill_by_all (words s) (started.given s) (length (started.given s)) 0 refl (λ k below. refl)) in
      ap (λ (w : World). w.fates) (started.first words gives)

  -- so that the first transaction is the one after the start
  pub started_taken : (o : Option ℕ) → cut_in e ≡ cut → IsTaken (cut.start + 1) o → IsTaken (next_txid (cut_in e) e.fates) o
  started_taken o same taken =
      let first : next_txid (cut_in e) e.fates ≡ next_txid cut [] = (λ i. next_txid (same i) (started_none i)) in
      let none : length (committed_txids []) ≡ 0 = refl in
      let here : next_txid cut [] ≡ cut.start + 1 = omega arith in
      taken_same (cut.start + 1) (next_txid (cut_in e) e.fates) o (first ∙ here) taken

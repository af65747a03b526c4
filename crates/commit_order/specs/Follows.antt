-- What a follower of a run is told. This project's own.
use Rattle.std.specs.Prelude.{◌≡◌, ◌+◌, ◌⊎◌, ℕ, IsTrue, List, [], ◌∷◌, ◌++◌, Option, None, Some, Result, Ok, Err}
use Rattle.std.specs.List.{AllZip}
use Rattle.attempt_fates.specs.declared.fates.Attempt.{Attempt}
use Rattle.attempt_fates.specs.declared.fates.End.TheVariants.{Committed}
use Rattle.attempt_fates.specs.Fates.{committed, is_committed}
use Rattle.commit_writes.specs.Writes.{AreWritesOf}
use Rattle.state_parts.specs.declared.answer.Commit.{Commit}
use Rattle.tuple_account.specs.storm_values.Counts.{raised}
use Rattle.tuple_account.specs.tree_model.declared.messages.AckMsg.{AckMsg}

-- a transaction is the one that is taken next, where one is
abbrev pub IsTaken : ℕ → Option ℕ → Type 0
IsTaken txid None = Unit {0}
IsTaken txid (Some next) = txid ≡ next

-- the commit by which an attempt ended: it is of its root and its records, with the writes of its
-- list
pub record IsCommitBy (a : Attempt) (commit : Commit) : Type 0 where
  pub root : commit.root ≡ a.root
  pub spans : commit.spans ≡ a.spans
  pub writes : (list : List AckMsg) → a.end ≡ Committed list → AreWritesOf list commit.writes

-- the commits of the attempts that were committed, in their order
abbrev pub AreCommitsOf : List Attempt → List Commit → Type 0
AreCommitsOf fates commits = AllZip IsCommitBy (committed fates) commits

module _ {W : Type 0} (tells : W → List Commit → Type 0) (count : W → ℕ) where
  -- Attempts ended meanwhile. A follower was told what it was told before, and then the commits of
  -- those of them that were committed. It did not fail.
  pub record Follows (old new : List Attempt) (was is : W) : Type 0 where
    pub more : List Attempt
    pub added : new ≡ old ++ more
    pub commits : List Commit
    pub are : AreCommitsOf more commits
    pub told : (earlier : List Commit) → tells was earlier → tells is (earlier ++ commits)
    pub quiet : count is ≡ count was

  -- The last one that ended was committed, in this transaction, and a follower failed when it was
  -- told this commit. It was told those before it, and this one or not.
  pub record FailsAtLast (txid : ℕ) (old new : List Attempt) (was is : W) : Type 0 where
    pub more : List Attempt
    pub last : Attempt
    pub added : new ≡ old ++ (more ++ last ∷ [])
    pub done : IsTrue (is_committed last.end)
    pub number : last.root.txid ≡ txid
    pub commits : List Commit
    pub are : AreCommitsOf more commits
    pub commit : Commit
    pub is_last : IsCommitBy last commit
    pub told : (earlier : List Commit) → tells was earlier
        → tells is (earlier ++ commits) ⊎ tells is (earlier ++ (commits ++ commit ∷ []))
    pub failed : count is ≡ raised (count was)

-- What is held after the start of a run and some of its commits. This project's own.
use Rattle.std.specs.Prelude.{◌≡◌, ℕ, Bool, false, List, [], ◌∷◌, None, Some}
use Rattle.std.specs.List.{list_any}
use Rattle.record_spans.specs.declared.span.Span.{Span}
use Rattle.record_spans.specs.Spans.{stands_in}
use Rattle.resume_meta.specs.Keepers.{Held}
use Rattle.resume_meta.specs.Meta.{IsTextOf}
use Rattle.resume_meta.specs.declared.meta.Meta.{Meta}
use Rattle.state_parts.specs.declared.answer.Commit.{Commit}

-- ---- the start of a run

-- the meta of an input of so many records, of which none was committed
abbrev pub first_meta : ℕ → Meta
first_meta records = record { txid = 0; records = records; spans = [] }

-- What is held says where a run begins: at the meta of a text, or at the first one where nothing is
-- held.
abbrev pub WasKept : Held → Meta → Type 0
WasKept None meta = meta ≡ first_meta meta.records
WasKept (Some bytes) meta = IsTextOf bytes meta

-- A commit that stands for all those up to a meta. In the place of its attempt it has the number of
-- records of the input.
abbrev pub start_of : Meta → Commit
start_of meta = record {
  root = record { txid = meta.txid; attempt = meta.records };
  spans = meta.spans;
  writes = [];
}

-- ---- the start and some commits

-- the number of records of the input, which the first of them tells
abbrev pub records_told : List Commit → ℕ
records_told [] = 0
records_told (start ∷ commits) = start.root.attempt

-- the transaction of the last of some commits, or this one where there are none
abbrev pub txid_after : ℕ → List Commit → ℕ
txid_after txid [] = txid
txid_after txid (commit ∷ commits) = txid_after commit.root.txid commits

-- whether a record stands in a span of one of some commits
abbrev pub is_gone_by : List Commit → ℕ → Bool
is_gone_by commits n = list_any (λ (c : Commit). stands_in c.spans n) commits

-- these spans are those of the records of some commits
abbrev pub AreGoneBy : List Commit → List Span → Type 0
AreGoneBy commits spans = (n : ℕ) → stands_in spans n ≡ is_gone_by commits n

-- the meta after a start and some commits
pub record IsMetaOf (commits : List Commit) (meta : Meta) : Type 0 where
  pub txid : meta.txid ≡ txid_after 0 commits
  pub input : meta.records ≡ records_told commits
  pub gone : AreGoneBy commits meta.spans

-- these bytes are the text of that meta
pub record IsKept (commits : List Commit) (bytes : List ℕ) : Type 0 where
  pub meta : Meta
  pub text : IsTextOf bytes meta
  pub of : IsMetaOf commits meta

-- Nothing is held at the first start, before a commit, or the text of the meta after these.
abbrev pub IsHeldAfter : List Commit → Held → Type 0
IsHeldAfter commits None = commits ≡ start_of (first_meta (records_told commits)) ∷ []
IsHeldAfter commits (Some bytes) = IsKept commits bytes

module _ {P : Type 0} (holds : P → Held → Type 0) where
  -- a keeper tells that it holds what is held after these commits
  pub record Keeps (keeper : P) (commits : List Commit) : Type 0 where
    pub held : Held
    pub is_held : holds keeper held
    pub after : IsHeldAfter commits held

  -- A follower was told these commits, a start among them: its keeper holds what is held after them,
  -- and, while no save has failed, its meta is that of them.
  pub record IsTold (keeper : P) (meta : Meta) (broken : Bool) (commits : List Commit)
      : Type 0 where
    pub keeps : Keeps keeper commits
    pub at : broken ≡ false → IsMetaOf commits meta
    pub some : commits ≡ [] → ⊥

-- The start of a run, one commit more, and the meta after it.
use Rattle.std.proofs.Common.{◌≡◌, ℕ, ◌||◌, ◌⊎◌, inl, inr, Bool, true, false, List, [], ◌∷◌, ◌++◌, None, Some, true≢false, refl, sym, ap, ◌∙◌}
use Rattle.std.proofs.lemmas.List.Folds.{list_any-append}
use Rattle.record_spans.specs.Spans.{stands_in}
use Rattle.resume_meta.specs.Keepers.{Held}
use Rattle.resume_meta.specs.Meta.{meta_text}
use Rattle.resume_meta.specs.declared.meta.Meta.{Meta}
use Rattle.state_parts.specs.declared.answer.Commit.{Commit}
use Rattle.kept_commits.specs.Steps.{IsNext}
use Rattle.kept_commits.specs.Kept.{AreGoneBy, IsHeldAfter, IsKept, IsMetaOf, IsTold, WasKept, is_gone_by, records_told, start_of, txid_after}

or_false : (b : Bool) → b ≡ (b || false)
or_false true = refl
or_false false = refl

-- ---- a start

pub start_meta : (meta : Meta) → IsMetaOf (start_of meta ∷ []) meta
start_meta meta = record { txid = refl; input = refl; gone = λ n. or_false (stands_in meta.spans n) }

started : (held : Held) (meta : Meta) → WasKept held meta → IsHeldAfter (start_of meta ∷ []) held
started None meta kept = ap (λ (m : Meta). start_of m ∷ []) kept
started (Some bytes) meta kept = record { meta = meta; text = kept; of = start_meta meta }

pub told_start : {P : Type 0} (holds : P → Held → Type 0) (keeper : P) (meta : Meta) (broken : Bool) (held : Held) → holds keeper held → WasKept held meta → IsTold holds keeper meta broken (start_of meta ∷ [])
told_start holds keeper meta broken held is_held kept = record {
  keeps = record { held = held; is_held = is_held; after = started held meta kept };
  at = λ whole. start_meta meta;
  some = λ none. absurd cc;
}

-- ---- one commit more

txid_push : (txid : ℕ) (commits : List Commit) (commit : Commit) → txid_after txid (commits ++ commit ∷ []) ≡ commit.root.txid
txid_push txid [] commit = refl
txid_push txid (c ∷ commits) commit = txid_push c.root.txid commits commit

records_push : (commits : List Commit) (commit : Commit) → (commits ≡ [] → ⊥) → records_told (commits ++ commit ∷ []) ≡ records_told commits
records_push [] commit some = absurd (some refl)
records_push (c ∷ commits) commit some = refl

some_push : (commits : List Commit) (commit : Commit) → commits ++ commit ∷ [] ≡ [] → ⊥
some_push [] commit is = absurd cc
some_push (c ∷ commits) commit is = absurd cc

module _ (meta made : Meta) (commit : Commit) (next : IsNext meta commit made) (commits : List Commit) (some : commits ≡ [] → ⊥) (at : IsMetaOf commits meta) where
  gone_more : AreGoneBy (commits ++ commit ∷ []) made.spans
  gone_more n =
      next.numbers n ∙ ap (λ b. b || stands_in commit.spans n) (at.gone n)
      ∙ ap (λ b. is_gone_by commits n || b) (or_false (stands_in commit.spans n))
      ∙ sym (list_any-append (λ (c : Commit). stands_in c.spans n) commits (commit ∷ []))

  meta_more : IsMetaOf (commits ++ commit ∷ []) made
  meta_more = record {
    txid = next.txid ∙ sym (txid_push 0 commits commit);
    input = next.records ∙ at.input ∙ sym (records_push commits commit some);
    gone = gone_more;
  }

  kept_more : IsKept (commits ++ commit ∷ []) (meta_text made)
  kept_more = record {
    meta = made;
    text = record {
      is_meta = record { txid = next.txid_fits; records = next.records_fit; spans = next.fit; separate = next.separate };
      is_text = refl;
    };
    of = meta_more;
  }

module _ {P : Type 0} (holds : P → Held → Type 0) (was is : P) (meta made : Meta) (broken : Bool) (commit : Commit) (whole : broken ≡ false) (next : IsNext meta commit made) where
  -- a save that was done
  pub told_more : ((held : Held) → holds was held → holds is (Some (meta_text made)))
      → (commits : List Commit) → IsTold holds was meta broken commits → IsTold holds is made broken (commits ++ commit ∷ [])
  told_more done commits told = record {
    keeps = record {
      held = Some (meta_text made);
      is_held = done told.keeps.held told.keeps.is_held;
      after = kept_more meta made commit next commits told.some (told.at whole);
    };
    at = λ same. meta_more meta made commit next commits told.some (told.at whole);
    some = some_push commits commit;
  }

  -- a save that failed, and happened or not
  pub told_perhaps : ((held : Held) → holds was held → holds is held ⊎ holds is (Some (meta_text made)))
      → (commits : List Commit) → IsTold holds was meta broken commits → IsTold holds is meta true commits ⊎ IsTold holds is meta true (commits ++ commit ∷ [])
  told_perhaps perhaps commits told =
      elim (perhaps told.keeps.held told.keeps.is_held) [
        | inl old ↦ inl (record {
          keeps = record { held = told.keeps.held; is_held = old; after = told.keeps.after };
          at = λ same. absurd (true≢false same);
          some = told.some;
        })
        | inr new ↦ inr (record {
          keeps = record { held = Some (meta_text made); is_held = new; after = kept_more meta made commit next commits told.some (told.at whole) };
          at = λ same. absurd (true≢false same);
          some = some_push commits commit;
        })
      ]

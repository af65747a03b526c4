-- Where nothing waits, nothing was dropped and no operation stayed mute, each begun root was told.
use Rattle.std.proofs.Common.{◌≡◌, ◌≢◌, ◌≤◌, ◌==◌, ℕ, zero, suc, Bool, true, false, cond, true≢false, Option, None, Some, List, [], ◌∷◌, map, sym, refl, ap, ◌∙◌, arith}
use Rattle.acker_core.specs.Entries.{has_init, first_failed, tell_by, tell, AreSilent}
use Rattle.acker_core.specs.declared.verdict.Verdict.{Verdict}
use Rattle.acker_core.specs.declared.verdict.Verdict.TheVariants.{Complete}
use Rattle.acker_core.proofs.TellLemmas.{complete-told}
use Rattle.tree_model.specs.bolt_ops.RowOp.{Custom}
use Rattle.tree_model.specs.counted_items.Weights.{weigh, Within}
use Rattle.tree_model.proofs.counted_items.Each.{each-to_map}
use Rattle.tree_model.proofs.counted_items.Weighing.{weigh-none, weigh-zero, weigh-same, weigh-map}
use Rattle.rotating_ledger.specs.Held.{Held, value_of}
use Rattle.tree_model.specs.storm_values.declared.value.Root.{Root}
use Rattle.tree_model.specs.topology_plan.Topology.{Topology}
use Rattle.tree_model.specs.tuple_tickets.Roots.{root_eq}
use Rattle.tree_model.specs.tuple_tickets.Trees.{mute}
use Rattle.tree_model.proofs.tuple_tickets.Roots.{same_root, root_itself}
use Rattle.tree_model.specs.declared.messages.AckMsg.{AckMsg}
use Rattle.tree_model.specs.declared.messages.AckMsg.TheVariants as msg
use Rattle.tree_model.specs.Lists.{all_said, is_init, is_failed, word}
use Rattle.tree_model.proofs.Reading.{growth, all_true_said}
use Rattle.tree_model.proofs.tuple_tickets.Words.{complete_if_covered}
use Rattle.tuple_account.specs.Accounts.{is_begun, notes_about, issued_notes}
use Rattle.tuple_account.specs.Issued.{Run, init_of, course_of_run}
use Rattle.tuple_account.proofs.Tickets.{weigh-notes_about}
use Rattle.tuple_account.proofs.Sound as sound
use Rattle.tuple_account.specs.Histories.{Opening, Execution, Receipt, Told, History, opens, rows_in, told_in, dropped_in, on_tuple}
use Rattle.tuple_account.specs.Moves.{Station, Reached, account_of}
use Rattle.tuple_account.specs.Parts.{weigh_entries}
use Rattle.tuple_account.specs.Sound.{tells}
use Rattle.tuple_account.specs.Stuck.{IsStuck, holds}
use Rattle.tuple_account.proofs.Listing.{at_root}
use Rattle.tuple_account.proofs.Reading.{packets, account, rows_are_found, notes_are, messages_weight, held_met}
use Rattle.tuple_account.proofs.Sending.{on_message}

abbrev list_or : Option (List AckMsg) → List AckMsg
list_or None = []
list_or (Some list) = list

-- a weight, in the entries of a root
abbrev within : Root → (AckMsg → ℕ) → Root → AckMsg → ℕ
within root f r m = cond (root_eq r root) (f m) 0

none_in : (root : Root) (f : AckMsg → ℕ) (r : Root) (list : List AckMsg) → ◌≡◌ {A = ℕ} (cond (root_eq r root) 1 0) 0 → weigh (within root f r) list ≡ 0
none_in root f r list none = cases (root_eq r root) none
  where
    cases : (b : Bool) → ◌≡◌ {A = ℕ} (cond b 1 0) 0 → weigh (λ (m : AckMsg). cond b (f m) 0) list ≡ 0
    cases true is = absurd (omega arith)
    cases false is = weigh-zero (λ (m : AckMsg). 0) (λ m. refl) list

-- ---- entries

none_held : (root : Root) (f : AckMsg → ℕ) (es : List (Held (List AckMsg))) → weigh (holds root) es ≡ 0 → weigh_entries (within root f) es ≡ 0
none_held root f es none = weigh-none (λ (e : Held (List AckMsg)). weigh (within root f e.root) e.value) (holds root) (λ e is. none_in root f e.root e.value is) es none

-- where a root has one entry at most, what its entries weigh is in the first
one_entry : (root : Root) (f : AckMsg → ℕ) (es : List (Held (List AckMsg))) → weigh (holds root) es ≤ 1 → weigh_entries (within root f) es ≡ weigh f (list_or (value_of root es))
one_entry root f [] few = refl
one_entry root f (e ∷ es) few = cases (root_eq root e.root) refl (one_entry root f es (omega arith))
  where
    same_as : (b : Bool) → b ≡ true → weigh (λ (m : AckMsg). cond b (f m) 0) e.value ≡ weigh f e.value
    same_as true is = refl
    same_as false is = absurd (true≢false (sym is))

    not_one : (c : Bool) → root_eq e.root root ≡ c → root_eq root e.root ≡ false → ◌≡◌ {A = ℕ} (cond c 1 0) 0
    not_one false its apart = refl
    not_one true its apart = absurd (true≢false (sym (root_itself root e.root (sym (same_root e.root root its))) ∙ apart))

    cases : (b : Bool) → root_eq root e.root ≡ b → weigh_entries (within root f) es ≡ weigh f (list_or (value_of root es)) → weigh_entries (within root f) (e ∷ es) ≡ weigh f (list_or (cond b (Some e.value) (value_of root es)))
    cases true is later =
        let turned : root_eq e.root root ≡ true = root_itself e.root root (sym (same_root root e.root is)) in
        let one : holds root e ≡ 1 = rw turned refl in
        let rest = none_held root f es (omega arith) in
        let first : weigh (within root f e.root) e.value ≡ weigh f e.value = same_as (root_eq e.root root) turned in omega arith
    cases false is later =
        let other = none_in root f e.root e.value (not_one (root_eq e.root root) refl is) in omega arith

-- an entry that is there tells nothing
silent_one : (root : Root) (list : List AckMsg) (es : List (Held (List AckMsg))) → AreSilent es → value_of root es ≡ Some list → tell root list ≡ None
silent_one root list [] silent is = cc
silent_one root list (e ∷ es) silent is = cases (root_eq root e.root) refl is (silent_one root list es silent.1)
  where
    cases : (b : Bool) → root_eq root e.root ≡ b → cond b (Some e.value) (value_of root es) ≡ Some list → (value_of root es ≡ Some list → tell root list ≡ None) → tell root list ≡ None
    cases true its found later =
        let value : e.value ≡ list = ap list_or found in
        let root_is : e.root ≡ root = sym (same_root root e.root its) in
        let both : tell e.root e.value ≡ tell root list = λ i. tell (root_is i) (value i) in sym both ∙ silent.0
    cases false its found later = later found

-- ---- what tells nothing

begun_list : (list : List AckMsg) → 1 ≤ weigh is_init list → has_init list ≡ true
begun_list [] some = absurd (omega arith)
begun_list (msg.Init m ∷ list) some = refl
begun_list (msg.Done m ∷ list) some = begun_list list (omega arith)
begun_list (msg.Failed m ∷ list) some = begun_list list (omega arith)

none_failed_list : (list : List AckMsg) → first_failed list ≡ None → weigh is_failed list ≡ 0
none_failed_list [] none = refl
none_failed_list (msg.Init m ∷ list) none = let rest = none_failed_list list none in omega arith
none_failed_list (msg.Done m ∷ list) none = let rest = none_failed_list list none in omega arith
none_failed_list (msg.Failed m ∷ list) none = cc

-- a list with an init that tells nothing has no failure
no_failure : (root : Root) (list : List AckMsg) → 1 ≤ weigh is_init list → tell root list ≡ None → weigh is_failed list ≡ 0
no_failure root list some none = none_failed_list list (cases (first_failed list) (sym (ap (λ (b : Bool). tell_by root list b (first_failed list) (word list == 0)) (begun_list list some)) ∙ none))
  where
    cases : (o : Option (List ℕ)) → tell_by root list true o (word list == 0) ≡ None → o ≡ None
    cases None is = refl
    cases (Some path) is = cc

some_none : (root : Root) (list : List AckMsg) → tell root list ≡ Some (Complete root list) → tell root list ≡ None → ⊥
some_none root list some none = apart (sym some ∙ none)
  where
    apart : Some (Complete root list) ≡ None → ⊥
    apart same = cc

module _ (t : Topology) (custom : Custom) (h : History) (b : Station) (reached : Reached t custom h b) (entries : List (Held (List AckMsg))) (stuck : IsStuck t custom h b entries) (root : Root) (begun : 1 ≤ weigh (opens root) h.begun) where
  abbrev notes : List AckMsg
  notes = issued_notes t custom (account_of h b)

  abbrev list : List AckMsg
  list = list_or (value_of root entries)

  -- all that was issued was met
  all_met : (f : AckMsg → ℕ) → weigh (λ (x : Receipt). f x.message) h.met ≡ weigh f notes
  all_met f =
      let p = packets t custom h b reached (on_message f) in
      let z = stuck.none_waits (on_message f) in
      let m = messages_weight t custom h b reached f in
      let r = weigh-zero (λ (e : Execution). 0) (λ e. refl) h.runs in
      let v = weigh-zero (λ (v : Verdict). 0) (λ v. refl) h.heard in omega arith

  -- what the root was begun with
  begun_notes : 1 ≤ weigh is_init (notes_about root notes)
  begun_notes =
      let n = weigh-notes_about root is_init notes in
      let a = notes_are t custom h b reached (at_root root is_init) in
      let o = weigh-same (λ (o : Opening). at_root root is_init (init_of t o.begun)) (opens root) (λ o. refl) h.begun in omega arith

  none_dropped : (g : Root → AckMsg → ℕ) → dropped_in g h ≡ 0
  none_dropped g = ap (λ (d : List (Root × List AckMsg)). weigh (λ (x : Root × List AckMsg). weigh (g x.0) x.1) d) stuck.none_dropped

  module _ (untold : weigh (tells root) h.told ≡ 0) where
    none_told : (f : AckMsg → ℕ) → told_in (within root f) h ≡ 0
    none_told f = weigh-none (λ (x : Told). weigh (within root f x.root) x.list) (tells root) (λ x is. none_in root f x.root x.list is) h.told untold

    -- the root's entry has all its notes
    all_kept : (f : AckMsg → ℕ) → weigh f (notes_about root notes) ≡ weigh f list
    all_kept f =
        let n = weigh-notes_about root f notes in
        let m = all_met (at_root root f) in
        let k = held_met t custom h b reached (within root f) in
        let z = none_told f in
        let d = none_dropped (within root f) in
        let e = stuck.are_kept (within root f) in
        let o = one_entry root f entries (stuck.distinct root) in omega arith

    begun_here : 1 ≤ weigh is_init list
    begun_here = let k = all_kept is_init in let n = begun_notes in omega arith

    told_none : tell root list ≡ None
    told_none = cases (value_of root entries) refl begun_here
      where
        cases : (o : Option (List AckMsg)) → value_of root entries ≡ o → 1 ≤ weigh is_init (list_or o) → tell root (list_or o) ≡ None
        cases None is some = absurd (omega arith)
        cases (Some kept) is some = silent_one root kept entries stuck.silent is

    contradiction : ⊥
    contradiction =
        let own = account t custom h b reached (rows_in h.begun) (rows_are_found t custom h b reached) in
        let about : Within list (notes_about root notes) = λ f. let k = all_kept f in omega arith in
        let has_all : Within (notes_about root notes) list = λ f. let k = all_kept f in omega arith in
        let is_true = sound.are_true t custom (rows_in h.begun) (account_of h b) own root list about in
        let is_single = sound.are_single t custom (rows_in h.begun) (account_of h b) own root list about in
        let is_steady = sound.are_steady t custom (rows_in h.begun) (account_of h b) own root list about in
        let covers = sound.covers t custom (rows_in h.begun) (account_of h b) own (λ f. stuck.none_waits (on_tuple f))
        (each-to_map (λ (u : Run). course_of_run t custom u ≢ mute) (λ (e : Execution). e.run) h.runs stuck.none_mute) root list
        (let m = weigh_begun in omega arith) has_all (no_failure root list begun_here told_none) in
        let all_true = all_true_said t custom (rows_in h.begun root) root list is_true in
        some_none root list ((complete-told root list).1 (complete_if_covered (growth t custom (rows_in h.begun root)) root (all_said list) all_true is_single is_steady covers)) told_none
      where
        weigh_begun : weigh (is_begun root) (map (λ (o : Opening). o.begun) h.begun) ≡ weigh (opens root) h.begun
        weigh_begun = weigh-map (is_begun root) (λ (o : Opening). o.begun) h.begun

  -- the root was told of
  pub was_told : 1 ≤ weigh (tells root) h.told
  was_told = cases (weigh (tells root) h.told) refl
    where
      cases : (n : ℕ) → weigh (tells root) h.told ≡ n → 1 ≤ n
      cases zero is = absurd (contradiction is)
      cases (suc n) is = omega arith

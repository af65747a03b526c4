-- What taken lists tell of each verdict that was heard, and so of each end.
use Rattle.std.proofs.Common.{◌≡◌, ◌≤◌, ℕ, ◌+◌, true, List, [], ◌∷◌, ◌++◌, map, flat_map, Option, None, Some, Contains, refl, sym, subst, arith}
use Rattle.std.specs.List.{AllByRecursion}
use Rattle.event_worlds.specs.acker_core.Entries.{first_failed}
use Rattle.event_worlds.specs.acker_core.declared.verdict.Verdict.{Verdict}
use Rattle.event_worlds.specs.acker_core.declared.verdict.Verdict.TheVariants.{Complete, Fails}
use Rattle.event_worlds.specs.attempt_fates.declared.fates.Attempt.{Attempt}
use Rattle.event_worlds.specs.attempt_fates.declared.fates.End.{End}
use Rattle.event_worlds.specs.attempt_fates.declared.fates.End.TheVariants as end
use Rattle.event_worlds.specs.bolt_ops.RowOp.{Custom}
use Rattle.box_account.specs.Hearing.{HeardBeforeFailing, HeardComplete}
use Rattle.box_account.specs.Taken.{TookTrue, WasHeard}
use Rattle.box_account.specs.Telling.{TellsEnd, TellsMessage}
use Rattle.box_account.proofs.Histories.{TellsItself, all_heard, all_met}
use Rattle.box_rows.specs.declared.mail.Mail.{Mail}
use Rattle.box_rows.specs.Rows.{taken_in}
use Rattle.event_worlds.specs.commit_turns.Account.{ended_of, ending_of, ends_of}
use Rattle.event_worlds.specs.attempt_fates.Fates.{is_failed_commit}
use Rattle.event_worlds.proofs.counted_items.Each.{each-both, each-front, each-map, each-parts, each-to_map, each-weaker}
use Rattle.event_worlds.proofs.counted_items.Equality.{each-within}
use Rattle.event_worlds.proofs.counted_items.Weighing.{item-weighs, weigh-flat_map, weigh-map}
use Rattle.event_worlds.specs.storm_values.declared.value.Root.{Root}
use Rattle.event_worlds.specs.storm_values.declared.value.Value.{Value}
use Rattle.task_queues.specs.declared.pass.Pass.{Pass}
use Rattle.event_worlds.specs.topology_plan.Topology.{Topology}
use Rattle.event_worlds.specs.tree_model.declared.messages.AckMsg.{AckMsg}
use Rattle.event_worlds.specs.tree_model.declared.messages.AckMsg.TheVariants as msg
use Rattle.event_worlds.specs.tree_model.Lists.{AreTrueOf, IsTrueOf, root_of}
use Rattle.event_worlds.specs.tuple_account.Ends.{Desk, Ended, verdicts_by, verdicts_of_ends, verdicts_of_waits}
use Rattle.event_worlds.specs.tuple_account.Fits.{Fits}
use Rattle.event_worlds.specs.tuple_account.Histories.{History, IsTold, Packet, Receipt, Told, taken}
use Rattle.event_worlds.specs.tuple_account.Moves.{AreRows, Reached, Station}
use Rattle.event_worlds.specs.tuple_account.Sound.{IsSound}
use Rattle.event_worlds.proofs.tuple_account.Codes.{msg_code}
use Rattle.event_worlds.proofs.tuple_account.Listing.{told_lists}
use Rattle.event_worlds.proofs.tuple_account.Reading.{held_met}
use Rattle.event_worlds.proofs.tuple_account.Routing.{verdict_code}
use Rattle.event_worlds.proofs.tuple_account.Telling.{Says, heard_told, says}

abbrev some_path : List ℕ → Option (List ℕ) → List ℕ
some_path d None = d
some_path d (Some path) = path

module _ (t : Topology) (custom : Custom) (h : History) (b : Station) (reached : Reached t custom h b) (rows_of : Root → List (List Value)) (rows_are : AreRows rows_of h.begun)
    (row : List (Pass Mail)) (took : TookTrue t row) (enough : (f : Packet → ℕ) → taken f h ≤ taken_in row f) (few : (f : Packet → ℕ) → taken_in row f ≤ b.waiting f + taken f h) where
  abbrev Itself : AckMsg → Type 0
  Itself m = TellsItself t custom h b reached rows_of rows_are row took enough few m

  abbrev Tells : Root → AckMsg → Type 0
  Tells root m = TellsMessage t custom row (rows_of root) root m

  -- of a root, what a message of its tells
  of_root : (root : Root) (m : AckMsg) → root_of m ≡ root → Itself m → Tells root m
  of_root root m same is = subst (λ (r : Root). TellsMessage t custom row (rows_of r) r m) same is

  lists_met : AllByRecursion (λ (x : Told). AllByRecursion Itself x.list) h.told
  lists_met =
      each-parts Itself (λ (x : Told). x.list) h.told
      (each-within msg_code Itself (flat_map (λ (x : Told). x.list) h.told) (map (λ (x : Receipt). x.message) h.met)
      (λ f. let a = weigh-flat_map f (λ (x : Told). x.list) h.told in let k = held_met t custom h b reached (λ r. f) in let m = weigh-map f (λ (x : Receipt). x.message) h.met in omega arith)
      (all_met t custom h b reached rows_of rows_are row took enough few))

  -- ---- verdicts

  -- what a verdict tells
  abbrev TellsOf : Verdict → Type 0
  TellsOf (Complete root list) = AllByRecursion (Tells root) list
  TellsOf (Fails root path) = Tells root (msg.Failed (record { root = root; path = path }))

  complete : (root : Root) (list : List AckMsg) → AreTrueOf t custom (rows_of root) root list → AllByRecursion Itself list → AllByRecursion (Tells root) list
  complete root list true_of met =
      each-weaker (λ (m : AckMsg). IsTrueOf t custom (rows_of root) root m × Itself m) (Tells root) (λ m is. of_root root m is.0.of_root is.1) list
      (each-both (IsTrueOf t custom (rows_of root) root) Itself list true_of met)

  failing : (root : Root) (path : List ℕ) (list : List AckMsg) → AllByRecursion (Tells root) list → AreTrueOf t custom (rows_of root) root list → first_failed list ≡ Some path
      → Tells root (msg.Failed (record { root = root; path = path }))
  failing root path [] all true_of is = absurd (never is)
    where
      never : None ≡ Some path → ⊥
      never e = cc
  failing root path (msg.Init m ∷ list) all true_of is = failing root path list all.1 true_of.1 is
  failing root path (msg.Done m ∷ list) all true_of is = failing root path list all.1 true_of.1 is
  failing root path (msg.Failed m ∷ list) all true_of is =
      subst (Tells root) (λ i. msg.Failed (record { root = true_of.0.of_root i; path = some_path path (is i) })) all.0

  told_tells : (x : Told) → IsTold x → IsSound t custom (rows_of x.root) x.root x.list → AllByRecursion Itself x.list → TellsOf x.verdict
  told_tells x told sound met = by x.verdict (says x told)
    where
      all : AllByRecursion (Tells x.root) x.list
      all = complete x.root x.list sound.is_true met

      by : (v : Verdict) → Says x.root x.list v → TellsOf v
      by (Complete root list) s = subst (λ (r : Root). AllByRecursion (Tells r) list) (sym s.0) (subst (AllByRecursion (Tells x.root)) (sym s.1) all)
      by (Fails root path) s = subst (λ (r : Root). Tells r (msg.Failed (record { root = r; path = path }))) (sym s.0) (failing x.root path x.list all sound.is_true s.1)

  all_told : AllByRecursion (λ (x : Told). TellsOf x.verdict) h.told
  all_told =
      each-weaker (λ (x : Told). IsTold x × (IsSound t custom (rows_of x.root) x.root x.list × AllByRecursion Itself x.list)) (λ (x : Told). TellsOf x.verdict) (λ x is. told_tells x is.0 is.1.0 is.1.1) h.told
      (each-both IsTold (λ (x : Told). IsSound t custom (rows_of x.root) x.root x.list × AllByRecursion Itself x.list) h.told reached.moves.well.told
      (each-both (λ (x : Told). IsSound t custom (rows_of x.root) x.root x.list) (λ (x : Told). AllByRecursion Itself x.list) h.told (told_lists t custom h b reached rows_of rows_are) lists_met))

  -- a verdict that was heard
  abbrev Heard : Verdict → Type 0
  Heard v = WasHeard t row v × TellsOf v

  heard_tell : AllByRecursion Heard h.heard
  heard_tell =
      each-both (WasHeard t row) TellsOf h.heard (all_heard t custom h b reached rows_of rows_are row took enough few)
      (each-within verdict_code TellsOf h.heard (map (λ (x : Told). x.verdict) h.told) (heard_told t custom h b reached) (each-to_map TellsOf (λ (x : Told). x.verdict) h.told all_told))

  one_heard : (v : Verdict) → Contains h.heard v → Heard v
  one_heard v there = (each-within verdict_code Heard (v ∷ []) h.heard (λ f. let i = item-weighs f h.heard v there in omega arith) heard_tell).0

  -- ---- ends

  module _ (desk : Desk) (fates : List Attempt) (fits : Fits t desk (ends_of fates) h) (failed : HeardBeforeFailing h fates) where
    abbrev HeardOf : Attempt → Type 0
    HeardOf a = AllByRecursion Heard (verdicts_by a.root (ending_of a.end))

    ends_heard : AllByRecursion HeardOf fates
    ends_heard =
        each-map (λ (a : Ended). AllByRecursion Heard (verdicts_by a.root a.ending)) ended_of fates
        (each-parts Heard (λ (a : Ended). verdicts_by a.root a.ending) (ends_of fates)
        (each-front Heard (verdicts_of_ends (ends_of fates)) (verdicts_of_waits desk.pending)
        (each-within verdict_code Heard (verdicts_of_ends (ends_of fates) ++ verdicts_of_waits desk.pending) h.heard fits.heard heard_tell)))

    abbrev Ends : Attempt → Type 0
    Ends a = TellsEnd t custom row (rows_of a.root) a.root a.end

    end_tells : (root : Root) (e : End) → AllByRecursion Heard (verdicts_by root (ending_of e)) → (is_failed_commit e ≡ true → HeardComplete h root) → TellsEnd t custom row (rows_of root) root e
    end_tells root (end.Committed list) all complete_one = record { verdict = all.0.0; messages = all.0.1 }
    end_tells root (end.Failed path) all complete_one = record { verdict = all.0.0; message = all.0.1 }
    end_tells root end.TimedOut all complete_one = tt
    end_tells root (end.Coincided list) all complete_one = record { verdict = all.0.0; messages = all.0.1 }
    end_tells root (end.CommitFailed component part first last) all complete_one =
        let c = complete_one refl in
        let g = one_heard (Complete root c.0) c.1 in (c.0, record { verdict = g.0; messages = g.1 })
    end_tells root (end.Dropped other) all complete_one = tt

    pub ends_tell : AllByRecursion Ends fates
    ends_tell =
        each-weaker (λ (a : Attempt). HeardOf a × (is_failed_commit a.end ≡ true → HeardComplete h a.root)) Ends (λ a is. end_tells a.root a.end is.0 is.1) fates
        (each-both HeardOf (λ (a : Attempt). is_failed_commit a.end ≡ true → HeardComplete h a.root) fates ends_heard failed)

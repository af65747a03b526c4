-- Lists of entries are true, single and steady.
use Rattle.std.proofs.Common.{◌≡◌, ◌≤◌, ℕ, ◌+◌, Bool, true, false, cond, List, [], ◌∷◌, sym, refl, arith}
use Rattle.std.specs.List.{AllByRecursion}
use Rattle.tree_model.specs.bolt_ops.RowOp.{Custom}
use Rattle.tree_model.specs.counted_items.Weights.{weigh, Within}
use Rattle.tree_model.proofs.counted_items.Each.{each-weaker}
use Rattle.tree_model.proofs.counted_items.Weighing.{weigh-zero, weigh-same_each, each-weighs}
use Rattle.tree_model.specs.storm_values.declared.value.Root.{Root}
use Rattle.tree_model.specs.storm_values.declared.value.Value.{Value}
use Rattle.tree_model.specs.topology_plan.Topology.{Topology}
use Rattle.tree_model.specs.tuple_tickets.Roots.{root_eq}
use Rattle.tree_model.proofs.tuple_tickets.Roots.{same_root, root_itself}
use Rattle.tree_model.specs.declared.messages.AckMsg.{AckMsg}
use Rattle.tree_model.specs.Lists.{root_of}
use Rattle.tuple_account.specs.Accounts.{notes_about, issued_notes}
use Rattle.tuple_account.proofs.Tickets.{weigh-notes_about}
use Rattle.tuple_account.proofs.Sound.{are_true, are_single, are_steady}
use Rattle.tuple_account.specs.Histories.{Receipt, Told, History, met_in, told_in, dropped_in}
use Rattle.tuple_account.specs.Moves.{Station, Reached, AreRows, account_of}
use Rattle.tuple_account.specs.Sound.{IsSound}
use Rattle.tuple_account.proofs.Reading.{account, met_issued, held_met}

-- 1 at a message of another root
abbrev pub strange : Root → AckMsg → ℕ
strange root m = cond (root_eq (root_of m) root) 0 1

-- a weight, at the messages of a root
abbrev pub at_root : Root → (AckMsg → ℕ) → AckMsg → ℕ
at_root root f m = cond (root_eq (root_of m) root) (f m) 0

abbrev pub AreOf : Root → List AckMsg → Type 0
AreOf root list = AllByRecursion (λ (m : AckMsg). root_of m ≡ root) list

pub none_strange : (root : Root) (list : List AckMsg) → weigh (strange root) list ≡ 0 → AreOf root list
none_strange root [] none = tt
none_strange root (m ∷ ms) none = cases (root_eq (root_of m) root) refl none (none_strange root ms)
  where
    cases : (b : Bool) → root_eq (root_of m) root ≡ b → cond b 0 1 + weigh (strange root) ms ≡ 0 → (weigh (strange root) ms ≡ 0 → AreOf root ms) → AreOf root (m ∷ ms)
    cases true is few later = (same_root (root_of m) root is, later (omega arith))
    cases false is few later = absurd (omega arith)

own_weight : (root : Root) (f : AckMsg → ℕ) (list : List AckMsg) → AreOf root list → weigh f list ≡ weigh (at_root root f) list
own_weight root f list are_of = weigh-same_each f (at_root root f) (λ (m : AckMsg). root_of m ≡ root) (λ m is. let e : at_root root f m ≡ f m = rw (root_itself (root_of m) root is) refl in sym e) list are_of

module _ (t : Topology) (custom : Custom) (h : History) (b : Station) (reached : Reached t custom h b) where
  -- no entry has a message of another root
  none_met : met_in strange h ≡ 0
  none_met = weigh-zero (λ (x : Receipt). strange (root_of x.message) x.message) (λ x. rw (root_itself (root_of x.message) (root_of x.message) refl) refl) h.met

  pub held_of : (root : Root) (list : List AckMsg) → ((g : Root → AckMsg → ℕ) → weigh (g root) list ≤ b.kept g + (told_in g h + dropped_in g h)) → AreOf root list
  held_of root list held = none_strange root list (let x = held strange in let y = held_met t custom h b reached strange in let z = none_met in omega arith)

  -- the list of what was told is held
  told_held : (x : Told) → ((f : Told → ℕ) → f x ≤ weigh f h.told) → (g : Root → AckMsg → ℕ) → weigh (g x.root) x.list ≤ b.kept g + (told_in g h + dropped_in g h)
  told_held x few g = let w = few (λ (y : Told). weigh (g y.root) y.list) in omega arith

module _ (t : Topology) (custom : Custom) (h : History) (b : Station) (reached : Reached t custom h b) (rows_of : Root → List (List Value)) (rows_are : AreRows rows_of h.begun) where
  -- a list of one root within what was met
  pub sound_list : (root : Root) (list : List AckMsg) → AreOf root list → ((g : AckMsg → ℕ) → weigh g list ≤ weigh (λ (x : Receipt). g x.message) h.met) → IsSound t custom (rows_of root) root list
  sound_list root list are_of met = record {
    is_true = are_true t custom rows_of (account_of h b) (account t custom h b reached rows_of rows_are) root list within;
    is_single = are_single t custom rows_of (account_of h b) (account t custom h b reached rows_of rows_are) root list within;
    is_steady = are_steady t custom rows_of (account_of h b) (account t custom h b reached rows_of rows_are) root list within;
  }
    where
      within : Within list (notes_about root (issued_notes t custom (account_of h b)))
      within f =
          let o = own_weight root f list are_of in
          let m = met (at_root root f) in
          let i = met_issued t custom h b reached (at_root root f) in
          let a = weigh-notes_about root f (issued_notes t custom (account_of h b)) in omega arith

  pub held_list : (root : Root) (list : List AckMsg) → ((g : Root → AckMsg → ℕ) → weigh (g root) list ≤ b.kept g + (told_in g h + dropped_in g h)) → IsSound t custom (rows_of root) root list
  held_list root list held = sound_list root list (held_of t custom h b reached root list held) (λ g. let x = held (λ r. g) in let y = held_met t custom h b reached (λ r. g) in omega arith)

  pub told_lists : AllByRecursion (λ (x : Told). IsSound t custom (rows_of x.root) x.root x.list) h.told
  told_lists = each-weaker (λ (x : Told). (f : Told → ℕ) → f x ≤ weigh f h.told) (λ (x : Told). IsSound t custom (rows_of x.root) x.root x.list) (λ x few. held_list x.root x.list (told_held t custom h b reached x few)) h.told (each-weighs h.told)

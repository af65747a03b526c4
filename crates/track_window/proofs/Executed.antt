-- The tuples of a depth, when all were executed.
use Rattle.std.proofs.Common.{◌≡◌, ◌≤◌, ◌<◌, ◌-◌, ℕ, zero, suc, List, [], ◌∷◌, ◌++◌, map, take, drop, length, All, refl, sym, ap, subst, ◌∙◌, append-nil, arith}
use Rattle.std.proofs.lemmas.List.Elements.{All-from_recursion}
use Rattle.std.specs.List.{AllByRecursion, AllZip, flat_map}
use Rattle.tree_model.proofs.counted_items.Each.{each-flat_map, each-map, each-to_map, each-weaker}
use Rattle.shared_ledger.specs.declared.rule.Call.{Call}
use Rattle.ledger_words.specs.Notes.{call_at}
use Rattle.tree_model.specs.bolt_ops.RowOp.{Custom}
use Rattle.tree_model.specs.topology_plan.Topology.{Topology}
use Rattle.tree_model.specs.declared.messages.AckMsg.{AckMsg}
use Rattle.tree_model.specs.declared.messages.AckMsg.TheVariants as msg
use Rattle.tree_model.specs.declared.messages.Tuple.{Tuple}
use Rattle.tree_model.specs.Lists.{root_of}
use Rattle.tuple_account.specs.Issued.{Run, notes_of}
use Rattle.window_account.specs.Calls.{IsFit, call_of, number_of}
use Rattle.window_account.proofs.Tuples.{each-note}
use Rattle.track_window.specs.declared.job.Act.{Act}
use Rattle.track_window.specs.declared.job.Job.{Job}
use Rattle.track_window.specs.declared.walk.Walk.{Walk}
use Rattle.track_window.specs.Acts.{IsActBelow, call_of_act}
use Rattle.track_window.specs.Jobs.{IsExecuted, IsFound, IsRooted, IsSafe, tuples_in}
use Rattle.track_window.specs.Walks.{Steps}
use Rattle.track_window.proofs.Settling.{found_safe}

drop_all : {X : Type 0} (xs : List X) (n : ℕ) → n ≡ length xs → drop n xs ≡ []
drop_all [] zero is = refl
drop_all [] (suc n) is = refl
drop_all (x ∷ xs) zero is = absurd (omega (arith, is))
drop_all (x ∷ xs) (suc n) is = drop_all xs n (omega (arith, is))

pub take_all : {X : Type 0} (xs : List X) (n : ℕ) → n ≡ length xs → take n xs ≡ xs
take_all [] zero is = refl
take_all [] (suc n) is = refl
take_all (x ∷ xs) zero is = absurd (omega (arith, is))
take_all (x ∷ xs) (suc n) is = ap (λ ys. x ∷ ys) (take_all xs n (omega (arith, is)))

-- a vector whose items were all replaced
pub whole_items : {X : Type 0} (new items : List X) (len : ℕ) → len ≡ length items → length new ≡ length items → take len (new ++ drop (length new) items) ≡ new
whole_items new items len is long =
    ap (λ rest. take len (new ++ rest)) (drop_all items (length new) long) ∙ ap (take len) (append-nil new) ∙ take_all new len (omega (arith, is, long))

module _ (t : Topology) (custom : Custom) where
  pub executed_long : (old new : List Job) → AllZip (IsExecuted t custom) old new → length new ≡ length old
  executed_long [] [] all = refl
  executed_long [] (j ∷ new) all = absurd all
  executed_long (i ∷ old) [] all = absurd all
  executed_long (i ∷ old) (j ∷ new) all = let later = executed_long old new all.1 in omega (arith, later)

  pub executed_tuples : (old new : List Job) → AllZip (IsExecuted t custom) old new → tuples_in new ≡ tuples_in old
  executed_tuples [] [] all = refl
  executed_tuples [] (j ∷ new) all = absurd all
  executed_tuples (i ∷ old) [] all = absurd all
  executed_tuples (i ∷ old) (j ∷ new) all = λ k. all.0.0 k ∷ executed_tuples old new all.1 k

  pub executed_found : (old new : List Job) → AllZip (IsExecuted t custom) old new → AllByRecursion (λ (j : Job). IsFound t custom j.tuple j.found) new
  executed_found [] [] all = tt
  executed_found [] (j ∷ new) all = absurd all
  executed_found (i ∷ old) [] all = absurd all
  executed_found (i ∷ old) (j ∷ new) all = (subst (λ (x : Tuple). IsFound t custom x j.found) (sym all.0.0) all.0.1, executed_found old new all.1)

  pub executed_safe : (count : ℕ) (old new : List Job) → AllZip (IsExecuted t custom) old new → AllByRecursion (λ (j : Job). IsFit t j.tuple) old → AllByRecursion (λ (j : Job). IsRooted count j.tuple) old → AllByRecursion (λ (j : Job). IsSafe t count j.tuple j.found) new
  executed_safe count [] [] all fit rooted = tt
  executed_safe count [] (j ∷ new) all fit rooted = absurd all
  executed_safe count (i ∷ old) [] all fit rooted = absurd all
  executed_safe count (i ∷ old) (j ∷ new) all fit rooted = (
    subst (λ (x : Tuple). IsSafe t count x j.found) (sym all.0.0) (found_safe t custom count i.tuple j.found rooted.0 fit.0 all.0.1),
    executed_safe count old new all.1 fit.1 rooted.1,
  )

  on_root : (n : ℕ) (m : AckMsg) → (call_at n m).root ≡ n
  on_root n (msg.Init m) = refl
  on_root n (msg.Done m) = refl
  on_root n (msg.Failed m) = refl

  -- the calls of a depth are on the ledger's roots
  pub acts_below : (count roots : ℕ) (tuples : List Tuple) (start last : Walk) → Steps t custom tuples start last → start.acts.items ≡ [] → AllByRecursion (IsRooted count) tuples → count ≤ roots → AllByRecursion (IsActBelow roots) last.acts.items
  acts_below count roots tuples start last steps none rooted few =
      let runs = each-map (IsRooted count) (λ (u : Run). u.tuple) steps.runs (subst (AllByRecursion (IsRooted count)) (sym steps.of_tuples) rooted) in
      let told = each-flat_map (λ (m : AckMsg). number_of (root_of m) < roots) (notes_of t custom) steps.runs
      (each-weaker (λ (u : Run). IsRooted count u.tuple) (λ (u : Run). AllByRecursion (λ (m : AckMsg). number_of (root_of m) < roots) (notes_of t custom u))
      (λ u is. each-note t custom (λ (m : AckMsg). number_of (root_of m) < roots) u (λ m root. let same = ap number_of root in let low = is.least in let high = is.most in omega (arith, same, low, high, few))) steps.runs runs) in
      let calls = each-to_map (λ (c : Call). c.root < roots) call_of (flat_map (notes_of t custom) steps.runs)
      (each-weaker (λ (m : AckMsg). number_of (root_of m) < roots) (λ (m : AckMsg). (call_of m).root < roots) (λ m less. let same = on_root (number_of (root_of m)) m in omega (arith, same, less)) (flat_map (notes_of t custom) steps.runs) told) in
      each-map (λ (c : Call). c.root < roots) call_of_act last.acts.items
      (subst (AllByRecursion (λ (c : Call). c.root < roots)) (sym (steps.acts ∙ ap (λ (xs : List Act). map call_of_act xs ++ map call_of (flat_map (notes_of t custom) steps.runs)) none)) calls)

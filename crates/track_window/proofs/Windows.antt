-- A window from its beginning to its end.
use Rattle.std.proofs.Common.{◌≡◌, ◌≤◌, ◌<◌, ◌+◌, ◌-◌, ◌^◌, ℕ, zero, suc, min, Bool, List, [], ◌∷◌, ◌++◌, map, fold, length, replicate, slice_get, get_or, Some, All, refl, sym, ap, subst, ◌∙◌, arith}
use Rattle.std.proofs.lemmas.List.{length-replicate}
use Rattle.std.proofs.lemmas.List.Elements.{All-from_recursion}
use Rattle.std.proofs.lemmas.Option.{none-some, same_Some, slice_get_within, slice_get-get_or}
use Rattle.std.specs.List.{AllByRecursion, AllZip, flat_map}
use Rattle.pass_numbers.specs.Numbers.{Numbered, IsWhole}
use Rattle.pass_numbers.proofs.Numbering.{one_numbered, one_whole}
use Rattle.tree_model.proofs.counted_items.Each.{each-map, each-weaker}
use Rattle.ledger_words.specs.Notes.{HoldsNotes}
use Rattle.shared_ledger.specs.declared.rule.Book.{Book}
use Rattle.shared_ledger.specs.declared.rule.Call.{Call}
use Rattle.shared_ledger.specs.Books.{numbers_in}
use Rattle.state_tallies.specs.Tallies.{AreFew, capped, count_of}
use Rattle.tree_model.specs.bolt_ops.RowOp.{Custom}
use Rattle.tree_model.specs.counted_items.Weights.{weigh}
use Rattle.tree_model.specs.storm_values.declared.value.Value.{Value}
use Rattle.tree_model.specs.topology_plan.Topology.{Topology}
use Rattle.tree_model.specs.topology_plan.Valid.{IsValid}
use Rattle.tree_model.specs.declared.messages.AckMsg.{AckMsg}
use Rattle.tree_model.specs.declared.messages.Tuple.{Tuple}
use Rattle.tree_model.specs.Trees.{Node}
use Rattle.tracked_trees.specs.Reached.{reached_from}
use Rattle.tracked_trees.specs.Tries.{tallied}
use Rattle.tuple_account.specs.Accounts.{issued_notes}
use Rattle.tuple_account.specs.Issued.{node_of}
use Rattle.window_account.specs.Calls.{IsAmong, IsFit, noted}
use Rattle.window_account.specs.Noted.{count_in_window}
use Rattle.window_account.specs.Stands.{Stands, account_of}
use Rattle.window_account.proofs.Ending.{is_noted}
use Rattle.window_account.proofs.Keeping.{noted_all_length}
use Rattle.track_window.specs.declared.job.Job.{Job}
use Rattle.track_window.specs.declared.walk.Walk.{Walk}
use Rattle.track_window.specs.Jobs.{IsRooted, tuples_in}
use Rattle.track_window.specs.Walks.{IsReady}

pub whole_after : (old new : Book) → ((others : List Book) → Numbered numbers_in (old ∷ others) → Numbered numbers_in (new ∷ others)) → IsWhole (numbers_in old) → IsWhole (numbers_in new)
whole_after old new keeps whole = one_whole numbers_in new (keeps [] (one_numbered numbers_in old whole))

-- the items of two lists at one place
pub zip_at : {A B : Type 0} (R : A → B → Type 0) (xs : List A) (ys : List B) → AllZip R xs ys → (i : ℕ) (x : A) (y : B) → slice_get xs i ≡ Some x → slice_get ys i ≡ Some y → R x y
zip_at R [] ys all i x y first second = absurd (none-some x first)
zip_at R (a ∷ xs) [] all i x y first second = absurd all
zip_at R (a ∷ xs) (b ∷ ys) all zero x y first second = subst (λ z. R z y) (same_Some a x first) (subst (R a) (same_Some b y second) all.0)
zip_at R (a ∷ xs) (b ∷ ys) all (suc i) x y first second = zip_at R xs ys all.1 i x y first second

module _ (t : Topology) (custom : Custom) (attempt depth levels : ℕ) (rows : List (List Value)) where
  module _ (waiting : List Tuple) (lists : List (List AckMsg)) (calls : List Call) (counts : ℕ → List ℕ → ℕ) (now : Stands t custom attempt depth levels rows waiting lists calls counts) where
    pub stands_count : length lists ≡ length rows
    stands_count = ap length now.notes ∙ noted_all_length (replicate (length rows) []) (issued_notes t custom (account_of now.begun now.runs waiting)) ∙ length-replicate (length rows) []

    pub tallied_all : waiting ≡ [] → ((state : ℕ) (key : List ℕ) → counts state key ≤ 2 ^ 64 - 1) → (state : ℕ) (key : List ℕ) → counts state key ≡ capped (count_in_window t custom attempt rows state key)
    tallied_all none few state key =
        let counted = now.counted state key in
        let same = counted.1 in
        let total = counted.2 in
        let left = ap (λ (ts : List Tuple). weigh (tallied t state key) (flat_map (reached_from levels t custom attempt) (map node_of ts))) none in
        let fits = few state key in
        omega (arith, same, total, left, fits)

  pub ready_of : (roots : ℕ) (walk : Walk) (calls : List Call) (counts : ℕ → List ℕ → ℕ) → Stands t custom attempt depth levels rows (tuples_in walk.jobs.items) walk.notes.items calls counts → length rows ≤ roots → length walk.tallies ≡ length t.components → IsReady t roots walk
  ready_of roots walk calls counts now few components =
      let long = stands_count (tuples_in walk.jobs.items) walk.notes.items calls counts now in
      record {
        fit = All-from_recursion (λ (job : Job). IsFit t job.tuple) walk.jobs.items (each-map (IsFit t) (λ (job : Job). job.tuple) walk.jobs.items now.fit);
        rooted = All-from_recursion (λ (job : Job). IsRooted (length walk.notes.items) job.tuple) walk.jobs.items
            (each-weaker (λ (job : Job). IsAmong (length rows) attempt job.tuple.root) (λ (job : Job). IsRooted (length walk.notes.items) job.tuple)
            (λ job among. record { least = among.least; most = let high = among.most in omega (arith, long, high) }) walk.jobs.items
            (each-map (λ (tuple : Tuple). IsAmong (length rows) attempt tuple.root) (λ (job : Job). job.tuple) walk.jobs.items now.among));
        count = omega (arith, long, few);
        components = components;
      }

-- the calls on a root at the end are those of its messages
pub held_of : (t : Topology) (custom : Custom) → IsValid t → (attempt levels : ℕ) (rows : List (List Value)) (waiting : List Tuple) (lists : List (List AckMsg)) (calls : List Call) (counts : ℕ → List ℕ → ℕ)
    → Stands t custom attempt (length t.components + 1) levels rows waiting lists calls counts → (book : Book) → book.calls ≡ calls → (number : ℕ) (list : List AckMsg) → slice_get lists number ≡ Some list → HoldsNotes number book list
held_of t custom valid attempt levels rows waiting lists calls counts last book is number list at =
    let long = stands_count t custom attempt (length t.components + 1) levels rows waiting lists calls counts last in
    let below = slice_get_within lists number list at in
    let there = slice_get-get_or rows number [] (omega (arith, long, below)) in
    (is_noted t custom valid attempt levels rows waiting lists calls counts last number (get_or rows number []) there book list is at).in_book

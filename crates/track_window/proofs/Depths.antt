-- A walk that begins its records, and one that goes a depth down.
use Rattle.std.proofs.Common.{◌≡◌, ◌<◌, ◌+◌, ◌-◌, ℕ, zero, suc, List, [], ◌∷◌, ◌++◌, map, fold, take, get_or, length, length-append, replicate, All, refl, sym, ap, subst, ◌∙◌, append_assoc, append-nil, arith}
use Rattle.std.proofs.lemmas.List.{map-append, length-replicate}
use Rattle.std.proofs.lemmas.List.Concat.{flat_map-append}
use Rattle.std.proofs.lemmas.List.Sums.{fold-append}
use Rattle.std.specs.List.{AllByRecursion, flat_map}
use Rattle.tree_model.proofs.counted_items.Each.{each-append}
use Rattle.shared_ledger.specs.declared.rule.Book.{Book}
use Rattle.shared_ledger.specs.declared.rule.Call.{Call}
use Rattle.shared_ledger.specs.Books as books
use Rattle.state_tallies.specs.Tallies.{capped, count_of}
use Rattle.tree_model.specs.bolt_ops.RowOp.{Custom}
use Rattle.tree_model.specs.storm_values.declared.value.Root.{Root}
use Rattle.tree_model.specs.storm_values.declared.value.Value.{Value}
use Rattle.tree_model.specs.topology_plan.Topology.{Topology}
use Rattle.tree_model.specs.topology_plan.declared.parts.Origin.TheVariants as origin
use Rattle.tree_model.specs.tuple_tickets.Edges.{xor_ids}
use Rattle.tree_model.specs.declared.messages.AckMsg.{AckMsg}
use Rattle.tree_model.specs.declared.messages.Tuple.{Tuple}
use Rattle.tree_model.specs.Trees.{kids}
use Rattle.tuple_account.specs.Issued.{Begun, first_tuples, init_of, edges_of, children_of, notes_of}
use Rattle.window_account.specs.Calls.{IsFit, call_of, noted, number_of, tallied_in}
use Rattle.window_account.specs.Noted.{root_at}
use Rattle.window_account.specs.Stands.{AreBegun, Opens, Stands}
use Rattle.window_account.proofs.Opening.{begun_push}
use Rattle.window_account.proofs.Keeping.{noted_all_length}
use Rattle.window_account.proofs.Stepping.{stepped}
use Rattle.track_window.specs.declared.job.Act.{Act}
use Rattle.track_window.specs.declared.job.Job.{Job}
use Rattle.track_window.specs.declared.walk.Walk.{Walk}
use Rattle.track_window.specs.Acts.{Acted, call_of_act}
use Rattle.track_window.specs.Jobs.{tuples_in}
use Rattle.track_window.specs.Walks.{Begins, Steps}

pub take_more : {X : Type 0} (xs : List X) (i : ℕ) (x : X) → i < length xs → x ≡ get_or xs i x → take (i + 1) xs ≡ take i xs ++ x ∷ []
take_more [] i x within at = absurd (omega (arith, within))
take_more (y ∷ ys) zero x within at = ap (λ z. z ∷ []) (sym at)
take_more (y ∷ ys) (suc i) x within at = let e : suc i + 1 ≡ suc (i + 1) = omega arith in ap (λ (k : ℕ). take k (y ∷ ys)) e ∙ ap (λ zs. y ∷ zs) (take_more ys i x (omega (arith, within)) at)

length_taken : {X : Type 0} (xs : List X) (i : ℕ) → i < length xs → length (take i xs) ≡ i
length_taken [] i within = absurd (omega (arith, within))
length_taken (x ∷ xs) zero within = refl
length_taken (x ∷ xs) (suc i) within = let later = length_taken xs i (omega (arith, within)) in omega (arith, later)

module _ (t : Topology) (attempt count : ℕ) where
  pub opens_none : (waiting : List Tuple) (lists : List (List AckMsg)) (calls : List Call) → waiting ≡ [] → lists ≡ replicate count [] → calls ≡ [] → Opens t attempt count [] waiting lists calls
  opens_none waiting lists calls none empty silent = record {
    begun = [];
    are_begun = tt;
    waits = none;
    fit = subst (AllByRecursion (IsFit t)) (sym none) tt;
    notes = empty;
    called = silent;
  }

  pub opens_count : (rows : List (List Value)) (waiting : List Tuple) (lists : List (List AckMsg)) (calls : List Call) → Opens t attempt count rows waiting lists calls → length lists ≡ count
  opens_count rows waiting lists calls opens = ap length opens.notes ∙ noted_all_length (replicate count []) (map (init_of t) opens.begun) ∙ length-replicate count []

  pub opens_more : (rows : List (List Value)) (n : ℕ) (row : List Value) (word : ℕ) (old new : Walk) (calls more : List Call) → n < length rows → row ≡ get_or rows n row
      → Opens t attempt count (take n rows) (tuples_in old.jobs.items) old.notes.items calls → Begins t n attempt row word old new → more ≡ calls ++ books.init_of n word ∷ []
      → Opens t attempt count (take (n + 1) rows) (tuples_in new.jobs.items) new.notes.items more
  opens_more rows n row word old new calls more within at opens begins called =
      let b = begins.begun in
      let place : suc n - 1 ≡ n = omega arith in
      let long = length_taken rows n within in
      let first = first_tuples t b in
      record {
        begun = opens.begun ++ b ∷ [];
        are_begun = subst (λ (rs : List (List Value)). AreBegun t attempt 0 rs (opens.begun ++ b ∷ [])) (sym (take_more rows n row within at))
            (begun_push t attempt 0 (take n rows) opens.begun row b n opens.are_begun (omega (arith, long)) begins.root begins.rows begins.enough);
        waits = begins.jobs ∙ ap (λ (ts : List Tuple). ts ++ first) opens.waits
            ∙ ap (λ (ts : List Tuple). flat_map (first_tuples t) opens.begun ++ ts) (sym (append-nil first)) ∙ sym (flat_map-append (first_tuples t) opens.begun (b ∷ []));
        fit = subst (AllByRecursion (IsFit t)) (sym begins.jobs) (each-append (IsFit t) (tuples_in old.jobs.items) first opens.fit begins.fit);
        notes = begins.notes ∙ ap (λ (ls : List (List AckMsg)). noted ls (init_of t b)) opens.notes
            ∙ sym (fold-append noted (replicate count []) (map (init_of t) opens.begun) (init_of t b ∷ [])) ∙ ap (fold noted (replicate count [])) (sym (map-append (init_of t) opens.begun (b ∷ [])));
        called = called
            ∙ (λ i. opens.called i ++ books.init_of (n_is i) (begins.word_is i) ∷ [])
            ∙ sym (map-append call_of (map (init_of t) opens.begun) (init_of t b ∷ [])) ∙ ap (map call_of) (sym (map-append (init_of t) opens.begun (b ∷ [])));
      }
    where
      n_is : n ≡ number_of begins.begun.root
      n_is = let place : n ≡ suc n - 1 = omega arith in place ∙ ap number_of (sym begins.root)

module _ (t : Topology) (custom : Custom) (attempt depth levels : ℕ) (rows : List (List Value)) (jobs : List Job) (lists : List (List AckMsg)) (old new : Book) (start last : Walk) (counts : ℕ → List ℕ → ℕ) where
  -- one depth down, from a walk whose jobs were taken and whose calls were made
  pub stands_down : Stands t custom attempt depth (levels + 1) rows (tuples_in jobs) lists old.calls counts → (tuples : List Tuple) → tuples ≡ tuples_in jobs → Steps t custom tuples start last
      → start.jobs.items ≡ [] → start.acts.items ≡ [] → start.notes.items ≡ lists → ((state : ℕ) (key : List ℕ) → count_of start.tallies state key ≡ counts state key)
      → Acted last.acts.items old new
      → Stands t custom attempt (depth + 1) levels rows (tuples_in last.jobs.items) last.notes.items new.calls (count_of last.tallies)
  stands_down now tuples same steps no_jobs no_acts notes counted acted =
      stepped t custom attempt depth levels rows (tuples_in jobs) lists old.calls counts now steps.runs (steps.of_tuples ∙ same) steps.well (tuples_in last.jobs.items)
      (steps.jobs ∙ ap (λ (js : List Job). tuples_in js ++ flat_map (children_of t custom) steps.runs) no_jobs)
      (subst (AllByRecursion (IsFit t)) (sym (steps.jobs ∙ ap (λ (js : List Job). tuples_in js ++ flat_map (children_of t custom) steps.runs) no_jobs)) steps.fit)
      last.notes.items (steps.notes ∙ ap (λ (ls : List (List AckMsg)). fold noted ls (flat_map (notes_of t custom) steps.runs)) notes)
      new.calls (acted.calls ∙ ap (λ (cs : List Call). old.calls ++ cs) (steps.acts ∙ ap (λ (xs : List Act). map call_of_act xs ++ map call_of (flat_map (notes_of t custom) steps.runs)) no_acts))
      (count_of last.tallies) (λ state key. steps.tallies state key ∙ (λ i. capped (counted state key i + tallied_in t state key (same i))))

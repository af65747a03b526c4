-- Moves one after another and side by side.
use Rattle.std.proofs.Common.{◌≡◌, ◌≤◌, ℕ, ◌+◌, List, [], ◌∷◌, refl, arith}
use Rattle.acker_core.specs.declared.verdict.Verdict.{Verdict}
use Rattle.tree_model.specs.bolt_ops.RowOp.{Custom}
use Rattle.tree_model.specs.counted_items.Weights.{weigh, Same}
use Rattle.tree_model.proofs.counted_items.Each.{each-append}
use Rattle.tree_model.proofs.counted_items.Weighing.{weigh-append}
use Rattle.tree_model.specs.storm_values.declared.value.Root.{Root}
use Rattle.tree_model.specs.topology_plan.Topology.{Topology}
use Rattle.tree_model.specs.declared.messages.AckMsg.{AckMsg}
use Rattle.tree_model.specs.declared.messages.Parcel.TheVariants.{ToTask, ToAcker}
use Rattle.tree_model.specs.Lists.{root_of}
use Rattle.tuple_account.specs.Histories.{Packet, of_parcel, of_verdict, Opening, Execution, Receipt, Told, History, IsOpening, IsExecution, IsTold, nothing, joined, opens, weigh_parcels, opening_parcels, execution_parcels, start_spans, opening_spans, execution_spans, met_in, told_in, dropped_in, drawn_in, taken, issued}
use Rattle.tuple_account.specs.Moves.{Station, empty, beside, IsAlike, IsWell, Moves, Reached, HasDrawn}
use Rattle.tuple_account.specs.Parts.{holding, hearing}
use Rattle.tuple_account.specs.Places.{HasWords}

-- ---- joined histories

pub taken-joined : (f : Packet → ℕ) (h k : History) → taken f (joined h k) ≡ taken f h + taken f k
taken-joined f h k =
    let u = weigh-append (λ (e : Execution). f (of_parcel (ToTask e.run.task e.run.tuple))) h.runs k.runs in
    let m = weigh-append (λ (x : Receipt). f (of_parcel (ToAcker x.acker x.message))) h.met k.met in
    let v = weigh-append (λ (v : Verdict). f (of_verdict v)) h.heard k.heard in omega arith

drawn-joined : (s j : ℕ) (h k : History) → drawn_in s j (joined h k) ≡ drawn_in s j h + drawn_in s j k
drawn-joined s j h k =
    let x = weigh-append (start_spans s j) h.starts k.starts in
    let b = weigh-append (opening_spans s j) h.begun k.begun in
    let u = weigh-append (execution_spans s j) h.runs k.runs in omega arith

met-joined : (g : Root → AckMsg → ℕ) (h k : History) → met_in g (joined h k) ≡ met_in g h + met_in g k
met-joined g h k = weigh-append (λ (x : Receipt). g (root_of x.message) x.message) h.met k.met

told-joined : (g : Root → AckMsg → ℕ) (h k : History) → told_in g (joined h k) ≡ told_in g h + told_in g k
told-joined g h k = weigh-append (λ (x : Told). weigh (g x.root) x.list) h.told k.told

dropped-joined : (g : Root → AckMsg → ℕ) (h k : History) → dropped_in g (joined h k) ≡ dropped_in g h + dropped_in g k
dropped-joined g h k = weigh-append (λ (x : Root × List AckMsg). weigh (g x.0) x.1) h.dropped k.dropped

pub drawn-both : (words : ℕ → ℕ → ℕ) (h k : History) → HasDrawn words h → HasDrawn words k → HasDrawn words (joined h k)
drawn-both words h k one two = record {
  of_begun = each-append (λ (o : Opening). HasWords words o.begun.source o.begun.at o.begun.ids) h.begun k.begun one.of_begun two.of_begun;
  of_runs = each-append (λ (e : Execution). HasWords words e.run.task e.run.at e.run.ids) h.runs k.runs one.of_runs two.of_runs;
}

module _ (t : Topology) (custom : Custom) where
  pub issued-joined : (f : Packet → ℕ) (h k : History) → issued t custom f (joined h k) ≡ issued t custom f h + issued t custom f k
  issued-joined f h k =
      let b = weigh-append (λ (o : Opening). weigh_parcels f (opening_parcels t o)) h.begun k.begun in
      let u = weigh-append (λ (e : Execution). weigh_parcels f (execution_parcels t custom e)) h.runs k.runs in
      let x = weigh-append (λ (x : Told). f (of_verdict x.verdict)) h.told k.told in omega arith

  well-joined : (h k : History) → IsWell t custom h → IsWell t custom k → IsWell t custom (joined h k)
  well-joined h k one two = record {
    begun = each-append (IsOpening t) h.begun k.begun one.begun two.begun;
    runs = each-append (IsExecution t custom) h.runs k.runs one.runs two.runs;
    told = each-append IsTold h.told k.told one.told two.told;
  }

  pub well-nothing : IsWell t custom nothing
  well-nothing = record { begun = tt; runs = tt; told = tt }

  -- ---- then, beside, alike

  pub moves-then : (a b c : Station) (h k : History) → Moves t custom a h b → Moves t custom b k c → Moves t custom a (joined h k) c
  moves-then a b c h k one two = record {
    packets = λ f. let i = issued-joined f h k in let j = taken-joined f h k in let x = one.packets f in let y = two.packets f in omega arith;
    notes = λ g. let m = met-joined g h k in let o = told-joined g h k in let d = dropped-joined g h k in let x = one.notes g in let y = two.notes g in omega arith;
    draws = λ s j. let d = drawn-joined s j h k in let x = one.draws s j in let y = two.draws s j in omega arith;
    well = well-joined h k one.well two.well;
  }

  pub moves-beside : (a b c d : Station) (h k : History) → Moves t custom a h b → Moves t custom c k d → Moves t custom (beside a c) (joined h k) (beside b d)
  moves-beside a b c d h k one two = record {
    packets = λ f. let i = issued-joined f h k in let j = taken-joined f h k in let x = one.packets f in let y = two.packets f in omega arith;
    notes = λ g. let m = met-joined g h k in let o = told-joined g h k in let e = dropped-joined g h k in let x = one.notes g in let y = two.notes g in omega arith;
    draws = λ s j. let e = drawn-joined s j h k in let x = one.draws s j in let y = two.draws s j in omega arith;
    well = well-joined h k one.well two.well;
  }

  pub moves-frame : (a b rest : Station) (h : History) → Moves t custom a h b → Moves t custom (beside a rest) h (beside b rest)
  moves-frame a b rest h one = record {
    packets = λ f. let x = one.packets f in omega arith;
    notes = λ g. let x = one.notes g in omega arith;
    draws = λ s j. let x = one.draws s j in omega arith;
    well = one.well;
  }

  pub moves-alike : (a b c d : Station) (h : History) → IsAlike a c → IsAlike b d → Moves t custom a h b → Moves t custom c h d
  moves-alike a b c d h first last m = record {
    packets = λ f. let x = first.waiting f in let y = last.waiting f in let e = m.packets f in omega arith;
    notes = λ g. let x = first.kept g in let y = last.kept g in let e = m.notes g in omega arith;
    draws = λ s j. let x = first.given s j in let y = last.given s j in let e = m.draws s j in omega arith;
    well = m.well;
  }

  -- nothing happened, but what waits may be elsewhere
  pub moves-none : (a b : Station) → IsAlike a b → Moves t custom a nothing b
  moves-none a b same = record {
    packets = λ f. let x = same.waiting f in omega arith;
    notes = λ g. let x = same.kept g in omega arith;
    draws = λ s j. let x = same.given s j in omega arith;
    well = well-nothing;
  }

  pub moves-hand_over : (from to : List Packet) → Same from to → Moves t custom (holding from) nothing (holding to)
  moves-hand_over from to same = moves-none (holding from) (holding to) (record { waiting = same; kept = λ g. refl; given = λ s j. refl })

  pub moves-hear : (v : Verdict) → Moves t custom (holding (of_verdict v ∷ [])) (hearing v) empty
  moves-hear v = record {
    packets = λ f. omega arith;
    notes = λ g. omega arith;
    draws = λ s j. omega arith;
    well = record { begun = tt; runs = tt; told = tt };
  }

  -- ---- reached

  pub reached-none : Reached t custom nothing empty
  reached-none = record { moves = moves-none empty empty (record { waiting = λ f. refl; kept = λ g. refl; given = λ s j. refl }); once = λ root. omega arith }

  pub reached-then : (a b : Station) (h k : History) → Reached t custom h a → Moves t custom a k b → ((root : Root) → weigh (opens root) h.begun + weigh (opens root) k.begun ≤ 1) → Reached t custom (joined h k) b
  reached-then a b h k one two once = record {
    moves = moves-then empty a b h k one.moves two;
    once = λ root. let x = weigh-append (opens root) h.begun k.begun in let o = once root in omega arith;
  }

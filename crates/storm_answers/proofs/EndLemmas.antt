-- How a command ends, from what it came to and what was written.
use Rattle.std.proofs.Common.{◌≡◌, ◌⊎◌, ℕ, List, [], Result, Ok, Err, IfOk, IfErr, IsErrAnd, refl, sym, subst, inl, inr, String, string_bytes}
use Rattle.storm_answers.specs.declared.status.Status.{Status}
use Rattle.storm_answers.specs.declared.status.Status.TheVariants as status
use Rattle.storm_answers.specs.declared.early_end.EarlyEnd.{EarlyEnd}
use Rattle.storm_answers.specs.declared.early_end.EarlyEnd.TheVariants.{Memory, Told}
use Rattle.storm_answers.specs.Ends.{AnswersCall, HasText, IsCut, IsDoneOrShort, Ends, TakesThePlace, IsAnswered}
use Rattle.storm_answers.specs.Outside.{ShelfUse, SinkFailed, SinkUse, TookText}
use Rattle.storm_answers.specs.steps.Stops.{IsMemory, Stops, IsWritten, IsStopWritten}

-- ---- stops

-- the exit of a `?` that hands the error on
pub IfErr-exit : {T E : Type 0} (r : Result T E) (error : E) (P : E → Type 0) → IsErrAnd r (λ e. e ≡ error) → P error → IfErr r P
IfErr-exit (Ok x) error P exits holds = tt
IfErr-exit (Err e) error P exits holds = subst P (sym exits) holds

-- a stop of one meaning is one of a weaker meaning
pub Stops-weaker : (P Q : Status → List ℕ → Type 0) (stop : EarlyEnd) → ((s : Status) (text : List ℕ) → P s text → Q s text) → Stops P stop → Stops Q stop
Stops-weaker P Q Memory weaker comes = weaker status.Memory [] comes
Stops-weaker P Q (Told s line) weaker (has, comes) = (has, weaker s (string_bytes line) comes)

-- the same where the stop is handed on
pub stops_on : {T : Type 0} (P Q : Status → List ℕ → Type 0) (r : Result T EarlyEnd) → ((s : Status) (text : List ℕ) → P s text → Q s text) → IfErr r (Stops P) → IfErr r (Stops Q)
stops_on P Q (Ok x) weaker stops = tt
stops_on P Q (Err stop) weaker stops = Stops-weaker P Q stop weaker stops

-- ---- ends

module _ (Comes : Status → List ℕ → Type 0) (sink : SinkUse) where
  -- a text that was taken whole
  ends_whole : (s : Status) → HasText s → (text : List ℕ) × Comes s text × TookText sink text → Ends Comes sink s
  ends_whole s has took = record {
    whole = λ _. took;
    cut = λ is. absurd (let none : HasText status.WriteFault = subst HasText is has in none);
    memory = λ is. absurd (let none : HasText status.Memory = subst HasText is has in none);
  }

  ends_cut : IsCut Comes sink → Ends Comes sink status.WriteFault
  ends_cut is_cut = record { whole = λ has. absurd has; cut = λ _. is_cut; memory = λ is. absurd cc }

  pub ends_memory : Comes status.Memory [] → sink.taken_after ≡ sink.taken_before → Ends Comes sink status.Memory
  ends_memory comes nothing = record { whole = λ has. absurd has; cut = λ is. absurd cc; memory = λ _. (comes, nothing) }

  -- a text of a status was written
  pub ends_written : (s answer : Status) (text : List ℕ) → HasText s → Comes s text → IsWritten s text sink answer → Ends Comes sink answer
  ends_written s answer text has comes (inl (is, took)) = subst (Ends Comes sink) (sym is) (ends_whole s has (text, comes, took))
  ends_written s answer text has comes (inr (is, rose, front)) =
      let is_cut : IsCut Comes sink = record { rose = rose; replaced = s; has_text = has; text = text; comes = comes; front = front } in
      subst (Ends Comes sink) (sym is) (ends_cut is_cut)

  ends_stop : (stop : EarlyEnd) (answer : Status) → Stops Comes stop → IsStopWritten stop sink answer → Ends Comes sink answer
  ends_stop Memory answer comes (is, nothing) = subst (Ends Comes sink) (sym is) (ends_memory comes nothing)
  ends_stop (Told s line) answer (has, comes) written = ends_written s answer (string_bytes line) has comes written

  -- what a command came to was written
  pub ends_answer : {A : Type 0} (came : Result (String A) EarlyEnd) (answer : Status) → IfOk came (λ text. Comes status.Done (string_bytes text)) → IfErr came (Stops Comes) → IfOk came (λ text. IsWritten status.Done (string_bytes text) sink answer) → IfErr came (λ stop. IsStopWritten stop sink answer) → Ends Comes sink answer
  ends_answer (Ok text) answer done stop written stopped = ends_written status.Done answer (string_bytes text) tt done written
  ends_answer (Err stop) answer done stops written stopped = ends_stop stop answer stops stopped

-- where a command was done or wanted memory, and the sink did not fail, it is answered so
written_done : (text : List ℕ) (sink : SinkUse) (answer : Status) → (SinkFailed sink → ⊥) → IsWritten status.Done text sink answer → IsDoneOrShort answer
written_done text sink answer fine (inl written) = inl written.0
written_done text sink answer fine (inr cut) = absurd (fine cut.1)

pub done_or_short : {A : Type 0} (came : Result (String A) EarlyEnd) (sink : SinkUse) (answer : Status) → (SinkFailed sink → ⊥) → IfErr came IsMemory → IfOk came (λ text. IsWritten status.Done (string_bytes text) sink answer) → IfErr came (λ stop. IsStopWritten stop sink answer) → IsDoneOrShort answer
done_or_short (Ok text) sink answer fine short written stopped = written_done (string_bytes text) sink answer fine written
done_or_short (Err Memory) sink answer fine short written stopped = inr stopped.0
done_or_short (Err (Told s line)) sink answer fine short written stopped = absurd short

-- an end of one meaning is one of a weaker meaning
pub Ends-weaker : (P Q : Status → List ℕ → Type 0) (sink : SinkUse) (s : Status) → ((t : Status) (text : List ℕ) → P t text → Q t text) → Ends P sink s → Ends Q sink s
Ends-weaker P Q sink s weaker ends = record {
  whole = λ has. let took = ends.whole has in (took.0, weaker s took.0 took.1, took.2);
  cut = λ is. let part = ends.cut is in record {
    rose = part.rose;
    replaced = part.replaced;
    has_text = part.has_text;
    text = part.text;
    comes = weaker part.replaced part.text part.comes;
    front = part.front;
  };
  memory = λ is. let short = ends.memory is in (weaker status.Memory [] short.0, short.1);
}

-- what is called for is answered, where no text of another status comes
pub answered_by_ends : (Comes : Status → List ℕ → Type 0) (Calls : Status → Type 0) (shelf : ShelfUse) (sink : SinkUse) (s : Status) → ((t called : Status) (text : List ℕ) → HasText t → Comes t text → Calls called → AnswersCall called t ⊎ TakesThePlace shelf sink t) → Ends Comes sink s → IsAnswered Calls shelf sink s
answered_by_ends Comes Calls shelf sink s agree ends called calls = by s ends
  where
    whole : (t : Status) → Ends Comes sink t → HasText t → AnswersCall called t ⊎ TakesThePlace shelf sink t
    whole t came has = let took = came.whole has in agree t called took.0 has took.1 calls

    by : (t : Status) → Ends Comes sink t → AnswersCall called t ⊎ TakesThePlace shelf sink t
    by status.Memory came = inr tt
    by status.WriteFault came = inr (came.cut refl).rose
    by status.Done came = whole status.Done came tt
    by status.Words came = whole status.Words came tt
    by status.Topology came = whole status.Topology came tt
    by status.Input came = whole status.Input came tt
    by status.ReadFault came = whole status.ReadFault came tt
    by status.Exhausted came = whole status.Exhausted came tt
    by status.Unfinished came = whole status.Unfinished came tt
    by status.Schedule came = whole status.Schedule came tt
    by status.StoreFault came = whole status.StoreFault came tt
    by status.BadCell came = whole status.BadCell came tt
    by status.KeepFault came = whole status.KeepFault came tt
    by status.Kept came = whole status.Kept came tt

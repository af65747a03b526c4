-- Ticks that pass, and attempts that were added before memory was wanted.
use Rattle.std.proofs.Common.{◌≡◌, ℕ, suc, Bool, false, cond, List, ◌++◌, sym, ap, ap₂, ◌∙◌}
use Rattle.std.specs.Prelude.{OnErr, Result, Ok, Err}
use Rattle.std.proofs.lemmas.List.{append_assoc}
use Rattle.attempt_fates.specs.declared.fates.Attempt.{Attempt}
use Rattle.commit_order.specs.Offices.{AddsSome, GoesOn, Office, Passes}
use Rattle.commit_turns.specs.Desks.{Desk, Progress, still}
use Rattle.commit_turns.specs.Turns.{and_then, has_no_tick, one_tick, ticked}

-- more attempts would have followed
pub adds_front : (ended more told tells : List Attempt) → AddsSome ended told tells → AddsSome (ended ++ more) told tells
adds_front ended more told tells s = record {
  done = s.done;
  rest = s.rest ++ more;
  are_first = ap (λ xs. xs ++ more) s.are_first ∙ append_assoc s.done s.rest more;
  added = s.added;
}

-- others came before
pub adds_back : (first ended told tells : List Attempt) → AddsSome ended (told ++ first) tells → AddsSome (first ++ ended) told tells
adds_back first ended told tells s = record {
  done = first ++ s.done;
  rest = s.rest;
  are_first = ap (λ xs. first ++ xs) s.are_first ∙ sym (append_assoc first s.done s.rest);
  added = s.added ∙ append_assoc told first s.done;
}

pub on_err_of : {X E P Q : Type 0} (r : Result X E) → (P → Q) → OnErr r P → OnErr r Q
on_err_of (Ok x) f p = tt
on_err_of (Err e) f p = f p

-- a tick that wanted memory
pub short_tick : (ticks left : ℕ) (old : Office) (d : Desk) (told fates tells ended : List Attempt)
    → fates ≡ told ++ ended
    → ticked old.topology old.cut ticks old.desk
    ≡ and_then old.topology old.cut (record { desk = d; ended = ended }) (ticked old.topology old.cut (suc left) d)
    → has_no_tick old.topology old.cut d ≡ false
    → AddsSome (one_tick old.topology old.cut d).ended fates tells
    → AddsSome (ticked old.topology old.cut ticks old.desk).ended told tells
short_tick ticks left old d told fates tells ended is all goes some =
    let later = (ticked old.topology old.cut left (one_tick old.topology old.cut d).desk).ended in
    let next : (ticked old.topology old.cut (suc left) d).ended ≡ (one_tick old.topology old.cut d).ended ++ later =
    ap (λ (b : Bool). (cond b (still d) (and_then old.topology old.cut (one_tick old.topology old.cut d) (ticked old.topology old.cut left (one_tick old.topology old.cut d).desk))).ended) goes in
    let whole = ap (λ (p : Progress). p.ended) all ∙ ap (λ xs. ended ++ xs) next in
    rw whole
    (adds_back ended ((one_tick old.topology old.cut d).ended ++ later) told tells
    (adds_front (one_tick old.topology old.cut d).ended later (told ++ ended) tells (rw is at some)))

-- one more tick passed
pub passes_more : (ticks left : ℕ) (old at new : Office) (told fates tells : List Attempt) → Passes ticks (suc left) old at told fates → has_no_tick at.topology at.cut at.desk ≡ false
    → GoesOn (one_tick at.topology at.cut at.desk) at new fates tells → Passes ticks left old new told tells
passes_more ticks left old at new told fates tells so goes to =
    let topology = ap (λ (o : Office). o.topology) so.office in
    let cut = ap (λ (o : Office). o.cut) so.office in
    let p : Progress = one_tick old.topology old.cut at.desk in
    let same : one_tick at.topology at.cut at.desk ≡ p = (λ i. one_tick (topology i) (cut i) at.desk) in
    let desk : new.desk ≡ p.desk = ap (λ (o : Office). o.desk) to.office ∙ ap (λ (q : Progress). q.desk) same in
    let next : ticked old.topology old.cut (suc left) at.desk ≡ and_then old.topology old.cut p (ticked old.topology old.cut left p.desk) =
    ap (λ (b : Bool). cond b (still at.desk) (and_then old.topology old.cut p (ticked old.topology old.cut left p.desk))) goes in
    record {
      ended = so.ended ++ p.ended;
      office = to.office ∙ (λ i. record { topology = topology i; cut = cut i; desk = (ap (λ (q : Progress). q.desk) same ∙ sym desk) i });
      fates = to.fates ∙ ap₂ (λ xs (q : Progress). xs ++ q.ended) so.fates same ∙ append_assoc told so.ended p.ended;
      all =
          so.all ∙ ap (λ (q : Progress). and_then old.topology old.cut (record { desk = at.desk; ended = so.ended }) q) next
          ∙ ap (λ xs. record { desk = (ticked old.topology old.cut left p.desk).desk; ended = xs }) (sym (append_assoc so.ended p.ended (ticked old.topology old.cut left p.desk).ended))
          ∙ ap (λ d. record { desk = (ticked old.topology old.cut left d).desk; ended = (so.ended ++ p.ended) ++ (ticked old.topology old.cut left d).ended }) (sym desk);
    }

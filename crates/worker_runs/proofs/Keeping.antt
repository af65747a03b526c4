-- What stays as it was, or is so still, from one piece of a run to the next.
use Rattle.std.proofs.Common.{◌≡◌, ◌-◌, ◌^◌, ℕ, List, [], ◌∷◌, length, min, sym, ap, subst, ◌∙◌}
use Rattle.std.specs.List.{AllZip}
use Rattle.event_worlds.specs.attempt_fates.Fates.{IsOnce}
use Rattle.event_worlds.specs.attempt_fates.declared.fates.Attempt.{Attempt}
use Rattle.worker_stretches.specs.box_rows.declared.mail.Mail.{Mail}
use Rattle.worker_stretches.specs.box_rows.FitRows.{IsFitRow}
use Rattle.event_worlds.specs.commit_order.Orders.{desk_of}
use Rattle.event_worlds.specs.commit_turns.Turns.{last_tick}
use Rattle.worker_stretches.proofs.event_engine.FatesLemmas.{kept_once}
use Rattle.worker_stretches.specs.event_engine.declared.engine.Engine.{Engine}
use Rattle.worker_stretches.specs.event_engine.Engines.{IsReady, IsStill, cut_in, shape}
use Rattle.pulse_board.specs.declared.seat.Board.{Board}
use Rattle.pulse_board.specs.declared.seat.BoardSeat.{BoardSeat}
use Rattle.pulse_board.specs.Seats.{book_of}
use Rattle.worker_rounds.specs.schedule_core.Driving.{AreKept, StillTells}
use Rattle.event_worlds.specs.state_parts.declared.parts.StatePart.{StatePart}
use Rattle.event_worlds.specs.storm_ids.declared.ids.Ids.{Ghosts}
use Rattle.storm_stores.specs.CellMaps.{CellMap}
use Rattle.task_queues.specs.declared.pass.Mailbox.{Mailbox}
use Rattle.task_queues.specs.declared.pass.Pass.{Pass}
use Rattle.event_worlds.specs.topology_plan.Topology.{Topology}
use Rattle.event_worlds.specs.taken_records.Cuts.{Cut}
use Rattle.worker_rounds.specs.Running.{IsGathered}
use Rattle.worker_stretches.specs.Parts.{IsWholeSeat}
use Rattle.worker_stretches.specs.Standing.{IsInTime}
use Rattle.worker_rounds.proofs.worker_turns.Stands.{ended-same}
use Rattle.worker_rounds.specs.worker_turns.Carrying.{AreEmpty, EngineCarries, HaveRoom, IsSwept, nothing_left}

-- ---- parts

module _ {S : Type 0} (tells : S → CellMap → Type 0) where
  told-then : (a b c : List (StatePart S)) → AllZip (StillTells tells) a b → AllZip (StillTells tells) b c → AllZip (StillTells tells) a c
  told-then [] [] c first second = second
  told-then [] (y ∷ ys) c first second = absurd first
  told-then (x ∷ xs) [] c first second = absurd first
  told-then (x ∷ xs) (y ∷ ys) [] first second = absurd second
  told-then (x ∷ xs) (y ∷ ys) (z ∷ zs) first second = (λ cells told. let mid = first.0 cells told in second.0 mid.0 mid.1, told-then xs ys zs first.1 second.1)

  pub kept-then : (a b c : List (StatePart S)) → AreKept tells a b → AreKept tells b c → AreKept tells a c
  kept-then a b c first second = record { plans = second.plans ∙ first.plans; told = told-then a b c first.told second.told }

-- ---- engines

module _ {I : Type 0} {g : Ghosts I} (t : Topology) where
  -- an engine is ready for its own input, and for that of one before it
  pub ready-own : (cut : Cut) (e : Engine I g) → IsReady t cut e → IsReady t (cut_in e) e
  ready-own cut e ready = subst (λ (k : Cut). IsReady t k e) (sym ready.seated.of_cut) ready

  pub ready-back : (cut : Cut) (mid e : Engine I g) → IsReady t cut mid → IsReady t (cut_in mid) e → IsReady t cut e
  ready-back cut mid e ready own = subst (λ (k : Cut). IsReady t k e) ready.seated.of_cut own

  -- each batch was committed once at most
  pub ready-once : (cut : Cut) (e new : Engine I g) → IsReady t cut e → IsStill e new → IsOnce cut last_tick new.fates
  ready-once cut e new ready still =
      subst (λ (fs : List Attempt). IsOnce cut last_tick fs) (sym still.fates) (kept_once t cut (desk_of e.coordinator) e.fates ready.kept ready.ticks)

  -- so it was by a round that met a fault
  pub once-back : (cut : Cut) (mid new : Engine I g) → IsReady t cut mid → IsOnce (cut_in mid) last_tick new.fates → IsOnce cut last_tick new.fates
  once-back cut mid new ready once = subst (λ (k : Cut). IsOnce k last_tick new.fates) ready.seated.of_cut once

  module _ (boxes : List (Mailbox Mail)) (board : Board) where
    -- nobody works at an engine's own input, or at that of one before it
    pub gathered-own : (cut : Cut) (e : Engine I g) (row : List (Pass Mail)) (seat : BoardSeat) → IsGathered t cut boxes board e row seat → IsGathered t (cut_in e) boxes board e row seat
    gathered-own cut e row seat gathered = subst (λ (k : Cut). IsGathered t k boxes board e row seat) (sym gathered.ready.seated.of_cut) gathered

    pub gathered-back : (cut : Cut) (mid e : Engine I g) (row : List (Pass Mail)) (seat : BoardSeat) → IsReady t cut mid → IsGathered t (cut_in mid) boxes board e row seat → IsGathered t cut boxes board e row seat
    gathered-back cut mid e row seat ready own = subst (λ (k : Cut). IsGathered t k boxes board e row seat) ready.seated.of_cut own

    module _ (cut : Cut) (old mid new : Engine I g) (row mid_row now_row : List (Pass Mail)) (seat now_seat : BoardSeat) (gathered : IsGathered t cut boxes board old row seat) (in_time : IsInTime mid.tick (book_of now_seat)) (carries : EngineCarries mid new mid_row now_row nothing_left nothing_left) where
      -- nobody works after a stretch and what was swept after it
      pub gathered-again : IsStill old mid → IsReady t cut new → IsSwept (shape new) → IsFitRow t boxes now_row → AreEmpty now_row → HaveRoom now_row → IsWholeSeat board now_seat → IsGathered t cut boxes board new now_row now_seat
      gathered-again still ready swept fit empty room whole = record {
        ready = ready;
        idle = λ on.
            let same = carries.still.coordinator ∙ still.coordinator in ap (λ c. (desk_of c).out) same ∙ gathered.idle (sym (ended-same old new same) ∙ on);
        swept = swept;
        fit = fit;
        empty = empty;
        room = room;
        whole = whole;
        in_time = carries.carries.arranged.tick ∙ in_time;
      }

      -- and no tick came
      pub same-tick : (book_of now_seat).drawn ≡ (book_of seat).drawn → new.tick ≡ old.tick
      same-tick drew = carries.carries.arranged.tick ∙ in_time ∙ ap (λ (xs : List ℕ). min (length xs) (2 ^ 64 - 1)) drew ∙ sym gathered.in_time

  pub still-then : (a b c : Engine I g) → IsStill a b → IsStill b c → IsStill a c
  still-then a b c first second = record { coordinator = second.coordinator ∙ first.coordinator; fates = second.fates ∙ first.fates }

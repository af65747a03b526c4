-- Rows of passes whose boxes are empty, and whose boxes have room.
use Rattle.std.proofs.Common.{◌≡◌, ◌≤◌, ℕ, zero, suc, ◌+◌, List, [], ◌∷◌, length, map, Some, slice_get, sym, refl, ap, subst, ◌∙◌, arith}
use Rattle.std.specs.List.{AllByRecursion, range_with_len}
use Rattle.worker_stretches.specs.box_rows.declared.mail.Mail.{Mail}
use Rattle.worker_stretches.specs.box_rows.FirstRow.{box_capacity, first_views}
use Rattle.worker_stretches.specs.box_rows.FitRows.{held_in}
use Rattle.worker_stretches.specs.box_rows.Mails.{weigh_mail}
use Rattle.worker_stretches.specs.box_rows.Rows.{ArePasses, IsEmpty, sent_in, taken_in, weigh_sent, weigh_taken}
use Rattle.event_worlds.proofs.counted_items.Weighing.{weigh-map}
use Rattle.event_worlds.specs.counted_items.Weights.{weigh}
use Rattle.task_queues.specs.Books.{first_view}
use Rattle.task_queues.specs.declared.pass.Mailbox.{Mailbox}
use Rattle.task_queues.specs.declared.pass.Pass.{Pass}
use Rattle.task_queues.specs.declared.rule.Stamped.{Stamped}
use Rattle.task_queues.specs.declared.rule.View.{View}
use Rattle.task_queues.specs.Passes.{view_of}
use Rattle.event_worlds.specs.topology_plan.Topology.{Topology}
use Rattle.event_worlds.specs.tuple_account.Histories.{Packet}
use Rattle.worker_rounds.specs.worker_turns.Carrying.{AreEmpty, HaveRoom}

-- ---- what boxes hold

-- where all is taken that was sent, as much was taken as was sent
same-weight : (f : Packet → ℕ) (row : List (Pass Mail)) → AreEmpty row → sent_in row f ≡ taken_in row f
same-weight f [] empty = refl
same-weight f (p ∷ row) empty =
    let here : weigh_sent f (view_of p) ≡ weigh_taken f (view_of p) = empty.0 (λ (s : Stamped Mail). weigh_mail f s.item) in
    let rest = same-weight f row empty.1 in omega arith

-- empty boxes hold nothing
pub none-held : (row : List (Pass Mail)) → AreEmpty row → (f : Packet → ℕ) → held_in row f ≡ 0
none-held row empty f = let e = same-weight f row empty in omega arith

-- ---- first rows

-- in the boxes that were made nothing was sent and nothing taken
first-each : (t : Topology) (a n : ℕ) → AllByRecursion (λ (v : View Mail). IsEmpty v) (map (λ (k : ℕ). first_view t k box_capacity) (range_with_len a n))
first-each t a zero = tt
first-each t a (suc n) = (λ f. refl, first-each t (a + 1) n)

first-room : (t : Topology) (a n : ℕ) → AllByRecursion (λ (v : View Mail). 1 ≤ v.capacity) (map (λ (k : ℕ). first_view t k box_capacity) (range_with_len a n))
first-room t a zero = tt
first-room t a (suc n) = (omega arith, first-room t (a + 1) n)

first-taken : (t : Topology) (f : Packet → ℕ) (a n : ℕ) → weigh (weigh_taken f) (map (λ (k : ℕ). first_view t k box_capacity) (range_with_len a n)) ≡ 0
first-taken t f a zero = refl
first-taken t f a (suc n) = let rest = first-taken t f (a + 1) n in omega arith

module _ (t : Topology) (row : List (Pass Mail)) (first : map view_of row ≡ first_views t) where
  pub first-empty : AreEmpty row
  first-empty = subst (AllByRecursion (λ (v : View Mail). IsEmpty v)) (sym first) (first-each t 0 _)

  pub first-rooms : HaveRoom row
  first-rooms = subst (AllByRecursion (λ (v : View Mail). 1 ≤ v.capacity)) (sym first) (first-room t 0 _)

  pub none-taken : (f : Packet → ℕ) → taken_in row f ≡ 0
  none-taken f = sym (weigh-map (weigh_taken f) view_of row) ∙ ap (weigh (weigh_taken f)) first ∙ first-taken t f 0 _

-- ---- room

-- boxes have the room that they had
pub keeps-room : (t : Topology) (boxes : List (Mailbox Mail)) (old new : List (Pass Mail)) → ArePasses t boxes old → ArePasses t boxes new → HaveRoom old → HaveRoom new
keeps-room t boxes old new before after room =
    by boxes old new before.many after.many (λ k box p q there here now. (after.each k box q there now).pass.capacity ∙ sym (before.each k box p there here).pass.capacity) room
  where
    by : (boxes : List (Mailbox Mail)) (old new : List (Pass Mail)) → length old ≡ length boxes → length new ≡ length boxes
        → ((k : ℕ) (box : Mailbox Mail) (p q : Pass Mail) → slice_get boxes k ≡ Some box → slice_get old k ≡ Some p → slice_get new k ≡ Some q → (view_of q).capacity ≡ (view_of p).capacity)
        → HaveRoom old → HaveRoom new
    by boxes old [] one two same room = tt
    by [] old (q ∷ new) one two same room = absurd (omega arith)
    by (box ∷ boxes) [] (q ∷ new) one two same room = absurd (omega arith)
    by (box ∷ boxes) (p ∷ old) (q ∷ new) one two same room = (
      let c = same 0 box p q refl refl refl in let r = room.0 in omega arith,
      by boxes old new (omega arith) (omega arith) (λ k b p q there here now. same (suc k) b p q there here now) room.1,
    )

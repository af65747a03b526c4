-- What steps say that they did, and of what held them up. This project's own.
use Rattle.std.specs.Prelude.{◌≡◌, ◌≤◌, ℕ, ◌+◌, Bool, false, List, slice_get, Some}
use Rattle.std.specs.List.{AllByRecursion}
use Rattle.box_rows.specs.declared.mail.Mail.{Mail}
use Rattle.box_rows.specs.Rows.{IsSameRow, sent_in, taken_in}
use Rattle.event_worlds.specs.counted_items.Weights.{weigh}
use Rattle.pulse_board.specs.Rule.{bit}
use Rattle.task_queues.specs.declared.pass.Pass.{Pass}
use Rattle.event_worlds.specs.tuple_account.Histories.{Packet}

-- the weight of each packet
abbrev pub each_one : Packet → ℕ
each_one p = 1

-- At least so many packets were handed over, taken from boxes, and executed or met, all in all,
-- where so many that had been taken were left to execute or meet.
pub record HasDone (n left : ℕ) (was : List (Pass Mail)) (left_now : ℕ) (is : List (Pass Mail))
    : Type 0 where
  pub least : n
      + (sent_in was each_one + (taken_in was each_one + taken_in was each_one) + left_now)
      ≤ sent_in is each_one + (taken_in is each_one + taken_in is each_one) + left

-- Of things that take turns, of which so much is left at each: the one at a place went on, and the
-- others stayed.
pub record MoreAt {X : Type 0} (left : X → ℕ) (n : ℕ) (old new : List X)
    (was is : List (Pass Mail)) : Type 0 where
  pub done : HasDone 0 (weigh left old) was (weigh left new) is
  pub others : (m : ℕ) → (m ≡ n → ⊥) → slice_get new m ≡ slice_get old m

-- And where one can be held up:
module _ {X : Type 0} (left : X → ℕ) (IsHeld : X → List (Pass Mail) → Type 0) where
  -- one did something, or is held up
  pub record Says (did : Bool) (old new : X) (was is : List (Pass Mail)) : Type 0 where
    pub done : HasDone (bit did) (left old) was (left new) is
    pub held : did ≡ false → IsSameRow was is × IsHeld new is

  -- the one at a place did something, or is held up, and the others stayed
  pub record SaysAt (n : ℕ) (did : Bool) (old new : List X) (was is : List (Pass Mail))
      : Type 0 where
    pub done : HasDone (bit did) (weigh left old) was (weigh left new) is
    pub others : (m : ℕ) → (m ≡ n → ⊥) → slice_get new m ≡ slice_get old m
    pub held : did ≡ false
        → IsSameRow was is × ((x : X) → slice_get new n ≡ Some x → IsHeld x is)

  -- one of them did, or all are held up
  pub record AllSay (did : Bool) (old new : List X) (was is : List (Pass Mail)) : Type 0 where
    pub done : HasDone (bit did) (weigh left old) was (weigh left new) is
    pub held : did ≡ false → IsSameRow was is × AllByRecursion (λ x. IsHeld x is) new

-- Calls at a ledger that are still to be made. This project's own.
use Rattle.std.specs.Prelude.{◌≡◌, ◌<◌, ◌++◌, ◌∷◌, ℕ, List, map}
use Rattle.pass_numbers.specs.Numbers.{Numbered}
use Rattle.shared_ledger.specs.declared.rule.Book.{Book}
use Rattle.shared_ledger.specs.declared.rule.Call.{Call}
use Rattle.shared_ledger.specs.Books.{ack_of, fail_of, numbers_in}
use Rattle.track_window.specs.declared.job.Act.{Act}
use Rattle.track_window.specs.declared.job.Act.TheVariants as act

abbrev pub call_of_act : Act → Call
call_of_act (act.Ack root word) = ack_of root word
call_of_act (act.Fail root) = fail_of root

-- the call is on one of so many roots
abbrev pub IsActBelow : ℕ → Act → Type 0
IsActBelow roots act = (call_of_act act).root < roots

-- a book after these calls, in their order; seats that had all numbers have them still
pub record Acted (acts : List Act) (old new : Book) : Type 0 where
  pub calls : new.calls ≡ old.calls ++ map call_of_act acts
  pub numbered : (others : List Book) → Numbered numbers_in (old ∷ others)
      → Numbered numbers_in (new ∷ others)

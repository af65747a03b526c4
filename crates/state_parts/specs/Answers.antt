-- What is noted of a part's answer.
use Rattle.std.specs.Prelude.{◌≡◌, ◌||◌, ℕ, true, List, Some, Result, Ok, Err}
use Rattle.std.specs.Option.{option_or}
use Rattle.storm_stores.specs.CellMaps.{CellMap}
use Rattle.tree_model.specs.bolt_ops.RowOp.{Custom}
use Rattle.tree_model.specs.storm_values.declared.value.Root.{Root}
use Rattle.tree_model.specs.declared.write.Write.{Write}
use Rattle.state_cells.specs.declared.fault.PartFault.{PartFault}
use Rattle.state_cells.specs.declared.fault.PartFault.TheVariants as fault
use Rattle.state_parts.specs.declared.answer.CommitOutcome.{CommitOutcome}
use Rattle.state_parts.specs.declared.answer.CommitOutcome.TheVariants.{Failed}
use Rattle.state_parts.specs.declared.answer.Tally.{Tally}
use Rattle.state_parts.specs.declared.parts.StatePart.{StatePart}
use Rattle.state_parts.specs.Commits.{IsTrial}

-- one more answer, with the part's failure in case its store failed
abbrev pub noted : Tally → Result (Unit {0}) PartFault → CommitOutcome → Tally
noted tally (Ok done) failure = tally
noted tally (Err fault.Store) failure =
    record tally { failed = option_or tally.failed (Some failure) }
noted tally (Err (fault.BadCell key)) failure =
    record tally { bad = option_or tally.bad (Some key) }
noted tally (Err fault.Memory) failure = record tally { no_memory = true }

-- what parts answered, and then what those behind them did: the first of each kind
abbrev pub joined : Tally → Tally → Tally
joined first later = record {
  no_memory = first.no_memory || later.no_memory;
  bad = option_or first.bad later.bad;
  failed = option_or first.failed later.failed;
}

-- a part was tried, and what it answered is noted
pub record Tries {S : Type 0} (tells : S → CellMap → Type 0) (custom : Custom) (count : S → ℕ) (root : Root)
    (own : List Write) (old new : StatePart S) (before after : Tally) : Type 0 where
  pub answer : Result (Unit {0}) PartFault
  pub trial : IsTrial tells custom count root own (record { old = old; new = new; answer = answer })
  pub notes : after ≡ noted before answer
      (Failed old.component old.part (count old.over.store) (count new.over.store))

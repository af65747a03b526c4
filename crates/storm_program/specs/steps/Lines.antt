-- The line that is written of a load.
use Rattle.std.specs.Prelude.{◌≡◌, ℕ, List}
use Rattle.storm_program.specs.Load.{line_of}
use Rattle.storm_resume.specs.stored_runs.declared.ending.RunEnd.{RunEnd}
use Rattle.storm_resume.specs.stored_runs.declared.ending.RunEnd.TheVariants as end

-- the text is the line of a load that ended so
abbrev pub IsLineOfEnd : ℕ → ℕ → RunEnd → List ℕ → Type 0
IsLineOfEnd records batches (end.All tables) text = text ≡ line_of records batches tables
IsLineOfEnd records batches _ text = ⊥

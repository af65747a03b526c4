use Rattle.topology_reader.proofs.Ranks.{reaches_by_path}
use Rattle.topology_reader.proofs.CyclePaths.{no_cycle_by_paths, first_cycle}
use Rattle.topology_reader.proofs.laws.cycles_are_paths.Goals as goal

pub returns : goal.returns
returns c = record { reached = reaches_by_path; none = no_cycle_by_paths; first = first_cycle }

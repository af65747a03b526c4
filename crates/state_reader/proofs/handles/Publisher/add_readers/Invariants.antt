use Rattle.std.proofs.Common.{◌≡◌, [], length, replicate, All}
use Rattle.state_reader.specs.Publishers.{answering_folds, lists_of, IsLive}
use Rattle.state_reader.specs.Readers.{left_in, IsNewReader}
use Rattle.state_reader.proofs.handles.Publisher.add_readers.Given as goal

abbrev pub invariant-loop : goal.invariant-loop
invariant-loop g l =
    (lists_of l.self ≡ replicate l.counter [])
    × (IsLive l.fn.self → IsLive l.self)
    × (answering_folds l.self ≡ answering_folds l.fn.self)
    × (length (left_in l.made) ≡ l.counter)
    × All (IsNewReader l.plan) (left_in l.made)

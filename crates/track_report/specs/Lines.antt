-- The lines of a tracking. This project's own.
use Rattle.std.specs.Prelude.{ℕ, suc, nat_lt, Bool, true, false, if◌then◌else◌, List, [], ◌∷◌, ◌++◌, length, filter, codes, decimal}
use Rattle.std.specs.List.{flat_map}
use Rattle.state_tallies.specs.declared.tallies.KeyCount.{KeyCount}
use Rattle.tree_model.specs.topology_plan.declared.parts.Component.{Component}
use Rattle.tree_model.specs.topology_plan.Topology.{Topology}
use Rattle.track_report.specs.declared.ending.RecordEnd.{RecordEnd}

-- how the last attempt at a record ended
abbrev pub end_text : Bool → List ℕ
end_text true = codes " acked\n"
end_text false = codes " gave up\n"

-- record N attempts K, and how the last of these ended
unfoldable pub record_line : ℕ → RecordEnd → List ℕ
record_line number end =
    codes "record " ++ decimal number ++ codes " attempts " ++ decimal end.attempts
    ++ end_text end.acked

-- the lines of records in a row, the first of which has this number
abbrev pub record_lines : ℕ → List RecordEnd → List ℕ
record_lines number [] = []
record_lines number (end ∷ ends) = record_line number end ++ record_lines (suc number) ends

-- tally STATE KEY COUNT, for a count of at least 1
abbrev pub tally_line : List ℕ → KeyCount → List ℕ
tally_line state counted =
    if nat_lt 0 counted.count then
    codes "tally " ++ state ++ codes " " ++ counted.key ++ codes " " ++ decimal counted.count
    ++ codes "\n" else []

-- the lines of a state
abbrev pub state_lines : List ℕ → List KeyCount → List ℕ
state_lines state counts = flat_map (tally_line state) counts

-- the lines of components, each with the counts of its keys
abbrev pub tally_lines : List Component → List (List KeyCount) → List ℕ
tally_lines [] tallies = []
tally_lines (c ∷ components) [] = []
tally_lines (c ∷ components) (counts ∷ tallies) =
    state_lines c.name counts ++ tally_lines components tallies

-- how many records were acked
abbrev pub acked_in : List RecordEnd → ℕ
acked_in ends = length (filter (λ (end : RecordEnd). end.acked) ends)

-- tracked N records A acked
abbrev pub tail_line : ℕ → ℕ → List ℕ
tail_line records acked =
    codes "tracked " ++ decimal records ++ codes " records " ++ decimal acked ++ codes " acked\n"

-- the text of a tracking, by the ends of its records and the counts of each component's keys
abbrev pub track_text : Topology → List RecordEnd → List (List KeyCount) → List ℕ
track_text t ends tallies =
    record_lines 1 ends ++ tally_lines t.components tallies
    ++ tail_line (length ends) (acked_in ends)

-- What is printed of a fault of a file. This project's own.
use Rattle.std.specs.Prelude.{ℕ, List, ◌++◌, codes, decimal}
use Rattle.std.specs.Fmt.{signed_decimal}
use Rattle.topology_form.specs.Prelude.{string, most_topology_bytes, most_weight, TopoFault}
use Rattle.serde_json.specs.Written.{compact_text}
use Rattle.topology_form.specs.declared.fault.TopoFault.TheVariants as file

-- a text from a file, as a compact JSON string
abbrev pub shown : List ℕ → List ℕ
shown text = compact_text (string text)

-- the words that tell a fault
abbrev pub fault_text : TopoFault → List ℕ
fault_text (file.TooLong found) =
    codes "longer than " ++ decimal most_topology_bytes ++ codes " bytes"
fault_text file.NotJson = codes "no JSON"
fault_text (file.Missing member) = codes "missing " ++ shown member
fault_text (file.WrongKind member) = codes "wrong kind " ++ shown member
fault_text (file.UnknownName text) = codes "unknown " ++ shown text
fault_text (file.OutOfRange member found least most) =
    shown member ++ codes " is " ++ signed_decimal found ++ codes ", not from " ++ decimal least
    ++ codes " to " ++ decimal most
fault_text (file.Twice text) = shown text ++ codes " twice"
fault_text (file.NoSource name) = codes "no source " ++ shown name
fault_text (file.Cycle bolt) = codes "cycle at " ++ shown bolt
fault_text (file.FieldsDiffer component) = codes "fields differ at " ++ shown component
fault_text (file.NoField component field) =
    codes "no field " ++ shown field ++ codes " at " ++ shown component
fault_text (file.NotExactlyOnce state) = codes "not exactly once " ++ shown state
fault_text (file.Weight found) =
    codes "weight " ++ decimal found ++ codes ", most " ++ decimal most_weight
fault_text file.Memory = codes "out of memory"

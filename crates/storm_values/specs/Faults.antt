-- What is printed of a fault.
use Rattle.std.specs.Prelude.{ℕ, List, ◌++◌, codes, decimal}
use Rattle.storm_values.specs.Limits.{most_line_bytes, most_input_bytes, most_lines}
use Rattle.storm_values.specs.declared.lines.LineFault.{LineFault}
use Rattle.storm_values.specs.declared.lines.LineFault.TheVariants as line
use Rattle.storm_values.specs.declared.lines.InputFault.{InputFault}
use Rattle.storm_values.specs.declared.lines.InputFault.TheVariants as input

abbrev pub line_fault_text : LineFault → List ℕ
line_fault_text line.TooLong = codes "longer than " ++ decimal most_line_bytes ++ codes " bytes"
line_fault_text line.NotJson = codes "no JSON"
line_fault_text line.NotArray = codes "no array"
line_fault_text (line.BadItem i) =
    codes "item " ++ decimal i ++ codes " is no text and no whole number"
line_fault_text (line.WrongCount found) = decimal found ++ codes " items"
line_fault_text line.Memory = codes "out of memory"

abbrev pub input_fault_text : InputFault → List ℕ
input_fault_text input.TooBig = codes "longer than " ++ decimal most_input_bytes ++ codes " bytes"
input_fault_text (input.Line number fault) =
    codes "line " ++ decimal number ++ codes ": " ++ line_fault_text fault
input_fault_text input.TooMany = codes "more than " ++ decimal most_lines ++ codes " lines"
input_fault_text input.Memory = codes "out of memory"

use Rattle.std.proofs.Common.{◌≡◌, ◌++◌, ◌<◌, length, string_bytes, refl, rules}
use Rattle.std.proofs.lemmas.Option.{slice_get_read}
use Rattle.track_report.specs.Lines.{state_lines}
use Rattle.track_report.proofs.Lines.{lines_more}
use Rattle.track_report.proofs.text.push_tallies.Goals as goal

pub loop-number-preserved : goal.loop-number-preserved
loop-number-preserved c =
    let number = c.loop-number.number in
    let inside : number < length c.args.tallies.now = search rules in
    let counts = slice_get_read c.args.tallies.now _ number c.index-tallies-number.result refl inside c.index-tallies-number.is in
    let added : string_bytes c.push_state.new.text ≡ string_bytes c.loop-number.text ++ state_lines c.component.result.now.name c.index-tallies-number.result =
    rw (c.as_str-state.ensures, c.as_slice.ensures) at c.in_ok-push_state.ensures in
    lines_more c.args.plan.now.components c.args.tallies.now number c.component.result.now c.index-tallies-number.result _ _ _ c.component.ensures.value counts c.loop-number.invariant added

use Rattle.std.proofs.Common.{◌≡◌, ◌≤◌, length, take}
use Rattle.std.proofs.lemmas.List.{take_all}
use Rattle.json.specs.Print.{escape}
use Rattle.storm_values.proofs.KeyLemmas.{text_of-plain}
use Rattle.storm_values.proofs.keys.plain.Goals as goal

-- no byte was escaped
pub returns : goal.returns
returns c =
    let text = c.args.text.now in
    let all : length text ≤ c.loop-byte.byte-index = rw c.as_bytes-byte-items.ensures at c.loop-byte-test.false in
    let whole : take c.loop-byte.byte-index text ≡ text = take_all _ text all in
    let plain : escape text ≡ text = rw whole at c.loop-byte.invariant in
    text_of-plain text plain

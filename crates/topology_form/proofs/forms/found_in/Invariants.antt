use Rattle.std.proofs.Common.{◌≡◌, drop}
use Rattle.topology_form.specs.Reading.{found_in, pairs_of}
use Rattle.topology_form.proofs.forms.found_in.Given as goal

abbrev pub invariant-loop-other : goal.invariant-loop-other
invariant-loop-other g l = found_in (pairs_of (drop l.other-index l.words)) l.fn.word ≡ found_in (pairs_of l.words) l.fn.word

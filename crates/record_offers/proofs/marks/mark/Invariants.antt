use Rattle.std.proofs.Common.{◌≡◌, ◌+◌, take}
use Rattle.std.specs.List.{count_by}
use Rattle.record_spans.specs.Spans.{stands_in}
use Rattle.record_offers.specs.Marks.{is_mark}
use Rattle.record_offers.specs.Offers.{AreMarked}
use Rattle.record_offers.proofs.marks.mark.Given as goal

abbrev pub invariant-loop-span : goal.invariant-loop-span
invariant-loop-span l = record {
  marks : AreMarked (stands_in (take l.span-index l.spans)) l.to l.fn.gone l.gone;
  more : count_by (is_mark l.to) l.gone ≡ count_by (is_mark l.to) l.fn.gone + l.changed;
}

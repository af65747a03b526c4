use Rattle.std.proofs.Common.{◌≡◌, ◌+◌, ◌&&◌}
use Rattle.std.specs.Prelude.{nat_le}
use Rattle.std.specs.List.{count_by}
use Rattle.record_offers.specs.Marks.{is_mark}
use Rattle.record_offers.specs.Offers.{AreMarked}
use Rattle.record_offers.proofs.marks.mark_span.Given as goal

abbrev pub invariant-loop-at : goal.invariant-loop-at
invariant-loop-at l = record {
  marks : AreMarked (λ n. nat_le l.span.first n && nat_le n l.at) l.to l.fn.gone l.gone;
  more : count_by (is_mark l.to) l.gone ≡ count_by (is_mark l.to) l.fn.gone + l.changed;
}

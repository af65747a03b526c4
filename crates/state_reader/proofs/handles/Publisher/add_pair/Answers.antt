use Rattle.std.proofs.Common.{◌≡◌, ◌∙◌, sym, subst}
use Rattle.std.specs.Result.{is_ok}
use Rattle.state_reader.specs.Lists.{shown_by}
use Rattle.state_reader.specs.Prefix.{StartsWith}
use Rattle.state_reader.proofs.Several.{all-pushed, starts_same}
use Rattle.state_reader.proofs.handles.Publisher.add_pair.Goals as goal

pub invariant_of-self : goal.invariant_of-self
invariant_of-self g c =
    let old = c.args.self.now in
    let first = shown_by old.first in
    let same : shown_by c.in_ok-pair.pair ≡ first = c.in_ok-pair.ensures.list ∙ sym c.requires.list in
    record {
      counted = old.counted;
      later = all-pushed shown_by (λ list. StartsWith list first) old.others.items c.push.new.self.items c.in_ok-pair.pair (is_ok c.push.result) c.push.ensures.items (subst (λ list. StartsWith list first) (sym same) (starts_same first)) old.later;
      alike = λ live. all-pushed shown_by (λ list. list ≡ first) old.others.items c.push.new.self.items c.in_ok-pair.pair (is_ok c.push.result) c.push.ensures.items same (old.alike live);
    }

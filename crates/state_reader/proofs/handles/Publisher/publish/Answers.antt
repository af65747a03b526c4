use Rattle.std.proofs.Common.{◌≡◌, ◌∙◌, All, false, length, map, rules, sym, subst, ap}
use Rattle.state_reader.specs.Lists.{shown_by, shown_by_each, with_commit}
use Rattle.state_reader.specs.Prefix.{StartsWith}
use Rattle.state_reader.specs.Publishers.{lists_of}
use Rattle.state_reader.proofs.Several.{all-later, all-with_commit, later-MayHave, length-with_commit, none-MayHave}
use Rattle.state_reader.proofs.handles.Publisher.publish.Goals as goal

pub returns-then-self-clause-each : goal.returns-then-self-clause-each
returns-then-self-clause-each g c = none-MayHave c.args.writes.now (lists_of c.args.self.now)

pub invariant_of-self : goal.invariant_of-self
invariant_of-self g c = record {
  counted = c.args.self.now.counted;
  later = later-MayHave c.as_slice.result.now (shown_by c.args.self.now.first) (shown_by_each c.args.self.now.others.items) (shown_by_each c.publish_all.new.pairs.items) c.args.self.now.later c.publish_all.ensures.each;
  alike = λ is. absurd (cc);
}

pub invariant_of-self-in-Break-branch-2 : goal.invariant_of-self-in-Break-branch-2
invariant_of-self-in-Break-branch-2 g c =
    let old = c.args.self.now in
    let lists = shown_by_each c.publish_all.new.pairs.items in
    let same : shown_by c.publish.new.self ≡ shown_by old.first = c.in_err-publish.ensures in
    let later = later-MayHave c.as_slice.result.now (shown_by old.first) (shown_by_each old.others.items) lists old.later c.publish_all.ensures.each in
    record {
      counted = old.counted ∙ ap length (sym same);
      later = subst (λ first. All (λ list. StartsWith list first) lists) (sym same) later;
      alike = λ is. absurd (cc);
    }

pub invariant_of-self-2 : goal.invariant_of-self-2
invariant_of-self-2 g c =
    let old = c.args.self.now in
    let commit = c.args.writes.now in
    let lists = shown_by_each c.publish_all.new.pairs.items in
    let more : shown_by c.publish.new.self ≡ with_commit commit (shown_by old.first) = search rules in
    let each : lists ≡ map (with_commit commit) (shown_by_each old.others.items) = search rules in
    let was : old.failed ≡ false = search rules in
    let alike : All (λ list. list ≡ shown_by c.publish.new.self) lists =
    subst (λ first. All (λ list. list ≡ first) lists) (sym more) (subst (All (λ list. list ≡ with_commit commit (shown_by old.first))) (sym each) (all-with_commit commit (shown_by old.first) (shown_by_each old.others.items) (old.alike was))) in
    record {
      counted = c.requires ∙ sym (length-with_commit commit (shown_by old.first)) ∙ ap length (sym more);
      later = all-later (shown_by c.publish.new.self) lists alike;
      alike = λ is. alike;
    }

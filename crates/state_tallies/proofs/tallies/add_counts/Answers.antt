use Rattle.std.proofs.Common.{rules, ◌≡◌, ◌≤◌, ◌<◌, ◌+◌, ◌-◌, ◌^◌, ℕ, List, [], ◌∷◌, ◌++◌, map, length, replicate, Option, Some, None, sym, refl, ap, subst, ◌∙◌, arith}
use Rattle.std.proofs.lemmas.List.{append-nil}
use Rattle.std.specs.List.{IsDistinct}
use Rattle.std.specs.Map.{keys_of}
use Rattle.std.specs.Map.Iter.{deref_pair}
use Rattle.std.specs.Str.{bytes_eq}
use Rattle.state_tallies.specs.Inside.{counts_of}
use Rattle.state_tallies.proofs.Counting.{more_once, more_summed, parts_more}
use Rattle.state_tallies.proofs.tallies.add_counts.Goals as goal

pub loop-key-preserved : goal.loop-key-preserved
loop-key-preserved c =
    let now = c.loop-key.invariant in
    record {
      parts = parts_more deref_pair c.loop-key.yielded (c.in-Some.key, c.in-Some.count) c.loop-key.key-iterator c.next.new.self c.args.others.now.entries now.parts c.in-Some.ensures.steps;
      made = more_once deref_pair (counts_of c.args.counts.now) (counts_of c.loop-key.counts) (counts_of c.add_to.new.counts) c.loop-key.yielded (c.in-Some.key, c.in-Some.count) now.made c.in_ok-add_to.ensures.ok;
    }

pub returns-clause-ok : goal.returns-clause-ok
returns-clause-ok c =
    let now = c.loop-key.invariant in
    let distinct : IsDistinct bytes_eq (keys_of c.args.others.now.entries) = c.len.ensures.unique in
    let whole : map deref_pair c.loop-key.yielded ≡ c.args.others.now.entries = sym (append-nil (map deref_pair c.loop-key.yielded)) ∙ ap (λ rest. map deref_pair c.loop-key.yielded ++ rest) (sym c.in-None.ensures.steps.0) ∙ now.parts in
    more_summed (counts_of c.args.counts.now) (counts_of c.loop-key.counts) c.args.others.now.entries distinct (rw whole at now.made)

use Rattle.std.proofs.Common.{rules, ◌≡◌, ◌≤◌, ◌<◌, ◌+◌, ◌-◌, ◌^◌, ℕ, List, [], ◌∷◌, ◌++◌, map, length, replicate, Option, Some, None, sym, refl, ap, subst, ◌∙◌, arith}
use Rattle.std.specs.Option.{option_copied_mut}
use Rattle.std.specs.Str.{bytes_eq}
use Rattle.indexmap.specs.IndexMap.{get, insert_entry}
use Rattle.state_tallies.specs.Inside.{counts_of}
use Rattle.state_tallies.specs.Tallies.{at_text, HasMore, AreFewIn}
use Rattle.state_tallies.proofs.Counting.{counts-set, counts-new, few_after}
use Rattle.state_tallies.proofs.tallies.add_to.Goals as goal

pub returns-in-Some-clause-ok : goal.returns-in-Some-clause-ok
returns-in-Some-clause-ok c =
    let found : get bytes_eq c.args.counts.now c.args.key.now ≡ Some c.in-Some.count.now = sym c.get_mut.ensures.value ∙ ap option_copied_mut c.in-Some.is in
    let through = c.get_mut.follows.holds c.saturating_add.result in
    counts-set c.args.counts.now (c.get_mut.follows.lender c.saturating_add.result) c.args.key.now c.args.more c.requires c.in-Some.count.now c.saturating_add.result found c.saturating_add.ensures through.0

pub returns-in-Some-clause-few : goal.returns-in-Some-clause-few
returns-in-Some-clause-few c =
    few_after (counts_of c.args.counts.now) (at_text c.args.key.now c.args.more) (counts_of (c.get_mut.follows.lender c.saturating_add.result)) (returns-in-Some-clause-ok c)

pub returns-in_ok-insert-in-None-clause-ok : goal.returns-in_ok-insert-in-None-clause-ok
returns-in_ok-insert-in-None-clause-ok c =
    let none : get bytes_eq c.args.counts.now c.args.key.now ≡ None = sym c.get_mut.ensures.value ∙ ap option_copied_mut c.in-None.is in
    let stays = c.get_mut.follows.holds-at-none in
    let made : c.insert.new.self.entries ≡ insert_entry bytes_eq c.args.counts.now.entries c.args.key.now c.args.more = rw (← stays, ← c.in_ok-copy-in-None.ensures) c.in_ok-insert-in-None.ensures.entries in
    counts-new c.args.counts.now c.insert.new.self c.args.key.now c.args.more c.requires (search rules) none made

pub returns-in_ok-insert-in-None-clause-few : goal.returns-in_ok-insert-in-None-clause-few
returns-in_ok-insert-in-None-clause-few c =
    few_after (counts_of c.args.counts.now) (at_text c.args.key.now c.args.more) (counts_of c.insert.new.self) (returns-in_ok-insert-in-None-clause-ok c)

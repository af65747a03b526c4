use Rattle.std.proofs.Common.{Some, ap, sym, ◌∙◌}
use Rattle.std.specs.Prelude.{is_some}
use Rattle.std.proofs.lemmas.Option.{get_or_from_slice_get}
use Rattle.replay_pending.specs.InFlight.{is_of_root}
use Rattle.replay_pending.proofs.Found.{ended-at, found_by, none-ended, none_by, some-any}
use Rattle.replay_pending.proofs.places.take.Goals as goal

pub returns-in-Some-clause-entry : goal.returns-in-Some-clause-entry
returns-in-Some-clause-entry g c =
    let es = c.args.entries.now.items in
    let at = found_by (is_of_root c.args.root) es c.deref.result.now c.place_of.result c.in-Some.place c.place_of.ensures c.deref.ensures.value c.in-Some.is in
    ap Some (c.remove.ensures.value ∙ get_or_from_slice_get es c.in-Some.place at.0 c.remove.result at.1) ∙ sym at.2

pub returns-in-Some-clause-left : goal.returns-in-Some-clause-left
returns-in-Some-clause-left g c =
    let es = c.args.entries.now.items in
    let at = found_by (is_of_root c.args.root) es c.deref.result.now c.place_of.result c.in-Some.place c.place_of.ensures c.deref.ensures.value c.in-Some.is in
    c.remove.ensures.items ∙ ended-at c.args.root es c.in-Some.place at.0 c.requires at.1 at.3

pub returns-in-None-clause-entry : goal.returns-in-None-clause-entry
returns-in-None-clause-entry g c =
    let es = c.args.entries.now.items in
    sym (none_by (is_of_root c.args.root) es c.deref.result.now c.place_of.result c.place_of.ensures c.deref.ensures.value c.in-None.is)

pub returns-in-None-clause-left : goal.returns-in-None-clause-left
returns-in-None-clause-left g c =
    let es = c.args.entries.now.items in
    let none = none_by (is_of_root c.args.root) es c.deref.result.now c.place_of.result c.place_of.ensures c.deref.ensures.value c.in-None.is in
    sym (none-ended c.args.root es (sym (some-any (is_of_root c.args.root) es) ∙ ap is_some none))

use Rattle.std.proofs.Common.{◌≡◌, length, sym, ap, ◌∙◌}
use Rattle.std.proofs.lemmas.List.{with_items_is}
use Rattle.std.proofs.lemmas.List.Elements.{length_all_zip}
use Rattle.worker_test_kit.proofs.Coming.{all_came}
use Rattle.worker_test_kit.proofs.team.stretched.Goals as goal

pub returns : goal.returns
returns g c =
    let whole : length c.stretch_all.new.workers ≡ c.args.workers.len = sym (length_all_zip _ _ _ c.stretch_all.ensures) ∙ ap length c.as_mut_slice.ensures.value ∙ sym c.args.workers.ok.0 in
    rw (with_items_is c.args.workers c.stretch_all.new.workers whole)
    (all_came _ _ _ _ _ _ _ c.stretch_all.ensures)

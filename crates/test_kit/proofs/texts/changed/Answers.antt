use Rattle.test_kit.proofs.Around.{around}
use Rattle.test_kit.proofs.texts.changed.Goals as goal

pub returns-in_ok-format-in-Some : goal.returns-in_ok-format-in-Some
returns-in_ok-format-in-Some c =
    let cases = c.in-Some.ensures.cases in
    record {
      front = c.in-Some.before.now;
      rest = c.in-Some.after.now;
      was = around _ _ _ _ cases.0 cases.1 cases.2.1 cases.3 cases.4;
      is = c.in_ok-format-in-Some.ensures.ok;
    }

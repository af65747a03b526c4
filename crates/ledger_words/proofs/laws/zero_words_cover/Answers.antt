use Rattle.std.proofs.Common.{sym, ◌∙◌, arith}
use Rattle.tree_model.specs.Lists.{all_said}
use Rattle.tree_model.proofs.Reading.{growth, all_true_said, inits_said, failures_said}
use Rattle.tree_model.proofs.tuple_tickets.Words.{zero_closed, covered_if_closed, complete_covers}
use Rattle.ledger_words.proofs.Words.{words_held, fails_held, inits_held}
use Rattle.ledger_words.proofs.laws.zero_words_cover.Goals as goal

pub returns : goal.returns
returns c = record {
  covers = λ t custom rows root number book list holds all_true single steady begins none zero.
      let inits = inits_said list in
      let closed = zero_closed (all_said list) none (omega arith) (sym (words_held number book list holds) ∙ zero) in
      let one = single.begins in
      covered_if_closed (growth t custom rows) root (all_said list) (all_true_said t custom rows root list all_true) (omega arith) closed;
  exactly = λ t custom rows root number book list holds all_true single steady none.
      let both = complete_covers (growth t custom rows) root (all_said list) (all_true_said t custom rows root list all_true) single steady none in
      let w = words_held number book list holds in
      let f = fails_held number book list holds in
      let i = inits_held number book list holds in
      let inits = inits_said list in
      let failures = failures_said list in (
        (λ h. let h0 = h.0 in let h1 = h.1 in let h2 = h.2 in both.0 (record { begins = omega arith; none_failed = omega arith; zero_word = omega arith })),
        λ covers. let complete = both.1 covers in let b = complete.begins in let n = complete.none_failed in let z = complete.zero_word in (omega arith, omega arith, omega arith),
      );
}

use Rattle.std.proofs.Common.{ℕ, ◌≤◌, ◌+◌, ◌∙◌, length, arith}
use Rattle.std.proofs.lemmas.List.{length-take}
use Rattle.storm_outside.proofs.Progress.{given_more, given_most, given_end}
use Rattle.storm_outside.proofs.shelf.read_all.Goals as goal
use Rattle.storm_outside.proofs.shelf.read_all.Goals.{else-loop-buf-test, then-loop-buf-test+in_ok-count+then-count-eq0}

pub loop-buf-preserved : goal.loop-buf-preserved
loop-buf-preserved g c =
    let so_far = c.loop-buf.invariant.reads in
    let got : c.in_ok-count.count ≤ length c.read.new.buf = omega (arith, c.in_ok-count.ensures.count, c.read.auto.buf) in
    record {
      within = omega (arith, c.in_ok-extend_from_slice.ensures.len, c.in_ok-count.ensures.count, length-take {A = ℕ});
      reads = record {
        given = given_more _ _ _ _ _ _ _ _ got c.in_ok-extend_from_slice.ensures.items so_far.given c.in_ok-count.ensures.bytes;
        untold = λ none. c.read.ensures.untold (so_far.untold none);
        keeps_file = c.read.ensures.keeps_file;
        same_fetches = c.read.ensures.fetches ∙ so_far.same_fetches;
        same_files = λ n bytes held. c.read.ensures.files n bytes (so_far.same_files n bytes held);
        same_files_back = λ n bytes held. so_far.same_files_back n bytes (c.read.ensures.files_back n bytes held);
        never_falls = omega arith;
        stays_ready = λ ready. c.read.ensures.stays_ready (so_far.stays_ready ready);
      };
    }

pub returns-clause-bytes : goal.returns-clause-bytes
returns-clause-bytes g c =
    let so_far = c.loop-buf.invariant.reads in
    rw c.from_vec.ensures
    (elim c.loop-buf-test.branch [
      | else-loop-buf-test w ↦ given_most _ _ _ (c.args.most + 1) (omega (arith, c.loop-buf.bytes.ok.0)) so_far.given
      | then-loop-buf-test+in_ok-count+then-count-eq0 w ↦ given_end _ _ _ _ _ _ (c.args.most + 1) w.if-count-eq0.true (omega (arith, c.loop-buf.bytes.ok.0)) so_far.given w.in_ok-count.ensures.bytes
    ])

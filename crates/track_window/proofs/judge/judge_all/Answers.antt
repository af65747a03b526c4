use Rattle.std.proofs.Common.{rules, ◌≡◌, ◌≢◌, ◌≤◌, ◌<◌, ◌+◌, ◌-◌, ◌*◌, ◌^◌, ℕ, zero, suc, bit_xor, Bool, true, false, true≢false, List, [], ◌∷◌, ◌++◌, map, take, drop, get_or, set, length, replicate, Option, Some, None, All, sym, refl, ap, subst, ◌∙◌, arith}
use Rattle.std.proofs.lemmas.Slice.Zip.{all_zipped_more}
use Rattle.std.specs.List.{AllZip}
use Rattle.tree_model.specs.declared.messages.AckMsg.{AckMsg}
use Rattle.track_window.specs.Noted.{IsJudged}
use Rattle.track_window.proofs.Depths.{take_more}
use Rattle.track_window.proofs.judge.judge_all.Goals as goal

pub loop-number-preserved : goal.loop-number-preserved
loop-number-preserved c =
    let n = c.loop-number.number in
    let notes = c.args.notes.now in
    let x = c.index-notes-number.result in
    let within : n < length notes = search rules in
    let one = all_zipped_more IsJudged (take n notes) c.loop-number.acked.items x c.in_ok-is_acked.is_acked c.loop-number.invariant.judged c.in_ok-is_acked.ensures.judged in
    record {
      seat = c.is_acked.ensures.seat;
      book = c.is_acked.ensures.book ∙ c.loop-number.invariant.book;
      judged = subst (λ (ls : List (List AckMsg)). AllZip IsJudged ls c.push.new.self.items) (sym (take_more notes n x within c.index-notes-number.is)) (subst (AllZip IsJudged (take n notes ++ x ∷ [])) (sym c.in_ok-push.ensures.items) one);
    }

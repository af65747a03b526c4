use Rattle.std.proofs.Common.{◌≡◌, [], ◌∷◌, length, length-append, arith, ap, ◌∙◌}
use Rattle.output_collector.proofs.Sending.{Draws-none, Draws-more}
use Rattle.output_collector.proofs.collector.start_words.Goals as goal

pub loop-init : goal.loop-init
loop-init g c =
    let none : c.from_vec-words.result ≡ [] = c.from_vec-words.ensures ∙ c.in_ok-with_capacity.ensures.items in
    record {
      drawn = rw none (Draws-none g.I.Ids.tells c.args.ids.now);
      counted = ap length none;
    }

pub loop-preserved : goal.loop-preserved
loop-preserved g c =
    let more = c.in_ok-push.ensures.ok in
    record {
      drawn = rw more
          (Draws-more g.I.Ids.tells c.args.ids.now c.loop.ids c.next.new.self c.loop.words c.next.result c.loop.invariant.drawn c.next.ensures.told);
      counted = rw more (omega (arith, length-append c.loop.words (c.next.result ∷ []), c.loop.invariant.counted));
    }

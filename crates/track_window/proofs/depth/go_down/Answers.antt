use Rattle.std.proofs.Common.{rules, ◌≡◌, ◌≢◌, ◌≤◌, ◌<◌, ◌+◌, ◌-◌, ◌*◌, ◌^◌, ℕ, zero, suc, bit_xor, Bool, true, false, true≢false, List, [], ◌∷◌, ◌++◌, map, take, drop, get_or, set, length, replicate, Option, Some, None, All, sym, refl, ap, subst, ◌∙◌, arith}
use Rattle.std.proofs.lemmas.List.Elements.{All-from_recursion, recursion_from_All}
use Rattle.std.specs.List.{AllZip, AllByRecursion}
use Rattle.shared_ledger.specs.Seats.{book_of, roots_of}
use Rattle.state_tallies.specs.Tallies.{count_of}
use Rattle.tree_model.specs.declared.messages.Tuple.{Tuple}
use Rattle.window_account.specs.Calls.{IsFit}
use Rattle.track_window.specs.declared.job.Act.{Act}
use Rattle.track_window.specs.declared.job.Job.{Job}
use Rattle.track_window.specs.Acts.{Acted, IsActBelow}
use Rattle.track_window.specs.Jobs.{IsExecuted, IsFound, IsRooted, IsSafe, tuples_in}
use Rattle.track_window.proofs.Depths.{stands_down}
use Rattle.track_window.proofs.Executed.{whole_items, executed_long, executed_tuples, executed_found, executed_safe, acts_below}
use Rattle.track_window.proofs.depth.go_down.Goals as goal

pub settle_all-requires-clause-safe : goal.settle_all-requires-clause-safe
settle_all-requires-clause-safe g c = λ κs within.
    let t = c.args.plan.now in
    let custom = g.O.RowOp.meaning c.args.custom.now in
    let old = c.args.walk.now.jobs.items in
    let new = c.execute_all.new.jobs in
    let count = length c.args.walk.now.notes.items in
    let all : AllZip (IsExecuted t custom) old new = search rules in
    let items : c.replace-jobs.result.items ≡ old = search rules in
    let len : c.replace-jobs.result.len ≡ length c.replace-jobs.result.items = search rules in
    let whole = whole_items new c.replace-jobs.result.items c.replace-jobs.result.len len (executed_long t custom old new all ∙ sym (ap length items)) in
    let count_is : c.len-count.result ≡ count = search rules in
    let safe = All-from_recursion (λ (j : Job). IsSafe t count j.tuple j.found) new (executed_safe t custom count old new all (recursion_from_All (λ (j : Job). IsFit t j.tuple) old c.requires.ready.fit) (recursion_from_All (λ (j : Job). IsRooted count j.tuple) old c.requires.ready.rooted)) in
    subst (λ (n : ℕ). All (λ (j : Job). IsSafe t n j.tuple j.found) (take c.replace-jobs.result.len (new ++ drop (length new) c.replace-jobs.result.items))) (sym count_is)
    (subst (All (λ (j : Job). IsSafe t count j.tuple j.found)) (sym whole) safe)

pub settle_all-requires-clause-found : goal.settle_all-requires-clause-found
settle_all-requires-clause-found g c = λ κs within.
    let t = c.args.plan.now in
    let custom = g.O.RowOp.meaning c.args.custom.now in
    let old = c.args.walk.now.jobs.items in
    let new = c.execute_all.new.jobs in
    let all : AllZip (IsExecuted t custom) old new = search rules in
    let items : c.replace-jobs.result.items ≡ old = search rules in
    let len : c.replace-jobs.result.len ≡ length c.replace-jobs.result.items = search rules in
    let whole = whole_items new c.replace-jobs.result.items c.replace-jobs.result.len len (executed_long t custom old new all ∙ sym (ap length items)) in
    subst (All (λ (j : Job). IsFound t custom j.tuple j.found)) (sym whole) (All-from_recursion (λ (j : Job). IsFound t custom j.tuple j.found) new (executed_found t custom old new all))

pub act_all-requires-clause-roots : goal.act_all-requires-clause-roots
act_all-requires-clause-roots g c = λ κs within.
    let t = c.args.plan.now in
    let custom = g.O.RowOp.meaning c.args.custom.now in
    let old = c.args.walk.now.jobs.items in
    let new = c.execute_all.new.jobs in
    let count = length c.args.walk.now.notes.items in
    let all : AllZip (IsExecuted t custom) old new = search rules in
    let items : c.replace-jobs.result.items ≡ old = search rules in
    let len : c.replace-jobs.result.len ≡ length c.replace-jobs.result.items = search rules in
    let whole = whole_items new c.replace-jobs.result.items c.replace-jobs.result.len len (executed_long t custom old new all ∙ sym (ap length items)) in
    let tuples = ap tuples_in whole ∙ executed_tuples t custom old new all in
    let rooted : AllByRecursion (IsRooted count) (tuples_in old) = rooted_in count old (recursion_from_All (λ (j : Job). IsRooted count j.tuple) old c.requires.ready.rooted) in
    let acts : c.as_slice.result.now ≡ c.settle_all.new.self.acts.items = search rules in
    subst (All (IsActBelow (roots_of c.args.ledger.now))) (sym acts)
    (All-from_recursion (IsActBelow (roots_of c.args.ledger.now)) c.settle_all.new.self.acts.items
    (acts_below t custom count (roots_of c.args.ledger.now) _ _ c.settle_all.new.self c.in_ok-settle_all.ensures c.clear.ensures.items (subst (AllByRecursion (IsRooted count)) (sym tuples) rooted) c.requires.ready.count))
  where
    rooted_in : (count : ℕ) (jobs : List Job) → AllByRecursion (λ (j : Job). IsRooted count j.tuple) jobs → AllByRecursion (IsRooted count) (tuples_in jobs)
    rooted_in count [] all = tt
    rooted_in count (j ∷ jobs) all = (all.0, rooted_in count jobs all.1)

pub returns-clause-stands : goal.returns-clause-stands
returns-clause-stands g c = λ attempt depth levels rows now.
    let t = c.args.plan.now in
    let custom = g.O.RowOp.meaning c.args.custom.now in
    let old = c.args.walk.now.jobs.items in
    let new = c.execute_all.new.jobs in
    let all : AllZip (IsExecuted t custom) old new = search rules in
    let items : c.replace-jobs.result.items ≡ old = search rules in
    let len : c.replace-jobs.result.len ≡ length c.replace-jobs.result.items = search rules in
    let whole = whole_items new c.replace-jobs.result.items c.replace-jobs.result.len len (executed_long t custom old new all ∙ sym (ap length items)) in
    let acts : c.as_slice.result.now ≡ c.settle_all.new.self.acts.items = search rules in
    let acted = subst (λ (xs : List Act). Acted xs (book_of c.args.seat.now) (book_of c.act_all.new.seat)) acts c.act_all.ensures.acted in
    let no_jobs : c.replace-jobs.new.dest.items ≡ [] = search rules in
    stands_down t custom attempt depth levels rows old c.args.walk.now.notes.items (book_of c.args.seat.now) (book_of c.act_all.new.seat) _ c.settle_all.new.self (count_of c.args.walk.now.tallies) now _ (ap tuples_in whole ∙ executed_tuples t custom old new all)
    c.in_ok-settle_all.ensures no_jobs c.clear.ensures.items refl (λ state key. refl) acted

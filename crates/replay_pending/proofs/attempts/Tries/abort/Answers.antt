use Rattle.std.proofs.Common.{◌≡◌, ◌<◌, IsSome, Some, None, ap, refl, subst, sym, ◌∙◌}
use Rattle.std.specs.FinMap as fin_map
use Rattle.std.specs.Option.{option_copied_mut}
use Rattle.std.specs.Prelude.{nat_eq}
use Rattle.std.specs.HashMap.{get_by}
use Rattle.replay_pending.specs.declared.attempts.Tried.{Tried}
use Rattle.replay_pending.specs.InFlight.{tried}
use Rattle.replay_pending.proofs.CountLemmas.{aborted_through, stands, stands_not}
use Rattle.replay_pending.proofs.attempts.Tries.abort.Goals as goal
use Rattle.replay_pending.proofs.attempts.Tries.abort.Goals.{in-Some, in_default}

pub one_aborted-requires : goal.one_aborted-requires
one_aborted-requires c =
    let found : get_by (nat_eq c.args.txid) c.self.inside.counts ≡ Some c.in-Some.tried.now = sym c.get_mut.ensures.value ∙ ap option_copied_mut c.in-Some.is in
    let less : (tried c.args.txid (fin_map.from_entries c.self.inside.counts.entries)).aborted
    < (tried c.args.txid (fin_map.from_entries c.self.inside.counts.entries)).begun = rw c.self.view_is c.requires in
    let here = stands c.self.inside.counts.entries c.args.txid (Some c.in-Some.tried.now) found in
    subst (λ (t : Tried). t.aborted < t.begun) here less

pub returns : goal.returns
returns c =
    elim c.match-get_mut.branch [
      | in-Some w ↦
          let m = c.self.inside.counts in
          let found : get_by (nat_eq c.args.txid) m ≡ Some w.in-Some.tried.now = sym c.get_mut.ensures.value ∙ ap option_copied_mut w.in-Some.is in
          let through = c.get_mut.follows.holds w.one_aborted.result in
          let there : IsSome (get_by (nat_eq c.args.txid) m) = subst IsSome (sym found) refl in
          let new = c.get_mut.follows.lender w.one_aborted.result in
          rw (w.self-inside-is, ← c.self.view_is)
          (aborted_through m.entries new.entries c.args.txid w.in-Some.tried.now w.one_aborted.result w.one_aborted.ensures found
          (λ q. (through.3 there).0 q))
      | in_default w ↦
          let none : get_by (nat_eq c.args.txid) c.self.inside.counts ≡ None = sym c.get_mut.ensures.value ∙ ap option_copied_mut w.in_default.is in
          let less : (tried c.args.txid (fin_map.from_entries c.self.inside.counts.entries)).aborted
          < (tried c.args.txid (fin_map.from_entries c.self.inside.counts.entries)).begun = rw c.self.view_is c.requires in
          absurd (stands_not c.self.inside.counts.entries c.args.txid none less)
    ]

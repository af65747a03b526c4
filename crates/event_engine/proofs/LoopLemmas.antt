-- Events of an engine that is ready for a topology and a cut, one after another.
use Rattle.std.proofs.Common.{ℕ, List, sym, subst, ◌∙◌}
use Rattle.event_worlds.specs.bolt_ops.RowOp.{Custom}
use Rattle.event_engine.specs.Engines.{Goes, IsReady, IsStill, cut_in, topology_in}
use Rattle.event_engine.specs.declared.engine.Engine.{Engine}
use Rattle.event_worlds.specs.Worlds.{Step}
use Rattle.event_worlds.specs.storm_ids.declared.ids.Ids.{Ghosts}
use Rattle.event_worlds.specs.topology_plan.Topology.{Topology}
use Rattle.event_worlds.specs.taken_records.Cuts.{Cut}

module _ {I : Type 0} {g : Ghosts I} (t : Topology) (cut : Cut) (mid : Engine I g) (ready : IsReady t cut mid) where
  -- it is ready for its own
  pub ready_here : IsReady (topology_in mid) (cut_in mid) mid
  ready_here =
      subst (λ (u : Topology). IsReady u (cut_in mid) mid) (sym ready.seated.of_topology) (subst (λ (k : Cut). IsReady t k mid) (sym ready.seated.of_cut) ready)

  -- and what is so for its own is so for these
  pub ready_there : (new : Engine I g) → IsReady (topology_in mid) (cut_in mid) new → IsReady t cut new
  ready_there new own =
      subst (λ (u : Topology). IsReady u cut new) ready.seated.of_topology (subst (λ (k : Cut). IsReady (topology_in mid) k new) ready.seated.of_cut own)

  pub goes_there : (tells : I → (ℕ → ℕ) → ℕ → Type 0) (custom : Custom) (steps : List Step) (new : Engine I g) → Goes tells (topology_in mid) custom (cut_in mid) steps mid new → Goes tells t custom cut steps mid new
  goes_there tells custom steps new own =
      subst (λ (u : Topology). Goes tells u custom cut steps mid new) ready.seated.of_topology
      (subst (λ (k : Cut). Goes tells (topology_in mid) custom k steps mid new) ready.seated.of_cut own)

pub still_then : {I : Type 0} {g : Ghosts I} (a b c : Engine I g) → IsStill a b → IsStill b c → IsStill a c
still_then a b c first second = record { coordinator = second.coordinator ∙ first.coordinator; fates = second.fates ∙ first.fates }

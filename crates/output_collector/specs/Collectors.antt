-- What contracts see of a collector. This project's own.
use Rattle.std.specs.Prelude.{◌≡◌, ℕ, List, length}
use Rattle.tuple_account.specs.topology_plan.declared.parts.Origin.{Origin}
use Rattle.tuple_account.specs.topology_plan.Topology.{Topology, subs_of}
use Rattle.groupings.specs.Routing.{lanes_of}
use Rattle.output_collector.specs.declared.collector.Collector.{Collector}
use Rattle.output_collector.specs.Draws.{Draws}
use Rattle.output_collector.specs.Outlets.{Outlet}

module _ {I : Type 0} where
  -- where its rows go
  abbrev pub outlet_of : Collector I → Outlet
  outlet_of c = c.outlet

  -- where its ids come from
  abbrev pub ids_in : Collector I → I
  ids_in c = c.ids

  -- the number of that source of ids
  abbrev pub source_of : Collector I → ℕ
  source_of c = c.source

  -- how many words were given, up to 2^64 - 1
  abbrev pub given_by : Collector I → ℕ
  given_by c = c.given

  -- a collector of a source of rows, with one start word for each subscription
  pub record IsStarted (tells : I → (ℕ → ℕ) → ℕ → Type 0) (t : Topology) (from : Origin)
      (number : ℕ) (ids : I) (made : Collector I) : Type 0 where
    pub starts : List ℕ
    pub enough : length starts ≡ length (subs_of t from)
    pub drawn : Draws tells ids starts (ids_in made)
    pub outlet : outlet_of made
        ≡ record { topology = t; from = from; lanes = lanes_of t (subs_of t from) starts }
    pub given : given_by made ≡ length starts
    pub source : source_of made ≡ number

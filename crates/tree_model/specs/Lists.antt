-- Lists of messages of one root, by what the messages say: each definition is that of
-- `tuple_tickets` for what they say, and a true message carries its node's writes besides.
use Rattle.std.specs.Prelude.{◌≡◌, ℕ, List, map}
use Rattle.std.specs.List.{AllByRecursion}
use Rattle.std.specs.Option.{option_to_list}
use Rattle.bolt_ops.specs.RowOp.{Custom}
use Rattle.storm_values.specs.declared.value.Root.{Root}
use Rattle.storm_values.specs.declared.value.Value.{Value}
use Rattle.topology_plan.specs.Topology.{Topology}
use Rattle.tuple_tickets.specs.declared.edge.Edge.{Edge}
use Rattle.tuple_tickets.specs.Lists as tickets
use Rattle.tuple_tickets.specs.Lists.{Message, init, done, failed}
use Rattle.tree_model.specs.declared.messages.AckMsg.{AckMsg}
use Rattle.tree_model.specs.declared.messages.AckMsg.TheVariants as msg
use Rattle.tree_model.specs.Courses.{growth_of}
use Rattle.tree_model.specs.Paths.{write_at}
use Rattle.tree_model.specs.Trees.{node_at}

abbrev pub root_of : AckMsg → Root
root_of (msg.Init m) = m.root
root_of (msg.Done m) = m.root
root_of (msg.Failed m) = m.root

-- what a message says of its root's edges and nodes
abbrev pub said : AckMsg → Message
said (msg.Init m) = init m.edges
said (msg.Done m) = done m.consumed m.produced
said (msg.Failed m) = failed m.path

-- what the messages say, in order
abbrev pub all_said : List AckMsg → List Message
all_said list = map said list

-- ---- edges

abbrev pub occurrences_in : AckMsg → List Edge
occurrences_in m = tickets.occurrences_in (said m)

-- the edges of each init, and the consumed and the produced edges of each done
abbrev pub occurrences : List AckMsg → List Edge
occurrences list = tickets.occurrences (all_said list)

-- the edge occurs an odd number of times
abbrev pub IsOpen : List AckMsg → Edge → Type 0
IsOpen list = tickets.IsOpen (all_said list)

-- no edge occurs an odd number of times
abbrev pub IsClosed : List AckMsg → Type 0
IsClosed list = tickets.IsClosed (all_said list)

-- these are the open edges, each once, in any order
abbrev pub AreOpen : List AckMsg → List Edge → Type 0
AreOpen list = tickets.AreOpen (all_said list)

-- the XOR of the ids of all occurrences
abbrev pub word : List AckMsg → ℕ
word list = tickets.word (all_said list)

-- ---- messages

-- the weight that is 1 at an init
abbrev pub is_init : AckMsg → ℕ
is_init m = tickets.is_init (said m)

-- the weight that is 1 at a failure
abbrev pub is_failed : AckMsg → ℕ
is_failed m = tickets.is_failed (said m)

-- the weight that is 1 at a done that consumes the path
abbrev pub consumes : List ℕ → AckMsg → ℕ
consumes path m = tickets.consumes path (said m)

module _ (t : Topology) (custom : Custom) (rows : List (List Value)) (root : Root) where
  -- a done carries exactly the writes of the node that it consumes
  abbrev pub CarriesWrites : AckMsg → Type 0
  CarriesWrites (msg.Init m) = Unit {0}
  CarriesWrites (msg.Done m) = m.writes ≡ option_to_list (write_at t custom rows m.consumed.path)
  CarriesWrites (msg.Failed m) = Unit {0}

  -- A true message is about the root, says what is so in the tree of the root's rows at this
  -- attempt, and carries what its node writes.
  pub record IsTrueOf (m : AckMsg) : Type 0 where
    pub of_root : root_of m ≡ root
    pub says_true : tickets.IsTrueOf (growth_of t custom (λ r. rows)) root (said m)
    pub carries : CarriesWrites m

  -- each message is true
  abbrev pub AreTrueOf : List AckMsg → Type 0
  AreTrueOf list = AllByRecursion IsTrueOf list

-- there is an init, and each path of the tree is consumed
abbrev pub Covers : Topology → Custom → List (List Value) → List AckMsg → Type 0
Covers t custom rows list = tickets.CoversTree (node_at t custom rows) (all_said list)

-- there is at most one init, and no path is consumed twice
abbrev pub IsSingle : List AckMsg → Type 0
IsSingle list = tickets.IsSingle (all_said list)

-- all occurrences of one path have one id
abbrev pub IsSteady : List AckMsg → Type 0
IsSteady list = tickets.IsSteady (all_said list)

-- ---- words of 0

-- the list has an init, no failure and the word 0
abbrev pub IsComplete : List AckMsg → Type 0
IsComplete list = tickets.IsComplete (all_said list)

-- a coincidence: there is an init, and there are open edges, whose ids XOR to 0
abbrev pub Coincides : List AckMsg → Type 0
Coincides list = tickets.Coincides (all_said list)

-- no set of open edges but the empty one has ids that XOR to 0
abbrev pub NoneCancel : List AckMsg → Type 0
NoneCancel list = tickets.NoneCancel (all_said list)

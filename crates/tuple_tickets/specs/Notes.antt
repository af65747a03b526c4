-- The notes that begun roots and used tickets leave for the root's acker.
use Rattle.std.specs.Prelude.{if◌then◌else◌, List, [], ◌∷◌, ◌++◌, map}
use Rattle.std.specs.List.{flat_map}
use Rattle.storm_values.specs.declared.value.Root.{Root}
use Rattle.tuple_tickets.specs.declared.edge.Edge.{Edge}
use Rattle.tuple_tickets.specs.Lists.{Message, init, done, failed}
use Rattle.tuple_tickets.specs.Roots.{root_eq}
use Rattle.tuple_tickets.specs.Tickets.{Ticket, Begun, Run, Account, first_tickets, made_of}
use Rattle.tuple_tickets.specs.Trees.{Course, goes, fails, mute, Growth}

-- a message about a root
pub record Note : Type 0 where
  pub root : Root
  pub said : Message

-- what the notes of a root say
abbrev pub said_about : Root → List Note → List Message
said_about root [] = []
said_about root (note ∷ notes) =
    if root_eq note.root root then note.said ∷ said_about root notes else said_about root notes

module _ {N : Type 0} where
  abbrev pub edges_of : List (Ticket N) → List Edge
  edges_of tickets = map (λ (t : Ticket N). t.edge) tickets

  abbrev pub init_note : Growth N → Begun → Note
  init_note g b = record { root = b.root; said = init (edges_of (first_tickets g b)) }

  abbrev pub done_note : Growth N → Run N → Note
  done_note g u =
      record { root = u.ticket.root; said = done u.ticket.edge (edges_of (made_of g u)) }

  abbrev pub failed_note : Run N → Note
  failed_note u = record { root = u.ticket.root; said = failed u.ticket.edge.path }

  -- done where the node goes on, failed where it fails, and else nothing
  abbrev pub notes_by : Growth N → Run N → Course → List Note
  notes_by g u goes = done_note g u ∷ []
  notes_by g u fails = failed_note u ∷ []
  notes_by g u mute = []

  abbrev pub notes_of : Growth N → Run N → List Note
  notes_of g u = notes_by g u (g.course u.ticket.root u.ticket.node)

  -- all notes that were issued
  abbrev pub issued_notes : Growth N → Account N → List Note
  issued_notes g a = map (init_note g) a.begun ++ flat_map (notes_of g) a.runs

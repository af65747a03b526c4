-- The state that an acker keeps beside a list. No public clause cites this module.
use Rattle.std.specs.Prelude.{bit_xor, is_some, List}
use Rattle.rotating_ledger.specs.Told.{init_of, ack_of, fail_note}
use Rattle.rotating_ledger.specs.declared.state.AckState.{AckState}
use Rattle.tree_model.specs.tuple_tickets.Edges.{xor_ids}
use Rattle.tree_model.specs.declared.messages.AckMsg.{AckMsg}
use Rattle.tree_model.specs.declared.messages.AckMsg.TheVariants as msg
use Rattle.tree_model.specs.Lists.{word}
use Rattle.acker_core.specs.Entries.{has_init, first_failed}

-- the state of a list
abbrev pub state_of : List AckMsg → AckState
state_of list =
    record { word = word list; init = has_init list; failed = is_some (first_failed list) }

-- the state that one message makes
abbrev pub state_in : AckMsg → AckState
state_in (msg.Init m) = init_of (xor_ids m.edges)
state_in (msg.Done m) = ack_of (bit_xor m.consumed.id (xor_ids m.produced))
state_in (msg.Failed m) = fail_note

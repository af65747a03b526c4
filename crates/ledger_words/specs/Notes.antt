-- The calls of a ledger that stand for an acker's messages of a root. This project's own.
use Rattle.std.specs.Prelude.{◌≡◌, ℕ, ◌==◌, bit_xor, List, map, filter}
use Rattle.tree_model.specs.tuple_tickets.Edges.{xor_ids}
use Rattle.tree_model.specs.declared.messages.AckMsg.{AckMsg}
use Rattle.tree_model.specs.declared.messages.AckMsg.TheVariants as msg
use Rattle.shared_ledger.specs.declared.rule.Call.{Call}
use Rattle.shared_ledger.specs.declared.rule.Book.{Book}
use Rattle.shared_ledger.specs.Books.{init_of, ack_of, fail_of}

-- the call that stands for a message, on the ledger's root of this number: an init has the ids of
-- its edges, an ack that of what was consumed and those of what was produced
abbrev pub call_at : ℕ → AckMsg → Call
call_at number (msg.Init m) = init_of number (xor_ids m.edges)
call_at number (msg.Done m) = ack_of number (bit_xor m.consumed.id (xor_ids m.produced))
call_at number (msg.Failed m) = fail_of number

abbrev pub calls_at : ℕ → List AckMsg → List Call
calls_at number list = map (call_at number) list

-- the book's calls on this root are those of the messages, in order
abbrev pub HoldsNotes : ℕ → Book → List AckMsg → Type 0
HoldsNotes number book list =
    filter (λ (c : Call). c.root == number) book.calls ≡ calls_at number list

-- Codes of tickets and notes.
use Rattle.std.proofs.Common.{◌≡◌, ℕ, ◌⊎◌, inl, inr, List, refl}
use Rattle.std.specs.Coded.{Coded, code_by, coded×, coded⊎, coded_ℕ, coded_list}
use Rattle.storm_values.specs.declared.value.Root.{Root}
use Rattle.tuple_tickets.specs.declared.edge.Edge.{Edge}
use Rattle.tuple_tickets.specs.Lists.{Message, init, done, failed}
use Rattle.tuple_tickets.specs.Tickets.{Ticket}

pub root_code : Coded Root
root_code = code_by (ℕ × ℕ) (coded× coded_ℕ coded_ℕ) (λ r. (r.txid, r.attempt)) (λ c. record { txid = c.0; attempt = c.1 }) (λ r. refl)

pub edge_code : Coded Edge
edge_code = code_by (List ℕ × ℕ) (coded× (coded_list coded_ℕ) coded_ℕ) (λ e. (e.path, e.id)) (λ c. record { path = c.0; id = c.1 }) (λ e. refl)

module _ {N : Type 0} where
  pub ticket_code : Coded N → Coded (Ticket N)
  ticket_code coded = code_by (Root × (Edge × N)) (coded× root_code (coded× edge_code coded)) (λ t. (t.root, (t.edge, t.node))) (λ c. record { root = c.0; edge = c.1.0; node = c.1.1 }) (λ t. refl)

abbrev message_out : Message → List Edge ⊎ ((Edge × List Edge) ⊎ List ℕ)
message_out (init es) = inl es
message_out (done consumed produced) = inr (inl (consumed, produced))
message_out (failed path) = inr (inr path)

abbrev message_in : List Edge ⊎ ((Edge × List Edge) ⊎ List ℕ) → Message
message_in (inl es) = init es
message_in (inr (inl both)) = done both.0 both.1
message_in (inr (inr path)) = failed path

message_back : (m : Message) → message_in (message_out m) ≡ m
message_back (init es) = refl
message_back (done consumed produced) = refl
message_back (failed path) = refl

pub message_code : Coded Message
message_code = code_by (List Edge ⊎ ((Edge × List Edge) ⊎ List ℕ)) (coded⊎ (coded_list edge_code) (coded⊎ (coded× edge_code (coded_list edge_code)) (coded_list coded_ℕ))) message_out message_in message_back

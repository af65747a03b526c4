-- Codes of nodes and messages.
use Rattle.std.proofs.Common.{◌≡◌, ℕ, ℤ, ◌⊎◌, inl, inr, List, refl}
use Rattle.std.specs.Coded.{Coded, code_by, coded×, coded⊎, coded_ℕ, coded_ℤ, coded_list}
use Rattle.tree_model.specs.storm_values.declared.value.Root.{Root}
use Rattle.tree_model.specs.storm_values.declared.value.Value.{Value}
use Rattle.tree_model.specs.storm_values.declared.value.Value.TheVariants.{Int, Text}
use Rattle.tree_model.specs.tuple_tickets.declared.edge.Edge.{Edge}
use Rattle.tree_model.proofs.tuple_tickets.Codes.{root_code, edge_code}
use Rattle.tree_model.specs.declared.messages.AckMsg.{AckMsg}
use Rattle.tree_model.specs.declared.messages.AckMsg.TheVariants as msg
use Rattle.tree_model.specs.declared.messages.Done.{Done}
use Rattle.tree_model.specs.declared.messages.Draw.{Draw}
use Rattle.tree_model.specs.declared.messages.FailNote.{FailNote}
use Rattle.tree_model.specs.declared.messages.Init.{Init}
use Rattle.tree_model.specs.declared.write.Write.{Write}
use Rattle.tree_model.specs.Trees.{Node}

abbrev value_out : Value → ℤ ⊎ List ℕ
value_out (Int number) = inl number
value_out (Text bytes) = inr bytes

abbrev value_in : ℤ ⊎ List ℕ → Value
value_in (inl number) = Int number
value_in (inr bytes) = Text bytes

value_back : (v : Value) → value_in (value_out v) ≡ v
value_back (Int number) = refl
value_back (Text bytes) = refl

pub value_code : Coded Value
value_code = code_by (ℤ ⊎ List ℕ) (coded⊎ coded_ℤ (coded_list coded_ℕ)) value_out value_in value_back

pub node_code : Coded Node
node_code = code_by (ℕ × List Value) (coded× coded_ℕ (coded_list value_code)) (λ n. (n.component, n.row)) (λ c. record { component = c.0; row = c.1 }) (λ n. refl)

pub write_code : Coded Write
write_code = code_by (ℕ × (ℕ × (List ℕ × ℤ))) (coded× coded_ℕ (coded× coded_ℕ (coded× (coded_list coded_ℕ) coded_ℤ))) (λ w. (w.state, (w.part, (w.key, w.amount)))) (λ c. record { state = c.0; part = c.1.0; key = c.1.1.0; amount = c.1.1.1 }) (λ w. refl)

pub draw_code : Coded Draw
draw_code = code_by (ℕ × ℕ) (coded× coded_ℕ coded_ℕ) (λ d. (d.source, d.first)) (λ c. record { source = c.0; first = c.1 }) (λ d. refl)

init_code : Coded Init
init_code = code_by (Root × (List Edge × Draw)) (coded× root_code (coded× (coded_list edge_code) draw_code)) (λ m. (m.root, (m.edges, m.draw))) (λ c. record { root = c.0; edges = c.1.0; draw = c.1.1 }) (λ m. refl)

done_code : Coded Done
done_code =
    code_by (Root × (Edge × (List Edge × (Draw × List Write)))) (coded× root_code (coded× edge_code (coded× (coded_list edge_code) (coded× draw_code (coded_list write_code)))))
    (λ m. (m.root, (m.consumed, (m.produced, (m.draw, m.writes))))) (λ c. record { root = c.0; consumed = c.1.0; produced = c.1.1.0; draw = c.1.1.1.0; writes = c.1.1.1.1 }) (λ m. refl)

failure_code : Coded FailNote
failure_code = code_by (Root × List ℕ) (coded× root_code (coded_list coded_ℕ)) (λ m. (m.root, m.path)) (λ c. record { root = c.0; path = c.1 }) (λ m. refl)

abbrev msg_out : AckMsg → Init ⊎ (Done ⊎ FailNote)
msg_out (msg.Init m) = inl m
msg_out (msg.Done m) = inr (inl m)
msg_out (msg.Failed m) = inr (inr m)

abbrev msg_in : Init ⊎ (Done ⊎ FailNote) → AckMsg
msg_in (inl m) = msg.Init m
msg_in (inr (inl m)) = msg.Done m
msg_in (inr (inr m)) = msg.Failed m

msg_back : (m : AckMsg) → msg_in (msg_out m) ≡ m
msg_back (msg.Init m) = refl
msg_back (msg.Done m) = refl
msg_back (msg.Failed m) = refl

pub msg_code : Coded AckMsg
msg_code = code_by (Init ⊎ (Done ⊎ FailNote)) (coded⊎ init_code (coded⊎ done_code failure_code)) msg_out msg_in msg_back

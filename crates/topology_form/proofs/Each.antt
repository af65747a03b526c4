-- Reading the items of an array one after the other, as a loop does.
use Rattle.std.proofs.Common.{◌≡◌, ℕ, List, [], ◌∷◌, ◌++◌, Result, Ok, Err, append_assoc, refl, sym, ap, ◌∙◌}
use Rattle.serde_json.specs.declared.value.Value.{Value}
use Rattle.topology_form.specs.Prelude.{TopoFault, view, items_view}
use Rattle.topology_form.specs.Reading.{Form, and_then, each}

-- what was read before, and what is still read
abbrev pub after : {A : Type 0} → List A → Result (List A) TopoFault → Result (List A) TopoFault
after front (Ok items) = Ok (front ++ items)
after front (Err fault) = Err fault

one_more : {A : Type 0} (front : List A) (x : A) (others : Result (List A) TopoFault) → after (front ++ x ∷ []) others ≡ after front (and_then others (λ xs. Ok (x ∷ xs)))
one_more front x (Ok others) = ap Ok (append_assoc front (x ∷ []) others)
one_more front x (Err fault) = refl

-- one item was read, and the others come to the same
pub read_more : {A : Type 0} (form : Form A) (name : List ℕ) (one : Value) (items rest : List Value) (front more : List A) (x : A) (whole : Result (List A) TopoFault) → items ≡ one ∷ rest → form name (view one) ≡ Ok x → more ≡ front ++ x ∷ []
    → after front (each form name (items_view items)) ≡ whole → after more (each form name (items_view rest)) ≡ whole
read_more form name one items rest front more x whole next is grown so_far =
    ap (λ xs. after xs (each form name (items_view rest))) grown
    ∙ one_more front x (each form name (items_view rest))
    ∙ ap (λ (read : Result _ TopoFault). after front (and_then read (λ first. and_then (each form name (items_view rest)) (λ others. Ok (first ∷ others))))) (sym is)
    ∙ ap (λ xs. after front (each form name (items_view xs))) (sym next)
    ∙ so_far

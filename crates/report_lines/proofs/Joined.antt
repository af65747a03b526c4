-- Texts that are joined by a byte, by their first part and the others.
use Rattle.std.proofs.Common.{◌≡◌, ◌≤◌, ◌<◌, ℕ, ◌+◌, List, [], ◌∷◌, ◌++◌, length, take, get_or, map, decimal, ap, ap₂, ◌∙◌, append_assoc, sym, append-nil, arith}
use Rattle.std.proofs.lemmas.List.{take_all, flat_map_more}
use Rattle.std.proofs.lemmas.Grind.{common_steps}
use Rattle.std.specs.List.{flat_map}
use Rattle.record_spans.specs.declared.span.Span.{Span}
use Rattle.tuple_tickets.specs.declared.edge.Edge.{Edge}
use Rattle.report_lines.specs.Told.{edge_told}
use Rattle.report_grammar.specs.Report.{edge_text, edges_text, path_text, span_text, spans_text}

-- the first part and all others
joined_done : {A : Type 0} (later : A → List ℕ) (whole front : List ℕ) (others : List A) (i : ℕ) (old begun text : List ℕ) → whole ≡ front ++ flat_map later others → length others ≤ i → begun ≡ old ++ front → text ≡ begun ++ flat_map later (take i others) → text ≡ old ++ whole
joined_done later whole front others i old begun text is all first_is later_is =
    later_is ∙ (ap₂ (λ xs ys. xs ++ flat_map later ys) first_is (take_all i others all)
    ∙ (append_assoc old front (flat_map later others) ∙ ap (λ xs. old ++ xs) (sym is)))

-- ---- paths

-- a full stop and a number
abbrev pub later_number : ℕ → List ℕ
later_number n = 46 ∷ decimal n

path_joined : (first : ℕ) (others : List ℕ) → path_text (first ∷ others) ≡ decimal first ++ flat_map later_number others
path_joined first [] = sym (append-nil (decimal first))
path_joined first (n ∷ others) = ap (λ text. decimal first ++ 46 ∷ text) (path_joined n others)

pub path_done : (path : List ℕ) (first : ℕ) (others : List ℕ) (i : ℕ) (old begun text : List ℕ) → path ≡ first ∷ others → length others ≤ i → begun ≡ old ++ decimal first → text ≡ begun ++ flat_map later_number (take i others) → text ≡ old ++ path_text path
path_done path first others i old begun text is =
    joined_done later_number (path_text path) (decimal first) others i old begun text (ap path_text is ∙ path_joined first others)

-- ---- edges

-- a space and an edge
abbrev pub later_edge : Edge → List ℕ
later_edge edge = 32 ∷ edge_text (edge_told edge)

edges_joined : (first : Edge) (others : List Edge) → edges_text (map edge_told (first ∷ others)) ≡ edge_text (edge_told first) ++ flat_map later_edge others
edges_joined first [] = sym (append-nil (edge_text (edge_told first)))
edges_joined first (e ∷ others) = ap (λ text. edge_text (edge_told first) ++ 32 ∷ text) (edges_joined e others)

pub edges_done : (edges : List Edge) (first : Edge) (others : List Edge) (i : ℕ) (old begun text : List ℕ) → edges ≡ first ∷ others → length others ≤ i → begun ≡ old ++ edge_text (edge_told first) → text ≡ begun ++ flat_map later_edge (take i others) → text ≡ old ++ edges_text (map edge_told edges)
edges_done edges first others i old begun text is =
    joined_done later_edge (edges_text (map edge_told edges)) (edge_text (edge_told first)) others i old begun text (ap (λ es. edges_text (map edge_told es)) is ∙ edges_joined first others)

-- the texts of some edges, and of one more
pub edges_more : (others : List Edge) (i : ℕ) (edge : Edge) (begun text spaced new : List ℕ) → i < length others → edge ≡ get_or others i edge → text ≡ begun ++ flat_map later_edge (take i others) → spaced ≡ text ++ 32 ∷ [] → new ≡ spaced ++ edge_text (edge_told edge) → new ≡ begun ++ flat_map later_edge (take (i + 1) others)
edges_more others i edge begun text spaced new there is so_far space added =
    let front : take (i + 1) others ≡ take i others ++ edge ∷ [] = grind (arith, common_steps) in
    added ∙ (ap (λ t. t ++ edge_text (edge_told edge)) space ∙ (append_assoc text (32 ∷ []) (edge_text (edge_told edge))
    ∙ (ap (λ t. t ++ later_edge edge) so_far ∙ (flat_map_more later_edge begun (take i others) edge ∙ ap (λ es. begun ++ flat_map later_edge es) (sym front)))))

-- ---- spans

-- a comma and a span
abbrev pub later_span : Span → List ℕ
later_span span = 44 ∷ span_text span

spans_joined : (first : Span) (others : List Span) → spans_text (first ∷ others) ≡ span_text first ++ flat_map later_span others
spans_joined first [] = sym (append-nil (span_text first))
spans_joined first (s ∷ others) = ap (λ text. span_text first ++ 44 ∷ text) (spans_joined s others)

pub spans_done : (spans : List Span) (first : Span) (others : List Span) (i : ℕ) (old begun text : List ℕ) → spans ≡ first ∷ others → length others ≤ i → begun ≡ old ++ span_text first → text ≡ begun ++ flat_map later_span (take i others) → text ≡ old ++ spans_text spans
spans_done spans first others i old begun text is =
    joined_done later_span (spans_text spans) (span_text first) others i old begun text (ap spans_text is ∙ spans_joined first others)

-- Openings with the true places of their words.
use Rattle.std.proofs.Common.{◌≡◌, ℕ, ◌+◌, List, [], ◌∷◌, ◌++◌, length, get_or, map, drop, flat_map, refl, sym, ap, ◌∙◌, arith}
use Rattle.std.specs.List.{AllByRecursion, range_with_len}
use Rattle.std.proofs.lemmas.List.{length-append}
use Rattle.commit_order.specs.Orders.{OpenFrom, Stand, ids_drawn, stand_after}
use Rattle.commit_order.specs.commit_turns.declared.wait.Wait.{Wait}
use Rattle.commit_order.specs.counted_items.Weights.{weigh}
use Rattle.event_worlds.specs.Added.{placed}
use Rattle.event_worlds.specs.Worlds.{ended}
use Rattle.commit_order.specs.storm_values.declared.value.Root.{Root}
use Rattle.commit_order.specs.topology_plan.Topology.{Topology}
use Rattle.commit_order.specs.tree_model.declared.messages.AckMsg.TheVariants as msg
use Rattle.commit_order.specs.taken_records.Cuts.{Cut}
use Rattle.commit_order.specs.tuple_account.Histories.{IsOpening, Opening, opening_parcels, opening_spans, to_acker, to_tasks}
use Rattle.commit_order.specs.tuple_account.Places.{HasWords, spans}
use Rattle.commit_order.proofs.tuple_account.Placing.{spans-more}
use Rattle.commit_order.specs.tuple_account.Issued.{edges_of, first_tuples}

-- ---- words

-- of words from a place on, the first ones are from there on, and the others from their end on
pub words-split : (words : ℕ → ℕ) (at : ℕ) (xs ys : List ℕ) → xs ++ ys ≡ map words (range_with_len at (length (xs ++ ys)))
    → (xs ≡ map words (range_with_len at (length xs))) × (ys ≡ map words (range_with_len (at + length xs) (length ys)))
words-split words at [] ys is = (refl, is ∙ ap (λ (a : ℕ). map words (range_with_len a (length ys))) (let e : at ≡ at + length {A = ℕ} [] = omega arith in e))
words-split words at (x ∷ xs) ys is =
    let first : x ≡ words at = ap (λ (l : List ℕ). get_or l 0 0) is in
    let others : xs ++ ys ≡ map words (range_with_len (at + 1) (length (xs ++ ys))) = ap (drop 1) is in
    let both = words-split words (at + 1) xs ys others in (
      (λ i. first i ∷ both.0 i),
      both.1 ∙ ap (λ (a : ℕ). map words (range_with_len a (length ys))) (let e : (at + 1) + length xs ≡ at + length (x ∷ xs) = omega arith in e),
    )

-- ---- openings

shown_opening : (t : Topology) (o : Opening) (x y : ℕ) → ended x ≡ ended y → opening_parcels t (record o { begun = record o.begun { at = x } }) ≡ opening_parcels t (record o { begun = record o.begun { at = y } })
shown_opening t o x y e =
    ap (λ (first : ℕ).
    to_tasks (first_tuples t o.begun) o.targets
    ++ to_acker t (msg.Init (record { root = o.begun.root; edges = edges_of (first_tuples t o.begun); draw = record { source = o.begun.source; first = first } })) ∷ []) e

-- each opening's words are of this source
abbrev pub AreOf : ℕ → List Opening → Type 0
AreOf n openings = AllByRecursion (λ (o : Opening). o.begun.source ≡ n) openings

pub placed-roots : (at : ℕ) (openings : List Opening) → map (λ (o : Opening). o.begun.root) (placed at openings) ≡ map (λ (o : Opening). o.begun.root) openings
placed-roots at [] = refl
placed-roots at (o ∷ openings) = ap (λ (roots : List Root). o.begun.root ∷ roots) (placed-roots (at + length o.begun.ids) openings)

pub placed-well : (t : Topology) (at : ℕ) (openings : List Opening) → AllByRecursion (IsOpening t) openings → AllByRecursion (IsOpening t) (placed at openings)
placed-well t at [] all = tt
placed-well t at (o ∷ openings) all = let is = all.0 in (record { source = is.source; ids = is.ids; sent = is.sent }, placed-well t (at + length o.begun.ids) openings all.1)

pub placed-words : (words : ℕ → ℕ → ℕ) (n at : ℕ) (openings : List Opening) → AreOf n openings → HasWords words n at (ids_drawn openings)
    → AllByRecursion (λ (o : Opening). HasWords words o.begun.source o.begun.at o.begun.ids) (placed at openings)
placed-words words n at [] of_source has = tt
placed-words words n at (o ∷ openings) of_source has =
    let both = words-split (words n) at o.begun.ids (ids_drawn openings) has in (
      both.0 ∙ ap (λ (s : ℕ). map (words s) (range_with_len at (length o.begun.ids))) (sym of_source.0),
      placed-words words n (at + length o.begun.ids) openings of_source.1 both.1,
    )

pub placed-spans : (n at s j : ℕ) (openings : List Opening) → AreOf n openings
    → spans n 0 at s j + weigh (opening_spans s j) (placed at openings) ≡ spans n 0 (at + length (ids_drawn openings)) s j
placed-spans n at s j [] of_source = let e = ap (λ (a : ℕ). spans n 0 a s j) (let f : at + length {A = ℕ} [] ≡ at = omega arith in f) in omega arith
placed-spans n at s j (o ∷ openings) of_source =
    let count : ℕ = length o.begun.ids in
    let rest = placed-spans n (at + count) s j openings of_source.1 in
    let more = spans-more n at count s j in
    let own = ap (λ (q : ℕ). spans q at count s j) of_source.0 in
    let size = length-append o.begun.ids (ids_drawn openings) in
    let e = ap (λ (a : ℕ). spans n 0 a s j) (let f : (at + count) + length (ids_drawn openings) ≡ at + length (ids_drawn (o ∷ openings)) = omega arith in f) in omega arith

module _ (t : Topology) (cut : Cut) (source : ℕ) where
  pub placed-parcels : (at : ℕ) (s end : Stand) (begun : List Wait) (openings : List Opening) → s.given ≡ ended at → OpenFrom cut source s begun openings end
      → flat_map (opening_parcels t) (placed at openings) ≡ flat_map (opening_parcels t) openings
  placed-parcels at s end [] [] given from = refl
  placed-parcels at s end [] (o ∷ openings) given from = absurd from
  placed-parcels at s end (w ∷ begun) [] given from = absurd from
  placed-parcels at s end (w ∷ begun) (o ∷ openings) given from =
      let place : o.begun.at ≡ s.given = ap (λ (x : Opening). x.begun.at) from.0 in
      let here = shown_opening t o at o.begun.at (let e : ended at ≡ ended o.begun.at = omega arith in e) in
      let later = placed-parcels (at + length o.begun.ids) (stand_after o s) end begun openings (omega arith) from.2 in
      λ i. here i ++ later i

  pub given-past : (at : ℕ) (s end : Stand) (begun : List Wait) (openings : List Opening) → s.given ≡ ended at → OpenFrom cut source s begun openings end → end.given ≡ ended (at + length (ids_drawn openings))
  given-past at s end [] [] given from = let e = ap (λ (x : Stand). x.given) from in omega arith
  given-past at s end [] (o ∷ openings) given from = absurd from
  given-past at s end (w ∷ begun) [] given from = absurd from
  given-past at s end (w ∷ begun) (o ∷ openings) given from =
      let size = length-append o.begun.ids (ids_drawn openings) in
      let later = given-past (at + length o.begun.ids) (stand_after o s) end begun openings (omega arith) from.2 in omega arith

-- The keys that are kept are texts.
use Rattle.std.proofs.Common.{◌≡◌, ◌<◌, ◌∙◌, ℕ, zero, suc, ◌+◌, List, [], ◌∷◌, ◌++◌, Some, length, get_or, take, ap, refl, sym, subst, arith}
use Rattle.std.specs.Prelude.{slice_get}
use Rattle.std.specs.Str.{IsUtf8}
use Rattle.std.proofs.Math.Seq.{take-suc}
use Rattle.std.proofs.lemmas.List.{length-map}
use Rattle.std.proofs.lemmas.Option.{get_or_from_slice_get, slice_get_read, slice_get_within}
use Rattle.std.proofs.lemmas.Str.{IsUtf8-from_is_utf8}
use Rattle.tree_model.specs.declared.messages.AckMsg.{AckMsg}
use Rattle.message_lists.specs.declared.packed.Head.{Head}
use Rattle.message_lists.specs.declared.packed.Kind.TheVariants as kind
use Rattle.message_lists.specs.declared.packed.Short.{Short}
use Rattle.message_lists.specs.declared.packed.Stock.{Stock}
use Rattle.message_lists.specs.Packed.{AreThere, IsThere, IsThereBy, head_at, no_head, note_of, notes_of, piece}

pub there_at : (k : Stock) (shorts : List Short) (at : ℕ) (s : Short) → AreThere k shorts → slice_get shorts at ≡ Some s → IsThere k s
there_at k [] at s all is = cc
there_at k (r ∷ shorts) zero s all is = let same : r ≡ s = cc in subst (IsThere k) same all.0
there_at k (r ∷ shorts) (suc at) s all is = there_at k shorts at s all.1 is

pub text_at : (k : Stock) (shorts : List Short) (list : List AckMsg) (at : ℕ) (s : Short) (h : Head) (state part : ℕ) → AreThere k shorts
    → notes_of k shorts ≡ list → at < length list → s ≡ get_or shorts at s → h ≡ get_or k.heads.items s.head h → h.kind ≡ kind.State state part
    → IsUtf8 (piece k.keys.items s.at s.len)
text_at k shorts list at s h state part all are low short head kind_is =
    let many = ap length (sym are) ∙ length-map shorts (note_of k) in
    let is : slice_get shorts at ≡ Some s = slice_get_read shorts (length shorts) at s refl (omega arith) short in
    let own = there_at k shorts at s all is in
    let few : s.head < length k.heads.items = own.0 in
    let same : head_at k s.head ≡ h = get_or_from_slice_get k.heads.items s.head h no_head (slice_get_read k.heads.items (length k.heads.items) s.head h refl few head) in
    let by : IsThereBy k h s h.kind = subst (λ (g : Head). IsThereBy k g s g.kind) same own.1 in
    let parts : IsThereBy k h s (kind.State state part) = subst (IsThereBy k h s) kind_is by in
    IsUtf8-from_is_utf8 (piece k.keys.items s.at s.len) parts.2

-- the items before one and that one
pub taken_more : {X : Type 0} (xs : List X) (n : ℕ) (x : X) → slice_get xs n ≡ Some x → take (n + 1) xs ≡ take n xs ++ x ∷ []
taken_more xs n x is =
    let next : n + 1 ≡ suc n = omega arith in
    ap (λ m. take m xs) next ∙ take-suc xs n x (slice_get_within xs n x is) ∙ ap (λ y. take n xs ++ y ∷ []) (get_or_from_slice_get xs n x x is)

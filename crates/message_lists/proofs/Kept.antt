-- Messages stay as they are, and their places there, where lists grow.
use Rattle.std.proofs.Common.{◌≡◌, ℕ, List, [], ◌∷◌, ◌++◌, refl, ap, sym, subst, ◌∙◌, arith, append_assoc}
use Rattle.std.specs.Prelude.{true}
use Rattle.std.specs.Str.{is_utf8}
use Rattle.tree_model.specs.declared.messages.AckMsg.{AckMsg}
use Rattle.tree_model.specs.declared.messages.AckMsg.TheVariants as msg
use Rattle.tree_model.specs.declared.messages.Done.{Done}
use Rattle.tree_model.specs.declared.write.Write.{Write}
use Rattle.message_lists.specs.declared.packed.Head.{Head}
use Rattle.message_lists.specs.declared.packed.Kind.{Kind}
use Rattle.message_lists.specs.declared.packed.Kind.TheVariants as kind
use Rattle.message_lists.specs.declared.packed.Short.{Short}
use Rattle.message_lists.specs.declared.packed.Stock.{Stock}
use Rattle.message_lists.specs.Packed.{AreThere, Grows, IsGrown, IsHead, IsNoteOf, IsPiece, IsThere, IsThereBy, done_by, head_at, no_head, no_note, note_by, note_of, notes_of}
use Rattle.message_lists.proofs.Growing.{grown_item, grown_length, grown_piece}

by_kind : (k l : Stock) → IsGrown k l → (h : Head) (s : Short) (kd : Kind) → IsThereBy k h s kd
    → note_by l h s kd ≡ note_by k h s kd
by_kind k l more h s kind.Whole low = grown_item k.whole.items l.whole.items s.at no_note more.whole low
by_kind k l more h s kind.Bolt low =
    let path = grown_piece k.numbers.items l.numbers.items h.at h.len more.numbers low.0 in
    let made = grown_piece k.ids.items l.ids.items s.at s.len more.ids low.1 in
    λ i. msg.Done (done_by h.root (path i) s.number s.id (made i) h.draw [])
by_kind k l more h s (kind.State state part) low =
    let path = grown_piece k.numbers.items l.numbers.items h.at h.len more.numbers low.0 in
    let key = grown_piece k.keys.items l.keys.items s.at s.len more.keys low.1 in
    λ i. msg.Done (done_by h.root (path i) s.number s.id [] h.draw (record { state = state; part = part; key = key i; amount = s.amount } ∷ []))

there_by : (k l : Stock) → IsGrown k l → (h : Head) (s : Short) (kd : Kind) → IsThereBy k h s kd
    → IsThereBy l h s kd
there_by k l more h s kind.Whole low =
    let n = grown_length k.whole.items l.whole.items more.whole in omega (arith, low)
there_by k l more h s kind.Bolt low =
    let n = grown_length k.numbers.items l.numbers.items more.numbers in
    let m = grown_length k.ids.items l.ids.items more.ids in
    let a = low.0 in
    let b = low.1 in (omega arith, omega arith)
there_by k l more h s (kind.State state part) low =
    let n = grown_length k.numbers.items l.numbers.items more.numbers in
    let m = grown_length k.keys.items l.keys.items more.keys in
    let a = low.0 in
    let b = low.1 in
    (omega arith, omega arith, ap is_utf8 (grown_piece k.keys.items l.keys.items s.at s.len more.keys b) ∙ low.2)

same_head : (k l : Stock) → IsGrown k l → (s : Short) → IsThere k s → head_at l s.head ≡ head_at k s.head
same_head k l more s low = grown_item k.heads.items l.heads.items s.head no_head more.heads low.0

there_of : (k l : Stock) → IsGrown k l → (s : Short) → IsThere k s → IsThere l s
there_of k l more s low =
    let n = grown_length k.heads.items l.heads.items more.heads in
    let few = low.0 in
    (omega arith, subst (λ (h : Head). IsThereBy l h s h.kind) (sym (same_head k l more s low)) (there_by k l more (head_at k s.head) s (head_at k s.head).kind low.1))

same_note : (k l : Stock) → IsGrown k l → (s : Short) → IsThere k s → note_of l s ≡ note_of k s
same_note k l more s low =
    ap (λ (h : Head). note_by l h s h.kind) (same_head k l more s low)
    ∙ by_kind k l more (head_at k s.head) s (head_at k s.head).kind low.1

grows_more : {X : Type 0} (xs ys zs : List X) → Grows xs ys → Grows ys zs → Grows xs zs
grows_more xs ys zs (a, is) (b, then) =
    (a ++ b, then ∙ ap (λ ws. ws ++ b) is ∙ append_assoc xs a b)

-- what grew twice grew
pub grown_twice : (k l m : Stock) → IsGrown k l → IsGrown l m → IsGrown k m
grown_twice k l m a b = record {
  heads = grows_more k.heads.items l.heads.items m.heads.items a.heads b.heads;
  numbers = grows_more k.numbers.items l.numbers.items m.numbers.items a.numbers b.numbers;
  ids = grows_more k.ids.items l.ids.items m.ids.items a.ids b.ids;
  keys = grows_more k.keys.items l.keys.items m.keys.items a.keys b.keys;
  whole = grows_more k.whole.items l.whole.items m.whole.items a.whole b.whole;
}

-- the places stay there
pub kept_there : (k l : Stock) (shorts : List Short) → IsGrown k l → AreThere k shorts
    → AreThere l shorts
kept_there k l [] more all = tt
kept_there k l (s ∷ shorts) more all = (there_of k l more s all.0, kept_there k l shorts more all.1)

-- the messages stay the same
pub kept_notes : (k l : Stock) (shorts : List Short) → IsGrown k l → AreThere k shorts
    → notes_of l shorts ≡ notes_of k shorts
kept_notes k l [] more all = refl
kept_notes k l (s ∷ shorts) more all =
    λ i. same_note k l more s all.0 i ∷ kept_notes k l shorts more all.1 i

-- one more message
pub more_there : (k l : Stock) (shorts : List Short) (s : Short) (m : AckMsg) → IsGrown k l
    → AreThere k shorts → IsNoteOf l m s → AreThere l (shorts ++ s ∷ [])
more_there k l [] s m more all note = (note.there, tt)
more_there k l (r ∷ shorts) s m more all note =
    (there_of k l more r all.0, more_there k l shorts s m more all.1 note)

pub more_notes : (k l : Stock) (shorts : List Short) (s : Short) (m : AckMsg) → IsGrown k l
    → AreThere k shorts → IsNoteOf l m s → notes_of l (shorts ++ s ∷ []) ≡ notes_of k shorts ++ m ∷ []
more_notes k l [] s m more all note = ap (λ (x : AckMsg). x ∷ []) note.is
more_notes k l (r ∷ shorts) s m more all note =
    λ i. same_note k l more r all.0 i ∷ more_notes k l shorts s m more all.1 note i

-- ---- a done of a state

pub state_note : (k : Stock) (done : Done) (parent : List ℕ) (number : ℕ) (write : Write) (s : Short)
    → IsHead k.numbers.items k.heads.items s.head done.root done.draw parent (kind.State write.state write.part)
    → IsPiece k.keys.items s.at s.len write.key → is_utf8 write.key ≡ true
    → s.number ≡ number → s.id ≡ done.consumed.id → s.amount ≡ write.amount
    → done.consumed.path ≡ parent ++ number ∷ [] → done.writes ≡ write ∷ [] → done.produced ≡ []
    → IsNoteOf k (msg.Done done) s
state_note k done parent number write s head key text number_is id_is amount_is path writes produced =
    let h = head_at k s.head in
    let said : note_by k h s (kind.State write.state write.part) ≡ msg.Done (done_by done.root parent number done.consumed.id [] done.draw (write ∷ [])) =
    λ i. msg.Done (done_by (head.root_is i) (head.path.is i) (number_is i) (id_is i) [] (head.draw_is i) (record { state = write.state; part = write.part; key = key.is i; amount = amount_is i } ∷ [])) in
    let own : msg.Done (done_by done.root parent number done.consumed.id [] done.draw (write ∷ [])) ≡ msg.Done done =
    λ i. msg.Done (record { root = done.root; consumed = record { path = sym path i; id = done.consumed.id }; produced = sym produced i; draw = done.draw; writes = sym writes i }) in
    record {
      there = (head.low, subst (IsThereBy k h s) (sym head.kind_is) (head.path.within, key.within, ap is_utf8 key.is ∙ text));
      is = ap (note_by k h s) head.kind_is ∙ said ∙ own;
    }

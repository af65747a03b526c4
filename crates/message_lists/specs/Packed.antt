-- Messages in parts: what siblings share once, and the rest message by message. This project's own.
use Rattle.std.specs.Prelude.{slice_get, option_and_then, ◌≡◌, ◌≤◌, ◌<◌, ℕ, suc, ◌+◌, List, [], ◌∷◌, ◌++◌, true, map, take, drop, get_or, length, Option, None, Some}
use Rattle.std.specs.List.{AllByRecursion}
use Rattle.std.specs.Option.{option_to_list}
use Rattle.std.specs.Str.{IsUtf8, is_utf8}
use Rattle.tree_model.specs.storm_values.declared.value.Root.{Root}
use Rattle.tree_model.specs.tuple_tickets.declared.edge.Edge.{Edge}
use Rattle.tree_model.specs.declared.messages.AckMsg.{AckMsg}
use Rattle.tree_model.specs.declared.messages.AckMsg.TheVariants as msg
use Rattle.tree_model.specs.declared.messages.Done.{Done}
use Rattle.tree_model.specs.declared.messages.Draw.{Draw}
use Rattle.tree_model.specs.declared.messages.FailNote.{FailNote}
use Rattle.tree_model.specs.declared.packed.LentWrite.{LentWrite}
use Rattle.tree_model.specs.declared.write.Write.{Write}
use Rattle.tree_model.specs.Packs.{write_in}
use Rattle.message_lists.specs.declared.lent.LentDone.{LentDone}
use Rattle.message_lists.specs.declared.lent.LentNote.{LentNote}
use Rattle.message_lists.specs.declared.lent.LentNote.TheVariants as lent
use Rattle.message_lists.specs.declared.packed.Head.{Head}
use Rattle.message_lists.specs.declared.packed.Kind.{Kind}
use Rattle.message_lists.specs.declared.packed.Kind.TheVariants as kind
use Rattle.message_lists.specs.declared.packed.Short.{Short}
use Rattle.message_lists.specs.declared.packed.Stock.{Stock}

-- so many items from a place on
abbrev pub piece : {X : Type 0} → List X → ℕ → ℕ → List X
piece xs at len = take len (drop at xs)

-- edges of these ids at the children of a path, from a number on
abbrev pub children_from : List ℕ → ℕ → List ℕ → List Edge
children_from path k [] = []
children_from path k (id ∷ ids) =
    record { path = path ++ k ∷ []; id = id } ∷ children_from path (suc k) ids

-- a done of these parts
abbrev pub done_by : Root → List ℕ → ℕ → ℕ → List ℕ → Draw → List Write → Done
done_by root parent number id produced draw writes = record {
  root = root;
  consumed = record { path = parent ++ number ∷ []; id = id };
  produced = children_from (parent ++ number ∷ []) 0 produced;
  draw = draw;
  writes = writes;
}

-- ---- what is lent

abbrev pub done_lent : LentDone → Done
done_lent d = done_by d.root d.parent.now d.number d.id d.produced.now d.draw
    (map write_in (option_to_list d.write))

abbrev pub note_lent : LentNote → AckMsg
note_lent (lent.Whole note) = note.now
note_lent (lent.Done d) = msg.Done (done_lent d)

-- the key of a write that is lent is a text
abbrev pub HasKeyText : Option LentWrite → Type 0
HasKeyText None = Unit {0}
HasKeyText (Some w) = IsUtf8 w.key.now

abbrev pub HasText : LentNote → Type 0
HasText (lent.Whole note) = Unit {0}
HasText (lent.Done d) = HasKeyText d.write

-- a message, if it is a failure
abbrev pub failure_of : AckMsg → Option FailNote
failure_of (msg.Init m) = None
failure_of (msg.Done m) = None
failure_of (msg.Failed m) = Some m

-- the failure at a place, if one stands there
abbrev pub failure_at : List AckMsg → ℕ → Option FailNote
failure_at list at = option_and_then failure_of (slice_get list at)

-- ---- what is kept

-- in place of a message that is not there
abbrev pub no_note : AckMsg
no_note = msg.Failed (record { root = record { txid = 0; attempt = 0 }; path = [] })

abbrev pub no_head : Head
no_head = record {
  root = record { txid = 0; attempt = 0 };
  draw = record { source = 0; first = 0 };
  at = 0;
  len = 0;
  kind = kind.Whole;
}

-- the message of a head and what is its own, by the head's kind
abbrev pub note_by : Stock → Head → Short → Kind → AckMsg
note_by k h s kind.Whole = get_or k.whole.items s.at no_note
note_by k h s kind.Bolt = msg.Done
    (done_by h.root (piece k.numbers.items h.at h.len) s.number s.id
    (piece k.ids.items s.at s.len) h.draw [])
note_by k h s (kind.State state part) = msg.Done
    (done_by h.root (piece k.numbers.items h.at h.len) s.number s.id [] h.draw
    (record {
      state = state;
      part = part;
      key = piece k.keys.items s.at s.len;
      amount = s.amount;
    } ∷ []))

-- the places that a head and a short name are there, by the head's kind
abbrev pub IsThereBy : Stock → Head → Short → Kind → Type 0
IsThereBy k h s kind.Whole = s.at < length k.whole.items
IsThereBy k h s kind.Bolt =
    (h.at + h.len ≤ length k.numbers.items) × (s.at + s.len ≤ length k.ids.items)
IsThereBy k h s (kind.State state part) =
    (h.at + h.len ≤ length k.numbers.items) × (s.at + s.len ≤ length k.keys.items)
    × (is_utf8 (piece k.keys.items s.at s.len) ≡ true)

abbrev pub head_at : Stock → ℕ → Head
head_at k n = get_or k.heads.items n no_head

abbrev pub note_of : Stock → Short → AckMsg
note_of k s = note_by k (head_at k s.head) s (head_at k s.head).kind

-- a short's places are there
abbrev pub IsThere : Stock → Short → Type 0
IsThere k s = (s.head < length k.heads.items)
    × IsThereBy k (head_at k s.head) s (head_at k s.head).kind

-- the messages of some shorts
abbrev pub notes_of : Stock → List Short → List AckMsg
notes_of k shorts = map (note_of k) shorts

abbrev pub AreThere : Stock → List Short → Type 0
AreThere k shorts = AllByRecursion (IsThere k) shorts

-- ---- steps of a push

abbrev pub ids_in : List Edge → List ℕ
ids_in edges = map (λ (e : Edge). e.id) edges

-- the head of a number is that of whole messages
pub record IsWholeHead (heads : List Head) (k : ℕ) : Type 0 where
  pub low : k < length heads
  pub kind_is : (get_or heads k no_head).kind ≡ kind.Whole

-- behind what was there stands more
abbrev pub Grows : {X : Type 0} → List X → List X → Type 0
Grows {X} before after = (more : List X) × (after ≡ before ++ more)

-- these items are a piece of a list
pub record IsPiece {X : Type 0} (xs : List X) (at len : ℕ) (items : List X) : Type 0 where
  pub within : at + len ≤ length xs
  pub is : piece xs at len ≡ items

-- the head of a number has these parts
pub record IsHead (numbers : List ℕ) (heads : List Head) (k : ℕ) (root : Root) (draw : Draw)
    (parent : List ℕ) (kind : Kind) : Type 0 where
  pub low : k < length heads
  pub root_is : (get_or heads k no_head).root ≡ root
  pub draw_is : (get_or heads k no_head).draw ≡ draw
  pub kind_is : (get_or heads k no_head).kind ≡ kind
  pub path : IsPiece numbers (get_or heads k no_head).at (get_or heads k no_head).len parent

-- each list of what is kept has more behind it
pub record IsGrown (before after : Stock) : Type 0 where
  pub heads : Grows before.heads.items after.heads.items
  pub numbers : Grows before.numbers.items after.numbers.items
  pub ids : Grows before.ids.items after.ids.items
  pub keys : Grows before.keys.items after.keys.items
  pub whole : Grows before.whole.items after.whole.items

-- a message is that of a short, whose places are there
pub record IsNoteOf (k : Stock) (m : AckMsg) (s : Short) : Type 0 where
  pub there : IsThere k s
  pub is : note_of k s ≡ m

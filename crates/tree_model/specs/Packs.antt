-- Writes by the ends of their keys in one buffer. This project's own.
use Rattle.std.specs.Prelude.{◌≡◌, true, ℕ, zero, suc, ◌-◌, ◌==◌, ◌&&◌, nat_le, Bool, List, [], ◌∷◌, take, drop}
use Rattle.std.specs.Str.{IsUtf8, is_utf8}
use Rattle.tree_model.specs.declared.packed.Head.{Head}
use Rattle.tree_model.specs.declared.packed.LentWrite.{LentWrite}
use Rattle.tree_model.specs.declared.write.Write.{Write}

-- the writes of these heads, the key of the first of which begins at a place
abbrev pub packed_from : ℕ → List Head → List ℕ → List Write
packed_from start [] keys = []
packed_from start (h ∷ heads) keys =
    record {
      state = h.state;
      part = h.part;
      key = take (h.end - start) (drop start keys);
      amount = h.amount;
    } ∷ packed_from h.end heads keys

-- whether keys end one behind another, the last one where the buffer ends
abbrev pub end_behind : ℕ → List Head → ℕ → Bool
end_behind start [] all = start == all
end_behind start (h ∷ heads) all =
    nat_le start h.end && (nat_le h.end all && end_behind h.end heads all)

-- where the key at a place begins
abbrev pub begin_at : ℕ → List Head → ℕ → ℕ
begin_at start heads zero = start
begin_at start [] (suc n) = start
begin_at start (h ∷ heads) (suc n) = begin_at h.end heads n

-- a write's key is a text
abbrev pub HasText : Write → Type 0
HasText w = IsUtf8 w.key

-- the same by a test
abbrev pub IsOfText : Write → Type 0
IsOfText w = is_utf8 w.key ≡ true

-- the write whose key is lent
abbrev pub write_in : LentWrite → Write
write_in w = record { state = w.state; part = w.part; key = w.key.now; amount = w.amount }

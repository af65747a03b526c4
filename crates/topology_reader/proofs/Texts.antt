-- The JSON value that bytes spell, where they are UTF-8 and where they are not.
use Rattle.std.proofs.Common.{◌≡◌, ℕ, List, Bool, true, false, Option, Some, None, cond, refl}
use Rattle.std.proofs.lemmas.Str.{IsUtf8-from_is_utf8, is_utf8-from_IsUtf8}
use Rattle.topology_reader.proofs.Common.{IsUtf8, is_utf8, Data, json_of}
use Rattle.serde_json.specs.Read.{read}

pub json_of-read : (bytes : List ℕ) (value : Data) → IsUtf8 bytes → read bytes ≡ Some value → json_of bytes ≡ Some value
unfolding json_of
json_of-read bytes value utf8 is = rw (is_utf8-from_IsUtf8 bytes utf8) is

unread_by : (test : Bool) (read_as : Option Data) → (test ≡ true → read_as ≡ None) → cond test read_as None ≡ None
unread_by true read_as none = none refl
unread_by false read_as none = refl

pub json_of-unread : (bytes : List ℕ) → (IsUtf8 bytes → read bytes ≡ None) → json_of bytes ≡ None
unfolding json_of
json_of-unread bytes none = unread_by (is_utf8 bytes) (read bytes) (λ is. none (IsUtf8-from_is_utf8 bytes is))

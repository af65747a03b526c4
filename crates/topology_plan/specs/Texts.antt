-- What a name is. This project's own.
use Rattle.std.specs.Prelude.{◌≡◌, ℕ, ◌==◌, ◌&&◌, ◌||◌, List, [], ◌∷◌, length, Bool, true, false, nat_le}
use Rattle.std.specs.List.{list_all}
use Rattle.storm_values.specs.Limits.{most_name_bytes}

-- from the least to the most, both included
abbrev pub is_between : ℕ → ℕ → ℕ → Bool
is_between n least most = nat_le least n && nat_le n most

-- `a` to `z`
abbrev pub is_letter : ℕ → Bool
is_letter byte = is_between byte 97 122

-- a letter, a digit, `_` or `-`
abbrev pub is_name_byte : ℕ → Bool
is_name_byte byte = is_letter byte || is_between byte 48 57 || byte == 95 || byte == 45

-- there is a first byte, and it is a letter
abbrev pub begins_with_letter : List ℕ → Bool
begins_with_letter [] = false
begins_with_letter (byte ∷ bytes) = is_letter byte

-- 1 to 32 bytes of `a` to `z`, `0` to `9`, `_` and `-`, the first a letter
abbrev pub is_name : List ℕ → Bool
is_name bytes =
    is_between (length bytes) 1 most_name_bytes && begins_with_letter bytes
    && list_all is_name_byte bytes

-- the same as a fact
unfoldable pub IsName : List ℕ → Type 0
IsName bytes = is_name bytes ≡ true

-- Values of roots, as contracts see them: one list in the order in which they were put.
-- After Storm's `RotatingMap`.
use Rattle.std.specs.Prelude.{◌≡◌, ℕ, ◌+◌, ◌<◌, ◌==◌, ◌&&◌, nat_lt, Bool, true, false, if◌then◌else◌, Option, None, Some, List, [], ◌∷◌, ◌++◌, refl}
use Rattle.std.specs.List.{AllByRecursion}
use Rattle.std.specs.Coded.{Coded, code_by, coded×, coded_ℕ, coded_list}
use Rattle.storm_values.specs.declared.value.Root.{Root}

-- a value of a root, and how many rotations there were since it was put
pub record Held (V : Type 0) : Type 0 where
  pub root : Root
  pub age : ℕ
  pub value : V

-- the values that are held, in the order in which they were put, and the number of buckets
pub record Rotation (V : Type 0) : Type 0 where
  pub buckets : ℕ
  pub held : List (Held V)

-- a value is stored as the tuple of its fields, and all of them with the number of buckets
abbrev pub root_code : Coded Root
root_code =
    code_by (ℕ × ℕ) (coded× coded_ℕ coded_ℕ) (λ r. (r.txid, r.attempt))
    (λ p. record { txid = p.0; attempt = p.1 }) (λ _. refl)

abbrev pub held_code : {V : Type 0} → Coded V → Coded (Held V)
held_code {V} code =
    code_by
    (Root × (ℕ × V))
    (coded× root_code (coded× coded_ℕ code))
    (λ h. (h.root, (h.age, h.value)))
    (λ p. record { root = p.0; age = p.1.0; value = p.1.1 })
    (λ _. refl)

abbrev pub rotation_code : {V : Type 0} → Coded V → Coded (Rotation V)
rotation_code {V} code =
    code_by
    (ℕ × List (Held V))
    (coded× coded_ℕ (coded_list (held_code code)))
    (λ r. (r.buckets, r.held))
    (λ p. record { buckets = p.0; held = p.1 })
    (λ _. refl)

-- the same transaction and attempt
abbrev pub root_eq : Root → Root → Bool
root_eq a b = (a.txid == b.txid) && (a.attempt == b.attempt)

module _ {V : Type 0} where
  abbrev pub held_at : ℕ → Root → V → Held V
  held_at age root value = record { root = root; age = age; value = value }

  -- the value of a root, if it is held
  abbrev pub value_of : Root → List (Held V) → Option V
  value_of root [] = None
  value_of root (h ∷ hs) = if root_eq root h.root then Some h.value else value_of root hs

  -- its age with its value, if it is held
  abbrev pub entry_of : Root → List (Held V) → Option (ℕ × V)
  entry_of root [] = None
  entry_of root (h ∷ hs) =
      if root_eq root h.root then Some (h.age, h.value) else entry_of root hs

  -- the others, where the root is held
  abbrev pub without : Root → List (Held V) → List (Held V)
  without root [] = []
  without root (h ∷ hs) = if root_eq root h.root then hs else h ∷ without root hs

  -- with another value of the root, where it is held; its age stays
  abbrev pub with_value : Root → List (Held V) → V → List (Held V)
  with_value root [] value = []
  with_value root (h ∷ hs) value =
      if root_eq root h.root then record h { value = value } ∷ hs else h ∷ with_value root hs value

  -- after one more rotation: those that were there for as many rotations as there are buckets are
  -- gone
  abbrev pub rotated : ℕ → List (Held V) → List (Held V)
  rotated buckets [] = []
  rotated buckets (h ∷ hs) =
      if nat_lt (h.age + 1) buckets then record h { age = h.age + 1 } ∷ rotated buckets hs
      else rotated buckets hs

  -- an age and value after one more rotation, by themselves
  abbrev pub aged : ℕ → Option (ℕ × V) → Option (ℕ × V)
  aged buckets None = None
  aged buckets (Some entry) =
      if nat_lt (entry.0 + 1) buckets then Some (entry.0 + 1, entry.1) else None

  -- the roots and values that go at one more rotation, in the order in which they were put
  abbrev pub dropped : ℕ → List (Held V) → List (Root × V)
  dropped buckets [] = []
  dropped buckets (h ∷ hs) =
      if nat_lt (h.age + 1) buckets then dropped buckets hs
      else (h.root, h.value) ∷ dropped buckets hs

  -- a root's value changes, and keeps its age, where it has one, and else it is put
  abbrev pub entered : Root → Option V → V → List (Held V) → List (Held V)
  entered root None value held = held ++ held_at 0 root value ∷ []
  entered root (Some before) value held = with_value root held value

  -- the same, but the value goes at once where it tells something
  abbrev pub settled : Root → Option V → V → List (Held V) → Bool → List (Held V)
  settled root before value held false = entered root before value held
  settled root before value held true = without root held

  -- ---- what is true of all that are held

  -- no root is held twice
  abbrev pub AreHeldOnce : List (Held V) → Type 0
  AreHeldOnce [] = Unit {0}
  AreHeldOnce (h ∷ hs) = (value_of h.root hs ≡ None) × AreHeldOnce hs

  -- each was put fewer rotations ago than there are buckets
  abbrev pub AreYoung : ℕ → List (Held V) → Type 0
  AreYoung buckets held = AllByRecursion (λ (h : Held V). h.age < buckets) held

-- What is noted of each record, and the calls on its root.
use Rattle.std.proofs.Common.{◌≡◌, ◌≢◌, ℕ, zero, suc, ◌+◌, ◌-◌, ◌<◌, ◌≤◌, ◌==◌, ◌&&◌, Bool, true, false, cond, true≢false, List, [], ◌∷◌, ◌++◌, map, filter, fold, get_or, set, length, replicate, length-set, append_assoc, append-nil, refl, sym, ap, subst, ◌∙◌, eqb-true, eq-eqb, arith}
use Rattle.std.proofs.lemmas.Bool.{ne_eqb}
use Rattle.std.proofs.lemmas.List.{get_or-set_same, get_or-set_other, length-replicate}
use Rattle.std.specs.List.{AllByRecursion}
use Rattle.tree_model.proofs.counted_items.Equality.{and-true}
use Rattle.tree_model.proofs.tuple_tickets.Roots.{root_itself, same_root}
use Rattle.ledger_words.specs.Notes.{call_at, calls_at}
use Rattle.shared_ledger.specs.declared.rule.Call.{Call}
use Rattle.tree_model.specs.storm_values.declared.value.Root.{Root}
use Rattle.tree_model.specs.tuple_tickets.Roots.{root_eq}
use Rattle.tree_model.specs.declared.messages.AckMsg.{AckMsg}
use Rattle.tree_model.specs.declared.messages.AckMsg.TheVariants as msg
use Rattle.tree_model.specs.Lists.{root_of}
use Rattle.tuple_account.specs.Accounts.{notes_about}
use Rattle.window_account.specs.Noted.{root_at}
use Rattle.window_account.specs.Calls.{IsAmong, call_of, noted, number_of}

-- a root of the window is that of the record at its place, and of no other
module _ (count attempt i : ℕ) (root : Root) (among : IsAmong count attempt root) where
  pub its_root : root_eq root (root_at attempt i) ≡ true → number_of root ≡ i
  its_root same = let t = ap (λ (q : Root). q.txid) (same_root root (root_at attempt i) same) in omega (arith, t)

  pub its_place : number_of root ≡ i → root_eq root (root_at attempt i) ≡ true
  its_place place =
      let low = among.least in
      let t : root.txid ≡ suc i = omega (arith, place, low) in
      rw (eq-eqb root.txid (suc i) t, eq-eqb root.attempt attempt among.attempt_is) refl

  pub same_test : (number_of root == i) ≡ root_eq root (root_at attempt i)
  same_test = by (root_eq root (root_at attempt i)) refl
    where
      by : (b : Bool) → root_eq root (root_at attempt i) ≡ b → (number_of root == i) ≡ b
      by true is = eq-eqb (number_of root) i (its_root is)
      by false is = ne_eqb (number_of root) i (λ place. true≢false (sym (its_place place) ∙ is))

-- ---- lists by their places

pub noted_length : (lists : List (List AckMsg)) (m : AckMsg) → length (noted lists m) ≡ length lists
noted_length lists m = length-set lists (number_of (root_of m)) (get_or lists (number_of (root_of m)) [] ++ m ∷ [])

pub noted_all_length : (lists : List (List AckMsg)) (ms : List AckMsg) → length (fold noted lists ms) ≡ length lists
noted_all_length lists [] = refl
noted_all_length lists (m ∷ ms) = noted_all_length (noted lists m) ms ∙ noted_length lists m

same_place : (lists : List (List AckMsg)) (m : AckMsg) (k i : ℕ) → k ≡ i → k < length lists → get_or (set lists k (get_or lists k [] ++ m ∷ [])) i [] ≡ get_or lists i [] ++ m ∷ []
same_place lists m k i same there =
    subst (λ (n : ℕ). get_or (set lists k (get_or lists k [] ++ m ∷ [])) n [] ≡ get_or lists n [] ++ m ∷ []) same
    (get_or-set_same lists k (get_or lists k [] ++ m ∷ []) [] there)

module _ (count attempt i : ℕ) (within : i < count) where
  noted_one : (lists : List (List AckMsg)) (m : AckMsg) (ms : List AckMsg) → length lists ≡ count → IsAmong count attempt (root_of m)
      → get_or (noted lists m) i [] ++ notes_about (root_at attempt i) ms ≡ get_or lists i [] ++ notes_about (root_at attempt i) (m ∷ ms)
  noted_one lists m ms long among = by (root_eq (root_of m) (root_at attempt i)) refl
    where
      by : (b : Bool) → root_eq (root_of m) (root_at attempt i) ≡ b
          → get_or (noted lists m) i [] ++ notes_about (root_at attempt i) ms ≡ get_or lists i [] ++ cond b (m ∷ notes_about (root_at attempt i) ms) (notes_about (root_at attempt i) ms)
      by true is =
          let place = its_root count attempt i (root_of m) among is in
          ap (λ (l : List AckMsg). l ++ notes_about (root_at attempt i) ms) (same_place lists m (number_of (root_of m)) i place (omega (arith, place, within, long)))
          ∙ append_assoc (get_or lists i []) (m ∷ []) (notes_about (root_at attempt i) ms)
      by false is =
          let apart : number_of (root_of m) ≢ i = λ place. true≢false (sym (its_place count attempt i (root_of m) among place) ∙ is) in
          ap (λ (l : List AckMsg). l ++ notes_about (root_at attempt i) ms) (get_or-set_other lists (number_of (root_of m)) i (get_or lists (number_of (root_of m)) [] ++ m ∷ []) [] (λ same. apart (sym same)))

  noted_at : (lists : List (List AckMsg)) (ms : List AckMsg) → length lists ≡ count → AllByRecursion (λ (m : AckMsg). IsAmong count attempt (root_of m)) ms
      → get_or (fold noted lists ms) i [] ≡ get_or lists i [] ++ notes_about (root_at attempt i) ms
  noted_at lists [] long all = sym (append-nil (get_or lists i []))
  noted_at lists (m ∷ ms) long all = noted_at (noted lists m) ms (noted_length lists m ∙ long) all.1 ∙ noted_one lists m ms long all.0

  get_or-replicate_same : {X : Type 0} (n k : ℕ) (x : X) → get_or (replicate n x) k x ≡ x
  get_or-replicate_same zero k x = refl
  get_or-replicate_same (suc n) zero x = refl
  get_or-replicate_same (suc n) (suc k) x = get_or-replicate_same n k x

  -- the messages of the record at a place
  pub noted_are : (ms : List AckMsg) → AllByRecursion (λ (m : AckMsg). IsAmong count attempt (root_of m)) ms → get_or (fold noted (replicate count []) ms) i [] ≡ notes_about (root_at attempt i) ms
  noted_are ms all =
      noted_at (replicate count []) ms (length-replicate count []) all
      ∙ ap (λ (l : List AckMsg). l ++ notes_about (root_at attempt i) ms) (get_or-replicate_same {X = List AckMsg} count i [])

-- ---- calls

on_root : (n : ℕ) (m : AckMsg) → (call_at n m).root ≡ n
on_root n (msg.Init m) = refl
on_root n (msg.Done m) = refl
on_root n (msg.Failed m) = refl

-- the calls on a record's root are those of its messages
pub calls_are : (count attempt i : ℕ) (ms : List AckMsg) → AllByRecursion (λ (m : AckMsg). IsAmong count attempt (root_of m)) ms
    → filter (λ (c : Call). c.root == i) (map call_of ms) ≡ calls_at i (notes_about (root_at attempt i) ms)
calls_are count attempt i [] all = refl
calls_are count attempt i (m ∷ ms) all = by (root_eq (root_of m) (root_at attempt i)) refl (calls_are count attempt i ms all.1)
  where
    later : List Call
    later = filter (λ (c : Call). c.root == i) (map call_of ms)

    by : (b : Bool) → root_eq (root_of m) (root_at attempt i) ≡ b → filter (λ (c : Call). c.root == i) (map call_of ms) ≡ calls_at i (notes_about (root_at attempt i) ms)
        → cond ((call_of m).root == i) (call_of m ∷ filter (λ (c : Call). c.root == i) (map call_of ms)) (filter (λ (c : Call). c.root == i) (map call_of ms))
        ≡ calls_at i (cond b (m ∷ notes_about (root_at attempt i) ms) (notes_about (root_at attempt i) ms))
    by b is rest = choose b (ap (λ (n : ℕ). n == i) (on_root (number_of (root_of m)) m) ∙ same_test count attempt i (root_of m) all.0 ∙ is) is rest
      where
        choose : (b : Bool) → ((call_of m).root == i) ≡ b → root_eq (root_of m) (root_at attempt i) ≡ b → filter (λ (c : Call). c.root == i) (map call_of ms) ≡ calls_at i (notes_about (root_at attempt i) ms)
            → cond ((call_of m).root == i) (call_of m ∷ filter (λ (c : Call). c.root == i) (map call_of ms)) (filter (λ (c : Call). c.root == i) (map call_of ms))
            ≡ calls_at i (cond b (m ∷ notes_about (root_at attempt i) ms) (notes_about (root_at attempt i) ms))
        choose true here is rest = rw here (λ j. ap (λ (n : ℕ). call_at n m) (its_root count attempt i (root_of m) all.0 is) j ∷ rest j)
        choose false here is rest = rw here rest

-- What an opaque part knows, after a look at each key and after a commit.
use Rattle.std.proofs.Common.{◌≡◌, ◌<◌, ◌==◌, inl, inr, ℕ, ℤ, Bool, true, false, true≢false, ◌&&◌, ◌||◌, cond, List, [], ◌∷◌, ◌++◌, map, length, Option, None, Some, Result, Ok, Err, OnOk, OnErr, IfSome, is_some, find, option_map, refl, sym, ap, subst, ◌∙◌, nat_cmp, arith}
use Rattle.std.specs.Cmp.Lexicographic.{slice_cmp}
use Rattle.std.specs.List.{AllByRecursion, list_any}
use Rattle.std.specs.List.Sorted.{IsStrictlySortedBy}
use Rattle.std.specs.Map.{keys_of}
use Rattle.std.specs.Ordering.{is_eq}
use Rattle.std.specs.declared.cmp.Ordering.TheVariants.{Less}
use Rattle.std.specs.Str.{bytes_eq}
use Rattle.std.proofs.lemmas.Bool.Decides.{nat_tests}
use Rattle.std.proofs.lemmas.List.Kept.{IsStrictlySortedBy-filter}
use Rattle.std.proofs.lemmas.Map.Text.{is_eq-slice_cmp}
use Rattle.std.proofs.lemmas.Map.Views.{any-filter_same}
use Rattle.std.proofs.lemmas.Slice.Eq.{bytes_eq-Decides}
use Rattle.tree_model.specs.Tables.{Folding}
use Rattle.tree_model.specs.storm_values.declared.value.Root.{Root}
use Rattle.tree_model.specs.topology_plan.declared.parts.Kind.{Kind}
use Rattle.tree_model.specs.topology_plan.declared.parts.Kind.TheVariants.{Opaque}
use Rattle.storm_stores.specs.CellMaps.{CellMap, InKeyOrder, cell_at}
use Rattle.cell_format.specs.Commits.{Holds, again, after, anew}
use Rattle.cell_format.specs.declared.cell.Cell.{Cell}
use Rattle.cell_format.proofs.CommitLemmas.{Holds-one}
use Rattle.storm_stores.specs.declared.key.KeyBytes.{KeyBytes}
use Rattle.state_cells.specs.Groups.{Group, job_of, restores_in}
use Rattle.state_cells.specs.Known.{AreKnown, FollowsFrom, IsAfter, IsKnownAt, IsListedOf, Knows, keys_in}
use Rattle.state_cells.specs.Scans.{IsNotLater, carriers, carries_of, is_carrier}
use Rattle.state_cells.specs.Turns.{AreApart, AreOnce, IsListed, IsPerhapsWorked, IsWorked, Turns, job_at, Job}
use Rattle.state_cells.specs.declared.known.Known.{Known}
use Rattle.state_cells.proofs.ScanLemmas.{Scanned, Scanned-end, carrier_is}

-- ---- the keys of a transaction

once_if_sorted : (keys : List (List ℕ)) → IsStrictlySortedBy (slice_cmp nat_cmp) keys → AreOnce keys
unfolding IsStrictlySortedBy
once_if_sorted [] sorted = tt
once_if_sorted (k ∷ ks) sorted = (λ listed. true≢false (sym listed ∙ none k ks sorted.0), once_if_sorted ks sorted.1)
  where
    none : (key : List ℕ) (keys : List (List ℕ)) → AllByRecursion (λ y. slice_cmp nat_cmp key y ≡ Less) keys → list_any (bytes_eq key) keys ≡ false
    none key [] below = refl
    none key (y ∷ ys) below =
        let apart : bytes_eq key y ≡ false = sym (is_eq-slice_cmp key y) ∙ ap is_eq below.0 in
        rw apart (none key ys below.1)

carriers_once : (txid : ℕ) (cells : CellMap) → InKeyOrder cells → AreOnce (carriers txid cells)
carriers_once txid cells sorted = once_if_sorted (carriers txid cells) (IsStrictlySortedBy-filter (slice_cmp nat_cmp) (λ key. is_carrier txid (cell_at cells key)) (keys_of cells) sorted)

key_listed : (cells : CellMap) (key bytes : List ℕ) → cell_at cells key ≡ Some bytes → list_any (bytes_eq key) (keys_of cells) ≡ true
key_listed [] key bytes is = absurd (let e : ◌≡◌ {A = Option (List ℕ)} None (Some bytes) = is in cc)
key_listed (e ∷ es) key bytes is = cases (bytes_eq key e.0) is (key_listed es key bytes)
  where
    cases : (b : Bool) → cond b (Some e.1) (cell_at es key) ≡ Some bytes → (cell_at es key ≡ Some bytes → list_any (bytes_eq key) (keys_of es) ≡ true) → (b || list_any (bytes_eq key) (keys_of es)) ≡ true
    cases true found later = refl
    cases false found later = later found

carriers_listed : (txid : ℕ) (cells : CellMap) (key : List ℕ) → is_carrier txid (cell_at cells key) ≡ list_any (bytes_eq key) (carriers txid cells)
carriers_listed txid cells key = cases (cell_at cells key) refl
  where
    row : list_any (bytes_eq key) (carriers txid cells) ≡ (is_carrier txid (cell_at cells key) && list_any (bytes_eq key) (keys_of cells))
    row = any-filter_same (bytes_eq key) (λ k. is_carrier txid (cell_at cells k)) (is_carrier txid (cell_at cells key)) (λ k same. ap (λ x. is_carrier txid (cell_at cells x)) (sym ((bytes_eq-Decides key k).0 same))) (keys_of cells)

    and_true : (b : Bool) → b ≡ (b && true)
    and_true true = refl
    and_true false = refl

    cases : (held : Option (List ℕ)) → cell_at cells key ≡ held → is_carrier txid (cell_at cells key) ≡ list_any (bytes_eq key) (carriers txid cells)
    cases None is = ap (is_carrier txid) is ∙ sym (row ∙ ap (λ h. is_carrier txid h && list_any (bytes_eq key) (keys_of cells)) is)
    cases (Some bytes) is = and_true (is_carrier txid (cell_at cells key)) ∙ ap (λ b. is_carrier txid (cell_at cells key) && b) (sym (key_listed cells key bytes is)) ∙ sym row

listed_if_carried : (txid : ℕ) (cells : CellMap) (key : List ℕ) (cell : Option Cell) → Holds Opaque (cell_at cells key) cell → IsListedOf txid (carriers txid cells) key cell
listed_if_carried txid cells key None holds = tt
listed_if_carried txid cells key (Some c) holds = λ is.
    let same : (c.txid == txid) ≡ true = grind (arith, nat_tests) in
    sym (carriers_listed txid cells key) ∙ carrier_is Opaque txid (cell_at cells key) (Some c) holds ∙ same

pub known_of_scan : (txid : ℕ) (cells : CellMap) (n : ℕ) (keys : List (List ℕ)) (newest : Bool) → n ≡ length cells → InKeyOrder cells → Scanned Opaque txid cells n keys newest → AreKnown txid newest keys cells
known_of_scan txid cells n keys newest all sorted seen =
    let end = Scanned-end Opaque txid cells n keys newest all seen in
    subst (λ (xs : List (List ℕ)). AreKnown txid newest xs cells) (sym end.0) (record {
      once = carriers_once txid cells sorted;
      at = λ key. let x = end.1 key in record {
        cell = x.0;
        holds = x.1;
        listed = listed_if_carried txid cells key x.0 x.1;
        within = x.2;
      };
    })

-- ---- from one transaction to a later one

pub known_later : (old new : ℕ) (keys : List (List ℕ)) (cells : CellMap) → old < new → AreKnown old true keys cells → AreKnown new true [] cells
known_later old new keys cells less known = record {
  once = tt;
  at = λ key. let x = known.at key in record {
    cell = x.cell;
    holds = x.holds;
    listed = none x.cell key (x.within refl);
    within = λ _. later x.cell (x.within refl);
  };
}
  where
    none : (cell : Option Cell) (key : List ℕ) → IsNotLater old cell → IsListedOf new [] key cell
    none None key is = tt
    none (Some c) key is = λ same. absurd (omega (arith, less, is, same))

    later : (cell : Option Cell) → IsNotLater old cell → IsNotLater new cell
    later None is = tt
    later (Some c) is = omega (arith, less, is)

pub knows_from : {S : Type 0} (tells : S → CellMap → Type 0) (store : S) (known : Option Known) (now : Known) → IfSome known (Knows tells store) → FollowsFrom known now → Knows tells store now
knows_from tells store None now knows follows = absurd follows
knows_from tells store (Some known) now knows follows = λ cells told. follows cells (knows cells told)

-- ---- the keys of jobs

pub job_listed : (jobs : List Job) (key : List ℕ) → list_any (bytes_eq key) (keys_in jobs) ≡ is_some (job_at jobs key)
job_listed [] key = refl
job_listed (j ∷ js) key = cases (bytes_eq key j.key) (job_listed js key)
  where
    cases : (b : Bool) → list_any (bytes_eq key) (keys_in js) ≡ is_some (job_at js key)
        → (b || list_any (bytes_eq key) (keys_in js)) ≡ is_some (option_map (λ (x : Job). x.amounts) (cond b (Some j) (find (λ (x : Job). bytes_eq key x.key) js)))
    cases true later = refl
    cases false later = later

pub keys_once : (jobs : List Job) → AreApart jobs → AreOnce (keys_in jobs)
keys_once [] apart = tt
keys_once (j ∷ js) apart = (λ listed. true≢false (sym listed ∙ job_listed js j.key ∙ ap is_some apart.0), keys_once js apart.1)

-- a key that is not listed has no cell of the transaction
pub not_carrier : (txid : ℕ) (keys : List (List ℕ)) (key : List ℕ) (cell : Option Cell) → IsListedOf txid keys key cell → list_any (bytes_eq key) keys ≡ false → carries_of txid cell ≡ false
not_carrier txid keys key None listed none = refl
not_carrier txid keys key (Some c) listed none = cases (c.txid == txid) refl
  where
    cases : (b : Bool) → (c.txid == txid) ≡ b → (c.txid == txid) ≡ false
    cases false is = is
    cases true is = absurd (true≢false (sym (listed (grind (arith, nat_tests))) ∙ none))

-- ---- a commit

module _ (by : Folding) (root : Root) (newest : Bool) (keys : List (List ℕ)) where
  -- a cell that the commit made of one that was not later
  made_within : (amounts : List ℤ) (cell : Option Cell) → IsNotLater root.txid cell → IsNotLater root.txid (after Opaque by root amounts cell)
  made_within [] None is = tt
  made_within (a ∷ rest) None is = omega arith
  made_within amounts (Some c) is = cases (c.txid == root.txid) amounts
    where
      cases : (b : Bool) (xs : List ℤ) → IsNotLater root.txid (cond b (Some (again Opaque by root.attempt xs c)) (anew Opaque by root xs (Some c)))
      cases true xs = is
      cases false [] = is
      cases false (a ∷ rest) = omega arith

  listed_cell : (key : List ℕ) (cell : Option Cell) → IsListed keys key → IsListedOf root.txid keys key cell
  listed_cell key None listed = tt
  listed_cell key (Some c) listed = λ _. listed

  known_at : (key : List ℕ) (o : Option (List ℤ)) (old new : Option (List ℕ)) → is_some o ≡ list_any (bytes_eq key) keys → IsKnownAt root.txid newest keys key old → IsPerhapsWorked Opaque by root o old new → IsKnownAt root.txid newest keys key new
  known_at key None old new listed known same = subst (IsKnownAt root.txid newest keys key) (sym same) known
  known_at key (Some amounts) old new listed known (inl same) = subst (IsKnownAt root.txid newest keys key) (sym same) known
  known_at key (Some amounts) old new listed known (inr commits) = record {
    cell = after Opaque by root amounts commits.cell;
    holds = commits.is;
    listed = listed_cell key (after Opaque by root amounts commits.cell) (sym listed);
    within = λ is. made_within amounts commits.cell (subst (IsNotLater root.txid) (Holds-one Opaque old known.cell commits.cell known.holds commits.was) (known.within is));
  }

pub known_worked : (by : Folding) (root : Root) (newest : Bool) (jobs : List Job) (cells after : CellMap) → AreKnown root.txid newest (keys_in jobs) cells
    → ((key : List ℕ) → IsPerhapsWorked Opaque by root (job_at jobs key) (cell_at cells key) (cell_at after key)) → AreKnown root.txid newest (keys_in jobs) after
known_worked by root newest jobs cells after known worked = record {
  once = known.once;
  at = λ key. known_at by root newest (keys_in jobs) key (job_at jobs key) (cell_at cells key) (cell_at after key) (sym (job_listed jobs key)) (known.at key) (worked key);
}

perhaps : (kind : Kind) (by : Folding) (root : Root) (o : Option (List ℤ)) (old new : Option (List ℕ)) → IsWorked kind by root o old new → IsPerhapsWorked kind by root o old new
perhaps kind by root None old new worked = worked
perhaps kind by root (Some amounts) old new worked = inr worked

module _ {S T E : Type 0} (tells : S → CellMap → Type 0) (one_map : (s : S) (m n : CellMap) → tells s m → tells s n → m ≡ n) (kind : Kind) (by : Folding) (root : Root) (newest : Bool) (jobs : List Job) (a b c : S) (r : Result T E) where
  either : OnOk r (AreApart jobs → Turns tells (λ key. IsWorked kind by root (job_at jobs key)) b c) → OnErr r (AreApart jobs → Turns tells (λ key. IsPerhapsWorked kind by root (job_at jobs key)) b c)
      → AreApart jobs → Turns tells (λ key. IsPerhapsWorked kind by root (job_at jobs key)) b c
  either on_ok on_err = cases r on_ok on_err
    where
      cases : (x : Result T E) → OnOk x (AreApart jobs → Turns tells (λ key. IsWorked kind by root (job_at jobs key)) b c) → OnErr x (AreApart jobs → Turns tells (λ key. IsPerhapsWorked kind by root (job_at jobs key)) b c)
          → AreApart jobs → Turns tells (λ key. IsPerhapsWorked kind by root (job_at jobs key)) b c
      cases (Ok x) on_ok on_err = λ apart. record {
        to = λ m told. let y = (on_ok apart).to m told in (y.0, y.1, λ key. perhaps kind by root (job_at jobs key) (cell_at m key) (cell_at y.0 key) (y.2 key));
      }
      cases (Err e) on_ok on_err = on_err

  pub knows_after : (known : Option Known) → IfSome known (IsAfter kind root.txid newest jobs)
      → ((m : CellMap) → tells a m → AreApart jobs) → (kind ≡ Opaque → (m : CellMap) → tells a m → AreKnown root.txid newest (keys_in jobs) m) → ((m : CellMap) → tells b m → tells a m)
      → OnOk r (AreApart jobs → Turns tells (λ key. IsWorked kind by root (job_at jobs key)) b c) → OnErr r (AreApart jobs → Turns tells (λ key. IsPerhapsWorked kind by root (job_at jobs key)) b c)
      → ((m : CellMap) → tells c m → (n : CellMap) × tells b n) → IfSome known (Knows tells c)
  knows_after None is apart known before on_ok on_err told_before = tt
  knows_after (Some now) is apart known before on_ok on_err told_before = λ m told.
      let x = told_before m told in
      let y = (either on_ok on_err (apart x.0 (before x.0 x.1))).to x.0 x.1 in
      let same : y.0 ≡ m = one_map c y.0 m y.1 told in
      let worked : (key : List ℕ) → IsPerhapsWorked Opaque by root (job_at jobs key) (cell_at x.0 key) (cell_at y.0 key)
      = subst (λ (k : Kind). (key : List ℕ) → IsPerhapsWorked k by root (job_at jobs key) (cell_at x.0 key) (cell_at y.0 key)) is.kind_is y.2 in
      let there : AreKnown root.txid newest (keys_in jobs) m = subst (AreKnown root.txid newest (keys_in jobs)) same (known_worked by root newest jobs x.0 y.0 (known is.kind_is x.0 (before x.0 x.1)) worked) in
      rw (is.txid_is, is.newest_is, is.keys_are) there

-- ---- the keys that are written, and then the others

pub keys-jobs : (groups : List Group) → map (λ (k : KeyBytes). k.bytes.now) (keys_of groups) ≡ keys_in (map job_of groups)
keys-jobs [] = refl
keys-jobs (e ∷ es) = ap (λ (ks : List (List ℕ)). e.0.bytes.now ∷ ks) (keys-jobs es)

pub keys-whole : (jobs : List Job) (keys : List (List ℕ)) → keys_in jobs ++ keys ≡ keys_in (jobs ++ restores_in keys)
keys-whole [] [] = refl
keys-whole [] (k ∷ ks) = ap (λ (xs : List (List ℕ)). k ∷ xs) (keys-whole [] ks)
keys-whole (j ∷ js) keys = ap (λ (xs : List (List ℕ)). j.key ∷ xs) (keys-whole js keys)

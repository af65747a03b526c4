-- Commits and their changes.
use Rattle.std.proofs.Common.{◌≡◌, ◌≢◌, ◌≤◌, ℕ, zero, suc, ◌+◌, fold, List, [], ◌∷◌, ◌++◌, map, length, take, drop, sym, refl, ap, ◌∙◌, arith}
use Rattle.tree_model.specs.declared.write.Write.{Write}
use Rattle.state_reader.specs.declared.change.Change.{Change}
use Rattle.state_reader.specs.declared.change.Change.TheVariants as change
use Rattle.state_reader.specs.Views.{Begins}
use Rattle.state_reader.specs.Commits.{Commit, changes_of, writes_in, ends_in, writes_of_all}

pub append_assoc : {X : Type 0} (xs ys zs : List X) → (xs ++ ys) ++ zs ≡ xs ++ (ys ++ zs)
append_assoc [] ys zs = refl
append_assoc (x ∷ xs) ys zs = ap (λ r. x ∷ r) (append_assoc xs ys zs)

-- ---- one more change

pub writes_more : (cs : List Change) (p : Write) → writes_in (cs ++ change.Write p ∷ []) ≡ writes_in cs ++ p ∷ []
writes_more [] p = refl
writes_more (change.Write q ∷ cs) p = ap (λ ps. q ∷ ps) (writes_more cs p)
writes_more (change.End ∷ cs) p = writes_more cs p

pub writes_end : (cs : List Change) → writes_in (cs ++ change.End ∷ []) ≡ writes_in cs
writes_end [] = refl
writes_end (change.Write q ∷ cs) = ap (λ ps. q ∷ ps) (writes_end cs)
writes_end (change.End ∷ cs) = writes_end cs

pub ends_more : (cs : List Change) (p : Write) → ends_in (cs ++ change.Write p ∷ []) ≡ ends_in cs
ends_more [] p = refl
ends_more (change.Write q ∷ cs) p = ends_more cs p
ends_more (change.End ∷ cs) p = ap (λ (n : ℕ). 1 + n) (ends_more cs p)

pub ends_end : (cs : List Change) → ends_in (cs ++ change.End ∷ []) ≡ ends_in cs + 1
ends_end [] = refl
ends_end (change.Write q ∷ cs) = ends_end cs
ends_end (change.End ∷ cs) = let e = ends_end cs in omega arith

-- ---- the changes of some commits

writes-commit : (c : Commit) (rest : List Change) → writes_in (map change.Write c ++ change.End ∷ rest) ≡ c ++ writes_in rest
writes-commit [] rest = refl
writes-commit (p ∷ c) rest = ap (λ ps. p ∷ ps) (writes-commit c rest)

ends-commit : (c : Commit) (rest : List Change) → ends_in (map change.Write c ++ change.End ∷ rest) ≡ 1 + ends_in rest
ends-commit [] rest = refl
ends-commit (p ∷ c) rest = ends-commit c rest

pub writes_changes : (cs : List Commit) → writes_in (changes_of cs) ≡ writes_of_all cs
writes_changes [] = refl
writes_changes (c ∷ cs) = writes-commit c (changes_of cs) ∙ ap (λ ps. c ++ ps) (writes_changes cs)

pub ends_changes : (cs : List Commit) → ends_in (changes_of cs) ≡ length cs
ends_changes [] = refl
ends_changes (c ∷ cs) = ends-commit c (changes_of cs) ∙ (let e = ends_changes cs in omega arith)

-- one more commit
pub changes_more : (cs : List Commit) (c : Commit) → changes_of (cs ++ c ∷ []) ≡ changes_of cs ++ (map change.Write c ++ change.End ∷ [])
changes_more [] c = refl
changes_more (d ∷ cs) c =
    ap (λ (rest : List Change). map change.Write d ++ change.End ∷ rest) (changes_more cs c)
    ∙ sym (append_assoc (map change.Write d) (change.End ∷ changes_of cs) (map change.Write c ++ change.End ∷ []))

-- changes are of one list of commits
same_commit : (c d : Commit) (cs ds : List Change) → map change.Write c ++ change.End ∷ cs ≡ map change.Write d ++ change.End ∷ ds → (c ≡ d) × (cs ≡ ds)
same_commit [] [] cs ds e = (refl, cc)
same_commit [] (q ∷ d) cs ds e = cc
same_commit (p ∷ c) [] cs ds e = cc
same_commit (p ∷ c) (q ∷ d) cs ds e =
    let rest : map change.Write c ++ change.End ∷ cs ≡ map change.Write d ++ change.End ∷ ds = cc in
    let head : p ≡ q = cc in
    let both = same_commit c d cs ds rest in ((λ i. head i ∷ both.0 i), both.1)

no_changes : (c : Commit) (rest : List Change) → map change.Write c ++ change.End ∷ rest ≢ []
no_changes [] rest e = cc
no_changes (p ∷ c) rest e = cc

pub same_commits : (cs ds : List Commit) → changes_of cs ≡ changes_of ds → cs ≡ ds
same_commits [] [] e = refl
same_commits [] (d ∷ ds) e = absurd (no_changes d (changes_of ds) (sym e))
same_commits (c ∷ cs) [] e = absurd (no_changes c (changes_of cs) e)
same_commits (c ∷ cs) (d ∷ ds) e =
    let both = same_commit c d (changes_of cs) (changes_of ds) e in
    let rest = same_commits cs ds both.1 in λ i. both.0 i ∷ rest i

-- changes that are absorbed one by one
pub absorbed : (xs ops : List Change) → fold (λ (xs : List Change) x. xs ++ x ∷ []) xs ops ≡ xs ++ ops
absorbed xs [] = sym (append_nil xs)
  where
    append_nil : (xs : List Change) → xs ++ [] ≡ xs
    append_nil [] = refl
    append_nil (x ∷ xs) = ap (λ r. x ∷ r) (append_nil xs)
absorbed xs (o ∷ ops) = absorbed (xs ++ o ∷ []) ops ∙ append_assoc xs (o ∷ []) ops

-- ---- changes that begin with others

take_all : {X : Type 0} (xs : List X) (n : ℕ) → take n xs ++ drop n xs ≡ xs
take_all [] zero = refl
take_all [] (suc n) = refl
take_all (x ∷ xs) zero = refl
take_all (x ∷ xs) (suc n) = ap (λ r. x ∷ r) (take_all xs n)

-- commits whose changes begin with those of others begin with the others
begin_commits : (cs ds : List Commit) (more : List Change) → changes_of ds ≡ changes_of cs ++ more → Begins cs ds
begin_commits [] ds more is = (ds, refl)
begin_commits (c ∷ cs) [] more is = absurd (no_changes c (changes_of cs ++ more) (sym (is ∙ append_assoc (map change.Write c) (change.End ∷ changes_of cs) more)))
begin_commits (c ∷ cs) (d ∷ ds) more is =
    let both = same_commit d c (changes_of ds) (changes_of cs ++ more) (is ∙ append_assoc (map change.Write c) (change.End ∷ changes_of cs) more) in
    let rest = begin_commits cs ds more both.1 in (rest.0, λ i. both.0 i ∷ rest.1 i)

pub later_commits : (cs ds : List Commit) (xs ys : List Change) → xs ≡ changes_of cs → ys ≡ changes_of ds → take (length xs) ys ≡ xs → Begins cs ds
later_commits cs ds xs ys first second is =
    begin_commits cs ds (drop (length xs) ys) (sym second ∙ sym (take_all ys (length xs)) ∙ ap (λ (l : List Change). l ++ drop (length xs) ys) (is ∙ first))

-- ---- two beginnings of one list

both_begin : (s l m n : List Commit) → s ++ m ≡ l ++ n → length s ≤ length l → Begins s l
both_begin [] l m n same le = (l, refl)
both_begin (c ∷ s) [] m n same le = absurd (omega arith)
both_begin (c ∷ s) (d ∷ l) m n same le =
    let rest : s ++ m ≡ l ++ n = cc in
    let head : c ≡ d = cc in
    let later = both_begin s l m n rest (omega arith) in (later.0, λ i. sym head i ∷ later.1 i)

pub shorter_begins : (s l b : List Commit) → Begins s b → Begins l b → length s ≤ length l → Begins s l
shorter_begins s l b f g le = both_begin s l f.0 g.0 (sym f.1 ∙ g.1) le

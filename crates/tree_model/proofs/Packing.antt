-- Keys one behind another.
use Rattle.std.proofs.Common.{◌≡◌, ◌<◌, ◌≤◌, ℕ, zero, suc, ◌+◌, ◌-◌, ◌&&◌, Bool, true, false, true≢false, List, [], ◌∷◌, ◌++◌, All, length, take, drop, get_or, Some, sym, refl, ap, subst, ◌∙◌, length-append, arith}
use Rattle.std.specs.Prelude.{nat_le, slice_get}
use Rattle.std.proofs.lemmas.Bool.{eq-eqb, eqb-true, le-leb, leb-true}
use Rattle.std.specs.Str.{is_utf8}
use Rattle.std.proofs.lemmas.Str.{IsUtf8-from_is_utf8}
use Rattle.std.proofs.lemmas.List.Elements.{All-append, All-cons, All-nil}
use Rattle.tree_model.specs.declared.packed.Head.{Head}
use Rattle.tree_model.specs.declared.packed.LentWrite.{LentWrite}
use Rattle.tree_model.specs.declared.write.Write.{Write}
use Rattle.tree_model.specs.Packs.{HasText, IsOfText, begin_at, end_behind, packed_from, write_in}

-- one after another, each within the buffer
EndFrom : ℕ → List Head → ℕ → Type 0
EndFrom start [] all = start ≡ all
EndFrom start (h ∷ heads) all = (start ≤ h.end) × (h.end ≤ all) × EndFrom h.end heads all

and_left : (a b : Bool) → (a && b) ≡ true → a ≡ true
and_left true b is = refl
and_left false b is = absurd (true≢false (sym is))

and_right : (a b : Bool) → (a && b) ≡ true → b ≡ true
and_right true b is = is
and_right false b is = absurd (true≢false (sym is))

ends-from : (start : ℕ) (heads : List Head) (all : ℕ) → end_behind start heads all ≡ true → EndFrom start heads all
unfolding EndFrom
ends-from start [] all is = eqb-true start all is
ends-from start (h ∷ heads) all is =
    let low = and_left (nat_le start h.end) (nat_le h.end all && end_behind h.end heads all) is in
    let more = and_right (nat_le start h.end) (nat_le h.end all && end_behind h.end heads all) is in
    let high = and_left (nat_le h.end all) (end_behind h.end heads all) more in
    (leb-true start h.end low, leb-true h.end all high, ends-from h.end heads all (and_right (nat_le h.end all) (end_behind h.end heads all) more))

ends-behind : (start : ℕ) (heads : List Head) (all : ℕ) → EndFrom start heads all → end_behind start heads all ≡ true
unfolding EndFrom
ends-behind start [] all is = eq-eqb start all is
ends-behind start (h ∷ heads) all is = and_both (le-leb start h.end is.0) (and_both (le-leb h.end all is.1) (ends-behind h.end heads all is.2))
  where
    and_both : {a b : Bool} → a ≡ true → b ≡ true → (a && b) ≡ true
    and_both one two = λ i. one i && two i

-- the last key ends where the buffer ends
ends-low : (start : ℕ) (heads : List Head) (all : ℕ) → EndFrom start heads all → start ≤ all
unfolding EndFrom
ends-low start [] all is = omega (arith, is)
ends-low start (h ∷ heads) all is = let a = is.0 in let b = is.1 in omega arith

-- one more key
ends-more : (start : ℕ) (heads : List Head) (all more : ℕ) (h : Head) → EndFrom start heads all → h.end ≡ all + more → EndFrom start (heads ++ h ∷ []) (all + more)
unfolding EndFrom
ends-more start [] all more h is end = (omega (arith, is, end), omega (arith, end), end)
ends-more start (g ∷ heads) all more h is end = let b = is.1 in (is.0, omega arith, ends-more g.end heads all more h is.2 end)

-- ---- bytes

take-within : (n : ℕ) (xs ys : List ℕ) → n ≤ length xs → take n (xs ++ ys) ≡ take n xs
take-within zero xs ys low = refl
take-within (suc n) [] ys low = absurd (omega arith)
take-within (suc n) (x ∷ xs) ys low = ap (λ zs. x ∷ zs) (take-within n xs ys (omega arith))

drop-within : (n : ℕ) (xs ys : List ℕ) → n ≤ length xs → drop n (xs ++ ys) ≡ drop n xs ++ ys
drop-within zero xs ys low = refl
drop-within (suc n) [] ys low = absurd (omega arith)
drop-within (suc n) (x ∷ xs) ys low = drop-within n xs ys (omega arith)

drop-less : (n : ℕ) (xs : List ℕ) → length (drop n xs) ≡ length xs - n
drop-less zero xs = omega arith
drop-less (suc n) [] = omega arith
drop-less (suc n) (x ∷ xs) = let rest = drop-less n xs in omega arith

drop-whole : (n : ℕ) (xs ys : List ℕ) → n ≡ length xs → drop n (xs ++ ys) ≡ ys
drop-whole n [] ys is = rw is refl
drop-whole zero (x ∷ xs) ys is = absurd (omega (arith, is))
drop-whole (suc n) (x ∷ xs) ys is = drop-whole n xs ys (omega (arith, is))

take-whole : (n : ℕ) (xs : List ℕ) → n ≡ length xs → take n xs ≡ xs
take-whole n [] is = rw is refl
take-whole zero (x ∷ xs) is = absurd (omega (arith, is))
take-whole (suc n) (x ∷ xs) is = ap (λ zs. x ∷ zs) (take-whole n xs (omega (arith, is)))

-- ---- writes

-- bytes behind the buffer change no key
packed-within : (start : ℕ) (heads : List Head) (keys more : List ℕ) → EndFrom start heads (length keys) → packed_from start heads (keys ++ more) ≡ packed_from start heads keys
unfolding EndFrom
packed-within start [] keys more is = refl
packed-within start (h ∷ heads) keys more is =
    let low = is.0 in
    let high = is.1 in
    let l = drop-less start keys in
    let key : take (h.end - start) (drop start (keys ++ more)) ≡ take (h.end - start) (drop start keys) =
    ap (take (h.end - start)) (drop-within start keys more (omega arith)) ∙ take-within (h.end - start) (drop start keys) more (omega arith) in
    λ i. record { state = h.state; part = h.part; key = key i; amount = h.amount } ∷ packed-within h.end heads keys more is.2 i

-- one more write
packed-more : (start : ℕ) (heads : List Head) (keys key : List ℕ) (h : Head) (w : Write) → EndFrom start heads (length keys) → h.end ≡ length keys + length key → w ≡ record { state = h.state; part = h.part; key = key; amount = h.amount }
    → packed_from start (heads ++ h ∷ []) (keys ++ key) ≡ packed_from start heads keys ++ w ∷ []
unfolding EndFrom
packed-more start [] keys key h w is end same =
    let own : take (h.end - start) (drop start (keys ++ key)) ≡ key = ap (take (h.end - start)) (drop-whole start keys key is) ∙ take-whole (h.end - start) key (omega (arith, is, end)) in
    (λ i. record { state = h.state; part = h.part; key = own i; amount = h.amount } ∷ []) ∙ ap (λ (x : Write). x ∷ []) (sym same)
packed-more start (g ∷ heads) keys key h w is end same =
    let low = is.0 in
    let high = is.1 in
    let l = drop-less start keys in
    let own : take (g.end - start) (drop start (keys ++ key)) ≡ take (g.end - start) (drop start keys) =
    ap (take (g.end - start)) (drop-within start keys key (omega arith)) ∙ take-within (g.end - start) (drop start keys) key (omega arith) in
    λ i. record { state = g.state; part = g.part; key = own i; amount = g.amount } ∷ packed-more g.end heads keys key h w is.2 end same i

pub packed-long : (start : ℕ) (heads : List Head) (keys : List ℕ) → length (packed_from start heads keys) ≡ length heads
packed-long start [] keys = refl
packed-long start (h ∷ heads) keys = let rest = packed-long h.end heads keys in omega arith

-- the end of the head before
begin-is : (start : ℕ) (heads : List Head) (n : ℕ) (d : Head) → n < length heads → begin_at start heads (suc n) ≡ (get_or heads n d).end
begin-is start [] n d low = absurd (omega arith)
begin-is start (h ∷ heads) zero d low = begin-first h.end heads
  where
    begin-first : (start : ℕ) (heads : List Head) → begin_at start heads zero ≡ start
    begin-first start [] = refl
    begin-first start (h ∷ heads) = refl
begin-is start (h ∷ heads) (suc n) d low = begin-is h.end heads n d (omega arith)

pub begun_at : (heads : List Head) (n : ℕ) (d : Head) → (n ≡ 0 → ⊥) → n < length heads → (get_or heads (n - 1) d).end ≡ begin_at 0 heads n
begun_at heads zero d some low = absurd (some refl)
begun_at heads (suc n) d some low = let less : suc n - 1 ≡ n = omega arith in ap (λ (k : ℕ). (get_or heads k d).end) less ∙ sym (begin-is 0 heads n d (omega arith))

-- the write at a place
packed-at : (start : ℕ) (heads : List Head) (keys : List ℕ) (n : ℕ) (h : Head) → n < length heads → h ≡ get_or heads n h
    → slice_get (packed_from start heads keys) n ≡ Some (record { state = h.state; part = h.part; key = take (h.end - begin_at start heads n) (drop (begin_at start heads n) keys); amount = h.amount })
packed-at start [] keys n h low is = absurd (omega arith)
packed-at start (g ∷ heads) keys zero h low is = ap (λ (x : Head). Some (record { state = x.state; part = x.part; key = take (x.end - start) (drop start keys); amount = x.amount })) (sym is)
packed-at start (g ∷ heads) keys (suc n) h low is = packed-at g.end heads keys n h (omega arith) is

-- keys within the buffer
key-within : (start : ℕ) (heads : List Head) (all : ℕ) (n : ℕ) (h : Head) → EndFrom start heads all → n < length heads → h ≡ get_or heads n h → (begin_at start heads n ≤ h.end) × (h.end ≤ all)
unfolding EndFrom
key-within start [] all n h is low at = absurd (omega arith)
key-within start (g ∷ heads) all zero h is low at = (subst (λ (x : Head). start ≤ x.end) (sym at) is.0, subst (λ (x : Head). x.end ≤ all) (sym at) is.1)
key-within start (g ∷ heads) all (suc n) h is low at = key-within g.end heads all n h is.2 (omega arith) at

pub within_buffer : (heads : List Head) (keys : List ℕ) (n : ℕ) (h : Head) → end_behind 0 heads (length keys) ≡ true → n < length heads → h ≡ get_or heads n h → (begin_at 0 heads n ≤ h.end) × (h.end ≤ length keys)
within_buffer heads keys n h is low at = key-within 0 heads (length keys) n h (ends-from 0 heads (length keys) is) low at

pub lent_is : (heads : List Head) (keys : List ℕ) (n : ℕ) (h : Head) (w : LentWrite) → n < length heads → h ≡ get_or heads n h → w.state ≡ h.state → w.part ≡ h.part → w.amount ≡ h.amount → w.key.now ≡ take (h.end - begin_at 0 heads n) (drop (begin_at 0 heads n) keys)
    → slice_get (packed_from 0 heads keys) n ≡ Some (write_in w)
lent_is heads keys n h w low at state part amount key = packed-at 0 heads keys n h low at ∙ (λ i. Some (record { state = sym state i; part = sym part i; key = sym key i; amount = sym amount i }))

-- one more write keeps what is true of a buffer
pub pushed_ends : (heads : List Head) (keys key : List ℕ) (h : Head) (now : List ℕ) → end_behind 0 heads (length keys) ≡ true → h.end ≡ length now → now ≡ keys ++ key → end_behind 0 (heads ++ h ∷ []) (length now) ≡ true
pushed_ends heads keys key h now is end same =
    let long : length now ≡ length keys + length key = ap (λ (xs : List ℕ). length xs) same ∙ length-append keys key in
    ends-behind 0 (heads ++ h ∷ []) (length now) (subst (EndFrom 0 (heads ++ h ∷ [])) (sym long) (ends-more 0 heads (length keys) (length key) h (ends-from 0 heads (length keys) is) (end ∙ long)))

pub pushed_is : (heads : List Head) (keys key : List ℕ) (h : Head) (now : List ℕ) (w : Write) → end_behind 0 heads (length keys) ≡ true → h.end ≡ length now → now ≡ keys ++ key → w ≡ record { state = h.state; part = h.part; key = key; amount = h.amount }
    → packed_from 0 (heads ++ h ∷ []) now ≡ packed_from 0 heads keys ++ w ∷ []
pushed_is heads keys key h now w is end same own =
    let long : length now ≡ length keys + length key = ap (λ (xs : List ℕ). length xs) same ∙ length-append keys key in
    ap (packed_from 0 (heads ++ h ∷ [])) same ∙ packed-more 0 heads keys key h w (ends-from 0 heads (length keys) is) (end ∙ long) own

pub pushed_texts : (all : List Write) (w : Write) (now : List Write) → All IsOfText all → now ≡ all ++ w ∷ [] → is_utf8 w.key ≡ true → All IsOfText now
pushed_texts all w now each same text = subst (All IsOfText) (sym same) (All-append IsOfText all (w ∷ []) each (All-cons IsOfText w [] text (All-nil IsOfText)))

pub texts_all : (all : List Write) → All IsOfText all → All HasText all
texts_all all each = λ k d low. IsUtf8-from_is_utf8 _ (each k d low)

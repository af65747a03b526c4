-- What was done adds up, and who is held up stays so.
use Rattle.std.proofs.Common.{◌≡◌, ◌<◌, ◌≤◌, ℕ, zero, suc, Bool, true, false, ◌||◌, ◌+◌, List, [], ◌∷◌, length, None, Some, set, sym, refl, ap, subst, ◌∙◌, arith}
use Rattle.std.specs.Prelude.{slice_get}
use Rattle.std.specs.List.{AllByRecursion}
use Rattle.box_rows.specs.declared.mail.Mail.{Mail}
use Rattle.box_rows.specs.declared.mail.Mail.TheVariants as mails
use Rattle.box_rows.specs.Rows.{CouldBeEmpty, CouldBeFull, HasTaken, IsSameRow}
use Rattle.box_rows.proofs.Weighing.{weigh-at}
use Rattle.event_worlds.specs.counted_items.Weights.{weigh}
use Rattle.pulse_board.specs.Rule.{bit}
use Rattle.task_queues.specs.declared.pass.Pass.{Pass}
use Rattle.event_worlds.specs.tree_model.declared.messages.Parcel.{Parcel}
use Rattle.event_worlds.specs.tuple_account.Histories.{weigh_parcels}
use Rattle.worker_pool.specs.Says.{AllSay, HasDone, MoreAt, Says, SaysAt, each_one}

-- ---- rows

pub same-none : (row : List (Pass Mail)) → IsSameRow row row
same-none row = record { views = refl; sent = λ f. refl; taken = λ f. refl }

pub same-then : (a b c : List (Pass Mail)) → IsSameRow a b → IsSameRow b c → IsSameRow a c
same-then a b c one two = record {
  views = two.views ∙ one.views;
  sent = λ f. two.sent f ∙ one.sent f;
  taken = λ f. two.taken f ∙ one.taken f;
}

pub full-same : (n : ℕ) (was is : List (Pass Mail)) → IsSameRow was is → CouldBeFull n was → CouldBeFull n is
full-same n was is same could = λ v at. could v (subst (λ vs. slice_get vs n ≡ Some v) same.views at)

pub empty-same : (n : ℕ) (was is : List (Pass Mail)) → IsSameRow was is → CouldBeEmpty n was → CouldBeEmpty n is
empty-same n was is same could = λ v at. could v (subst (λ vs. slice_get vs n ≡ Some v) same.views at)

-- ---- what was done

pub weigh-ones : {X : Type 0} (xs : List X) → weigh (λ (x : X). 1) xs ≡ length xs
weigh-ones [] = refl
weigh-ones (x ∷ xs) = let rest = weigh-ones xs in omega arith

pub done-none : (left : ℕ) (was : List (Pass Mail)) → HasDone 0 left was left was
done-none left was = record { least = omega arith }

pub done-then : (m n a b c : ℕ) (x y z : List (Pass Mail)) → HasDone m a x b y → HasDone n b y c z → HasDone (m + n) a x c z
done-then m n a b c x y z one two = record { least = let p = one.least in let q = two.least in omega arith }

pub done-less : (m n a b : ℕ) (x y : List (Pass Mail)) → m ≤ n → HasDone n a x b y → HasDone m a x b y
done-less m n a b x y less one = record { least = let p = one.least in omega arith }

pub done-same : (left : ℕ) (was is : List (Pass Mail)) → IsSameRow was is → HasDone 0 left was left is
done-same left was is same = record { least = let s = same.sent each_one in let t = same.taken each_one in omega arith }

pub done-sent : (left w : ℕ) (was is : List (Pass Mail)) → 1 ≤ w
    → Rattle.box_rows.specs.Rows.sent_in is each_one ≡ Rattle.box_rows.specs.Rows.sent_in was each_one + w
    → Rattle.box_rows.specs.Rows.taken_in is each_one ≡ Rattle.box_rows.specs.Rows.taken_in was each_one → HasDone 1 left was left is
done-sent left w was is some sent taken = record { least = omega arith }

pub done-taken : (left now place : ℕ) (run : List Parcel) (was is : List (Pass Mail)) → 1 ≤ length run → now ≡ left + length run → HasTaken place (mails.Run run) was is → HasDone 1 left was now is
done-taken left now place run was is some more took = record {
  least =
      let s = took.sent each_one in
      let t = took.taken each_one in
      let w : weigh_parcels each_one run ≡ length run = weigh-ones run in omega arith;
}

pub done-left : (left now : ℕ) (was : List (Pass Mail)) → left ≡ suc now → HasDone 1 left was now was
done-left left now was less = record { least = omega arith }

-- ---- lists

pub set-other : {X : Type 0} (xs : List X) (n m : ℕ) (y : X) → (m ≡ n → ⊥) → slice_get (set xs n y) m ≡ slice_get xs m
set-other [] n m y other = refl
set-other (x ∷ xs) zero zero y other = absurd (other refl)
set-other (x ∷ xs) zero (suc m) y other = refl
set-other (x ∷ xs) (suc n) zero y other = refl
set-other (x ∷ xs) (suc n) (suc m) y other = set-other xs n m y (λ same. other (ap (λ (k : ℕ). suc k) same))

pub set-here : {X : Type 0} (xs : List X) (n : ℕ) (a y : X) → slice_get xs n ≡ Some a → slice_get (set xs n y) n ≡ Some y
set-here [] n a y at = absurd (let e : None ≡ Some a = at in cc)
set-here (x ∷ xs) zero a y at = refl
set-here (x ∷ xs) (suc n) a y at = set-here xs n a y at

some-one : {X : Type 0} (x y : X) → Some x ≡ Some y → x ≡ y
some-one x y is = cc

-- from places
pub each-from : {X : Type 0} (P : X → Type 0) (xs : List X) → ((m : ℕ) → m < length xs → (x : X) → slice_get xs m ≡ Some x → P x) → AllByRecursion P xs
each-from P [] each = tt
each-from P (x ∷ xs) each = (each zero (omega arith) x refl, each-from P xs (λ m below y at. each (suc m) (omega arith) y at))

-- below a number and one more
pub below-more : (P : ℕ → Type 0) (n : ℕ) → ((m : ℕ) → m < n → P m) → P n → (m : ℕ) → m < n + 1 → P m
below-more P zero low here zero below = here
below-more P zero low here (suc m) below = absurd (omega arith)
below-more P (suc n) low here zero below = low zero (omega arith)
below-more P (suc n) low here (suc m) below = below-more (λ k. P (suc k)) n (λ k less. low (suc k) (omega arith)) here m (omega arith)

pub true-false : {A : Type 0} → true ≡ false → A
true-false is = absurd cc

-- ---- things that take turns

module _ {X : Type 0} (left : X → ℕ) where
  pub more-none : (n : ℕ) (xs : List X) (was : List (Pass Mail)) → MoreAt left n xs xs was was
  more-none n xs was = record { done = done-none (weigh left xs) was; others = λ m other. refl }

  pub more-then : (n : ℕ) (a b c : List X) (x y z : List (Pass Mail)) → MoreAt left n a b x y → MoreAt left n b c y z → MoreAt left n a c x z
  more-then n a b c x y z one two = record {
    done = done-then 0 0 (weigh left a) (weigh left b) (weigh left c) x y z one.done two.done;
    others = λ m other. two.others m other ∙ one.others m other;
  }

  pub more-at : (xs : List X) (n : ℕ) (a b : X) (was is : List (Pass Mail)) → slice_get xs n ≡ Some a → HasDone 0 (left a) was (left b) is → MoreAt left n xs (set xs n b) was is
  more-at xs n a b was is at done = record {
    done = record { least = let d = done.least in let w = weigh-at left xs n a b at in omega arith };
    others = λ m other. set-other xs n m b other;
  }

module _ {X : Type 0} (left : X → ℕ) (IsHeld : X → List (Pass Mail) → Type 0) where
  pub says-at : (xs : List X) (n : ℕ) (a b : X) (did : Bool) (was is : List (Pass Mail)) → slice_get xs n ≡ Some a → Says left IsHeld did a b was is → SaysAt left IsHeld n did xs (set xs n b) was is
  says-at xs n a b did was is at says = record {
    done = record { least = let d = says.done.least in let w = weigh-at left xs n a b at in omega arith };
    others = λ m other. set-other xs n m b other;
    held = λ no. let h = says.held no in (h.0, (λ x there. subst (λ (y : X). IsHeld y is) (some-one b x (sym (set-here xs n a b at) ∙ there)) h.1));
  }

  pub more-of : (n : ℕ) (did : Bool) (a b : List X) (x y : List (Pass Mail)) → SaysAt left IsHeld n did a b x y → MoreAt left n a b x y
  more-of n did a b x y says = record { done = done-less 0 (bit did) (weigh left a) (weigh left b) x y (omega arith) says.done; others = says.others }

  -- something was done, and then more
  pub says-more : (n : ℕ) (a b c : List X) (x y z : List (Pass Mail)) → SaysAt left IsHeld n true a b x y → MoreAt left n b c y z → SaysAt left IsHeld n true a c x z
  says-more n a b c x y z says more = record {
    done = done-then 1 0 (weigh left a) (weigh left b) (weigh left c) x y z says.done more.done;
    others = λ m other. more.others m other ∙ says.others m other;
    held = λ no. true-false no;
  }

  -- something that no row saw went before
  pub more-says : (n : ℕ) (did : Bool) (a b c : List X) (x y : List (Pass Mail)) → MoreAt left n a b x x → SaysAt left IsHeld n did b c x y → SaysAt left IsHeld n did a c x y
  more-says n did a b c x y more says = record {
    done = done-less (bit did) (0 + bit did) (weigh left a) (weigh left c) x y (omega arith) (done-then 0 (bit did) (weigh left a) (weigh left b) (weigh left c) x x y more.done says.done);
    others = λ m other. says.others m other ∙ more.others m other;
    held = says.held;
  }

  -- those before a place have had their turns
  pub record UpTo (n : ℕ) (moved : Bool) (old new : List X) (was is : List (Pass Mail)) : Type 0 where
    pub done : HasDone (bit moved) (weigh left old) was (weigh left new) is
    pub held : moved ≡ false → IsSameRow was is × ((m : ℕ) → m < n → (x : X) → slice_get new m ≡ Some x → IsHeld x is)

  pub up-none : (xs : List X) (was : List (Pass Mail)) → UpTo 0 false xs xs was was
  up-none xs was = record { done = done-none (weigh left xs) was; held = λ no. (same-none was, (λ m below x at. absurd (omega arith))) }

  -- one of them did something
  pub up-did : (n : ℕ) (moved : Bool) (a b c : List X) (x y z : List (Pass Mail)) → UpTo n moved a b x y → SaysAt left IsHeld n true b c y z → UpTo (n + 1) true a c x z
  up-did n moved a b c x y z so_far says = record {
    done = done-less 1 (bit moved + 1) (weigh left a) (weigh left c) x z (omega arith) (done-then (bit moved) 1 (weigh left a) (weigh left b) (weigh left c) x y z so_far.done says.done);
    held = λ no. true-false no;
  }

  -- one more is held up
  pub up-held : ((x : X) (was is : List (Pass Mail)) → IsSameRow was is → IsHeld x was → IsHeld x is)
      → (n : ℕ) (moved : Bool) (a b c : List X) (x y z : List (Pass Mail)) → UpTo n moved a b x y → SaysAt left IsHeld n false b c y z → UpTo (n + 1) moved a c x z
  up-held stays n moved a b c x y z so_far says = record {
    done = done-less (bit moved) (bit moved + 0) (weigh left a) (weigh left c) x z (omega arith) (done-then (bit moved) 0 (weigh left a) (weigh left b) (weigh left c) x y z so_far.done says.done);
    held = λ no.
        let h = so_far.held no in
        let s = says.held refl in (
          same-then x y z h.0 s.0,
          below-more (λ m. (q : X) → slice_get c m ≡ Some q → IsHeld q z) n (λ m below q at. stays q y z s.0 (h.1 m below q (sym (says.others m (λ same. absurd (omega arith))) ∙ at))) s.1,
        );
  }

  -- one more has had its turn
  pub up-more : ((x : X) (was is : List (Pass Mail)) → IsSameRow was is → IsHeld x was → IsHeld x is)
      → (n : ℕ) (moved did : Bool) (a b c : List X) (x y z : List (Pass Mail)) → UpTo n moved a b x y → SaysAt left IsHeld n did b c y z → UpTo (n + 1) (moved || did) a c x z
  up-more stays n true true a b c x y z so_far says = up-did n true a b c x y z so_far says
  up-more stays n false true a b c x y z so_far says = up-did n false a b c x y z so_far says
  up-more stays n true false a b c x y z so_far says = up-held stays n true a b c x y z so_far says
  up-more stays n false false a b c x y z so_far says = up-held stays n false a b c x y z so_far says

  pub up-all : (n : ℕ) (moved : Bool) (old new : List X) (was is : List (Pass Mail)) → length new ≤ n → UpTo n moved old new was is → AllSay left IsHeld moved old new was is
  up-all n moved old new was is all so_far = record {
    done = so_far.done;
    held = λ no. let h = so_far.held no in (h.0, each-from (λ x. IsHeld x is) new (λ m below x at. h.1 m (omega arith) x at));
  }

-- Which ticks among any calls tell a root.
use Rattle.std.proofs.Common.{◌≡◌, ℕ, ◌+◌, ◌<◌, ◌==◌, Bool, true, false, not, cond, ◌&&◌, ◌||◌, nat_lt, Some, List, [], ◌∷◌, ◌++◌, length, filter, refl, sym, ap, ap₂, ◌∙◌, arith}
use Rattle.std.specs.List.{AllByRecursion, list_any}
use Rattle.std.specs.Prelude.{is_some}
use Rattle.std.proofs.lemmas.Bool.Decides.{nat_tests}
use Rattle.record_spans.specs.declared.span.Span.{Span}
use Rattle.storm_values.specs.declared.value.Root.{Root}
use Rattle.rotating_ledger.specs.Held.{root_eq}
use Rattle.rotating_ledger.proofs.RootLemmas.{root_eq-refl, root_eq-same}
use Rattle.replay_pending.specs.Calls.{Call, Begin, Settle, End, Abort, Tick, aborts, after, after_all, began, begins, is_of, is_tick, one_tells, settles, tells, ticks_in}
use Rattle.replay_pending.specs.declared.entry.Entry.{Entry}
use Rattle.replay_pending.specs.InFlight.{InFlight, begun, ended, fresh, is_late, is_of_root, is_pending, is_timed, is_timed_of, settled, timed_of}
use Rattle.replay_pending.proofs.Found.{some-any}
use Rattle.replay_pending.proofs.Lists.{true_false, either_false, and_false, none-filter, pending-settled}

true_or : (a b : Bool) → a ≡ true → (a || b) ≡ true
true_or a b is = ap (λ c. c || b) is

or_true : (a b : Bool) → b ≡ true → (a || b) ≡ true
or_true true b is = refl
or_true false b is = is

not_same : (a b c : Root) → root_eq a c ≡ true → root_eq b c ≡ true → root_eq a b ≡ false → ⊥
not_same a b c one two other =
    let same : root_eq a b ≡ true = ap (root_eq a) (root_eq-same b c two) ∙ one in
    true_false (sym same ∙ other)

not_true : (b : Bool) → (b ≡ true → ⊥) → not b ≡ true
not_true true off = absurd (off refl)
not_true false off = refl

not_yet : (n m : ℕ) → m < n → (n == m) ≡ false
not_yet n m less = grind (arith, nat_tests)

last_of : (tick ticks buckets : ℕ) → ticks < buckets → (tick + buckets == tick + ticks + 1) ≡ (ticks + 1 == buckets)
last_of tick ticks buckets few = grind (arith, nat_tests)

module _ {L : Type 0} where
  -- ---- a root that is pending, and timed since a tick

  abbrev Since : Root → ℕ → Entry L → Type 0
  Since root start e = root_eq root e.root ≡ true → (is_timed e ≡ true) × (e.start ≡ start)

  pub record IsAt (root : Root) (start : ℕ) (es : List (Entry L)) : Type 0 where
    pub each : AllByRecursion (Since root start) es
    pub there : is_pending root es ≡ true

  each-push : (root : Root) (start : ℕ) (es : List (Entry L)) (v : Entry L) → AllByRecursion (Since root start) es → Since root start v
      → AllByRecursion (Since root start) (es ++ v ∷ [])
  each-push root start [] v each here = (here, tt)
  each-push root start (e ∷ es) v each here = (each.0, each-push root start es v each.1 here)

  there-front : (root : Root) (es : List (Entry L)) (v : Entry L) → is_pending root es ≡ true → is_pending root (es ++ v ∷ []) ≡ true
  there-front root [] v there = absurd (true_false (sym there))
  there-front root (e ∷ es) v there = by (root_eq root e.root) refl (λ later. there-front root es v later)
    where
      by : (b : Bool) → root_eq root e.root ≡ b → (is_pending root es ≡ true → is_pending root (es ++ v ∷ []) ≡ true)
          → is_pending root ((e ∷ es) ++ v ∷ []) ≡ true
      by true is later = true_or (root_eq root e.root) (is_pending root (es ++ v ∷ [])) is
      by false is later =
          or_true (root_eq root e.root) (is_pending root (es ++ v ∷ [])) (later (sym (ap (λ b. b || is_pending root es) is) ∙ there))

  there-last : (root : Root) (es : List (Entry L)) (v : Entry L) → root_eq root v.root ≡ true → is_pending root (es ++ v ∷ []) ≡ true
  there-last root [] v same = true_or (root_eq root v.root) false same
  there-last root (e ∷ es) v same = or_true (root_eq root e.root) (is_pending root (es ++ v ∷ [])) (there-last root es v same)

  each-absent : (root : Root) (start : ℕ) (es : List (Entry L)) → is_pending root es ≡ false → AllByRecursion (Since root start) es
  each-absent root start [] none = tt
  each-absent root start (e ∷ es) none =
      let both = either_false (root_eq root e.root) (is_pending root es) none in
      (λ is. absurd (true_false (sym is ∙ both.0)), each-absent root start es both.1)

  at-begun : (root : Root) (spans : List Span) (start : ℕ) (es : List (Entry L)) → is_pending root es ≡ false
      → IsAt root start (es ++ fresh root spans start ∷ [])
  at-begun root spans start es none = record {
    each = each-push root start es (fresh root spans start) (each-absent root start es none) (λ is. (refl, refl));
    there = there-last root es (fresh root spans start) (root_eq-refl root);
  }

  at-push : (root : Root) (start : ℕ) (es : List (Entry L)) (v : Entry L) → root_eq root v.root ≡ false → IsAt root start es
      → IsAt root start (es ++ v ∷ [])
  at-push root start es v differ at = record {
    each = each-push root start es v at.each (λ is. absurd (true_false (sym is ∙ differ)));
    there = there-front root es v at.there;
  }

  each-settled : (root other : Root) (list : L) (start : ℕ) (es : List (Entry L)) → root_eq root other ≡ false → AllByRecursion (Since root start) es
      → AllByRecursion (Since root start) (settled other list es)
  each-settled root other list start [] differ each = tt
  each-settled root other list start (e ∷ es) differ each = (by (root_eq other e.root) refl, each-settled root other list start es differ each.1)
    where
      by : (b : Bool) → root_eq other e.root ≡ b → Since root start (cond b (record e { settled = Some list }) e)
      by true two = λ one. absurd (not_same root other e.root one two differ)
      by false two = each.0

  at-settled : (root other : Root) (list : L) (start : ℕ) (es : List (Entry L)) → root_eq root other ≡ false → IsAt root start es
      → IsAt root start (settled other list es)
  at-settled root other list start es differ at = record {
    each = each-settled root other list start es differ at.each;
    there = pending-settled root other list es ∙ at.there;
  }

  each-filter : (root : Root) (start : ℕ) (P : Entry L → Bool) (es : List (Entry L)) → AllByRecursion (Since root start) es
      → AllByRecursion (Since root start) (filter P es)
  each-filter root start P [] each = tt
  each-filter root start P (e ∷ es) each = by (P e) (each-filter root start P es each.1)
    where
      by : (b : Bool) → AllByRecursion (Since root start) (filter P es) → AllByRecursion (Since root start) (cond b (e ∷ filter P es) (filter P es))
      by true rest = (each.0, rest)
      by false rest = rest

  -- a root stays where the test keeps it
  there-filter : (root : Root) (P : Entry L → Bool) (es : List (Entry L)) → AllByRecursion (λ (e : Entry L). root_eq root e.root ≡ true → P e ≡ true) es
      → is_pending root es ≡ true → is_pending root (filter P es) ≡ true
  there-filter root P [] keeps there = there
  there-filter root P (e ∷ es) keeps there = by (root_eq root e.root) refl (λ later. there-filter root P es keeps.1 later)
    where
      either : (c : Bool) → is_pending root (filter P es) ≡ true → is_pending root (cond c (e ∷ filter P es) (filter P es)) ≡ true
      either true rest = or_true (root_eq root e.root) (is_pending root (filter P es)) rest
      either false rest = rest

      by : (b : Bool) → root_eq root e.root ≡ b → (is_pending root es ≡ true → is_pending root (filter P es) ≡ true)
          → is_pending root (cond (P e) (e ∷ filter P es) (filter P es)) ≡ true
      by true is later =
          ap (λ c. is_pending root (cond c (e ∷ filter P es) (filter P es))) (keeps.0 is) ∙ true_or (root_eq root e.root) (is_pending root (filter P es)) is
      by false is later = either (P e) (later (sym (ap (λ b. b || is_pending root es) is) ∙ there))

  keeps-ended : (root other : Root) (es : List (Entry L)) → root_eq root other ≡ false
      → AllByRecursion (λ (e : Entry L). root_eq root e.root ≡ true → not (root_eq other e.root) ≡ true) es
  keeps-ended root other [] differ = tt
  keeps-ended root other (e ∷ es) differ =
      (λ one. not_true (root_eq other e.root) (λ two. not_same root other e.root one two differ), keeps-ended root other es differ)

  at-ended : (root other : Root) (start : ℕ) (es : List (Entry L)) → root_eq root other ≡ false → IsAt root start es → IsAt root start (ended other es)
  at-ended root other start es differ at = record {
    each = each-filter root start (λ (e : Entry L). not (is_of_root other e)) es at.each;
    there = there-filter root (λ (e : Entry L). not (is_of_root other e)) es (keeps-ended root other es differ) at.there;
  }

  late-at : (root : Root) (start buckets tick : ℕ) (e : Entry L) → Since root start e → root_eq root e.root ≡ true
      → is_late buckets tick e ≡ (start + buckets == tick)
  late-at root start buckets tick e since is =
      let both = since is in ap₂ (λ b n. b && (n + buckets == tick)) both.0 both.1

  keeps-ticked : (root : Root) (start buckets tick : ℕ) (es : List (Entry L)) → (start + buckets == tick) ≡ false → AllByRecursion (Since root start) es
      → AllByRecursion (λ (e : Entry L). root_eq root e.root ≡ true → not (is_late buckets tick e) ≡ true) es
  keeps-ticked root start buckets tick [] early each = tt
  keeps-ticked root start buckets tick (e ∷ es) early each = (
    λ is. ap not (late-at root start buckets tick e each.0 is ∙ early),
    keeps-ticked root start buckets tick es early each.1,
  )

  at-ticked : (root : Root) (start buckets tick : ℕ) (es : List (Entry L)) → (start + buckets == tick) ≡ false → IsAt root start es
      → IsAt root start (filter (λ (e : Entry L). not (is_late buckets tick e)) es)
  at-ticked root start buckets tick es early at = record {
    each = each-filter root start (λ (e : Entry L). not (is_late buckets tick e)) es at.each;
    there = there-filter root (λ (e : Entry L). not (is_late buckets tick e)) es (keeps-ticked root start buckets tick es early at.each) at.there;
  }

  -- ---- what a tick tells

  told-at : (root : Root) (start buckets tick : ℕ) (es : List (Entry L)) → AllByRecursion (Since root start) es
      → is_pending root (filter (is_late buckets tick) es) ≡ (is_pending root es && (start + buckets == tick))
  told-at root start buckets tick [] each = refl
  told-at root start buckets tick (e ∷ es) each = by (root_eq root e.root) refl (told-at root start buckets tick es each.1)
    where
      late : List (Entry L)
      late = filter (is_late buckets tick) es

      here : (d : Bool) → root_eq root e.root ≡ true → is_pending root late ≡ (is_pending root es && d) → is_pending root (cond d (e ∷ late) late) ≡ d
      here true is rest = true_or (root_eq root e.root) (is_pending root late) is
      here false is rest = rest ∙ and_false (is_pending root es)

      other : (c : Bool) → root_eq root e.root ≡ false → is_pending root (cond c (e ∷ late) late) ≡ is_pending root late
      other true is = ap (λ b. b || is_pending root late) is
      other false is = refl

      by : (b : Bool) → root_eq root e.root ≡ b → is_pending root late ≡ (is_pending root es && (start + buckets == tick))
          → is_pending root (cond (is_late buckets tick e) (e ∷ late) late) ≡ ((root_eq root e.root || is_pending root es) && (start + buckets == tick))
      by true is rest =
          ap (λ d. is_pending root (cond d (e ∷ late) late)) (late-at root start buckets tick e each.0 is)
          ∙ here (start + buckets == tick) is rest
          ∙ sym (ap (λ b. (b || is_pending root es) && (start + buckets == tick)) is)
      by false is rest =
          other (is_late buckets tick e) is ∙ rest ∙ sym (ap (λ b. (b || is_pending root es) && (start + buckets == tick)) is)

  tells-at : (root : Root) (start buckets tick : ℕ) (es : List (Entry L)) → IsAt root start es
      → is_pending root (filter (is_late buckets tick) es) ≡ (start + buckets == tick)
  tells-at root start buckets tick es at =
      told-at root start buckets tick es at.each ∙ ap (λ b. b && (start + buckets == tick)) at.there

  -- ---- any calls

  -- where a root stands after some calls: none told it, and one more tick tells it or does not
  record Waits (root : Root) (start buckets : ℕ) (calls : List (Call L)) (p : InFlight L) : Type 0 where
    silent : one_tells root calls p ≡ false
    next : tells root Tick (after_all calls p) ≡ (start + buckets == p.tick + ticks_in calls + 1)

  -- a call that is no tick, and tells nothing
  same_ticks : (root : Root) (start buckets : ℕ) (c : Call L) (calls : List (Call L)) (p : InFlight L) → tells root c p ≡ false → is_tick c ≡ false
      → (after c p).tick ≡ p.tick → Waits root start buckets calls (after c p) → Waits root start buckets (c ∷ calls) p
  same_ticks root start buckets c calls p quiet off tick rest =
      let none_more : p.tick + ticks_in calls + 1 ≡ p.tick + (0 + ticks_in calls) + 1 = omega arith in
      record {
        silent = ap (λ b. b || one_tells root calls (after c p)) quiet ∙ rest.silent;
        next =
            rest.next ∙ ap (λ m. start + buckets == m + ticks_in calls + 1) tick ∙ ap (λ m. start + buckets == m) none_more
            ∙ ap (λ b. start + buckets == p.tick + (cond {A = ℕ} b 1 0 + ticks_in calls) + 1) (sym off);
      }

  -- what a call of another root leaves
  record Leaves (root : Root) (start : ℕ) (p q : InFlight L) : Type 0 where
    at : IsAt root start q.pending
    buckets : q.buckets ≡ p.buckets
    tick : q.tick ≡ p.tick

  began-at : (root other : Root) (spans : List Span) (start : ℕ) (b : Bool) (p : InFlight L) → root_eq root other ≡ false → IsAt root start p.pending
      → Leaves root start p (began b other spans p)
  began-at root other spans start true p differ at =
      record { at = at-push root start p.pending (fresh other spans p.tick) differ at; buckets = refl; tick = refl }
  began-at root other spans start false p differ at = record { at = at; buckets = refl; tick = refl }

  settles-at : (root other : Root) (list : L) (start : ℕ) (b : Bool) (p : InFlight L) → root_eq root other ≡ false → IsAt root start p.pending
      → Leaves root start p (settles b other list p)
  settles-at root other list start true p differ at =
      record { at = at-settled root other list start p.pending differ at; buckets = refl; tick = refl }
  settles-at root other list start false p differ at = record { at = at; buckets = refl; tick = refl }

  aborts-at : (root other : Root) (start : ℕ) (b : Bool) (p : InFlight L) → root_eq root other ≡ false → IsAt root start p.pending
      → Leaves root start p (aborts b other p)
  aborts-at root other start true p differ at =
      record { at = at-ended root other start p.pending differ at; buckets = refl; tick = refl }
  aborts-at root other start false p differ at = record { at = at; buckets = refl; tick = refl }

  waits : (root : Root) (start buckets : ℕ) (calls : List (Call L)) (p : InFlight L) → p.buckets ≡ buckets → IsAt root start p.pending
      → list_any (is_of root) calls ≡ false → p.tick + ticks_in calls < start + buckets → Waits root start buckets calls p
  waits root start buckets [] p same at none few =
      let here : p.tick + 1 ≡ p.tick + 0 + 1 = omega arith in
      record {
        silent = refl;
        next = tells-at root start p.buckets (p.tick + 1) p.pending at ∙ ap₂ (λ b m. start + b == m) same here;
      }
  waits root start buckets (Begin other spans ∷ calls) p same at none few =
      let both = either_false (root_eq root other) (list_any (is_of root) calls) none in
      let left = began-at root other spans start (nat_lt (length p.pending) p.cap) p both.0 at in
      let tick = left.tick in
      let fewer : (after (Begin other spans) p).tick + ticks_in calls < start + buckets = omega arith in
      same_ticks root start buckets (Begin other spans) calls p refl refl left.tick
      (waits root start buckets calls (after (Begin other spans) p) (left.buckets ∙ same) left.at both.1 fewer)
  waits root start buckets (Settle other list ∷ calls) p same at none few =
      let both = either_false (root_eq root other) (list_any (is_of root) calls) none in
      let left = settles-at root other list start (is_some (timed_of other p.pending)) p both.0 at in
      let tick = left.tick in
      let fewer : (after (Settle other list) p).tick + ticks_in calls < start + buckets = omega arith in
      same_ticks root start buckets (Settle other list) calls p refl refl left.tick
      (waits root start buckets calls (after (Settle other list) p) (left.buckets ∙ same) left.at both.1 fewer)
  waits root start buckets (End other ∷ calls) p same at none few =
      let both = either_false (root_eq root other) (list_any (is_of root) calls) none in
      let fewer : p.tick + ticks_in calls < start + buckets = omega arith in
      same_ticks root start buckets (End other) calls p refl refl refl
      (waits root start buckets calls (after (End other) p) same (at-ended root other start p.pending both.0 at) both.1 fewer)
  waits root start buckets (Abort other ∷ calls) p same at none few =
      let both = either_false (root_eq root other) (list_any (is_of root) calls) none in
      let left = aborts-at root other start (is_pending other p.pending) p both.0 at in
      let tick = left.tick in
      let fewer : (after (Abort other) p).tick + ticks_in calls < start + buckets = omega arith in
      same_ticks root start buckets (Abort other) calls p refl refl left.tick
      (waits root start buckets calls (after (Abort other) p) (left.buckets ∙ same) left.at both.1 fewer)
  waits root start buckets (Tick ∷ calls) p same at none few =
      let fewer : p.tick + 1 + ticks_in calls < start + buckets = omega arith in
      let less : p.tick + 1 < start + buckets = omega arith in
      let early : (start + p.buckets == p.tick + 1) ≡ false = ap (λ b. start + b == p.tick + 1) same ∙ not_yet (start + buckets) (p.tick + 1) less in
      let rest = waits root start buckets calls (after Tick p) same (at-ticked root start p.buckets (p.tick + 1) p.pending early at) none fewer in
      let one_more_tick : p.tick + 1 + ticks_in calls + 1 ≡ p.tick + (1 + ticks_in calls) + 1 = omega arith in
      record {
        silent =
            ap (λ b. b || one_tells root calls (after Tick p)) (tells-at root start p.buckets (p.tick + 1) p.pending at ∙ early) ∙ rest.silent;
        next = rest.next ∙ ap (λ m. start + buckets == m) one_more_tick;
      }

  begun-waits : (root : Root) (spans : List Span) (p : InFlight L) (calls : List (Call L)) → is_pending root p.pending ≡ false
      → list_any (is_of root) calls ≡ false → ticks_in calls < p.buckets → Waits root p.tick p.buckets calls (begun root spans p)
  begun-waits root spans p calls absent none few =
      let fewer : p.tick + ticks_in calls < p.tick + p.buckets = omega arith in
      waits root p.tick p.buckets calls (begun root spans p) refl (at-begun root spans p.tick p.pending absent) none fewer

  pub silent_before : (root : Root) (spans : List Span) (p : InFlight L) (calls : List (Call L)) → is_pending root p.pending ≡ false
      → list_any (is_of root) calls ≡ false → ticks_in calls < p.buckets → one_tells root calls (begun root spans p) ≡ false
  silent_before root spans p calls absent none few = (begun-waits root spans p calls absent none few).silent

  pub told_at_last : (root : Root) (spans : List Span) (p : InFlight L) (calls : List (Call L)) → is_pending root p.pending ≡ false
      → list_any (is_of root) calls ≡ false → ticks_in calls < p.buckets
      → tells root Tick (after_all calls (begun root spans p)) ≡ (ticks_in calls + 1 == p.buckets)
  told_at_last root spans p calls absent none few =
      (begun-waits root spans p calls absent none few).next ∙ last_of p.tick (ticks_in calls) p.buckets few

  -- ---- a root that is not timed

  abbrev has_timed : Root → List (Entry L) → Bool
  has_timed root es = list_any (is_timed_of root) es

  untimed-push : (root : Root) (es : List (Entry L)) (v : Entry L) → root_eq root v.root ≡ false → has_timed root es ≡ false
      → has_timed root (es ++ v ∷ []) ≡ false
  untimed-push root [] v differ none = ap (λ b. (b && is_timed v) || false) differ
  untimed-push root (e ∷ es) v differ none =
      let both = either_false (is_timed_of root e) (has_timed root es) none in
      ap (λ b. b || has_timed root (es ++ v ∷ [])) both.0 ∙ untimed-push root es v differ both.1

  untimed-settled : (root other : Root) (list : L) (es : List (Entry L)) → has_timed root es ≡ false → has_timed root (settled other list es) ≡ false
  untimed-settled root other list [] none = refl
  untimed-settled root other list (e ∷ es) none =
      let both = either_false (is_timed_of root e) (has_timed root es) none in
      ap (λ b. b || has_timed root (settled other list es)) (by (root_eq other e.root) both.0) ∙ untimed-settled root other list es both.1
    where
      by : (b : Bool) → is_timed_of root e ≡ false → is_timed_of root (cond b (record e { settled = Some list }) e) ≡ false
      by true off = and_false (root_eq root e.root)
      by false off = off

  untimed-began : (root other : Root) (spans : List Span) (b : Bool) (p : InFlight L) → root_eq root other ≡ false → has_timed root p.pending ≡ false
      → has_timed root (began b other spans p).pending ≡ false
  untimed-began root other spans true p differ none = untimed-push root p.pending (fresh other spans p.tick) differ none
  untimed-began root other spans false p differ none = none

  untimed-settles : (root other : Root) (list : L) (b : Bool) (p : InFlight L) → has_timed root p.pending ≡ false
      → has_timed root (settles b other list p).pending ≡ false
  untimed-settles root other list true p none = untimed-settled root other list p.pending none
  untimed-settles root other list false p none = none

  untimed-aborts : (root other : Root) (b : Bool) (p : InFlight L) → has_timed root p.pending ≡ false → has_timed root (aborts b other p).pending ≡ false
  untimed-aborts root other true p none = none-filter (is_timed_of root) (λ (e : Entry L). not (is_of_root other e)) p.pending none
  untimed-aborts root other false p none = none

  untimed-told : (root : Root) (buckets tick : ℕ) (es : List (Entry L)) → has_timed root es ≡ false
      → is_pending root (filter (is_late buckets tick) es) ≡ false
  untimed-told root buckets tick [] none = refl
  untimed-told root buckets tick (e ∷ es) none =
      let both = either_false (is_timed_of root e) (has_timed root es) none in
      by (root_eq root e.root) (is_timed e) refl refl both.0 (untimed-told root buckets tick es both.1)
    where
      late : List (Entry L)
      late = filter (is_late buckets tick) es

      other : (c : Bool) → root_eq root e.root ≡ false → is_pending root late ≡ false → is_pending root (cond c (e ∷ late) late) ≡ false
      other true is rest = ap (λ b. b || is_pending root late) is ∙ rest
      other false is rest = rest

      by : (a b : Bool) → root_eq root e.root ≡ a → is_timed e ≡ b → (a && b) ≡ false → is_pending root late ≡ false
          → is_pending root (cond (is_late buckets tick e) (e ∷ late) late) ≡ false
      by true true one two off rest = absurd (true_false off)
      by true false one two off rest = ap (λ c. is_pending root (cond (c && (e.start + buckets == tick)) (e ∷ late) late)) two ∙ rest
      by false b one two off rest = other (is_late buckets tick e) one rest

  silent-untimed : (root : Root) (p : InFlight L) (calls : List (Call L)) → has_timed root p.pending ≡ false → list_any (begins root) calls ≡ false
      → one_tells root calls p ≡ false
  silent-untimed root p [] off none = refl
  silent-untimed root p (Begin other spans ∷ calls) off none =
      let both = either_false (root_eq root other) (list_any (begins root) calls) none in
      silent-untimed root (after (Begin other spans) p) calls (untimed-began root other spans (nat_lt (length p.pending) p.cap) p both.0 off) both.1
  silent-untimed root p (Settle other list ∷ calls) off none =
      silent-untimed root (after (Settle other list) p) calls (untimed-settles root other list (is_some (timed_of other p.pending)) p off) none
  silent-untimed root p (End other ∷ calls) off none =
      silent-untimed root (after (End other) p) calls (none-filter (is_timed_of root) (λ (e : Entry L). not (is_of_root other e)) p.pending off) none
  silent-untimed root p (Abort other ∷ calls) off none =
      silent-untimed root (after (Abort other) p) calls (untimed-aborts root other (is_pending other p.pending) p off) none
  silent-untimed root p (Tick ∷ calls) off none =
      let later = none-filter (is_timed_of root) (λ (e : Entry L). not (is_late p.buckets (p.tick + 1) e)) p.pending off in
      ap (λ b. b || one_tells root calls (after Tick p)) (untimed-told root p.buckets (p.tick + 1) p.pending off) ∙ silent-untimed root (after Tick p) calls later none

  pub silent_untimed : (root : Root) (p : InFlight L) (calls : List (Call L)) → is_some (timed_of root p.pending) ≡ false
      → list_any (begins root) calls ≡ false → one_tells root calls p ≡ false
  silent_untimed root p calls off none = silent-untimed root p calls (sym (some-any (is_timed_of root) p.pending) ∙ off) none

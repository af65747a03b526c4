-- How the parts of a call of `emit` make the whole.
use Rattle.std.proofs.Common.{◌≡◌, ℕ, zero, suc, ◌+◌, ◌-◌, ◌^◌, ◌≤◌, List, [], ◌∷◌, ◌++◌, Result, Ok, Err, OnOk, length, map, refl, sym, ap, subst, ◌∙◌, append_assoc, append-nil, length-append, add-zero, arith}
use Rattle.std.specs.List.{range_with_len}
use Rattle.std.specs.declared.alloc.AllocError.{AllocError}
use Rattle.std.proofs.lemmas.List.{length-map, map-append}
use Rattle.tuple_account.specs.storm_values.declared.value.Root.{Root}
use Rattle.tuple_account.specs.storm_values.declared.value.Value.{Value}
use Rattle.groupings.specs.declared.lane.Targets.{Targets}
use Rattle.groupings.specs.declared.lane.Targets.TheVariants.{All}
use Rattle.groupings.specs.Allowed.{told}
use Rattle.tuple_account.specs.tree_model.declared.messages.Parcel.{Parcel}
use Rattle.tuple_account.specs.tree_model.declared.messages.Parcel.TheVariants.{ToTask}
use Rattle.tuple_account.specs.tree_model.declared.messages.Tuple.{Tuple}
use Rattle.tuple_account.specs.tree_model.Trees.{Node}
use Rattle.tuple_account.specs.Issued.{tuples_from, edges_of}
use Rattle.tuple_account.specs.Histories.{to_tasks}
use Rattle.tuple_account.specs.Places.{ids_of}
use Rattle.tuple_account.proofs.Drawing.{ids_are, as_many_edges}
use Rattle.output_collector.specs.Draws.{Draws, given_after}
use Rattle.output_collector.specs.Sending.{AreFew, BeginsWith, Sent, Sends, nodes_at}

-- ---- words

pub map-range_append : (f : ℕ → ℕ) (a n m : ℕ) → map f (range_with_len a (n + m)) ≡ map f (range_with_len a n) ++ map f (range_with_len (a + n) m)
map-range_append f a zero m = let e : a + 0 ≡ a = omega arith in let z : 0 + m ≡ m = omega arith in rw (e, z) refl
map-range_append f a (suc n) m =
    let e : suc n + m ≡ suc (n + m) = omega arith in
    let s : a + suc n ≡ a + 1 + n = omega arith in
    rw (e, s) (ap (λ l. f a ∷ l) (map-range_append f (a + 1) n m))

range_more : (a n : ℕ) → range_with_len a (n + 1) ≡ range_with_len a n ++ (a + n) ∷ []
range_more a zero = let e : a ≡ a + 0 = omega arith in ap (λ k. k ∷ []) e
range_more a (suc n) =
    let e : suc n + 1 ≡ suc (n + 1) = omega arith in
    let s : a + 1 + n ≡ a + suc n = omega arith in
    rw e (ap (λ l. a ∷ l) (range_more (a + 1) n ∙ ap (λ k. range_with_len (a + 1) n ++ k ∷ []) s))

pub Draws-none : {I : Type 0} (tells : I → (ℕ → ℕ) → ℕ → Type 0) (a : I) → Draws tells a [] a
Draws-none tells a = record {
  are_next = λ words given told. refl;
  goes_on = λ words given told. subst (tells a words) (sym (add-zero given)) told;
}

pub Draws-then : {I : Type 0} (tells : I → (ℕ → ℕ) → ℕ → Type 0) (a b c : I) (xs ys : List ℕ) → Draws tells a xs b → Draws tells b ys c → Draws tells a (xs ++ ys) c
Draws-then tells a b c xs ys first second = record {
  are_next = λ words given told.
      let early = first.are_next words given told in
      let late = second.are_next words (given + length xs) (first.goes_on words given told) in
      (λ i. early i ++ late i) ∙ sym (map-range_append words given (length xs) (length ys)) ∙ ap (λ n. map words (range_with_len given n)) (sym (length-append xs ys));
  goes_on = λ words given told.
      subst (tells c words) (let e : given + length xs + length ys ≡ given + length (xs ++ ys) = omega (arith, length-append xs ys) in e)
      (second.goes_on words (given + length xs) (first.goes_on words given told));
}

-- one word more
pub Draws-more : {I : Type 0} (tells : I → (ℕ → ℕ) → ℕ → Type 0) (a b c : I) (xs : List ℕ) (x : ℕ) → Draws tells a xs b
    → ((words : ℕ → ℕ) (given : ℕ) → tells b words given → (x ≡ words given) × tells c words (given + 1)) → Draws tells a (xs ++ x ∷ []) c
Draws-more tells a b c xs x first told =
    Draws-then tells a b c xs (x ∷ []) first (record {
      are_next = λ words given at. ap (λ (w : ℕ). w ∷ []) ((told words given at).0);
      goes_on = λ words given at. (told words given at).1;
    })

-- ---- tuples and parcels

pub length-tuples_from : (root : Root) (path : List ℕ) (j : ℕ) (nodes : List Node) (ids : List ℕ) → length ids ≡ length nodes → length (tuples_from root path j nodes ids) ≡ length nodes
length-tuples_from root path j nodes ids enough = sym (length-map (tuples_from root path j nodes ids) (λ (tuple : Tuple). tuple.edge)) ∙ as_many_edges root path j nodes ids enough ∙ enough

pub tuples_from-append : (root : Root) (path : List ℕ) (j : ℕ) (ns ms : List Node) (xs ys : List ℕ) → length xs ≡ length ns
    → tuples_from root path j (ns ++ ms) (xs ++ ys) ≡ tuples_from root path j ns xs ++ tuples_from root path (j + length ns) ms ys
tuples_from-append root path j [] ms [] ys enough = ap (λ k. tuples_from root path k ms ys) (sym (add-zero j))
tuples_from-append root path j [] ms (x ∷ xs) ys enough = absurd (omega arith)
tuples_from-append root path j (n ∷ ns) ms [] ys enough = absurd (omega arith)
tuples_from-append root path j (n ∷ ns) ms (x ∷ xs) ys enough =
    let first : Tuple = record { root = root; edge = record { path = path ++ j ∷ []; id = x }; component = n.component; row = n.row } in
    let e : suc j + length ns ≡ j + length (n ∷ ns) = omega arith in
    ap (λ l. first ∷ l) (tuples_from-append root path (suc j) ns ms xs ys (omega arith) ∙ ap (λ k. tuples_from root path (suc j) ns xs ++ tuples_from root path k ms ys) e)

pub to_tasks-append : (xs ys : List Tuple) (ts us : List ℕ) → length xs ≡ length ts → to_tasks (xs ++ ys) (ts ++ us) ≡ to_tasks xs ts ++ to_tasks ys us
to_tasks-append [] ys [] us same = refl
to_tasks-append [] ys (t ∷ ts) us same = absurd (omega arith)
to_tasks-append (x ∷ xs) ys [] us same = absurd (omega arith)
to_tasks-append (x ∷ xs) ys (t ∷ ts) us same = ap (λ l. ToTask t x ∷ l) (to_tasks-append xs ys ts us (omega arith))

-- ---- what is sent

module _ {I : Type 0} (tells : I → (ℕ → ℕ) → ℕ → Type 0) (root : Root) (path : List ℕ) where
  -- two parts
  pub Sends-then : (ns ms : List Node) (ts us : List ℕ) (a b c : Sent I) → length ns ≡ length ts
      → Sends tells root path ns ts a b → Sends tells root path ms us b c → Sends tells root path (ns ++ ms) (ts ++ us) a c
  Sends-then ns ms ts us a b c same first second =
      let early = tuples_from root path (length a.edges) ns first.ids in
      let late = tuples_from root path (length b.edges) ms second.ids in
      let many : length (edges_of early) ≡ length ns = as_many_edges root path (length a.edges) ns first.ids first.enough ∙ first.enough in
      let more : length b.edges ≡ length a.edges + length ns = ap length first.edges ∙ length-append a.edges (edges_of early) ∙ ap (λ n. length a.edges + n) many in
      let whole : tuples_from root path (length a.edges) (ns ++ ms) (first.ids ++ second.ids) ≡ early ++ late =
      tuples_from-append root path (length a.edges) ns ms first.ids second.ids first.enough ∙ ap (λ k. early ++ tuples_from root path k ms second.ids) (sym more) in
      let aligned : length early ≡ length ts = length-tuples_from root path (length a.edges) ns first.ids first.enough ∙ same in
      record {
        ids = first.ids ++ second.ids;
        enough = omega (arith, length-append first.ids second.ids, length-append ns ms, first.enough, second.enough);
        edges = second.edges ∙ ap (λ l. l ++ edges_of late) first.edges ∙ append_assoc a.edges (edges_of early) (edges_of late)
            ∙ ap (λ l. a.edges ++ l) (sym (map-append (λ (tuple : Tuple). tuple.edge) early late)) ∙ ap (λ l. a.edges ++ edges_of l) (sym whole);
        parcels = second.parcels ∙ ap (λ l. l ++ to_tasks late us) first.parcels ∙ append_assoc a.parcels (to_tasks early ts) (to_tasks late us)
            ∙ ap (λ l. a.parcels ++ l) (sym (to_tasks-append early late ts us aligned)) ∙ ap (λ l. a.parcels ++ to_tasks l (ts ++ us)) (sym whole);
        drawn = Draws-then tells a.ids b.ids c.ids first.ids second.ids first.drawn second.drawn;
        given = λ fits.
            let now = first.given fits in
            let e : given_after b.given (length second.ids) ≡ given_after a.given (length (first.ids ++ second.ids)) = omega (arith, length-append first.ids second.ids) in
            second.given (omega arith) ∙ e;
      }

  -- nothing
  pub Sends-none : (a : Sent I) → Sends tells root path [] [] a a
  Sends-none a = record {
    ids = [];
    enough = refl;
    edges = sym (append-nil a.edges);
    parcels = sym (append-nil a.parcels);
    drawn = Draws-none tells a.ids;
    given = λ fits. omega arith;
  }

  -- what is sent from here on makes the whole
  pub record Goes (whole : List Node) (all : List ℕ) (start : Sent I) (nodes : List Node) (tasks : List ℕ) (now : Sent I) : Type 0 where
    pub on : (end : Sent I) → Sends tells root path nodes tasks now end → Sends tells root path whole all start end

  pub Goes-first : (whole : List Node) (all : List ℕ) (start : Sent I) → Goes whole all start whole all start
  Goes-first whole all start = record { on = λ end sends. sends }

  pub Goes-then : (whole : List Node) (all : List ℕ) (start : Sent I) (ns ms : List Node) (ts us : List ℕ) (a b : Sent I) → length ns ≡ length ts
      → Goes whole all start (ns ++ ms) (ts ++ us) a → Sends tells root path ns ts a b → Goes whole all start ms us b
  Goes-then whole all start ns ms ts us a b same goes sends = record { on = λ end rest. goes.on end (Sends-then ns ms ts us a b end same sends rest) }

  pub Goes-end : (whole : List Node) (all : List ℕ) (start now : Sent I) → Goes whole all start [] [] now → Sends tells root path whole all start now
  Goes-end whole all start now goes = goes.on now (Sends-none now)

  -- one more task of a component
  pub Sends-more : (component first count : ℕ) (row : List Value) (a b c : Sent I)
      → Sends tells root path (nodes_at component row (range_with_len first count)) (range_with_len first count) a b
      → Sends tells root path (record { component = component; row = row } ∷ []) ((first + count) ∷ []) b c
      → Sends tells root path (nodes_at component row (range_with_len first (count + 1))) (range_with_len first (count + 1)) a c
  Sends-more component first count row a b c early late =
      let more : range_with_len first (count + 1) ≡ range_with_len first count ++ (first + count) ∷ [] = range_more first count in
      let node : ℕ → Node = λ task. record { component = component; row = row } in
      rw more (rw (map-append node (range_with_len first count) ((first + count) ∷ []))
      (Sends-then (map node (range_with_len first count)) (record { component = component; row = row } ∷ []) (range_with_len first count) ((first + count) ∷ []) a b c (length-map (range_with_len first count) node) early late))

  -- copies to all tasks but the last, and then the row to the last
  pub Sends-all : (component : ℕ) (row : List Value) (found : Targets) (first count : ℕ) (r : Result (Unit {0}) AllocError) (a b c : Sent I) → found ≡ All first count → AreFew found
      → Sends tells root path (nodes_at component row (range_with_len first (count - 1))) (range_with_len first (count - 1)) a b
      → OnOk r (Sends tells root path (record { component = component; row = row } ∷ []) ((first + (count - 1)) ∷ []) b c)
      → OnOk r (Sends tells root path (nodes_at component row (told found)) (told found) a c)
  Sends-all component row found first count r a b c is few early late = subst (λ (x : Targets). OnOk r (Sends tells root path (nodes_at component row (told x)) (told x) a c)) (sym is) (by_result r late)
    where
      whole : count - 1 + 1 ≡ count
      whole = let bounds : AreFew (All first count) = subst AreFew is few in omega arith

      by_result : (r : Result (Unit {0}) AllocError) → OnOk r (Sends tells root path (record { component = component; row = row } ∷ []) ((first + (count - 1)) ∷ []) b c)
          → OnOk r (Sends tells root path (nodes_at component row (range_with_len first count)) (range_with_len first count) a c)
      by_result (Ok done) late = subst (λ n. Sends tells root path (nodes_at component row (range_with_len first n)) (range_with_len first n) a c) whole (Sends-more component first (count - 1) row a b c early late)
      by_result (Err e) late = tt

-- what a whole call sent
pub record IsSent {I : Type 0} (tells : I → (ℕ → ℕ) → ℕ → Type 0) (root : Root) (path : List ℕ) (nodes : List Node) (tasks : List ℕ) (old : List Parcel) (a b : Sent I) : Type 0 where
  pub parcels : b.parcels ≡ old ++ to_tasks (tuples_from root path 0 nodes (ids_of b.edges)) tasks
  pub edges : b.edges ≡ edges_of (tuples_from root path 0 nodes (ids_of b.edges))
  pub enough : length b.edges ≡ length nodes
  pub drawn : Draws tells a.ids (ids_of b.edges) b.ids
  pub given : a.given ≤ 2 ^ 64 - 1 → b.given ≡ given_after a.given (length b.edges)

pub sent_whole : {I : Type 0} (tells : I → (ℕ → ℕ) → ℕ → Type 0) (root : Root) (path : List ℕ) (nodes : List Node) (tasks : List ℕ) (ids : I) (given : ℕ) (old : List Parcel) (b : Sent I)
    → Sends tells root path nodes tasks (record { ids = ids; given = given; edges = []; parcels = old }) b
    → IsSent tells root path nodes tasks old (record { ids = ids; given = given; edges = []; parcels = old }) b
sent_whole tells root path nodes tasks ids given old b sends =
    let same : ids_of b.edges ≡ sends.ids = ap ids_of sends.edges ∙ ids_are root path 0 nodes sends.ids sends.enough in
    let many : length b.edges ≡ length sends.ids = ap length sends.edges ∙ as_many_edges root path 0 nodes sends.ids sends.enough in
    record {
      parcels = sends.parcels ∙ ap (λ xs. old ++ to_tasks (tuples_from root path 0 nodes xs) tasks) (sym same);
      edges = sends.edges ∙ ap (λ xs. edges_of (tuples_from root path 0 nodes xs)) (sym same);
      enough = many ∙ sends.enough;
      drawn = subst (λ xs. Draws tells ids xs b.ids) (sym same) sends.drawn;
      given = λ fits. sends.given fits ∙ ap (given_after given) (sym many);
    }

-- ---- what a list begins with

pub BeginsWith-itself : {X : Type 0} (a : List X) → BeginsWith a a
BeginsWith-itself a = ([], sym (append-nil a))

pub BeginsWith-then : {X : Type 0} (a b c : List X) → BeginsWith b a → BeginsWith c b → BeginsWith c a
BeginsWith-then a b c first second = (first.0 ++ second.0, second.1 ∙ ap (λ l. l ++ second.0) first.1 ∙ append_assoc a first.0 second.0)

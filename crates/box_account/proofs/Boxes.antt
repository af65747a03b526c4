-- What was taken in all stands in the taken list of the box that it is for.
use Rattle.std.proofs.Common.{◌≡◌, ◌≤◌, ℕ, List, [], ◌∷◌, map, get_or, slice_get, Option, Some, Contains, sym, ap, ◌∙◌, subst, arith}
use Rattle.std.specs.List.{AllByRecursion}
use Rattle.std.specs.Option.{option_map, option_map_or}
use Rattle.std.proofs.lemmas.List.Elements.{All-contains_itself, recursion_from_All}
use Rattle.std.proofs.lemmas.Option.{slice_get-get_or, slice_get-map}
use Rattle.box_account.specs.Taken.{TookTrue, all_packets, packets_at, packets_by, packets_in}
use Rattle.box_rows.specs.declared.mail.Mail.{Mail}
use Rattle.box_rows.specs.declared.mail.Mail.TheVariants as mail
use Rattle.box_rows.specs.Mails.{IsTrueMail, IsTrueParcel, box_of, last_box, weigh_mail}
use Rattle.box_rows.specs.Rows.{taken_in, weigh_taken}
use Rattle.event_worlds.specs.counted_items.Weights.{weigh}
use Rattle.event_worlds.proofs.counted_items.Each.{each-both, each-flat_map, each-to_map, each-weaker}
use Rattle.event_worlds.proofs.counted_items.Equality.{each-within}
use Rattle.event_worlds.proofs.counted_items.Weighing.{weigh-flat_map, weigh-map, weigh-same}
use Rattle.task_queues.specs.Books.{taken_of}
use Rattle.task_queues.specs.declared.pass.Pass.{Pass}
use Rattle.task_queues.specs.declared.rule.Stamped.{Stamped}
use Rattle.task_queues.specs.declared.rule.View.{View}
use Rattle.task_queues.specs.Passes.{view_of}
use Rattle.event_worlds.specs.topology_plan.Topology.{Topology}
use Rattle.event_worlds.specs.tree_model.declared.messages.Parcel.{Parcel}
use Rattle.event_worlds.specs.tuple_account.Histories.{Packet, of_parcel, of_verdict}
use Rattle.event_worlds.proofs.tuple_account.Routing.{packet_code}

-- ---- weights

packets-weight : (f : Packet → ℕ) (m : Mail) → weigh f (packets_in m) ≡ weigh_mail f m
packets-weight f (mail.Run parcels) = weigh-map f of_parcel parcels
packets-weight f (mail.Verdict v) = omega arith

view-weight : (f : Packet → ℕ) (v : View Mail) → weigh f (packets_by v) ≡ weigh_taken f v
view-weight f v =
    weigh-flat_map f (λ (s : Stamped Mail). packets_in s.item) (taken_of v.books)
    ∙ weigh-same (λ (s : Stamped Mail). weigh f (packets_in s.item)) (λ (s : Stamped Mail). weigh_mail f s.item) (λ s. packets-weight f s.item) (taken_of v.books)

pub all-weight : (f : Packet → ℕ) (row : List (Pass Mail)) → weigh f (all_packets row) ≡ taken_in row f
all-weight f row =
    weigh-flat_map f (λ (p : Pass Mail). packets_by (view_of p)) row
    ∙ weigh-same (λ (p : Pass Mail). weigh f (packets_by (view_of p))) (λ (p : Pass Mail). weigh_taken f (view_of p)) (λ p. view-weight f (view_of p)) row

-- ---- boxes

-- the box that a packet is for
abbrev pub box_for : Topology → Packet → ℕ
box_for t (of_parcel p) = box_of t p
box_for t (of_verdict v) = last_box t

module _ (t : Topology) where
  mail_box : (n : ℕ) (m : Mail) → IsTrueMail t n m → AllByRecursion (λ (q : Packet). box_for t q ≡ n) (packets_in m)
  mail_box n (mail.Run parcels) is =
      each-to_map (λ (q : Packet). box_for t q ≡ n) of_parcel parcels (each-weaker (IsTrueParcel t n) (λ (p : Parcel). box_of t p ≡ n) (λ p fits. sym fits.1) parcels is.each)
  mail_box n (mail.Verdict v) is = (sym is, tt)

  module _ (row : List (Pass Mail)) (took : TookTrue t row) where
    -- the packet stands in the taken list of the box that it is for
    abbrev pub Stands : Packet → Type 0
    Stands q = Contains (packets_at (box_for t q) row) q

    at_box : (n : ℕ) (p : Pass Mail) → slice_get row n ≡ Some p → AllByRecursion Stands (packets_by (view_of p))
    at_box n p at =
        each-weaker (λ (q : Packet). (box_for t q ≡ n) × Contains (packets_by (view_of p)) q) Stands stands (packets_by (view_of p))
        (each-both (λ (q : Packet). box_for t q ≡ n) (Contains (packets_by (view_of p))) (packets_by (view_of p)) own (recursion_from_All (Contains (packets_by (view_of p))) (packets_by (view_of p)) (All-contains_itself (packets_by (view_of p)))))
      where
        same : packets_at n row ≡ packets_by (view_of p)
        same = ap (λ (o : Option (Pass Mail)). option_map_or (λ (x : Pass Mail). packets_by (view_of x)) o []) at

        seen : slice_get (map view_of row) n ≡ Some (view_of p)
        seen = slice_get-map view_of row n ∙ ap (option_map view_of) at

        own : AllByRecursion (λ (q : Packet). box_for t q ≡ n) (packets_by (view_of p))
        own =
            each-flat_map (λ (q : Packet). box_for t q ≡ n) (λ (s : Stamped Mail). packets_in s.item) (taken_of (view_of p).books)
            (each-weaker (λ (s : Stamped Mail). IsTrueMail t n s.item) (λ (s : Stamped Mail). AllByRecursion (λ (q : Packet). box_for t q ≡ n) (packets_in s.item)) (λ s is. mail_box n s.item is) (taken_of (view_of p).books) (took n (view_of p) seen))

        stands : (q : Packet) → (box_for t q ≡ n) × Contains (packets_by (view_of p)) q → Stands q
        stands q both = subst (λ (m : ℕ). Contains (packets_at m row) q) (sym both.0) (subst (λ (qs : List Packet). Contains qs q) (sym same) both.1)

    all_stand : AllByRecursion Stands (all_packets row)
    all_stand =
        each-flat_map Stands (λ (p : Pass Mail). packets_by (view_of p)) row
        (recursion_from_All (λ (p : Pass Mail). AllByRecursion Stands (packets_by (view_of p))) row (λ n d below. at_box n (get_or row n d) (slice_get-get_or row n d below)))

    -- what was taken in all stands there
    pub stands_there : (q : Packet) → ((f : Packet → ℕ) → f q ≤ taken_in row f) → Stands q
    stands_there q some = (each-within packet_code Stands (q ∷ []) (all_packets row) (λ f. let s = some f in let a = all-weight f row in omega arith) all_stand).0

use Rattle.std.proofs.Common.{rules, false, ◌||◌, ◌≡◌, ◌<◌, ◌∷◌, ◌++◌, [], length, map, subst, sym, ap, ◌∙◌, refl, append-nil, arith}
use Rattle.std.specs.Prelude.{vec_capacity}
use Rattle.std.specs.Option.{option_to_list}
use Rattle.std.specs.List.Sorted.{IsPermutation}
use Rattle.pulse_board.specs.Seats.{book_of}
use Rattle.worker_stretches.specs.Hands.{items_in}
use Rattle.worker_stretches.specs.Parts.{ackers_in, desks_in}
use Rattle.worker_stretches.proofs.Crewing.{Parting, parted, parting-more, parting-none, room-left}
use Rattle.worker_stretches.proofs.Knowing.{TellsAll, all-told, drawn-both, tells-more}
use Rattle.worker_stretches.proofs.crews.taken_apart.Goals as goal

pub loop-worker-init : goal.loop-worker-init
loop-worker-init g c = record {
  parting =
      subst (λ xs. Parting c.args.posts.now.plan.now c.args.posts.now.boxes.items c.args.board.now c.args.crews.items c.args.row.now.items c.args.crews.items c.args.row.now.items c.args.seat.now xs c.args.offices.items false) (sym c.requires.hands)
      (subst (λ xs. Parting c.args.posts.now.plan.now c.args.posts.now.boxes.items c.args.board.now c.args.crews.items c.args.row.now.items c.args.crews.items c.args.row.now.items c.args.seat.now [] xs false) (sym c.requires.offices)
      (parting-none c.args.posts.now.plan.now c.args.posts.now.boxes.items c.args.board.now c.args.crews.items c.args.row.now.items c.args.seat.now c.requires.passes c.requires.crews c.requires.seat c.requires.numbers));
  drawn = refl;
  tells = λ book own all. all;
  given_room = c.requires.hands_room;
  met_room = c.requires.offices_room;
}

pub join_row-requires : goal.join_row-requires
join_row-requires g c =
    let is : c.loop-worker.rest.items ≡ c.pop.new.self.items ++ c.in-Some.worker ∷ [] = c.pop.ensures.items ∙ ap (λ o. c.pop.new.self.items ++ option_to_list o) c.in-Some.is in
    let room = room-left c.args.posts.now.plan.now c.args.posts.now.boxes.items c.args.board.now c.args.crews.items c.args.row.now.items c.loop-worker.rest.items c.pop.new.self.items c.in-Some.worker c.loop-worker.row.items c.loop-worker.seat c.loop-worker.given.items c.loop-worker.met.items c.loop-worker.wants
    c.loop-worker.invariant.parting is in record { passes = c.loop-worker.invariant.parting.passes; other = room.2.passes }

pub join-requires : goal.join-requires
join-requires g c =
    let is : c.loop-worker.rest.items ≡ c.pop.new.self.items ++ c.in-Some.worker ∷ [] = c.pop.ensures.items ∙ ap (λ o. c.pop.new.self.items ++ option_to_list o) c.in-Some.is in
    let room = room-left c.args.posts.now.plan.now c.args.posts.now.boxes.items c.args.board.now c.args.crews.items c.args.row.now.items c.loop-worker.rest.items c.pop.new.self.items c.in-Some.worker c.loop-worker.row.items c.loop-worker.seat c.loop-worker.given.items c.loop-worker.met.items c.loop-worker.wants
    c.loop-worker.invariant.parting is in record { seat = c.loop-worker.invariant.parting.seat; other = room.2.seat }

pub push_reserved-requires : goal.push_reserved-requires
push_reserved-requires g c =
    let is : c.loop-worker.rest.items ≡ c.pop.new.self.items ++ c.in-Some.worker ∷ [] = c.pop.ensures.items ∙ ap (λ o. c.pop.new.self.items ++ option_to_list o) c.in-Some.is in
    let room = room-left c.args.posts.now.plan.now c.args.posts.now.boxes.items c.args.board.now c.args.crews.items c.args.row.now.items c.loop-worker.rest.items c.pop.new.self.items c.in-Some.worker c.loop-worker.row.items c.loop-worker.seat c.loop-worker.given.items c.loop-worker.met.items c.loop-worker.wants
    c.loop-worker.invariant.parting is in
    let few = room.0 in let there = c.loop-worker.invariant.given_room in
    let below : length c.loop-worker.given.items < vec_capacity c.loop-worker.given = omega arith in search rules

pub push_reserved-requires-in-Some : goal.push_reserved-requires-in-Some
push_reserved-requires-in-Some g c =
    let is : c.loop-worker.rest.items ≡ c.pop.new.self.items ++ c.in-Some.worker ∷ [] = c.pop.ensures.items ∙ ap (λ o. c.pop.new.self.items ++ option_to_list o) c.in-Some.is in
    let room = room-left c.args.posts.now.plan.now c.args.posts.now.boxes.items c.args.board.now c.args.crews.items c.args.row.now.items c.loop-worker.rest.items c.pop.new.self.items c.in-Some.worker c.loop-worker.row.items c.loop-worker.seat c.loop-worker.given.items c.loop-worker.met.items c.loop-worker.wants
    c.loop-worker.invariant.parting is in
    let few = room.1 in let there = c.loop-worker.invariant.met_room in
    let below : length c.loop-worker.met.items < vec_capacity c.loop-worker.met = omega arith in search rules

pub loop-worker-preserved : goal.loop-worker-preserved
loop-worker-preserved g c =
    let is : c.loop-worker.rest.items ≡ c.pop.new.self.items ++ c.in-Some.worker ∷ [] = c.pop.ensures.items ∙ ap (λ o. c.pop.new.self.items ++ option_to_list o) c.in-Some.is in record {
      parting =
          subst (λ xs. Parting c.args.posts.now.plan.now c.args.posts.now.boxes.items c.args.board.now c.args.crews.items c.args.row.now.items c.pop.new.self.items c.join_row.new.into.items c.join.new.into xs c.push_reserved-in-Some.new.self.items (c.loop-worker.wants || c.in-Some.worker.wants)) (sym c.push_reserved.ensures.items)
          (subst (λ xs. Parting c.args.posts.now.plan.now c.args.posts.now.boxes.items c.args.board.now c.args.crews.items c.args.row.now.items c.pop.new.self.items c.join_row.new.into.items c.join.new.into (c.loop-worker.given.items ++ c.in-Some.worker.desks ∷ []) xs (c.loop-worker.wants || c.in-Some.worker.wants)) (sym c.push_reserved-in-Some.ensures.items)
          (parting-more c.args.posts.now.plan.now c.args.posts.now.boxes.items c.args.board.now c.args.crews.items c.args.row.now.items c.loop-worker.rest.items c.pop.new.self.items c.in-Some.worker c.loop-worker.row.items c.join_row.new.into.items c.loop-worker.seat c.join.new.into
          c.loop-worker.given.items c.loop-worker.met.items c.loop-worker.wants (c.loop-worker.wants || c.in-Some.worker.wants) c.loop-worker.invariant.parting is c.join_row.ensures.passes c.join_row.ensures.joined c.join.ensures.seat c.join.ensures.numbered refl));
      drawn =
          let room = room-left c.args.posts.now.plan.now c.args.posts.now.boxes.items c.args.board.now c.args.crews.items c.args.row.now.items c.loop-worker.rest.items c.pop.new.self.items c.in-Some.worker c.loop-worker.row.items c.loop-worker.seat c.loop-worker.given.items c.loop-worker.met.items c.loop-worker.wants
          c.loop-worker.invariant.parting is in
          drawn-both (book_of c.join.new.into) (book_of c.loop-worker.seat) (book_of c.in-Some.worker.seat) c.join.ensures.book room.2.drawn ∙ c.loop-worker.invariant.drawn;
      tells = tells-more c.args.crews.items c.loop-worker.rest.items c.pop.new.self.items c.in-Some.worker c.loop-worker.seat c.join.new.into is c.join.ensures.book c.loop-worker.invariant.tells;
      given_room = let e = c.loop-worker.invariant.given_room in search rules;
      met_room = let e = c.loop-worker.invariant.met_room in search rules;
    }

pub returns : goal.returns
returns g c =
    let none : c.loop-worker.rest.items ≡ [] = search rules in
    let inv = subst (λ xs. Parting c.args.posts.now.plan.now c.args.posts.now.boxes.items c.args.board.now c.args.crews.items c.args.row.now.items xs c.loop-worker.row.items c.loop-worker.seat c.loop-worker.given.items c.loop-worker.met.items c.loop-worker.wants) none c.loop-worker.invariant.parting in record {
      passes = inv.passes;
      joined = inv.joined;
      seat = parted c.args.posts.now.plan.now c.args.posts.now.boxes.items c.args.board.now c.args.crews.items c.args.row.now.items c.loop-worker.row.items c.loop-worker.seat c.loop-worker.given.items c.loop-worker.met.items c.loop-worker.wants inv;
      drawn = c.loop-worker.invariant.drawn;
      knows = all-told c.args.crews.items c.loop-worker.seat (subst (λ ws. TellsAll c.args.crews.items ws c.loop-worker.seat) none c.loop-worker.invariant.tells);
      desks = subst (λ xs. IsPermutation (items_in (map desks_in c.args.crews.items)) xs) (append-nil (items_in c.loop-worker.given.items)) inv.desks;
      ackers = subst (λ xs. IsPermutation (items_in (map ackers_in c.args.crews.items)) xs) (append-nil (items_in c.loop-worker.met.items)) inv.ackers;
      many = inv.many;
      wants = λ fine. inv.enough fine tt;
    }

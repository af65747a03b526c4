use Rattle.std.proofs.Common.{rules, ◌≡◌, ◌<◌, ◌-◌, length, take, drop, get_or, ap, sym, refl, ◌∙◌, arith}
use Rattle.std.specs.Prelude.{slice_get}
use Rattle.tree_model.specs.Packs.{begin_at}
use Rattle.tree_model.proofs.Packing.{lent_is, packed-long, within_buffer}
use Rattle.tree_model.proofs.packed.PackedWrites.get.Goals as goal

pub begin_of-start-requires : goal.begin_of-start-requires
begin_of-start-requires c =
    let there = c.requires in
    let long = packed-long 0 c.self.inside.heads.items c.self.inside.keys.items in
    let view = ap length c.self.view_is in
    let same : length c.deref.result.now ≡ length c.self.inside.heads.items = search rules in omega arith

pub index-head-requires : goal.index-head-requires
index-head-requires c =
    let there = c.requires in
    let long = packed-long 0 c.self.inside.heads.items c.self.inside.keys.items in
    let view = ap length c.self.view_is in
    let same = c.self.inside.heads.ok.0 in omega arith

pub key_in-requires-clause-low : goal.key_in-requires-clause-low
key_in-requires-clause-low c =
    let there = c.requires in
    let long = packed-long 0 c.self.inside.heads.items c.self.inside.keys.items in
    let view = ap length c.self.view_is in
    let low : c.args.at < length c.self.inside.heads.items = omega arith in
    let head : c.index-head.result.now ≡ get_or c.self.inside.heads.items c.args.at c.index-head.result.now = search rules in
    let begin : c.begin_of-start.result ≡ begin_at 0 c.self.inside.heads.items c.args.at = search rules in
    let within = (within_buffer c.self.inside.heads.items c.self.inside.keys.items c.args.at c.index-head.result.now c.self.inside.ends low head).0 in omega arith

pub key_in-requires-clause-high : goal.key_in-requires-clause-high
key_in-requires-clause-high c =
    let there = c.requires in
    let long = packed-long 0 c.self.inside.heads.items c.self.inside.keys.items in
    let view = ap length c.self.view_is in
    let low : c.args.at < length c.self.inside.heads.items = omega arith in
    let head : c.index-head.result.now ≡ get_or c.self.inside.heads.items c.args.at c.index-head.result.now = search rules in
    let begin : c.begin_of-start.result ≡ begin_at 0 c.self.inside.heads.items c.args.at = search rules in
    let same : length c.deref-2.result.now ≡ length c.self.inside.keys.items = search rules in
    let within = (within_buffer c.self.inside.heads.items c.self.inside.keys.items c.args.at c.index-head.result.now c.self.inside.ends low head).1 in omega arith

pub returns : goal.returns
returns c =
    let there = c.requires in
    let long = packed-long 0 c.self.inside.heads.items c.self.inside.keys.items in
    let view = ap length c.self.view_is in
    let low : c.args.at < length c.self.inside.heads.items = omega arith in
    let head : c.index-head.result.now ≡ get_or c.self.inside.heads.items c.args.at c.index-head.result.now = search rules in
    let begin : c.begin_of-start.result ≡ begin_at 0 c.self.inside.heads.items c.args.at = search rules in
    let bytes : c.deref-2.result.now ≡ c.self.inside.keys.items = search rules in
    let key = c.key_in.ensures ∙ (λ i. take (c.index-head.result.now.end - begin i) (drop (begin i) (bytes i))) in
    ap (λ ws. slice_get ws c.args.at) (sym c.self.view_is) ∙ lent_is c.self.inside.heads.items c.self.inside.keys.items c.args.at c.index-head.result.now (record { state = _; part = _; key = c.key_in.result; amount = _ }) low head refl refl (search rules) key

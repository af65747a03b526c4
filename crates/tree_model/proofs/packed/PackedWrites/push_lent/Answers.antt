use Rattle.std.proofs.Common.{rules, ◌≡◌, true, [], ◌∷◌, ◌++◌, length, ap, refl, subst, sym, ◌∙◌}
use Rattle.std.proofs.lemmas.Str.{is_utf8-from_IsUtf8}
use Rattle.tree_model.specs.declared.packed.Head.{Head}
use Rattle.tree_model.specs.Packs.{end_behind, packed_from, write_in}
use Rattle.tree_model.proofs.Packing.{pushed_ends, pushed_is, pushed_texts}
use Rattle.tree_model.proofs.packed.PackedWrites.push_lent.Goals as goal

pub invariant_of-self-inside-2 : goal.invariant_of-self-inside-2
invariant_of-self-inside-2 c =
    let key = c.args.write.key.now in
    let head : Head = record { state = c.args.write.state; part = c.args.write.part; amount = c.args.write.amount; end = c.len-end.result } in
    let heads : c.push_reserved.new.self.items ≡ c.self.inside.heads.items ++ head ∷ [] = search rules in
    let keys : c.extend_from_slice.new.self.items ≡ c.self.inside.keys.items ++ key = search rules in
    let end : c.len-end.result ≡ length c.extend_from_slice.new.self.items = c.len-end.ensures ∙ c.extend_from_slice.new.self.ok.0 in
    let all : packed_from 0 c.push_reserved.new.self.items c.extend_from_slice.new.self.items ≡ packed_from 0 c.self.inside.heads.items c.self.inside.keys.items ++ write_in c.args.write ∷ [] =
    ap (λ hs. packed_from 0 hs c.extend_from_slice.new.self.items) heads ∙ pushed_is c.self.inside.heads.items c.self.inside.keys.items key head c.extend_from_slice.new.self.items (write_in c.args.write) c.self.inside.ends end keys refl in (
      subst (λ hs. end_behind 0 hs (length c.extend_from_slice.new.self.items) ≡ true) (sym heads) (pushed_ends c.self.inside.heads.items c.self.inside.keys.items key head c.extend_from_slice.new.self.items c.self.inside.ends end keys),
      (pushed_texts (packed_from 0 c.self.inside.heads.items c.self.inside.keys.items) (write_in c.args.write) (packed_from 0 c.push_reserved.new.self.items c.extend_from_slice.new.self.items) c.self.inside.texts all (is_utf8-from_IsUtf8 key c.requires.text), tt),
    )

pub returns : goal.returns
returns c =
    let key = c.args.write.key.now in
    let head : Head = record { state = c.args.write.state; part = c.args.write.part; amount = c.args.write.amount; end = c.len-end.result } in
    let heads : c.push_reserved.new.self.items ≡ c.self.inside.heads.items ++ head ∷ [] = search rules in
    let keys : c.extend_from_slice.new.self.items ≡ c.self.inside.keys.items ++ key = search rules in
    let end : c.len-end.result ≡ length c.extend_from_slice.new.self.items = c.len-end.ensures ∙ c.extend_from_slice.new.self.ok.0 in
    let all : packed_from 0 c.push_reserved.new.self.items c.extend_from_slice.new.self.items ≡ packed_from 0 c.self.inside.heads.items c.self.inside.keys.items ++ write_in c.args.write ∷ [] =
    ap (λ hs. packed_from 0 hs c.extend_from_slice.new.self.items) heads ∙ pushed_is c.self.inside.heads.items c.self.inside.keys.items key head c.extend_from_slice.new.self.items (write_in c.args.write) c.self.inside.ends end keys refl in
    all ∙ ap (λ ws. ws ++ write_in c.args.write ∷ []) c.self.view_is

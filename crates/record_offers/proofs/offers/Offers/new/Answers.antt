use Rattle.std.proofs.Common.{◌≡◌, ◌≤◌, length, replicate, false, refl, sym, ap, ap₂, subst, ◌∙◌}
use Rattle.std.specs.Int.{div_ceil}
use Rattle.std.specs.List.{range_with_len}
use Rattle.std.proofs.lemmas.List.{length-replicate}
use Rattle.std.proofs.lemmas.List.FromFn.{length-range_with_len}
use Rattle.record_offers.proofs.MarkLemmas.{first_bounds, none_gone}
use Rattle.record_offers.specs.Offers.{left_in}
use Rattle.record_offers.proofs.offers.Offers.new.Goals as goal

pub invariant_of-result : goal.invariant_of-result
invariant_of-result c =
    let rows : c.from_vec.result ≡ c.args.rows = c.from_vec.ensures ∙ c.into_vec-rows.ensures in
    let gone : c.in_ok-gone.gone.items ≡ replicate (length c.args.rows) false =
    c.in_ok-gone.ensures.items_if_clones_equal (λ y is. is) ∙ ap (λ n. replicate n false) c.len-records.ensures in
    let low : c.in_ok-low.low.items ≡ range_with_len 0 c.args.partitions = c.in_ok-low.ensures in
    let many = ap length low ∙ length-range_with_len 0 c.args.partitions in
    record {
      some = c.requires.some;
      marks = ap length gone ∙ length-replicate (length c.args.rows) false ∙ sym (ap length rows);
      few = subst (λ n. n ≤ 16) (sym many) c.requires.few;
      bounds = rw low (first_bounds c.args.partitions c.in_ok-gone.gone.items);
      batches = c.div_ceil.ensures ∙ ap₂ div_ceil (c.len-records.ensures ∙ sym (ap length rows)) c.from.ensures;
      left = c.len-records.ensures ∙ sym (ap left_in gone ∙ none_gone (length c.args.rows));
    }

pub returns : goal.returns
returns c =
    let rows : c.from_vec.result ≡ c.args.rows = c.from_vec.ensures ∙ c.into_vec-rows.ensures in
    let gone : c.in_ok-gone.gone.items ≡ replicate (length c.args.rows) false =
    c.in_ok-gone.ensures.items_if_clones_equal (λ y is. is) ∙ ap (λ n. replicate n false) c.len-records.ensures in
    let many : length c.in_ok-low.low.items ≡ c.args.partitions = ap length c.in_ok-low.ensures ∙ length-range_with_len 0 c.args.partitions in
    rw (rows, gone, many) refl

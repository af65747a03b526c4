use Rattle.std.proofs.Common.{◌≡◌, ◌++◌, map, ℕ, List, append-nil, ap, sym, ◌∙◌}
use Rattle.storm_stores.specs.declared.key.KeyBytes.{KeyBytes}
use Rattle.state_cells.specs.Groups.{jobs_in}
use Rattle.state_cells.specs.Known.{keys_in}
use Rattle.state_cells.proofs.KnownLemmas.{keys-jobs, keys-whole}
use Rattle.state_cells.proofs.known.keys_of.Goals as goal

pub loop-key-init : goal.loop-key-init
loop-key-init c =
    ap (λ (ks : List (List ℕ)). ks ++ map (λ (k : KeyBytes). k.bytes.now) c.into_iter-key-iterator.result) c.in_ok-keys.ensures.items
    ∙ ap (map (λ (k : KeyBytes). k.bytes.now)) (c.into_iter-key-iterator.ensures.into_iter_gives ∙ c.keys-key-items.ensures.rest) ∙ keys-jobs c.args.groups.now.entries

pub returns : goal.returns
returns c =
    let done : c.loop-key.keys.items ≡ keys_in (jobs_in c.args.groups.now) =
    sym (append-nil c.loop-key.keys.items) ∙ ap (λ r. c.loop-key.keys.items ++ map (λ (k : KeyBytes). k.bytes.now) r) (sym c.in-None.ensures.steps.0) ∙ c.loop-key.invariant in
    c.in_ok-append.ensures.items ∙ ap (λ (ks : List (List ℕ)). ks ++ c.args.restores.items) done ∙ keys-whole (jobs_in c.args.groups.now) c.args.restores.items

use Rattle.std.proofs.Common.{Bool, subst}
use Rattle.state_cells.specs.Known.{AreKnown}
use Rattle.state_cells.proofs.KnownLemmas.{known_later}
use Rattle.state_cells.proofs.known.move_on.Goals as goal

pub returns-then-known-txid-2-clause-known : goal.returns-then-known-txid-2-clause-known
returns-then-known-txid-2-clause-known c = λ cells known. rw c.new.ensures.items
    (known_later c.args.known.txid c.args.txid c.args.known.keys.items cells c.if-known-txid-2.true (subst (λ (b : Bool). AreKnown c.args.known.txid b c.args.known.keys.items cells) c.if-known.true known))

use Rattle.std.proofs.lemmas.List.Elements.{All-from_recursion}
use Rattle.event_worlds.proofs.Spans.{begun-attempts, begun-batches}
use Rattle.event_worlds.specs.Accounted.{BeginsWithBatch}
use Rattle.event_worlds.proofs.laws.roots_begin_with_their_batches.Goals as goal

pub returns-clause-batches : goal.returns-clause-batches
returns-clause-batches c = λ t custom cut words all h k led. All-from_recursion (BeginsWithBatch cut) h.begun (begun-batches t custom cut words all h k led)

pub returns-clause-attempts : goal.returns-clause-attempts
returns-clause-attempts c = λ t custom cut words all h k led f. begun-attempts t custom cut words all h k led f

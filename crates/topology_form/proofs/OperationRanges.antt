-- What is said of an operation is in range.
use Rattle.std.proofs.Common.{ℕ, List, [], length, All, Some, refl, lit≤}
use Rattle.std.proofs.lemmas.List.Elements.{All-nil, All-cons}
use Rattle.topology_form.specs.Prelude.{IsName}
use Rattle.topology_form.specs.declared.operations.{OperationWord.OperationWord}
use Rattle.topology_form.specs.declared.operations.OperationWord.TheVariants as op
use Rattle.topology_form.specs.Operations.{HasInto, IsOperationInRange, a_field, an_operation, making, operation_of}
use Rattle.topology_form.specs.Reading.{an_object}
use Rattle.topology_form.proofs.Good.{IsOf, Reads, Makes, first, had, reads, object_of, a_member, number_of, name_of, any_of, names_of, constant_of}
use Rattle.topology_plan.specs.Functions.{shape, AreRead, IsFunctionInRange}
use Rattle.topology_plan.specs.Valid.{IsBetween}
use Rattle.topology_plan.specs.declared.function.Function.{Function}

-- one name
record IsOne (fields : List (List ℕ)) : Type 0 where
  count : IsBetween (length fields) 1 1
  named : All IsName fields

one_read : Reads IsOne a_field
one_read = reads (first (a_member _ name_of) (λ field named. had _ (record { count = (lit≤ tt, lit≤ tt); named = All-cons IsName field [] named (All-nil IsName) })))

making_makes : (function : Function) → ((fields : List (List ℕ)) → IsBetween (length fields) 1 1 → AreRead function fields) → ((into : List ℕ) → IsName into → HasInto (shape function).leaves (Some into)) → IsFunctionInRange function
    → Makes (λ x. IsOperationInRange x.0) (making function)
making_makes function count named range =
    first one_read (λ fields is. first (a_member _ name_of) (λ into name. had _ (record { count = count fields is.count; reads = is.named; into = named into name; range = range })))

operation_makes : (word : OperationWord) → Makes (λ x. IsOperationInRange x.0) (operation_of word)
operation_makes op.Split = making_makes _ (λ fields is. is) (λ into name. (refl, name)) tt
operation_makes op.Project = first (a_member _ names_of) (λ fields are. had _ (record { count = are.0; reads = are.1; into = refl; range = tt }))
operation_makes op.Filter =
    first one_read (λ fields is.
    first (a_member _ any_of) (λ test _.
    first (a_member _ constant_of) (λ value fits. had _ (record { count = is.count; reads = is.named; into = refl; range = fits }))))
operation_makes op.Set = first one_read (λ fields is. first (a_member _ constant_of) (λ value fits. had _ (record { count = is.count; reads = is.named; into = refl; range = fits })))
operation_makes op.Len = making_makes _ (λ fields is. is) (λ into name. (refl, name)) tt
operation_makes op.Route = first one_read (λ fields is. had _ (record { count = is.count; reads = is.named; into = refl; range = tt }))
operation_makes op.Flaky = first (a_member _ number_of) (λ below fits. had _ (record { count = (lit≤ tt, lit≤ tt); reads = All-nil IsName; into = refl; range = fits }))
operation_makes op.Mute = first (a_member _ number_of) (λ below fits. had _ (record { count = (lit≤ tt, lit≤ tt); reads = All-nil IsName; into = refl; range = fits }))
operation_makes op.Custom = had _ (record { count = (lit≤ tt, lit≤ tt); reads = All-nil IsName; into = refl; range = tt })

pub operation_good : IsOf IsOperationInRange (an_object an_operation)
unfolding an_operation
operation_good = object_of (first (a_member _ any_of) (λ word _. operation_makes word))

use Rattle.std.proofs.Common.{inl, inr, refl}
use Rattle.storm_outside.proofs.Named.{file_of-here, file_of-nowhere}
use Rattle.storm_outside.proofs.memory_shelf.MemShelfShelf.fetch.Goals as goal
use Rattle.storm_outside.proofs.memory_shelf.MemShelfShelf.fetch.Goals.{in_default-via-in-Some+else-not-fails, in_default-via-in_default}

pub returns-in-Some-clause-fails : goal.returns-in-Some-clause-fails
returns-in-Some-clause-fails c =
    let here = file_of-here c.self.inside.files.items c.deref.result.now c.args.name.now c.in-Some.file c.deref.ensures.value c.in-Some.ensures in
    rw (← c.self.view_is) (λ wrong. cc, λ fails. elim fails [ inl due ↦ c.if-not-fails.ensures.fails.1 due | inr absent ↦ cc ])

pub returns-in-Some-clause-found : goal.returns-in-Some-clause-found
returns-in-Some-clause-found c =
    let here = file_of-here c.self.inside.files.items c.deref.result.now c.args.name.now c.in-Some.file c.deref.ensures.value c.in-Some.ensures in
    rw (← c.self.view_is, here, c.if-not-fails.ensures.counted) refl

pub returns-in_default-clause-fails : goal.returns-in_default-clause-fails
returns-in_default-clause-fails c =
    rw (← c.self.view_is) (
      λ _. elim c.in_default.branch [
        | in_default-via-in-Some+else-not-fails w ↦ inl (w.if-not-fails.ensures.fails.0 refl)
        | in_default-via-in_default w ↦ inr (file_of-nowhere c.self.inside.files.items c.deref.result.now c.args.name.now c.deref.ensures.value w.in_default.ensures)
      ],
      λ _. refl,
    )

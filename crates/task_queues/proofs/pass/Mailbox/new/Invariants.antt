use Rattle.task_queues.proofs.pass.Mailbox.new.Given as goal

abbrev pub ghosts-name : goal.ghosts-name
ghosts-name g a = record { plan = a._plan.now; owner = a._owner; capacity = a._capacity }

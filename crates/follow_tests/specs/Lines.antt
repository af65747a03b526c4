-- What a listener keeps of a commit. This project's own.
use Rattle.event_worlds.specs.state_parts.declared.answer.Commit.{Commit}
use Rattle.follow_tests.specs.declared.listener.Line.{Line}

abbrev pub line_of : Commit → Line
line_of commit = record { txid = commit.root.txid; spans = commit.spans }

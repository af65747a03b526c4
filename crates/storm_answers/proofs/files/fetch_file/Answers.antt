use Rattle.std.proofs.Common.{◌+◌}
use Rattle.storm_answers.proofs.FileLemmas.{all_read}
use Rattle.storm_answers.proofs.files.fetch_file.Goals as goal

pub returns-clause-bytes : goal.returns-clause-bytes
returns-clause-bytes g c =
    all_read c.read_all.result (g.H.Shelf.holds c.args.shelf.now) c.args.name.now (c.args.most + 1) (g.H.Shelf.rest c.fetch.new.self) c.in_ok-fetch.ensures.begins c.read_all.ensures.bytes c.read_all.ensures.length

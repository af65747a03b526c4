use Rattle.key_texts.proofs.KeysRead.{text_is_one_line}
use Rattle.key_texts.proofs.keys.key_texts_are_one_line.Goals as goal

pub returns : goal.returns
returns c = text_is_one_line

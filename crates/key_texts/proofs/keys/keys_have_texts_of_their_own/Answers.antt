use Rattle.key_texts.proofs.KeysRead.{keys_one}
use Rattle.key_texts.proofs.keys.keys_have_texts_of_their_own.Goals as goal

pub returns : goal.returns
returns c = keys_one

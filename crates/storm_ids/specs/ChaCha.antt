-- The ids of ChaCha20, by D. J. Bernstein, "ChaCha, a variant of Salsa20": key, 64-bit stream
-- number, 64-bit block counter.
use Rattle.std.specs.Prelude.{ℕ, ◌+◌, ◌*◌, ◌%◌, ◌^◌, List}
use Rattle.rand_chacha.specs.ChaCha.{ChaCha, key_of, word_at}

-- the k-th id of a stream: two 32-bit words in turn, the first one high; a stream
-- repeats after 2 ^ 68 words
abbrev pub chacha_id : List ℕ → ℕ → ℕ → ℕ
chacha_id key stream k =
    word_at 10 key stream ((2 * k) % 2 ^ 68) * 2 ^ 32 + word_at 10 key stream ((2 * k + 1) % 2 ^ 68)

-- the generator before the k-th id of its stream
abbrev pub before_id : List ℕ → ℕ → ℕ → ChaCha
before_id key stream k = record { key = key; stream = stream; word_pos = (2 * k) % 2 ^ 68 }

-- the ids of each source under a key of 32 bytes: the stream of the source's number
abbrev pub chacha_words : List ℕ → ℕ → ℕ → ℕ
chacha_words key source k = chacha_id (key_of key) source k

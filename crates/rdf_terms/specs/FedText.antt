-- What a text feeds the hasher of a table: whole words alone, which a hasher takes faster than bytes one at a time.
use Rattle.std.specs.Prelude.{ℕ, ◌-◌, ◌%◌, [], ◌∷◌, ◌++◌, take, drop, length}
use Rattle.std.specs.Hash.{HashWrites, u64}
use Rattle.rdf_terms.specs.Lists.{Text}

-- fewer than eight bytes, zeros up to the seventh, and how many bytes they are
abbrev pub last_word : Text → Text
last_word bytes = take 7 (bytes ++ 0 ∷ 0 ∷ 0 ∷ 0 ∷ 0 ∷ 0 ∷ 0 ∷ []) ++ length bytes ∷ []

-- how many of so many bytes make whole words of eight
abbrev pub in_words : ℕ → ℕ
in_words len = len - len % 8

-- the bytes that make whole words, and one word of those behind them
abbrev pub fed_text : Text → HashWrites
fed_text text = take (in_words (length text)) text ∷ last_word (drop (in_words (length text)) text) ∷ []

-- the length of the first, and then both, so that no other two texts are fed so
abbrev pub fed_texts : Text → Text → HashWrites
fed_texts first second = u64 (length first) ++ (fed_text first ++ fed_text second)

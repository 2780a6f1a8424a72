-- The twelve words of a segment after a number of stores. Source: the NTP reference clock driver 28, the layout of its shared memory segment and its
-- mode 1, in which count is odd while the body is written. The closed formula in the number of stores is this project's own.
-- A sample takes thirteen stores. The remainder of the stores by thirteen is the position within a sample.
use Rattle.std.specs.Prelude.{ℕ, ◌+◌, ◌*◌, ◌/◌, ◌%◌, Bool, ◌&&◌, List, [], ◌∷◌, map, nat_le, nat_lt, ◌==◌, slice_index, slice_index_or, if◌then◌else◌}
use Rattle.shm_segment.specs.declared.sample.Sample.{Sample}
use Rattle.shm_segment.specs.Samples.{body_of}

-- how many samples were published: each by its twelfth store, that of the even count
abbrev pub published_after : ℕ → ℕ
published_after stores = (stores + 1) / 13

-- count is twice the number of the last published sample, and one more while a sample is written
abbrev pub count_at : ℕ → ℕ → ℕ → ℕ
count_at first position published = 2 * (first + published) + (if nat_le 2 position && nat_le position 11 then 1 else 0)

unfoldable pub count_after : ℕ → ℕ → ℕ
count_after first stores = count_at first (stores % 13) ((stores + 1) / 13)

-- the body of the p-th sample, from 1 on, and zeros before the first
abbrev pub body_at : List Sample → ℕ → List ℕ
body_at samples p = slice_index_or ((0 ∷ 0 ∷ 0 ∷ 0 ∷ 0 ∷ 0 ∷ 0 ∷ 0 ∷ 0 ∷ []) ∷ map body_of samples) p []

-- the word at this place of the body: of the next sample if it was written already, else of the last published one
abbrev pub body_word : List Sample → ℕ → ℕ → ℕ → ℕ
body_word samples position published place =
    slice_index (body_at samples (if nat_le (3 + place) position && nat_le position 11 then published + 1 else published)) place

-- the nine words of the body in the order in which they are stored
abbrev pub body_words : List Sample → ℕ → ℕ → List ℕ
body_words samples position published =
    body_word samples position published 0
    ∷ body_word samples position published 1
    ∷ body_word samples position published 2
    ∷ body_word samples position published 3
    ∷ body_word samples position published 4
    ∷ body_word samples position published 5
    ∷ body_word samples position published 6
    ∷ body_word samples position published 7
    ∷ body_word samples position published 8
    ∷ []

unfoldable pub body_after : List Sample → ℕ → List ℕ
body_after samples stores = body_words samples (stores % 13) ((stores + 1) / 13)

-- valid is 1 if a sample was stored to its end and no other was begun
abbrev pub valid_at : ℕ → Bool → ℕ
valid_at position some = if position == 0 && some then 1 else 0

-- mode, count, the first seven words of the body, valid, the last two words of the body
abbrev pub words_at : ℕ → List Sample → ℕ → ℕ → Bool → List ℕ
words_at first samples position published some =
    1
    ∷ count_at first position published
    ∷ body_word samples position published 0
    ∷ body_word samples position published 1
    ∷ body_word samples position published 2
    ∷ body_word samples position published 3
    ∷ body_word samples position published 4
    ∷ body_word samples position published 5
    ∷ body_word samples position published 6
    ∷ valid_at position some
    ∷ body_word samples position published 7
    ∷ body_word samples position published 8
    ∷ []

-- the words after this many stores of these samples, the first number being `first`
unfoldable pub words_of : ℕ → List Sample → ℕ → List ℕ
words_of first samples stores = words_at first samples (stores % 13) ((stores + 1) / 13) (nat_lt 0 stores)

-- the numbers of the body's words
abbrev pub body_places : List ℕ
body_places = 2 ∷ 3 ∷ 4 ∷ 5 ∷ 6 ∷ 7 ∷ 8 ∷ 10 ∷ 11 ∷ []

-- the thirteen stores of a sample, word and value, if count was this before: valid 0, the odd count, the body, the even count, valid 1
abbrev pub stores_of : ℕ → Sample → List (ℕ × ℕ)
stores_of count sample =
    let body = body_of sample in
    (9, 0)
    ∷ (1, count + 1)
    ∷ (2, slice_index body 0)
    ∷ (3, slice_index body 1)
    ∷ (4, slice_index body 2)
    ∷ (5, slice_index body 3)
    ∷ (6, slice_index body 4)
    ∷ (7, slice_index body 5)
    ∷ (8, slice_index body 6)
    ∷ (10, slice_index body 7)
    ∷ (11, slice_index body 8)
    ∷ (1, count + 2)
    ∷ (9, 1)
    ∷ []

-- Characters of UTF-8, byte by byte.
use Rattle.std.specs.Prelude.{ℕ, zero, suc, nat_lt, nat_le, ◌||◌, Bool, if◌then◌else◌, List, [], ◌∷◌}

-- any byte but those that go on with a character, 10xxxxxx (RFC 3629, section 3)
abbrev pub begins_character : ℕ → Bool
begins_character b = nat_lt b 128 || nat_le 192 b

-- how many characters a text has
unfoldable pub count_characters : List ℕ → ℕ
count_characters [] = 0
count_characters (b ∷ bytes) = if begins_character b then suc (count_characters bytes) else count_characters bytes

-- how many bytes the first n characters take, all of them where there are no more
unfoldable pub first_len : ℕ → List ℕ → ℕ
first_len n [] = 0
first_len zero (b ∷ bytes) = if begins_character b then 0 else suc (first_len zero bytes)
first_len (suc n) (b ∷ bytes) = if begins_character b then suc (first_len n bytes) else suc (first_len (suc n) bytes)

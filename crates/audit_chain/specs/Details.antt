-- What a line says beside its kind and its client.
use Rattle.std.specs.Prelude.{ℕ, nat_le, ◌&&◌, ◌||◌, ◌==◌, Bool, List, length}
use Rattle.std.specs.List.{list_all}

-- a letter, a digit, `.` or `-`
abbrev pub is_detail_byte : ℕ → Bool
is_detail_byte b = (nat_le 97 b && nat_le b 122) || (nat_le 65 b && nat_le b 90) || (nat_le 48 b && nat_le b 57) || (b == 46) || (b == 45)

-- 1 to 64 of them
abbrev pub is_detail : List ℕ → Bool
is_detail text = nat_le 1 (length text) && nat_le (length text) 64 && list_all is_detail_byte text

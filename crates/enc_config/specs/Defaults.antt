-- The default value of an entry.
use Rattle.std.specs.Prelude.{ℕ, List, nat_le, if◌then◌else◌, Option, Some, None, option_and_then, length}
use Rattle.plain_values.specs.Values.{Reading, plain, bad, out_of_range, too_long, canonical}
use Rattle.acra_base.specs.declared.kind.ValueKind.{ValueKind}
use Rattle.acra_base.specs.declared.kind.ValueKind.TheVariants.{Str, Bytes, Int32, Int64}
use Rattle.base64.specs.GeneralPurpose.{decoded_of}
use Rattle.base64.specs.Engines.{standard}

-- at most 1,024 bytes
abbrev pub short_default : List ℕ → Option (List ℕ)
short_default t = if nat_le (length t) 1024 then Some t else None

abbrev pub plain_of : Reading → Option (List ℕ)
plain_of (plain t) = Some t
plain_of bad = None
plain_of out_of_range = None
plain_of too_long = None

-- the plaintext that a default's text stands for: of kind bytes in base64, of the others in text form
abbrev pub default_of : ValueKind → List ℕ → Option (List ℕ)
default_of Bytes t = option_and_then short_default (decoded_of standard t)
default_of Str t = option_and_then short_default (plain_of (canonical Str t))
default_of Int32 t = option_and_then short_default (plain_of (canonical Int32 t))
default_of Int64 t = option_and_then short_default (plain_of (canonical Int64 t))

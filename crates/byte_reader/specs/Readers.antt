-- What a reader returned, by what reading gives.
use Rattle.std.specs.Prelude.{ℕ, ◌≡◌, Result, Ok, Err}
use Rattle.byte_reader.specs.declared.unread.Unread.{Unread}
use Rattle.byte_reader.specs.declared.unread.Unread.TheVariants as unread

abbrev pub Fails : {Y : Type 0} → Unread → Result Y ℕ → Type 0
Fails unread.NoMemory read = Unit {0}
Fails (unread.At left) read = read ≡ Err left

-- what a function returned, seen by view, is what reading gives, unless there is no memory
abbrev pub Gives : {X Y : Type 0} → (X → Y) → Result X Unread → Result Y ℕ → Type 0
Gives view (Ok x) read = read ≡ Ok (view x)
Gives view (Err e) read = Fails e read

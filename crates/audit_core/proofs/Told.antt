-- What is known of a file, where it is told.
use Rattle.std.proofs.Common.{◌≡◌, ℕ, true, List, [], Option, Some, None, is_some, refl, arith}
use Rattle.audit_chain.specs.Verdicts.{WhereRead, Took}
use Rattle.acra_devices.specs.Grows.{shrank_nothing}

-- what follows of each file follows of the told one
pub where_map : (left left' : Option (List ℕ)) (P Q : List ℕ → Type 0) → ((file : List ℕ) → P file → Q file) → WhereRead left left' P → WhereRead left left' Q
where_map (Some file) (Some unread) P Q f h = f file h
where_map None left' P Q f h = tt
where_map (Some file) None P Q f h = tt

pub where_all : (left left' : Option (List ℕ)) (P : List ℕ → Type 0) → ((file : List ℕ) → P file) → WhereRead left left' P
where_all (Some file) (Some unread) P f = f file
where_all None left' P f = tt
where_all (Some file) None P f = tt

pub where_told : (left left' : Option (List ℕ)) (P : List ℕ → Type 0) → ((file : List ℕ) → left ≡ Some file → is_some left' ≡ true → P file) → WhereRead left left' P
where_told (Some file) (Some unread) P f = f file refl refl
where_told None left' P f = tt
where_told (Some file) None P f = tt

pub where_both : (left left' : Option (List ℕ)) (P Q : List ℕ → Type 0) → WhereRead left left' P → WhereRead left left' Q → WhereRead left left' (λ file. P file × Q file)
where_both (Some file) (Some unread) P Q p q = (p, q)
where_both None left' P Q p q = tt
where_both (Some file) None P Q p q = tt

-- a file that wasn't read
pub took_nothing : (left : Option (List ℕ)) (room : ℕ) → Took left left room
took_nothing left room = record { bytes = []; took = shrank_nothing left; within = omega arith }

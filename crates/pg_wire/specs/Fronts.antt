-- The messages of a client and their one spelling.
use Rattle.std.specs.Prelude.{ℕ, ◌≢◌, List, [], ◌∷◌, ◌++◌, Option}
use Rattle.std.specs.List.{flat_map, AllByRecursion}
use Rattle.std.specs.Int.{w16, w32, to_be_bytes}
use Rattle.pg_wire.specs.declared.front.Pair.{Pair}
use Rattle.pg_wire.specs.declared.front.Target.{Target}
use Rattle.pg_wire.specs.declared.front.Target.TheVariants as targets
use Rattle.pg_wire.specs.declared.front.Front.{Front}
use Rattle.pg_wire.specs.declared.front.Front.TheVariants as fronts
use Rattle.pg_wire.specs.Frames.{frame_bytes}
pub use Rattle.byte_reader.specs.Fields.{IsText, str}
pub use Rattle.pg_wire.specs.Parts.{IsPair, pair_bytes}
use Rattle.pg_wire.specs.Parts.{IsWord, IsFormat, IsCell, cell_bytes, AreCounted, counted_items}

-- a startup parameter has a name
abbrev pub IsParam : Pair → Type 0
IsParam p = (p.name ≢ []) × IsPair p

abbrev pub target_byte : Target → ℕ
target_byte targets.Prepared = 83
target_byte targets.Portal = 80

pub record IsParse (name text : List ℕ) (types : List ℕ) : Type 0 where
  pub named : IsText name
  pub spelled : IsText text
  pub types_fit : AreCounted IsWord types

pub record IsBind (portal name : List ℕ) (formats : List ℕ) (values : List (Option (List ℕ))) (results : List ℕ) : Type 0 where
  pub portal_named : IsText portal
  pub named : IsText name
  pub formats_fit : AreCounted IsFormat formats
  pub values_fit : AreCounted IsCell values
  pub results_fit : AreCounted IsFormat results

-- what has a spelling
abbrev pub IsFront : Front → Type 0
IsFront (fronts.Startup params) = AllByRecursion IsParam params
IsFront fronts.SslRequest = Unit {0}
IsFront fronts.GssRequest = Unit {0}
IsFront (fronts.Cancel process key) = IsWord process × IsWord key
IsFront (fronts.Query text) = IsText text
IsFront (fronts.Parse name text types) = IsParse name text types
IsFront (fronts.Bind portal name formats values results) = IsBind portal name formats values results
IsFront (fronts.Describe target name) = IsText name
IsFront (fronts.Execute portal limit) = IsText portal × IsWord limit
IsFront (fronts.Close target name) = IsText name
IsFront fronts.Sync = Unit {0}
IsFront fronts.Flush = Unit {0}
IsFront (fronts.Password bytes) = Unit {0}
IsFront fronts.Terminate = Unit {0}

-- the type byte, 0 for a startup packet
abbrev pub front_kind : Front → ℕ
front_kind (fronts.Startup params) = 0
front_kind fronts.SslRequest = 0
front_kind fronts.GssRequest = 0
front_kind (fronts.Cancel process key) = 0
front_kind (fronts.Query text) = 81
front_kind (fronts.Parse name text types) = 80
front_kind (fronts.Bind portal name formats values results) = 66
front_kind (fronts.Describe target name) = 68
front_kind (fronts.Execute portal limit) = 69
front_kind (fronts.Close target name) = 67
front_kind fronts.Sync = 83
front_kind fronts.Flush = 72
front_kind (fronts.Password bytes) = 112
front_kind fronts.Terminate = 88

-- a startup packet begins with its code, 196608 for protocol 3.0
abbrev pub front_body : Front → List ℕ
front_body (fronts.Startup params) = to_be_bytes w32 196608 ++ flat_map pair_bytes params ++ 0 ∷ []
front_body fronts.SslRequest = to_be_bytes w32 80877103
front_body fronts.GssRequest = to_be_bytes w32 80877104
front_body (fronts.Cancel process key) = to_be_bytes w32 80877102 ++ to_be_bytes w32 process ++ to_be_bytes w32 key
front_body (fronts.Query text) = str text
front_body (fronts.Parse name text types) = str name ++ str text ++ counted_items (to_be_bytes w32) types
front_body (fronts.Bind portal name formats values results) =
    str portal ++ str name ++ counted_items (to_be_bytes w16) formats ++ counted_items cell_bytes values ++ counted_items (to_be_bytes w16) results
front_body (fronts.Describe target name) = target_byte target ∷ str name
front_body (fronts.Execute portal limit) = str portal ++ to_be_bytes w32 limit
front_body (fronts.Close target name) = target_byte target ∷ str name
front_body fronts.Sync = []
front_body fronts.Flush = []
front_body (fronts.Password bytes) = bytes
front_body fronts.Terminate = []

abbrev pub front_frame : Front → List ℕ
front_frame m = frame_bytes (front_kind m) (front_body m)

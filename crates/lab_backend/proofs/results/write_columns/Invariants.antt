use Rattle.std.proofs.Common.{◌≡◌, map, take}
use Rattle.std.specs.List.{AllByRecursion}
use Rattle.lab_backend.specs.Described.{IsDescribed}
use Rattle.machine_replies.specs.Replies.{field_of}
use Rattle.lab_backend.proofs.results.write_columns.Given as goal

abbrev pub invariant-columns : goal.invariant-columns
invariant-columns l = record {
  fields : l.fields ≡ map field_of (take l.column-index l.columns);
  described : AllByRecursion IsDescribed l.fields;
}

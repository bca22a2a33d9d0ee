use Rattle.std.proofs.Common.{◌≡◌, ◌++◌, map, take}
use Rattle.std.specs.List.{AllByRecursion, flat_map}
use Rattle.pg_wire.specs.declared.back.Back.TheVariants as backs
use Rattle.pg_wire.specs.Backs.{back_frame}
use Rattle.machine_replies.specs.Replies.{IsWritable}
use Rattle.lab_backend.proofs.results.write_rows.Given as goal

abbrev pub invariant-rows : goal.invariant-rows
invariant-rows l = record {
  appended : l.out.items ≡ l.initial.out.items ++ flat_map back_frame (map (λ row. backs.Cells row) (take l.row-index l.rows));
  writable : AllByRecursion (λ row. IsWritable (backs.Cells row)) (take l.row-index l.rows);
}

use Rattle.std.proofs.Common.{◌≡◌, drop}
use Rattle.std.specs.List.{list_any}
use Rattle.keystore.specs.Kept.{has_id}
use Rattle.ring_file.proofs.ids.is_taken.Given as goal

abbrev pub invariant-clients : goal.invariant-clients
invariant-clients l = list_any (has_id l.id) l.clients ≡ list_any (has_id l.id) (drop l.client-index l.clients)

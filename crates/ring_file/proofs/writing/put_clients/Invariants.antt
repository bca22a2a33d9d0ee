use Rattle.std.proofs.Common.{◌≡◌, ◌++◌, drop}
use Rattle.std.specs.List.{flat_map}
use Rattle.ring_file.specs.Form.{client_bytes}
use Rattle.ring_file.proofs.writing.put_clients.Given as goal

abbrev pub invariant-clients : goal.invariant-clients
invariant-clients l = l.out.items ++ flat_map client_bytes (drop l.client-index l.clients) ≡ l.fn.out.items ++ flat_map client_bytes l.clients

use Rattle.std.proofs.Common.{◌≡◌, ◌++◌, drop}
use Rattle.std.specs.List.{flat_map}
use Rattle.keys_core.specs.Lines.{client_lines}
use Rattle.keys_core.proofs.lines.key_lines.Given as goal

abbrev pub invariant-clients : goal.invariant-clients
invariant-clients l = l.lines.items ++ flat_map client_lines (drop l.client-index l.clients) ≡ flat_map client_lines l.clients

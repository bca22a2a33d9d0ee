use Rattle.std.proofs.Common.{◌≡◌, ◌+◌, ◌*◌, ◌≤◌, drop}
use Rattle.keys_core.specs.Lines.{key_count}
use Rattle.keys_core.proofs.lines.key_count.Given as goal

abbrev pub invariant-clients : goal.invariant-clients
invariant-clients l = record {
  same : l.count + key_count (drop l.client-index l.clients) ≡ key_count l.clients;
  small : l.count ≤ 256 * l.client-index;
}

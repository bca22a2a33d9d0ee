use Rattle.std.proofs.Common.{◌≡◌}
use Rattle.serde_json.specs.View.{members_view}
use Rattle.json_rules.specs.Members.{all_members}
use Rattle.censor.specs.Settings.{is_member}
use Rattle.censor.proofs.settings.are_members.Given as goal

abbrev pub invariant-each : goal.invariant-each
invariant-each l = all_members is_member (members_view l.members.entries) ≡ all_members is_member (members_view l.name-iterator)

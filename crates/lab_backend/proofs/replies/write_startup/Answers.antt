use Rattle.std.proofs.Common.{[], codes}
use Rattle.std.proofs.lemmas.Result.{on_ok_weaker}
use Rattle.pg_wire.specs.declared.back.Back.TheVariants as backs
use Rattle.machine_replies.specs.Replies.{status, ready}
use Rattle.lab_backend.proofs.Appended.{five_appended, setting-writable}
use Rattle.lab_backend.proofs.replies.write_startup.Goals as goal

pub write_status-requires-2 : goal.write_status-requires-2
write_status-requires-2 c = setting-writable

pub returns : goal.returns
returns c =
    on_ok_weaker c.write_ready.result
    (λ last. five_appended c.args.out.now.items c.write_authenticated.new.out.items c.write_status.new.out.items c.write_status-2.new.out.items c.write_key_data.new.out.items c.write_ready.new.out.items
    (backs.Auth 0 []) (status (codes "client_encoding") (codes "UTF8")) (status (codes "standard_conforming_strings") (codes "on")) (backs.KeyData c.args.session 0) ready
    c.in_ok-write_authenticated.ensures c.in_ok-write_status.ensures c.in_ok-write_status-2.ensures c.in_ok-write_key_data.ensures last)
    c.write_ready.ensures

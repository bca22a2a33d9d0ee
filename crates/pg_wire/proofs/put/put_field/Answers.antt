use Rattle.std.proofs.Common.{ℕ, ◌++◌, ap, ◌∙◌, rules}
use Rattle.std.specs.Int.{w16, w32, to_be_bytes, cast_unsigned}
use Rattle.std.proofs.lemmas.Int.{to_z-of_z}
use mir.Val.{SFits}
use Rattle.byte_reader.specs.Fields.{str}
use Rattle.pg_wire.proofs.Appends.{seven_appended}
use Rattle.pg_wire.proofs.put.put_field.Goals as goal

pub returns : goal.returns
returns c =
    let f = c.args.field.now in
    let fits16 : SFits w16 f.size = search rules in
    let fits32 : SFits w32 f.modifier = search rules in
    seven_appended
    c.args.out.now.items c.put_str.new.out.items c.put_u32.new.out.items c.put_u16.new.out.items c.put_u32-2.new.out.items c.put_i16.new.out.items c.put_i32.new.out.items c.put_u16-2.new.out.items
    (str f.name) (to_be_bytes w32 f.table) (to_be_bytes w16 f.attribute) (to_be_bytes w32 f.kind) (to_be_bytes w16 (cast_unsigned w16 f.size)) (to_be_bytes w32 (cast_unsigned w32 f.modifier)) (to_be_bytes w16 f.format)
    c.in_ok-put_str.ensures c.in_ok-put_u32.ensures c.in_ok-put_u16.ensures c.in_ok-put_u32-2.ensures
    (c.in_ok-put_i16.ensures ∙ ap (λ (n : ℕ). c.put_u32-2.new.out.items ++ to_be_bytes w16 n) (ap (cast_unsigned w16) (to_z-of_z w16 f.size fits16)))
    (c.in_ok-put_i32.ensures ∙ ap (λ (n : ℕ). c.put_i16.new.out.items ++ to_be_bytes w32 n) (ap (cast_unsigned w32) (to_z-of_z w32 f.modifier fits32)))
    c.in_ok-put_u16-2.ensures

-- A part written whole is a segment put.
use Rattle.decimal.proofs.WriterTurns.{field_put}
use Rattle.decimal.proofs.write.put_field.Goals as goal

pub returns : goal.returns
returns c =
    let s = c in
    field_put s.args.text.now s.args.at s.args.width s.args.number c.write_field.new.out s.requires c.write_field.ensures

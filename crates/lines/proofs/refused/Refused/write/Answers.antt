use Rattle.lines.proofs.Pieces.{refused_placed}
use Rattle.lines.proofs.refused.Refused.write.Goals as goal

pub returns : goal.returns
returns c =
    refused_placed c.args.self.number c.args.self.place c.args.space.now c.put_bytes.new.space c.put.new.space c.put_bytes-2.new.space c.put-2.new.space c.put_bytes-3.new.space _ _ _ _ c.put_bytes-3.result
    c.requires c.in_ok-end.ensures c.in_ok-end-2.ensures c.in_ok-end-3.ensures c.in_ok-end-4.ensures c.put_bytes-3.ensures

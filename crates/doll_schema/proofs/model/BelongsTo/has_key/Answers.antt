use Rattle.std.proofs.Common.{arith}
use Rattle.doll_schema.proofs.Keys.{key_apart}
use Rattle.doll_schema.proofs.model.BelongsTo.has_key.Goals as goal

pub returns : goal.returns
returns c = key_apart c.args.self.now.name c.args.name.now c.as_slice.result.now c.eq.result c.ne.result (omega arith) (rw c.as_bytes.ensures at c.ne.ensures) c.if-ne.false c.eq.ensures c.as_slice.ensures

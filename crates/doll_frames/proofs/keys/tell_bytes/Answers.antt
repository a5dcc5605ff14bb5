use Rattle.std.proofs.Common.{arith}
use Rattle.doll_frames.proofs.Bytes.{all_bytes}
use Rattle.doll_frames.proofs.keys.tell_bytes.Goals as goal

pub returns : goal.returns
returns c = all_bytes c.args.text.now (λ i. omega (arith, c.type_inv.text i))

use Rattle.doll_key.proofs.Finding.{key_found, no_components, no_head}
use Rattle.doll_key.proofs.reading.key_in.Goals as goal

pub returns-in_default : goal.returns-in_default
returns-in_default c = no_head c.args.text.now c.in_default.ensures

pub returns-in_default-2 : goal.returns-in_default-2
returns-in_default-2 c =
    no_components c.args.text.now c.in-Some.head.0.now c.in-Some.head.1 c.in-Some.head.2.now c.in-Some.ensures (rw c.in_default-2.is at c.in_ok-components.ensures)

pub returns : goal.returns
returns c =
    rw c.in_ok-path.ensures
    (key_found c.args.text.now c.in-Some.head.0.now c.in-Some.head.1 c.in-Some.head.2.now c.in-Some.ensures c.in-Some-2.components (rw c.in-Some-2.is at c.in_ok-components.ensures))

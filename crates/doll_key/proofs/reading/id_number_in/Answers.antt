use Rattle.doll_key.proofs.Finding.{no_id_text, parsed_id}
use Rattle.doll_key.proofs.reading.id_number_in.Goals as goal

pub returns-in_default : goal.returns-in_default
returns-in_default c = no_id_text c.args.text.now c.in_default.ensures.cases.0

pub returns : goal.returns
returns c = parsed_id c.args.text.now c.in-Ok.digits.now c.in-Ok.ensures.cases.0 c.parse.result c.ok.result c.parse.ensures.value.0 c.ok.ensures.value

use Rattle.std.proofs.Common.{sym}
use Rattle.serde_json.specs.View.{view}
use Rattle.doll_script.proofs.Jsons.{json_read, json_none}
use Rattle.doll_script.proofs.lines.json_of.Goals as goal

pub returns-in-Ok : goal.returns-in-Ok
returns-in-Ok c = sym (json_read c.args.bytes.now (view c.in-Ok.json) c.in-Ok.ensures.ok.0 c.in-Ok.ensures.ok.1)

pub returns-else-is_memory : goal.returns-else-is_memory
returns-else-is_memory c = sym (json_none c.args.bytes.now (λ text. c.in-Err.ensures.err (λ memory. absurd (cc (c.is_memory.ensures.1 memory, c.if-is_memory.false))) text))

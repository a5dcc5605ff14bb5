use Rattle.std.proofs.Common.{sym}
use Rattle.doll_key.proofs.Finding.{digest_first, no_digest, no_room}
use Rattle.doll_key.proofs.reading.digest_in.Goals as goal

pub returns-then-text-lt-DIGITS : goal.returns-then-text-lt-DIGITS
returns-then-text-lt-DIGITS c = no_room c.args.text.now c.if-text-lt-DIGITS.true

pub returns-in_default : goal.returns-in_default
returns-in_default c =
    no_digest c.args.text.now c.split_at.result.0.now c.split_at.result.1.now c.split_at.ensures.front c.split_at.ensures.back c.if-text-lt-DIGITS.false c.in_default.field-0
    (sym c.in_default.ensures)

pub returns : goal.returns
returns c =
    digest_first c.args.text.now c.split_at.result.0.now c.split_at.result.1.now c.split_at.ensures.front c.split_at.ensures.back c.if-text-lt-DIGITS.false c.from_bytes.result
    (rw c.from_bytes.ensures.bytes (sym c.in-Ok.ensures)) c.from_bytes.ensures.digest

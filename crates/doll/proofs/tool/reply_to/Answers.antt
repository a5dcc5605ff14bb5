use mathlib.Core.Logic.{inr}
use Rattle.std.proofs.Common.{sym, map, string_bytes, ◌≤◌, length, arith}
use Rattle.doll.specs.Words.{seen_command}
use Rattle.doll.proofs.Longs.{too_long-reply}
use Rattle.doll.proofs.Answered.{usage_reply, read_reply, no_asking, no_reading, read_asking, read_readings, took_none}
use Rattle.doll.proofs.tool.reply_to.Goals as goal

pub returns-in-None-clause-reply : goal.returns-in-None-clause-reply
returns-in-None-clause-reply g c =
    rw c.in_ok-usage-in-None.ensures.value
    (usage_reply (map string_bytes c.args.words.now) (g.S.Source.left c.args.source.now) (g.F.Folder.files c.args.folder.now) (g.C.Clock.readings c.args.clock.now) (sym c.in-None.ensures))

pub returns-in-Ok-clause-reply : goal.returns-in-Ok-clause-reply
returns-in-Ok-clause-reply g c =
    let short : length c.as_slice.result.now ≤ 16777216 = omega (arith, c.as_slice.ensures.len, c.in-Ok.ensures.within) in
    read_reply (map string_bytes c.args.words.now) (seen_command c.in-Some.command) c.as_slice.result.now (g.S.Source.left c.args.source.now) (g.F.Folder.files c.args.folder.now) (g.C.Clock.readings c.args.clock.now) (g.C.Clock.readings c.input_reply.new.clock) c.input_reply.result
    (sym c.in-Some.ensures) (rw c.as_slice.ensures.value c.in-Ok.ensures.told) short c.input_reply.ensures.value

pub returns-in-Ok-clause-reads : goal.returns-in-Ok-clause-reads
returns-in-Ok-clause-reads g c =
    let short : length c.as_slice.result.now ≤ 16777216 = omega (arith, c.as_slice.ensures.len, c.in-Ok.ensures.within) in
    read_readings (map string_bytes c.args.words.now) (seen_command c.in-Some.command) c.as_slice.result.now (g.S.Source.left c.args.source.now) (g.F.Folder.files c.args.folder.now) (g.C.Clock.readings c.args.clock.now) (g.C.Clock.readings c.input_reply.new.clock) c.input_reply.result
    (sym c.in-Some.ensures) (rw c.as_slice.ensures.value c.in-Ok.ensures.told) short c.input_reply.ensures.value

pub returns-in-Ok-clause-folder : goal.returns-in-Ok-clause-folder
returns-in-Ok-clause-folder g c =
    let short : length c.as_slice.result.now ≤ 16777216 = omega (arith, c.as_slice.ensures.len, c.in-Ok.ensures.within) in
    read_asking (map string_bytes c.args.words.now) (seen_command c.in-Some.command) c.as_slice.result.now (g.S.Source.left c.args.source.now) (g.F.Folder.asked c.args.folder.now) (g.F.Folder.asked c.input_reply.new.folder)
    (sym c.in-Some.ensures) (rw c.as_slice.ensures.value c.in-Ok.ensures.told) short c.input_reply.ensures.asked

pub returns-in-Ok-clause-failed : goal.returns-in-Ok-clause-failed
returns-in-Ok-clause-failed g c =
    λ failed. inr (c.input_reply.ensures.cause failed)

pub returns-in_ok-too_long-in-Err-TooLong-clause-reply : goal.returns-in_ok-too_long-in-Err-TooLong-clause-reply
returns-in_ok-too_long-in-Err-TooLong-clause-reply g c =
    rw c.in_ok-too_long-in-Err-TooLong.ensures.value
    (too_long-reply (map string_bytes c.args.words.now) (seen_command c.in-Some.command) (g.S.Source.left c.args.source.now) (g.F.Folder.files c.args.folder.now) (g.C.Clock.readings c.args.clock.now) (sym c.in-Some.ensures) (rw c.in-Err-TooLong.field-0-is at c.in-Err-TooLong.ensures.told))

pub returns-in-None-clause-taken : goal.returns-in-None-clause-taken
returns-in-None-clause-taken g c =
    took_none 16777217 (g.S.Source.left c.args.source.now)

pub returns-in-None-clause-reads : goal.returns-in-None-clause-reads
returns-in-None-clause-reads g c =
    no_reading (map string_bytes c.args.words.now) (g.S.Source.left c.args.source.now) (g.F.Folder.files c.args.folder.now) (g.C.Clock.readings c.args.clock.now)

pub returns-in-None-clause-folder : goal.returns-in-None-clause-folder
returns-in-None-clause-folder g c =
    no_asking (map string_bytes c.args.words.now) (g.S.Source.left c.args.source.now) (g.F.Folder.asked c.args.folder.now)

pub returns-in_err-usage-in-None-clause-reads : goal.returns-in_err-usage-in-None-clause-reads
returns-in_err-usage-in-None-clause-reads g c =
    no_reading (map string_bytes c.args.words.now) (g.S.Source.left c.args.source.now) (g.F.Folder.files c.args.folder.now) (g.C.Clock.readings c.args.clock.now)

pub returns-in_err-usage-in-None-clause-folder : goal.returns-in_err-usage-in-None-clause-folder
returns-in_err-usage-in-None-clause-folder g c =
    no_asking (map string_bytes c.args.words.now) (g.S.Source.left c.args.source.now) (g.F.Folder.asked c.args.folder.now)

pub returns-in_err-too_long-in-Err-TooLong-clause-reads : goal.returns-in_err-too_long-in-Err-TooLong-clause-reads
returns-in_err-too_long-in-Err-TooLong-clause-reads g c =
    no_reading (map string_bytes c.args.words.now) (g.S.Source.left c.args.source.now) (g.F.Folder.files c.args.folder.now) (g.C.Clock.readings c.args.clock.now)

pub returns-in_err-too_long-in-Err-TooLong-clause-folder : goal.returns-in_err-too_long-in-Err-TooLong-clause-folder
returns-in_err-too_long-in-Err-TooLong-clause-folder g c =
    no_asking (map string_bytes c.args.words.now) (g.S.Source.left c.args.source.now) (g.F.Folder.asked c.args.folder.now)

pub returns-in_ok-too_long-in-Err-TooLong-clause-reads : goal.returns-in_ok-too_long-in-Err-TooLong-clause-reads
returns-in_ok-too_long-in-Err-TooLong-clause-reads g c =
    no_reading (map string_bytes c.args.words.now) (g.S.Source.left c.args.source.now) (g.F.Folder.files c.args.folder.now) (g.C.Clock.readings c.args.clock.now)

pub returns-in_ok-too_long-in-Err-TooLong-clause-folder : goal.returns-in_ok-too_long-in-Err-TooLong-clause-folder
returns-in_ok-too_long-in-Err-TooLong-clause-folder g c =
    no_asking (map string_bytes c.args.words.now) (g.S.Source.left c.args.source.now) (g.F.Folder.asked c.args.folder.now)

pub returns-in-Err-Failed-clause-reads : goal.returns-in-Err-Failed-clause-reads
returns-in-Err-Failed-clause-reads g c =
    no_reading (map string_bytes c.args.words.now) (g.S.Source.left c.args.source.now) (g.F.Folder.files c.args.folder.now) (g.C.Clock.readings c.args.clock.now)

pub returns-in-Err-Failed-clause-folder : goal.returns-in-Err-Failed-clause-folder
returns-in-Err-Failed-clause-folder g c =
    no_asking (map string_bytes c.args.words.now) (g.S.Source.left c.args.source.now) (g.F.Folder.asked c.args.folder.now)

pub returns-in-Err-Memory-clause-reads : goal.returns-in-Err-Memory-clause-reads
returns-in-Err-Memory-clause-reads g c =
    no_reading (map string_bytes c.args.words.now) (g.S.Source.left c.args.source.now) (g.F.Folder.files c.args.folder.now) (g.C.Clock.readings c.args.clock.now)

pub returns-in-Err-Memory-clause-folder : goal.returns-in-Err-Memory-clause-folder
returns-in-Err-Memory-clause-folder g c =
    no_asking (map string_bytes c.args.words.now) (g.S.Source.left c.args.source.now) (g.F.Folder.asked c.args.folder.now)

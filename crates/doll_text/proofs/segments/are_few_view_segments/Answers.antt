use Rattle.std.proofs.Common.{◌≡◌, true, false, sym, ◌∙◌, take, rules, arith}
use Rattle.doll_text.specs.Names.{is_word}
use Rattle.doll_text.proofs.Views.{front_len, view_path-whole, view_path-none, view_path-last, view_path-bad, view_path-more}
use Rattle.doll_text.proofs.segments.are_few_view_segments.Goals as goal

pub loop-more-init : goal.loop-more-init
loop-more-init c = view_path-whole 8 c.args.path.now

pub returns : goal.returns
returns c = sym (view_path-none c.loop-more.more c.loop-more.rest.now (omega arith)) ∙ c.loop-more.invariant

pub returns-then-end-rest : goal.returns-then-end-rest
returns-then-end-rest c =
    c.is_view_name.ensures ∙ sym (view_path-last c.loop-more.more c.loop-more.rest.now (omega arith) (search rules)) ∙ c.loop-more.invariant

pub returns-then-not-is_word : goal.returns-then-not-is_word
returns-then-not-is_word c =
    let front : is_word (take (front_len c.loop-more.rest.now) c.loop-more.rest.now) ≡ false = search rules in
    sym (view_path-bad c.loop-more.more c.loop-more.rest.now (omega arith) (search rules) front) ∙ c.loop-more.invariant

pub loop-more-preserved : goal.loop-more-preserved
loop-more-preserved c =
    let front : is_word (take (front_len c.loop-more.rest.now) c.loop-more.rest.now) ≡ true = search rules in
    let more = view_path-more c.loop-more.more c.loop-more.rest.now (omega arith) (search rules) front in
    rw (c.split_at-in-loop-more.ensures.back, c.split_at.ensures.back, c.prefix_len-end.ensures.value) (sym more ∙ c.loop-more.invariant)

use Rattle.std.proofs.Common.{◌≡◌, sym, ◌∙◌, ◌<◌, length, rules, ◌++◌, ◌∷◌, []}
use Rattle.std.proofs.lemmas.Result.{err_from_is_err_and}
use Rattle.doll_erb.proofs.Cuts.{pieces_more, pieces_fault, pieces_end, tiles_more}
use Rattle.doll_erb.proofs.piece.cut.Goals as goal

pub returns-clause-exact : goal.returns-clause-exact
returns-clause-exact c = sym c.loop-rest.invariant.pieces ∙ pieces_end c.loop-rest.at c.loop-rest.rest.now c.loop-rest.tags (search rules)

pub returns-in_err-tag-clause-exact : goal.returns-in_err-tag-clause-exact
returns-in_err-tag-clause-exact c =
    let some : 0 < length c.loop-rest.rest.now = search rules in
    let p = err_from_is_err_and c.from_residual.result c.from_residual.ensures.1 in
    rw (p.1, p.2) (λ unlike. sym c.loop-rest.invariant.pieces ∙ pieces_fault c.loop-rest.at c.loop-rest.rest.now _ c.loop-rest.tags some (sym c.in_err-tag.ensures.value))

pub loop-rest-preserved : goal.loop-rest-preserved
loop-rest-preserved c =
    let some : 0 < length c.loop-rest.rest.now = search rules in
    let found = c.in_ok-tag.ensures in
    let more = pieces_more c.loop-rest.at c.loop-rest.rest.now c.in_ok-tag.tag c.loop-rest.tags some (sym found.value) found.inside.forward found.inside.within in
    let pushed : c.push.new.self ≡ c.loop-rest.tags ++ c.in_ok-tag.tag ∷ [] = search rules in
    record {
      pieces = rw (pushed, c.split_at.ensures.back) (sym more ∙ c.loop-rest.invariant.pieces);
      length = search rules;
      tiles = rw pushed (tiles_more 0 c.loop-rest.at (length c.loop-rest.rest.now) c.loop-rest.tags c.in_ok-tag.tag c.loop-rest.invariant.tiles found.inside);
    }

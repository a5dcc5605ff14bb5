use Rattle.std.proofs.Common.{length, sym, ap, ◌∙◌, arith}
use Rattle.std.specs.List.{zip}
use Rattle.std.specs.Iterator.Adapters.{zip_first, zip_second}
use Rattle.std.specs.Slice.Iter.{iter_rest}
use Rattle.std.proofs.lemmas.List.{length_push}
use Rattle.std.proofs.lemmas.Slice.Zip.{zip_turn, zip_end, length-zip}
use Rattle.doll_commit.specs.Commits.{touched_by}
use Rattle.doll_commit.proofs.Pushes.{pushed_pair, pushed_all}
use Rattle.doll_commit.proofs.touched.add_row_touches.Goals as goal

pub loop-parent-preserved : goal.loop-parent-preserved
loop-parent-preserved c =
    let model = c.args.model.now in
    let row = c.args.row.now in
    let first = ap (λ z. iter_rest (zip_first z)) c.into_iter-parent-iterator.ensures.into_iter_gives ∙ (ap (λ i. iter_rest i) c.zip-parent-items.ensures.first ∙ (c.iter.ensures.rest ∙ c.as_slice.ensures)) in
    let second = ap (λ z. iter_rest (zip_second z)) c.into_iter-parent-iterator.ensures.into_iter_gives ∙ (c.zip-parent-items.ensures.second.0 ∙ c.as_slice-2.ensures) in
    let t = zip_turn model.belongs_to row.parents c.loop-parent.yielded c.into_iter-parent-iterator.result c.loop-parent.parent-iterator c.next.new.self c.next.result first second c.loop-parent.yielded_by (c.in-Some.parent, c.in-Some.key) c.in-Some.is c.next.ensures.steps in
    let more = pushed_pair touched_by c.args.refs.now c.loop-parent.refs c.add_touched_by.new.refs model.belongs_to row.parents (length c.loop-parent.yielded) c.in-Some.parent.now c.in-Some.key.now t.0 t.1 (sym (t.2 c.in-Some.parent.now)) (sym (t.3 c.in-Some.key.now)) c.loop-parent.invariant c.in_ok-add_touched_by.ensures in
    rw (length_push c.loop-parent.yielded (c.in-Some.parent, c.in-Some.key)) more

pub returns : goal.returns
returns c =
    let model = c.args.model.now in
    let row = c.args.row.now in
    let first = ap (λ z. iter_rest (zip_first z)) c.into_iter-parent-iterator.ensures.into_iter_gives ∙ (ap (λ i. iter_rest i) c.zip-parent-items.ensures.first ∙ (c.iter.ensures.rest ∙ c.as_slice.ensures)) in
    let second = ap (λ z. iter_rest (zip_second z)) c.into_iter-parent-iterator.ensures.into_iter_gives ∙ (c.zip-parent-items.ensures.second.0 ∙ c.as_slice-2.ensures) in
    let t = zip_end model.belongs_to row.parents c.loop-parent.yielded c.into_iter-parent-iterator.result c.loop-parent.parent-iterator c.next.new.self c.next.result first second c.loop-parent.yielded_by c.in-None.is c.next.ensures.steps in
    pushed_all touched_by c.args.refs.now c.loop-parent.refs (zip model.belongs_to row.parents) (length c.loop-parent.yielded) (omega (arith, t, length-zip model.belongs_to row.parents)) c.loop-parent.invariant

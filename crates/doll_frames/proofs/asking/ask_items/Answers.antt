use Rattle.std.proofs.Common.{◌∷◌, [], ap, sym, subst, ◌∙◌, rules}
use Rattle.doll_frames.proofs.Asks.{items_asked, kept_live}
use Rattle.doll_frames.specs.Stacks.{FramesLive}
use Rattle.doll_frames.specs.declared.frame.Frame.TheVariants as frame
use Rattle.doll_frames.proofs.asking.ask_items.Goals as goal

pub returns-clause-goes : goal.returns-clause-goes
returns-clause-goes g c = λ name list cached typing vars.
    items_asked c.args.context.now (g.R.Rows.table c.args.rows.now) c.args.context.now.levels c.args.context.now.number c.args.partial c.args.item.now c.args.walk.of c.args.walk.model
    name list cached typing vars c.args.walk.ids c.in_ok-made.made.items c.in_ok-made.made.asks c.push.new.self (g.R.Rows.looks c.args.rows.now) (g.R.Rows.looks c.item_asks.new.rows)
    (search rules)
    c.in_ok-made.ensures.keys
    c.in_ok-made.ensures.items
    c.in_ok-made.ensures.asks
    (c.in_ok-push.ensures.frames
    ∙ ap (λ f. frame.AskedMany (record { partial = c.args.partial; of = c.args.walk.of; model = c.args.walk.model; items = c.in_ok-made.made.items; at = 0; found = f }) ∷ c.args.stack.now.frames) c.new.ensures
    ∙ ap (λ fs. frame.AskedMany (record { partial = c.args.partial; of = c.args.walk.of; model = c.args.walk.model; items = c.in_ok-made.made.items; at = 0; found = [] }) ∷ fs) c.requires.begins)
    c.in_ok-made.ensures.looks

pub returns-clause-frames : goal.returns-clause-frames
returns-clause-frames g c =
    subst (FramesLive (g.R.Rows.table c.args.rows.now))
    (sym (c.in_ok-push.ensures.frames
    ∙ ap (λ f. frame.AskedMany (record { partial = c.args.partial; of = c.args.walk.of; model = c.args.walk.model; items = c.in_ok-made.made.items; at = 0; found = f }) ∷ c.args.stack.now.frames) c.new.ensures
    ∙ ap (λ fs. frame.AskedMany (record { partial = c.args.partial; of = c.args.walk.of; model = c.args.walk.model; items = c.in_ok-made.made.items; at = 0; found = [] }) ∷ fs) c.requires.begins))
    (kept_live c.args.context.now (g.R.Rows.table c.args.rows.now) c.args.context.now.levels c.args.context.now.number c.args.partial c.args.item.now c.args.walk.of c.args.walk.model
    c.args.walk.ids c.in_ok-made.made.items c.in_ok-made.ensures.items c.requires.few c.requires.living)

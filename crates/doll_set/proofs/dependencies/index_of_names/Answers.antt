use Rattle.std.proofs.Common.{◌≡◌, ◌<◌, length, get_or, [], ap, sym, subst, ◌∙◌}
use Rattle.std.proofs.lemmas.List.{get_or-map, length-map}
use Rattle.doll_set.specs.Dependencies as spec
use Rattle.doll_set.specs.declared.template.Template.{Template}
use Rattle.doll_set.proofs.Numbers.{one_entered}
use Rattle.doll_digest.specs.Registries.{names_in}
use Rattle.doll_set.proofs.dependencies.index_of_names.Goals as goal

pub loop-template-preserved : goal.loop-template-preserved
loop-template-preserved c =
    let templates = c.args.templates.now in
    let at = c.loop-template.template-index in
    let item : Template = c.template-item.result in
    let within : at < length (spec.names_of templates) = subst (λ n. at < n) (sym (length-map templates (λ (t : Template). t.name))) c.loop-template-test.true in
    let named : c.as_bytes.result.now ≡ get_or (spec.names_of templates) at [] =
    c.as_bytes.ensures ∙ ap (λ (t : Template). t.name) c.template-item.is ∙ sym (get_or-map (λ (t : Template). t.name) templates at item [] c.loop-template-test.true) in
    one_entered (spec.names_of templates) (names_in c.loop-template.names.keys) (names_in c.add_name.new.names.keys) at c.as_bytes.result.now c.requires.distinct within named c.loop-template.invariant c.in_ok-add_name.ensures

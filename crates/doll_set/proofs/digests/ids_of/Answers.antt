use Rattle.std.proofs.Common.{◌≡◌, ◌<◌, ◌+◌, ◌∙◌, ◌∷◌, ap, drop, length, subst, sym}
use Rattle.std.specs.List.{AllByRecursion}
use Rattle.doll_set.specs.Dependencies.{names_of}
use Rattle.doll_set.specs.Digests.{with_names}
use Rattle.doll_set.proofs.Entries.{left_by_one, numbers_then, one_more_entered, one_more_named, one_more_within}
use Rattle.doll_set.proofs.digests.ids_of.Goals as goal

pub loop-template-preserved : goal.loop-template-preserved
loop-template-preserved g c =
    let at = c.loop-template.template-index in
    let before = names_of (drop at c.args.templates.now) in
    let rest = names_of (drop (at + 1) c.args.templates.now) in
    let first : before ≡ c.as_bytes.result.now ∷ rest =
    ap names_of (left_by_one c.args.templates.now at c.template-item.result c.template-item.is c.loop-template-test.true)
    ∙ ap (λ n. n ∷ rest) (sym c.as_bytes.ensures) in
    record {
      entered =
          one_more_entered c.loop-template.registry c.name.new.self (with_names c.args.registry.now c.args.templates.now) c.as_bytes.result.now
          before rest first c.in_ok-name.ensures.named c.loop-template.invariant.entered;
      within =
          subst (AllByRecursion (λ id. id < length c.name.new.self.names)) (sym c.in_ok-push.ensures.ok)
          (one_more_within c.loop-template.registry.names c.name.new.self.names c.loop-template.ids c.in_ok-name.field-0 c.name.ensures.numbers
          c.loop-template.invariant.within c.in_ok-name.ensures.within);
      named =
          one_more_named c.loop-template.registry.names c.name.new.self.names c.loop-template.ids c.in_ok-name.field-0 c.push.new.self
          c.as_bytes.result.now before rest (names_of c.args.templates.now) c.in_ok-push.ensures.ok first c.name.ensures.numbers
          c.loop-template.invariant.within c.in_ok-name.ensures.at c.loop-template.invariant.named;
      stay =
          numbers_then c.args.registry.now.names c.loop-template.registry.names c.name.new.self.names c.loop-template.invariant.stay c.name.ensures.numbers;
      texts = c.name.ensures.texts ∙ c.loop-template.invariant.texts;
    }

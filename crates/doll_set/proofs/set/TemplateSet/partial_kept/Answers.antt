use Rattle.std.proofs.Common.{◌≡◌, Some, List, length, refl, ap, sym, subst, ◌∙◌, rules, arith}
use Rattle.std.specs.Prelude.{slice_get}
use Rattle.std.proofs.lemmas.Bool.{ltb-true}
use Rattle.std.proofs.lemmas.Option.{slice_get_read}
use Rattle.doll_set.specs.declared.partials.TagPartial.{TagPartial}
use Rattle.doll_set.specs.Dependencies.{names_of, partial_of}
use Rattle.doll_set.specs.Digests.{name_at}
use Rattle.doll_set.specs.Partials.{all_partials}
use Rattle.doll_set.specs.Sets.{ReadSet}
use Rattle.doll_set.proofs.Kept.{kept_is_meant}
use Rattle.doll_set.proofs.set.TemplateSet.partial_kept.Goals as goal

pub returns : goal.returns
returns c =
    let templates = c.args.self.now.templates in
    let one : TagPartial = c.index-partials-place.result in
    let listed : List TagPartial = c.as_slice-partials.result.now in
    let place = c.in-Some-place_of.place in
    let whole : c.as_slice.result.now ≡ all_partials templates =
    c.as_slice.ensures ∙ c.self.invariant.1.1 ∙ ap (λ (v : ReadSet). all_partials v.templates) c.self.view_is in
    let listed_there : slice_get (all_partials templates) c.args.number ≡ Some listed =
    subst (λ ps. slice_get ps c.args.number ≡ Some listed) whole
    (slice_get_read c.as_slice.result.now (length c.as_slice.result.now) c.args.number c.in-Some.partials.now refl
    (ltb-true c.args.number (length c.as_slice.result.now) (sym c.in-Some.ensures.lookup.0)) c.in-Some.ensures.lookup.1 ∙ ap Some (sym c.as_slice-partials.ensures)) in
    let one_there : slice_get listed place ≡ Some one = slice_get_read listed (length listed) place one refl (omega (arith, c.in-Some-place_of.ensures)) c.index-partials-place.is in
    let same : one.name ≡ c.args.name.now = sym c.as_bytes.ensures ∙ search rules in
    subst (λ name. partial_of (names_of templates) (name_at templates c.args.number) name ≡ Some one.number) same (kept_is_meant templates c.args.number place listed one listed_there one_there)

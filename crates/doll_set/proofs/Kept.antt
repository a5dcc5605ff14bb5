-- A partial that is kept for a tag is the one that its name means.
use Rattle.std.proofs.Common.{◌≡◌, ℕ, zero, suc, List, [], ◌∷◌, ◌++◌, map, Option, Some, None, refl, ap, subst, ◌∙◌}
use Rattle.std.specs.Prelude.{slice_get}
use Rattle.std.specs.List.{AllByRecursion, flat_map}
use Rattle.std.specs.Option.{option_map_or}
use Rattle.doll_set.specs.declared.dependencies.PartialTag.{PartialTag}
use Rattle.doll_set.specs.declared.partials.TagPartial.{TagPartial}
use Rattle.doll_set.specs.declared.template.Template.{Template}
use Rattle.doll_set.specs.Dependencies.{names_of, partial_of, tags_of}
use Rattle.doll_set.specs.Digests.{name_at}
use Rattle.doll_set.specs.Partials.{all_partials, partials_of, tag_partials}
use Rattle.doll_set.proofs.Depending.{name_is}

-- its number is that of the partial that its name means
abbrev IsMeant : List (List ℕ) → List ℕ → TagPartial → Type 0
IsMeant names template partial = partial_of names template partial.name ≡ Some partial.number

one_meant : (names : List (List ℕ)) (template : List ℕ) (tag : PartialTag) → AllByRecursion (IsMeant names template) (tag_partials names template tag)
one_meant names template tag = by (partial_of names template tag.name) refl
  where
    by : (o : Option ℕ) → partial_of names template tag.name ≡ o → AllByRecursion (IsMeant names template) (option_map_or (λ number. record { at = tag.at; name = tag.name; number = number } ∷ []) o [])
    by None is = tt
    by (Some number) is = (is, tt)

both : {X : Type 0} (P : X → Type 0) (xs ys : List X) → AllByRecursion P xs → AllByRecursion P ys → AllByRecursion P (xs ++ ys)
both P [] ys all more = more
both P (x ∷ xs) ys all more = (all.0, both P xs ys all.1 more)

tags_meant : (names : List (List ℕ)) (template : List ℕ) (tags : List PartialTag) → AllByRecursion (IsMeant names template) (flat_map (tag_partials names template) tags)
tags_meant names template [] = tt
tags_meant names template (tag ∷ tags) =
    both (IsMeant names template) (tag_partials names template tag) (flat_map (tag_partials names template) tags) (one_meant names template tag) (tags_meant names template tags)

each_at : {X : Type 0} (P : X → Type 0) (xs : List X) (k : ℕ) (x : X) → AllByRecursion P xs → slice_get xs k ≡ Some x → P x
each_at P [] k x all is = absurd (cc is)
each_at P (y ∷ xs) zero x all is = subst P (same is) all.0
  where
    same : {X : Type 0} {x y : X} → Some x ≡ Some y → x ≡ y
    same e = cc
each_at P (y ∷ xs) (suc k) x all is = each_at P xs k x all.1 is

there : (names : List (List ℕ)) (templates : List Template) (number : ℕ) (partials : List TagPartial) → slice_get (map (partials_of names) templates) number ≡ Some partials
    → (t : Template) × ((slice_get templates number ≡ Some t) × (partials_of names t ≡ partials))
there names [] number partials is = absurd (cc is)
there names (t ∷ templates) zero partials is = (t, (refl, same is))
  where
    same : {X : Type 0} {x y : X} → Some x ≡ Some y → x ≡ y
    same e = cc
there names (t ∷ templates) (suc number) partials is = there names templates number partials is

pub kept_is_meant : (templates : List Template) (number place : ℕ) (partials : List TagPartial) (partial : TagPartial) → slice_get (all_partials templates) number ≡ Some partials → slice_get partials place ≡ Some partial
    → partial_of (names_of templates) (name_at templates number) partial.name ≡ Some partial.number
unfolding partials_of
kept_is_meant templates number place partials partial is at =
    let found = there (names_of templates) templates number partials is in
    ap (λ n. partial_of (names_of templates) n partial.name) (name_is templates number found.0 found.1.0)
    ∙ each_at (IsMeant (names_of templates) found.0.name) partials place partial
    (subst (AllByRecursion (IsMeant (names_of templates) found.0.name)) found.1.1 (tags_meant (names_of templates) found.0.name (tags_of found.0.tree))) at

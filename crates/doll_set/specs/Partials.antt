-- The partials that tags of templates name, with their numbers (this project's own).
use Rattle.std.specs.Prelude.{ℕ, List, [], ◌∷◌, map}
use Rattle.std.specs.List.{flat_map}
use Rattle.std.specs.Option.{option_map_or}
use Rattle.doll_set.specs.declared.dependencies.PartialTag.{PartialTag}
use Rattle.doll_set.specs.declared.partials.TagPartial.{TagPartial}
use Rattle.doll_set.specs.declared.template.Template.{Template}
use Rattle.doll_set.specs.Dependencies.{names_of, partial_of, tags_of}

-- the partial that a tag of the template with a name names, nothing where it isn't there
abbrev pub tag_partials : List (List ℕ) → List ℕ → PartialTag → List TagPartial
tag_partials names template tag =
    option_map_or (λ number. record { at = tag.at; name = tag.name; number = number } ∷ []) (partial_of names template tag.name) []

-- those that the tags of a template name, in the order of the text
unfoldable pub partials_of : List (List ℕ) → Template → List TagPartial
partials_of names template = flat_map (tag_partials names template.name) (tags_of template.tree)

-- those of each template
abbrev pub all_partials : List Template → List (List TagPartial)
all_partials templates = map (partials_of (names_of templates)) templates

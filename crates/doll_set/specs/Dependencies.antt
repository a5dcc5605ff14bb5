-- What templates depend on: the partials that their tags name (this project's own).
use Rattle.std.specs.Prelude.{ℕ, ◌<◌, true, false, ◌==◌, List, [], ◌∷◌, ◌++◌, map, length, Option, Result, Ok, if◌then◌else◌}
use Rattle.std.specs.List.{AllByRecursion, before_last, filter, flat_map, list_any, position, range_with_len, zip}
use Rattle.std.specs.Option.{ok_or}
use Rattle.std.specs.Str.{bytes_eq}
use Rattle.doll_text.specs.Segments.{is_slash, last_segment}
use Rattle.doll_text.specs.Steps.{◌>>=◌}
use Rattle.doll_text.specs.declared.bytes.TheConstants.{SLASH}
use Rattle.doll_set.specs.declared.dependencies.TheConstants.{UNDERSCORE}
use Rattle.doll_erb.specs.declared.node.Arm.{Arm-F}
use Rattle.doll_erb.specs.declared.node.Node.{Node, fold-Node}
use Rattle.doll_erb.specs.declared.node.Node.TheOpen.{Node-F}
use Rattle.doll_graph.specs.Graphs.{Graph}
use Rattle.doll_set.specs.declared.dependencies.PartialTag.{PartialTag}
use Rattle.doll_set.specs.declared.dependencies.Links.{Links}
use Rattle.doll_set.specs.declared.fault.SetFault.{SetFault}
use Rattle.doll_set.specs.declared.fault.SetFault.TheVariants.{MissingPartial}
use Rattle.doll_set.specs.declared.template.Template.{Template}

-- ---- tags

-- the tags of some parts, one part after another
abbrev pub joined : List (List PartialTag) → List PartialTag
joined parts = flat_map (λ part. part) parts

-- the tags of a node that name a partial, by those of its parts, in the order of the text
abbrev pub tags_step : Node-F (List PartialTag) (List PartialTag) → List PartialTag
tags_step (Node-F.Text text) = []
tags_step (Node-F.Write at expr) = []
tags_step (Node-F.Raw at expr) = []
tags_step (Node-F.If at arms otherwise) = joined arms ++ joined otherwise
tags_step (Node-F.Each at list name body) = joined body
tags_step (Node-F.Cache at block key body) = joined body
tags_step (Node-F.Render at name locals) = record { at = at; name = name; renders = true } ∷ []
tags_step (Node-F.Collection at name list item cached) = record { at = at; name = name; renders = true } ∷ []
tags_step (Node-F.Depends at name) = record { at = at; name = name; renders = false } ∷ []

abbrev pub arm_tags : Arm-F (List PartialTag) (List PartialTag) → List PartialTag
arm_tags arm = joined arm.body

-- the tags of a node that name a partial
abbrev pub node_tags : Node → List PartialTag
node_tags = fold-Node (List PartialTag) (List PartialTag) tags_step arm_tags

-- those of a tree
abbrev pub tags_of : List Node → List PartialTag
tags_of tree = flat_map node_tags tree

-- ---- names

-- the folder of a name, nothing where the name has none
abbrev pub folder_of : List ℕ → List ℕ
folder_of name = before_last is_slash name

-- the folder that a template means by a name: the name's own, or where it has none the template's
abbrev pub folder_meant : List ℕ → List ℕ → List ℕ
folder_meant template name = if list_any is_slash name then folder_of name else folder_of template

-- what stands before a file's name in a folder
abbrev pub within : List ℕ → List ℕ
within [] = []
within folder = folder ++ SLASH ∷ []

-- the virtual path of the partial that a template means by a name: in its folder, with an underscore before its last segment
unfoldable pub partial_path : List ℕ → List ℕ → List ℕ
partial_path template name = within (folder_meant template name) ++ UNDERSCORE ∷ last_segment name

-- the names of templates, each at its number
abbrev pub names_of : List Template → List (List ℕ)
names_of templates = map (λ (t : Template). t.name) templates

-- the number of the template with this virtual path
abbrev pub number_of : List (List ℕ) → List ℕ → Option ℕ
number_of names path = position (bytes_eq path) names

-- the number of the partial that a template means by a name
abbrev pub partial_of : List (List ℕ) → List ℕ → List ℕ → Option ℕ
partial_of names template name = number_of names (partial_path template name)

-- ---- links

-- what is made of each of some things, or the first fault
abbrev pub each_made : {X Y F : Type 0} → (X → Result Y F) → List X → Result (List Y) F
each_made make [] = Ok []
each_made make (x ∷ xs) = do
  y ← make x
  ys ← each_made make xs
  Ok (y ∷ ys)

-- the number of the partial that a tag of a template names
abbrev pub number_named : List (List ℕ) → List ℕ → PartialTag → Result ℕ SetFault
number_named names template tag = ok_or (partial_of names template tag.name) (MissingPartial template tag.at)

-- the numbers of the partials that tags name, in the order of the tags, or the first tag whose partial isn't there
abbrev pub named_by : List (List ℕ) → List ℕ → List PartialTag → Result (List ℕ) SetFault
named_by names template tags = each_made (number_named names template) tags

-- each of these numbers below a count once, ascending
abbrev pub distinct : ℕ → List ℕ → List ℕ
distinct count numbers = filter (λ number. list_any (λ other. number == other) numbers) (range_with_len 0 count)

-- the numbers beside tags that render their partial
abbrev pub rendered : List PartialTag → List ℕ → List ℕ
rendered tags numbers = map (λ one. one.1) (filter (λ one. one.0.renders) (zip tags numbers))

-- what a template depends on and renders, by the names of all
abbrev pub links_of : List (List ℕ) → Template → Result Links SetFault
links_of names template = do
  numbers ← named_by names template.name (tags_of template.tree)
  Ok (record { dependencies = distinct (length names) numbers; rendered = rendered (tags_of template.tree) numbers })

-- the same of each of these templates
abbrev pub all_links : List Template → List Template → Result (List Links) SetFault
all_links templates some = each_made (links_of (names_of templates)) some

-- what each template depends on
abbrev pub graph_of : List Links → Graph
graph_of links = map (λ (l : Links). l.dependencies) links

-- each number stands for one of so many templates
abbrev pub AreBelow : ℕ → List ℕ → Type 0
AreBelow count numbers = AllByRecursion (λ number. number < count) numbers

-- what a template depends on and renders is among so many templates
abbrev pub AreLinksBelow : ℕ → Links → Type 0
AreLinksBelow count links = AreBelow count links.dependencies × AreBelow count links.rendered

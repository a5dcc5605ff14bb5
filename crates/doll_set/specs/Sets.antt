-- The set of templates that files make, or the first refusal (this project's own).
use Rattle.std.specs.Prelude.{◌≡◌, ℕ, ◌-◌, ◌^◌, min, nat_le, List, [], length, map, slice_get, Option, None, Some, Result, Ok, Err, Vec, ⊤}
use Rattle.std.specs.List.{AllByRecursion, Contains}
use Rattle.std.specs.Option.{option_map_or}
use Rattle.std.specs.declared.alloc.Global.{Global}
use Rattle.doll_text.specs.Steps.{◌>>=◌, ◌>>◌, check}
use Rattle.doll_base.specs.declared.in_memory.ViewFile.{ViewFile}
use Rattle.doll_digest.specs.Registries.{Registered, names_in}
use Rattle.doll_digest.specs.declared.registry.DigestFault.{DigestFault}
use Rattle.doll_erb.specs.Trees.{tree_of}
use Rattle.doll_erb.specs.declared.node.Node.{Node}
use Rattle.doll_graph.specs.Graphs.{Graph, cycle, dependencies}
use Rattle.doll_set.specs.declared.dependencies.Links.{Links}
use Rattle.doll_set.specs.declared.dependencies.PartialTag.{PartialTag}
use Rattle.doll_set.specs.declared.fault.SetFault.{SetFault}
use Rattle.doll_set.specs.declared.fault.SetFault.TheVariants as fault
use Rattle.doll_set.specs.declared.limits.TheConstants.{MOST_VIEWS}
use Rattle.doll_set.specs.declared.partials.TagPartial.{TagPartial}
use Rattle.doll_set.specs.declared.template.Template.{Template}
use Rattle.doll_set.specs.Dependencies.{all_links, graph_of, names_of, partial_of, tags_of}
use Rattle.doll_set.specs.Digests.{name_at, digests_of, registered, too_deep}
use Rattle.doll_set.specs.Faults.{set_fault}
use Rattle.doll_set.specs.Files.{in_order, templates_from}
use Rattle.doll_set.specs.Order.{Ascend}
use Rattle.doll_set.specs.Partials.{all_partials}
use Rattle.doll_set.specs.Weights.{node_counts, rendered_by, first_too_wide}

-- a set that was read: its templates, what each depends on, and their digests
pub record ReadSet : Type 0 where
  pub templates : List Template
  pub graph : Graph
  pub digests : List (List ℕ)

-- the templates of files, ascending by their virtual paths
abbrev pub templates_of : List ViewFile → Result (List Template) SetFault
templates_of files =
    check (nat_le (length files) MOST_VIEWS) (fault.TooMany (min (length files) (2 ^ 32 - 1))) >> templates_from 0 [] (in_order files)

-- ---- chains

-- nothing leads back to itself, else the way back by its names
abbrev pub no_cycle : List Template → Option (List ℕ) → Result ⊤ SetFault
no_cycle templates None = Ok tt
no_cycle templates (Some way) = Err (fault.Cycle (map (name_at templates) way))

-- no template is one of these, else it is named
abbrev pub none_deep : List Template → Option ℕ → Result ⊤ SetFault
none_deep templates None = Ok tt
none_deep templates (Some number) = Err (fault.DepthOver (name_at templates number))

abbrev pub none_wide : List Template → Option ℕ → Result ⊤ SetFault
none_wide templates None = Ok tt
none_wide templates (Some number) = Err (fault.TooWide (name_at templates number))

-- the first template that is too heavy, by what each renders
unfoldable pub first_heavy : List Template → List Links → Option ℕ
first_heavy templates links = first_too_wide (node_counts templates) (rendered_by links)

-- ---- sets

-- nothing leads back to itself, no chain is too long and none is too heavy
abbrev pub fit : List Template → List Links → Result ⊤ SetFault
fit templates links =
    no_cycle templates (cycle (graph_of links)) >> (none_deep templates (too_deep (graph_of links)) >> none_wide templates (first_heavy templates links))

-- the links of templates in which every partial is there, none leads back to itself, no chain is too long and none is too heavy
unfoldable pub linked : List Template → Result (List Links) SetFault
linked templates = do
  links ← all_links templates templates
  fit templates links >> Ok links

-- what each depends on in these
abbrev pub linked_graph : List Template → Result Graph SetFault
linked_graph templates = linked templates >>= (λ links. Ok (graph_of links))

-- a registry's answer as a set's
abbrev pub or_refused : Result Registered DigestFault → Result Registered SetFault
or_refused (Ok registry) = Ok registry
or_refused (Err fault) = Err (set_fault fault)

-- the set of files, by a hash and a registry
unfoldable pub set_of : (List ℕ → List ℕ) → Registered → List ViewFile → Result ReadSet SetFault
set_of hash registry files = do
  templates ← templates_of files
  graph ← linked_graph templates
  or_refused (registered hash registry templates graph) >> Ok (record { templates = templates; graph = graph; digests = digests_of hash templates graph })

-- the registry that reading a set leaves: its names and its framed texts
unfoldable pub registry_after : (List ℕ → List ℕ) → Registered → ReadSet → Result Registered DigestFault
registry_after hash registry set = registered hash registry set.templates set.graph

-- ---- what holds of each set that was read

-- each tree is that of its source
abbrev pub IsParsed : Template → Type 0
IsParsed template = tree_of template.source ≡ Ok template.tree

-- what every layer above may rest on
pub record IsSet (templates : List Template) (graph : Graph) (digests : List (List ℕ)) : Type 0 where
  -- names ascend, each once
  pub ascend : Ascend (names_of templates)
  -- each source is parsed
  pub parsed : AllByRecursion IsParsed templates
  pub links : List Links
  -- every partial is there, none leads back to itself, no chain is too long, none is too heavy
  pub linked_so : linked templates ≡ Ok links
  pub graph_is : graph ≡ graph_of links
  -- each has a digest
  pub digests_long : length digests ≡ length templates

-- the keys of a set are the names of templates, in the same order
abbrev pub IsNamed : List (Vec ℕ Global) → List Template → Type 0
IsNamed keys templates = names_in keys ≡ names_of templates

-- and the partials of their tags are kept
abbrev pub IsKept : List (Vec ℕ Global) → List (List TagPartial) → List Template → Type 0
IsKept keys partials templates = IsNamed keys templates × (partials ≡ all_partials templates)

-- the tree of the template with a number, nothing where there is none
abbrev pub tree_at : List Template → ℕ → List Node
tree_at templates number = option_map_or (λ (t : Template). t.tree) (slice_get templates number) []

-- in a set each partial that a tag of a template names is among what the template depends on
abbrev pub TagsAreDependencies : Type 0
TagsAreDependencies = (templates : List Template) (graph : Graph) (digests : List (List ℕ)) → IsSet templates graph digests
    → (number : ℕ) (tag : PartialTag) (d : ℕ) → Contains (tags_of (tree_at templates number)) tag
    → partial_of (names_of templates) (name_at templates number) tag.name ≡ Some d → Contains (dependencies graph number) d

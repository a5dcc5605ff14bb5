-- The files of a set and the templates that they hold (this project's own).
use Rattle.std.specs.Prelude.{ℕ, ◌+◌, ◌-◌, not, ◌&&◌, Bool, nat_le, nat_eq, List, [], ◌∷◌, length, take, Option, None, Some, Result, Ok, Err, codes, if◌then◌else◌}
use Rattle.std.specs.List.{ends_with, fold, list_any}
use Rattle.std.specs.Option.{ok_or}
use Rattle.std.specs.Str.{bytes_eq}
use Rattle.doll_text.specs.Segments.{is_virtual_path}
use Rattle.doll_text.specs.Steps.{◌>>=◌, ◌>>◌, check}
use Rattle.doll_base.specs.declared.in_memory.ViewFile.{ViewFile}
use Rattle.doll_expr.specs.declared.lex.TheConstants.{LONGEST_SOURCE}
use Rattle.doll_erb.specs.declared.node.ErbFault.{ErbFault}
use Rattle.doll_erb.specs.declared.node.Node.{Node}
use Rattle.doll_erb.specs.Trees.{tree_of}
use Rattle.doll_set.specs.Order.{put_by_name}
use Rattle.doll_set.specs.declared.fault.SetFault.{SetFault}
use Rattle.doll_set.specs.declared.fault.SetFault.TheVariants.{BadName, Duplicate, TooLong, BadTemplate}
use Rattle.doll_set.specs.declared.template.Template.{Template}

-- ---- order

-- files in ascending order of their names
abbrev pub put_file : List ViewFile → ViewFile → List ViewFile
put_file files file = put_by_name (λ (f : ViewFile). f.name) files file

abbrev pub in_order : List ViewFile → List ViewFile
in_order files = fold put_file [] files

-- ---- one file

-- what a file's name says: the virtual path before the ending `.html.erb`
abbrev pub virtual_path : List ℕ → Option (List ℕ)
virtual_path name =
    let path = take (length name - 9) name in
    if ends_with nat_eq name (codes ".html.erb") && is_virtual_path path then Some path else None

-- whether a template has this name
abbrev pub is_taken : List Template → List ℕ → Bool
is_taken templates name = list_any (λ (t : Template). bytes_eq name t.name) templates

-- a source that is no template is refused with its fault
abbrev pub or_bad_template : List ℕ → Result (List Node) ErbFault → Result (List Node) SetFault
or_bad_template name (Ok tree) = Ok tree
or_bad_template name (Err fault) = Err (BadTemplate name fault)

-- the template of the file with this number, or why it has none, where these templates were read before it
abbrev pub template_of : ℕ → List Template → ViewFile → Result Template SetFault
template_of number templates file = do
  name ← ok_or (virtual_path file.name) (BadName number)
  check (not (is_taken templates name)) (Duplicate name)
  check (nat_le (length file.source) LONGEST_SOURCE) (TooLong name)
  tree ← or_bad_template name (tree_of file.source)
  Ok (record { name = name; source = file.source; tree = tree })

-- a template among the others, by their virtual paths
abbrev pub put_template : List Template → Template → List Template
put_template templates template = put_by_name (λ (t : Template). t.name) templates template

-- the templates of files, the first of which has this number, and those that were read before
abbrev pub templates_from : ℕ → List Template → List ViewFile → Result (List Template) SetFault
templates_from number templates [] = Ok templates
templates_from number templates (file ∷ files) = do
  template ← template_of number templates file
  templates_from (number + 1) (put_template templates template) files

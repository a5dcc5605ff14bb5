-- In a set that was read each template has a virtual path and a digest.
use Rattle.std.proofs.Common.{◌≡◌, ◌<◌, ◌+◌, ◌-◌, ℕ, zero, suc, Bool, true, false, cond, not, List, [], ◌∷◌, ◌++◌, length, take, drop, None, Some, Result, Ok, refl, sym, ap, subst, ◌∙◌, arith}
use Rattle.std.specs.Prelude.{◌&&◌, ◌^◌, codes, min, nat_eq, nat_le}
use Rattle.std.specs.List.{AllByRecursion, ends_with, prefix_len, slice_index_or}
use Rattle.std.specs.Option.{ok_or}
use Rattle.std.proofs.lemmas.List.FromFn.{get_or-map-range_with_len}
use Rattle.doll_text.specs.Segments.{is_virtual_path}
use Rattle.doll_text.specs.Steps.{check}
use Rattle.doll_base.specs.declared.in_memory.ViewFile.{ViewFile}
use Rattle.doll_digest.specs.Framing.{IsDigest}
use Rattle.doll_erb.specs.Trees.{tree_of}
use Rattle.doll_expr.specs.declared.lex.TheConstants.{LONGEST_SOURCE}
use Rattle.doll_graph.specs.Graphs.{Graph}
use Rattle.doll_set.specs.declared.fault.SetFault.{SetFault}
use Rattle.doll_set.specs.declared.fault.SetFault.TheVariants.{BadName, Duplicate, TooLong, TooMany}
use Rattle.doll_set.specs.declared.limits.TheConstants.{MOST_VIEWS}
use Rattle.doll_set.specs.declared.template.Template.{Template}
use Rattle.doll_set.specs.Digests.{digest_of, digests_of, name_at, registered}
use Rattle.doll_set.specs.Files.{in_order, is_taken, or_bad_template, put_template, template_of, templates_from, virtual_path}
use Rattle.doll_set.specs.Order.{isnt_above}
use Rattle.doll_set.specs.Sets.{ReadSet, linked_graph, or_refused, set_of, templates_of}
use Rattle.doll_run.specs.Keys.{digest_at}
use Rattle.doll_sound.specs.Names.{SetsHavePaths}
use Rattle.doll_sound.proofs.Read.{bound, passed, there}

-- ---- paths

abbrev HasPath : Template → Type 0
HasPath t = is_virtual_path t.name ≡ true

-- what stands before the ending of a file's name is tested
path_is : (name path : List ℕ) → virtual_path name ≡ Some path → is_virtual_path path ≡ true
path_is name path e = by (ends_with nat_eq name (codes ".html.erb")) (is_virtual_path (take (length name - 9) name)) refl e
  where
    by : (a b : Bool) → is_virtual_path (take (length name - 9) name) ≡ b → cond (a && b) (Some (take (length name - 9) name)) None ≡ Some path → is_virtual_path path ≡ true
    by true true is e = let same : take (length name - 9) name ≡ path = cc e in ap is_virtual_path (sym same) ∙ is
    by true false is e = absurd (cc e)
    by false b is e = absurd (cc e)

one_path : (number : ℕ) (templates : List Template) (file : ViewFile) (t : Template) → template_of number templates file ≡ Ok t → HasPath t
one_path number templates file t e =
    let name = bound (ok_or (virtual_path file.name) (BadName number)) _ t e in
    let new = passed (check (not (is_taken templates name.0)) (Duplicate name.0)) _ t name.2 in
    let short = passed (check (nat_le (length file.source) LONGEST_SOURCE) (TooLong name.0)) _ t new.2 in
    let tree = bound (or_bad_template name.0 (tree_of file.source)) _ t short.2 in
    let same : name.0 ≡ t.name = cc tree.2 in
    subst (λ n. is_virtual_path n ≡ true) same (path_is file.name name.0 (there (virtual_path file.name) (BadName number) name.0 name.1))

all_put : (ts : List Template) (one : Template) (at : ℕ) → AllByRecursion HasPath ts → HasPath one → AllByRecursion HasPath (take at ts ++ one ∷ drop at ts)
all_put [] one zero all here = (here, all)
all_put [] one (suc at) all here = (here, all)
all_put (t ∷ ts) one zero all here = (here, all)
all_put (t ∷ ts) one (suc at) all here = (all.0, all_put ts one at all.1 here)

all_paths : (number : ℕ) (templates : List Template) (files : List ViewFile) (read : List Template) → templates_from number templates files ≡ Ok read → AllByRecursion HasPath templates → AllByRecursion HasPath read
all_paths number templates [] read e all = let same : templates ≡ read = cc e in subst (AllByRecursion HasPath) same all
all_paths number templates (file ∷ files) read e all =
    let one = bound (template_of number templates file) _ read e in
    all_paths (number + 1) (put_template templates one.0) files read one.2
    (all_put templates one.0 (prefix_len (λ (other : Template). isnt_above other.name one.0.name) templates) all (one_path number templates file one.0 one.1))

path_at : (templates : List Template) (number : ℕ) → AllByRecursion HasPath templates → number < length templates → is_virtual_path (name_at templates number) ≡ true
path_at [] number all within = absurd (omega arith)
path_at (t ∷ templates) zero all within = all.0
path_at (t ∷ templates) (suc number) all within = path_at templates number all.1 (omega (arith, within))

-- ---- digests

-- a digest is what the hash gives
module _ (hash : List ℕ → List ℕ) (gives : (text : List ℕ) → IsDigest (hash text)) where
  hashed : (templates : List Template) (graph : Graph) (number : ℕ) → IsDigest (digest_of hash templates graph number)
  unfolding digest_of
  hashed templates graph number = gives _

  digest_there : (templates : List Template) (graph : Graph) (number : ℕ) → number < length templates → IsDigest (slice_index_or (digests_of hash templates graph) number [])
  digest_there templates graph number within =
      subst IsDigest (sym (get_or-map-range_with_len (digest_of hash templates graph) 0 (length templates) number number [] within (omega arith))) (hashed templates graph number)

-- a set by its templates and its graph
made_has : (hash : List ℕ → List ℕ) → ((text : List ℕ) → IsDigest (hash text)) → (templates : List Template) (graph : Graph) (number : ℕ) → AllByRecursion HasPath templates → number < length templates
    → (is_virtual_path (name_at templates number) ≡ true) × IsDigest (slice_index_or (digests_of hash templates graph) number [])
made_has hash gives templates graph number all within = (path_at templates number all within, digest_there hash gives templates graph number within)

abbrev Has : ReadSet → ℕ → Type 0
Has set number = number < length set.templates → (is_virtual_path (name_at set.templates number) ≡ true) × IsDigest (digest_at set number)

pub sets_have_paths : SetsHavePaths
unfolding set_of
sets_have_paths hash registry files set gives e number =
    let templates = bound (templates_of files) _ set e in
    let graph = bound (linked_graph templates.0) _ set templates.2 in
    let entered = passed (or_refused (registered hash registry templates.0 graph.0)) _ set graph.2 in
    let few = passed (check (nat_le (length files) MOST_VIEWS) (TooMany (min (length files) (2 ^ 32 - 1)))) _ templates.0 templates.1 in
    by templates.0 graph.0 entered.2 (all_paths 0 [] (in_order files) templates.0 few.2 tt)
  where
    by : (templates : List Template) (graph : Graph) → (let given : Result ReadSet SetFault = Ok (record { templates = templates; graph = graph; digests = digests_of hash templates graph }) in given ≡ Ok set)
        → AllByRecursion HasPath templates → Has set number
    by templates graph e all =
        let same : record { templates = templates; graph = graph; digests = digests_of hash templates graph } ≡ set = cc e in
        subst (λ set. Has set number) same (made_has hash gives templates graph number all)

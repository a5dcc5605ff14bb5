-- Templates that are read ascend by their names, and each has the tree of its source.
use Rattle.std.proofs.Common.{◌≡◌, ℕ, zero, suc, ◌+◌, ◌-◌, ◌^◌, min, Bool, true, false, not, List, [], ◌∷◌, ◌++◌, take, drop, length, nat_le, Option, None, Some, Result, Ok, Err, refl, ap, subst}
use Rattle.std.specs.List.{AllByRecursion, prefix_len}
use Rattle.std.specs.List.Sorted.{IsStrictlySortedBy}
use Rattle.std.specs.Option.{ok_or}
use Rattle.doll_text.specs.Steps.{◌>>=◌, ◌>>◌, check}
use Rattle.doll_base.specs.declared.in_memory.ViewFile.{ViewFile}
use Rattle.doll_expr.specs.declared.lex.TheConstants.{LONGEST_SOURCE}
use Rattle.doll_erb.specs.declared.node.ErbFault.{ErbFault}
use Rattle.doll_erb.specs.declared.node.Node.{Node}
use Rattle.doll_erb.specs.Trees.{tree_of}
use Rattle.doll_set.specs.declared.fault.SetFault.{SetFault}
use Rattle.doll_set.specs.declared.fault.SetFault.TheVariants.{BadName, Duplicate, TooLong, TooMany}
use Rattle.doll_set.specs.declared.limits.TheConstants.{MOST_VIEWS}
use Rattle.doll_set.specs.declared.template.Template.{Template}
use Rattle.doll_set.specs.Dependencies.{names_of}
use Rattle.doll_set.specs.Files.{in_order, is_taken, or_bad_template, put_template, template_of, templates_from, virtual_path}
use Rattle.doll_set.specs.Order.{Ascend, isnt_above}
use Rattle.doll_set.specs.Sets.{IsParsed, templates_of}
use Rattle.doll_set.proofs.Ascending.{put_ascends}

abbrev value_or : {Y F : Type 0} → Y → Result Y F → Y
value_or y (Ok x) = x
value_or y (Err fault) = y

same_value : {Y F : Type 0} (x y : Y) → ◌≡◌ {A = Result Y F} (Ok x) (Ok y) → x ≡ y
same_value x y e = ap (value_or x) e

-- a template that was read has a new name, and the tree of its source
module _ (number : ℕ) (templates : List Template) (file : ViewFile) (template : Template) where
  by_tree : (name : List ℕ) (r : Result (List Node) ErbFault) → tree_of file.source ≡ r → is_taken templates name ≡ false
      → (or_bad_template name r >>= (λ tree. Ok (record { name = name; source = file.source; tree = tree }))) ≡ Ok template → (is_taken templates template.name ≡ false) × IsParsed template
  by_tree name (Ok tree) is new h =
      let made : Template = record { name = name; source = file.source; tree = tree } in
      (subst (λ (t : Template). is_taken templates t.name ≡ false) (same_value made template h) new, subst IsParsed (same_value made template h) is)
  by_tree name (Err fault) is new h = absurd (cc h)

  by_length : (name : List ℕ) (b : Bool) → is_taken templates name ≡ false
      → (check b (TooLong name) >> (or_bad_template name (tree_of file.source) >>= (λ tree. Ok (record { name = name; source = file.source; tree = tree })))) ≡ Ok template → (is_taken templates template.name ≡ false) × IsParsed template
  by_length name true new h = by_tree name (tree_of file.source) refl new h
  by_length name false new h = absurd (cc h)

  by_taken : (name : List ℕ) (b : Bool) → is_taken templates name ≡ b
      → (check (not b) (Duplicate name) >> (check (nat_le (length file.source) LONGEST_SOURCE) (TooLong name) >> (or_bad_template name (tree_of file.source) >>= (λ tree. Ok (record { name = name; source = file.source; tree = tree }))))) ≡ Ok template → (is_taken templates template.name ≡ false) × IsParsed template
  by_taken name true is h = absurd (cc h)
  by_taken name false is h = by_length name (nat_le (length file.source) LONGEST_SOURCE) is h

  by_path : (o : Option (List ℕ))
      → (ok_or o (BadName number) >>= (λ name. check (not (is_taken templates name)) (Duplicate name) >> (check (nat_le (length file.source) LONGEST_SOURCE) (TooLong name) >> (or_bad_template name (tree_of file.source) >>= (λ tree. Ok (record { name = name; source = file.source; tree = tree })))))) ≡ Ok template → (is_taken templates template.name ≡ false) × IsParsed template
  by_path None h = absurd (cc h)
  by_path (Some name) h = by_taken name (is_taken templates name) refl h

  pub new_template : template_of number templates file ≡ Ok template → (is_taken templates template.name ≡ false) × IsParsed template
  new_template h = by_path (virtual_path file.name) h

all_with_one : {X : Type 0} (P : X → Type 0) (xs : List X) (one : X) (at : ℕ) → AllByRecursion P xs → P one → AllByRecursion P (take at xs ++ one ∷ drop at xs)
all_with_one P [] one zero all here = (here, all)
all_with_one P [] one (suc at) all here = (here, all)
all_with_one P (x ∷ xs) one zero all here = (here, all)
all_with_one P (x ∷ xs) one (suc at) all here = (all.0, all_with_one P xs one at all.1 here)

-- the names of templates that are read ascend, and each has the tree of its source
pub templates_hold : (number : ℕ) (templates : List Template) (files : List ViewFile) (all : List Template) → templates_from number templates files ≡ Ok all → Ascend (names_of templates) → AllByRecursion IsParsed templates → Ascend (names_of all) × AllByRecursion IsParsed all
templates_hold number templates [] all e ascend parsed =
    (subst (λ ts. Ascend (names_of ts)) (same_value templates all e) ascend, subst (AllByRecursion IsParsed) (same_value templates all e) parsed)
templates_hold number templates (file ∷ files) all e ascend parsed =
    by (λ template. templates_hold (number + 1) (put_template templates template) files all) (template_of number templates file) refl e
  where
    by : ((template : Template) → templates_from (number + 1) (put_template templates template) files ≡ Ok all → Ascend (names_of (put_template templates template)) → AllByRecursion IsParsed (put_template templates template) → Ascend (names_of all) × AllByRecursion IsParsed all)
        → (r : Result Template SetFault) → template_of number templates file ≡ r → (r >>= (λ template. templates_from (number + 1) (put_template templates template) files)) ≡ Ok all → Ascend (names_of all) × AllByRecursion IsParsed all
    by rest (Ok template) is h =
        let so : (is_taken templates template.name ≡ false) × IsParsed template = new_template number templates file template is in
        rest template h (put_ascends (λ (t : Template). t.name) templates template so.0 ascend)
        (all_with_one IsParsed templates template (prefix_len (λ (other : Template). isnt_above other.name template.name) templates) parsed so.1)
    by rest (Err fault) is h = absurd (cc h)

pub read_holds : (files : List ViewFile) (templates : List Template) → templates_of files ≡ Ok templates → Ascend (names_of templates) × AllByRecursion IsParsed templates
unfolding IsStrictlySortedBy
read_holds files templates e = by (nat_le (length files) MOST_VIEWS) e
  where
    by : (b : Bool) → (check b (TooMany (min (length files) (2 ^ 32 - 1))) >> templates_from 0 [] (in_order files)) ≡ Ok templates → Ascend (names_of templates) × AllByRecursion IsParsed templates
    by true h = templates_hold 0 [] (in_order files) templates h tt tt
    by false h = absurd (cc h)

-- How much of a set is left to carry on: its levels of partials, and how deep the parts of a tree are.
use Rattle.std.proofs.Common.{◌≡◌, ◌≢◌, ℕ, zero, suc, ◌+◌, ◌-◌, ◌*◌, ◌<◌, ◌≤◌, List, length, get_or, Option, None, Some, refl, sym, subst, arith}
use Rattle.std.specs.Prelude.{slice_get}
use Rattle.std.specs.Option.{option_map_or}
use Rattle.std.proofs.lemmas.Option.{get_or_from_slice_get, slice_get_within}
use Rattle.doll_erb.proofs.node.Node.TheLaws.{the_size}
use Rattle.doll_erb.specs.declared.node.Arm.{Arm}
use Rattle.doll_erb.specs.declared.node.Node.{Node}
use Rattle.doll_erb.specs.declared.node.Node as node
use Rattle.doll_set.specs.declared.template.Template.{Template}
use Rattle.doll_plain.proofs.Depths.{arm_below, node_below, otherwise_below}
use Rattle.doll_frames.specs.Arms.{arm_body}
use denote.Param.Weighed.{most, at_most}

-- how deep the deepest tree of a set is
unfoldable pub deepest : List Template → ℕ
deepest templates = most (λ (t : Template). most the_size t.tree) templates

-- what is left of so many levels and a rest of a tree
unfoldable pub left_of : ℕ → List Template → ℕ → ℕ
left_of levels templates rest = levels * (8 * deepest templates + 8) + rest

-- in one level less is left where less of the tree is
pub less_left : (levels : ℕ) (templates : List Template) (less more : ℕ) → less < more → left_of levels templates less < left_of levels templates more
unfolding left_of
less_left levels templates less more h = omega arith

level_room : (levels deep part : ℕ) → part ≤ deep → levels * (8 * deep + 8) + (8 * part + 7) < suc levels * (8 * deep + 8) + 0
level_room levels deep part below = omega arith

-- the tree of a template is less than a level
pub tree_left : (levels : ℕ) (templates : List Template) (number : ℕ) (template : Template) (tree : List Node) → levels ≢ 0 → slice_get templates number ≡ Some template → tree ≡ template.tree
    → left_of (levels - 1) templates (8 * most the_size tree + 7) < left_of levels templates 0
unfolding left_of deepest
tree_left zero templates number template tree some is same = absurd (some refl)
tree_left (suc levels) templates number template tree some is same =
    subst (λ n. n * (8 * most (λ (t : Template). most the_size t.tree) templates + 8) + (8 * most the_size tree + 7) < suc levels * (8 * most (λ (t : Template). most the_size t.tree) templates + 8) + 0) (sym one)
    (level_room levels (most (λ (t : Template). most the_size t.tree) templates) (most the_size tree) below)
  where
    one : suc levels - 1 ≡ levels
    one = omega arith

    found : most the_size template.tree ≤ most (λ (t : Template). most the_size t.tree) templates
    found = subst (λ (t : Template). most the_size t.tree ≤ most (λ (t : Template). most the_size t.tree) templates) (get_or_from_slice_get templates number template template is) (at_most (λ (t : Template). most the_size t.tree) templates number template (slice_get_within templates number template is))

    below : most the_size tree ≤ most (λ (t : Template). most the_size t.tree) templates
    below = subst (λ ns. most the_size ns ≤ most (λ (t : Template). most the_size t.tree) templates) (sym same) found

module _ (levels : ℕ) (templates : List Template) where
  -- a node of a list
  pub node_left : (nodes : List Node) (at : ℕ) (one : Node) → at < length nodes → one ≡ get_or nodes at one → left_of levels templates (8 * the_size one + 5) < left_of levels templates (8 * most the_size nodes + 6)
  node_left nodes at one within is = let below = node_below nodes at one within is in less_left levels templates (8 * the_size one + 5) (8 * most the_size nodes + 6) (omega arith)

  pub first_left : (nodes : List Node) (at : ℕ) (one : Node) → at < length nodes → one ≡ get_or nodes at one → left_of levels templates (8 * the_size one + 5) < left_of levels templates (8 * most the_size nodes + 7)
  first_left nodes at one within is = let below = node_below nodes at one within is in less_left levels templates (8 * the_size one + 5) (8 * most the_size nodes + 7) (omega arith)

  -- a part with nodes that are less deep than the whole
  pub part_left : (part nodes : List Node) (layer whole : Node) → most the_size part < the_size layer → nodes ≡ part → whole ≡ layer → left_of levels templates (8 * most the_size nodes + 9) < left_of levels templates (8 * the_size whole + 5)
  part_left part nodes layer whole below same is =
      subst (λ n. left_of levels templates (8 * most the_size n + 9) < left_of levels templates (8 * the_size whole + 5)) (sym same)
      (subst (λ w. left_of levels templates (8 * most the_size part + 9) < left_of levels templates (8 * the_size w + 5)) (sym is)
      (less_left levels templates (8 * most the_size part + 9) (8 * the_size layer + 5) (omega arith)))

  pub tag_left : (one : Node) (rank : ℕ) → rank < 5 → left_of levels templates rank < left_of levels templates (8 * the_size one + 5)
  tag_left one rank low = less_left levels templates rank (8 * the_size one + 5) (omega arith)

  -- the arms of an `if`
  pub if_left : (at : ℕ) (arms : List Arm) (otherwise : List Node) (whole : Node) → the_size (node.If 0 arms otherwise) ≡ the_size (node.If at arms otherwise) → whole ≡ node.If at arms otherwise → left_of levels templates (8 * the_size (node.If 0 arms otherwise) + 4) < left_of levels templates (8 * the_size whole + 5)
  if_left at arms otherwise whole size is =
      subst (λ w. left_of levels templates (8 * the_size (node.If 0 arms otherwise) + 4) < left_of levels templates (8 * the_size w + 5)) (sym is)
      (less_left levels templates (8 * the_size (node.If 0 arms otherwise) + 4) (8 * the_size (node.If at arms otherwise) + 5) (omega (arith, size)))

  body_below : (arms : List Arm) (otherwise : List Node) (place : ℕ) (found : Option Arm) → slice_get arms place ≡ found → most the_size (option_map_or (λ (arm : Arm). arm.body) found otherwise) < the_size (node.If 0 arms otherwise)
  body_below arms otherwise place None is = otherwise_below 0 arms otherwise
  body_below arms otherwise place (Some arm) is = arm_below 0 arms otherwise place arm (slice_get_within arms place arm is) (sym (get_or_from_slice_get arms place arm arm is))

  pub body_left : (arms : List Arm) (otherwise nodes : List Node) (place : ℕ) → nodes ≡ arm_body arms otherwise place → left_of levels templates (8 * most the_size nodes + 7) < left_of levels templates (8 * the_size (node.If 0 arms otherwise) + 4)
  body_left arms otherwise nodes place same =
      subst (λ n. left_of levels templates (8 * most the_size n + 7) < left_of levels templates (8 * the_size (node.If 0 arms otherwise) + 4)) (sym same)
      (let below = body_below arms otherwise place (slice_get arms place) refl in less_left levels templates (8 * most the_size (arm_body arms otherwise place) + 7) (8 * the_size (node.If 0 arms otherwise) + 4) (omega arith))

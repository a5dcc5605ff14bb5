-- How much of a set is left to render: its levels of partials, and how deep the parts of a tree are.
use Rattle.std.proofs.Common.{◌≡◌, ◌≢◌, ℕ, zero, suc, ◌+◌, ◌-◌, ◌*◌, ◌<◌, ◌≤◌, List, length, get_or, Some, refl, sym, subst, rules, arith}
use Rattle.std.specs.Prelude.{slice_get}
use Rattle.std.proofs.lemmas.Option.{get_or_from_slice_get, slice_get_within}
use Rattle.doll_erb.proofs.node.Node.TheLaws.{the_size}
use Rattle.doll_erb.specs.declared.node.Arm.{Arm}
use Rattle.doll_erb.specs.declared.node.KeyPart.{KeyPart}
use Rattle.doll_erb.specs.declared.node.Node.{Node, the_lemmas}
use Rattle.doll_erb.specs.declared.node.Node as node
use Rattle.doll_expr.specs.declared.expr.Expr.{Expr}
use Rattle.doll_set.specs.declared.template.Template.{Template}
use denote.Param.Weighed.{most, at_most}

-- how deep the tree of a template is
abbrev pub depth : Template → ℕ
depth template = most the_size template.tree

-- how deep the deepest tree of a set is
unfoldable pub deepest : List Template → ℕ
deepest templates = most depth templates

-- what is left of so many levels and a rest of a tree
unfoldable pub left_of : ℕ → List Template → ℕ → ℕ
left_of levels templates rest = levels * (4 * deepest templates + 5) + rest

-- in one level less is left where less of the tree is
pub less_left : (levels : ℕ) (templates : List Template) (less more : ℕ) → less < more → left_of levels templates less < left_of levels templates more
unfolding left_of
less_left levels templates less more h = omega arith

level_room : (levels deep part : ℕ) → part ≤ deep → levels * (4 * deep + 5) + (4 * part + 4) < suc levels * (4 * deep + 5) + 0
level_room levels deep part below = omega arith

-- the tree of a template is less than a level
pub level_less : (levels : ℕ) (templates : List Template) (number : ℕ) (template : Template) → levels ≢ 0 → slice_get templates number ≡ Some template → left_of (levels - 1) templates (4 * most the_size template.tree + 4) < left_of levels templates 0
unfolding left_of deepest
level_less zero templates number template some is = absurd (some refl)
level_less (suc levels) templates number template some is =
    subst (λ n. n * (4 * most depth templates + 5) + (4 * most the_size template.tree + 4) < suc levels * (4 * most depth templates + 5) + 0) (sym one)
    (level_room levels (most depth templates) (most the_size template.tree) below)
  where
    one : suc levels - 1 ≡ levels
    one = omega arith

    below : most the_size template.tree ≤ most depth templates
    below = subst (λ (t : Template). depth t ≤ most depth templates) (get_or_from_slice_get templates number template template is) (at_most depth templates number template (slice_get_within templates number template is))

-- a node of a list is no deeper than the deepest
pub node_below : (nodes : List Node) (at : ℕ) (one : Node) → at < length nodes → one ≡ get_or nodes at one → the_size one ≤ most the_size nodes
node_below nodes at one within is = subst (λ n. the_size n ≤ most the_size nodes) (sym is) (at_most the_size nodes at one within)

-- the parts of a node are less deep
pub each_below : (at : ℕ) (list : Expr) (name : List ℕ) (body : List Node) → most the_size body < the_size (node.Each at list name body)
each_below at list name body = search (rules, the_lemmas)

pub cache_below : (at block : ℕ) (key : List KeyPart) (body : List Node) → most the_size body < the_size (node.Cache at block key body)
cache_below at block key body = search (rules, the_lemmas)

pub otherwise_below : (at : ℕ) (arms : List Arm) (otherwise : List Node) → most the_size otherwise < the_size (node.If at arms otherwise)
otherwise_below at arms otherwise = search (rules, the_lemmas)

if_size : (at : ℕ) (arms : List Arm) (otherwise : List Node) → the_size (node.If 0 arms otherwise) ≡ the_size (node.If at arms otherwise)
if_size at arms otherwise = search (rules, the_lemmas)

pub arm_below : (at : ℕ) (arms : List Arm) (otherwise : List Node) (k : ℕ) (arm : Arm) → k < length arms → arm ≡ get_or arms k arm → most the_size arm.body < the_size (node.If at arms otherwise)
arm_below at arms otherwise k arm within is = search (rules, the_lemmas)

-- ---- what is left of a part

module _ (levels : ℕ) (templates : List Template) where
  pub node_left : (nodes : List Node) (at : ℕ) (one : Node) → at < length nodes → one ≡ get_or nodes at one → left_of levels templates (4 * the_size one + 3) < left_of levels templates (4 * most the_size nodes + 4)
  node_left nodes at one within is = let below = node_below nodes at one within is in less_left levels templates (4 * the_size one + 3) (4 * most the_size nodes + 4) (omega arith)

  -- a part with nodes that are less deep than the whole
  pub part_left : (part nodes : List Node) (layer whole : Node) (rank : ℕ) → rank < 6 → most the_size part < the_size layer → nodes ≡ part → whole ≡ layer → left_of levels templates (4 * most the_size nodes + rank) < left_of levels templates (4 * the_size whole + 3)
  part_left part nodes layer whole rank low below same is =
      subst (λ n. left_of levels templates (4 * most the_size n + rank) < left_of levels templates (4 * the_size whole + 3)) (sym same)
      (subst (λ w. left_of levels templates (4 * most the_size part + rank) < left_of levels templates (4 * the_size w + 3)) (sym is)
      (less_left levels templates (4 * most the_size part + rank) (4 * the_size layer + 3) (omega arith)))

  pub tag_left : (node : Node) → left_of levels templates 2 < left_of levels templates (4 * the_size node + 3)
  tag_left node = less_left levels templates 2 (4 * the_size node + 3) (omega arith)

  pub partial_left : (less more : ℕ) → less < more → left_of levels templates less < left_of levels templates more
  partial_left less more h = less_left levels templates less more h

  pub body_left : (nodes : List Node) → left_of levels templates (4 * most the_size nodes + 4) < left_of levels templates (4 * most the_size nodes + 5)
  body_left nodes = less_left levels templates (4 * most the_size nodes + 4) (4 * most the_size nodes + 5) (omega arith)

  -- the parts of an `if`
  pub if_left : (at : ℕ) (arms : List Arm) (otherwise : List Node) (whole : Node) → whole ≡ node.If at arms otherwise → left_of levels templates (4 * the_size (node.If 0 arms otherwise) + 2) < left_of levels templates (4 * the_size whole + 3)
  if_left at arms otherwise whole is =
      subst (λ w. left_of levels templates (4 * the_size (node.If 0 arms otherwise) + 2) < left_of levels templates (4 * the_size w + 3)) (sym is)
      (less_left levels templates (4 * the_size (node.If 0 arms otherwise) + 2) (4 * the_size (node.If at arms otherwise) + 3) (omega (arith, if_size at arms otherwise)))

  inside_if : (arms : List Arm) (otherwise part nodes : List Node) → most the_size part < the_size (node.If 0 arms otherwise) → nodes ≡ part → left_of levels templates (4 * most the_size nodes + 4) < left_of levels templates (4 * the_size (node.If 0 arms otherwise) + 2)
  inside_if arms otherwise part nodes below same =
      subst (λ n. left_of levels templates (4 * most the_size n + 4) < left_of levels templates (4 * the_size (node.If 0 arms otherwise) + 2)) (sym same)
      (less_left levels templates (4 * most the_size part + 4) (4 * the_size (node.If 0 arms otherwise) + 2) (omega (arith, below)))

  pub otherwise_left : (arms : List Arm) (otherwise nodes : List Node) → nodes ≡ otherwise → left_of levels templates (4 * most the_size nodes + 4) < left_of levels templates (4 * the_size (node.If 0 arms otherwise) + 2)
  otherwise_left arms otherwise nodes same = inside_if arms otherwise otherwise nodes (otherwise_below 0 arms otherwise) same

  -- the body of an arm that was found
  pub arm_left : (arms items : List Arm) (otherwise : List Node) (k : ℕ) (arm : Arm) (nodes : List Node) → k < length items → arm ≡ get_or items k arm → items ≡ arms → nodes ≡ arm.body → left_of levels templates (4 * most the_size nodes + 4) < left_of levels templates (4 * the_size (node.If 0 arms otherwise) + 2)
  arm_left arms items otherwise k arm nodes within is listed same =
      inside_if arms otherwise arm.body nodes
      (arm_below 0 arms otherwise k arm (subst (λ xs. k < length xs) listed within) (subst (λ xs. arm ≡ get_or xs k arm) listed is))
      same

  -- the tree of a template that was found
  pub tree_left : (number : ℕ) (template : Template) (tree : List Node) → levels ≢ 0 → slice_get templates number ≡ Some template → tree ≡ template.tree → left_of (levels - 1) templates (4 * most the_size tree + 4) < left_of levels templates 0
  tree_left number template tree some is same =
      subst (λ nodes. left_of (levels - 1) templates (4 * most the_size nodes + 4) < left_of levels templates 0) (sym same) (level_less levels templates number template some is)

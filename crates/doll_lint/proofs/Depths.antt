-- How much of a set is left to render: its levels of partials, and how deep the parts of a tree are.
use Rattle.std.proofs.Common.{◌≡◌, ◌≢◌, ℕ, zero, suc, ◌+◌, ◌-◌, ◌*◌, ◌<◌, ◌≤◌, List, length, get_or, Some, refl, sym, subst, rules, arith}
use Rattle.std.specs.Prelude.{slice_get}
use Rattle.std.proofs.lemmas.Option.{get_or_from_slice_get, slice_get_within}
use Rattle.doll_erb.proofs.node.Node.TheLaws.{the_size}
use Rattle.doll_erb.proofs.node.Arm.TheLaws.{the_size as arm_size}
use Rattle.doll_erb.specs.declared.node.Arm.{Arm}
use Rattle.doll_erb.specs.declared.node.KeyPart.{KeyPart}
use Rattle.doll_erb.specs.declared.node.Node.{Node, the_lemmas}
use Rattle.doll_erb.specs.declared.node.Node as node
use Rattle.doll_expr.specs.declared.expr.Expr.{Expr}
use Rattle.doll_set.specs.declared.template.Template.{Template}
use denote.Param.Weighed.{most, at_most}

-- how deep the tree of a template is
abbrev pub depth : Template → ℕ
depth template = most the_size template.tree

-- how deep the deepest tree of a set is
unfoldable pub deepest : List Template → ℕ
deepest templates = most depth templates

-- what is left of so many levels and a rest of a tree
unfoldable pub left_of : ℕ → List Template → ℕ → ℕ
left_of levels templates rest = levels * (4 * deepest templates + 4) + rest

-- in one level less is left where less of the tree is
pub less_left : (levels : ℕ) (templates : List Template) (less more : ℕ) → less < more → left_of levels templates less < left_of levels templates more
unfolding left_of
less_left levels templates less more h = omega arith

level_room : (levels deep part : ℕ) → part ≤ deep → levels * (4 * deep + 4) + (4 * part + 3) < suc levels * (4 * deep + 4) + 0
level_room levels deep part below = omega arith

-- the tree of a template is less than a level
pub level_less : (levels : ℕ) (templates : List Template) (number : ℕ) (template : Template) → levels ≢ 0 → slice_get templates number ≡ Some template → left_of (levels - 1) templates (4 * most the_size template.tree + 3) < left_of levels templates 0
unfolding left_of deepest
level_less zero templates number template some is = absurd (some refl)
level_less (suc levels) templates number template some is =
    subst (λ n. n * (4 * most depth templates + 4) + (4 * most the_size template.tree + 3) < suc levels * (4 * most depth templates + 4) + 0) (sym one)
    (level_room levels (most depth templates) (most the_size template.tree) below)
  where
    one : suc levels - 1 ≡ levels
    one = omega arith

    below : most the_size template.tree ≤ most depth templates
    below = subst (λ (t : Template). depth t ≤ most depth templates) (get_or_from_slice_get templates number template template is) (at_most depth templates number template (slice_get_within templates number template is))

-- a node of a list is no deeper than the deepest
pub node_below : (nodes : List Node) (at : ℕ) (one : Node) → at < length nodes → one ≡ get_or nodes at one → the_size one ≤ most the_size nodes
node_below nodes at one within is = subst (λ n. the_size n ≤ most the_size nodes) (sym is) (at_most the_size nodes at one within)

-- the parts of a node are less deep
pub each_below : (at : ℕ) (list : Expr) (name : List ℕ) (body : List Node) → most the_size body < the_size (node.Each at list name body)
each_below at list name body = search (rules, the_lemmas)

pub cache_below : (at block : ℕ) (key : List KeyPart) (body : List Node) → most the_size body < the_size (node.Cache at block key body)
cache_below at block key body = search (rules, the_lemmas)

pub otherwise_below : (at : ℕ) (arms : List Arm) (otherwise : List Node) → most the_size otherwise < the_size (node.If at arms otherwise)
otherwise_below at arms otherwise = search (rules, the_lemmas)

pub arm_below : (at : ℕ) (arms : List Arm) (otherwise : List Node) (k : ℕ) (arm : Arm) → k < length arms → arm ≡ get_or arms k arm → most the_size arm.body < the_size (node.If at arms otherwise)
arm_below at arms otherwise k arm within is = search (rules, the_lemmas)

-- ---- what is left of a part

module _ (levels : ℕ) (templates : List Template) where
  pub node_left : (nodes : List Node) (at : ℕ) (one : Node) → at < length nodes → one ≡ get_or nodes at one → left_of levels templates (4 * the_size one + 2) < left_of levels templates (4 * most the_size nodes + 3)
  node_left nodes at one within is = let below = node_below nodes at one within is in less_left levels templates (4 * the_size one + 2) (4 * most the_size nodes + 3) (omega arith)

  -- a part with nodes that are less deep than the whole
  pub part_left : (part nodes : List Node) (layer whole : Node) (rank : ℕ) → rank < 6 → most the_size part < the_size layer → nodes ≡ part → whole ≡ layer → left_of levels templates (4 * most the_size nodes + rank) < left_of levels templates (4 * the_size whole + 2)
  part_left part nodes layer whole rank low below same is =
      subst (λ n. left_of levels templates (4 * most the_size n + rank) < left_of levels templates (4 * the_size whole + 2)) (sym same)
      (subst (λ w. left_of levels templates (4 * most the_size part + rank) < left_of levels templates (4 * the_size w + 2)) (sym is)
      (less_left levels templates (4 * most the_size part + rank) (4 * the_size layer + 2) (omega arith)))

  pub tag_left : (node : Node) → left_of levels templates 1 < left_of levels templates (4 * the_size node + 2)
  tag_left node = less_left levels templates 1 (4 * the_size node + 2) (omega arith)

  pub partial_left : left_of levels templates 0 < left_of levels templates 1
  partial_left = less_left levels templates 0 1 (omega arith)

  pub body_left : (nodes : List Node) → left_of levels templates (4 * most the_size nodes + 3) < left_of levels templates (4 * most the_size nodes + 4)
  body_left nodes = less_left levels templates (4 * most the_size nodes + 3) (4 * most the_size nodes + 4) (omega arith)

  -- the body of an arm that was found
  pub arm_left : (at : ℕ) (arms items : List Arm) (otherwise : List Node) (k : ℕ) (arm : Arm) (nodes : List Node) (whole : Node) → k < length items → arm ≡ get_or items k arm → items ≡ arms → nodes ≡ arm.body → whole ≡ node.If at arms otherwise → left_of levels templates (4 * most the_size nodes + 3) < left_of levels templates (4 * the_size whole + 2)
  arm_left at arms items otherwise k arm nodes whole within is listed same whole_is =
      part_left arm.body nodes (node.If at arms otherwise) whole 3 (omega arith)
      (arm_below at arms otherwise k arm (subst (λ xs. k < length xs) listed within) (subst (λ xs. arm ≡ get_or xs k arm) listed is))
      same whole_is

  -- the tree of a template that was found
  pub tree_left : (number : ℕ) (template : Template) (tree : List Node) → levels ≢ 0 → slice_get templates number ≡ Some template → tree ≡ template.tree → left_of (levels - 1) templates (4 * most the_size tree + 3) < left_of levels templates 0
  tree_left number template tree some is same =
      subst (λ nodes. left_of (levels - 1) templates (4 * most the_size nodes + 3) < left_of levels templates 0) (sym same) (level_less levels templates number template some is)

-- the arms of an `if` are less deep
pub arms_below : (at : ℕ) (arms : List Arm) (otherwise : List Node) → most arm_size arms < the_size (node.If at arms otherwise)
arms_below at arms otherwise = search (rules, the_lemmas)

-- and the body of each
pub arm_body_below : (arms : List Arm) (k : ℕ) (arm : Arm) → k < length arms → arm ≡ get_or arms k arm → most the_size arm.body < most arm_size arms
arm_body_below arms k arm within is = search (rules, the_lemmas)

module _ (levels : ℕ) (templates : List Template) where
  -- the arms of an `if`, and the body of one of them
  pub arms_left : (at : ℕ) (arms items : List Arm) (otherwise : List Node) (whole : Node) → items ≡ arms → whole ≡ node.If at arms otherwise → left_of levels templates (4 * most arm_size items + 1) < left_of levels templates (4 * the_size whole + 2)
  arms_left at arms items otherwise whole same is =
      let below = arms_below at arms otherwise in
      subst (λ xs. left_of levels templates (4 * most arm_size xs + 1) < left_of levels templates (4 * the_size whole + 2)) (sym same)
      (subst (λ w. left_of levels templates (4 * most arm_size arms + 1) < left_of levels templates (4 * the_size w + 2)) (sym is)
      (less_left levels templates (4 * most arm_size arms + 1) (4 * the_size (node.If at arms otherwise) + 2) (omega (arith, below))))

  pub arm_body_left : (arms : List Arm) (k : ℕ) (arm : Arm) (nodes : List Node) → k < length arms → arm ≡ get_or arms k arm → nodes ≡ arm.body → left_of levels templates (4 * most the_size nodes + 3) < left_of levels templates (4 * most arm_size arms + 1)
  arm_body_left arms k arm nodes within is same =
      let below = arm_body_below arms k arm within is in
      subst (λ n. left_of levels templates (4 * most the_size n + 3) < left_of levels templates (4 * most arm_size arms + 1)) (sym same)
      (less_left levels templates (4 * most the_size arm.body + 3) (4 * most arm_size arms + 1) (omega (arith, below)))

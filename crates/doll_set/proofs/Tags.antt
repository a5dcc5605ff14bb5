-- The tags of nodes with parts are those of their parts.
use Rattle.std.proofs.Common.{◌≡◌, ℕ, List, [], ◌∷◌, ◌++◌, map, refl, ap, sym, ◌∙◌}
use Rattle.std.specs.List.{flat_map}
use Rattle.doll_expr.specs.declared.expr.Expr.{Expr}
use Rattle.doll_erb.specs.declared.node.Node.{Node}
use Rattle.doll_erb.specs.declared.node.Node as node
use Rattle.doll_erb.specs.declared.node.Node.TheFolds.{fold-roll-Node, fold_out-Arm}
use Rattle.doll_erb.specs.declared.node.Node.TheVariants.{rolls-If, rolls-Each, rolls-Cache}
use Rattle.doll_erb.specs.declared.node.Node.TheOpen.{Node-F}
use Rattle.doll_erb.specs.declared.node.Arm.{Arm, fold-Arm}
use Rattle.doll_erb.specs.declared.node.KeyPart.{KeyPart}
use Rattle.doll_set.specs.Dependencies.{joined, tags_step, arm_tags, node_tags, tags_of}
use Rattle.doll_set.specs.declared.dependencies.PartialTag.{PartialTag}

by_step : (layer : Node-F Node Arm) (whole : Node) → node.roll-Node layer ≡ whole → node_tags whole ≡ node_tags (node.roll-Node layer)
by_step layer whole rolls = ap node_tags (sym rolls)

parts : (body : List Node) → joined (map node_tags body) ≡ tags_of body
parts [] = refl
parts (one ∷ more) = ap (λ found. node_tags one ++ found) (parts more)

-- the tags of the arms of an `if`
abbrev pub arms_tags : List Arm → List PartialTag
arms_tags arms = flat_map (λ (arm : Arm). tags_of arm.body) arms

arms_parts : (arms : List Arm) → joined (map (fold-Arm (List PartialTag) (List PartialTag) tags_step arm_tags) arms) ≡ arms_tags arms
arms_parts [] = refl
arms_parts (arm ∷ arms) =
    ap (λ found. found ++ joined (map (fold-Arm (List PartialTag) (List PartialTag) tags_step arm_tags) arms)) (fold_out-Arm (List PartialTag) (List PartialTag) tags_step arm_tags arm ∙ parts arm.body)
    ∙ ap (λ found. tags_of arm.body ++ found) (arms_parts arms)

pub if_tags : (at : ℕ) (arms : List Arm) (otherwise : List Node) → node_tags (node.If at arms otherwise) ≡ arms_tags arms ++ tags_of otherwise
if_tags at arms otherwise =
    by_step (Node-F.If at arms otherwise) (node.If at arms otherwise) (rolls-If at arms otherwise)
    ∙ fold-roll-Node (List PartialTag) (List PartialTag) tags_step arm_tags (Node-F.If at arms otherwise)
    ∙ ap (λ found. found ++ joined (map node_tags otherwise)) (arms_parts arms)
    ∙ ap (λ found. arms_tags arms ++ found) (parts otherwise)

pub each_tags : (at : ℕ) (list : Expr) (name : List ℕ) (body : List Node) → node_tags (node.Each at list name body) ≡ tags_of body
each_tags at list name body =
    by_step (Node-F.Each at list name body) (node.Each at list name body) (rolls-Each at list name body)
    ∙ fold-roll-Node (List PartialTag) (List PartialTag) tags_step arm_tags (Node-F.Each at list name body)
    ∙ parts body

pub cache_tags : (at block : ℕ) (key : List KeyPart) (body : List Node) → node_tags (node.Cache at block key body) ≡ tags_of body
cache_tags at block key body =
    by_step (Node-F.Cache at block key body) (node.Cache at block key body) (rolls-Cache at block key body)
    ∙ fold-roll-Node (List PartialTag) (List PartialTag) tags_step arm_tags (Node-F.Cache at block key body)
    ∙ parts body

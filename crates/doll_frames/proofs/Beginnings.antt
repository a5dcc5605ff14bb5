-- A part of a template begins where no frame says how far it came.
use Rattle.std.proofs.Common.{◌≡◌, ℕ, Bool, false, List, [], ◌∷◌, refl}
use Rattle.doll_expr.specs.declared.expr.Expr.{Expr}
use Rattle.doll_erb.specs.declared.node.Arm.{Arm}
use Rattle.doll_erb.specs.declared.node.KeyPart.{KeyPart}
use Rattle.doll_erb.specs.declared.node.Local.{Local}
use Rattle.doll_erb.specs.declared.node.Node.{Node}
use Rattle.doll_plain.specs.Direct.{Variables}
use Rattle.doll_types.specs.Types.{Typing}
use Rattle.doll_run.specs.Pages.{Ground}
use Rattle.doll_frames.specs.Left.{block_left, collection_left, each_left, if_left, left, nodes_left, render_left}
use Rattle.doll_frames.specs.Stacks.{Given, first_is, is_arm, is_block, is_collection, is_item, is_node, is_partial}
use Rattle.doll_frames.specs.declared.frame.Frame.{Frame}
use Rattle.doll_frames.specs.declared.frame.Frame.TheVariants as frame

module _ (over : Ground) (levels number : ℕ) (typing : Typing) (vars : Variables) (given : Given) where
  pub nodes_begin : (nodes : List Node) (frames : List Frame) → first_is is_node frames ≡ false → nodes_left over levels number nodes typing vars given frames ≡ nodes_left over levels number nodes typing vars given []
  unfolding left
  nodes_begin nodes [] other = refl
  nodes_begin nodes (frame.Node at ∷ frames) other = absurd (cc other)
  nodes_begin nodes (frame.Arm place ∷ frames) other = refl
  nodes_begin nodes (frame.Item walk ∷ frames) other = refl
  nodes_begin nodes (frame.Asked key ∷ frames) other = refl
  nodes_begin nodes (frame.Body key written ∷ frames) other = refl
  nodes_begin nodes (frame.Behind ∷ frames) other = refl
  nodes_begin nodes (frame.Partial partial scope ∷ frames) other = refl
  nodes_begin nodes (frame.Member partial walk ∷ frames) other = refl
  nodes_begin nodes (frame.AskedMany kept ∷ frames) other = refl
  nodes_begin nodes (frame.Missed kept written ∷ frames) other = refl
  nodes_begin nodes (frame.HandedIn kept ∷ frames) other = refl

  pub if_begin : (arms : List Arm) (otherwise : List Node) (frames : List Frame) → first_is is_arm frames ≡ false → if_left over levels number arms otherwise typing vars given frames ≡ if_left over levels number arms otherwise typing vars given []
  unfolding if_left left
  if_begin arms otherwise [] other = refl
  if_begin arms otherwise (frame.Node at ∷ frames) other = refl
  if_begin arms otherwise (frame.Arm place ∷ frames) other = absurd (cc other)
  if_begin arms otherwise (frame.Item walk ∷ frames) other = refl
  if_begin arms otherwise (frame.Asked key ∷ frames) other = refl
  if_begin arms otherwise (frame.Body key written ∷ frames) other = refl
  if_begin arms otherwise (frame.Behind ∷ frames) other = refl
  if_begin arms otherwise (frame.Partial partial scope ∷ frames) other = refl
  if_begin arms otherwise (frame.Member partial walk ∷ frames) other = refl
  if_begin arms otherwise (frame.AskedMany kept ∷ frames) other = refl
  if_begin arms otherwise (frame.Missed kept written ∷ frames) other = refl
  if_begin arms otherwise (frame.HandedIn kept ∷ frames) other = refl

  pub each_begin : (list : Expr) (name : List ℕ) (body : List Node) (frames : List Frame) → first_is is_item frames ≡ false → each_left over levels number list name body typing vars given frames ≡ each_left over levels number list name body typing vars given []
  unfolding each_left left
  each_begin list name body [] other = refl
  each_begin list name body (frame.Node at ∷ frames) other = refl
  each_begin list name body (frame.Arm place ∷ frames) other = refl
  each_begin list name body (frame.Item walk ∷ frames) other = absurd (cc other)
  each_begin list name body (frame.Asked key ∷ frames) other = refl
  each_begin list name body (frame.Body key written ∷ frames) other = refl
  each_begin list name body (frame.Behind ∷ frames) other = refl
  each_begin list name body (frame.Partial partial scope ∷ frames) other = refl
  each_begin list name body (frame.Member partial walk ∷ frames) other = refl
  each_begin list name body (frame.AskedMany kept ∷ frames) other = refl
  each_begin list name body (frame.Missed kept written ∷ frames) other = refl
  each_begin list name body (frame.HandedIn kept ∷ frames) other = refl

  pub block_begin : (block : ℕ) (parts : List KeyPart) (body : List Node) (frames : List Frame) → first_is is_block frames ≡ false → block_left over levels number block parts body typing vars given frames ≡ block_left over levels number block parts body typing vars given []
  unfolding block_left left
  block_begin block parts body [] other = refl
  block_begin block parts body (frame.Node at ∷ frames) other = refl
  block_begin block parts body (frame.Arm place ∷ frames) other = refl
  block_begin block parts body (frame.Item walk ∷ frames) other = refl
  block_begin block parts body (frame.Asked key ∷ frames) other = absurd (cc other)
  block_begin block parts body (frame.Body key written ∷ frames) other = absurd (cc other)
  block_begin block parts body (frame.Behind ∷ frames) other = absurd (cc other)
  block_begin block parts body (frame.Partial partial scope ∷ frames) other = refl
  block_begin block parts body (frame.Member partial walk ∷ frames) other = refl
  block_begin block parts body (frame.AskedMany kept ∷ frames) other = refl
  block_begin block parts body (frame.Missed kept written ∷ frames) other = refl
  block_begin block parts body (frame.HandedIn kept ∷ frames) other = refl

  pub render_begin : (name : List ℕ) (locals : List Local) (frames : List Frame) → first_is is_partial frames ≡ false → render_left over levels number name locals typing vars given frames ≡ render_left over levels number name locals typing vars given []
  unfolding render_left left
  render_begin name locals [] other = refl
  render_begin name locals (frame.Node at ∷ frames) other = refl
  render_begin name locals (frame.Arm place ∷ frames) other = refl
  render_begin name locals (frame.Item walk ∷ frames) other = refl
  render_begin name locals (frame.Asked key ∷ frames) other = refl
  render_begin name locals (frame.Body key written ∷ frames) other = refl
  render_begin name locals (frame.Behind ∷ frames) other = refl
  render_begin name locals (frame.Partial partial scope ∷ frames) other = absurd (cc other)
  render_begin name locals (frame.Member partial walk ∷ frames) other = refl
  render_begin name locals (frame.AskedMany kept ∷ frames) other = refl
  render_begin name locals (frame.Missed kept written ∷ frames) other = refl
  render_begin name locals (frame.HandedIn kept ∷ frames) other = refl

  pub collection_begin : (name : List ℕ) (list : Expr) (item : List ℕ) (cached : Bool) (frames : List Frame) → first_is is_collection frames ≡ false → collection_left over levels number name list item cached typing vars given frames ≡ collection_left over levels number name list item cached typing vars given []
  unfolding collection_left left
  collection_begin name list item cached [] other = refl
  collection_begin name list item cached (frame.Node at ∷ frames) other = refl
  collection_begin name list item cached (frame.Arm place ∷ frames) other = refl
  collection_begin name list item cached (frame.Item walk ∷ frames) other = refl
  collection_begin name list item cached (frame.Asked key ∷ frames) other = refl
  collection_begin name list item cached (frame.Body key written ∷ frames) other = refl
  collection_begin name list item cached (frame.Behind ∷ frames) other = refl
  collection_begin name list item cached (frame.Partial partial scope ∷ frames) other = refl
  collection_begin name list item cached (frame.Member partial walk ∷ frames) other = absurd (cc other)
  collection_begin name list item cached (frame.AskedMany kept ∷ frames) other = absurd (cc other)
  collection_begin name list item cached (frame.Missed kept written ∷ frames) other = absurd (cc other)
  collection_begin name list item cached (frame.HandedIn kept ∷ frames) other = absurd (cc other)

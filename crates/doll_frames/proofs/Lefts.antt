-- What is left of nodes, by what is left of their parts.
use Rattle.std.proofs.Common.{◌≡◌, ℕ, suc, ◌+◌, ◌<◌, ◌≤◌, Bool, true, false, List, [], ◌∷◌, map, drop, length, get_or, None, Some, refl, ap, sym, ◌∙◌, arith, rules, drop-cons}
use Rattle.std.specs.Prelude.{slice_get}
use Rattle.std.proofs.lemmas.List.{drop_all}
use Rattle.doll_expr.specs.declared.expr.Expr.{Expr}
use Rattle.doll_erb.specs.declared.node.Arm.{Arm, fold-Arm}
use Rattle.doll_erb.specs.declared.node.KeyPart.{KeyPart}
use Rattle.doll_erb.specs.declared.node.Local.{Local}
use Rattle.doll_erb.specs.declared.node.Node.{Node, out-Node, the_lemmas}
use Rattle.doll_erb.specs.declared.node.Node as node
use Rattle.doll_erb.specs.declared.node.Node.TheFolds.{fold-roll-Node, fold_out-Arm}
use Rattle.doll_erb.specs.declared.node.Node.TheOpen.{Node-F}
use Rattle.doll_erb.specs.declared.node.Node.TheVariants.{rolls-Cache, rolls-Collection, rolls-Depends, rolls-Each, rolls-If, rolls-Raw, rolls-Render, rolls-Text, rolls-Write}
use Rattle.doll_eval.specs.Operations as of
use Rattle.doll_plain.specs.Direct.{Variables}
use Rattle.doll_types.specs.Types.{Typing}
use Rattle.doll_run.specs.Pages.{Ground}
use Rattle.doll_run.specs.Rendering.{Choice, Runs, Stage, after_looks, after_text, arm_step, chosen, looks_on, node_runs, run_step, tree_runs, value_on}
use Rattle.doll_run.specs.Runs.{Rest}
use Rattle.doll_frames.specs.Left.{block_anew, block_left, choice, collection_anew, collection_left, each_anew, each_left, if_anew, if_left, left, node_by, node_left, nodes_left, render_anew, render_left, stage_at, with_node}
use Rattle.doll_frames.specs.Stacks.{Given}
use Rattle.doll_frames.specs.declared.frame.Frame.{Frame}
use Rattle.doll_frames.specs.declared.frame.Frame.TheVariants as frame

-- ---- nodes that begin

module _ (stage : Stage) (typing : Typing) (vars : Variables) where
  by_step : (layer : Node-F Node Arm) (whole : Node) → node.roll-Node layer ≡ whole → node_runs stage whole typing vars ≡ node_runs stage (node.roll-Node layer) typing vars
  by_step layer whole rolls = ap (λ n. node_runs stage n typing vars) (sym rolls)

  choices : (arms : List Arm) → map (fold-Arm Runs Choice (run_step stage) arm_step) arms ≡ map (choice stage) arms
  choices [] = refl
  choices (arm ∷ arms) =
      ap (λ c. c ∷ map (fold-Arm Runs Choice (run_step stage) arm_step) arms) (fold_out-Arm Runs Choice (run_step stage) arm_step arm)
      ∙ ap (λ cs. choice stage arm ∷ cs) (choices arms)

  pub text_runs : (text : List ℕ) → node_runs stage (node.Text text) typing vars ≡ (λ rest. after_text text rest)
  text_runs text = by_step (Node-F.Text text) (node.Text text) (rolls-Text text) ∙ ap (λ (f : Runs). f typing vars) (fold-roll-Node Runs Choice (run_step stage) arm_step (Node-F.Text text))

  pub write_runs : (at : ℕ) (expr : Expr) → node_runs stage (node.Write at expr) typing vars ≡ (λ rest. after_looks (looks_on stage expr vars) (after_text (of.written false (value_on stage expr vars)) rest))
  write_runs at expr = by_step (Node-F.Write at expr) (node.Write at expr) (rolls-Write at expr) ∙ ap (λ (f : Runs). f typing vars) (fold-roll-Node Runs Choice (run_step stage) arm_step (Node-F.Write at expr))

  pub raw_runs : (at : ℕ) (expr : Expr) → node_runs stage (node.Raw at expr) typing vars ≡ (λ rest. after_looks (looks_on stage expr vars) (after_text (of.written true (value_on stage expr vars)) rest))
  raw_runs at expr = by_step (Node-F.Raw at expr) (node.Raw at expr) (rolls-Raw at expr) ∙ ap (λ (f : Runs). f typing vars) (fold-roll-Node Runs Choice (run_step stage) arm_step (Node-F.Raw at expr))

  pub depends_runs : (at : ℕ) (name : List ℕ) → node_runs stage (node.Depends at name) typing vars ≡ (λ rest. rest)
  depends_runs at name = by_step (Node-F.Depends at name) (node.Depends at name) (rolls-Depends at name) ∙ ap (λ (f : Runs). f typing vars) (fold-roll-Node Runs Choice (run_step stage) arm_step (Node-F.Depends at name))

  if_runs : (at : ℕ) (arms : List Arm) (otherwise : List Node) → node_runs stage (node.If at arms otherwise) typing vars ≡ if_anew stage arms otherwise typing vars
  if_runs at arms otherwise =
      by_step (Node-F.If at arms otherwise) (node.If at arms otherwise) (rolls-If at arms otherwise)
      ∙ ap (λ (f : Runs). f typing vars) (fold-roll-Node Runs Choice (run_step stage) arm_step (Node-F.If at arms otherwise))
      ∙ ap (λ cs. chosen stage cs (tree_runs stage otherwise) typing vars) (choices arms)

  each_runs : (at : ℕ) (list : Expr) (name : List ℕ) (body : List Node) → node_runs stage (node.Each at list name body) typing vars ≡ each_anew stage list name body typing vars
  each_runs at list name body =
      by_step (Node-F.Each at list name body) (node.Each at list name body) (rolls-Each at list name body)
      ∙ ap (λ (f : Runs). f typing vars) (fold-roll-Node Runs Choice (run_step stage) arm_step (Node-F.Each at list name body))

  block_runs : (at block : ℕ) (key : List KeyPart) (body : List Node) → node_runs stage (node.Cache at block key body) typing vars ≡ block_anew stage block key body typing vars
  block_runs at block key body =
      by_step (Node-F.Cache at block key body) (node.Cache at block key body) (rolls-Cache at block key body)
      ∙ ap (λ (f : Runs). f typing vars) (fold-roll-Node Runs Choice (run_step stage) arm_step (Node-F.Cache at block key body))

  render_runs : (at : ℕ) (name : List ℕ) (locals : List Local) → node_runs stage (node.Render at name locals) typing vars ≡ render_anew stage name locals typing vars
  render_runs at name locals =
      by_step (Node-F.Render at name locals) (node.Render at name locals) (rolls-Render at name locals)
      ∙ ap (λ (f : Runs). f typing vars) (fold-roll-Node Runs Choice (run_step stage) arm_step (Node-F.Render at name locals))

  collection_runs : (at : ℕ) (name : List ℕ) (list : Expr) (item : List ℕ) (cached : Bool) → node_runs stage (node.Collection at name list item cached) typing vars ≡ collection_anew stage name list item cached typing vars
  collection_runs at name list item cached =
      by_step (Node-F.Collection at name list item cached) (node.Collection at name list item cached) (rolls-Collection at name list item cached)
      ∙ ap (λ (f : Runs). f typing vars) (fold-roll-Node Runs Choice (run_step stage) arm_step (Node-F.Collection at name list item cached))

-- ---- opened nodes

open_text : (text : List ℕ) → out-Node (node.Text text) ≡ Node-F.Text text
open_text text = search (rules, the_lemmas)

open_write : (at : ℕ) (expr : Expr) → out-Node (node.Write at expr) ≡ Node-F.Write at expr
open_write at expr = search (rules, the_lemmas)

open_raw : (at : ℕ) (expr : Expr) → out-Node (node.Raw at expr) ≡ Node-F.Raw at expr
open_raw at expr = search (rules, the_lemmas)

open_if : (at : ℕ) (arms : List Arm) (otherwise : List Node) → out-Node (node.If at arms otherwise) ≡ Node-F.If at arms otherwise
open_if at arms otherwise = search (rules, the_lemmas)

open_each : (at : ℕ) (list : Expr) (name : List ℕ) (body : List Node) → out-Node (node.Each at list name body) ≡ Node-F.Each at list name body
open_each at list name body = search (rules, the_lemmas)

open_cache : (at block : ℕ) (key : List KeyPart) (body : List Node) → out-Node (node.Cache at block key body) ≡ Node-F.Cache at block key body
open_cache at block key body = search (rules, the_lemmas)

open_render : (at : ℕ) (name : List ℕ) (locals : List Local) → out-Node (node.Render at name locals) ≡ Node-F.Render at name locals
open_render at name locals = search (rules, the_lemmas)

open_collection : (at : ℕ) (name : List ℕ) (list : Expr) (item : List ℕ) (cached : Bool) → out-Node (node.Collection at name list item cached) ≡ Node-F.Collection at name list item cached
open_collection at name list item cached = search (rules, the_lemmas)

open_depends : (at : ℕ) (name : List ℕ) → out-Node (node.Depends at name) ≡ Node-F.Depends at name
open_depends at name = search (rules, the_lemmas)

-- ---- what is left of nodes

module _ (over : Ground) (levels number : ℕ) (typing : Typing) (vars : Variables) where
  abbrev stage : Stage
  stage = stage_at over levels number

  opened : (one : Node) (layer : Node-F Node Arm) (given : Given) (f : Frame) (frames : List Frame) → out-Node one ≡ layer
      → node_left over levels number one typing vars given (f ∷ frames) ≡ node_by over given (left over given frames) f levels number layer (node_runs stage one) typing vars
  unfolding left
  opened one layer given f frames is = ap (λ l. node_by over given (left over given frames) f levels number l (node_runs stage one) typing vars) is

  pub text_left : (text : List ℕ) (given : Given) (frames : List Frame) → node_left over levels number (node.Text text) typing vars given frames ≡ (λ rest. after_text text rest)
  unfolding left
  text_left text given [] = text_runs stage typing vars text
  text_left text given (f ∷ frames) = opened (node.Text text) (Node-F.Text text) given f frames (open_text text) ∙ text_runs stage typing vars text

  pub write_left : (at : ℕ) (expr : Expr) (given : Given) (frames : List Frame) → node_left over levels number (node.Write at expr) typing vars given frames ≡ (λ rest. after_looks (looks_on stage expr vars) (after_text (of.written false (value_on stage expr vars)) rest))
  unfolding left
  write_left at expr given [] = write_runs stage typing vars at expr
  write_left at expr given (f ∷ frames) = opened (node.Write at expr) (Node-F.Write at expr) given f frames (open_write at expr) ∙ write_runs stage typing vars at expr

  pub raw_left : (at : ℕ) (expr : Expr) (given : Given) (frames : List Frame) → node_left over levels number (node.Raw at expr) typing vars given frames ≡ (λ rest. after_looks (looks_on stage expr vars) (after_text (of.written true (value_on stage expr vars)) rest))
  unfolding left
  raw_left at expr given [] = raw_runs stage typing vars at expr
  raw_left at expr given (f ∷ frames) = opened (node.Raw at expr) (Node-F.Raw at expr) given f frames (open_raw at expr) ∙ raw_runs stage typing vars at expr

  pub depends_left : (at : ℕ) (name : List ℕ) (given : Given) (frames : List Frame) → node_left over levels number (node.Depends at name) typing vars given frames ≡ (λ rest. rest)
  unfolding left
  depends_left at name given [] = depends_runs stage typing vars at name
  depends_left at name given (f ∷ frames) = opened (node.Depends at name) (Node-F.Depends at name) given f frames (open_depends at name) ∙ depends_runs stage typing vars at name

  if_layer : (at : ℕ) (arms : List Arm) (otherwise : List Node) (given : Given) (frames : List Frame) → node_left over levels number (node.If at arms otherwise) typing vars given frames ≡ if_left over levels number arms otherwise typing vars given frames
  unfolding left if_left
  if_layer at arms otherwise given [] = if_runs stage typing vars at arms otherwise
  if_layer at arms otherwise given (f ∷ frames) = opened (node.If at arms otherwise) (Node-F.If at arms otherwise) given f frames (open_if at arms otherwise)

  each_layer : (at : ℕ) (list : Expr) (name : List ℕ) (body : List Node) (given : Given) (frames : List Frame) → node_left over levels number (node.Each at list name body) typing vars given frames ≡ each_left over levels number list name body typing vars given frames
  unfolding left each_left
  each_layer at list name body given [] = each_runs stage typing vars at list name body
  each_layer at list name body given (f ∷ frames) = opened (node.Each at list name body) (Node-F.Each at list name body) given f frames (open_each at list name body)

  block_layer : (at block : ℕ) (key : List KeyPart) (body : List Node) (given : Given) (frames : List Frame) → node_left over levels number (node.Cache at block key body) typing vars given frames ≡ block_left over levels number block key body typing vars given frames
  unfolding left block_left
  block_layer at block key body given [] = block_runs stage typing vars at block key body
  block_layer at block key body given (f ∷ frames) = opened (node.Cache at block key body) (Node-F.Cache at block key body) given f frames (open_cache at block key body)

  render_layer : (at : ℕ) (name : List ℕ) (locals : List Local) (given : Given) (frames : List Frame) → node_left over levels number (node.Render at name locals) typing vars given frames ≡ render_left over levels number name locals typing vars given frames
  unfolding left render_left
  render_layer at name locals given [] = render_runs stage typing vars at name locals
  render_layer at name locals given (f ∷ frames) = opened (node.Render at name locals) (Node-F.Render at name locals) given f frames (open_render at name locals)

  collection_layer : (at : ℕ) (name : List ℕ) (list : Expr) (item : List ℕ) (cached : Bool) (given : Given) (frames : List Frame) → node_left over levels number (node.Collection at name list item cached) typing vars given frames ≡ collection_left over levels number name list item cached typing vars given frames
  unfolding left collection_left
  collection_layer at name list item cached given [] = collection_runs stage typing vars at name list item cached
  collection_layer at name list item cached given (f ∷ frames) = opened (node.Collection at name list item cached) (Node-F.Collection at name list item cached) given f frames (open_collection at name list item cached)

  -- the same whatever is answered and whichever frames there are
  pub if_node : (at : ℕ) (arms : List Arm) (otherwise : List Node) → node_left over levels number (node.If at arms otherwise) typing vars ≡ if_left over levels number arms otherwise typing vars
  if_node at arms otherwise = λ i given frames. if_layer at arms otherwise given frames i

  pub each_node : (at : ℕ) (list : Expr) (name : List ℕ) (body : List Node) → node_left over levels number (node.Each at list name body) typing vars ≡ each_left over levels number list name body typing vars
  each_node at list name body = λ i given frames. each_layer at list name body given frames i

  pub block_node : (at block : ℕ) (key : List KeyPart) (body : List Node) → node_left over levels number (node.Cache at block key body) typing vars ≡ block_left over levels number block key body typing vars
  block_node at block key body = λ i given frames. block_layer at block key body given frames i

  pub render_node : (at : ℕ) (name : List ℕ) (locals : List Local) → node_left over levels number (node.Render at name locals) typing vars ≡ render_left over levels number name locals typing vars
  render_node at name locals = λ i given frames. render_layer at name locals given frames i

  pub collection_node : (at : ℕ) (name : List ℕ) (list : Expr) (item : List ℕ) (cached : Bool) → node_left over levels number (node.Collection at name list item cached) typing vars ≡ collection_left over levels number name list item cached typing vars
  collection_node at name list item cached = λ i given frames. collection_layer at name list item cached given frames i

  -- ---- lists of nodes

  -- what follows a node of a list
  abbrev pub behind : List Node → ℕ → Rest → Rest
  behind nodes at = tree_runs stage (drop (at + 1) nodes) typing vars

  pub nodes_in : (nodes : List Node) (at : ℕ) (one : Node) (frames : List Frame) → slice_get nodes at ≡ Some one
      → ◌≡◌ {A = Given → Rest → Rest} (λ given. nodes_left over levels number nodes typing vars given (frame.Node at ∷ frames)) (λ given rest. node_left over levels number one typing vars given frames (behind nodes at rest))
  unfolding left
  nodes_in nodes at one frames is = ap (λ o. λ (given : Given) (rest : Rest). with_node o (λ n. (left over given frames).node levels number n typing vars) (behind nodes at rest)) is

  pub nodes_past : (nodes : List Node) (at : ℕ) (given : Given) (frames : List Frame) → slice_get nodes at ≡ None → length nodes ≤ at → nodes_left over levels number nodes typing vars given (frame.Node at ∷ frames) ≡ (λ rest. rest)
  unfolding left
  nodes_past nodes at given frames is past =
      ap (λ o. λ (rest : Rest). with_node o (λ n. (left over given frames).node levels number n typing vars) (behind nodes at rest)) is
      ∙ ap (λ ns. tree_runs stage ns typing vars) (drop_all (at + 1) nodes (omega (arith, past)))

  pub behind_here : (nodes : List Node) (at : ℕ) (one : Node) → at < length nodes → one ≡ get_or nodes at one → tree_runs stage (drop at nodes) typing vars ≡ (λ rest. node_runs stage one typing vars (behind nodes at rest))
  behind_here nodes at one within is =
      ap (λ ns. tree_runs stage ns typing vars) (drop-cons nodes at one within ∙ ap (λ n. n ∷ drop (suc at) nodes) (sym is) ∙ ap (λ n. one ∷ drop n nodes) after)
    where
      after : suc at ≡ at + 1
      after = omega arith

  pub behind_last : (nodes : List Node) (at : ℕ) → length nodes ≤ at → tree_runs stage (drop at nodes) typing vars ≡ (λ rest. rest)
  behind_last nodes at past = ap (λ ns. tree_runs stage ns typing vars) (drop_all at nodes past)

  -- no frame is left
  pub node_anew : (one : Node) (given : Given) → node_left over levels number one typing vars given [] ≡ node_runs stage one typing vars
  unfolding left
  node_anew one given = refl

  pub nodes_anew : (nodes : List Node) (given : Given) → nodes_left over levels number nodes typing vars given [] ≡ tree_runs stage nodes typing vars
  unfolding left
  nodes_anew nodes given = refl

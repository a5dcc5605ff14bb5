-- What is left of a rendering that stopped: what its frames mean (this project's own).
use Rattle.std.specs.Prelude.{ℕ, zero, suc, ◌+◌, Bool, true, List, [], ◌∷◌, ◌++◌, drop, map, slice_get, Option, None, Some}
use Rattle.doll_expr.specs.declared.expr.Expr.{Expr}
use Rattle.doll_schema.specs.declared.value.Val.{Val}
use Rattle.doll_schema.specs.declared.value.Val.TheVariants as val
use Rattle.doll_erb.specs.declared.node.Arm.{Arm}
use Rattle.doll_erb.specs.declared.node.KeyPart.{KeyPart}
use Rattle.doll_erb.specs.declared.node.Local.{Local}
use Rattle.doll_erb.specs.declared.node.Node.{Node, out-Node}
use Rattle.doll_erb.specs.declared.node.Node.TheOpen.{Node-F}
use Rattle.doll_set.specs.Sets.{tree_at}
use Rattle.doll_plain.specs.Direct.{Variables, items_of}
use Rattle.doll_types.specs.declared.types.ValueType.{ValueType}
use Rattle.doll_types.specs.Findings.{items_type, locals_typing}
use Rattle.doll_types.specs.Types.{Typing}
use Rattle.doll_lint.specs.Blocks.{item_number}
use Rattle.doll_entry.specs.declared.entry.Fresh.{Fresh}
use Rattle.doll_run.specs.Pages.{Ground, levels_run, stage_in}
use Rattle.doll_run.specs.Rendering.{Choice, Keyed, Runs, Stage, after_looks, answers_to, block_run, chosen, collection_run, for_each, found_or, fresh, locals_looks, locals_on, looks_on, node_runs, only, tree_runs, value_on, with_partial, with_type}
use Rattle.doll_run.specs.Runs.{Rest, Writes}
use Rattle.doll_frames.specs.Arms.{arm_body}
use Rattle.doll_frames.specs.Stacks.{Given, fragments}
use Rattle.doll_frames.specs.Walks.{items_left}
use Rattle.doll_frames.specs.declared.frame.Frame.{Frame}
use Rattle.doll_frames.specs.declared.frame.Frame.TheVariants as frame
use Rattle.doll_frames.specs.declared.frame.Kept.{Kept}
use Rattle.doll_frames.specs.declared.frame.KeptItem.{KeptItem}
use Rattle.doll_frames.specs.declared.keys.BlockKey.{BlockKey}
use Rattle.doll_frames.specs.declared.walk.Walk.{Walk}

-- ---- parts

-- what the template with a number is rendered over, with so many levels of partials below it
abbrev pub stage_at : Ground → ℕ → ℕ → Stage
stage_at over levels number = stage_in over (levels_run over levels) number

-- a key that is kept
abbrev pub kept_key : BlockKey → Keyed
kept_key key = record { text = key.text; versions = key.versions; looks = 0; is_key = true }

-- what is made of the bytes of a block
abbrev pub made : Ground → ℕ → ℕ → BlockKey → Variables → List ℕ → Fresh
made over template block key vars = fresh over.tree over.moment template block (kept_key key) vars

-- a node of a list, where it is there
abbrev pub with_node : Option Node → (Node → Rest → Rest) → Rest → Rest
with_node (Some one) run rest = run one rest
with_node None run rest = rest

-- the first of these goes on, the others begin
abbrev pub resumed : {X : Type 0} → (X → Rest → Rest) → (X → Rest → Rest) → List X → Rest → Rest
resumed here each [] rest = rest
resumed here each (x ∷ xs) rest = here x (for_each each xs rest)

-- the body of a block of which so much is written goes on; then it is handed in and stands behind what was written before it
abbrev pub body_left : (Rest → Rest) → (List ℕ → Fresh) → List ℕ → Rest → Rest
body_left run made written rest looks out = run (λ more inner. Writes more (made inner) (rest 0 (out ++ inner))) looks written

-- ---- frames

-- what is left of a list of nodes, and of a node, of the template with a number, with so many levels below it
pub record Left : Type 0 where
  pub nodes : ℕ → ℕ → List Node → Runs
  pub node : ℕ → ℕ → Node → Runs

-- with no frame they begin
abbrev pub anew : Ground → Left
anew over = record {
  nodes = λ levels number nodes. tree_runs (stage_at over levels number) nodes;
  node = λ levels number one. node_runs (stage_at over levels number) one;
}

-- what is left of a template by so many levels
abbrev pub template_left : Ground → Left → ℕ → ℕ → Runs
template_left over inside zero number typing vars rest = rest
template_left over inside (suc levels) number typing vars rest = inside.nodes levels number (tree_at over.templates number) typing vars rest

-- the variable of an item, with its type
abbrev pub typed : List ℕ → ValueType → Typing
typed name of = (name, of) ∷ []

abbrev pub kept_value : Kept → KeptItem → Val
kept_value kept item = val.Record kept.model item.id

-- an item of a cached collection of which this was found
abbrev pub kept_run : Ground → ℕ → List ℕ → Kept → KeptItem × Option (List ℕ) → Rest → Rest
kept_run over levels name kept one =
    found_or one.1 (levels_run over levels kept.partial (typed name kept.of) (only name (kept_value kept one.0)))
    (made over kept.partial item_number one.0.key (only name (kept_value kept one.0)))

-- the items that weren't passed, with what was found of them
abbrev pub kept_left : Kept → List (Option (List ℕ)) → List (KeptItem × Option (List ℕ))
kept_left kept found = drop kept.at (answers_to kept.items found)

-- an item that missed goes on
abbrev pub missed_run : Ground → Left → ℕ → List ℕ → Kept → List ℕ → KeptItem × Option (List ℕ) → Rest → Rest
missed_run over inside levels name kept written one =
    body_left (template_left over inside levels kept.partial (typed name kept.of) (only name (kept_value kept one.0)))
    (made over kept.partial item_number one.0.key (only name (kept_value kept one.0))) written

-- ---- nodes that begin

-- an arm, by the body that it runs
abbrev pub choice : Stage → Arm → Choice
choice stage arm = record { test = arm.test; runs = tree_runs stage arm.body }

abbrev pub if_anew : Stage → List Arm → List Node → Runs
if_anew stage arms otherwise = chosen stage (map (choice stage) arms) (tree_runs stage otherwise)

-- a body with an item under a name
abbrev pub body_with : Stage → List Node → List ℕ → Typing → Variables → ValueType → Val → Rest → Rest
body_with stage body name typing vars of item = tree_runs stage body (typing ++ typed name of) (vars ++ only name item)

abbrev pub each_anew : Stage → Expr → List ℕ → List Node → Runs
each_anew stage list name body typing vars rest =
    after_looks (looks_on stage list vars)
    (with_type (items_type stage.schema typing list) (λ of. for_each (body_with stage body name typing vars of) (items_of (value_on stage list vars))) rest)

abbrev pub block_anew : Stage → ℕ → List KeyPart → List Node → Runs
block_anew stage block key body typing vars rest =
    block_run stage stage.template block (stage.keyed stage.template typing key vars) vars (tree_runs stage body typing vars) rest

abbrev pub render_anew : Stage → List ℕ → List Local → Runs
render_anew stage name locals typing vars rest =
    after_looks (locals_looks stage locals vars)
    (with_type (locals_typing stage.schema typing locals)
    (λ types. with_partial (stage.partial name) (λ partial. stage.runs partial types (locals_on stage locals vars))) rest)

abbrev pub collection_anew : Stage → List ℕ → Expr → List ℕ → Bool → Runs
collection_anew stage name list item cached typing vars rest =
    after_looks (looks_on stage list vars)
    (with_type (items_type stage.schema typing list)
    (λ of. with_partial (stage.partial name) (λ partial. collection_run stage cached partial item of (items_of (value_on stage list vars)))) rest)

-- ---- what a frame says of what it stands in, by what those further inside say of its parts; a frame of another kind says nothing

abbrev pub if_by : Ground → Left → Frame → ℕ → ℕ → List Arm → List Node → Runs
if_by over inside (frame.Arm place) levels number arms otherwise = inside.nodes levels number (arm_body arms otherwise place)
if_by over inside other levels number arms otherwise = if_anew (stage_at over levels number) arms otherwise

-- the body of an `each` with the items that weren't passed
abbrev pub walk_left : Ground → Left → ℕ → ℕ → List ℕ → List Node → Walk → Runs
walk_left over inside levels number name body walk typing vars rest =
    resumed (λ item. inside.nodes levels number body (typing ++ typed name walk.of) (vars ++ only name item))
    (body_with (stage_at over levels number) body name typing vars walk.of) (items_left walk) rest

abbrev pub each_by : Ground → Left → Frame → ℕ → ℕ → Expr → List ℕ → List Node → Runs
each_by over inside (frame.Item walk) levels number list name body = walk_left over inside levels number name body walk
each_by over inside other levels number list name body = each_anew (stage_at over levels number) list name body

abbrev pub block_by : Ground → Given → Left → Frame → ℕ → ℕ → ℕ → List KeyPart → List Node → Runs
block_by over given inside (frame.Asked key) levels number block parts body typing vars rest =
    found_or given.one (tree_runs (stage_at over levels number) body typing vars) (made over number block key vars) rest
block_by over given inside (frame.Body key written) levels number block parts body typing vars rest =
    body_left (inside.nodes levels number body typing vars) (made over number block key vars) written rest
block_by over given inside frame.Behind levels number block parts body typing vars rest = rest
block_by over given inside other levels number block parts body typing vars rest = block_anew (stage_at over levels number) block parts body typing vars rest

abbrev pub render_by : Ground → Left → Frame → ℕ → ℕ → List ℕ → List Local → Runs
render_by over inside (frame.Partial partial scope) levels number name locals typing vars rest =
    template_left over inside levels partial scope.typing scope.vars rest
render_by over inside other levels number name locals typing vars rest = render_anew (stage_at over levels number) name locals typing vars rest

-- the partial of a collection with the items that weren't passed
abbrev pub members_left : Ground → Left → ℕ → ℕ → List ℕ → Walk → Rest → Rest
members_left over inside levels partial item walk =
    resumed (λ one. template_left over inside levels partial (typed item walk.of) (only item one))
    (λ one. levels_run over levels partial (typed item walk.of) (only item one)) (items_left walk)

abbrev pub collection_by : Ground → Given → Left → Frame → ℕ → ℕ → List ℕ → Expr → List ℕ → Bool → Runs
collection_by over given inside (frame.Member partial walk) levels number name list item cached typing vars = members_left over inside levels partial item walk
collection_by over given inside (frame.AskedMany kept) levels number name list item cached typing vars =
    for_each (kept_run over levels item kept) (kept_left kept given.many)
collection_by over given inside (frame.Missed kept written) levels number name list item cached typing vars =
    resumed (missed_run over inside levels item kept written) (kept_run over levels item kept) (kept_left kept (fragments kept.found))
collection_by over given inside (frame.HandedIn kept) levels number name list item cached typing vars =
    for_each (kept_run over levels item kept) (kept_left kept (fragments kept.found))
collection_by over given inside other levels number name list item cached typing vars = collection_anew (stage_at over levels number) name list item cached typing vars

abbrev pub node_by : Ground → Given → Left → Frame → ℕ → ℕ → Node-F Node Arm → Runs → Runs
node_by over given inside frame levels number (Node-F.If at arms otherwise) whole = if_by over inside frame levels number arms otherwise
node_by over given inside frame levels number (Node-F.Each at list name body) whole = each_by over inside frame levels number list name body
node_by over given inside frame levels number (Node-F.Cache at block key body) whole = block_by over given inside frame levels number block key body
node_by over given inside frame levels number (Node-F.Render at name locals) whole = render_by over inside frame levels number name locals
node_by over given inside frame levels number (Node-F.Collection at name list item cached) whole = collection_by over given inside frame levels number name list item cached
node_by over given inside frame levels number other whole = whole

abbrev pub nodes_by : Ground → Left → Frame → ℕ → ℕ → List Node → Runs
nodes_by over inside (frame.Node at) levels number nodes typing vars rest =
    with_node (slice_get nodes at) (λ one. inside.node levels number one typing vars) (tree_runs (stage_at over levels number) (drop (at + 1) nodes) typing vars rest)
nodes_by over inside other levels number nodes typing vars rest = tree_runs (stage_at over levels number) nodes typing vars rest

-- ---- what frames mean, outermost first, with what was answered

unfoldable pub left : Ground → Given → List Frame → Left
left over given [] = anew over
left over given (one ∷ frames) = record {
  nodes = λ levels number nodes. nodes_by over (left over given frames) one levels number nodes;
  node = λ levels number n.
      node_by over given (left over given frames) one levels number (out-Node n) (node_runs (stage_at over levels number) n);
}

-- the same of each part of a template
abbrev pub nodes_left : Ground → ℕ → ℕ → List Node → Typing → Variables → Given → List Frame → Rest → Rest
nodes_left over levels number nodes typing vars given frames = (left over given frames).nodes levels number nodes typing vars

abbrev pub node_left : Ground → ℕ → ℕ → Node → Typing → Variables → Given → List Frame → Rest → Rest
node_left over levels number one typing vars given frames = (left over given frames).node levels number one typing vars

unfoldable pub if_left : Ground → ℕ → ℕ → List Arm → List Node → Typing → Variables → Given → List Frame → Rest → Rest
if_left over levels number arms otherwise typing vars given [] = if_anew (stage_at over levels number) arms otherwise typing vars
if_left over levels number arms otherwise typing vars given (one ∷ frames) = if_by over (left over given frames) one levels number arms otherwise typing vars

unfoldable pub each_left : Ground → ℕ → ℕ → Expr → List ℕ → List Node → Typing → Variables → Given → List Frame → Rest → Rest
each_left over levels number list name body typing vars given [] = each_anew (stage_at over levels number) list name body typing vars
each_left over levels number list name body typing vars given (one ∷ frames) = each_by over (left over given frames) one levels number list name body typing vars

unfoldable pub block_left : Ground → ℕ → ℕ → ℕ → List KeyPart → List Node → Typing → Variables → Given → List Frame → Rest → Rest
block_left over levels number block parts body typing vars given [] = block_anew (stage_at over levels number) block parts body typing vars
block_left over levels number block parts body typing vars given (one ∷ frames) =
    block_by over given (left over given frames) one levels number block parts body typing vars

unfoldable pub render_left : Ground → ℕ → ℕ → List ℕ → List Local → Typing → Variables → Given → List Frame → Rest → Rest
render_left over levels number name locals typing vars given [] = render_anew (stage_at over levels number) name locals typing vars
render_left over levels number name locals typing vars given (one ∷ frames) = render_by over (left over given frames) one levels number name locals typing vars

unfoldable pub collection_left : Ground → ℕ → ℕ → List ℕ → Expr → List ℕ → Bool → Typing → Variables → Given → List Frame → Rest → Rest
collection_left over levels number name list item cached typing vars given [] =
    collection_anew (stage_at over levels number) name list item cached typing vars
collection_left over levels number name list item cached typing vars given (one ∷ frames) =
    collection_by over given (left over given frames) one levels number name list item cached typing vars

-- a template by so many levels
unfoldable pub partial_left : Ground → ℕ → ℕ → Typing → Variables → Given → List Frame → Rest → Rest
partial_left over levels number typing vars given frames = template_left over (left over given frames) levels number typing vars

-- Rendering through a cache: what a template asks for, hands in and writes, by the recursion of direct rendering (this project's own).
use Rattle.std.specs.Prelude.{ℕ, ◌+◌, Bool, true, false, List, [], ◌∷◌, ◌++◌, map, Option, None, Some, Result, Ok, Err, if◌then◌else◌, sum_by}
use Rattle.std.specs.List.{list_all}
use Rattle.doll_schema.specs.Models.{ModelList}
use Rattle.doll_schema.specs.declared.value.Val.{Val}
use Rattle.doll_expr.specs.declared.expr.Expr.{Expr}
use Rattle.doll_erb.specs.declared.node.Arm.{Arm-F}
use Rattle.doll_erb.specs.declared.node.KeyPart.{KeyPart}
use Rattle.doll_erb.specs.declared.node.Local.{Local}
use Rattle.doll_erb.specs.declared.node.Node.{Node, fold-Node}
use Rattle.doll_erb.specs.declared.node.Node.TheOpen.{Node-F}
use Rattle.doll_table.specs.Tables.{TableMap}
use Rattle.doll_eval.specs.Operations as of
use Rattle.doll_eval.specs.Values.{looks_of, value_of}
use Rattle.doll_plain.specs.Direct.{Variables, items_of}
use Rattle.doll_types.specs.declared.types.TypeKind.{TypeKind}
use Rattle.doll_types.specs.declared.types.ValueType.{ValueType}
use Rattle.doll_types.specs.Findings.{items_type, locals_typing}
use Rattle.doll_types.specs.Types.{Typing}
use Rattle.doll_lint.specs.Blocks.{item_key, item_number}
use Rattle.doll_entry.specs.declared.asks.Ask.{Ask}
use Rattle.doll_entry.specs.declared.entry.Fresh.{Fresh}
use Rattle.doll_run.specs.Runs.{Reads, ReadsMany, Rest, Writes}

-- ---- what a rendering goes by

-- what a key of a block is over a table: its text, its versions, the looks that making it may take, and whether what it is made of may stand in a key
pub record Keyed : Type 0 where
  pub text : List ℕ
  pub versions : List ℕ
  pub looks : ℕ
  pub is_key : Bool

-- what a part of a template runs under types and values of its variables, before what follows
abbrev pub Runs : Type 0
Runs = Typing → Variables → Rest → Rest

-- A schema, a table, the moment of the last commit before it, the number of the set, that of the template; the key of a block of a template by its parts,
-- under types and values of variables; and what each partial is, by its name as it is written, and what it runs.
pub record Stage : Type 0 where
  pub schema : ModelList
  pub table : TableMap
  pub moment : ℕ
  pub tree : ℕ
  pub template : ℕ
  pub keyed : ℕ → Typing → List KeyPart → Variables → Keyed
  pub partial : List ℕ → Option ℕ
  pub runs : ℕ → Runs

abbrev pub value_on : Stage → Expr → Variables → Val
value_on stage expr vars = value_of expr vars stage.schema stage.table

abbrev pub looks_on : Stage → Expr → Variables → ℕ
looks_on stage expr vars = looks_of expr vars stage.schema stage.table

-- ---- what follows

-- after some looks more
abbrev pub after_looks : ℕ → Rest → Rest
after_looks more rest looks out = rest (looks + more) out

-- after some bytes more
abbrev pub after_text : List ℕ → Rest → Rest
after_text text rest looks out = rest looks (out ++ text)

-- one part after another
abbrev pub in_turn : List Runs → Runs
in_turn [] typing vars rest = rest
in_turn (part ∷ parts) typing vars rest = part typing vars (in_turn parts typing vars rest)

-- a part for each of some values
abbrev pub for_each : {X : Type 0} → (X → Rest → Rest) → List X → Rest → Rest
for_each run [] rest = rest
for_each run (x ∷ xs) rest = run x (for_each run xs rest)

-- ---- blocks

-- what is asked for a block of a template of the set with a number
abbrev pub asked : ℕ → ℕ → ℕ → Keyed → Variables → Ask
asked tree template block key vars = record {
  key = key.text;
  versions = key.versions;
  block = record { tree = tree; template = template; block = block };
  vars = vars;
}

-- the same block that was rendered as these bytes, over a history whose last commit has this moment
abbrev pub fresh : ℕ → ℕ → ℕ → ℕ → Keyed → Variables → List ℕ → Fresh
fresh tree moment template block key vars bytes = record {
  key = key.text;
  versions = key.versions;
  value = bytes;
  vars = vars;
  block = record { tree = tree; template = template; block = block };
  origin = moment;
}

-- what was found is written; else the body runs by itself, is handed in, and is written
abbrev pub found_or : Option (List ℕ) → (Rest → Rest) → (List ℕ → Fresh) → Rest → Rest
found_or (Some bytes) body made rest looks out = rest looks (out ++ bytes)
found_or None body made rest looks out = body (λ more inner. Writes more (made inner) (rest 0 (out ++ inner))) looks []

-- it is asked for, and then what was found stands in its place
abbrev pub asked_run : Stage → ℕ → ℕ → Keyed → Variables → (Rest → Rest) → Rest → Rest
asked_run stage template block key vars body rest looks out =
    Reads (looks + key.looks) (asked stage.tree template block key vars) (λ found. found_or found body (fresh stage.tree stage.moment template block key vars) rest 0 out)

-- a block of a template with a number: it is asked for where it has a key, else its body runs by itself
abbrev pub block_run : Stage → ℕ → ℕ → Keyed → Variables → (Rest → Rest) → Rest → Rest
block_run stage template block key vars body rest looks out =
    if key.is_key then asked_run stage template block key vars body rest looks out else after_looks key.looks (body rest) looks out

-- ---- collections

-- an item that stands by itself under a name
abbrev pub only : List ℕ → Val → Variables
only name item = (name, item) ∷ []

-- the key of an item of a cached collection
abbrev pub item_keyed : Stage → ℕ → List ℕ → ValueType → Val → Keyed
item_keyed stage partial name t item = stage.keyed partial ((name, t) ∷ []) (item_key name) (only name item)

abbrev pub item_asked : Stage → ℕ → List ℕ → ValueType → Val → Ask
item_asked stage partial name t item = asked stage.tree partial item_number (item_keyed stage partial name t item) (only name item)

-- an item of which this was found
abbrev pub item_run : Stage → ℕ → List ℕ → ValueType → Val × Option (List ℕ) → Rest → Rest
item_run stage partial name t one =
    found_or one.1 (stage.runs partial ((name, t) ∷ []) (only name one.0)) (fresh stage.tree stage.moment partial item_number (item_keyed stage partial name t one.0) (only name one.0))

-- an item that isn't asked for
abbrev pub item_plain : Stage → ℕ → List ℕ → ValueType → Val → Rest → Rest
item_plain stage partial name t item = stage.runs partial ((name, t) ∷ []) (only name item)

-- so many answers as there are questions: what is lacking wasn't found
abbrev pub answers_to : {X : Type 0} → List X → List (Option (List ℕ)) → List (X × Option (List ℕ))
answers_to [] found = []
answers_to (x ∷ xs) [] = (x, None) ∷ answers_to xs []
answers_to (x ∷ xs) (one ∷ found) = (x, one) ∷ answers_to xs found

-- the looks that making the keys of items may take
abbrev pub items_looks : Stage → ℕ → List ℕ → ValueType → List Val → ℕ
items_looks stage partial name t items = sum_by (λ one. (item_keyed stage partial name t one).looks) items

-- whether each item has a key
abbrev pub have_keys : Stage → ℕ → List ℕ → ValueType → List Val → Bool
have_keys stage partial name t items = list_all (λ one. (item_keyed stage partial name t one).is_key) items

-- all items are asked for at once, and then what was found stands in the place of each
abbrev pub asked_items : Stage → ℕ → List ℕ → ValueType → List Val → Rest → Rest
asked_items stage partial name t items rest looks out =
    ReadsMany (looks + items_looks stage partial name t items) (map (item_asked stage partial name t) items)
    (λ found. for_each (item_run stage partial name t) (answers_to items found) rest 0 out)

-- the items of a cached collection, where there are any: they are asked for where each has a key, else each runs by itself
abbrev pub items_run : Stage → ℕ → List ℕ → ValueType → List Val → Rest → Rest
items_run stage partial name t [] rest looks out = rest looks out
items_run stage partial name t (item ∷ items) rest looks out =
    if have_keys stage partial name t (item ∷ items)
    then asked_items stage partial name t (item ∷ items) rest looks out
    else after_looks (items_looks stage partial name t (item ∷ items)) (for_each (item_plain stage partial name t) (item ∷ items) rest) looks out

abbrev pub collection_run : Stage → Bool → ℕ → List ℕ → ValueType → List Val → Rest → Rest
collection_run stage cached partial name t items =
    if cached then items_run stage partial name t items else for_each (item_plain stage partial name t) items

-- ---- nodes

-- the variables that a partial is rendered with, and the looks that their values may take
abbrev pub locals_on : Stage → List Local → Variables → Variables
locals_on stage locals vars = map (λ (l : Local). (l.name, value_on stage l.value vars)) locals

abbrev pub locals_looks : Stage → List Local → Variables → ℕ
locals_looks stage locals vars = sum_by (λ (l : Local). looks_on stage l.value vars) locals

-- an arm of an `if`: its test, and what its body runs
pub record Choice : Type 0 where
  pub test : Expr
  pub runs : Runs

-- the first arm whose test holds, else the last part; each test before it is looked at
abbrev pub chosen : Stage → List Choice → Runs → Runs
chosen stage [] otherwise typing vars rest = otherwise typing vars rest
chosen stage (arm ∷ arms) otherwise typing vars rest =
    after_looks (looks_on stage arm.test vars)
    (if of.is_true (value_on stage arm.test vars) then arm.runs typing vars rest else chosen stage arms otherwise typing vars rest)

-- with what has a type; what has none isn't rendered
abbrev pub with_type : {X : Type 0} → Result X TypeKind → (X → Rest → Rest) → Rest → Rest
with_type (Ok t) run rest = run t rest
with_type (Err kind) run rest = rest

-- with the partial that a name means; where there is none nothing is rendered
abbrev pub with_partial : Option ℕ → (ℕ → Rest → Rest) → Rest → Rest
with_partial (Some partial) run rest = run partial rest
with_partial None run rest = rest

-- a node by what its parts run
abbrev pub run_step : Stage → Node-F Runs Choice → Runs
run_step stage (Node-F.Text text) typing vars rest = after_text text rest
run_step stage (Node-F.Write at expr) typing vars rest =
    after_looks (looks_on stage expr vars) (after_text (of.written false (value_on stage expr vars)) rest)
run_step stage (Node-F.Raw at expr) typing vars rest =
    after_looks (looks_on stage expr vars) (after_text (of.written true (value_on stage expr vars)) rest)
run_step stage (Node-F.If at arms otherwise) typing vars rest = chosen stage arms (in_turn otherwise) typing vars rest
run_step stage (Node-F.Each at list name body) typing vars rest =
    after_looks (looks_on stage list vars)
    (with_type (items_type stage.schema typing list)
    (λ t. for_each (λ item. in_turn body (typing ++ (name, t) ∷ []) (vars ++ (name, item) ∷ [])) (items_of (value_on stage list vars))) rest)
run_step stage (Node-F.Cache at block key body) typing vars rest =
    block_run stage stage.template block (stage.keyed stage.template typing key vars) vars (in_turn body typing vars) rest
run_step stage (Node-F.Render at name locals) typing vars rest =
    after_looks (locals_looks stage locals vars)
    (with_type (locals_typing stage.schema typing locals)
    (λ types. with_partial (stage.partial name) (λ partial. stage.runs partial types (locals_on stage locals vars))) rest)
run_step stage (Node-F.Collection at name list item cached) typing vars rest =
    after_looks (looks_on stage list vars)
    (with_type (items_type stage.schema typing list)
    (λ t. with_partial (stage.partial name) (λ partial. collection_run stage cached partial item t (items_of (value_on stage list vars)))) rest)
run_step stage (Node-F.Depends at name) typing vars rest = rest

abbrev pub arm_step : Arm-F Runs Choice → Choice
arm_step arm = record { test = arm.test; runs = in_turn arm.body }

-- what a node runs
abbrev pub node_runs : Stage → Node → Runs
node_runs stage = fold-Node Runs Choice (run_step stage) arm_step

-- what nodes run, one after another
abbrev pub tree_runs : Stage → List Node → Runs
tree_runs stage tree = in_turn (map (node_runs stage) tree)

-- The cache tags of a template are numbered from 0 in the order of the text, each once.
use Rattle.std.proofs.Common.{◌≡◌, ◌<◌, ◌≤◌, ℕ, zero, suc, ◌+◌, Bool, true, false, List, [], ◌∷◌, ◌++◌, length, map, Option, None, Some, Result, Ok, Err, inl, inr, refl, sym, ap, subst, ◌∙◌, arith}
use Rattle.std.specs.List.{Contains, flat_map}
use Rattle.std.proofs.lemmas.Grind.{flat_map-append}
use Rattle.std.proofs.lemmas.List.{append-nil}
use Rattle.std.proofs.lemmas.List.Folds.{flat_map-map}
use Rattle.doll_text.specs.Steps.{◌>>=◌}
use Rattle.doll_expr.specs.declared.expr.Expr.{Expr}
use Rattle.doll_expr.specs.declared.expr.ExprFault.{ExprFault}
use Rattle.doll_expr.specs.declared.token.Token.{Token}
use Rattle.doll_erb.specs.declared.node.Arm.{Arm, Arm-F, fold-Arm}
use Rattle.doll_erb.specs.declared.node.KeyPart.{KeyPart}
use Rattle.doll_erb.specs.declared.node.Local.{Local}
use Rattle.doll_erb.specs.declared.node.Node.{Node, fold-Node, roll-Node}
use Rattle.doll_erb.specs.declared.node.Node.TheFolds.{fold-roll-Node, fold_out-Arm, map-Node}
use Rattle.doll_erb.specs.declared.node.Node.TheOpen.{Node-F}
use Rattle.doll_erb.specs.declared.piece.Tag.{Tag}
use Rattle.doll_erb.specs.declared.piece.TagKind.{TagKind}
use Rattle.doll_erb.specs.declared.piece.TagKind.TheVariants as tag
use Rattle.doll_erb.specs.declared.role.Role.{Role}
use Rattle.doll_erb.specs.declared.role.Role.TheVariants as role
use Rattle.doll_erb.specs.Grammar.{Does, Made, Makes, nothing, texts, leaf, each, cache, if_arm, elsif_arm, if_end, if_else}
use Rattle.doll_erb.specs.Partials.{dependency_of}
use Rattle.doll_erb.specs.Shapes.{Says, Shape}
use Rattle.doll_erb.specs.Tags.{IsTag, collection, comment_by, options, collected, item_of, listing, locals, named_item, raw, rendered, role_of, run, write}
use Rattle.doll_erb.specs.Tags as sentence
use Rattle.doll_erb.specs.Trees.{arm, content_of, in_tag, role_in, tree_of, with_text}
use Rattle.doll_erb.proofs.Blocks.{text_found}
use Rattle.doll_erb.proofs.Tags.{tags_are_sentences}

-- ---- numbers

-- the numbers of the cache tags in a node, in the order of the text
abbrev pub joined : List (List ℕ) → List ℕ
joined parts = flat_map (λ part. part) parts

abbrev pub numbers_step : Node-F (List ℕ) (List ℕ) → List ℕ
numbers_step (Node-F.If at arms otherwise) = joined arms ++ joined otherwise
numbers_step (Node-F.Each at list name body) = joined body
numbers_step (Node-F.Cache at block key body) = block ∷ joined body
numbers_step other = []

abbrev pub arm_numbers : Arm-F (List ℕ) (List ℕ) → List ℕ
arm_numbers arm = joined arm.body

abbrev pub node_numbers : Node → List ℕ
node_numbers = fold-Node (List ℕ) (List ℕ) numbers_step arm_numbers

abbrev pub tree_numbers : List Node → List ℕ
tree_numbers nodes = flat_map node_numbers nodes

abbrev pub arms_numbers : List Arm → List ℕ
arms_numbers arms = flat_map (λ (a : Arm). tree_numbers a.body) arms

parts : (body : List Node) → joined (map node_numbers body) ≡ tree_numbers body
parts body = flat_map-map (λ part. part) node_numbers body

arms_parts : (arms : List Arm) → joined (map (fold-Arm (List ℕ) (List ℕ) numbers_step arm_numbers) arms) ≡ arms_numbers arms
arms_parts [] = refl
arms_parts (a ∷ arms) =
    ap (λ first. first ++ joined (map (fold-Arm (List ℕ) (List ℕ) numbers_step arm_numbers) arms)) (fold_out-Arm (List ℕ) (List ℕ) numbers_step arm_numbers a ∙ parts a.body)
    ∙ ap (λ more. tree_numbers a.body ++ more) (arms_parts arms)

pub if_numbers : (at : ℕ) (arms : List Arm) (otherwise : List Node) → node_numbers (roll-Node (Node-F.If at arms otherwise)) ≡ arms_numbers arms ++ tree_numbers otherwise
if_numbers at arms otherwise =
    fold-roll-Node (List ℕ) (List ℕ) numbers_step arm_numbers (Node-F.If at arms otherwise)
    ∙ ap (λ first. first ++ joined (map node_numbers otherwise)) (arms_parts arms) ∙ ap (λ more. arms_numbers arms ++ more) (parts otherwise)

pub each_numbers : (at : ℕ) (list : Expr) (name : List ℕ) (body : List Node) → node_numbers (roll-Node (Node-F.Each at list name body)) ≡ tree_numbers body
each_numbers at list name body = fold-roll-Node (List ℕ) (List ℕ) numbers_step arm_numbers (Node-F.Each at list name body) ∙ parts body

pub cache_numbers : (at block : ℕ) (key : List KeyPart) (body : List Node) → node_numbers (roll-Node (Node-F.Cache at block key body)) ≡ block ∷ tree_numbers body
cache_numbers at block key body = fold-roll-Node (List ℕ) (List ℕ) numbers_step arm_numbers (Node-F.Cache at block key body) ∙ ap (λ more. block ∷ more) (parts body)

-- ---- runs

-- numbers that go up by one, from the first up to one before the last
abbrev pub IsRun : ℕ → List ℕ → ℕ → Type 0
IsRun from [] to = from ≡ to
IsRun from (n ∷ ns) to = (n ≡ from) × IsRun (from + 1) ns to

pub run_split : (from to : ℕ) (xs ys : List ℕ) → IsRun from (xs ++ ys) to → (between : ℕ) × IsRun from xs between × IsRun between ys to
run_split from to [] ys is = (from, refl, is)
run_split from to (x ∷ xs) ys is = let rest = run_split (from + 1) to xs ys is.1 in (rest.0, (is.0, rest.1), rest.2)

run_append : (from between to : ℕ) (xs ys : List ℕ) → IsRun from xs between → IsRun between ys to → IsRun from (xs ++ ys) to
run_append from between to [] ys first more = subst (λ n. IsRun n ys to) (sym first) more
run_append from between to (x ∷ xs) ys first more = (first.0, run_append (from + 1) between to xs ys first.1 more)

pub run_length : (from to : ℕ) (xs : List ℕ) → IsRun from xs to → from + length xs ≡ to
run_length from to [] is = omega (arith, is)
run_length from to (x ∷ xs) is = omega (arith, run_length (from + 1) to xs is.1)

-- each number of a run is within it
pub run_within : (from to : ℕ) (xs : List ℕ) (n : ℕ) → IsRun from xs to → Contains xs n → (from ≤ n) × (n < to)
run_within from to [] n is among = absurd (omega (arith, among.1))
run_within from to (x ∷ xs) n is (zero, within, here) = (omega (arith, is.0, here), omega (arith, is.0, here, run_length (from + 1) to xs is.1))
run_within from to (x ∷ xs) n is (suc k, within, here) = let rest = run_within (from + 1) to xs n is.1 (k, omega (arith, within), here) in (omega (arith, rest.0), rest.1)

-- ---- tags that are nodes by themselves

-- a tag that is a node by itself is no cache tag
abbrev HasNone : Role → Type 0
HasNone (role.Leaf node) = node_numbers node ≡ []
HasNone other = Unit {0}

-- each role that a shape may come to
abbrev EachEnd : Shape Role → Type 0
EachEnd (Shape.ends a) = (what : Role) → a ≡ Ok what → HasNone what
EachEnd (Shape.then i next) = (x : _) → EachEnd (next x)
EachEnd (Shape.either f one other) = EachEnd one × EachEnd other

said : (shape : Shape Role) (ts : List Token) (what : Role) → EachEnd shape → Says shape ts (Ok what) → HasNone what
said (Shape.ends a) ts what ends says = ends what says.1
said (Shape.then i next) ts what ends says = said (next says.2) says.1 what (ends says.2) says.5
said (Shape.either f one other) ts what ends (inl says) = said one says.1 what ends.0 says.3
said (Shape.either f one other) ts what ends (inr says) = said other ts what ends.1 says

pub no_numbers : (layer : Node-F Node Arm) → numbers_step (map-Node Node Arm (List ℕ) (List ℕ) node_numbers (fold-Arm (List ℕ) (List ℕ) numbers_step arm_numbers) layer) ≡ [] → node_numbers (roll-Node layer) ≡ []
no_numbers layer none = fold-roll-Node (List ℕ) (List ℕ) numbers_step arm_numbers layer ∙ none

-- an answer that is a node without cache tags
leaf_none : (layer : Node-F Node Arm) → node_numbers (roll-Node layer) ≡ [] → (what : Role) → (let given : Result Role ExprFault = Ok (role.Leaf (roll-Node layer)) in given ≡ Ok what) → HasNone what
leaf_none layer none what e = let same : role.Leaf (roll-Node layer) ≡ what = cc in subst HasNone same none

opens_none : (opens : _) (what : Role) → (let given : Result Role ExprFault = Ok (role.Opens opens) in given ≡ Ok what) → HasNone what
opens_none opens what e = let same : role.Opens opens ≡ what = cc in subst HasNone same tt

closes_none : (closes : _) (what : Role) → (let given : Result Role ExprFault = Ok (role.Closes closes) in given ≡ Ok what) → HasNone what
closes_none closes what e = let same : role.Closes closes ≡ what = cc in subst HasNone same tt

module _ (at : ℕ) where
  locals_end : (name : List ℕ) (n : ℕ) (before : List Local) → EachEnd (locals at name n before)
  unfolding locals
  locals_end name zero before = leaf_none (Node-F.Render at name before) (no_numbers (Node-F.Render at name before) refl)
  locals_end name (suc n) before = ((λ variable _ a. locals_end name n (before ++ record { name = variable; value = a } ∷ [])), leaf_none (Node-F.Render at name before) (no_numbers (Node-F.Render at name before) refl))

  collection_end : (name : List ℕ) (place : ℕ) (list : Expr) (item : Option (List ℕ)) (cached : Bool) (what : Role) → collection at (listing name place list) item cached ≡ Ok what → HasNone what
  unfolding collection
  collection_end name place list item cached what e = by (item_of place name item) e
    where
      by : (r : Result (List ℕ) ExprFault) → (r >>= (λ n. Ok (role.Leaf (roll-Node (Node-F.Collection at name list n cached))))) ≡ Ok what → HasNone what
      by (Ok n) e = leaf_none (Node-F.Collection at name list n cached) (no_numbers (Node-F.Collection at name list n cached) refl) what e
      by (Err fault) e = absurd (cc e)

  rendered_end : EachEnd (rendered at)
  unfolding rendered collected options named_item sentence.cached
  rendered_end = (
    (λ _ name _ _ _ list. (
      (
        (λ _ _ item. ((λ _ _ _. collection_end name.0 name.1 list (Some item) true), collection_end name.0 name.1 list (Some item) false)),
        (λ _ _ _. collection_end name.0 name.1 list None true),
      ),
      collection_end name.0 name.1 list None false,
    )),
    λ name. locals_end name.0 64 [],
  )

  write_end : EachEnd (write at)
  unfolding write
  write_end = (rendered_end, λ a. leaf_none (Node-F.Write at a) (no_numbers (Node-F.Write at a) refl))

  raw_end : EachEnd (raw at)
  unfolding raw
  raw_end = λ a. leaf_none (Node-F.Raw at a) (no_numbers (Node-F.Raw at a) refl)

parts_end : (n : ℕ) (key : List KeyPart) → EachEnd (sentence.parts n key)
unfolding sentence.parts sentence.closed sentence.keyed
parts_end zero key = λ _ _. opens_none _
parts_end (suc n) key = ((λ a. parts_end n (key ++ a ∷ [])), λ _ _. opens_none _)

run_end : EachEnd run
unfolding run sentence.cache sentence.listed_key sentence.keyed sentence.each
run_end = (
  (λ test. opens_none _),
  ((λ test. closes_none _), (closes_none _, (closes_none _, (((λ a. parts_end 7 (a ∷ [])), λ a _. opens_none _), λ list _ _ name _. opens_none _)))),
)

comment_none : (at : ℕ) (name : Option (List ℕ)) → HasNone (comment_by at name)
comment_none at (Some name) = no_numbers (Node-F.Depends at name) refl
comment_none at None = tt

role_none : (at : ℕ) (kind : TagKind) (content : List ℕ) (what : Role) → IsTag at kind content what → HasNone what
role_none at tag.Text content what is = subst HasNone is tt
role_none at tag.Comment content what is = subst HasNone is (comment_none at (dependency_of content))
role_none at tag.Write content what is = said (write at) is.0 what (write_end at) is.2
role_none at tag.Raw content what is = said (raw at) is.0 what (raw_end at) is.2
role_none at tag.Run content what is = said run is.0 what run_end is.2

-- a tag of a template that is a node by itself
leaf_numbers : (text : List ℕ) (piece : Tag) (node : Node) → Does text piece (role.Leaf node) → node_numbers node ≡ []
unfolding role_in
leaf_numbers text piece node does = by (role_of piece.span.from piece.kind (content_of text piece)) refl does
  where
    by : (r : Result Role ExprFault) → role_of piece.span.from piece.kind (content_of text piece) ≡ r → in_tag piece.span.from r ≡ Ok (role.Leaf node) → node_numbers node ≡ []
    by (Ok what) is e =
        let same : what ≡ role.Leaf node = cc in
        subst HasNone same (role_none piece.span.from piece.kind (content_of text piece) what (((tags_are_sentences piece.span.from piece.kind (content_of text piece)).0 what).0 is))
    by (Err fault) is e = absurd (cc e)

-- ---- what pieces make

text_numbers : (nodes : List Node) (bytes : List ℕ) → tree_numbers (with_text nodes bytes) ≡ tree_numbers nodes
text_numbers nodes [] = refl
text_numbers nodes (b ∷ bytes) =
    flat_map-append node_numbers nodes (roll-Node (Node-F.Text (b ∷ bytes)) ∷ [])
    ∙ ap (λ last. tree_numbers nodes ++ (last ++ [])) (no_numbers (Node-F.Text (b ∷ bytes)) refl) ∙ append-nil (tree_numbers nodes)

push_numbers : (nodes : List Node) (bytes : List ℕ) (one : Node) → tree_numbers (with_text nodes bytes ++ one ∷ []) ≡ tree_numbers nodes ++ node_numbers one
push_numbers nodes bytes one =
    flat_map-append node_numbers (with_text nodes bytes) (one ∷ [])
    ∙ ap (λ first. first ++ (node_numbers one ++ [])) (text_numbers nodes bytes) ∙ ap (λ last. tree_numbers nodes ++ last) (append-nil (node_numbers one))

arm_more : (arms : List Arm) (at : ℕ) (test : Expr) (body : List Node) (last : List ℕ) → arms_numbers (arms ++ arm at test (with_text body last) ∷ []) ≡ arms_numbers arms ++ tree_numbers body
arm_more arms at test body last =
    flat_map-append (λ (a : Arm). tree_numbers a.body) arms (arm at test (with_text body last) ∷ [])
    ∙ ap (λ more. arms_numbers arms ++ more) (append-nil (tree_numbers (with_text body last)) ∙ text_numbers body last)

-- the numbers of what pieces make go up by one
abbrev Runs : ℕ → Made → ℕ → Type 0
Runs from (Made.nodes nodes bytes) to = IsRun from (tree_numbers nodes) to
Runs from (Made.arms at arms arm_at test) to = IsRun from (arms_numbers arms) to

runs : (text : List ℕ) (left number : ℕ) (pieces : List Tag) (made : Made) (after : ℕ) → Makes text left number pieces made after → Runs number made after
runs text _ _ _ _ _ (nothing left number) = refl
runs text _ _ _ _ _ (texts left number after pieces piece ns bs m does) = runs text left number pieces (Made.nodes ns bs) after m
runs text _ _ _ _ _ (leaf left number after pieces piece ns bs node m does) =
    subst (λ ns. IsRun number ns after) (sym (push_numbers ns bs node ∙ ap (λ last. tree_numbers ns ++ last) (leaf_numbers text piece node does) ∙ append-nil (tree_numbers ns)))
    (runs text left number pieces (Made.nodes ns bs) after m)
runs text _ _ _ _ _ (each left number inner after pieces inside piece closes ns body bs last list name m opens n ends) =
    subst (λ ns. IsRun number ns after)
    (sym (push_numbers ns bs (roll-Node (Node-F.Each piece.span.from list name (with_text body last)))
    ∙ ap (λ more. tree_numbers ns ++ more) (each_numbers piece.span.from list name (with_text body last) ∙ text_numbers body last)))
    (run_append number inner after (tree_numbers ns) (tree_numbers body) (runs text (suc left) number pieces (Made.nodes ns bs) inner m) (runs text left inner inside (Made.nodes body last) after n))
runs text _ _ _ _ _ (cache left number inner after pieces inside piece closes ns body bs last key m opens n ends) =
    subst (λ ns. IsRun number ns after)
    (sym (push_numbers ns bs (roll-Node (Node-F.Cache piece.span.from inner key (with_text body last)))
    ∙ ap (λ more. tree_numbers ns ++ more) (cache_numbers piece.span.from inner key (with_text body last) ∙ ap (λ more. inner ∷ more) (text_numbers body last))))
    (run_append number inner after (tree_numbers ns) (inner ∷ tree_numbers body) (runs text (suc left) number pieces (Made.nodes ns bs) inner m)
    (refl, runs text left (inner + 1) inside (Made.nodes body last) after n))
runs text _ _ _ _ _ (if_arm left number piece test opens) = refl
runs text _ _ _ _ _ (elsif_arm left number inner after at arm_at pieces inside parts first test next body last m n ends) =
    subst (λ ns. IsRun number ns after) (sym (arm_more first arm_at test body last))
    (run_append number inner after (arms_numbers first) (tree_numbers body) (runs text left number pieces (Made.arms at first arm_at test) inner m) (runs text left inner inside (Made.nodes body last) after n))
runs text _ _ _ _ _ (if_end left number inner middle after at arm_at pieces header inside closes ns body bs last first test m h n ends) =
    subst (λ ns. IsRun number ns after)
    (sym (push_numbers ns bs (roll-Node (Node-F.If at (first ++ arm arm_at test (with_text body last) ∷ []) []))
    ∙ ap (λ more. tree_numbers ns ++ more) (if_numbers at (first ++ arm arm_at test (with_text body last) ∷ []) [] ∙ append-nil (arms_numbers (first ++ arm arm_at test (with_text body last) ∷ [])) ∙ arm_more first arm_at test body last)))
    (run_append number inner after (tree_numbers ns) (arms_numbers first ++ tree_numbers body) (runs text (suc left) number pieces (Made.nodes ns bs) inner m)
    (run_append inner middle after (arms_numbers first) (tree_numbers body) (runs text left inner header (Made.arms at first arm_at test) middle h) (runs text left middle inside (Made.nodes body last) after n)))
runs text _ _ _ _ _ (if_else left number inner middle third after at arm_at pieces header inside rest parts closes ns body otherwise bs last others first test m h n parted o ends) =
    subst (λ ns. IsRun number ns after)
    (sym (push_numbers ns bs (roll-Node (Node-F.If at (first ++ arm arm_at test (with_text body last) ∷ []) (with_text otherwise others)))
    ∙ ap (λ more. tree_numbers ns ++ more) (if_numbers at (first ++ arm arm_at test (with_text body last) ∷ []) (with_text otherwise others)
    ∙ ap (λ a. a ++ tree_numbers (with_text otherwise others)) (arm_more first arm_at test body last) ∙ ap (λ more. (arms_numbers first ++ tree_numbers body) ++ more) (text_numbers otherwise others))))
    (run_append number inner after (tree_numbers ns) ((arms_numbers first ++ tree_numbers body) ++ tree_numbers otherwise) (runs text (suc left) number pieces (Made.nodes ns bs) inner m)
    (run_append inner third after (arms_numbers first ++ tree_numbers body) (tree_numbers otherwise)
    (run_append inner middle third (arms_numbers first) (tree_numbers body) (runs text left inner header (Made.arms at first arm_at test) middle h) (runs text left middle inside (Made.nodes body last) third n))
    (runs text left third rest (Made.nodes otherwise others) after o)))

-- the cache tags of a template are numbered from 0
pub template_runs : (text : List ℕ) (tree : List Node) → tree_of text ≡ Ok tree → (after : ℕ) × IsRun 0 (tree_numbers tree) after
template_runs text tree parsed =
    let is = text_found text tree parsed in
    (is.after, subst (λ nodes. IsRun 0 (tree_numbers nodes) is.after) (sym is.is) (subst (λ ns. IsRun 0 ns is.after) (sym (text_numbers is.before is.bytes)) (runs text 64 0 is.pieces (Made.nodes is.before is.bytes) is.after is.makes)))

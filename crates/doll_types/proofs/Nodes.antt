-- What is found in nodes with parts, by what is found in their parts.
use Rattle.std.proofs.Common.{◌≡◌, ℕ, ◌+◌, ◌<◌, List, [], ◌∷◌, ◌++◌, length, take, get_or, map, Ok, Err, refl, ap, sym, ◌∙◌}
use Rattle.std.proofs.lemmas.List.{append_assoc, flat_map_more, take_more}
use Rattle.std.specs.List.{flat_map}
use Rattle.std.proofs.lemmas.List.Folds.{flat_map-map}
use Rattle.doll_expr.specs.declared.expr.Expr.{Expr}
use Rattle.doll_erb.specs.declared.node.Node.{Node}
use Rattle.doll_erb.specs.declared.node.Node as node
use Rattle.doll_erb.specs.declared.node.Node.TheFolds.{fold-roll-Node, fold_out-Arm}
use Rattle.doll_erb.specs.declared.node.Node.TheVariants.{rolls-If, rolls-Each, rolls-Cache}
use Rattle.doll_erb.specs.declared.node.Node.TheOpen.{Node-F}
use Rattle.doll_erb.specs.declared.node.Arm.{Arm, fold-Arm}
use Rattle.doll_erb.specs.declared.node.KeyPart.{KeyPart}
use Rattle.doll_schema.specs.Models.{ModelList}
use Rattle.doll_types.specs.declared.findings.Finding.{Finding}
use Rattle.doll_types.specs.declared.findings.Finding.TheVariants.{Fault}
use Rattle.doll_types.specs.declared.types.ValueType.{ValueType}
use Rattle.doll_types.specs.declared.types.TypeKind.{TypeKind}
use Rattle.doll_types.specs.Types.{Typing, type_of}
use Rattle.doll_types.specs.Findings.{Finds, arm_found, failed, found_in, found_step, findings, in_order, items_type, part_found, with_items}

by_step : (schema : ModelList) (layer : Node-F Node Arm) (whole : Node) (typing : Typing) → node.roll-Node layer ≡ whole → found_in schema whole typing ≡ found_in schema (node.roll-Node layer) typing
by_step schema layer whole typing rolls = ap (λ n. found_in schema n typing) (sym rolls)

parts : (schema : ModelList) (body : List Node) (typing : Typing) → in_order (map (found_in schema) body) typing ≡ findings schema body typing
parts schema body typing = flat_map-map (λ (part : Finds). part typing) (found_in schema) body

-- what is found in the arms of an `if`
abbrev pub arms_found : ModelList → List Arm → Typing → List Finding
arms_found schema arms typing = flat_map (λ (arm : Arm). failed arm.at (type_of schema typing arm.test) ++ findings schema arm.body typing) arms

arms_parts : (schema : ModelList) (arms : List Arm) (typing : Typing) → in_order (map (fold-Arm Finds Finds (found_step schema) (arm_found schema)) arms) typing ≡ arms_found schema arms typing
arms_parts schema [] typing = refl
arms_parts schema (arm ∷ arms) typing =
    ap (λ found. found ++ in_order (map (fold-Arm Finds Finds (found_step schema) (arm_found schema)) arms) typing)
    (ap (λ (f : Finds). f typing) (fold_out-Arm Finds Finds (found_step schema) (arm_found schema) arm)
    ∙ ap (λ found. failed arm.at (type_of schema typing arm.test) ++ found) (parts schema arm.body typing))
    ∙ ap (λ found. (failed arm.at (type_of schema typing arm.test) ++ findings schema arm.body typing) ++ found) (arms_parts schema arms typing)

pub if_found : (schema : ModelList) (at : ℕ) (arms : List Arm) (otherwise : List Node) (typing : Typing) → found_in schema (node.If at arms otherwise) typing ≡ arms_found schema arms typing ++ findings schema otherwise typing
if_found schema at arms otherwise typing =
    by_step schema (Node-F.If at arms otherwise) (node.If at arms otherwise) typing (rolls-If at arms otherwise)
    ∙ ap (λ (f : Finds). f typing) (fold-roll-Node Finds Finds (found_step schema) (arm_found schema) (Node-F.If at arms otherwise))
    ∙ ap (λ found. found ++ in_order (map (found_in schema) otherwise) typing) (arms_parts schema arms typing)
    ∙ ap (λ found. arms_found schema arms typing ++ found) (parts schema otherwise typing)

each_by : (schema : ModelList) (at : ℕ) (list : Expr) (name : List ℕ) (body : List Node) (typing : Typing) → found_in schema (node.Each at list name body) typing ≡ with_items at (items_type schema typing list) (λ t. in_order (map (found_in schema) body) (typing ++ (name, t) ∷ []))
each_by schema at list name body typing =
    by_step schema (Node-F.Each at list name body) (node.Each at list name body) typing (rolls-Each at list name body)
    ∙ ap (λ (f : Finds). f typing) (fold-roll-Node Finds Finds (found_step schema) (arm_found schema) (Node-F.Each at list name body))

pub each_found : (schema : ModelList) (at : ℕ) (list : Expr) (name : List ℕ) (body : List Node) (typing : Typing) (item : ValueType) → items_type schema typing list ≡ Ok item → found_in schema (node.Each at list name body) typing ≡ findings schema body (typing ++ (name, item) ∷ [])
each_found schema at list name body typing item is =
    each_by schema at list name body typing
    ∙ ap (λ of. with_items at of (λ t. in_order (map (found_in schema) body) (typing ++ (name, t) ∷ []))) is
    ∙ parts schema body (typing ++ (name, item) ∷ [])

pub each_fails : (schema : ModelList) (at : ℕ) (list : Expr) (name : List ℕ) (body : List Node) (typing : Typing) (kind : TypeKind) → items_type schema typing list ≡ Err kind → found_in schema (node.Each at list name body) typing ≡ Fault at kind ∷ []
each_fails schema at list name body typing kind is =
    each_by schema at list name body typing
    ∙ ap (λ of. with_items at of (λ t. in_order (map (found_in schema) body) (typing ++ (name, t) ∷ []))) is

pub cache_found : (schema : ModelList) (at block : ℕ) (key : List KeyPart) (body : List Node) (typing : Typing) → found_in schema (node.Cache at block key body) typing ≡ flat_map (part_found schema typing at) key ++ findings schema body typing
cache_found schema at block key body typing =
    by_step schema (Node-F.Cache at block key body) (node.Cache at block key body) typing (rolls-Cache at block key body)
    ∙ ap (λ (f : Finds). f typing) (fold-roll-Node Finds Finds (found_step schema) (arm_found schema) (Node-F.Cache at block key body))
    ∙ ap (λ found. flat_map (part_found schema typing at) key ++ found) (parts schema body typing)

-- one arm more
pub arm_done : (schema : ModelList) (arms : List Arm) (at : ℕ) (arm : Arm) (typing now : Typing) (body : List Node) (before so_far tested after : List Finding) → at < length arms → arm ≡ get_or arms at arm → now ≡ typing → body ≡ arm.body → so_far ≡ before ++ arms_found schema (take at arms) typing → tested ≡ so_far ++ failed arm.at (type_of schema now arm.test) → after ≡ tested ++ findings schema body now → after ≡ before ++ arms_found schema (take (at + 1) arms) typing
arm_done schema arms at arm typing now body before so_far tested after within is same body_is so tests ends =
    ends
    ∙ ap (λ b. tested ++ findings schema b now) body_is
    ∙ ap (λ t. t ++ findings schema arm.body now) tests
    ∙ ap (λ n. (so_far ++ failed arm.at (type_of schema n arm.test)) ++ findings schema arm.body n) same
    ∙ ap (λ s. (s ++ failed arm.at (type_of schema typing arm.test)) ++ findings schema arm.body typing) so
    ∙ append_assoc (before ++ arms_found schema (take at arms) typing) (failed arm.at (type_of schema typing arm.test)) (findings schema arm.body typing)
    ∙ ap (λ a. (before ++ arms_found schema (take at arms) typing) ++ found a) is
    ∙ flat_map_more found before (take at arms) (get_or arms at arm)
    ∙ ap (λ done. before ++ flat_map found done) (sym (take_more arms at arm within))
  where
    found : Arm → List Finding
    found a = failed a.at (type_of schema typing a.test) ++ findings schema a.body typing

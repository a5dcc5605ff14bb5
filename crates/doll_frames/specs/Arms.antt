-- The arm of an `if` that is taken (this project's own).
use Rattle.std.specs.Prelude.{ℕ, suc, ◌+◌, List, [], ◌∷◌, slice_get, if◌then◌else◌}
use Rattle.std.specs.Option.{option_map_or}
use Rattle.doll_erb.specs.declared.node.Arm.{Arm}
use Rattle.doll_erb.specs.declared.node.Node.{Node}
use Rattle.doll_schema.specs.Models.{ModelList}
use Rattle.doll_table.specs.Tables.{TableMap}
use Rattle.doll_eval.specs.Operations.{is_true}
use Rattle.doll_eval.specs.Values.{looks_of, value_of}
use Rattle.doll_plain.specs.Direct.{Variables}

-- the place of the first arm whose test holds, behind all of them where none does
abbrev pub chosen_place : ModelList → TableMap → List Arm → Variables → ℕ
chosen_place schema table [] vars = 0
chosen_place schema table (arm ∷ arms) vars =
    if is_true (value_of arm.test vars schema table) then 0 else suc (chosen_place schema table arms vars)

-- the looks that the tests may take: those up to the first that holds
abbrev pub tests_looks : ModelList → TableMap → List Arm → Variables → ℕ
tests_looks schema table [] vars = 0
tests_looks schema table (arm ∷ arms) vars =
    looks_of arm.test vars schema table + (if is_true (value_of arm.test vars schema table) then 0 else tests_looks schema table arms vars)

-- the body of the arm at a place, else the last part
abbrev pub arm_body : List Arm → List Node → ℕ → List Node
arm_body arms otherwise place = option_map_or (λ (arm : Arm). arm.body) (slice_get arms place) otherwise

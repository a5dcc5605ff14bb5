-- The lines that tell the faults of a set (this project's own).
use Rattle.std.specs.Prelude.{ℕ, List, ◌++◌, codes}
use Rattle.std.specs.Fmt.{decimal}
use Rattle.std.specs.List.{flat_map}
use Rattle.doll_types.specs.declared.fault.TypeFault.{TypeFault}
use Rattle.doll_types.specs.declared.types.TypeKind.{TypeKind}
use Rattle.doll_types.specs.declared.types.TypeKind.TheVariants.{MissingTemplate, UnknownVariable, UnknownStep, Mismatch, NotPrintable, NotList, BadKey}
use Rattle.doll_lint.specs.declared.fault.LintFault.{LintFault}
use Rattle.doll_lint.specs.declared.fault.LintKind.{LintKind}
use Rattle.doll_lint.specs.declared.fault.LintKind.TheVariants.{Uncovered, NoTouch, SharedKey, OutsideVariable}

-- a fault of a template at a place: the template, a colon, the place, a colon and what is wrong
abbrev pub fault_line : List ℕ → ℕ → List ℕ → List ℕ
fault_line template at what = template ++ codes ":" ++ decimal at ++ codes ": " ++ what ++ codes "\n"

-- a kind with what it carries behind a space
abbrev pub carrying : List ℕ → List ℕ → List ℕ
carrying word carried = word ++ codes " " ++ carried

-- ---- types

abbrev pub type_words : TypeKind → List ℕ
type_words MissingTemplate = codes "MissingTemplate"
type_words (UnknownVariable name) = carrying (codes "UnknownVariable") name
type_words (UnknownStep name) = carrying (codes "UnknownStep") name
type_words Mismatch = codes "Mismatch"
type_words NotPrintable = codes "NotPrintable"
type_words NotList = codes "NotList"
type_words BadKey = codes "BadKey"

abbrev pub type_line : TypeFault → List ℕ
type_line fault = fault_line fault.template fault.at (type_words fault.kind)

-- a line for each fault, in their order
abbrev pub type_lines : List TypeFault → List ℕ
type_lines faults = flat_map type_line faults

-- ---- the lint

abbrev pub lint_words : LintKind → List ℕ
lint_words (Uncovered path) = carrying (codes "Uncovered") path
lint_words (NoTouch name) = carrying (codes "NoTouch") name
lint_words (SharedKey other) = carrying (codes "SharedKey") (decimal other)
lint_words (OutsideVariable name) = carrying (codes "OutsideVariable") name

abbrev pub lint_line : LintFault → List ℕ
lint_line fault = fault_line fault.template fault.at (lint_words fault.kind)

-- a line for each fault, in their order
abbrev pub lint_lines : List LintFault → List ℕ
lint_lines faults = flat_map lint_line faults

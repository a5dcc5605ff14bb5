-- The faults of a set's types, and their order (this project's own).
use Rattle.std.specs.Prelude.{ℕ, ◌==◌, Bool, List, [], ◌∷◌}
use Rattle.std.specs.Cmp.Lexicographic.{pointwise, slice_cmp}
use Rattle.std.specs.declared.cmp.Ordering.{Ordering}
use Rattle.std.specs.List.{Contains, flat_map}
use Rattle.std.specs.List.Sorted.{IsStrictlySortedBy}
use Rattle.std.specs.Option.{option_map_or}
use Rattle.std.specs.Ordering.{eq_of_both, nat_cmp, on, then_cmp}
use Rattle.doll_schema.specs.Models.{ModelList}
use Rattle.doll_route.specs.declared.route.Route.{Route}
use Rattle.doll_set.specs.Dependencies.{names_of, number_of}
use Rattle.doll_set.specs.Digests.{name_at}
use Rattle.doll_set.specs.Sets.{ReadSet}
use Rattle.doll_types.specs.declared.fault.TypeFault.{TypeFault}
use Rattle.doll_types.specs.declared.findings.Finding.{Finding}
use Rattle.doll_types.specs.declared.findings.Finding.TheVariants.{Fault, Call}
use Rattle.doll_types.specs.declared.reached.Reached.{Reached}
use Rattle.doll_types.specs.declared.types.TypeKind.{TypeKind}
use Rattle.doll_types.specs.declared.types.TypeKind.TheVariants as kind
use Rattle.doll_types.specs.Reached.{IsReached, findings_at}

-- ---- faults

-- the fault of a route whose template isn't in the set
abbrev pub missing_of : ReadSet → Route → List TypeFault
missing_of set route =
    option_map_or (λ number. []) (number_of (names_of set.templates) route.template) (record { template = route.template; at = 0; kind = kind.MissingTemplate } ∷ [])

-- those of all routes
abbrev pub missing : ReadSet → List Route → List TypeFault
missing set routes = flat_map (missing_of set) routes

-- a fault that is found in the template with a name
abbrev pub fault_at : List ℕ → Finding → List TypeFault
fault_at template (Fault at kind) = record { template = template; at = at; kind = kind } ∷ []
fault_at template (Call name typing) = []

-- the faults of a template under a typing
unfoldable pub faults_of : ReadSet → ModelList → Reached → List TypeFault
faults_of set schema reached = flat_map (fault_at (name_at set.templates reached.template)) (findings_at set schema reached)

-- A fault of a set with a schema and routes: a route's template is missing, or a template has it that a page reaches, with the types with which
-- it is reached.
pub data IsTypeFault (set : ReadSet) (schema : ModelList) (routes : List Route) : TypeFault → Type 0 where
  of_route : (fault : TypeFault) → Contains (missing set routes) fault → IsTypeFault set schema routes fault
  of_template : (reached : Reached) (fault : TypeFault) → IsReached set schema routes reached → Contains (faults_of set schema reached) fault
      → IsTypeFault set schema routes fault

-- no fault is there
abbrev pub IsTyped : ReadSet → ModelList → List Route → Type 0
IsTyped set schema routes = (fault : TypeFault) → IsTypeFault set schema routes fault → ⊥

-- ---- order

-- the place of a kind among the kinds
abbrev pub kind_place : TypeKind → ℕ
kind_place kind.MissingTemplate = 0
kind_place (kind.UnknownVariable name) = 1
kind_place (kind.UnknownStep name) = 2
kind_place kind.Mismatch = 3
kind_place kind.NotPrintable = 4
kind_place kind.NotList = 5
kind_place kind.BadKey = 6

-- the name that a kind carries, nothing where it carries none
abbrev pub kind_name : TypeKind → List ℕ
kind_name (kind.UnknownVariable name) = name
kind_name (kind.UnknownStep name) = name
kind_name other = []

-- faults go by template, place and kind, of one kind by the name that it carries
abbrev pub fault_order : TypeFault → TypeFault → Ordering
fault_order =
    then_cmp (on (λ (f : TypeFault). f.template) (slice_cmp nat_cmp))
    (then_cmp (on (λ (f : TypeFault). f.at) nat_cmp)
    (then_cmp (on (λ (f : TypeFault). kind_place f.kind) nat_cmp) (on (λ (f : TypeFault). kind_name f.kind) (slice_cmp nat_cmp))))

-- the same fault
abbrev pub same_fault : TypeFault → TypeFault → Bool
same_fault =
    eq_of_both (on (λ (f : TypeFault). f.template) (pointwise ◌==◌))
    (eq_of_both (on (λ (f : TypeFault). f.at) ◌==◌)
    (eq_of_both (on (λ (f : TypeFault). kind_place f.kind) ◌==◌) (on (λ (f : TypeFault). kind_name f.kind) (pointwise ◌==◌))))

-- the same faults, each once, in their order
pub record AreInOrder (faults once : List TypeFault) : Type 0 where
  pub ascend : IsStrictlySortedBy fault_order once
  pub kept : (fault : TypeFault) → Contains faults fault → Contains once fault
  pub only : (fault : TypeFault) → Contains once fault → Contains faults fault

-- These are exactly the faults of a set, each once, in their order.
pub record AreTypeFaults (set : ReadSet) (schema : ModelList) (routes : List Route) (faults : List TypeFault) : Type 0 where
  pub ascend : IsStrictlySortedBy fault_order faults
  pub each : (fault : TypeFault) → Contains faults fault → IsTypeFault set schema routes fault
  pub all : (fault : TypeFault) → IsTypeFault set schema routes fault → Contains faults fault

use Rattle.std.proofs.Common.{◌≡◌, ◌++◌, take}
use Rattle.doll_key.specs.Components.{components_text}
use Rattle.doll_key.proofs.components.append_components.Given as goal

abbrev pub invariant-loop-component : goal.invariant-loop-component
invariant-loop-component l = l.out.items ≡ l.initial.out.items ++ components_text (take l.component-index l.components)

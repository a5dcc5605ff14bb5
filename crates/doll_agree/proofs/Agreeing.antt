-- A block of a typed and clean set shows the same on two pages where its key tells the same.
use Rattle.std.proofs.Common.{◌≡◌, ℕ, zero, suc, Bool, true, false, List, None, refl}
use Rattle.std.specs.List.{AllByRecursion, Contains}
use Rattle.doll_erb.specs.declared.node.KeyPart.{KeyPart}
use Rattle.doll_route.specs.declared.route.Route.{Route}
use Rattle.doll_schema.specs.Models.{ModelList}
use Rattle.doll_set.specs.Sets.{ReadSet}
use Rattle.doll_set.specs.declared.limits.TheConstants.{LONGEST_CHAIN}
use Rattle.doll_plain.specs.Pages.{levels_write}
use Rattle.doll_types.specs.Faults.{IsTyped}
use Rattle.doll_types.specs.Types.{Typing}
use Rattle.doll_lint.specs.declared.needs.Need.{Need}
use Rattle.doll_lint.specs.Blocks.{Block, key_paths, scope_roots}
use Rattle.doll_lint.specs.Faults.{IsBlock, IsClean, IsLintFault, block_needs, is_met}
use Rattle.doll_lint.specs.Needs.{levels_need, tree_at}
use Rattle.doll_agree.specs.Bodies.{BodiesAgree}
use Rattle.doll_agree.specs.Standing.{AreAsked, Pages}
use Rattle.doll_agree.proofs.Bodies.{TemplatesAgree, tree_same}
use Rattle.doll_agree.proofs.Children.{children_agree}
use Rattle.doll_agree.proofs.Lists.{each_of}
use Rattle.doll_agree.proofs.Reaching.{IsFine, block_fine, reached_good}
use Rattle.doll_agree.proofs.Scopes.{block_scope}

-- templates agree by so many levels of partials
templates_agree : (p : Pages) (typing : Typing) (key : List KeyPart) (asked : AreAsked p typing key) (set : ReadSet) (routes : List Route) → IsTyped set p.schema routes → (levels : ℕ)
    → TemplatesAgree p typing key asked set routes (levels_need p.schema set.templates levels) (levels_write p.schema p.one set.templates levels) (levels_write p.schema p.other set.templates levels)
unfolding levels_need levels_write
templates_agree p typing key asked set routes typed zero number outer types standing here there scope reached told = refl
templates_agree p typing key asked set routes typed (suc levels) number outer types standing here there scope reached told =
    tree_same p typing key asked set routes (levels_need p.schema set.templates levels) (levels_write p.schema p.one set.templates levels) (levels_write p.schema p.other set.templates levels)
    (templates_agree p typing key asked set routes typed levels) number (tree_at set.templates number) outer types standing here there scope (reached_good set p.schema routes typed number types reached) told

-- a key tells what the body of its block needs
needs_met : (set : ReadSet) (schema : ModelList) (routes : List Route) (block : Block) → IsClean set schema routes → IsBlock set schema routes block
    → AllByRecursion (λ (need : Need). is_met schema (key_paths schema block) need ≡ true) (block_needs schema set.templates block)
needs_met set schema routes block clean is = each_of (λ (need : Need). is_met schema (key_paths schema block) need ≡ true) (block_needs schema set.templates block) met
  where
    met : (need : Need) → Contains (block_needs schema set.templates block) need → is_met schema (key_paths schema block) need ≡ true
    met need among = by (is_met schema (key_paths schema block) need) refl
      where
        by : (b : Bool) → is_met schema (key_paths schema block) need ≡ b → b ≡ true
        by true e = refl
        by false e = absurd (clean _ (IsLintFault.of_need block need is among e))

pub bodies_agree : BodiesAgree
unfolding block_needs
bodies_agree set schema routes block one other here there typed clean is fits fits_there history have agree =
    tree_same p block.typing block.key asked set routes (levels_need schema set.templates LONGEST_CHAIN) (levels_write schema one set.templates LONGEST_CHAIN) (levels_write schema other set.templates LONGEST_CHAIN)
    (templates_agree p block.typing block.key asked set routes typed LONGEST_CHAIN) block.template block.body None block.typing (scope_roots block.typing) here there
    (block_scope p block.typing block.key asked) fine.good (needs_met set schema routes block clean is)
  where
    p : Pages
    p = record { schema = schema; one = one; other = other; here = here; there = there }

    fine : IsFine set schema routes typed block
    fine = block_fine set schema routes typed block is

    asked : AreAsked p block.typing block.key
    asked = record { fits = fits; fits_there = fits_there; children = children_agree schema one other history; have = have; agree = agree; parts = fine.parts }

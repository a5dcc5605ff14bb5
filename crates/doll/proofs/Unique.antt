-- A site has one reply to a command.
use Rattle.std.proofs.Common.{◌≡◌, ◌≢◌, ℕ, List, [], ◌∷◌, refl, ap, sym, subst, ◌∙◌}
use Rattle.doll_bundle.specs.Sites.{Site}
use Rattle.doll_faults.proofs.Ascending.{one_lint_list, one_type_list}
use Rattle.doll_route.specs.declared.route.Route.{Route}
use Rattle.doll_schema.specs.Models.{ModelList}
use Rattle.doll_set.specs.Sets.{ReadSet}
use Rattle.doll_types.specs.declared.fault.TypeFault.{TypeFault}
use Rattle.doll.specs.declared.reply.Reply.{Reply}
use Rattle.doll.specs.Replies.{IsLinted, IsLintReply, IsPlainReply, IsSiteReply, TellsLint, lint_reply, plain_reply}
use Rattle.doll.specs.Words.{Command, Plain, Lint, Digests, Replay}

one_page : (site : Site) (path : List ℕ) (one other : Reply) → IsPlainReply site path one → IsPlainReply site path other → one ≡ other
one_page site path one other a b = a.2 ∙ ap (plain_reply site path) (one_type_list site.set site.schema site.routes a.0 b.0 a.1 b.1) ∙ sym b.2

one_linted : (set : ReadSet) (schema : ModelList) (routes : List Route) (one other : Reply) → IsLinted set schema routes one → IsLinted set schema routes other → one ≡ other
one_linted set schema routes one other a b = a.2 ∙ ap lint_reply (one_lint_list set schema routes a.0 b.0 a.1 b.1) ∙ sym b.2

one_told : (site : Site) (faults : List TypeFault) (one other : Reply) → TellsLint site faults one → TellsLint site faults other → one ≡ other
one_told site [] one other a b = one_linted site.set site.schema site.routes one other a b
one_told site (fault ∷ faults) one other a b = a ∙ sym b

one_lint : (site : Site) (one other : Reply) → IsLintReply site one → IsLintReply site other → one ≡ other
one_lint site one other a b =
    one_told site b.0 one other (subst (λ faults. TellsLint site faults one) (one_type_list site.set site.schema site.routes a.0 b.0 a.1 b.1) a.2) b.2

pub one_reply : (command : Command) (site : Site) (one other : Reply) → command ≢ Replay → IsSiteReply command site one → IsSiteReply command site other → one ≡ other
one_reply (Plain path) site one other but a b = one_page site path one other a b
one_reply Lint site one other but a b = one_lint site one other a b
one_reply Digests site one other but a b = a ∙ sym b
one_reply Replay site one other but a b = absurd (but refl)

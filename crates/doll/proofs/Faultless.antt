-- What is told of sites whose templates have no faults.
use Rattle.std.proofs.Common.{◌≡◌, ℕ, List, [], Result, Ok, Err, IfOk, ap, sym, ◌∙◌, arith}
use Rattle.std.specs.List.Sorted.{IsStrictlySortedBy}
use Rattle.doll_bundle.specs.Sites.{Site, page_after}
use Rattle.doll_lint.specs.Faults.{AreLintFaults, IsClean}
use Rattle.doll_route.specs.declared.route.Route.{Route}
use Rattle.doll_schema.specs.Models.{ModelList}
use Rattle.doll_set.specs.Sets.{ReadSet}
use Rattle.doll_types.specs.Faults.{AreTypeFaults, IsTyped}
use Rattle.doll.specs.declared.reply.Reply.{Reply}
use Rattle.doll.specs.Replies.{IsLinted, IsLintReply, IsPlainReply, lint_reply, page_reply}

-- a set without faults has no faults to tell
pub typed_none : (set : ReadSet) (schema : ModelList) (routes : List Route) → IsTyped set schema routes → AreTypeFaults set schema routes []
unfolding IsStrictlySortedBy
typed_none set schema routes typed = record { ascend = tt; each = λ fault here. absurd (omega (arith, here.1)); all = λ fault is. absurd (typed fault is) }

pub clean_none : (set : ReadSet) (schema : ModelList) (routes : List Route) → IsClean set schema routes → AreLintFaults set schema routes []
unfolding IsStrictlySortedBy
clean_none set schema routes clean = record { ascend = tt; each = λ fault here. absurd (omega (arith, here.1)); all = λ fault is. absurd (clean fault is) }

-- a clean set is told to be clean
pub clean_reply : {F : Type 0} (set : ReadSet) (schema : ModelList) (routes : List Route) (result : Result Reply F) → IsClean set schema routes → IfOk result (λ reply. reply ≡ lint_reply [])
    → IfOk result (IsLinted set schema routes)
clean_reply set schema routes (Ok reply) clean is = ([], clean_none set schema routes clean, is)
clean_reply set schema routes (Err e) clean is = tt

-- of a typed site the page is told, and what its lint finds
pub typed_page : {F : Type 0} (site : Site) (path : List ℕ) (set : ReadSet) (schema : ModelList) (result : Result Reply F) → set ≡ site.set → schema ≡ site.schema → IsTyped site.set site.schema site.routes
    → IfOk result (λ reply. reply ≡ page_reply (page_after schema site.routes set site.history path) path) → IfOk result (IsPlainReply site path)
typed_page site path set schema (Ok reply) sets schemas typed is =
    let same_set = ap (λ s. page_reply (page_after schema site.routes s site.history path) path) sets in
    let same_schema = ap (λ s. page_reply (page_after s site.routes site.set site.history path) path) schemas in
    ([], typed_none site.set site.schema site.routes typed, is ∙ same_set ∙ same_schema)
typed_page site path set schema (Err e) sets schemas typed is = tt

pub typed_lint : {F : Type 0} (site : Site) (set : ReadSet) (schema : ModelList) (routes : List Route) (result : Result Reply F) → set ≡ site.set → schema ≡ site.schema → routes ≡ site.routes → IsTyped site.set site.schema site.routes
    → IfOk result (IsLinted set schema routes) → IfOk result (IsLintReply site)
typed_lint site set schema routes (Ok reply) sets schemas same typed linted =
    ([], typed_none site.set site.schema site.routes typed, rw (sym sets, sym schemas, sym same) linted)
typed_lint site set schema routes (Err e) sets schemas same typed linted = tt

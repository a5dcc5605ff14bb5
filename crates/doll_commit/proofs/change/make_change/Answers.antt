use Rattle.std.proofs.Common.{sym, subst}
use Rattle.doll_commit.specs.Answers.{Refuses}
use Rattle.std.proofs.lemmas.Result.{err_from_is_err_and}
use Rattle.doll_commit.specs.Changes.{model_of, create, update, destroy, touch}
use Rattle.doll_commit.proofs.Making.{refuses_then}
use Rattle.doll_commit.proofs.change.make_change.Goals as goal

pub returns-in_err-model-in-Create-clause-exact : goal.returns-in_err-model-in-Create-clause-exact
returns-in_err-model-in-Create-clause-exact c =
    let schema = c.args.schema.now in
    let table = c.args.course.now.table in
    let p = err_from_is_err_and c.from_residual.result c.from_residual.ensures.1 in
    rw (p.1, c.in-Create.is) (refuses_then (model_of schema c.in-Create.model) (create table schema c.in-Create.values) p.0
    (subst (λ e. Refuses (model_of schema c.in-Create.model) e) (sym p.2) (subst (λ n. Refuses (model_of schema n) c.in_err-model-in-Create.field-0.0) c.as_bytes.ensures c.in_err-model-in-Create.ensures.exact)))

pub returns-in_err-model-in-Update-clause-exact : goal.returns-in_err-model-in-Update-clause-exact
returns-in_err-model-in-Update-clause-exact c =
    let schema = c.args.schema.now in
    let table = c.args.course.now.table in
    let p = err_from_is_err_and c.from_residual-in_err-model-in-Update.result c.from_residual-in_err-model-in-Update.ensures.1 in
    rw (p.1, c.in-Update.is) (refuses_then (model_of schema c.in-Update.model) (λ m. update table schema c.in-Update.values (m, c.in-Update.id)) p.0
    (subst (λ e. Refuses (model_of schema c.in-Update.model) e) (sym p.2) (subst (λ n. Refuses (model_of schema n) c.in_err-model-in-Update.field-0.0) c.as_bytes-in-Update.ensures c.in_err-model-in-Update.ensures.exact)))

pub returns-in_err-model-in-Destroy-clause-exact : goal.returns-in_err-model-in-Destroy-clause-exact
returns-in_err-model-in-Destroy-clause-exact c =
    let schema = c.args.schema.now in
    let table = c.args.course.now.table in
    let p = err_from_is_err_and c.from_residual-in_err-model-in-Destroy.result c.from_residual-in_err-model-in-Destroy.ensures.1 in
    rw (p.1, c.in-Destroy.is) (refuses_then (model_of schema c.in-Destroy.model) (λ m. destroy table schema (m, c.in-Destroy.id)) p.0
    (subst (λ e. Refuses (model_of schema c.in-Destroy.model) e) (sym p.2) (subst (λ n. Refuses (model_of schema n) c.in_err-model-in-Destroy.field-0.0) c.as_bytes-in-Destroy.ensures c.in_err-model-in-Destroy.ensures.exact)))

pub returns-in_err-model-in-Touch-clause-exact : goal.returns-in_err-model-in-Touch-clause-exact
returns-in_err-model-in-Touch-clause-exact c =
    let schema = c.args.schema.now in
    let table = c.args.course.now.table in
    let p = err_from_is_err_and c.from_residual-in_err-model-in-Touch.result c.from_residual-in_err-model-in-Touch.ensures.1 in
    rw (p.1, c.in-Touch.is) (refuses_then (model_of schema c.in-Touch.model) (λ m. touch table (m, c.in-Touch.id)) p.0
    (subst (λ e. Refuses (model_of schema c.in-Touch.model) e) (sym p.2) (subst (λ n. Refuses (model_of schema n) c.in_err-model-in-Touch.field-0.0) c.as_bytes-in-Touch.ensures c.in_err-model-in-Touch.ensures.exact)))

use Rattle.std.proofs.Common.{◌<◌, ◌≤◌, ◌∙◌, ap, subst, sym}
use Rattle.std.specs.Option.{option_copied}
use Rattle.doll_job.proofs.Leads.{kept_all, kept_lacks, kept_on, kept_starts}
use Rattle.doll_job.proofs.steps.pass_found.Goals as goal

pub loop-kept-init : goal.loop-kept-init
loop-kept-init c =
    record {
      along = λ context table item looks. kept_starts context table item c.args.kept looks c.args.out.now;
      living = λ table lives. lives;
    }

pub loop-kept-preserved : goal.loop-kept-preserved
loop-kept-preserved c =
    record {
      along = λ context table item looks. kept_on context table item c.args.kept c.loop-kept.kept c.in-Some.bytes.now looks c.args.out.now c.loop-kept.out c.append.new.self (subst (λ n. c.loop-kept.kept.at < n) c.len.ensures c.loop-kept-test.true)
          (sym c.found_bytes.ensures ∙ ap option_copied c.in-Some.is) c.in_ok-append.ensures (c.loop-kept.invariant.along context table item looks);
      living = c.loop-kept.invariant.living;
    }

pub returns-in_default-clause-leads : goal.returns-in_default-clause-leads
returns-in_default-clause-leads c =
    λ context table item looks. kept_lacks context table item c.args.kept c.loop-kept.kept c.new.result looks c.args.out.now c.loop-kept.out (subst (λ n. c.loop-kept.kept.at < n) c.len.ensures c.loop-kept-test.true) (sym c.found_bytes.ensures ∙ ap option_copied c.in_default.is) c.new.ensures (c.loop-kept.invariant.along context table item looks)

pub returns-clause-leads : goal.returns-clause-leads
returns-clause-leads c =
    λ context table item looks. kept_all context table item c.args.kept c.loop-kept.kept looks c.args.out.now c.loop-kept.out (subst (λ n. n ≤ c.loop-kept.kept.at) c.len.ensures c.loop-kept-test.false) (c.loop-kept.invariant.along context table item looks)

use Rattle.std.proofs.Common.{◌≡◌, ◌==◌, ℕ, List, length, drop, true, sym, ap, ◌∙◌}
use Rattle.std.specs.List.{starts_with}
use Rattle.doll_erb.specs.Partials as spec
use Rattle.doll_erb.proofs.partial.dependency_of.Goals as goal

announced_yes : (bytes : List ℕ) → starts_with (λ a b. a == b) bytes spec.announcement ≡ true → spec.announced bytes ≡ spec.only_name (drop (length spec.announcement) bytes)
announced_yes bytes begins = rw begins

pub returns : goal.returns
unfolding spec.dependency_of
returns c =
    c.only_name.ensures
    ∙ ap spec.only_name c.split_at-2.ensures.back
    ∙ sym (announced_yes c.split_at.result.1.now (sym c.if-not-starts_with.ensures.value))
    ∙ ap spec.announced (c.split_at.ensures.back ∙ ap (λ n. drop n c.args.content.now) c.prefix_len.ensures.value)

-- Layers, number by number.
use Rattle.std.proofs.Common.{◌≡◌, ℕ, ◌+◌, ◌-◌, ◌<◌, Bool, true, false, not, ◌&&◌, List, [], ◌∷◌, ◌++◌, length, ap, sym, ◌∙◌}
use Rattle.std.specs.List.{filter, range_with_len}
use Rattle.std.proofs.lemmas.List.{append_assoc}
use Rattle.doll_graph.specs.Graphs.{Graph, longer_chains, dependents, has_mark, ends_at}
use Rattle.doll_graph.proofs.Ranges.{filter_past, filter_here}

-- whether a layer has a number, by the marks
marked : (graph : Graph) (most n : ℕ) (marks more : List Bool) → marks ≡ longer_chains graph most → more ≡ dependents graph marks → (has_mark marks n && not (has_mark more n)) ≡ ends_at graph most n
marked graph most n marks more is then =
    ap (λ m. has_mark marks n && not (has_mark m n)) then
    ∙ ap (λ m. has_mark m n && not (has_mark (dependents graph m) n)) is

pub ends_past : (graph : Graph) (most n : ℕ) (marks more : List Bool) (before whole : List ℕ) (last : Bool) → marks ≡ longer_chains graph most → more ≡ dependents graph marks → n < length graph → last ≡ (has_mark marks n && not (has_mark more n)) → last ≡ false → before ++ filter (ends_at graph most) (range_with_len n (length graph - n)) ≡ whole → before ++ filter (ends_at graph most) (range_with_len (n + 1) (length graph - (n + 1))) ≡ whole
ends_past graph most n marks more before whole last is then within says isnt so_far =
    ap (λ ns. before ++ ns) (sym (filter_past (ends_at graph most) n (length graph) within (sym (marked graph most n marks more is then) ∙ sym says ∙ isnt)))
    ∙ so_far

pub ends_here : (graph : Graph) (most n : ℕ) (marks more : List Bool) (before after whole : List ℕ) (last : Bool) → marks ≡ longer_chains graph most → more ≡ dependents graph marks → n < length graph → last ≡ (has_mark marks n && not (has_mark more n)) → last ≡ true → after ≡ before ++ n ∷ [] → before ++ filter (ends_at graph most) (range_with_len n (length graph - n)) ≡ whole → after ++ filter (ends_at graph most) (range_with_len (n + 1) (length graph - (n + 1))) ≡ whole
ends_here graph most n marks more before after whole last is then within says here pushed so_far =
    ap (λ a. a ++ filter (ends_at graph most) (range_with_len (n + 1) (length graph - (n + 1)))) pushed
    ∙ append_assoc before (n ∷ []) (filter (ends_at graph most) (range_with_len (n + 1) (length graph - (n + 1))))
    ∙ ap (λ ns. before ++ ns) (sym (filter_here (ends_at graph most) n (length graph) within (sym (marked graph most n marks more is then) ∙ sym says ∙ here)))
    ∙ so_far

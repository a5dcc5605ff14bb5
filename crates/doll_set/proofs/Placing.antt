-- The place behind those at the front that pass a test.
use Rattle.std.proofs.Common.{◌≡◌, ℕ, suc, ◌+◌, ◌<◌, ◌≤◌, Bool, true, false, cond, List, ◌∷◌, map, drop, drop-cons, length, get_or, ap, sym, subst, ◌∙◌, arith}
use Rattle.std.specs.List.{fold, insert, prefix_len}
use Rattle.std.proofs.lemmas.List.Edits.{length-insert}
use Rattle.indexmap.proofs.SetLemmas.{map-insert}
use Rattle.doll_base.specs.declared.in_memory.ViewFile.{ViewFile}
use Rattle.doll_set.specs.Files.{put_file}
use Rattle.doll_set.specs.Order.{isnt_above}

module _ {X : Type 0} (p : X → Bool) (xs : List X) (at : ℕ) (x : X) (within : at < length xs) (is : x ≡ get_or xs at x) where
  one : suc at ≡ at + 1
  one = omega arith

  front : drop at xs ≡ x ∷ drop (at + 1) xs
  front = drop-cons xs at x within ∙ ap (λ y. y ∷ drop (suc at) xs) (sym is) ∙ ap (λ k. x ∷ drop k xs) one

  by_first : (b : Bool) → p x ≡ b → at + prefix_len p (drop at xs) ≡ at + cond b (1 + prefix_len p (drop (at + 1) xs)) 0
  by_first b passes = ap (λ ys. at + prefix_len p ys) front ∙ ap (λ c. at + cond c (1 + prefix_len p (drop (at + 1) xs)) 0) passes

  -- it is further behind where the next passes, and here where it fails
  pub place_past : p x ≡ true → at + prefix_len p (drop at xs) ≡ (at + 1) + prefix_len p (drop (at + 1) xs)
  place_past passes = by_first true passes ∙ omega arith

  pub place_here : p x ≡ false → at + prefix_len p (drop at xs) ≡ at
  place_here fails = by_first false fails ∙ omega arith

-- a file put in its place is the first of those that are left
pub file_next : {Y : Type 0} (ys new slice : List Y) (place : ℕ) (v : Y → ViewFile) (file : ViewFile) (name : List ℕ) (files whole : List ViewFile) (at : ℕ) {y : Y} → new ≡ insert ys place y → v y ≡ file → at < length files → file ≡ get_or files at file → name ≡ file.name → slice ≡ ys
    → place ≡ prefix_len (λ (other : ViewFile). isnt_above other.name name) (map v slice) → fold put_file (map v ys) (drop at files) ≡ whole → fold put_file (map v new) (drop (at + 1) files) ≡ whole
file_next ys new slice place v file name files whole at {y} put is within here called same placed so_far =
    ap (λ zs. fold put_file (map v zs) (drop (at + 1) files)) put
    ∙ ap (λ fs. fold put_file fs (drop (at + 1) files)) (map-insert v ys place y)
    ∙ ap (λ one. fold put_file (insert (map v ys) place one) (drop (at + 1) files)) is
    ∙ ap (λ k. fold put_file (insert (map v ys) k file) (drop (at + 1) files)) by_name
    ∙ ap (fold put_file (map v ys)) (sym (front (λ _. true) files at file within here))
    ∙ so_far
  where
    by_name : place ≡ prefix_len (λ (other : ViewFile). isnt_above other.name file.name) (map v ys)
    by_name = placed ∙ ap (λ zs. prefix_len (λ (other : ViewFile). isnt_above other.name name) (map v zs)) same ∙ ap (λ called. prefix_len (λ (other : ViewFile). isnt_above other.name called) (map v ys)) called

-- with one more there is one more
pub one_longer : {Y : Type 0} (ys new slice : List Y) (place at : ℕ) (y : Y) → new ≡ insert ys place y → slice ≡ ys → place ≤ length slice → length ys ≡ at → length new ≡ at + 1
one_longer ys new slice place at y put same within long =
    ap length put ∙ length-insert ys place y (subst (λ zs. place ≤ length zs) same within) ∙ ap (λ n. n + 1) long

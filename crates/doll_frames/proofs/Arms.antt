-- The arms of an `if` from one on.
use Rattle.std.proofs.Common.{◌≡◌, ℕ, suc, ◌+◌, ◌<◌, ◌≤◌, true, false, cond, List, ◌∷◌, drop, length, get_or, ap, sym, ◌∙◌, arith, drop-cons}
use Rattle.std.proofs.lemmas.List.{drop_all}
use Rattle.doll_erb.specs.declared.node.Arm.{Arm}
use Rattle.doll_schema.specs.Models.{ModelList}
use Rattle.doll_table.specs.Tables.{TableMap}
use Rattle.doll_eval.specs.Operations.{is_true}
use Rattle.doll_eval.specs.Values.{looks_of, value_of}
use Rattle.doll_plain.specs.Direct.{Variables}
use Rattle.doll_frames.specs.Arms.{chosen_place, tests_looks}

module _ (schema : ModelList) (table : TableMap) (vars : Variables) where
  here : (arms : List Arm) (at : ℕ) (arm : Arm) → at < length arms → arm ≡ get_or arms at arm → drop at arms ≡ arm ∷ drop (at + 1) arms
  here arms at arm within is = drop-cons arms at arm within ∙ ap (λ a. a ∷ drop (suc at) arms) (sym is) ∙ ap (λ n. arm ∷ drop n arms) after
    where
      after : suc at ≡ at + 1
      after = omega arith

  pub place_here : (arms : List Arm) (at : ℕ) (arm : Arm) → at < length arms → arm ≡ get_or arms at arm → is_true (value_of arm.test vars schema table) ≡ true → chosen_place schema table (drop at arms) vars ≡ 0
  place_here arms at arm within is holds =
      ap (λ xs. chosen_place schema table xs vars) (here arms at arm within is) ∙ ap (λ b. cond b 0 (suc (chosen_place schema table (drop (at + 1) arms) vars))) holds

  pub place_on : (arms : List Arm) (at : ℕ) (arm : Arm) → at < length arms → arm ≡ get_or arms at arm → is_true (value_of arm.test vars schema table) ≡ false → chosen_place schema table (drop at arms) vars ≡ suc (chosen_place schema table (drop (at + 1) arms) vars)
  place_on arms at arm within is fails =
      ap (λ xs. chosen_place schema table xs vars) (here arms at arm within is) ∙ ap (λ b. cond b 0 (suc (chosen_place schema table (drop (at + 1) arms) vars))) fails

  pub place_last : (arms : List Arm) (at : ℕ) → length arms ≤ at → chosen_place schema table (drop at arms) vars ≡ 0
  place_last arms at past = ap (λ xs. chosen_place schema table xs vars) (drop_all at arms past)

  pub looks_here : (arms : List Arm) (at : ℕ) (arm : Arm) → at < length arms → arm ≡ get_or arms at arm → is_true (value_of arm.test vars schema table) ≡ true → tests_looks schema table (drop at arms) vars ≡ looks_of arm.test vars schema table + 0
  looks_here arms at arm within is holds =
      ap (λ xs. tests_looks schema table xs vars) (here arms at arm within is) ∙ ap (λ b. looks_of arm.test vars schema table + cond b 0 (tests_looks schema table (drop (at + 1) arms) vars)) holds

  pub looks_on : (arms : List Arm) (at : ℕ) (arm : Arm) → at < length arms → arm ≡ get_or arms at arm → is_true (value_of arm.test vars schema table) ≡ false → tests_looks schema table (drop at arms) vars ≡ looks_of arm.test vars schema table + tests_looks schema table (drop (at + 1) arms) vars
  looks_on arms at arm within is fails =
      ap (λ xs. tests_looks schema table xs vars) (here arms at arm within is) ∙ ap (λ b. looks_of arm.test vars schema table + cond b 0 (tests_looks schema table (drop (at + 1) arms) vars)) fails

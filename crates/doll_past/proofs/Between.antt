-- Later tables: one commit makes one, and what is later than a later one is later.
use Rattle.std.proofs.Common.{◌≡◌, ℕ, ◌<◌, ◌≤◌, Option, Some, None, IsSome, is_some, refl, sym, ◌∙◌, ap, subst, arith, ◌⊎◌, inl, inr}
use Rattle.std.proofs.lemmas.Bool.{true≢false, false_from_ne_true}
use Rattle.doll_schema.specs.declared.model.HasMany.{HasMany}
use Rattle.doll_schema.specs.declared.model.Schema.{Schema}
use Rattle.doll_schema.specs.declared.value.Row.{Row}
use Rattle.doll_journal.specs.declared.change.Commit.{Commit}
use Rattle.doll_table.specs.Tables.{TableMap, row_of, next_of, names_parent}
use Rattle.doll_table.specs.Fits.{Fits}
use Rattle.doll_commit.specs.Moments.{HasMoment}
use Rattle.doll_past.specs.Facts.{AreUpTo, Touches, HasSameChildren, IsLater, RecordsLiveOn}
use Rattle.doll_past.proofs.Succeeding.{Goes, IsCourse, commit_goes}
use Rattle.doll_past.proofs.Splitting.{IsMoved, Splits, commit_splits}
use Rattle.doll_past.proofs.Children.{AreAlike, names_touches, same_children}

same_row_of : (a b : Row) (o : Option Row) → o ≡ Some a → o ≡ Some b → a ≡ b
same_row_of a b o e f = cc

-- a record that lives early and late lives between
pub records_live_on : RecordsLiveOn
records_live_on schema first between last fits early late m id lives still = by_row (row_of between m id) refl
  where
    by_row : (o : Option Row) → row_of between m id ≡ o → IsSome (row_of between m id)
    by_row (Some row) is = ap is_some is
    by_row None is = absurd (omega (arith, (fits.ids m id lives).1, early.nexts m, late.new_ids m id still is))

-- ---- one commit

module _ (schema : Schema) (before after : TableMap) (first moment : ℕ) (up_to : AreUpTo first before) (above : first < moment) (goes : Goes schema before after) (splits : Splits schema before after moment) where
  moments : (m id : ℕ) (a b : Row) → row_of before m id ≡ Some a → row_of after m id ≡ Some b → a.updated_at ≤ b.updated_at
  moments m id a b was is = by_split (splits (m, id))
    where
      by_split : (row_of before m id ≡ row_of after m id) ⊎ IsMoved schema before after moment (m, id) → a.updated_at ≤ b.updated_at
      by_split (inl same) = let e = same_row_of a b (row_of after m id) (sym same ∙ was) is in subst (λ (r : Row). a.updated_at ≤ r.updated_at) e (omega arith)
      by_split (inr moved) = omega (arith, moved.itself b is, up_to m id a was, above)

  -- a record whose moment is as it was doesn't have the commit's
  early : (m id : ℕ) (a b : Row) → row_of before m id ≡ Some a → row_of after m id ≡ Some b → a.updated_at ≡ b.updated_at → HasMoment after moment (m, id) → ⊥
  early m id a b was is same has_moment = omega (arith, has_moment b is, up_to m id a was, above, same)

  same_row : (m id : ℕ) (a b : Row) → row_of before m id ≡ Some a → row_of after m id ≡ Some b → a.updated_at ≡ b.updated_at → row_of before m id ≡ row_of after m id
  same_row m id a b was is same = by_split (splits (m, id))
    where
      by_split : (row_of before m id ≡ row_of after m id) ⊎ IsMoved schema before after moment (m, id) → row_of before m id ≡ row_of after m id
      by_split (inl e) = e
      by_split (inr moved) = absurd (early m id a b was is same moved.itself)

  children_same : (m id place : ℕ) (many : HasMany) (a b : Row) → row_of before m id ≡ Some a → row_of after m id ≡ Some b → a.updated_at ≡ b.updated_at → Touches schema m many → HasSameChildren before after many id
  children_same m id place many a b was is same touches = same_children before after many id (λ child. by_split child (splits (many.model, child)))
    where
      by_split : (child : ℕ) → (row_of before many.model child ≡ row_of after many.model child) ⊎ IsMoved schema before after moment (many.model, child) → AreAlike (names_parent many.inverse id) (row_of before many.model child) (row_of after many.model child)
      by_split child (inl e) = inl e
      by_split child (inr moved) =
          inr (
            (λ row here. false_from_ne_true (names_parent many.inverse id row) (λ names. early m id a b was is same (moved.parents_before (m, id) (names_touches schema before m id child many row touches here names)))),
            (λ row here. false_from_ne_true (names_parent many.inverse id row) (λ names. early m id a b was is same (moved.parents_after (m, id) (names_touches schema after m id child many row touches here names)))),
          )

  one_later : IsLater schema before after
  one_later = record { moments = moments; same_row = same_row; same_children = children_same; nexts = goes.nexts; new_ids = goes.new_ids }

pub commit_later : (schema : Schema) (table : TableMap) (commit : Commit) (after : TableMap) (first : ℕ) → Fits schema table → AreUpTo first table → first < commit.moment → IsCourse table schema commit after → IsLater schema table after
commit_later schema table commit after first fits up_to above made = one_later schema table after first commit.moment up_to above (commit_goes schema table commit after fits made) (commit_splits schema table commit after made)

-- no moment is above the commit's
pub commit_up_to : (schema : Schema) (table : TableMap) (commit : Commit) (after : TableMap) (first : ℕ) → AreUpTo first table → first < commit.moment → IsCourse table schema commit after → AreUpTo commit.moment after
commit_up_to schema table commit after first up_to above made m id row is = by_split (commit_splits schema table commit after made (m, id))
  where
    by_split : (row_of table m id ≡ row_of after m id) ⊎ IsMoved schema table after commit.moment (m, id) → row.updated_at ≤ commit.moment
    by_split (inl same) = omega (arith, up_to m id row (same ∙ is), above)
    by_split (inr moved) = omega (arith, moved.itself row is)

-- ---- one after another

pub itself_later : (schema : Schema) (table : TableMap) → IsLater schema table table
itself_later schema table = record {
  moments = λ m id a b was is. let e = same_row_of a b (row_of table m id) was is in subst (λ (r : Row). a.updated_at ≤ r.updated_at) e (omega arith);
  same_row = λ m id a b was is same. refl;
  same_children = λ m id place many a b was is same touches. same_children table table many id (λ child. inl refl);
  nexts = λ m. omega arith;
  new_ids = λ m id lives none. absurd (true≢false (sym lives ∙ ap is_some none));
}

module _ (schema : Schema) (first between last : TableMap) (fits : Fits schema first) (early : IsLater schema first between) (late : IsLater schema between last) where
  -- a record of both has a row between, whose moment lies between
  record Middle (m id : ℕ) (a b : Row) : Type 0 where
    row : Row
    is : row_of between m id ≡ Some row
    above : a.updated_at ≤ row.updated_at
    below : row.updated_at ≤ b.updated_at

  middle : (m id : ℕ) (a b : Row) → row_of first m id ≡ Some a → row_of last m id ≡ Some b → Middle m id a b
  middle m id a b was is = by_row (row_of between m id) refl (records_live_on schema first between last fits early late m id (ap is_some was) (ap is_some is))
    where
      by_row : (o : Option Row) → row_of between m id ≡ o → IsSome (row_of between m id) → Middle m id a b
      by_row None e lives = absurd (true≢false (sym lives ∙ ap is_some e))
      by_row (Some row) e lives = record { row = row; is = e; above = early.moments m id a row was e; below = late.moments m id row b e is }

  both_children : (many : HasMany) (id : ℕ) → HasSameChildren first between many id → HasSameChildren between last many id → HasSameChildren first last many id
  both_children many id a b = record {
    ids = a.ids ∙ b.ids;
    rows = λ child row here names. b.rows child row (a.rows child row here names) names;
  }

  pub then_later : IsLater schema first last
  then_later = record {
    moments = λ m id a b was is. let mid = middle m id a b was is in omega (arith, mid.above, mid.below);
    same_row = λ m id a b was is same.
        let mid = middle m id a b was is in
        early.same_row m id a mid.row was mid.is (omega (arith, mid.above, mid.below, same)) ∙ late.same_row m id mid.row b mid.is is (omega (arith, mid.above, mid.below, same));
    same_children = λ m id place many a b was is same touches.
        let mid = middle m id a b was is in
        both_children many id (early.same_children m id place many a mid.row was mid.is (omega (arith, mid.above, mid.below, same)) touches)
        (late.same_children m id place many mid.row b mid.is is (omega (arith, mid.above, mid.below, same)) touches);
    nexts = λ m. omega (arith, early.nexts m, late.nexts m);
    new_ids = λ m id lives none. by_row m id lives none (row_of between m id) refl;
  }
    where
      by_row : (m id : ℕ) → IsSome (row_of last m id) → row_of first m id ≡ None → (o : Option Row) → row_of between m id ≡ o → next_of first m ≤ id
      by_row m id lives none None is = omega (arith, early.nexts m, late.new_ids m id lives is)
      by_row m id lives none (Some row) is = early.new_ids m id (ap is_some is) none

-- Across a commit a record stays as it is, or it has the commit's moment, and so have its touch parents before and after.
use Rattle.std.proofs.Common.{◌≡◌, ℕ, Bool, true, false, List, refl, sym, ◌∙◌, subst, ◌⊎◌, inl, inr}
use Rattle.doll_schema.specs.declared.model.Schema.{Schema}
use Rattle.doll_journal.specs.declared.change.Commit.{Commit}
use Rattle.doll_table.specs.Tables.{TableMap, row_of}
use Rattle.doll_commit.specs.Refs.{Ref, has}
use Rattle.doll_commit.specs.Commits.{touch_parents, Course, touched_set, stamped}
use Rattle.doll_commit.specs.Moments.{HasMoment}
use Rattle.doll_commit.proofs.Courses.{Keeps, course_keeps, touch_parents_same}
use Rattle.doll_commit.proofs.Moments.{touched_closed, in_touched}
use Rattle.doll_commit.proofs.Stamps.{moment_stamped, row_unstamped, touch_parents_stamped}
use Rattle.doll_past.proofs.Succeeding.{IsCourse}

-- a record has the moment, and so have its touch parents before and after
pub record IsMoved (schema : Schema) (before after : TableMap) (moment : ℕ) (r : Ref) : Type 0 where
  pub itself : HasMoment after moment r
  pub parents_before : (p : Ref) → has (touch_parents before schema r) p ≡ true → HasMoment after moment p
  pub parents_after : (p : Ref) → has (touch_parents after schema r) p ≡ true → HasMoment after moment p

abbrev pub Splits : Schema → TableMap → TableMap → ℕ → Type 0
Splits schema before after moment = (r : Ref) → (row_of before r.0 r.1 ≡ row_of after r.0 r.1) ⊎ IsMoved schema before after moment r

module _ (schema : Schema) (table : TableMap) (course : Course) (keeps : (r : Ref) → Keeps schema table course r) (moment : ℕ) where
  abbrev refs : List Ref
  refs = touched_set schema course

  abbrev last : TableMap
  last = stamped moment course.table refs

  has_moment : (r : Ref) → has refs r ≡ true → HasMoment last moment r
  has_moment r h row is = moment_stamped moment course.table refs r row h is

  first_parent : (r p : Ref) → has refs r ≡ true → has (touch_parents table schema r) p ≡ true → has refs p ≡ true
  first_parent r p t h = by_kept (keeps r)
    where
      by_kept : Keeps schema table course r → has refs p ≡ true
      by_kept (inl same) = (touched_closed schema course).under r p t (subst (λ ps. has ps p ≡ true) (sym (touch_parents_same course.table table schema r same)) h)
      by_kept (inr touched) = in_touched schema course p (touched.parents p h)

  last_parent : (r p : Ref) → has refs r ≡ true → has (touch_parents last schema r) p ≡ true → has refs p ≡ true
  last_parent r p t h = (touched_closed schema course).under r p t (subst (λ ps. has ps p ≡ true) (touch_parents_stamped moment schema course.table refs r) h)

  course_splits : Splits schema table last moment
  course_splits r = by_test (has refs r) refl (keeps r)
    where
      by_test : (b : Bool) → has refs r ≡ b → Keeps schema table course r → (row_of table r.0 r.1 ≡ row_of last r.0 r.1) ⊎ IsMoved schema table last moment r
      by_test true t k =
          inr (record {
            itself = has_moment r t;
            parents_before = λ p h. has_moment p (first_parent r p t h);
            parents_after = λ p h. has_moment p (last_parent r p t h);
          })
      by_test false t (inl same) = inl (sym (row_unstamped moment course.table refs r t ∙ same))
      by_test false t (inr touched) = absurd (let h = in_touched schema course r touched.itself in cc)

pub commit_splits : (schema : Schema) (table : TableMap) (commit : Commit) (after : TableMap) → IsCourse table schema commit after → Splits schema table after commit.moment
commit_splits schema table commit after made =
    subst (λ t. Splits schema table t commit.moment) (sym made.is)
    (course_splits schema table made.course (course_keeps schema table commit.changes made.course made.changes) commit.moment)

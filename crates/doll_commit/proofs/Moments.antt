-- A record that differs across a commit has the commit's moment where it lives, and so have its touch parents.
use Rattle.std.proofs.Common.{◌≡◌, ℕ, Bool, true, false, cond, List, [], Result, Ok, Err, refl, sym, ◌∙◌, subst, ltb, length, inl, inr}
use Rattle.std.specs.Prelude.{Contains}
use Rattle.doll_text.specs.Steps.{◌>>=◌}
use Rattle.doll_schema.specs.declared.model.Schema.{Schema}
use Rattle.doll_journal.specs.declared.change.Commit.{Commit}
use Rattle.doll_table.specs.Tables.{TableMap}
use Rattle.doll_commit.specs.declared.apply.TheConstants.{MOST_CHANGES}
use Rattle.doll_commit.specs.declared.fault.Why.TheVariants as why
use Rattle.doll_commit.specs.declared.fault.CommitFault.{CommitFault}
use Rattle.doll_commit.specs.declared.fault.CommitFault.TheVariants as fault
use Rattle.doll_commit.specs.declared.apply.Applied.{Applied}
use Rattle.doll_commit.specs.Refs.{Ref, has}
use Rattle.doll_commit.specs.Commits.{touch_parents, Course, all_made, touched_set, stamped, commit_of}
use Rattle.doll_commit.specs.Moments.{HasMoment, Differs, CarriesMoment}
use Rattle.doll_commit.specs.declared.walk.Step.TheVariants as step
use Rattle.doll_commit.proofs.Closures.{IsClosed, has_at, closure_begins, closure_closed}
use Rattle.doll_commit.proofs.Walks.{lives_between}
use Rattle.doll_commit.proofs.Stamps.{moment_stamped, row_unstamped, touch_parents_stamped}
use Rattle.doll_commit.proofs.Courses.{Keeps, course_keeps, touch_parents_same}

has_from_contains : (xs : List Ref) (r : Ref) → Contains xs r → has xs r ≡ true
has_from_contains xs r c = subst (λ x. has xs x ≡ true) c.2 (has_at xs c.0 r c.1)

-- the touched set holds the touch parents of its records
pub touched_closed : (schema : Schema) (course : Course) → IsClosed (touch_parents course.table schema) (touched_set schema course)
touched_closed schema course = closure_closed (touch_parents course.table schema) course.table (lives_between step.TouchParents course.table schema) course.touched

pub in_touched : (schema : Schema) (course : Course) (r : Ref) → has course.touched r ≡ true → has (touched_set schema course) r ≡ true
in_touched schema course r h = closure_begins (touch_parents course.table schema) course.table course.touched r h

module _ (schema : Schema) (table : TableMap) (course : Course) (keeps : (r : Ref) → Keeps schema table course r) (moment : ℕ) where
  abbrev refs : List Ref
  refs = touched_set schema course

  abbrev after : TableMap
  after = stamped moment course.table refs

  -- what differs is in the touched set
  differing : (r : Ref) → Differs table after r → has refs r ≡ true
  differing r differs = by_test (has refs r) refl (keeps r)
    where
      by_test : (b : Bool) → has refs r ≡ b → Keeps schema table course r → has refs r ≡ true
      by_test true t k = t
      by_test false t (inl same) = absurd (differs (sym (row_unstamped moment course.table refs r t ∙ same)))
      by_test false t (inr touched) = in_touched schema course r touched.itself

  has_moment : (r : Ref) → has refs r ≡ true → HasMoment after moment r
  has_moment r h row is = moment_stamped moment course.table refs r row h is

  first_parents : (r p : Ref) → Differs table after r → has (touch_parents table schema r) p ≡ true → has refs p ≡ true
  first_parents r p differs h = by_kept (keeps r)
    where
      by_kept : Keeps schema table course r → has refs p ≡ true
      by_kept (inl same) = (touched_closed schema course).under r p (differing r differs) (subst (λ ps. has ps p ≡ true) (sym (touch_parents_same course.table table schema r same)) h)
      by_kept (inr touched) = in_touched schema course p (touched.parents p h)

  last_parents : (r p : Ref) → Differs table after r → has (touch_parents after schema r) p ≡ true → has refs p ≡ true
  last_parents r p differs h =
      (touched_closed schema course).under r p (differing r differs) (subst (λ ps. has ps p ≡ true) (touch_parents_stamped moment schema course.table refs r) h)

  course_carries : CarriesMoment schema table after moment
  course_carries = record {
    itself = λ r differs. has_moment r (differing r differs);
    parents_before = λ r p differs among. has_moment p (first_parents r p differs (has_from_contains (touch_parents table schema r) p among));
    parents_after = λ r p differs among. has_moment p (last_parents r p differs (has_from_contains (touch_parents after schema r) p among));
  }

-- what a commit made: its changes went well, and the touched set got its moment
pub record IsMade (table : TableMap) (schema : Schema) (commit : Commit) (applied : Applied) (course : Course) : Type 0 where
  pub changes : all_made schema 0 (record { table = table; touched = []; ids = [] }) commit.changes ≡ Ok course
  pub applied_is : applied ≡ record { table = stamped commit.moment course.table (touched_set schema course); ids = course.ids }

made_by : (table : TableMap) (schema : Schema) (commit : Commit) (applied : Applied) → commit_of table schema commit ≡ Ok applied → (course : Course) × IsMade table schema commit applied course
made_by table schema commit applied is = by_test (ltb MOST_CHANGES (length commit.changes)) (all_made schema 0 (record { table = table; touched = []; ids = [] }) commit.changes) refl is
  where
    last : Course → Result Applied CommitFault
    last course = Ok (record { table = stamped commit.moment course.table (touched_set schema course); ids = course.ids })

    by_test : (b : Bool) (o : Result Course CommitFault) → all_made schema 0 (record { table = table; touched = []; ids = [] }) commit.changes ≡ o → cond b (Err (fault.Refused MOST_CHANGES why.TooManyChanges)) (o >>= last) ≡ Ok applied → (course : Course) × IsMade table schema commit applied course
    by_test true o at e = absurd (cc e)
    by_test false (Err w) at e = absurd (cc e)
    by_test false (Ok course) at e = (course, record { changes = at; applied_is = cc })

-- a commit carries its moment to each record that differs, and to the touch parents of that, before and after
pub carries : (schema : Schema) (table : TableMap) (commit : Commit) (applied : Applied) → commit_of table schema commit ≡ Ok applied → CarriesMoment schema table applied.table commit.moment
carries schema table commit applied is = by_course (made_by table schema commit applied is)
  where
    by_course : (course : Course) × IsMade table schema commit applied course → CarriesMoment schema table applied.table commit.moment
    by_course w =
        let c = course_carries schema table w.0 (course_keeps schema table commit.changes w.0 w.1.changes) commit.moment in
        subst (λ (a : Applied). CarriesMoment schema table a.table commit.moment) (sym w.1.applied_is) c

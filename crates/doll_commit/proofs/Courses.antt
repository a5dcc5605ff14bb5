-- What changes made in order leave as it was, and what they touch.
use Rattle.std.proofs.Common.{◌≡◌, ℕ, ◌+◌, Bool, true, false, cond, ◌||◌, List, [], ◌∷◌, ◌++◌, length, set, Some, None, Result, Ok, Err, eqb, refl, sym, ◌∙◌, ap, subst, ◌⊎◌, inl, inr}
use Rattle.std.specs.Prelude.{slice_get}
use Rattle.std.specs.List.{flat_map}
use Rattle.std.specs.Option.{option_map_or}
use Rattle.std.specs.FinMap as finite
use Rattle.std.proofs.lemmas.Bool.{cases_lt}
use Rattle.std.proofs.lemmas.Option.{slice_get_past}
use Rattle.doll_text.specs.Steps.{◌>>=◌}
use Rattle.doll_schema.specs.declared.value.Row.{Row}
use Rattle.doll_schema.specs.declared.model.Model.{Model}
use Rattle.doll_schema.specs.declared.model.Schema.{Schema}
use Rattle.doll_journal.specs.declared.change.Change.{Change}
use Rattle.doll_journal.specs.declared.change.Change.TheVariants as change
use Rattle.doll_table.specs.Tables.{Extent, TableMap, row_of, next_of, put_row, put_next, without_rows}
use Rattle.doll_table.proofs.Growing.{row_of_put, row_of_next, row_of_without}
use Rattle.doll_commit.specs.declared.change.TheConstants.{NO_ID}
use Rattle.doll_commit.specs.declared.fault.Why.{Why}
use Rattle.doll_commit.specs.declared.fault.Why.TheVariants as why
use Rattle.doll_commit.specs.Refs.{Ref, is_ref, has, with_refs}
use Rattle.doll_commit.specs.Given.{Given}
use Rattle.doll_commit.specs.Removed.{removed_with, is_restricted}
use Rattle.doll_commit.specs.Changes.{Made, model_of, living_row, created_row, updated_row, create, update, destroy_all, destroy, touch, made}
use Rattle.doll_commit.specs.Commits.{row_touches, touch_parents, touched_at_once, Course, after_change, refused_at, all_made}
use Rattle.doll_commit.proofs.Closures.{has_left, has_right, has_next, with_all_has}

-- a change leaves the rows of the records that it didn't change
pub record Leaves (before : TableMap) (made : Made) : Type 0 where
  pub row : (r : Ref) → has made.changed r ≡ false → row_of made.table r.0 r.1 ≡ row_of before r.0 r.1

abbrev IfMade : TableMap → Result Made Why → Type 0
IfMade table result = (m : Made) → result ≡ Ok m → Leaves table m

made_of : (table : TableMap) (m : Made) → Leaves table m → IfMade table (Ok m)
made_of table m l n is = let e : m ≡ n = cc in subst (λ x. Leaves table x) e l

none_of : (table : TableMap) (w : Why) → IfMade table (Err w)
none_of table w n is = absurd (cc is)

if_made : (table : TableMap) (b : Bool) (w : Why) (y : Result Made Why) → IfMade table y → IfMade table (cond b (Err w) y)
if_made table true w y h = none_of table w
if_made table false w y h = h

then_made : {A : Type 0} (table : TableMap) (r : Result A Why) (f : A → Result Made Why) → ((x : A) → IfMade table (f x)) → IfMade table (r >>= f)
then_made table (Ok x) f h = h x
then_made table (Err w) f h = none_of table w

not_first : (a b : Bool) → (a || b) ≡ false → a ≡ false
not_first true b h = absurd (cc h)
not_first false b h = refl

not_second : (a b : Bool) → (a || b) ≡ false → b ≡ false
not_second true b h = absurd (cc h)
not_second false b h = h

-- the other rows stay where a row is put
put_other : (table : TableMap) (model id : ℕ) (row : Row) (r : Ref) → is_ref r (model, id) ≡ false → row_of (put_row table model id row) r.0 r.1 ≡ row_of table r.0 r.1
put_other table model id row r h = elim (cases_lt model (length table.extents)) [
  | inl l ↦ row_of_put table model id row l r.0 r.1 ∙ ap (λ b. cond b (Some row) (row_of table r.0 r.1)) h
  | inr l ↦ ap (λ o. row_of (record table { extents = option_map_or (λ (x : Extent). set table.extents model (record x { rows = finite.insert x.rows id row })) o table.extents }) r.0 r.1) (slice_get_past table.extents model l)
]

-- and where rows are taken away
without_other : (removed : List Ref) (table : TableMap) (r : Ref) → has removed r ≡ false → row_of (without_rows table removed) r.0 r.1 ≡ row_of table r.0 r.1
without_other [] table r h = refl
without_other (gone ∷ removed) table r h =
    row_of_without (without_rows table removed) gone.0 gone.1 r.0 r.1
    ∙ (ap (λ b. cond b None (row_of (without_rows table removed) r.0 r.1)) (not_first (is_ref r gone) (has removed r) h) ∙ without_other removed table r (not_second (is_ref r gone) (has removed r) h))

create_leaves : (table : TableMap) (schema : Schema) (given : Given) (m : ℕ) → IfMade table (create table schema given m)
create_leaves table schema given m = if_made table (eqb (next_of table m) NO_ID) why.IdsEnded (created_row table schema given m >>= at_row) (then_made table (created_row table schema given m) at_row (λ row. made_of table (new row) (left row)))
  where
    new : Row → Made
    new row = record { table = put_row (put_next table m (next_of table m + 1)) m (next_of table m) row; changed = (m, next_of table m) ∷ []; created = Some (next_of table m) }

    at_row : Row → Result Made Why
    at_row row = Ok (new row)

    left : (row : Row) → Leaves table (new row)
    left row = record { row = λ r h. put_other (put_next table m (next_of table m + 1)) m (next_of table m) row r (not_first (is_ref r (m, next_of table m)) false h) ∙ row_of_next table m (next_of table m + 1) r.0 r.1 }

update_leaves : (table : TableMap) (schema : Schema) (given : Given) (ref : Ref) → IfMade table (update table schema given ref)
update_leaves table schema given ref = then_made table (updated_row table schema given ref) at_row (λ row. made_of table (new row) (left row))
  where
    new : Row → Made
    new row = record { table = put_row table ref.0 ref.1 row; changed = ref ∷ []; created = None }

    at_row : Row → Result Made Why
    at_row row = Ok (new row)

    left : (row : Row) → Leaves table (new row)
    left row = record { row = λ r h. put_other table ref.0 ref.1 row r (not_first (is_ref r ref) false h) }

destroy_leaves : (table : TableMap) (schema : Schema) (ref : Ref) → IfMade table (destroy table schema ref)
destroy_leaves table schema ref = then_made table (living_row table ref) (λ old. destroy_all table schema (removed_with table schema ref)) (λ old. all_leaves (removed_with table schema ref))
  where
    all_leaves : (removed : List Ref) → IfMade table (destroy_all table schema removed)
    all_leaves removed = if_made table (is_restricted table schema removed) why.Restricted (Ok (record { table = without_rows table removed; changed = removed; created = None })) (made_of table (record { table = without_rows table removed; changed = removed; created = None }) (record { row = without_other removed table }))

touch_leaves : (table : TableMap) (ref : Ref) → IfMade table (touch table ref)
touch_leaves table ref = then_made table (living_row table ref) (λ old. Ok (record { table = table; changed = ref ∷ []; created = None })) (λ old. made_of table (record { table = table; changed = ref ∷ []; created = None }) (record { row = λ r h. refl }))

-- each change leaves the rows of the records that it didn't change
pub made_leaves : (table : TableMap) (schema : Schema) (one : Change) (m : Made) → made table schema one ≡ Ok m → Leaves table m
made_leaves table schema (change.Create name given) = then_made table (model_of schema name) (create table schema given) (create_leaves table schema given)
made_leaves table schema (change.Update name id given) = then_made table (model_of schema name) (λ m. update table schema given (m, id)) (λ m. update_leaves table schema given (m, id))
made_leaves table schema (change.Destroy name id) = then_made table (model_of schema name) (λ m. destroy table schema (m, id)) (λ m. destroy_leaves table schema (m, id))
made_leaves table schema (change.Touch name id) = then_made table (model_of schema name) (λ m. touch table (m, id)) (λ m. touch_leaves table (m, id))

-- a record's touch parents are told by its row
pub touch_parents_same : (a b : TableMap) (schema : Schema) (r : Ref) → row_of a r.0 r.1 ≡ row_of b r.0 r.1 → touch_parents a schema r ≡ touch_parents b schema r
touch_parents_same a b schema r e = ap (λ o. option_map_or (λ (m : Model). option_map_or (row_touches m) o []) (slice_get schema.models r.0) []) e

-- a record and its touch parents in a first table are touched
pub record IsTouched (schema : Schema) (table : TableMap) (course : Course) (r : Ref) : Type 0 where
  pub itself : has course.touched r ≡ true
  pub parents : (p : Ref) → has (touch_parents table schema r) p ≡ true → has course.touched p ≡ true

-- a record has its first row still, or it is touched with its first touch parents
abbrev pub Keeps : Schema → TableMap → Course → Ref → Type 0
Keeps schema table course r = (row_of course.table r.0 r.1 ≡ row_of table r.0 r.1) ⊎ IsTouched schema table course r

keeps_more : (schema : Schema) (table : TableMap) (course : Course) (r : Ref) (m : Made) → Leaves course.table m → Keeps schema table course r → Keeps schema table (after_change schema course m) r
keeps_more schema table course r m leaves (inr t) =
    inr (record {
      itself = here r (has_left course.touched (touched_at_once course.table schema m) r t.itself);
      parents = λ p h. here p (has_left course.touched (touched_at_once course.table schema m) p (t.parents p h));
    })
  where
    here : (q : Ref) → has (course.touched ++ touched_at_once course.table schema m) q ≡ true → has (with_refs course.touched (touched_at_once course.table schema m)) q ≡ true
    here q h = with_all_has course.touched (touched_at_once course.table schema m) q ∙ h
keeps_more schema table course r m leaves (inl same) = by_test (has m.changed r) refl
  where
    here : (q : Ref) → has (course.touched ++ touched_at_once course.table schema m) q ≡ true → has (with_refs course.touched (touched_at_once course.table schema m)) q ≡ true
    here q h = with_all_has course.touched (touched_at_once course.table schema m) q ∙ h

    before : List Ref
    before = flat_map (touch_parents course.table schema) m.changed

    after : List Ref
    after = flat_map (touch_parents m.table schema) m.changed

    by_test : (b : Bool) → has m.changed r ≡ b → Keeps schema table (after_change schema course m) r
    by_test false t = inl (leaves.row r t ∙ same)
    by_test true t =
        inr (record {
          itself = here r (has_right course.touched (m.changed ++ before ++ after) r (has_left (m.changed ++ before) after r (has_left m.changed before r t)));
          parents = λ p h.
              here p (has_right course.touched (m.changed ++ before ++ after) p
              (has_left (m.changed ++ before) after p
              (has_right m.changed before p (has_next (touch_parents course.table schema) m.changed r p t (subst (λ ps. has ps p ≡ true) (sym (touch_parents_same course.table table schema r same)) h)))));
        })

keeps_all : (schema : Schema) (table : TableMap) (r : Ref) (changes : List Change) (index : ℕ) (course last : Course) → all_made schema index course changes ≡ Ok last → Keeps schema table course r → Keeps schema table last r
keeps_all schema table r [] index course last is k = let e : course ≡ last = cc in subst (λ c. Keeps schema table c r) e k
keeps_all schema table r (one ∷ more) index course last is k = by_made (made course.table schema one) refl is (λ m. keeps_all schema table r more (index + 1) (after_change schema course m) last)
  where
    by_made : (o : Result Made Why) → made course.table schema one ≡ o → (refused_at index o >>= (λ m. all_made schema (index + 1) (after_change schema course m) more)) ≡ Ok last → ((m : Made) → all_made schema (index + 1) (after_change schema course m) more ≡ Ok last → Keeps schema table (after_change schema course m) r → Keeps schema table last r) → Keeps schema table last r
    by_made (Ok m) at is later = later m is (keeps_more schema table course r m (made_leaves course.table schema one m at) k)
    by_made (Err w) at is later = absurd (cc is)

-- after changes made from the first table on, each record has its first row still, or is touched with its first touch
-- parents
pub course_keeps : (schema : Schema) (table : TableMap) (changes : List Change) (last : Course) → all_made schema 0 (record { table = table; touched = []; ids = [] }) changes ≡ Ok last → (r : Ref) → Keeps schema table last r
course_keeps schema table changes last is r = keeps_all schema table r changes 0 (record { table = table; touched = []; ids = [] }) last is (inl refl)

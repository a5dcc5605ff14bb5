-- What one commit makes of a table: it still fits, the next ids don't fall, and what is new has a new id.
use Rattle.std.proofs.Common.{◌≡◌, ℕ, zero, suc, ◌+◌, ◌<◌, ◌≤◌, Bool, true, false, cond, ◌&&◌, List, [], ◌∷◌, map, length, Option, Some, None, IsSome, is_some, Result, Ok, Err, eqb, ltb, refl, sym, ◌∙◌, ap, subst, arith}
use Rattle.std.specs.Prelude.{slice_get}
use Rattle.std.specs.Option.{option_map_or, option_and_then, ok_or}
use Rattle.std.proofs.lemmas.Bool.{true≢false, and_parts, eqb-true}
use Rattle.std.proofs.lemmas.List.{length-map}
use Rattle.std.proofs.lemmas.Option.{slice_get_within}
use Rattle.doll_text.specs.Steps.{◌>>=◌}
use Rattle.doll_schema.specs.declared.model.Attribute.{Attribute}
use Rattle.doll_schema.specs.declared.model.BelongsTo.{BelongsTo}
use Rattle.doll_schema.specs.declared.model.Model.{Model}
use Rattle.doll_schema.specs.declared.model.Schema.{Schema}
use Rattle.doll_schema.specs.declared.model.Kind.{Kind}
use Rattle.doll_schema.specs.declared.value.Value.{Value}
use Rattle.doll_schema.specs.declared.value.Value.TheVariants as value
use Rattle.doll_schema.specs.declared.value.Row.{Row}
use Rattle.doll_schema.specs.Values.{has_kind}
use Rattle.doll_journal.specs.declared.change.Change.{Change}
use Rattle.doll_journal.specs.declared.change.Change.TheVariants as change
use Rattle.doll_journal.specs.declared.change.Commit.{Commit}
use Rattle.doll_table.specs.Tables.{Extent, TableMap, row_of, next_of, put_row, put_next, without_rows}
use Rattle.doll_table.specs.Fits.{Fits, RowFits}
use Rattle.doll_table.proofs.Growing.{length_stays, row_of_put, next_of_put, row_of_next, next_of_next, put_fits}
use Rattle.doll_commit.specs.declared.apply.Applied.{Applied}
use Rattle.doll_commit.specs.declared.apply.TheConstants.{MOST_CHANGES}
use Rattle.doll_commit.specs.declared.change.TheConstants.{NO_ID}
use Rattle.doll_commit.specs.declared.fault.CommitFault.{CommitFault}
use Rattle.doll_commit.specs.declared.fault.CommitFault.TheVariants as fault
use Rattle.doll_commit.specs.declared.fault.Why.{Why}
use Rattle.doll_commit.specs.declared.fault.Why.TheVariants as why
use Rattle.doll_commit.specs.Refs.{Ref, has}
use Rattle.doll_commit.specs.Given.{Given, given_fault}
use Rattle.doll_commit.specs.Rows.{blank_row, row_after, lacks}
use Rattle.doll_commit.specs.Removed.{removed_with, is_restricted}
use Rattle.doll_commit.specs.Changes.{Made, model_of, living_row, filled, filled_at, created_row, updated_row, create, update, destroy_all, destroy, touch, made}
use Rattle.doll_commit.specs.Commits.{Course, after_change, refused_at, all_made, touched_set, stamped_at, stamped, commit_of}
use Rattle.doll_commit.proofs.Filled.{row_after_fits, create_fits}
use Rattle.doll_commit.proofs.Removing.{row_of_without_rows, next_of_without_rows, without_fits}
use Rattle.doll_commit.proofs.Stamps.{moved, row_of_stamped, stamped_fits, with_moment}

-- a table after another
pub record Goes (schema : Schema) (before after : TableMap) : Type 0 where
  pub fits : Fits schema after
  pub nexts : (m : ℕ) → next_of before m ≤ next_of after m
  pub new_ids : (m i : ℕ) → IsSome (row_of after m i) → row_of before m i ≡ None → next_of before m ≤ i

some_none : (o : Option Row) → IsSome o → o ≡ None → ⊥
some_none o lives none = true≢false (sym lives ∙ ap is_some none)

pub goes_same : (schema : Schema) (table : TableMap) → Fits schema table → Goes schema table table
goes_same schema table fits = record {
  fits = fits;
  nexts = λ m. omega arith;
  new_ids = λ m i lives none. absurd (some_none (row_of table m i) lives none);
}

pub goes_then : (schema : Schema) (first middle last : TableMap) → Goes schema first middle → Goes schema middle last → Goes schema first last
goes_then schema first middle last a b = record {
  fits = b.fits;
  nexts = λ m. omega (arith, a.nexts m, b.nexts m);
  new_ids = λ m i lives none. by_row m i lives none (row_of middle m i) refl;
}
  where
    by_row : (m i : ℕ) → IsSome (row_of last m i) → row_of first m i ≡ None → (o : Option Row) → row_of middle m i ≡ o → next_of first m ≤ i
    by_row m i lives none None is = omega (arith, b.new_ids m i lives is, a.nexts m)
    by_row m i lives none (Some row) is = a.new_ids m i (ap is_some is) none

abbrev IfMade : Schema → TableMap → Result Made Why → Type 0
IfMade schema table result = (m : Made) → result ≡ Ok m → Goes schema table m.table

made_of : (schema : Schema) (table : TableMap) (m : Made) → Goes schema table m.table → IfMade schema table (Ok m)
made_of schema table m l n is = let e : m ≡ n = cc in subst (λ (x : Made). Goes schema table x.table) e l

none_of : (schema : Schema) (table : TableMap) (w : Why) → IfMade schema table (Err w)
none_of schema table w n is = absurd (cc is)

if_made : (schema : Schema) (table : TableMap) (b : Bool) (w : Why) (y : Result Made Why) → (b ≡ false → IfMade schema table y) → IfMade schema table (cond b (Err w) y)
if_made schema table true w y h = none_of schema table w
if_made schema table false w y h = h refl

then_made : {A : Type 0} (schema : Schema) (table : TableMap) (r : Result A Why) (f : A → Result Made Why) → ((x : A) → r ≡ Ok x → IfMade schema table (f x)) → IfMade schema table (r >>= f)
then_made schema table (Ok x) f h = h x refl
then_made schema table (Err w) f h = none_of schema table w

-- ---- rows that fit

same_ok : {A : Type 0} (x y : A) → ◌≡◌ {A = Result A Why} (Ok x) (Ok y) → x ≡ y
same_ok x y e = cc

found_ok : {A : Type 0} (o : Option A) (w : Why) (x : A) → ok_or o w ≡ Ok x → o ≡ Some x
found_ok None w x h = absurd (cc h)
found_ok (Some y) w x h = ap Some (same_ok y x h)

filled_is : (table : TableMap) (model : Model) (given : Given) (old row : Row) → filled table model given old ≡ Ok row → (given_fault table model given ≡ None) × (row_after model given old ≡ row)
filled_is table model given old row is = by_fault (given_fault table model given) refl (lacks model (row_after model given old)) is
  where
    by_fault : (o : Option Why) → given_fault table model given ≡ o → (b : Bool) → option_map_or Err o (cond b (Err why.NullRefused) (Ok (row_after model given old))) ≡ Ok row → (given_fault table model given ≡ None) × (row_after model given old ≡ row)
    by_fault (Some w) e b h = absurd (cc h)
    by_fault None e true h = absurd (cc h)
    by_fault None e false h = (e, same_ok (row_after model given old) row h)

nil_kind : (k : Kind) → has_kind k value.Nil ≡ true
nil_kind k = refl

nil_at : (attributes : List Attribute) (at : ℕ) (v : Value) → slice_get (map (λ (a : Attribute). value.Nil) attributes) at ≡ Some v → v ≡ value.Nil
nil_at [] at v is = absurd (cc is)
nil_at (a ∷ attributes) zero v is = cc
nil_at (a ∷ attributes) (suc at) v is = nil_at attributes at v is

no_key : (parents : List BelongsTo) (at id : ℕ) → option_and_then (λ (k : Option ℕ). k) (slice_get (map (λ (b : BelongsTo). None) parents) at) ≡ Some id → ⊥
no_key [] at id is = absurd (cc is)
no_key (b ∷ parents) zero id is = absurd (cc is)
no_key (b ∷ parents) (suc at) id is = no_key parents at id is

blank_fits : (table : TableMap) (model : Model) → RowFits table model (blank_row model)
blank_fits table model = record {
  as_many_values = length-map model.attributes (λ (a : Attribute). value.Nil);
  kinds = λ at a v here is. subst (λ u. has_kind a.kind u ≡ true) (sym (nil_at model.attributes at v is)) (nil_kind a.kind);
  as_many_parents = length-map model.belongs_to (λ (b : BelongsTo). None);
  parents = λ at b id here is. absurd (no_key model.belongs_to at id is);
}

-- a model's number and a row that fits it
record Suits (schema : Schema) (table : TableMap) (m : ℕ) (row : Row) : Type 0 where
  pub model : Model
  pub here : slice_get schema.models m ≡ Some model
  pub fits : RowFits table model row

filled_suits : (schema : Schema) (table : TableMap) (m : ℕ) (given : Given) (old row : Row) → ((model : Model) → slice_get schema.models m ≡ Some model → RowFits table model old) → filled_at table schema m given old ≡ Ok row → Suits schema table m row
filled_suits schema table m given old row suits is = by_model (slice_get schema.models m) refl is
  where
    by_model : (o : Option Model) → slice_get schema.models m ≡ o → (ok_or o why.UnknownModel >>= λ model. filled table model given old) ≡ Ok row → Suits schema table m row
    by_model None e h = absurd (cc h)
    by_model (Some model) e h =
        let f = filled_is table model given old row h in
        record { model = model; here = e; fits = subst (λ r. RowFits table model r) f.1 (row_after_fits table model given old f.0 (suits model e)) }

created_suits : (schema : Schema) (table : TableMap) (m : ℕ) (given : Given) (row : Row) → created_row table schema given m ≡ Ok row → Suits schema table m row
created_suits schema table m given row is = by_model (slice_get schema.models m) refl is
  where
    by_model : (o : Option Model) → slice_get schema.models m ≡ o → (ok_or o why.UnknownModel >>= λ model. filled table model given (blank_row model)) ≡ Ok row → Suits schema table m row
    by_model None e h = absurd (cc h)
    by_model (Some model) e h =
        let f = filled_is table model given (blank_row model) row h in
        record { model = model; here = e; fits = subst (λ r. RowFits table model r) f.1 (row_after_fits table model given (blank_row model) f.0 (blank_fits table model)) }

-- ---- changes

create_goes : (schema : Schema) (table : TableMap) (given : Given) (m : ℕ) → Fits schema table → IfMade schema table (create table schema given m)
create_goes schema table given m fits =
    if_made schema table (eqb (next_of table m) NO_ID) why.IdsEnded (created_row table schema given m >>= at_row)
    (λ free. then_made schema table (created_row table schema given m) at_row (λ row is. made_of schema table (new row) (goes row (created_suits schema table m given row is))))
  where
    n : ℕ
    n = next_of table m

    raised : TableMap
    raised = put_next table m (n + 1)

    new : Row → Made
    new row = record { table = put_row raised m n row; changed = (m, n) ∷ []; created = Some n }

    at_row : Row → Result Made Why
    at_row row = Ok (new row)

    goes : (row : Row) → Suits schema table m row → Goes schema table (put_row raised m n row)
    goes row suits = record {
      fits = create_fits schema table m suits.model row fits suits.here suits.fits;
      nexts = λ k. subst (λ x. next_of table k ≤ x) (sym (next_of_put raised m n row k ∙ next_of_next table m (n + 1) within k)) (at_next k (eqb k m) refl);
      new_ids = λ k i lives none. at_id k i none (eqb k m && eqb i n) refl (ap is_some (sym (row_of_put raised m n row wide k i ∙ ap (cond (eqb k m && eqb i n) (Some row)) (row_of_next table m (n + 1) k i))) ∙ lives);
    }
      where
        within : m < length table.extents
        within = omega (arith, fits.extents, slice_get_within schema.models m suits.model suits.here)

        wide : m < length raised.extents
        wide = omega (arith, within, length_stays table m (λ (x : Extent). record x { next = n + 1 }))

        at_next : (k : ℕ) (b : Bool) → eqb k m ≡ b → next_of table k ≤ cond b (n + 1) (next_of table k)
        at_next k true t = let e = eqb-true k m t in subst (λ j. next_of table j ≤ n + 1) (sym e) (omega arith)
        at_next k false t = omega arith

        at_id : (k i : ℕ) → row_of table k i ≡ None → (b : Bool) → (eqb k m && eqb i n) ≡ b → is_some (cond b (Some row) (row_of table k i)) ≡ true → next_of table k ≤ i
        at_id k i none true t lives =
            let both = and_parts (eqb k m) (eqb i n) t in
            let e = eqb-true k m both.0 in
            let f = eqb-true i n both.1 in
            let g : next_of table k ≡ n = ap (next_of table) e in
            omega (arith, f, g)
        at_id k i none false t lives = absurd (some_none (row_of table k i) lives none)

update_goes : (schema : Schema) (table : TableMap) (given : Given) (ref : Ref) → Fits schema table → IfMade schema table (update table schema given ref)
update_goes schema table given ref fits = then_made schema table (updated_row table schema given ref) at_row (λ row is. made_of schema table (new row) (by_old row (row_of table ref.0 ref.1) refl is))
  where
    new : Row → Made
    new row = record { table = put_row table ref.0 ref.1 row; changed = ref ∷ []; created = None }

    at_row : Row → Result Made Why
    at_row row = Ok (new row)

    goes : (row old : Row) → row_of table ref.0 ref.1 ≡ Some old → Suits schema table ref.0 row → Goes schema table (put_row table ref.0 ref.1 row)
    goes row old was suits = record {
      fits = let ids = fits.ids ref.0 ref.1 (ap is_some was) in put_fits schema table ref.0 ref.1 suits.model row fits suits.here ids.0 ids.1 suits.fits;
      nexts = λ k. subst (λ x. next_of table k ≤ x) (sym (next_of_put table ref.0 ref.1 row k)) (omega arith);
      new_ids = λ k i lives none. at_id k i none (eqb k ref.0 && eqb i ref.1) refl (ap is_some (sym (row_of_put table ref.0 ref.1 row within k i)) ∙ lives);
    }
      where
        within : ref.0 < length table.extents
        within = omega (arith, fits.extents, slice_get_within schema.models ref.0 suits.model suits.here)

        at_id : (k i : ℕ) → row_of table k i ≡ None → (b : Bool) → (eqb k ref.0 && eqb i ref.1) ≡ b → is_some (cond b (Some row) (row_of table k i)) ≡ true → next_of table k ≤ i
        at_id k i none true t lives =
            let both = and_parts (eqb k ref.0) (eqb i ref.1) t in
            let here : row_of table k i ≡ Some old = ap (λ j. row_of table j i) (eqb-true k ref.0 both.0) ∙ (ap (row_of table ref.0) (eqb-true i ref.1 both.1) ∙ was) in
            absurd (some_none (row_of table k i) (ap is_some here) none)
        at_id k i none false t lives = absurd (some_none (row_of table k i) lives none)

    by_old : (row : Row) (o : Option Row) → row_of table ref.0 ref.1 ≡ o → (ok_or o why.MissingRow >>= λ old. filled_at table schema ref.0 given old) ≡ Ok row → Goes schema table (put_row table ref.0 ref.1 row)
    by_old row None was h = absurd (cc h)
    by_old row (Some old) was h = goes row old was (filled_suits schema table ref.0 given old row (λ model here. fits.rows ref.0 ref.1 model old here was) h)

destroy_goes : (schema : Schema) (table : TableMap) (ref : Ref) → Fits schema table → IfMade schema table (destroy table schema ref)
destroy_goes schema table ref fits = then_made schema table (living_row table ref) (λ old. destroy_all table schema (removed_with table schema ref)) (λ old is. all_goes (removed_with table schema ref))
  where
    all_goes : (removed : List Ref) → IfMade schema table (destroy_all table schema removed)
    all_goes removed =
        if_made schema table (is_restricted table schema removed) why.Restricted (Ok new) (λ free. made_of schema table new (record {
          fits = without_fits schema table removed fits free;
          nexts = λ k. subst (λ x. next_of table k ≤ x) (sym (next_of_without_rows table removed k)) (omega arith);
          new_ids = λ k i lives none. absurd (gone k i none (has removed (k, i)) (ap is_some (sym (row_of_without_rows table removed k i)) ∙ lives));
        }))
      where
        new : Made
        new = record { table = without_rows table removed; changed = removed; created = None }

        gone : (k i : ℕ) → row_of table k i ≡ None → (b : Bool) → is_some (cond b None (row_of table k i)) ≡ true → ⊥
        gone k i none true lives = true≢false (sym lives)
        gone k i none false lives = some_none (row_of table k i) lives none

touch_goes : (schema : Schema) (table : TableMap) (ref : Ref) → Fits schema table → IfMade schema table (touch table ref)
touch_goes schema table ref fits = then_made schema table (living_row table ref) (λ old. Ok new) (λ old is. made_of schema table new (goes_same schema table fits))
  where
    new : Made
    new = record { table = table; changed = ref ∷ []; created = None }

made_goes : (schema : Schema) (table : TableMap) (one : Change) → Fits schema table → IfMade schema table (made table schema one)
made_goes schema table (change.Create name given) fits = then_made schema table (model_of schema name) (create table schema given) (λ m is. create_goes schema table given m fits)
made_goes schema table (change.Update name id given) fits = then_made schema table (model_of schema name) (λ m. update table schema given (m, id)) (λ m is. update_goes schema table given (m, id) fits)
made_goes schema table (change.Destroy name id) fits = then_made schema table (model_of schema name) (λ m. destroy table schema (m, id)) (λ m is. destroy_goes schema table (m, id) fits)
made_goes schema table (change.Touch name id) fits = then_made schema table (model_of schema name) (λ m. touch table (m, id)) (λ m is. touch_goes schema table (m, id) fits)

all_go : (schema : Schema) (first : TableMap) (changes : List Change) (index : ℕ) (course last : Course) → all_made schema index course changes ≡ Ok last → Goes schema first course.table → Goes schema first last.table
all_go schema first [] index course last is g = let e : course ≡ last = cc in subst (λ (c : Course). Goes schema first c.table) e g
all_go schema first (one ∷ more) index course last is g = by_made (made course.table schema one) refl is (λ m. all_go schema first more (index + 1) (after_change schema course m) last)
  where
    by_made : (o : Result Made Why) → made course.table schema one ≡ o → (refused_at index o >>= (λ m. all_made schema (index + 1) (after_change schema course m) more)) ≡ Ok last → ((m : Made) → all_made schema (index + 1) (after_change schema course m) more ≡ Ok last → Goes schema first m.table → Goes schema first last.table) → Goes schema first last.table
    by_made (Ok m) at is later = later m is (goes_then schema first course.table m.table g (made_goes schema course.table one g.fits m at))
    by_made (Err w) at is later = absurd (cc is)

-- ---- a commit

one_next : (moment : ℕ) (table : TableMap) (ref : Ref) (m : ℕ) → next_of (stamped_at moment table ref) m ≡ next_of table m
one_next moment table ref m = by_row (row_of table ref.0 ref.1)
  where
    by_row : (o : Option Row) → next_of (option_map_or (λ (row : Row). put_row table ref.0 ref.1 (with_moment moment row)) o table) m ≡ next_of table m
    by_row None = refl
    by_row (Some row) = next_of_put table ref.0 ref.1 (with_moment moment row) m

next_of_stamped : (moment : ℕ) (table : TableMap) (refs : List Ref) (m : ℕ) → next_of (stamped moment table refs) m ≡ next_of table m
next_of_stamped moment table [] m = refl
next_of_stamped moment table (ref ∷ refs) m = next_of_stamped moment (stamped_at moment table ref) refs m ∙ one_next moment table ref m

stamped_goes : (schema : Schema) (moment : ℕ) (table : TableMap) (refs : List Ref) → Fits schema table → Goes schema table (stamped moment table refs)
stamped_goes schema moment table refs fits = record {
  fits = stamped_fits moment schema table refs fits;
  nexts = λ k. subst (λ x. next_of table k ≤ x) (sym (next_of_stamped moment table refs k)) (omega arith);
  new_ids = λ k i lives none. absurd (stays (has refs (k, i)) (row_of table k i) none (ap is_some (sym (row_of_stamped moment table refs k i)) ∙ lives));
}
  where
    stays : (b : Bool) (o : Option Row) → o ≡ None → is_some (moved moment b o) ≡ true → ⊥
    stays b (Some row) none h = true≢false (ap is_some none)
    stays true None none h = true≢false (sym h)
    stays false None none h = true≢false (sym h)

-- what a commit came to: the course of its changes, and the moment at what they touched
pub record IsCourse (table : TableMap) (schema : Schema) (commit : Commit) (after : TableMap) : Type 0 where
  pub course : Course
  pub changes : all_made schema 0 (record { table = table; touched = []; ids = [] }) commit.changes ≡ Ok course
  pub is : after ≡ stamped commit.moment course.table (touched_set schema course)

pub course_of : (table : TableMap) (schema : Schema) (commit : Commit) (applied : Applied) → commit_of table schema commit ≡ Ok applied → IsCourse table schema commit applied.table
course_of table schema commit applied is = by_test (ltb MOST_CHANGES (length commit.changes)) (all_made schema 0 (record { table = table; touched = []; ids = [] }) commit.changes) refl is
  where
    last : Course → Result Applied CommitFault
    last course = Ok (record { table = stamped commit.moment course.table (touched_set schema course); ids = course.ids })

    same_applied : (x : Applied) → ◌≡◌ {A = Result Applied CommitFault} (Ok x) (Ok applied) → applied ≡ x
    same_applied x e = cc

    by_test : (b : Bool) (o : Result Course CommitFault) → all_made schema 0 (record { table = table; touched = []; ids = [] }) commit.changes ≡ o → cond b (Err (fault.Refused MOST_CHANGES why.TooManyChanges)) (o >>= last) ≡ Ok applied → IsCourse table schema commit applied.table
    by_test true o at e = absurd (cc e)
    by_test false (Err w) at e = absurd (cc e)
    by_test false (Ok course) at e =
        record { course = course; changes = at; is = ap (λ (a : Applied). a.table) (same_applied (record { table = stamped commit.moment course.table (touched_set schema course); ids = course.ids }) e) }

-- a commit's table goes after the one before it
pub commit_goes : (schema : Schema) (table : TableMap) (commit : Commit) (after : TableMap) → Fits schema table → IsCourse table schema commit after → Goes schema table after
commit_goes schema table commit after fits made =
    let on = all_go schema table commit.changes 0 (record { table = table; touched = []; ids = [] }) made.course made.changes (goes_same schema table fits) in
    subst (λ t. Goes schema table t) (sym made.is)
    (goes_then schema table made.course.table (stamped commit.moment made.course.table (touched_set schema made.course)) on (stamped_goes schema commit.moment made.course.table (touched_set schema made.course) on.fits))

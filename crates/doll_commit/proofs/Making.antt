-- A course that goes on by a change.
use Rattle.std.proofs.Common.{◌≡◌, ℕ, zero, suc, ◌+◌, ◌<◌, ◌≤◌, Bool, true, false, cond, List, [], ◌∷◌, ◌++◌, length, Option, Some, None, IsSome, is_some, Result, Ok, Err, eqb, refl, sym, ◌∙◌, ap, subst, arith, ◌⊎◌, inl, inr}
use Rattle.std.specs.Prelude.{slice_get}
use Rattle.std.specs.List.{flat_map}
use Rattle.std.specs.Option.{option_map_or, ok_or, option_to_list}
use Rattle.std.proofs.lemmas.Bool.{true≢false, cases_lt, ne_eqb, or_left, or_right}
use Rattle.std.proofs.lemmas.List.{append-nil}
use Rattle.doll_text.specs.Steps.{◌>>=◌}
use Rattle.doll_schema.specs.declared.value.Row.{Row}
use Rattle.doll_schema.specs.declared.model.Model.{Model}
use Rattle.doll_schema.specs.declared.model.Schema.{Schema}
use Rattle.doll_table.specs.Tables.{TableMap, row_of, next_of, put_row, put_next, without_rows}
use Rattle.doll_table.specs.Fits.{Fits, RowFits}
use Rattle.doll_table.proofs.Beyond.{row_beyond}
use Rattle.doll_table.proofs.Growing.{put_fits}
use Rattle.doll_commit.specs.declared.change.TheConstants.{NO_ID}
use Rattle.doll_commit.specs.declared.fault.Why.{Why}
use Rattle.doll_commit.specs.declared.fault.Why.TheVariants as why
use Rattle.doll_commit.specs.declared.fault.ChangeFault.{ChangeFault}
use Rattle.doll_commit.specs.declared.fault.ChangeFault.TheVariants as fault
use Rattle.doll_commit.specs.Refs.{Ref, is_ref, has, with_ref, with_refs}
use Rattle.doll_commit.specs.Given.{Given}
use Rattle.doll_commit.specs.Removed.{dependents, removed_with, is_restricted}
use Rattle.doll_commit.specs.Changes.{Made, living_row, filled_at, created_row, updated_row, create, update, destroy, destroy_all, touch}
use Rattle.doll_commit.specs.Commits.{Course, row_touches, touch_parents, after_change}
use Rattle.doll_commit.specs.Answers.{Refuses, next_course}
use Rattle.doll_commit.proofs.Gone.{dependents_live}
use Rattle.doll_commit.proofs.Closures.{is_ref_itself, has_one, closure_all}
use Rattle.doll_commit.proofs.Pushes.{with_refs_append}
use Rattle.doll_commit.proofs.Filled.{create_fits}
use Rattle.doll_commit.proofs.Removing.{row_of_without_rows, without_fits}

-- a fault of a step is one of all
pub refuses_then : {A B : Type 0} (r : Result A Why) (f : A → Result B Why) (e : ChangeFault) → Refuses r e → Refuses (r >>= f) e
refuses_then r f fault.Memory h = tt
refuses_then r f (fault.Refused w) h = ap (λ s. s >>= f) h

-- a course goes on by a change that is made
went : (schema : Schema) (before after : Course) (expected : Result Made Why) (m : Made) → expected ≡ Ok m → after_change schema before m ≡ after → next_course schema before expected ≡ Ok after
went schema before after expected m e is = ap (next_course schema before) e ∙ ap Ok is

-- the records noted

noted : (xs changed before after : List Ref) → with_refs xs ((changed ++ before) ++ after) ≡ with_refs (with_refs (with_refs xs changed) before) after
noted xs changed before after = with_refs_append xs (changed ++ before) after ∙ ap (λ ys. with_refs ys after) (with_refs_append xs changed before)

-- one record changed
one_noted : (schema : Schema) (before after : Course) (table : TableMap) (created : Option ℕ) (one : Ref) → after.table ≡ table → after.touched ≡ with_refs (with_refs (with_ref before.touched one) (touch_parents before.table schema one)) (touch_parents table schema one) → after.ids ≡ before.ids ++ option_to_list created
    → after_change schema before (record { table = table; changed = one ∷ []; created = created }) ≡ after
one_noted schema before after table created one is touched ids = λ i. record { table = sym is i; touched = all i; ids = sym ids i }
  where
    first : List Ref
    first = touch_parents before.table schema one

    all : with_refs before.touched (((one ∷ []) ++ flat_map (touch_parents before.table schema) (one ∷ [])) ++ flat_map (touch_parents table schema) (one ∷ [])) ≡ after.touched
    all =
        ap (λ ys. with_refs before.touched (((one ∷ []) ++ ys) ++ flat_map (touch_parents table schema) (one ∷ []))) (append-nil first)
        ∙ (ap (λ ys. with_refs before.touched (((one ∷ []) ++ first) ++ ys)) (append-nil (touch_parents table schema one)) ∙ (noted before.touched (one ∷ []) first (touch_parents table schema one) ∙ sym touched))

-- a creation

cond_at : {A : Type 0} (b : Bool) (x y : A) → b ≡ false → cond b x y ≡ y
cond_at b x y e = ap (λ c. cond c x y) e

created_is : (table : TableMap) (schema : Schema) (given : Given) (m : ℕ) (row : Row) → eqb (next_of table m) NO_ID ≡ false → created_row table schema given m ≡ Ok row
    → create table schema given m ≡ Ok (record { table = put_row (put_next table m (next_of table m + 1)) m (next_of table m) row; changed = (m, next_of table m) ∷ []; created = Some (next_of table m) })
created_is table schema given m row more is =
    cond_at (eqb (next_of table m) NO_ID) (Err why.IdsEnded) (created_row table schema given m >>= made_of) more ∙ ap (λ r. r >>= made_of) is
  where
    made_of : Row → Result Made Why
    made_of x = Ok (record { table = put_row (put_next table m (next_of table m + 1)) m (next_of table m) x; changed = (m, next_of table m) ∷ []; created = Some (next_of table m) })

pub created_went : (schema : Schema) (before after : Course) (given : Given) (m id : ℕ) (row : Row) (t1 t2 t3 : TableMap) (r1 : List Ref) → id ≡ next_of before.table m → (id ≡ NO_ID → ⊥) → created_row before.table schema given m ≡ Ok row → t1 ≡ before.table → t2 ≡ put_next t1 m (id + 1) → t3 ≡ put_row t2 m id row → after.table ≡ t3
    → r1 ≡ with_refs (with_ref before.touched (m, id)) (touch_parents before.table schema (m, id)) → after.touched ≡ with_refs r1 (touch_parents t3 schema (m, id)) → after.ids ≡ before.ids ++ id ∷ [] → next_course schema before (create before.table schema given m) ≡ Ok after
created_went schema before after given m id row t1 t2 t3 r1 next more is e1 e2 e3 e4 n1 n2 ids =
    went schema before after (create before.table schema given m) (record { table = table; changed = (m, next_of before.table m) ∷ []; created = Some (next_of before.table m) })
    (created_is before.table schema given m row (ne_eqb (next_of before.table m) NO_ID (λ e. more (next ∙ e))) is)
    (one_noted schema before after table (Some (next_of before.table m)) (m, next_of before.table m) (e4 ∙ last) touched (ids ∙ ap (λ i. before.ids ++ i ∷ []) next))
  where
    table : TableMap
    table = put_row (put_next before.table m (next_of before.table m + 1)) m (next_of before.table m) row

    last : t3 ≡ table
    last = e3 ∙ (ap (λ t. put_row t m id row) (e2 ∙ ap (λ t. put_next t m (id + 1)) e1) ∙ ap (λ i. put_row (put_next before.table m (i + 1)) m i row) next)

    touched : after.touched ≡ with_refs (with_refs (with_ref before.touched (m, next_of before.table m)) (touch_parents before.table schema (m, next_of before.table m))) (touch_parents table schema (m, next_of before.table m))
    touched = n2 ∙ (ap (λ xs. with_refs xs (touch_parents t3 schema (m, id))) n1 ∙ (ap (λ t. with_refs (with_refs (with_ref before.touched (m, id)) (touch_parents before.table schema (m, id))) (touch_parents t schema (m, id))) last
        ∙ ap (λ i. with_refs (with_refs (with_ref before.touched (m, i)) (touch_parents before.table schema (m, i))) (touch_parents table schema (m, i))) next))

model_within : (models : List Model) (m : ℕ) → m < length models → (x : Model) × (slice_get models m ≡ Some x)
model_within [] m l = absurd (omega arith)
model_within (x ∷ models) zero l = (x, refl)
model_within (x ∷ models) (suc m) l = model_within models m (omega arith)

pub created_fits : (schema : Schema) (table after : TableMap) (m id : ℕ) (row : Row) (t1 t2 t3 : TableMap) → Fits schema table → m < length schema.models → ((model : Model) → slice_get schema.models m ≡ Some model → RowFits table model row) → id ≡ next_of table m → t1 ≡ table → t2 ≡ put_next t1 m (id + 1) → t3 ≡ put_row t2 m id row → after ≡ t3 → Fits schema after
created_fits schema table after m id row t1 t2 t3 fits l suits next e1 e2 e3 e4 =
    let found = model_within schema.models m l in
    subst (λ t. Fits schema t) (sym (e4 ∙ (e3 ∙ (ap (λ t. put_row t m id row) (e2 ∙ ap (λ t. put_next t m (id + 1)) e1) ∙ ap (λ i. put_row (put_next table m (i + 1)) m i row) next))))
    (create_fits schema table m found.0 row fits found.1 (suits found.0 found.1))

-- an update

updated_is : (table : TableMap) (schema : Schema) (given : Given) (one : Ref) (row : Row) → updated_row table schema given one ≡ Ok row → update table schema given one ≡ Ok (record { table = put_row table one.0 one.1 row; changed = one ∷ []; created = None })
updated_is table schema given one row is = ap (λ r. r >>= made_of) is
  where
    made_of : Row → Result Made Why
    made_of x = Ok (record { table = put_row table one.0 one.1 x; changed = one ∷ []; created = None })

pub updated_went : (schema : Schema) (before after : Course) (given : Given) (one : Ref) (row : Row) (t1 t2 : TableMap) (r1 : List Ref) → updated_row before.table schema given one ≡ Ok row → t1 ≡ before.table → t2 ≡ put_row t1 one.0 one.1 row → after.table ≡ t2 → r1 ≡ with_refs (with_ref before.touched one) (touch_parents before.table schema one) → after.touched ≡ with_refs r1 (touch_parents t2 schema one)
    → after.ids ≡ before.ids → next_course schema before (update before.table schema given one) ≡ Ok after
updated_went schema before after given one row t1 t2 r1 is e1 e2 e3 n1 n2 ids =
    went schema before after (update before.table schema given one) (record { table = put_row before.table one.0 one.1 row; changed = one ∷ []; created = None }) (updated_is before.table schema given one row is)
    (one_noted schema before after (put_row before.table one.0 one.1 row) None one (e3 ∙ last)
    (n2 ∙ (ap (λ xs. with_refs xs (touch_parents t2 schema one)) n1 ∙ ap (λ t. with_refs (with_refs (with_ref before.touched one) (touch_parents before.table schema one)) (touch_parents t schema one)) last)) (ids ∙ sym (append-nil before.ids)))
  where
    last : t2 ≡ put_row before.table one.0 one.1 row
    last = e2 ∙ ap (λ t. put_row t one.0 one.1 row) e1

bind_ok : {A B : Type 0} (r : Result A Why) (f : A → Result B Why) (y : B) → (r >>= f) ≡ Ok y → (x : A) × (r ≡ Ok x)
bind_ok (Ok x) f y h = (x, refl)
bind_ok (Err e) f y h = absurd (cc h)

lives_from : (table : TableMap) (one : Ref) (row : Row) → living_row table one ≡ Ok row → IsSome (row_of table one.0 one.1)
lives_from table one row = by_row (row_of table one.0 one.1)
  where
    by_row : (o : Option Row) → ok_or o why.MissingRow ≡ Ok row → IsSome o
    by_row None h = absurd (cc h)
    by_row (Some x) h = refl

pub updated_fits : (schema : Schema) (table after : TableMap) (given : Given) (one : Ref) (row : Row) (t1 t2 : TableMap) → Fits schema table → one.0 < length schema.models → updated_row table schema given one ≡ Ok row → ((model : Model) → slice_get schema.models one.0 ≡ Some model → RowFits table model row) → t1 ≡ table → t2 ≡ put_row t1 one.0 one.1 row → after ≡ t2 → Fits schema after
updated_fits schema table after given one row t1 t2 fits l is suits e1 e2 e3 =
    let found = model_within schema.models one.0 l in
    let old = bind_ok (living_row table one) (λ x. filled_at table schema one.0 given x) row is in
    let ids = fits.ids one.0 one.1 (lives_from table one old.0 old.1) in
    subst (λ t. Fits schema t) (sym (e3 ∙ (e2 ∙ ap (λ t. put_row t one.0 one.1 row) e1))) (put_fits schema table one.0 one.1 found.0 row fits found.1 ids.0 ids.1 (suits found.0 found.1))

-- a touch

living_is : (table : TableMap) (one : Ref) → IsSome (row_of table one.0 one.1) → (row : Row) × (living_row table one ≡ Ok row)
living_is table one = by_row (row_of table one.0 one.1)
  where
    by_row : (o : Option Row) → IsSome o → (row : Row) × (ok_or o why.MissingRow ≡ Ok row)
    by_row None h = absurd (true≢false (sym h))
    by_row (Some x) h = (x, refl)

pub touched_went : (schema : Schema) (before after : Course) (one : Ref) (t1 : TableMap) (r1 : List Ref) → IsSome (row_of before.table one.0 one.1) → t1 ≡ before.table → after.table ≡ t1 → r1 ≡ with_refs (with_ref before.touched one) (touch_parents before.table schema one) → after.touched ≡ with_refs r1 (touch_parents t1 schema one) → after.ids ≡ before.ids → next_course schema before (touch before.table one) ≡ Ok after
touched_went schema before after one t1 r1 lives e1 e2 n1 n2 ids =
    let m : Made = record { table = before.table; changed = one ∷ []; created = None } in
    went schema before after (touch before.table one) m (ap (λ (r : Result Row Why). r >>= λ x. Ok m) (living_is before.table one lives).1)
    (one_noted schema before after before.table None one (e2 ∙ e1) (n2 ∙ (ap (λ xs. with_refs xs (touch_parents t1 schema one)) n1 ∙ ap (λ t. with_refs (with_refs (with_ref before.touched one) (touch_parents before.table schema one)) (touch_parents t schema one)) e1))
    (ids ∙ sym (append-nil before.ids)))

-- a destroy

pub restricted_is : (table : TableMap) (schema : Schema) (one : Ref) (removed : List Ref) → IsSome (row_of table one.0 one.1) → removed ≡ removed_with table schema one → is_restricted table schema removed ≡ true → destroy table schema one ≡ Err why.Restricted
restricted_is table schema one removed lives same held =
    let old = living_is table one lives in
    ap (λ (r : Result Row Why). r >>= λ x. destroy_all table schema (removed_with table schema one)) old.1
    ∙ ap (λ b. cond b (Err why.Restricted) (Ok (let made : Made = record { table = without_rows table (removed_with table schema one); changed = removed_with table schema one; created = None } in made))) (ap (is_restricted table schema) (sym same) ∙ held)

destroyed_is : (table : TableMap) (schema : Schema) (one : Ref) (removed : List Ref) → IsSome (row_of table one.0 one.1) → removed ≡ removed_with table schema one → is_restricted table schema removed ≡ false
    → destroy table schema one ≡ Ok (record { table = without_rows table (removed_with table schema one); changed = removed_with table schema one; created = None })
destroyed_is table schema one removed lives same free =
    let old = living_is table one lives in
    ap (λ (r : Result Row Why). r >>= λ x. destroy_all table schema (removed_with table schema one)) old.1
    ∙ ap (λ b. cond b (Err why.Restricted) (Ok (let made : Made = record { table = without_rows table (removed_with table schema one); changed = removed_with table schema one; created = None } in made))) (ap (is_restricted table schema) (sym same) ∙ free)

-- removed records have no touch parents
no_parents : (table : TableMap) (schema : Schema) (removed : List Ref) (r : Ref) → has removed r ≡ true → touch_parents (without_rows table removed) schema r ≡ []
no_parents table schema removed r gone = by_model (slice_get schema.models r.0)
  where
    none : row_of (without_rows table removed) r.0 r.1 ≡ None
    none = row_of_without_rows table removed r.0 r.1 ∙ ap (λ b. cond b None (row_of table r.0 r.1)) gone

    by_model : (o : Option Model) → option_map_or (λ (m : Model). option_map_or (row_touches m) (row_of (without_rows table removed) r.0 r.1) []) o [] ≡ []
    by_model None = refl
    by_model (Some m) = ap (λ o. option_map_or (row_touches m) o []) none

none_touched : (table : TableMap) (schema : Schema) (removed some : List Ref) → ((r : Ref) → has some r ≡ true → has removed r ≡ true) → flat_map (touch_parents (without_rows table removed) schema) some ≡ []
none_touched table schema removed [] within = refl
none_touched table schema removed (r ∷ some) within =
    ap (λ ys. ys ++ flat_map (touch_parents (without_rows table removed) schema) some) (no_parents table schema removed r (within r (or_left (is_ref r r) (has some r) (is_ref_itself r))))
    ∙ none_touched table schema removed some (λ q h. within q (or_right (is_ref q r) (has some q) h))

pub destroyed_went : (schema : Schema) (before after : Course) (one : Ref) (removed : List Ref) (t1 : TableMap) → IsSome (row_of before.table one.0 one.1) → removed ≡ removed_with before.table schema one → is_restricted before.table schema removed ≡ false → t1 ≡ before.table → after.table ≡ without_rows t1 removed
    → after.touched ≡ with_refs (with_refs before.touched removed) (flat_map (touch_parents before.table schema) removed) → after.ids ≡ before.ids → next_course schema before (destroy before.table schema one) ≡ Ok after
destroyed_went schema before after one removed t1 lives same free e1 e2 n ids =
    went schema before after (destroy before.table schema one) (record { table = without_rows before.table all; changed = all; created = None }) (destroyed_is before.table schema one removed lives same free)
    (λ i. record { table = table i; touched = touched i; ids = (append-nil before.ids ∙ sym ids) i })
  where
    all : List Ref
    all = removed_with before.table schema one

    table : without_rows before.table all ≡ after.table
    table = sym (e2 ∙ (ap (λ t. without_rows t removed) e1 ∙ ap (without_rows before.table) same))

    touched : with_refs before.touched ((all ++ flat_map (touch_parents before.table schema) all) ++ flat_map (touch_parents (without_rows before.table all) schema) all) ≡ after.touched
    touched =
        ap (λ ys. with_refs before.touched ((all ++ flat_map (touch_parents before.table schema) all) ++ ys)) (none_touched before.table schema all all (λ q h. h))
        ∙ (noted before.touched all (flat_map (touch_parents before.table schema) all) [] ∙ (ap (λ xs. with_refs (with_refs before.touched xs) (flat_map (touch_parents before.table schema) xs)) (sym same) ∙ sym n))

pub destroyed_fits : (schema : Schema) (table after : TableMap) (removed : List Ref) (t1 : TableMap) → Fits schema table → is_restricted table schema removed ≡ false → t1 ≡ table → after ≡ without_rows t1 removed → Fits schema after
destroyed_fits schema table after removed t1 fits free e1 e2 = subst (λ t. Fits schema t) (sym (e2 ∙ ap (λ t. without_rows t removed) e1)) (without_fits schema table removed fits free)

-- a row stands in an extent
lives_within : (table : TableMap) (m i : ℕ) → IsSome (row_of table m i) → m < length table.extents
lives_within table m i h = by_order (cases_lt m (length table.extents))
  where
    by_order : (m < length table.extents) ⊎ (length table.extents ≤ m) → m < length table.extents
    by_order (inl l) = l
    by_order (inr past) = absurd (true≢false (sym h ∙ ap is_some (row_beyond table m i past)))

-- what goes with a living record has the number of a model
pub removed_within : (schema : Schema) (table t1 : TableMap) (one : Ref) (removed some : List Ref) → Fits schema table → IsSome (row_of table one.0 one.1) → removed ≡ removed_with table schema one → some ≡ removed → t1 ≡ table → (r : Ref) → has some r ≡ true → r.0 < length t1.schema.models
removed_within schema table t1 one removed some fits lives same e e1 r h =
    subst (λ (t : TableMap). r.0 < length t.schema.models) (sym e1)
    (subst (λ (s : Schema). r.0 < length s.models) (sym fits.same) (subst (λ n. r.0 < n) fits.extents (lives_within table r.0 r.1 (all_live r (ap (λ xs. has xs r) (sym (e ∙ same)) ∙ h)))))
  where
    first : (r : Ref) → has (one ∷ []) r ≡ true → IsSome (row_of table r.0 r.1)
    first r h = subst (λ (p : Ref). IsSome (row_of table p.0 p.1)) (has_one one r h) lives

    all_live : (r : Ref) → has (removed_with table schema one) r ≡ true → IsSome (row_of table r.0 r.1)
    all_live = closure_all (λ (p : Ref). IsSome (row_of table p.0 p.1)) (dependents table schema) table (one ∷ []) first (λ x p h. dependents_live table schema x p h)

-- What holds of schemas and sets that were read.
use Rattle.std.proofs.Common.{◌≡◌, ℕ, zero, suc, Bool, true, false, cond, ◌||◌, not, List, [], ◌∷◌, ◌++◌, length, map, Option, None, Some, Result, Ok, Err, ◌⊎◌, inl, inr, ⊎_elim, refl, sym, ap, subst, ◌∙◌}
use Rattle.std.specs.Prelude.{codes, nat_lt, option_and_then, slice_get}
use Rattle.std.specs.List.{AllByRecursion}
use Rattle.std.specs.Option.{ok_or}
use Rattle.std.specs.Str.{bytes_eq}
use Rattle.std.proofs.lemmas.List.{append-nil, append_assoc, map-append}
use Rattle.std.proofs.lemmas.Slice.Eq.{bytes_eq-Decides}
use Rattle.serde_json.specs.Data.{Data, Items, no_items, item}
use Rattle.doll_text.specs.Names.{is_name}
use Rattle.doll_text.specs.Steps.{◌>>=◌, ◌>>◌, check}
use Rattle.doll_schema.specs.declared.draft.ModelDraft.{ModelDraft}
use Rattle.doll_schema.specs.declared.fault.Place.{Place}
use Rattle.doll_schema.specs.declared.fault.SchemaFault.TheVariants.{BadForm, DuplicateName, TooMany}
use Rattle.doll_schema.specs.declared.fault.Part.TheVariants as parts
use Rattle.doll_schema.specs.declared.limits.TheConstants.{MOST_MODELS}
use Rattle.doll_schema.specs.declared.model.Model.{Model}
use Rattle.doll_schema.specs.declared.model.Schema.{Schema}
use Rattle.doll_schema.specs.Drafts.{attributes_of, drafts_of, has_model_keys, is_model, is_plural, model_draft, model_items, model_with, models_from, name_at, own_name, parents_of, manys_of, place}
use Rattle.doll_schema.specs.Json.{text_at}
use Rattle.doll_schema.specs.Schemas.{belongs_to_from, has_many_from, linked_from, linked_model, schema_of}
use Rattle.doll_sound.specs.Sites.{HasDistinctPlurals, SchemasHavePlurals}

-- ---- steps

pub bound : {A B F : Type 0} (r : Result A F) (next : A → Result B F) (b : B) → (r >>= next) ≡ Ok b → (a : A) × (r ≡ Ok a) × (next a ≡ Ok b)
bound (Ok a) next b e = (a, refl, e)
bound (Err f) next b e = absurd (cc e)

pub passed : {A B F : Type 0} (r : Result A F) (next : Result B F) (b : B) → (r >> next) ≡ Ok b → (a : A) × (r ≡ Ok a) × (next ≡ Ok b)
passed (Ok a) next b e = (a, refl, e)
passed (Err f) next b e = absurd (cc e)

held : {F : Type 0} (t : Bool) (fault : F) → check t fault ≡ Ok tt → t ≡ true
held true fault e = refl
held false fault e = absurd (cc e)

pub there : {A F : Type 0} (o : Option A) (fault : F) (a : A) → ok_or o fault ≡ Ok a → o ≡ Some a
there (Some x) fault a e = cc
there None fault a e = absurd (cc e)

-- ---- plurals

-- texts of which no two are equal
abbrev AreDistinct : List (List ℕ) → Type 0
AreDistinct texts = (m n : ℕ) (a : List ℕ) → slice_get texts m ≡ Some a → slice_get texts n ≡ Some a → m ≡ n

-- what stands in a list with one more
pushed : (texts : List (List ℕ)) (x : List ℕ) (m : ℕ) (a : List ℕ) → slice_get (texts ++ x ∷ []) m ≡ Some a → (slice_get texts m ≡ Some a) ⊎ ((m ≡ length texts) × (x ≡ a))
pushed [] x zero a e = inr (refl, cc)
pushed [] x (suc m) a e = absurd (cc e)
pushed (t ∷ texts) x zero a e = inl e
pushed (t ∷ texts) x (suc m) a e = ⊎_elim (λ h. inl h) (λ h. inr (ap suc h.0, h.1)) (pushed texts x m a e)

distinct_pushed : (texts : List (List ℕ)) (x : List ℕ) → AreDistinct texts → ((k : ℕ) → slice_get texts k ≡ Some x → ⊥) → AreDistinct (texts ++ x ∷ [])
distinct_pushed texts x distinct new m n a at_m at_n =
    ⊎_elim
    (λ h. ⊎_elim (λ k. distinct m n a h k) (λ k. absurd (new m (h ∙ ap Some (sym k.1)))) (pushed texts x n a at_n))
    (λ h. ⊎_elim (λ k. absurd (new n (k ∙ ap Some (sym h.1)))) (λ k. h.0 ∙ sym k.0) (pushed texts x n a at_n))
    (pushed texts x m a at_m)

abbrev plurals : List ModelDraft → List (List ℕ)
plurals drafts = map (λ (m : ModelDraft). m.plural) drafts

-- a plural that no earlier draft has
is_new : (drafts : List ModelDraft) (name : List ℕ) → is_plural drafts name ≡ false → (k : ℕ) → slice_get (plurals drafts) k ≡ Some name → ⊥
is_new [] name none k e = absurd (cc e)
is_new (d ∷ drafts) name none k e = by (λ none k e. is_new drafts name none k e) (bytes_eq name d.plural) refl k none e
  where
    by : (is_plural drafts name ≡ false → (k : ℕ) → slice_get (plurals drafts) k ≡ Some name → ⊥) → (b : Bool) → bytes_eq name d.plural ≡ b → (k : ℕ) → (b || is_plural drafts name) ≡ false → slice_get (plurals (d ∷ drafts)) k ≡ Some name → ⊥
    by rest true same k none e = absurd (cc none)
    by rest false other zero none e = let is : d.plural ≡ name = cc in absurd (cc (sym other ∙ (bytes_eq-Decides name d.plural).1 (sym is)))
    by rest false other (suc k) none e = rest none k e

-- a name under a key
named : (key : List ℕ) (d : Data) (name : List ℕ) → name_at key d ≡ Some name → is_name name ≡ true
named key d name e = by (text_at key d) e
  where
    by : (o : Option (List ℕ)) → option_and_then (λ text. cond (is_name text) (Some text) None) o ≡ Some name → is_name name ≡ true
    by None e = absurd (cc e)
    by (Some text) e = tested (is_name text) refl e
      where
        tested : (b : Bool) → is_name text ≡ b → cond b (Some text) None ≡ Some name → is_name name ≡ true
        tested true is e = let same : text ≡ name = cc in ap is_name (sym same) ∙ is
        tested false is e = absurd (cc e)

negated : (b : Bool) → not b ≡ true → b ≡ false
negated true e = absurd (cc e)
negated false e = refl

-- a draft's own name is a name, and new
own : (at : Place) (key : List ℕ) (stands : List ℕ → Bool) (d : Data) (name : List ℕ) → own_name at key stands d ≡ Ok name → (is_name name ≡ true) × (stands name ≡ false)
own at key stands d name e =
    let found = bound (ok_or (name_at key d) (BadForm at)) _ name e in
    let tested = passed (check (not (stands found.0)) (DuplicateName at)) (Ok found.0) name found.2 in
    let same : found.0 ≡ name = cc tested.2 in (
      subst (λ n. is_name n ≡ true) same (named key d found.0 (there (name_at key d) (BadForm at) found.0 found.1)),
      subst (λ n. stands n ≡ false) same (negated (stands found.0) (held (not (stands found.0)) (DuplicateName at) tested.1)),
    )

-- ---- drafts

-- the plurals of drafts are names, each once
record AreNamed (drafts : List ModelDraft) : Type 0 where
  distinct : AreDistinct (plurals drafts)
  names : AllByRecursion (λ name. is_name name ≡ true) (plurals drafts)

all_pushed : {X : Type 0} (P : X → Type 0) (xs : List X) (x : X) → AllByRecursion P xs → P x → AllByRecursion P (xs ++ x ∷ [])
all_pushed P [] x all here = (here, tt)
all_pushed P (y ∷ xs) x all here = (all.0, all_pushed P xs x all.1 here)

-- a model by its parts has the plural that it was given
given_plural : (model : ℕ) (name plural : List ℕ) (d : Data) (draft : ModelDraft) → model_with model name plural d ≡ Ok draft → draft.plural ≡ plural
given_plural model name plural d draft e =
    let attributes = bound (attributes_of model d) _ draft e in
    let parents = bound (parents_of model attributes.0 d) _ draft attributes.2 in
    let manys = bound (manys_of model attributes.0 parents.0 d) _ draft parents.2 in
    cc manys.2

one_named : (earlier : List ModelDraft) (d : Data) (draft : ModelDraft) → model_draft earlier d ≡ Ok draft → (is_name draft.plural ≡ true) × (is_plural earlier draft.plural ≡ false)
one_named earlier d draft e =
    let keys = passed (check (has_model_keys d) (BadForm (place (length earlier) parts.Whole 0))) _ draft e in
    let few = passed (check (nat_lt (length earlier) MOST_MODELS) (TooMany (place (length earlier) parts.Whole 0))) _ draft keys.2 in
    let name = bound (own_name (place (length earlier) parts.Name 0) (codes "name") (is_model earlier) d) _ draft few.2 in
    let plural = bound (own_name (place (length earlier) parts.Plural 0) (codes "plural") (is_plural earlier) d) _ draft name.2 in
    let is = own (place (length earlier) parts.Plural 0) (codes "plural") (is_plural earlier) d plural.0 plural.1 in
    let same = given_plural (length earlier) name.0 plural.0 d draft plural.2 in
    (subst (λ n. is_name n ≡ true) (sym same) is.0, subst (λ n. is_plural earlier n ≡ false) (sym same) is.1)

pushed_named : (earlier : List ModelDraft) (draft : ModelDraft) → AreNamed earlier → (is_name draft.plural ≡ true) × (is_plural earlier draft.plural ≡ false) → AreNamed (earlier ++ draft ∷ [])
pushed_named earlier draft are is =
    let whole = sym (map-append (λ (m : ModelDraft). m.plural) earlier (draft ∷ [])) in
    record {
      distinct = subst AreDistinct whole (distinct_pushed (plurals earlier) draft.plural are.distinct (is_new earlier draft.plural is.1));
      names = subst (AllByRecursion (λ name. is_name name ≡ true)) whole (all_pushed (λ name. is_name name ≡ true) (plurals earlier) draft.plural are.names is.0);
    }

drafts_named : (earlier : List ModelDraft) (ds : Items) (drafts : List ModelDraft) → models_from earlier ds ≡ Ok drafts → AreNamed earlier → AreNamed drafts
drafts_named earlier no_items drafts e are = let same : earlier ≡ drafts = cc e in subst AreNamed same are
drafts_named earlier (item d ds) drafts e are =
    let one = bound (model_draft earlier d) _ drafts e in
    drafts_named (earlier ++ one.0 ∷ []) ds drafts one.2 (pushed_named earlier one.0 are (one_named earlier d one.0 one.1))

-- ---- models

abbrev model_plurals : List Model → List (List ℕ)
model_plurals models = map (λ (m : Model). m.plural) models

linked_plural : (models : List ModelDraft) (n : ℕ) (draft : ModelDraft) (model : Model) → linked_model models n draft ≡ Ok model → model.plural ≡ draft.plural
linked_plural models n draft model e =
    let parents = bound (belongs_to_from models n [] draft.belongs_to) _ model e in
    let manys = bound (has_many_from models n draft.name [] draft.has_many) _ model parents.2 in
    cc manys.2

pub linked_plurals : (all : List ModelDraft) (earlier : List Model) (drafts : List ModelDraft) (models : List Model) → linked_from all earlier drafts ≡ Ok models → model_plurals models ≡ model_plurals earlier ++ plurals drafts
linked_plurals all earlier [] models e = let same : earlier ≡ models = cc e in ap model_plurals (sym same) ∙ sym (append-nil (model_plurals earlier))
linked_plurals all earlier (draft ∷ drafts) models e =
    let one = bound (linked_model all (length earlier) draft) _ models e in
    linked_plurals all (earlier ++ one.0 ∷ []) drafts models one.2
    ∙ ap (λ first. first ++ plurals drafts) (map-append (λ (m : Model). m.plural) earlier (one.0 ∷ []))
    ∙ append_assoc (model_plurals earlier) (one.0.plural ∷ []) (plurals drafts)
    ∙ ap (λ p. model_plurals earlier ++ p ∷ plurals drafts) (linked_plural all (length earlier) draft one.0 one.1)

plural_there : (models : List Model) (m : ℕ) (one : Model) → slice_get models m ≡ Some one → slice_get (model_plurals models) m ≡ Some one.plural
plural_there [] m one e = absurd (cc e)
plural_there (x ∷ models) zero one e = let same : x ≡ one = cc in ap (λ (m : Model). Some m.plural) same
plural_there (x ∷ models) (suc m) one e = plural_there models m one e

all_there : {X : Type 0} (P : X → Type 0) (xs : List X) (m : ℕ) (x : X) → AllByRecursion P xs → slice_get xs m ≡ Some x → P x
all_there P [] m x all e = absurd (cc e)
all_there P (y ∷ xs) zero x all e = let same : y ≡ x = cc in subst P same all.0
all_there P (y ∷ xs) (suc m) x all e = all_there P xs m x all.1 e

-- a plural names one model, and is a name
pub plurals_are : (json : Data) (schema : Schema) → schema_of json ≡ Ok schema
    → HasDistinctPlurals schema × ((m : ℕ) (one : Model) → slice_get schema.models m ≡ Some one → is_name one.plural ≡ true)
plurals_are json schema e =
    let drafts = bound (drafts_of json) _ schema e in
    let models = bound (linked_from drafts.0 [] drafts.0) _ schema drafts.2 in
    let is : models.0 ≡ schema.models = cc models.2 in
    let listed = bound (ok_or (model_items json) (BadForm (place 0 parts.Whole 0))) _ drafts.0 drafts.1 in
    let are = drafts_named [] listed.0 drafts.0 listed.2 (record { distinct = λ m n a at_m at_n. absurd (cc at_m); names = tt }) in
    let same : model_plurals schema.models ≡ plurals drafts.0 = ap model_plurals (sym is) ∙ linked_plurals drafts.0 [] drafts.0 models.0 models.1 in (
      λ m n one other at_m at_n plural.
          are.distinct m n one.plural (subst (λ ps. slice_get ps m ≡ Some one.plural) same (plural_there schema.models m one at_m))
          (subst (λ ps. slice_get ps n ≡ Some one.plural) same (plural_there schema.models n other at_n ∙ ap Some (sym plural))),
      λ m one at. all_there (λ name. is_name name ≡ true) (plurals drafts.0) m one.plural are.names (subst (λ ps. slice_get ps m ≡ Some one.plural) same (plural_there schema.models m one at)),
    )

pub schemas_have_plurals : SchemasHavePlurals
schemas_have_plurals json schema e = (plurals_are json schema e).0

-- Sites that were read.
use Rattle.std.proofs.Common.{◌≡◌, ◌≤◌, ◌^◌, length, Result, Ok, Err, IfOk, Option, Some, None, IfSome, sym, subst}
use Rattle.doll_schema.specs.Models.{ModelList}
use Rattle.doll_set.specs.Sets.{ReadSet}
use Rattle.doll_sound.specs.Names.{AreNamed, HasNames, HasPaths}
use Rattle.doll_sound.specs.Sites.{HasDistinctPlurals}
use Rattle.doll_text.specs.Gives.{Gives}
use Rattle.doll_types.specs.Sets.{TypedSet}

pub read_has_paths : {F : Type 0} (memory : F) (expected result : Result ReadSet F) → Gives memory expected result → ((set : ReadSet) → expected ≡ Ok set → HasPaths set) → IfOk result HasPaths
read_has_paths memory expected (Ok set) gives paths = paths set gives
read_has_paths memory expected (Err e) gives paths = tt

pub has_names : (set : ReadSet) (schema : ModelList) (result : Option TypedSet) → HasPaths set → AreNamed schema → IfSome result (λ checked. checked.set ≡ set) → IfSome result (λ checked. checked.schema ≡ schema)
    → IfSome result (λ checked. HasNames checked.set checked.schema)
has_names set schema None paths named same same_schema = tt
has_names set schema (Some checked) paths named same same_schema = record { paths = subst HasPaths (sym same) paths; models = subst AreNamed (sym same_schema) named }

pub has_plurals : (schema : ModelList) (result : Option TypedSet) → HasDistinctPlurals schema → IfSome result (λ checked. checked.schema ≡ schema) → IfSome result (λ checked. HasDistinctPlurals checked.schema)
has_plurals schema None distinct same = tt
has_plurals schema (Some checked) distinct same = subst HasDistinctPlurals (sym same) distinct

pub has_few : (set : ReadSet) (result : Option TypedSet) → length set.templates ≤ 2 ^ 16 → IfSome result (λ checked. checked.set ≡ set) → IfSome result (λ checked. length checked.set.templates ≤ 2 ^ 16)
has_few set None few same = tt
has_few set (Some checked) few same = subst (λ (s : ReadSet). length s.templates ≤ 2 ^ 16) (sym same) few

-- Sites that were read.
use Rattle.std.proofs.Common.{◌≡◌, Result, Ok, Err, IfOk, Option, Some, None, IfSome, refl, ap, sym, subst, ◌∙◌}
use Rattle.doll_schema.specs.Models.{ModelList}
use Rattle.doll_set.specs.Sets.{ReadSet}
use Rattle.doll_sound.specs.Names.{AreNamed, HasNames, HasPaths}
use Rattle.doll_text.specs.Gives.{Gives}
use Rattle.doll_types.specs.Sets.{TypedSet}

pub read_has_paths : {F : Type 0} (memory : F) (expected result : Result ReadSet F) → Gives memory expected result → ((set : ReadSet) → expected ≡ Ok set → HasPaths set) → IfOk result HasPaths
read_has_paths memory expected (Ok set) gives paths = paths set gives
read_has_paths memory expected (Err e) gives paths = tt

pub checked_has_names : (set : ReadSet) (schema : ModelList) (result : Option TypedSet) → HasPaths set → AreNamed schema → IfSome result (λ checked. checked.set ≡ set) → IfSome result (λ checked. checked.schema ≡ schema)
    → IfSome result (λ checked. HasNames checked.set checked.schema)
checked_has_names set schema None paths named same same_schema = tt
checked_has_names set schema (Some checked) paths named same same_schema = record { paths = subst HasPaths (sym same) paths; models = subst AreNamed (sym same_schema) named }

-- What a commit does to moments, apart from how it is made (this project's own).
use Rattle.std.specs.Prelude.{ℕ, ◌≡◌, ◌≢◌, Some, Contains}
use Rattle.doll_schema.specs.declared.model.Schema.{Schema}
use Rattle.doll_schema.specs.declared.value.Row.{Row}
use Rattle.doll_table.specs.Tables.{TableMap, row_of}
use Rattle.doll_commit.specs.Refs.{Ref}
use Rattle.doll_commit.specs.Commits.{touch_parents}

-- a record has this moment, if it lives
abbrev pub HasMoment : TableMap → ℕ → Ref → Type 0
HasMoment table moment ref = (row : Row) → row_of table ref.0 ref.1 ≡ Some row → row.updated_at ≡ moment

-- a record differs in two tables
abbrev pub Differs : TableMap → TableMap → Ref → Type 0
Differs before after ref = row_of before ref.0 ref.1 ≢ row_of after ref.0 ref.1

-- A record that differs across a commit has the commit's moment where it lives, and so has each of its touch parents,
-- before and after, that lives.
pub record CarriesMoment (schema : Schema) (before after : TableMap) (moment : ℕ) : Type 0 where
  pub itself : (ref : Ref) → Differs before after ref → HasMoment after moment ref
  pub parents_before : (ref parent : Ref) → Differs before after ref → Contains (touch_parents before schema ref) parent → HasMoment after moment parent
  pub parents_after : (ref parent : Ref) → Differs before after ref → Contains (touch_parents after schema ref) parent → HasMoment after moment parent

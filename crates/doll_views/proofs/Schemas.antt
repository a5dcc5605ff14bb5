-- Schemas of bundles were read.
use Rattle.std.proofs.Common.{◌≡◌, Result, Ok, Err}
use Rattle.doll_schema.specs.declared.fault.SchemaFault.{SchemaFault}
use Rattle.doll_schema.specs.declared.model.Schema.{Schema}
use Rattle.doll_views.specs.Faults.{or_schema_refusal}

-- the schema of a bundle is what reading it gave
pub schema_was_read : (r : Result Schema SchemaFault) (schema : Schema) → or_schema_refusal r ≡ Ok schema → r ≡ Ok schema
schema_was_read (Ok read) schema is = cc is
schema_was_read (Err why) schema is = absurd (cc is)

use Rattle.serde_json.specs.View.{view}
use Rattle.doll_schema.specs.Schemas.{schema_of}
use Rattle.doll_views.proofs.Schemas.{schema_was_read}
use Rattle.doll_views.proofs.bundle.Bundle.read.Goals as goal

pub returns-clause-read : goal.returns-clause-read
returns-clause-read c =
    let json = view c.in_ok-parts.parts.schema.now in
    record {
      source = json;
      schema_in = schema_was_read (schema_of json) c.in_ok-schema.schema c.in_ok-schema.ensures;
      routes_of = c.in_ok-routes.ensures.fits;
      within = c.in_ok-settings.ensures.bounds;
    }

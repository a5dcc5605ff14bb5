-- What was read of a site is ready for its script to be played.
use Rattle.std.proofs.Common.{◌≡◌, ◌≤◌, ◌+◌, ℕ, Bool, true, false, List, [], ◌∷◌, length, Option, Result, Ok, Err, refl, ap, sym, subst, ◌∙◌, arith}
use Rattle.std.specs.Prelude.{◌^◌, ◌-◌, min, nat_le}
use Rattle.std.specs.List.{fold, prefix_len}
use Rattle.std.specs.declared.hash.RandomState.{RandomState}
use Rattle.std.proofs.lemmas.Bool.Decides.{nat_tests}
use Rattle.std.proofs.lemmas.List.Edits.{length-insert}
use Rattle.std.proofs.lemmas.List.Sums.{prefix_len-le-length}
use Rattle.md5.specs.Md5.{md5}
use Rattle.doll_text.specs.Steps.{check}
use Rattle.doll_base.specs.declared.in_memory.ViewFile.{ViewFile}
use Rattle.doll_digest.specs.Registries.{empty}
use Rattle.doll_set.specs.declared.fault.SetFault.{SetFault}
use Rattle.doll_set.specs.declared.fault.SetFault.TheVariants.{TooMany}
use Rattle.doll_set.specs.declared.limits.TheConstants.{MOST_VIEWS}
use Rattle.doll_set.specs.declared.template.Template.{Template}
use Rattle.doll_set.specs.Digests.{registered}
use Rattle.doll_set.specs.Files.{in_order, put_file, put_template, template_of, templates_from}
use Rattle.doll_set.specs.Order.{isnt_above}
use Rattle.doll_set.specs.Sets.{ReadSet, linked_graph, or_refused, set_of, templates_of}
use Rattle.doll_schema.specs.Models.{ModelList}
use Rattle.doll_sound.proofs.Hashes.{md5_gives_digests}
use Rattle.doll_sound.proofs.Named.{read_has_names}
use Rattle.doll_sound.proofs.Read.{bound, passed, schemas_have_plurals}
use Rattle.doll_types.specs.Sets.{TypedSet}
use Rattle.doll_views.specs.Bundles.{Bundle, Loaded, commits_in, loaded_of, with_files}
use Rattle.doll_views.specs.Files.{files_of}
use Rattle.doll_views.specs.Sets.{or_set_refusal, set_in}
use Rattle.doll_bundle.specs.Commits.{commits_from}
use Rattle.doll_bundle.specs.Scripts.{script_in}
use Rattle.doll_bundle.specs.Sites.{IsServed, Site, site_of}
use Rattle.doll_bundle.specs.declared.site.Site as lent
use Rattle.doll.specs.Stages.{IsReady, WasMade}

-- ---- sets of files

set_made : (files : List ViewFile) (set : ReadSet) → set_in files ≡ Ok set → set_of md5 empty files ≡ Ok set
unfolding set_in
set_made files set is = by (set_of md5 empty files) is
  where
    by : (r : Result ReadSet SetFault) → or_set_refusal files r ≡ Ok set → r ≡ Ok set
    by (Ok other) e = let same : other ≡ set = cc e in ap (λ s. Ok s) same
    by (Err why) e = absurd (cc e)

-- there are so many templates as files
one_more : (templates : List Template) (one : Template) → length (put_template templates one) ≡ length templates + 1
one_more templates one =
    let before = prefix_len (λ (other : Template). isnt_above other.name one.name) templates in
    length-insert templates before one (prefix_len-le-length (λ (other : Template). isnt_above other.name one.name) templates)

all_read : (number : ℕ) (templates : List Template) (files : List ViewFile) (read : List Template) → templates_from number templates files ≡ Ok read → length read ≡ length templates + length files
all_read number templates [] read e =
    let same : templates ≡ read = cc e in
    let long : length templates ≡ length read = ap length same in
    omega (arith, long)
all_read number templates (file ∷ files) read e =
    let one = bound (template_of number templates file) _ read e in
    let rest = all_read (number + 1) (put_template templates one.0) files read one.2 in
    let more = one_more templates one.0 in
    omega (arith, rest, more)

file_more : (files : List ViewFile) (one : ViewFile) → length (put_file files one) ≡ length files + 1
file_more files one =
    let before = prefix_len (λ (other : ViewFile). isnt_above other.name one.name) files in
    length-insert files before one (prefix_len-le-length (λ (other : ViewFile). isnt_above other.name one.name) files)

all_put : (before files : List ViewFile) → length (fold put_file before files) ≡ length before + length files
all_put before [] = omega arith
all_put before (file ∷ files) =
    let rest = all_put (put_file before file) files in
    let more = file_more before file in
    omega (arith, rest, more)

within : (n : ℕ) (fault : SetFault) → check (nat_le n MOST_VIEWS) fault ≡ Ok tt → n ≤ 512
within n fault e = by (nat_le n MOST_VIEWS) refl e
  where
    by : (v : Bool) → nat_le n MOST_VIEWS ≡ v → check v fault ≡ Ok tt → n ≤ 512
    by true is e = grind (arith, nat_tests)
    by false is e = absurd (cc e)

-- a set has no more templates than have a number of two bytes
set_few : (files : List ViewFile) (set : ReadSet) → set_of md5 empty files ≡ Ok set → length set.templates ≤ 2 ^ 16
unfolding set_of
set_few files set e =
    let templates = bound (templates_of files) _ set e in
    let graph = bound (linked_graph templates.0) _ set templates.2 in
    let entered = passed (or_refused (registered md5 empty templates.0 graph.0)) _ set graph.2 in
    let fault = TooMany (min (length files) (2 ^ 32 - 1)) in
    let few = passed (check (nat_le (length files) MOST_VIEWS) fault) _ templates.0 templates.1 in
    let same : templates.0 ≡ set.templates = cc entered.2 in
    let long : length templates.0 ≡ length set.templates = ap length same in
    let read = all_read 0 [] (in_order files) templates.0 few.2 in
    let ordered = all_put [] files in
    let most = within (length files) fault few.1 in
    omega (arith, long, read, ordered, most)

-- ---- what was loaded

pub made_loaded : (bundle : Bundle) (given : List (Option (List ℕ))) (loaded : Loaded) → loaded_of bundle given ≡ Ok loaded → WasMade loaded.set
unfolding loaded_of
made_loaded bundle given loaded is =
    let files = bound (files_of bundle.listing given) (with_files bundle) loaded is in
    let set = bound (set_in files.0) _ loaded files.2 in
    let commits = bound (commits_in bundle.commits) _ loaded set.2 in
    let same : set.0 ≡ loaded.set = cc commits.2 in
    (files.0, set.1 ∙ ap (λ s. Ok s) same)

pub made_site : (loaded : Loaded) (readings : List ℕ) (site : Site) → site_of loaded readings ≡ Ok site → WasMade loaded.set → WasMade site.set
made_site loaded readings site is made =
    let history = bound (commits_from loaded.schema [] readings loaded.commits) _ site is in
    let script = bound (script_in loaded.script) _ site history.2 in
    let same : loaded.set ≡ site.set = cc script.2 in
    subst WasMade same made

-- ---- sites

pub ready_of : (site : lent.Site) (typed : TypedSet) (keys : RandomState) → IsServed site → WasMade site.set → typed.set ≡ site.set → typed.schema ≡ site.schema → typed.routes ≡ site.routes
    → IsReady typed (record { routes = site.routes; records = site.records; settings = site.settings; script = site.script; keys = keys })
ready_of site typed keys served made sets schemas same =
    let given = set_made made.0 site.set made.1 in
    record {
      routes = sym same;
      schema = served.records ∙ sym schemas;
      keeper = served.keeper;
      settings = served.read.within.shelf;
      lines = served.lines;
      few = subst (λ (set : ReadSet). length set.templates ≤ 2 ^ 16) (sym sets) (set_few made.0 site.set given);
      plurals = rw schemas (schemas_have_plurals served.read.source site.schema served.read.schema_in);
      names = rw (sets, schemas) (read_has_names served.read.source site.schema md5 empty made.0 site.set served.read.schema_in md5_gives_digests given);
    }

-- a site with an equal set and schema
pub same_site : (site : Site) (set : ReadSet) (schema : ModelList) → set ≡ site.set → schema ≡ site.schema
    → record { schema = schema; routes = site.routes; set = set; history = site.history; settings = site.settings; script = site.script } ≡ site
same_site site set schema sets schemas =
    ap (λ s. record { schema = schema; routes = site.routes; set = s; history = site.history; settings = site.settings; script = site.script }) sets
    ∙ ap (λ s. record { schema = s; routes = site.routes; set = site.set; history = site.history; settings = site.settings; script = site.script }) schemas

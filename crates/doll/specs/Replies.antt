-- What the program answers to its words, its input, the files of a folder and the readings of a clock (this project's own).
use Rattle.std.specs.Prelude.{ℕ, ◌≡◌, ◌≢◌, ◌≤◌, nat_lt, List, [], ◌∷◌, ◌++◌, length, Option, None, Some, Result, Ok, Err, codes, IfSome, if◌then◌else◌}
use Rattle.std.specs.Option.{option_map_or}
use Rattle.std.specs.Fmt.{decimal}
use Rattle.doll_base.specs.Streams.{Appended, AppendedPart}
use Rattle.doll_core.specs.States.{CoreState}
use Rattle.doll_keep.specs.Calls.{IsFaultless}
use Rattle.doll_replay.specs.Reports.{Replays}
use Rattle.doll_replay.specs.declared.playing.Replayed.{Replayed}
use Rattle.doll_replay.specs.declared.playing.Replayed.TheVariants as replayed
use Rattle.doll_script.specs.Scripts.{orders_of}
use Rattle.doll_script.specs.declared.order.Order.{Order}
use Rattle.doll_script.specs.declared.script.ScriptFault.{ScriptFault}
use Rattle.doll_script.specs.declared.script.ScriptFault.TheVariants as script_fault
use Rattle.doll_views.specs.Bundles.{Bundle, Loaded, bundle_of, loaded_of}
use Rattle.doll_views.specs.Digests.{digest_lines}
use Rattle.doll_views.specs.Files.{AsksFirst, IsGiven, wanted_names}
use Rattle.doll_views.specs.Refusals.{refusal_line}
use Rattle.doll_views.specs.declared.refusal.BundlePart.{BundlePart}
use Rattle.doll_views.specs.declared.refusal.Kind.{Kind}
use Rattle.doll_views.specs.declared.refusal.Refusal.{Refusal}
use Rattle.doll_views.specs.declared.refusal.Refusal.TheVariants as refusal
use Rattle.doll_route.specs.declared.route.Route.{Route}
use Rattle.doll_schema.specs.Models.{ModelList}
use Rattle.doll_set.specs.Sets.{ReadSet}
use Rattle.doll_types.specs.declared.fault.TypeFault.{TypeFault}
use Rattle.doll_types.specs.Faults.{AreTypeFaults}
use Rattle.doll_lint.specs.declared.fault.LintFault.{LintFault}
use Rattle.doll_lint.specs.Faults.{AreLintFaults}
use Rattle.doll_faults.specs.Lines.{lint_lines, type_lines}
use Rattle.doll_bundle.specs.Sites.{Site, page_at, readings_needed, site_of}
use Rattle.doll.specs.declared.reply.Reply.{Reply}
use Rattle.doll.specs.declared.reply.TheConstants.{LONGEST_INPUT}
use Rattle.doll.specs.declared.status.Status.{Status}
use Rattle.doll.specs.declared.status.Status.TheVariants as status
use Rattle.doll.specs.Words.{Command, Plain, Lint, Digests, Replay, command_of}

-- a text and a line end
abbrev pub line : List ℕ → List ℕ
line text = text ++ 10 ∷ []

abbrev pub usage : Reply
usage = record { status = status.WrongWords; text = line (codes "usage: doll plain PATH | lint | digests | replay | workload N | serve BUNDLE ADDRESS [JOURNAL]") }

abbrev pub too_long : Reply
too_long = record { status = status.TooLong; text = line (codes "too long 16777216") }

abbrev pub unknown : List ℕ → Reply
unknown path = record { status = status.UnknownPath; text = line (codes "unknown " ++ path) }

abbrev pub refused : BundlePart → ℕ → Kind → Reply
refused part number what = record { status = status.BundleRefused; text = line (refusal_line part number what) }

-- The reply tells a bundle that is refused. A folder's fault and want of memory have no reply.
abbrev pub IsRefusalReply : Refusal → Reply → Type 0
IsRefusalReply (refusal.Refused part number what) reply = reply ≡ refused part number what
IsRefusalReply refusal.TooLong reply = reply ≡ too_long
IsRefusalReply refusal.Failed reply = ⊥
IsRefusalReply refusal.Memory reply = ⊥

-- ---- what is asked of a site

-- the page of a path, where it has one
abbrev pub page_reply : Option (List ℕ) → List ℕ → Reply
page_reply page path = option_map_or (λ text. record { status = status.Done; text = text }) page (unknown path)

-- what tells faults of types
abbrev pub untyped : List TypeFault → Reply
untyped faults = record { status = status.Untyped; text = type_lines faults }

-- the page of a path of a site with these faults of types: they are told where there are any
abbrev pub plain_reply : Site → List ℕ → List TypeFault → Reply
plain_reply site path [] = page_reply (page_at site path) path
plain_reply site path (fault ∷ faults) = untyped (fault ∷ faults)

-- `clean`, or these faults of a lint where there are any
abbrev pub lint_reply : List LintFault → Reply
lint_reply [] = record { status = status.Done; text = line (codes "clean") }
lint_reply (fault ∷ faults) = record { status = status.Unclean; text = lint_lines (fault ∷ faults) }

-- the digests of the templates
abbrev pub digests_reply : Site → Reply
digests_reply site = record { status = status.Done; text = digest_lines site.set }

-- The reply tells exactly the faults of the types of a site's set, where there are any, else it is the page of a path.
abbrev pub IsPlainReply : Site → List ℕ → Reply → Type 0
IsPlainReply site path reply = (faults : List TypeFault) × AreTypeFaults site.set site.schema site.routes faults × (reply ≡ plain_reply site path faults)

-- The reply tells exactly the faults of a set's lint, where there are any, else that it is clean.
abbrev pub IsLinted : ReadSet → ModelList → List Route → Reply → Type 0
IsLinted set schema routes reply = (faults : List LintFault) × AreLintFaults set schema routes faults × (reply ≡ lint_reply faults)

-- The reply tells these faults of types, where there are any, else it is that of the lint.
abbrev pub TellsLint : Site → List TypeFault → Reply → Type 0
TellsLint site [] reply = IsLinted site.set site.schema site.routes reply
TellsLint site (fault ∷ faults) reply = reply ≡ untyped (fault ∷ faults)

-- The reply tells exactly the faults of the types of a site's set, where there are any, else it is that of its lint.
abbrev pub IsLintReply : Site → Reply → Type 0
IsLintReply site reply = (faults : List TypeFault) × AreTypeFaults site.set site.schema site.routes faults × TellsLint site faults reply

-- ---- what a site's script comes to

-- a line of a script that is no order, or at which it stopped
abbrev pub script_refused : ℕ → Reply
script_refused number = record { status = status.ScriptRefused number; text = line (codes "script " ++ decimal number) }

-- the report of a script, or the line at which it stopped
abbrev pub replayed_reply : Replayed → Reply
replayed_reply (replayed.Report text) = record { status = status.Done; text = text }
replayed_reply (replayed.Stopped number) = script_refused number

-- A script begins over a site: its history is that of the bundle's commits, behind a keeper that fails at no call, its shelf has the site's settings and no
-- entries, and no page is being rendered.
pub record BeginsOver (site : Site) (begin : CoreState) : Type 0 where
  pub set : begin.world.checked.set ≡ site.set
  pub schema : begin.world.checked.schema ≡ site.schema
  pub routes : begin.world.checked.routes ≡ site.routes
  pub history : begin.world.records.history ≡ site.history
  pub models : begin.world.records.schema ≡ site.schema
  pub keeper : IsFaultless begin.world.records.keeper.plan
  pub shelf : begin.world.shelf ≡ record { settings = site.settings.shelf; entries = []; writes = 0 }
  pub sessions : (number : ℕ) → begin.sessions number ≡ None

-- The reply tells what these orders come to, from such a beginning. Each page of theirs is the direct rendering over its session's snapshot.
pub record IsPlayed (site : Site) (orders : List Order) (reply : Reply) : Type 0 where
  pub begin : CoreState
  pub end : CoreState
  pub result : Replayed
  pub begins : BeginsOver site begin
  pub replays : Replays begin orders result end
  pub told : reply ≡ replayed_reply result

-- The reply tells what these orders come to, or the first line that is none. No definition answers want of memory.
abbrev pub IsScriptReply : Site → Result (List Order) ScriptFault → Reply → Type 0
IsScriptReply site (Ok orders) reply = IsPlayed site orders reply
IsScriptReply site (Err (script_fault.Line number)) reply = reply ≡ script_refused number
IsScriptReply site (Err script_fault.Memory) reply = ⊥

-- The reply tells these faults of a lint, where there are any, else it is that of the site's script.
abbrev pub TellsScript : Site → List LintFault → Reply → Type 0
TellsScript site [] reply = IsScriptReply site (orders_of site.script) reply
TellsScript site (fault ∷ faults) reply = reply ≡ lint_reply (fault ∷ faults)

-- The reply tells exactly the faults of a site's lint, where there are any, else it is that of its script.
abbrev pub IsLintedReply : Site → Reply → Type 0
IsLintedReply site reply = (faults : List LintFault) × AreLintFaults site.set site.schema site.routes faults × TellsScript site faults reply

-- The reply tells these faults of types, where there are any, else it is that of a site whose templates are typed.
abbrev pub TellsReplay : Site → List TypeFault → Reply → Type 0
TellsReplay site [] reply = IsLintedReply site reply
TellsReplay site (fault ∷ faults) reply = reply ≡ untyped (fault ∷ faults)

-- The reply tells exactly the faults of the types of a site's set, where there are any, else those of its lint, else what its script comes to.
abbrev pub IsReplayReply : Site → Reply → Type 0
IsReplayReply site reply = (faults : List TypeFault) × AreTypeFaults site.set site.schema site.routes faults × TellsReplay site faults reply

-- ---- commands

-- the reply to a command: `digests` asks for no types
abbrev pub IsSiteReply : Command → Site → Reply → Type 0
IsSiteReply (Plain path) site reply = IsPlainReply site path reply
IsSiteReply Lint site reply = IsLintReply site reply
IsSiteReply Digests site reply = reply ≡ digests_reply site
IsSiteReply Replay site reply = IsReplayReply site reply

-- there is one reply to each other command than `replay`, since a set's faults are one list
abbrev pub SitesHaveOneReply : Type 0
SitesHaveOneReply =
    (command : Command) (site : Site) (one other : Reply) → command ≢ Replay → IsSiteReply command site one → IsSiteReply command site other → one ≡ other

-- ---- what is asked of a bundle

-- of its site, if that is made
abbrev pub IsMadeReply : Command → Result Site Refusal → Reply → Type 0
IsMadeReply command (Ok site) reply = IsSiteReply command site reply
IsMadeReply command (Err why) reply = IsRefusalReply why reply

-- of a bundle with its files, where the clock gives these readings
abbrev pub IsLoadedReply : Command → Result Loaded Refusal → List ℕ → Reply → Type 0
IsLoadedReply command (Ok loaded) readings reply = IsMadeReply command (site_of loaded readings) reply
IsLoadedReply command (Err why) readings reply = IsRefusalReply why reply

-- a bundle with its files, where the folder gives these bytes
abbrev pub loaded_in : Result Bundle Refusal → List (Option (List ℕ)) → Result Loaded Refusal
loaded_in (Ok bundle) given = loaded_of bundle given
loaded_in (Err why) given = Err why

-- the names that the folder is asked for, in this order
abbrev pub names_in : Result Bundle Refusal → List (List ℕ)
names_in (Ok bundle) = wanted_names bundle.listing.wanted
names_in (Err why) = []

-- ---- what is asked of an input

-- the bundle that it is, or the refusal of one that is too long
abbrev pub bundle_within : List ℕ → Result Bundle Refusal
bundle_within input = if nat_lt LONGEST_INPUT (length input) then Err refusal.TooLong else bundle_of input

-- the answer to what the words ask for of an input, where the folder gives these bytes and the clock these readings
abbrev pub IsAnswerTo : Option Command → List ℕ → List (Option (List ℕ)) → List ℕ → Reply → Type 0
IsAnswerTo (Some command) input given readings reply = IsLoadedReply command (loaded_in (bundle_within input) given) readings reply
IsAnswerTo None input given readings reply = reply ≡ usage

-- the names that the folder is asked for: those of the bundle, where it comes to its files
abbrev pub names_of : List (List ℕ) → List ℕ → List (List ℕ)
names_of words input = option_map_or (λ command. names_in (bundle_within input)) (command_of words) []

-- how many readings the answer takes: one for each commit of the bundle that says no time, where it comes to its commits
abbrev pub readings_of : List (List ℕ) → List ℕ → List (Option (List ℕ)) → ℕ
readings_of words input given = option_map_or (λ command. readings_needed (loaded_in (bundle_within input) given)) (command_of words) 0

-- ---- what goes into an answer

-- The words, what the source has left, the files of the folder, and the clock's readings before and after.
pub record Asking : Type 0 where
  pub words : List (List ℕ)
  pub left : Option (List ℕ)
  pub files : Option (List (List ℕ × List ℕ))
  pub before : Option (List ℕ)
  pub after : Option (List ℕ)

-- This is the answer to the input that the source had left, to what the folder gave for the names that it was asked for, and
-- to the readings that the clock then gave, where these are told; else it is that of some input, files and readings.
pub record IsReplyTo (asking : Asking) (reply : Reply) : Type 0 where
  pub input : List ℕ
  pub given : List (Option (List ℕ))
  pub readings : List ℕ
  pub told : IfSome asking.left (λ bytes. bytes ≡ input)
  pub gave : IsGiven asking.files (names_of asking.words input) given
  pub taken : Appended asking.before asking.after readings
  pub count : length readings ≡ readings_of asking.words input given
  pub is : IsAnswerTo (command_of asking.words) input given readings reply

-- The clock gave no more readings than the answer takes.
pub record ReadsFor (asking : Asking) : Type 0 where
  pub input : List ℕ
  pub given : List (Option (List ℕ))
  pub readings : List ℕ
  pub told : IfSome asking.left (λ bytes. bytes ≡ input)
  pub gave : IsGiven asking.files (names_of asking.words input) given
  pub taken : Appended asking.before asking.after readings
  pub count : length readings ≤ readings_of asking.words input given

-- The folder was asked for a first part of the names of an input, in turn: of the one that the source had left, where that is told.
pub record AsksFor (words : List (List ℕ)) (left : Option (List ℕ)) (before after : List (List ℕ)) : Type 0 where
  pub input : List ℕ
  pub told : IfSome left (λ bytes. bytes ≡ input)
  pub asks : AsksFirst (names_of words input) before after

-- The status is the reply's, and the sink holds the reply's text behind what it held.
abbrev pub Answers : Asking → Option (List ℕ) → Option (List ℕ) → Status → Type 0
Answers asking before after end = (reply : Reply) × IsReplyTo asking reply × (reply.status ≡ end) × Appended before after reply.text

-- The sink holds a first part of the reply's text behind what it held.
abbrev pub AnswersPart : Asking → Option (List ℕ) → Option (List ℕ) → Type 0
AnswersPart asking before after = (reply : Reply) × IsReplyTo asking reply × AppendedPart before after reply.text
